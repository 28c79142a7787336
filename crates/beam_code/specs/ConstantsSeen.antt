-- What the constants that the code finds in an instruction stand for.
use Rattle.std.specs.Prelude.{ℕ, List, [], ◌∷◌, map, Option, None, Some}
use Rattle.std.specs.Borrow.{Bor}
use Rattle.std.specs.List.{filter_map}
use Rattle.beam_code.specs.declared.constants.External.{External}
use Rattle.beam_code.specs.declared.constants.MoreSources.{MoreSources}
use Rattle.beam_code.specs.declared.constants.MoreSources.TheVariants as more
use Rattle.beam_code.specs.declared.constants.Numbers.{Numbers}
use Rattle.beam_code.specs.declared.constants.Sources.{Sources}
use Rattle.beam_code.specs.declared.operand.Src.{Src}
use Rattle.beam_code.specs.declared.operand.Src.TheVariants as source
use Rattle.beam_code.specs.FlowSeen.{with_first}
use Rattle.beam_code.specs.Pool.{Ext, both, size_in}

-- the sources behind the first
abbrev pub more_seen : MoreSources → List Src
more_seen (more.Each sources) = sources.now
more_seen (more.One other) = other.now ∷ []
more_seen (more.Atom name) = source.Atom name.now ∷ []
more_seen (more.Pairs pairs) = both pairs.now
more_seen (more.Keys gets) = map (λ g. g.0) gets.now
more_seen (more.Cases cases) = map (λ c. c.0) cases.now

abbrev pub behind_first : Option (Bor Src) → List Src → List Src
behind_first None sources = sources
behind_first (Some first) sources = first.now ∷ sources

abbrev pub sources_seen : Sources → List Src
sources_seen s = behind_first s.first (more_seen s.rest)

abbrev pub numbers_seen : Numbers → List ℕ
numbers_seen n = with_first n.first (filter_map (λ c. size_in c.0) n.cases.now)

abbrev pub externals_seen : Option External → List Ext
externals_seen None = []
externals_seen (Some e) = (e.owner.now, e.name.now, e.arity) ∷ []
