-- What the code's branches stand for.
use Rattle.std.specs.Prelude.{ℕ, List, ◌∷◌, map, Option, None, Some}
use Rattle.beam_code.specs.declared.flow.Branches.{Branches}

abbrev pub with_first : Option ℕ → List ℕ → List ℕ
with_first None labels = labels
with_first (Some label) labels = label ∷ labels

-- the labels, each as often as it is named
abbrev pub branches_seen : Branches → List ℕ
branches_seen b = with_first b.label (map (λ c. c.1) b.cases.now)
