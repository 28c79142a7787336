-- What the first path takes of the whole definitions: a module that they accept is one that it compiles, if it has no
-- other instructions.
use Rattle.std.specs.Prelude.{◌≡◌, ℕ, true, List}
use Rattle.beam_code.specs.declared.module.Module.{Module}
use Rattle.erjang_top.specs.Sources.{IsSource}
use Rattle.erjang_top.specs.first_path.Accepted.{Accepted}
use Rattle.erjang_top.specs.first_path.Ranges.{are_bytes}

-- the module of a source that is accepted, each of whose instructions is read so far, meets the smaller rules too
abbrev pub Bridges : Type 0
Bridges = (bytes : List ℕ) (m : Module) → are_bytes bytes ≡ true → IsSource bytes m → Accepted m
