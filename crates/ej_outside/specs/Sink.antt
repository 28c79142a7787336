-- A sink of bytes: what it stands for, and what a write to one answers and leaves.
use Rattle.std.specs.Prelude.{◌≡◌, ℕ, ◌<◌, ◌≤◌, List, ◌++◌, length, take, Option, option_map, Result, Ok, Err}
use Rattle.ej_outside.specs.declared.fault.Failed.{Failed}
use Rattle.ej_outside.specs.Counts.{Same, Rises}

-- a sink: the bytes that it took, where it tells them, and how often a write failed
pub record SinkState : Type 0 where
  pub took : Option (List ℕ)
  pub faults : ℕ

-- it took this many bytes from the front of the piece, and at least one where there is one
pub record Takes (old : SinkState) (piece : List ℕ) (count : ℕ) (new : SinkState) : Type 0 where
  pub within : count ≤ length piece
  pub some : 0 < length piece → 0 < count
  pub took : new.took ≡ option_map (λ taken. taken ++ take count piece) old.took
  pub faults : Same old.faults new.faults

-- it took nothing, and counted that
pub record Refuses (old new : SinkState) : Type 0 where
  pub took : new.took ≡ old.took
  pub faults : Rises old.faults new.faults

-- `write` of a piece
abbrev pub Writes : SinkState → List ℕ → Result ℕ Failed → SinkState → Type 0
Writes old piece (Ok count) new = Takes old piece count new
Writes old piece (Err fault) new = Refuses old new
