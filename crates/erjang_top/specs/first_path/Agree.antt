-- When two codes agree: they do the same from beginnings that are asked for, turn by turn.
use Rattle.std.specs.Prelude.{◌≡◌, ℕ, ◌<◌, ◌≤◌, List, [], ◌∷◌, length}
use Rattle.ej_term.specs.Term.{Atom, list}
use Rattle.erjang_top.specs.first_path.World.{Begin, Call, Choice, Start, Run}
use Rattle.erjang_top.specs.first_path.Run.{Outcome, Runs, Waits, Ended, Turned, Code}

-- the state is kept related unless the process ended
abbrev pub Keeps : {S T : Type 0} → (S → T → Type 0) → Outcome → S → T → Type 0
Keeps Related (Ended reason) s t = Unit {0}
Keeps Related Runs s t = Related s t
Keeps Related Waits s t = Related s t

-- one turn of each does the same
pub record SameTurn {S T : Type 0} (Related : S → T → Type 0) (a : Turned S) (b : Turned T) : Type 0 where
  pub events : a.events ≡ b.events
  pub outcome : a.outcome ≡ b.outcome
  pub states : Keeps Related a.outcome a.state b.state

-- beginnings are related, turns of related states are the same, and related states are as deep
pub record Agree {S T : Type 0} (a : Code S) (b : Code T) (Related : S → T → Type 0) (Asked : Begin → Type 0) : Type 0 where
  pub begins : (how : Begin) → Asked how → Related (a.begin how) (b.begin how)
  pub turns : (me transfers : ℕ) (s : S) (t : T) → 0 < transfers → Related s t → SameTurn Related (a.turn me transfers s) (b.turn me transfers t)
  pub depths : (s : S) (t : T) → Related s t → a.depth s ≡ b.depth t

-- a choice whose numbers are in range, and whose start, if it is one, is asked for
abbrev pub IsChoice : (Begin → Type 0) → Choice → Type 0
IsChoice Asked (Start module' name args) = (length args ≤ 255) × Asked (Call (Atom module') (Atom name) (list args))
IsChoice Asked (Run pid transfers) = (0 < transfers) × (transfers ≤ 100000)

abbrev pub IsScript : (Begin → Type 0) → List Choice → Type 0
IsScript Asked [] = Unit {0}
IsScript Asked (c ∷ cs) = IsChoice Asked c × IsScript Asked cs
