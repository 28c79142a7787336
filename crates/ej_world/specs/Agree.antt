-- When two codes agree: they do the same from beginnings that are asked for, turn by turn, where they see the same.
use Rattle.std.specs.Prelude.{◌≡◌, ℕ, Bool, true, false, nat_lt, ◌||◌, List, length}
use Rattle.std.specs.List.{AllByRecursion}
use Rattle.ej_term.specs.Term.{Term, Atom, list}
use Rattle.ej_world.specs.declared.effect.Begin.{Begin}
use Rattle.ej_world.specs.declared.effect.Begin.TheVariants as begin
use Rattle.ej_world.specs.Choices.{View, Turned, Code, spawned, status_after}
use Rattle.ej_world.specs.Runs.{Choice, Start}
use Rattle.ej_world.specs.World.{Status, Running, Waiting, Ended, is_due}

-- states of both codes, of a process of that status
abbrev pub Relation : (S T : Type 0) → Type 1
Relation S T = Status → S → T → Type 0

-- states of a process that ended are not looked at
abbrev pub Keeps : {S T : Type 0} → Relation S T → Relation S T
Keeps Related Ended s t = Unit {0}
Keeps Related Running s t = Related Running s t
Keeps Related Waiting s t = Related Waiting s t

-- a process of that status has a turn with that view: it runs, or it waits and is woken
abbrev pub may_turn : Status → View → Bool
may_turn Running v = true
may_turn Waiting v = nat_lt v.save (length v.messages) || is_due v.clock v.timer
may_turn Ended v = false

-- a turn of each does the same, and begins only what is asked for
pub record SameTurn {S T : Type 0} (Related : Relation S T) (Asked : Begin Term → Type 0) (a : Turned S) (b : Turned T) : Type 0 where
  pub events : a.events ≡ b.events
  pub outcome : a.outcome ≡ b.outcome
  pub view : a.view ≡ b.view
  pub asked : AllByRecursion Asked (spawned a.events)
  pub states : Keeps Related (status_after a.outcome) a.state b.state

-- beginnings are related, turns of related states do the same, and related states are as deep
pub record Agree {S T : Type 0} (a : Code S) (b : Code T) (Related : Relation S T) (Asked : Begin Term → Type 0) : Type 0 where
  pub begins : (how : Begin Term) → Asked how → Related Running (a.begin how) (b.begin how)
  pub turns : (transfers : ℕ) (v : View) (status : Status) (s : S) (t : T) → may_turn status v ≡ true → Related status s t
      → SameTurn Related Asked (a.turn transfers v s) (b.turn transfers v t)
  pub depths : (status : Status) (s : S) (t : T) → Related status s t → a.depth s ≡ b.depth t

-- a start, if it is one, is asked for
abbrev pub IsChoice : (Begin Term → Type 0) → Choice → Type 0
IsChoice Asked (Start module' name args) = Asked (begin.Call (Atom module') (Atom name) (list args))
IsChoice Asked _ = Unit {0}

abbrev pub IsScript : (Begin Term → Type 0) → List Choice → Type 0
IsScript Asked script = AllByRecursion (IsChoice Asked) script
