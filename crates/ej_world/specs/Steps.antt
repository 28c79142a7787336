-- A run, taken apart: what happens at once, and what happens one after the other.
use Rattle.std.specs.Prelude.{◌≡◌, ℕ, ◌≤◌, true, List, [], ◌∷◌, ◌++◌, slice_get, Some}
use Rattle.ej_term.specs.Term.{Term}
use Rattle.ej_world.specs.declared.effect.Begin.{Begin}
use Rattle.ej_world.specs.declared.event.Event.{Event}
use Rattle.ej_world.specs.declared.event.Event.TheVariants as event
use Rattle.ej_world.specs.Choices.{Code, System, Happened, view_of, turned, nothing, start, run_process, delivered, at_clock, put_in}
use Rattle.ej_world.specs.Lawful.{IsBegin}
use Rattle.ej_world.specs.Runs.{Choice, choose}
use Rattle.ej_world.specs.World.{Process, limit, is_ready, ready}

-- what happens at once
pub data Step {S : Type 0} (code : Code S) (r : System S) : Happened S → Type 0 where
  Idles : Step code r (nothing r)
  Closes : Step code r (record { events = event.Ready (ready r.world) ∷ []; system = r })
  Starts : (how : Begin Term) (h : Happened S) → IsBegin how → start code r how ≡ Some h → Step code r h
  Turns : (transfers number : ℕ) (h : Happened S) → 1 ≤ transfers → run_process code r transfers number ≡ Some h → Step code r h
  Delivers : (from to : ℕ) (h : Happened S) → delivered r from to ≡ Some h → Step code r h
  Clocks : (clock : ℕ) → clock ≤ limit → Step code r (at_clock r clock)
  Inputs : (number : ℕ) (message : Term) (h : Happened S) → put_in r number message ≡ Some h → Step code r h

-- what happens one after the other, with these events, until the system is that
pub data Reaches {S : Type 0} (code : Code S) : System S → List (Event Term) → System S → Type 0 where
  Here : (r : System S) → Reaches code r [] r
  Then : (r : System S) (h : Happened S) (events : List (Event Term)) (q : System S) → Step code r h → Reaches code h.system events q → Reaches code r (h.events ++ events) q

-- the system behind the choices of a script
abbrev pub end_of : {S : Type 0} → Code S → System S → List Choice → System S
end_of code r [] = r
end_of code r (c ∷ cs) = end_of code (choose code r c).system cs

-- a turn of the process of that number: it is ready, and its turn is of the view that it has of the world
pub record IsTurn {S : Type 0} (code : Code S) (r : System S) (transfers number : ℕ) (h : Happened S) : Type 0 where
  pub process : Process
  pub state : S
  pub at : slice_get r.world.processes number ≡ Some process
  pub has : slice_get r.states number ≡ Some state
  pub ready : is_ready r.world.clock process ≡ true
  pub is : h ≡ turned code r number process (code.turn transfers (view_of r.world number process) state)
