-- Runs of scripts, over any code.
use Rattle.std.specs.Prelude.{ℕ, List, [], ◌∷◌, ◌++◌}
use Rattle.ej_term.specs.Term.{Term, Atom, list}
use Rattle.ej_world.specs.declared.effect.Begin.TheVariants as begin
use Rattle.ej_world.specs.declared.event.Event.{Event}
use Rattle.ej_world.specs.Auto.{auto}
use Rattle.ej_world.specs.Choices.{Code, System, Happened, closed, or_nothing, start, run_process, delivered, advanced, put_in}
use Rattle.ej_world.specs.World.{empty}

-- what is chosen to happen next; processes by their numbers
pub data Choice : Type 0 where
  -- the next process begins by a call of that function of that module
  Start : (module' name : List ℕ) (args : List Term) → Choice
  -- a turn, if the process is ready
  Run : (number transfers : ℕ) → Choice
  -- the first signal from one process to another
  Deliver : (from to : ℕ) → Choice
  -- the clock, by so many milliseconds
  Advance : (ms : ℕ) → Choice
  -- a message for the mailbox of a live process
  Input : (number : ℕ) (message : Term) → Choice
  -- at most so many rounds
  Auto : (rounds : ℕ) → Choice

-- what a choice does; each but `Auto`, whose parts are closed one by one, is closed by the ready processes
abbrev pub choose : {S : Type 0} → Code S → System S → Choice → Happened S
choose code r (Start module' name args) = closed (or_nothing r (start code r (begin.Call (Atom module') (Atom name) (list args))))
choose code r (Run number transfers) = closed (or_nothing r (run_process code r transfers number))
choose code r (Deliver from to) = closed (or_nothing r (delivered r from to))
choose code r (Advance ms) = closed (advanced r ms)
choose code r (Input number message) = closed (or_nothing r (put_in r number message))
choose code r (Auto rounds) = auto code rounds r

-- the events of choices one after the other
abbrev pub run_from : {S : Type 0} → Code S → System S → List Choice → List (Event Term)
run_from code r [] = []
run_from code r (c ∷ cs) = let h = choose code r c in h.events ++ run_from code h.system cs

-- the events of a script, from the empty world
abbrev pub run : {S : Type 0} → Code S → List Choice → List (Event Term)
run code script = run_from code (record { world = empty; states = [] }) script
