-- What a choice is, what a world is seen as, and what a choice does to it.
use Rattle.std.specs.Prelude.{◌≡◌, ◌≤◌, Bool, true, false, List, [], ◌∷◌, ◌++◌, length, map, Option, Some, option_map, Result, Ok, Err}
use Rattle.std.specs.List.{list_any}
use Rattle.ej_term.specs.AsmValue.{value, every, has_opaque}
use Rattle.ej_term.specs.Term.{Term}
use Rattle.ej_world.specs.declared.choice.Choice.{Choice}
use Rattle.ej_world.specs.declared.choice.Choice.TheVariants as choice
use Rattle.ej_world.specs.declared.event.Event.{Event}
use Rattle.ej_world.specs.Runs as run
use Rattle.term_heap.specs.declared.heap.Heap.{Heap}
use Rattle.term_heap.specs.View.{Keeps}
use Rattle.proc_sched.specs.declared.fault.ChoiceFault.{ChoiceFault}
use Rattle.proc_sched.specs.declared.fault.ChoiceFault.TheVariants as fault

-- ---- choices

-- what is chosen, where no term of it has an opaque token
abbrev pub chosen : Choice → Option run.Choice
chosen (choice.Start module' name args) = option_map (run.Start module' name) (every (map value args))
chosen (choice.Run number transfers) = Some (run.Run number transfers)
chosen (choice.Deliver from to) = Some (run.Deliver from to)
chosen (choice.Advance ms) = Some (run.Advance ms)
chosen (choice.Input number term) = option_map (run.Input number) (value term)
chosen (choice.Auto rounds) = Some (run.Auto rounds)

-- a term of the choice has an opaque token
abbrev pub is_opaque : Choice → Bool
is_opaque (choice.Start module' name args) = list_any has_opaque args
is_opaque (choice.Input number term) = has_opaque term
is_opaque _ = false

-- the numbers of a choice are in their ranges
abbrev pub InRange : Choice → Type 0
InRange (choice.Start module' name args) = length args ≤ 255
InRange (choice.Run number transfers) = (1 ≤ transfers) × (transfers ≤ 100000)
InRange (choice.Advance ms) = (1 ≤ ms) × (ms ≤ 4294967296)
InRange (choice.Auto rounds) = (1 ≤ rounds) × (rounds ≤ 1000000)
InRange _ = Unit {0}

-- ---- worlds

-- a world is seen as what it would show next
pub record Seen : Type 0 where
  pub heap : Heap
  -- what was seen, but for what was forgotten
  pub events : List (Event Term)
  -- what each script would show from here on
  pub shows : List run.Choice → List (Event Term)
  -- memory was wanting in a choice
  pub spent : Bool

abbrev pub forgotten : Seen → Seen
forgotten w = record { heap = w.heap; events = []; shows = w.shows; spent = w.spent }

-- the choice is made: just what it would show is appended, and from there on each script shows what it would have shown
-- behind that choice
pub record Makes (what : run.Choice) (old new : Seen) : Type 0 where
  pub events : new.events ≡ old.events ++ old.shows (what ∷ [])
  pub shows : (script : List run.Choice) → old.shows (what ∷ script) ≡ old.shows (what ∷ []) ++ new.shows script
  pub keeps : Keeps old.heap new.heap
  pub spent : new.spent ≡ false

-- what a choice answers
abbrev pub Chooses : Choice → (old new : Seen) → Result (Unit {0}) ChoiceFault → Type 0
Chooses c old new (Ok _) = (old.spent ≡ false) × ((what : run.Choice) × (chosen c ≡ Some what) × Makes what old new)
Chooses c old new (Err fault.Opaque) = (old.spent ≡ false) × (is_opaque c ≡ true) × (new ≡ old)
Chooses c old new (Err fault.NoMemory) = new.spent ≡ true

-- ---- scripts

-- the choices of a script are made, one after the other
abbrev pub MakesAll : List run.Choice → (old new : Seen) → Type 0
MakesAll [] old new = new ≡ old
MakesAll (c ∷ cs) old new = (mid : Seen) × Makes c old mid × MakesAll cs mid new
