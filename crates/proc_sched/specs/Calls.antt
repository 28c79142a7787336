-- What a code's calls are asked and what they answer, over what its states stand for under a heap.
use Rattle.std.specs.Prelude.{◌≡◌, ℕ, ◌≤◌, true, List, ◌++◌}
use Rattle.ej_world.specs.declared.effect.Begin.{Begin}
use Rattle.ej_world.specs.declared.event.Event.{Event}
use Rattle.ej_world.specs.Agree.{may_turn}
use Rattle.ej_world.specs.Choices.{Code, Turned}
use Rattle.ej_world.specs.Lawful.{States, MeetsView, IsBegin}
use Rattle.ej_world.specs.World.{Status}
use Rattle.term_heap.specs.declared.cell.TermId.{TermId}
use Rattle.term_heap.specs.declared.heap.Heap.{Heap}
use Rattle.term_heap.specs.View.{Keeps}
use Rattle.proc_sched.specs.declared.view.View.{View}
use Rattle.proc_sched.specs.declared.view.Outcome.{Outcome}
use Rattle.proc_sched.specs.declared.view.Outcome.TheVariants as outcome
use Rattle.proc_sched.specs.Seen.{begin_of, HoldsBegin, events_of, view_of, HoldsView, outcome_of, HoldsOutcome}

-- ---- beginnings

-- a call is of two atoms, with a proper list of at most 255 elements
pub record MayBegin (heap : Heap) (how : Begin TermId) : Type 0 where
  pub held : HoldsBegin heap how
  pub is_begin : IsBegin (begin_of heap how)

-- the state is one of the heap, and stands for the one with which the code begins
pub record Begins {State S : Type 0} (Holds' : State → Type 0) (means : State → S) (code : Code S) (heap : Heap) (how : Begin TermId) (state : State) : Type 0 where
  pub held : Holds' state
  pub is : means state ≡ code.begin (begin_of heap how)

-- ---- turns

-- which states are of a heap, and what they stand for
abbrev pub Held : Type 0 → Type 1
Held State = Heap → State → Type 0

abbrev pub Meant : (State S : Type 0) → Type 0
Meant State S = Heap → State → S

-- the process runs, or waits and is woken, and may have that state
pub record MayTurn {State S : Type 0} (Holds' : Held State) (means : Meant State S) (IsState : States S) (heap : Heap) (state : State) (v : View) (transfers : ℕ) : Type 0 where
  pub transfers' : 1 ≤ transfers
  pub held : Holds' heap state
  pub view : HoldsView heap v
  pub meets : MeetsView (view_of heap v)
  pub status : Status
  pub turns : may_turn status (view_of heap v) ≡ true
  pub is_state : IsState status (means heap state)

-- the state after a turn, unless the process ended
abbrev pub StateAfter : {State S : Type 0} → Held State → Meant State S → Heap → Outcome → State → S → Type 0
StateAfter Holds' means heap (outcome.Ended reason) state s = Unit {0}
StateAfter Holds' means heap _ state s = Holds' heap state × (means heap state ≡ s)

-- what is there after a turn is what the code makes of it, and its ids are of the heap
pub record IsTurned {State S : Type 0} (Holds' : Held State) (means : Meant State S) (t : Turned S) (before : List (Event TermId)) (heap : Heap) (state : State) (v : View) (o : Outcome) : Type 0 where
  pub added : List (Event TermId)
  pub appends : v.events.items ≡ before ++ added
  pub events : events_of heap added ≡ t.events
  pub outcome : outcome_of heap o ≡ t.outcome
  pub view : view_of heap v ≡ t.view
  pub held : HoldsView heap v
  pub reason : HoldsOutcome heap o
  pub state' : StateAfter Holds' means heap o state t.state

abbrev pub Turns : {State S : Type 0} → Held State → Meant State S → Code S → (transfers : ℕ) → Heap → State → View → Heap → State → View → Outcome → Type 0
Turns Holds' means code transfers heap state v heap' state' v' o =
    IsTurned Holds' means (code.turn transfers (view_of heap v) (means heap state)) v.events.items heap' state' v' o

-- ---- depths, and heaps that are added to

abbrev pub Deep : {State S : Type 0} → Held State → Meant State S → Code S → State → ℕ → Type 0
Deep Holds' means code state depth = (heap : Heap) → Holds' heap state → depth ≡ code.depth (means heap state)

-- a state of a heap stays one of it, and stands for the same
pub record Stays {State S : Type 0} (Holds' : Held State) (means : Meant State S) (old new : Heap) (state : State) : Type 0 where
  pub held : Holds' new state
  pub is : means new state ≡ means old state

abbrev pub StaysSame : {State S : Type 0} → Held State → Meant State S → Type 0
StaysSame {State} Holds' means = (old new : Heap) (state : State) → Keeps old new → Holds' old state → Stays Holds' means old new state
