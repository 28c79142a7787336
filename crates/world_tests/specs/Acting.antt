-- What an act makes of a heap and of a view that is kept, over what these stand for.
use Rattle.std.specs.Prelude.{◌≡◌, ◌+◌, Bool, List, [], ◌∷◌, ◌++◌}
use Rattle.ej_world.specs.declared.event.Event.{Event}
use Rattle.ej_world.specs.Choices as world
use Rattle.ej_world.specs.Lawful.{MeetsView}
use Rattle.term_heap.specs.declared.cell.TermId.{TermId}
use Rattle.term_heap.specs.declared.heap.Heap.{Heap}
use Rattle.proc_sched.specs.declared.view.View.{View}
use Rattle.proc_sched.specs.declared.view.Outcome.{Outcome}
use Rattle.proc_sched.specs.declared.view.Outcome.TheVariants as outcome
use Rattle.world_tests.specs.Acts.{Done, with_link}
use Rattle.proc_sched.specs.Seen.{events_of, view_of, HoldsView, outcome_of, HoldsOutcome}

-- a view with which a process is asked for a turn
pub record MayAct (heap : Heap) (v : View) : Type 0 where
  pub held : HoldsView heap v
  pub meets : MeetsView (view_of heap v)

-- what is there after an act is what it does, and its ids are of the heap
pub record IsDone (d : Done) (before : List (Event TermId)) (heap : Heap) (v : View) (o : Outcome) : Type 0 where
  pub added : List (Event TermId)
  pub appends : v.events.items ≡ before ++ added
  pub events : events_of heap added ≡ d.events
  pub outcome : outcome_of heap o ≡ d.outcome
  pub view : view_of heap v ≡ d.view
  pub held : HoldsView heap v
  pub reason : HoldsOutcome heap o

abbrev pub Does : (world.View → Done) → (heap : Heap) → (v : View) → (heap' : Heap) → (v' : View) → Outcome → Type 0
Does act heap v heap' v' o = IsDone (act (view_of heap v)) v.events.items heap' v' o

-- an act that leaves the heap, under any
abbrev pub Leaves : (world.View → Done) → (v v' : View) → Outcome → Type 0
Leaves act v v' o = (heap : Heap) → MayAct heap v → Does act heap v heap v' o

-- one event is appended, and the process runs on
pub record Tells (e : Event TermId) (v v' : View) (o : Outcome) : Type 0 where
  pub runs : o ≡ outcome.Runs
  pub is : v' ≡ record v { events = v'.events }
  pub appends : v'.events.items ≡ v.events.items ++ e ∷ []

-- the next process is live, and linked where that is true
pub record Enters (linked : Bool) (v v' : View) : Type 0 where
  pub is : v' ≡ record v { next_pid = v.next_pid + 1; live = v'.live; links = v'.links }
  pub live : v'.live.items ≡ v.live.items ++ v.next_pid ∷ []
  pub links : v'.links.items ≡ with_link linked v.next_pid v.links.items
