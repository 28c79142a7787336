-- What is kept under a heap, as what it stands for: each id is read as its term.
use Rattle.std.specs.Prelude.{List, [], ◌∷◌, map}
use Rattle.std.specs.List.{All}
use Rattle.ej_term.specs.Term.{Term}
use Rattle.ej_world.specs.declared.effect.Begin.{Begin}
use Rattle.ej_world.specs.declared.effect.Begin.TheVariants as begin
use Rattle.ej_world.specs.declared.event.Event.{Event}
use Rattle.ej_world.specs.declared.event.Event.TheVariants as event
use Rattle.ej_world.specs.Choices as world
use Rattle.term_heap.specs.declared.cell.TermId.{TermId}
use Rattle.term_heap.specs.declared.heap.Heap.{Heap}
use Rattle.term_heap.specs.Held.{HoldsEach, terms_at}
use Rattle.term_heap.specs.View.{Holds, term_of}
use Rattle.proc_sched.specs.declared.view.View.{View}
use Rattle.proc_sched.specs.declared.view.Outcome.{Outcome}
use Rattle.proc_sched.specs.declared.view.Outcome.TheVariants as outcome

-- ---- beginnings

abbrev pub begin_of : Heap → Begin TermId → Begin Term
begin_of heap (begin.Call module' name args) = begin.Call (term_of heap module') (term_of heap name) (term_of heap args)
begin_of heap (begin.Fun f) = begin.Fun (term_of heap f)

abbrev pub HoldsBegin : Heap → Begin TermId → Type 0
HoldsBegin heap (begin.Call module' name args) = Holds heap module' × Holds heap name × Holds heap args
HoldsBegin heap (begin.Fun f) = Holds heap f

-- ---- events

abbrev pub event_of : Heap → Event TermId → Event Term
event_of heap (event.Start p how) = event.Start p (begin_of heap how)
event_of heap (event.Spawn p q how) = event.Spawn p q (begin_of heap how)
event_of heap (event.Send p q t) = event.Send p q (term_of heap t)
event_of heap (event.Signal p q t) = event.Signal p q (term_of heap t)
event_of heap (event.Broken p q t) = event.Broken p q (term_of heap t)
event_of heap (event.Lost p t) = event.Lost p (term_of heap t)
event_of heap (event.Deliver p q t) = event.Deliver p q (term_of heap t)
event_of heap (event.Hit p q t) = event.Hit p q (term_of heap t)
event_of heap (event.Dropped p q) = event.Dropped p q
event_of heap (event.Input p t) = event.Input p (term_of heap t)
event_of heap (event.Recv p t) = event.Recv p (term_of heap t)
event_of heap (event.Print p t) = event.Print p (term_of heap t)
event_of heap (event.Raise p class t) = event.Raise p class (term_of heap t)
event_of heap (event.Answer p t) = event.Answer p (term_of heap t)
event_of heap (event.Exit p t) = event.Exit p (term_of heap t)
event_of heap (event.Fault p) = event.Fault p
event_of heap (event.Clock n) = event.Clock n
event_of heap (event.Turn p depth) = event.Turn p depth
event_of heap event.Idle = event.Idle
event_of heap (event.Ready numbers) = event.Ready numbers

abbrev pub events_of : Heap → List (Event TermId) → List (Event Term)
events_of heap events = map (event_of heap) events

-- the ids of an event
abbrev pub ids_of_begin : Begin TermId → List TermId
ids_of_begin (begin.Call module' name args) = module' ∷ name ∷ args ∷ []
ids_of_begin (begin.Fun f) = f ∷ []

abbrev pub ids_of : Event TermId → List TermId
ids_of (event.Start p how) = ids_of_begin how
ids_of (event.Spawn p q how) = ids_of_begin how
ids_of (event.Send p q t) = t ∷ []
ids_of (event.Signal p q t) = t ∷ []
ids_of (event.Broken p q t) = t ∷ []
ids_of (event.Lost p t) = t ∷ []
ids_of (event.Deliver p q t) = t ∷ []
ids_of (event.Hit p q t) = t ∷ []
ids_of (event.Input p t) = t ∷ []
ids_of (event.Recv p t) = t ∷ []
ids_of (event.Print p t) = t ∷ []
ids_of (event.Raise p class t) = t ∷ []
ids_of (event.Answer p t) = t ∷ []
ids_of (event.Exit p t) = t ∷ []
ids_of _ = []

abbrev pub HoldsEvent : Heap → Event TermId → Type 0
HoldsEvent heap e = HoldsEach heap (ids_of e)

abbrev pub HoldsEvents : Heap → List (Event TermId) → Type 0
HoldsEvents heap events = All (HoldsEvent heap) events

-- ---- views and outcomes

abbrev pub view_of : Heap → View → world.View
view_of heap v =
    record {
      me = v.me;
      clock = v.clock;
      next_pid = v.next_pid;
      next_ref = v.next_ref;
      trapping = v.trapping;
      timer = v.timer;
      messages = terms_at heap v.mailbox.messages;
      save = v.mailbox.save;
      links = v.links.items;
      live = v.live.items;
    }

-- the ids in a view: its messages and its events
pub record HoldsView (heap : Heap) (v : View) : Type 0 where
  pub messages : HoldsEach heap v.mailbox.messages
  pub events : HoldsEvents heap v.events.items

abbrev pub outcome_of : Heap → Outcome → world.Outcome
outcome_of heap outcome.Runs = world.Runs
outcome_of heap outcome.Waits = world.Waits
outcome_of heap (outcome.Ended reason) = world.Ends (term_of heap reason)

abbrev pub HoldsOutcome : Heap → Outcome → Type 0
HoldsOutcome heap (outcome.Ended reason) = Holds heap reason
HoldsOutcome heap _ = Unit {0}
