-- What a turn borrows of a node, what it gives back, and the links that change with it.
use Rattle.std.specs.Prelude.{◌≡◌, ℕ, ◌+◌, ◌<◌, ◌&&◌, false, List, [], ◌∷◌, length, slice_get, slice_set, Some}
use Rattle.std.specs.List.{All}
use Rattle.std.specs.declared.alloc.Global.{Global}
use Rattle.std.specs.declared.vec.Vec.{Vec}
use Rattle.ej_world.specs.Choices.{holds, linked_back, agreeing}
use Rattle.ej_world.specs.Lawful.{RisingBelow}
use Rattle.ej_world.specs.World.{Process}
use Rattle.ej_world.specs.declared.event.Event.{Event}
use Rattle.term_heap.specs.declared.cell.TermId.{TermId}
use Rattle.proc_sched.specs.declared.node.Node.{Node}
use Rattle.proc_sched.specs.declared.slot.Slot.{Slot}
use Rattle.proc_sched.specs.declared.slot.Status.{Status}
use Rattle.proc_sched.specs.declared.slot.Status.TheVariants as status
use Rattle.proc_sched.specs.declared.view.View.{View}
use Rattle.proc_sched.specs.declared.view.Outcome.{Outcome}
use Rattle.proc_sched.specs.declared.view.Outcome.TheVariants as outcome
use Rattle.proc_sched.specs.Stands.{HoldsSlot, processes_of}

-- a node with other slots, another next reference, and other live processes and events
abbrev pub with_returned : Node → Vec Slot Global → (next_ref : ℕ) → Vec ℕ Global → Vec (Event TermId) Global → Node
with_returned node slots next_ref live events =
    record {
      alloc = node.alloc;
      heap = node.heap;
      clock = node.clock;
      next_ref = next_ref;
      slots = slots;
      queues = node.queues;
      ready = node.ready;
      deadlines = node.deadlines;
      live = live;
      events = events;
    }

abbrev pub with_slots : Node → Vec Slot Global → Node
with_slots node slots = with_returned node slots node.next_ref node.live node.events

-- ---- what is lent and taken back

-- the mailbox and the links of a slot are lent
pub record LendsSlot (s : Slot) (v : View) : Type 0 where
  pub mailbox : v.mailbox ≡ s.mailbox
  pub links : v.links ≡ s.links
  pub trapping : v.trapping ≡ s.trapping
  pub timer : v.timer ≡ s.timer

-- and the live processes and the events of the node
pub record Lends (number : ℕ) (old new : Node) (v : View) : Type 0 where
  pub is : new ≡ with_returned old new.slots old.next_ref new.live new.events
  pub others : (s : Slot) → slice_set new.slots.items number s ≡ slice_set old.slots.items number s
  pub slot : (s : Slot) → slice_get old.slots.items number ≡ Some s → LendsSlot s v
  pub me : v.me ≡ number
  pub next_pid : v.next_pid ≡ length old.slots.items
  pub next_ref : v.next_ref ≡ old.next_ref
  pub clock : v.clock ≡ old.clock
  pub live : v.live ≡ old.live
  pub events : v.events ≡ old.events

-- a process that its turn ended still runs
abbrev pub status_behind : Outcome → Status
status_behind outcome.Waits = status.Waiting
status_behind _ = status.Running

abbrev pub slot_behind : View → Outcome → Slot
slot_behind v o = record { status = status_behind o; mailbox = v.mailbox; links = v.links; trapping = v.trapping; timer = v.timer }

pub record TakesBack (number : ℕ) (v : View) (o : Outcome) (old new : Node) : Type 0 where
  pub is : new ≡ with_returned old new.slots v.next_ref v.live v.events
  pub slots' : new.slots.items ≡ slice_set old.slots.items number (slot_behind v o)

-- ---- links

-- each link is to another process
pub record IsLinked (count me : ℕ) (links : List ℕ) : Type 0 where
  pub below : RisingBelow count links
  pub not_itself : holds links me ≡ false

-- the process is there, and what it is and was linked to are others
pub record MayAgree (me : ℕ) (before : List ℕ) (node : Node) : Type 0 where
  pub within : me < length node.slots.items
  pub slots' : All (HoldsSlot node.heap) node.slots.items
  pub before' : IsLinked (length node.slots.items) me before
  pub links : (s : Slot) → slice_get node.slots.items me ≡ Some s → IsLinked (length node.slots.items) me s.links.items

-- the slots change, by links of other processes alone
pub record Relinks (me : ℕ) (old new : Node) (linked : (links : List ℕ) → List Process → List Process) : Type 0 where
  pub is : new ≡ with_slots old new.slots
  pub slots' : All (HoldsSlot old.heap) new.slots.items
  pub own : slice_get new.slots.items me ≡ slice_get old.slots.items me
  pub processes : (s : Slot) → slice_get old.slots.items me ≡ Some s → processes_of old.heap new.slots.items ≡ linked s.links.items (processes_of old.heap old.slots.items)

-- what is linked back in processes the first of which has that number: what is no longer, and what was not
abbrev pub dropping : (me : ℕ) → (before : List ℕ) → ℕ → (links : List ℕ) → List Process → List Process
dropping me before number links [] = []
dropping me before number links (p ∷ ps) =
    linked_back me (holds before number) (holds before number && holds links number) p ∷ dropping me before (number + 1) links ps

abbrev pub adding : (me : ℕ) → (before : List ℕ) → ℕ → (links : List ℕ) → List Process → List Process
adding me before number links [] = []
adding me before number links (p ∷ ps) =
    linked_back me (holds before number && holds links number) (holds links number) p ∷ adding me before (number + 1) links ps

-- each process takes the other out that is no longer linked to it
abbrev pub DropsLinks : (me : ℕ) → (before : List ℕ) → (old new : Node) → Type 0
DropsLinks me before old new = Relinks me old new (dropping me before 0)

-- and puts in the one that it was not linked to
abbrev pub AddsLinks : (me : ℕ) → (before : List ℕ) → (old new : Node) → Type 0
AddsLinks me before old new = Relinks me old new (adding me before 0)

abbrev pub Agrees : (me : ℕ) → (before : List ℕ) → (old new : Node) → Type 0
Agrees me before old new = Relinks me old new (λ links. agreeing me before links 0)
