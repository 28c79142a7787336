-- The processes that are kept, and the signals between them, as what they stand for.
use Rattle.std.specs.Prelude.{◌≡◌, ℕ, ◌+◌, ◌≤◌, Bool, true, false, not, ◌&&◌, nat_eq, nat_lt, if◌then◌else◌, List, [], ◌∷◌, ◌++◌, length, map, slice_get, Option, None, Some}
use Rattle.std.specs.BTreeMap.{BTreeMap, get}
use Rattle.std.specs.BTreeSet.{BTreeSet, contains}
use Rattle.std.specs.List.{All}
use Rattle.std.specs.Ordering.{nat_cmp, ordering_then}
use Rattle.std.specs.declared.collections.VecDeque.{VecDeque}
use Rattle.std.specs.declared.alloc.Global.{Global}
use Rattle.std.specs.declared.cmp.Ordering.{Ordering}
use Rattle.ej_term.specs.Term.{Term}
use Rattle.ej_world.specs.declared.event.Event.{Event}
use Rattle.ej_world.specs.World as world
use Rattle.ej_world.specs.World.{World, Process, Queue, Change, is_ready, next_pid}
use Rattle.term_heap.specs.declared.heap.Heap.{Heap}
use Rattle.term_heap.specs.Held.{HoldsEach, terms_at}
use Rattle.term_heap.specs.View.{Holds, term_of, Keeps}
use Rattle.proc_sched.specs.declared.node.Node.{Node}
use Rattle.proc_sched.specs.declared.signal.Signal.{Signal}
use Rattle.proc_sched.specs.declared.signal.Signal.TheVariants as signal
use Rattle.proc_sched.specs.declared.slot.Slot.{Slot}
use Rattle.proc_sched.specs.declared.slot.Status.{Status}
use Rattle.proc_sched.specs.declared.slot.Status.TheVariants as status
use Rattle.proc_sched.specs.Seen.{events_of, HoldsEvents}

-- ---- signals

abbrev pub signal_of : Heap → Signal → world.Signal
signal_of heap (signal.Message message) = world.Message (term_of heap message)
signal_of heap (signal.Link reason) = world.Link (term_of heap reason)
signal_of heap (signal.Exit reason) = world.Exit (term_of heap reason)

abbrev pub HoldsSignal : Heap → Signal → Type 0
HoldsSignal heap (signal.Message t) = Holds heap t
HoldsSignal heap (signal.Link t) = Holds heap t
HoldsSignal heap (signal.Exit t) = Holds heap t

-- ---- processes

abbrev pub status_of : Status → world.Status
status_of status.Running = world.Running
status_of status.Waiting = world.Waiting
status_of status.Ended = world.Ended

abbrev pub process_of : Heap → Slot → Process
process_of heap s =
    record {
      status = status_of s.status;
      messages = terms_at heap s.mailbox.messages;
      save = s.mailbox.save;
      links = s.links.items;
      trapping = s.trapping;
      timer = s.timer;
    }

-- each number is above the one before it
abbrev pub RisingFrom : (least : ℕ) → List ℕ → Type 0
RisingFrom least [] = Unit {0}
RisingFrom least (n ∷ ns) = (least ≤ n) × RisingFrom (n + 1) ns

abbrev pub Rising : List ℕ → Type 0
Rising ns = RisingFrom 0 ns

-- the ids of its messages are of the heap, and its links rise
pub record HoldsSlot (heap : Heap) (s : Slot) : Type 0 where
  pub messages : HoldsEach heap s.mailbox.messages
  pub links : Rising s.links.items

-- the deadline for which a process waits and which is to come
abbrev pub if_later : (clock : ℕ) → Option ℕ → Option ℕ
if_later clock None = None
if_later clock (Some deadline) = if nat_lt clock deadline then Some deadline else None

abbrev pub to_come_in : (clock : ℕ) → world.Status → Option ℕ → Option ℕ
to_come_in clock world.Waiting timer = if_later clock timer
to_come_in clock _ timer = None

abbrev pub to_come : (clock : ℕ) → Process → Option ℕ
to_come clock p = to_come_in clock p.status p.timer

-- ---- which processes are ready, and which deadlines are to come

-- the process is there, and ready
abbrev pub ready_at : (clock : ℕ) → Option Process → Bool
ready_at clock None = false
ready_at clock (Some p) = is_ready clock p

abbrev pub is_deadline : (deadline : ℕ) → Option ℕ → Bool
is_deadline deadline None = false
is_deadline deadline (Some other) = nat_eq deadline other

-- the deadline to come of a process that is there
abbrev pub due_at : (clock : ℕ) → Option Process → Option ℕ
due_at clock None = None
due_at clock (Some p) = to_come clock p

-- the process is there, and waits for that deadline, which is to come
abbrev pub waits_for : (clock deadline : ℕ) → Option Process → Bool
waits_for clock deadline o = is_deadline deadline (due_at clock o)

-- all processes, or all but one
abbrev pub is_in : (out : Option ℕ) → ℕ → Bool
is_in None n = true
is_in (Some m) n = not (nat_eq n m)

-- pairs of numbers, the least first
abbrev pub pair_cmp : ℕ × ℕ → ℕ × ℕ → Ordering
pair_cmp p q = ordering_then (nat_cmp p.0 q.0) (nat_cmp p.1 q.1)

-- the set holds the ready processes, but for one that is out
abbrev pub IsReadySet : (out : Option ℕ) → (clock : ℕ) → List Process → BTreeSet ℕ → Type 0
IsReadySet out clock ps ready = (n : ℕ) → contains nat_cmp ready n ≡ (is_in out n && ready_at clock (slice_get ps n))

-- the set holds the deadlines to come, each with the process that waits for it, but for one process that is out
abbrev pub IsDeadlineSet : (out : Option ℕ) → (clock : ℕ) → List Process → BTreeSet (ℕ × ℕ) → Type 0
IsDeadlineSet out clock ps deadlines = (deadline n : ℕ) → contains pair_cmp deadlines (deadline, n) ≡ (is_in out n && waits_for clock deadline (slice_get ps n))

pub record Sets (out : Option ℕ) (clock : ℕ) (ps : List Process) (ready : BTreeSet ℕ) (deadlines : BTreeSet (ℕ × ℕ)) : Type 0 where
  pub ready' : IsReadySet out clock ps ready
  pub deadlines' : IsDeadlineSet out clock ps deadlines

-- ---- the world

-- the signals of a pair, by the pairs that have some
abbrev pub queue_in : Heap → Option (VecDeque Signal Global) → List world.Signal
queue_in heap None = []
queue_in heap (Some signals) = map (signal_of heap) signals.items

abbrev pub queue_of : Heap → BTreeMap (ℕ × ℕ) (VecDeque Signal Global) → Queue
queue_of heap queues from to = queue_in heap (get pair_cmp queues (from, to))

-- there is a signal, and each is of the heap
abbrev pub HoldsQueue : Heap → Option (VecDeque Signal Global) → Type 0
HoldsQueue heap None = Unit {0}
HoldsQueue heap (Some signals) = (1 ≤ length signals.items) × All (HoldsSignal heap) signals.items

abbrev pub processes_of : Heap → List Slot → List Process
processes_of heap slots = map (process_of heap) slots

abbrev pub world_of : Node → World
world_of node =
    record {
      node = 0;
      next_ref = node.next_ref;
      clock = node.clock;
      processes = processes_of node.heap node.slots.items;
      queue = queue_of node.heap node.queues;
    }

abbrev pub seen_of : Node → List (Event Term)
seen_of node = events_of node.heap node.events.items

-- what stands beside the processes is what is said of it, and each id is one of the heap; but for one process that is out of
-- the sets, and for processes to come, which are among the live ones already
pub record IsNodeBut (out : Option ℕ) (coming : List ℕ) (node : Node) : Type 0 where
  pub slots' : All (HoldsSlot node.heap) node.slots.items
  pub queues' : (from to : ℕ) → HoldsQueue node.heap (get pair_cmp node.queues (from, to))
  pub events' : HoldsEvents node.heap node.events.items
  pub sets : Sets out node.clock (processes_of node.heap node.slots.items) node.ready node.deadlines
  pub live' : node.live.items ≡ world.live (world_of node) ++ coming

abbrev pub IsNode : Node → Type 0
IsNode node = IsNodeBut None [] node

-- ---- what a call makes of a node

-- the node stands for the world of the change, and its events are appended
pub record Does (old new : Node) (c : Change) : Type 0 where
  pub is_node : IsNode new
  pub world : world_of new ≡ c.world
  pub events : seen_of new ≡ seen_of old ++ c.events
  pub keeps : Keeps old.heap new.heap

-- that is added to the heap, and all else stays
pub record OnlyHeap (old new : Node) : Type 0 where
  pub is_node : IsNode new
  pub world : world_of new ≡ world_of old
  pub events : seen_of new ≡ seen_of old
  pub keeps : Keeps old.heap new.heap
