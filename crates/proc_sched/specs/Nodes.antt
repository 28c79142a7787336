-- What the calls on a node make of it.
use Rattle.std.specs.Prelude.{◌≡◌, ℕ, ◌≤◌, ◌&&◌, nat_eq, if◌then◌else◌, Bool, true, false, List, [], ◌∷◌, ◌++◌, codes, drop, map, slice_get, slice_index_or, Option, None, Some}
use Rattle.std.specs.BTreeMap.{BTreeMap, get}
use Rattle.std.specs.BTreeSet.{BTreeSet}
use Rattle.std.specs.List.{All}
use Rattle.std.specs.declared.alloc.Global.{Global}
use Rattle.std.specs.declared.collections.VecDeque.{VecDeque}
use Rattle.ej_term.specs.Term.{Term, Atom}
use Rattle.ej_world.specs.Auto as auto
use Rattle.ej_world.specs.declared.event.Event.{Event}
use Rattle.ej_world.specs.declared.event.Event.TheVariants as event
use Rattle.ej_world.specs.Delivery.{is_linked, without_link}
use Rattle.ej_world.specs.Sound.{SoundQueue}
use Rattle.ej_world.specs.World as world
use Rattle.ej_world.specs.World.{World, Process, Change, next_pid, is_live, with_process, with_message, with_status}
use Rattle.term_heap.specs.declared.cell.TermId.{TermId}
use Rattle.term_heap.specs.View.{Stands, term_of}
use Rattle.proc_sched.specs.declared.node.Node.{Node}
use Rattle.proc_sched.specs.declared.signal.Signal.{Signal}
use Rattle.proc_sched.specs.Seen.{event_of, events_of}
use Rattle.proc_sched.specs.Stands.{Sets, IsReadySet, IsDeadlineSet, pair_cmp, IsNode, IsNodeBut, Does, OnlyHeap, world_of, processes_of, queue_of, signal_of, HoldsSignal}

-- the process is there, and has not ended
abbrev pub live_at : Option Process → Bool
live_at None = false
live_at (Some p) = is_live p

-- events that are seen, and nothing else
abbrev pub shows : List (Event Term) → World → Change
shows events w = record { events = events; world = w }

-- events that are seen, and whose signals go on their way
abbrev pub sends : List (Event Term) → World → Change
sends events w = record { events = events; world = world.sending events w }

-- signals are on their way between processes alone
abbrev pub Between : World → Type 0
Between w = SoundQueue (next_pid w) w.queue

abbrev pub first_pair : World → Option (ℕ × ℕ)
first_pair w = auto.first_pair w

-- ---- changes

-- the change, which is there
abbrev pub DoesSome : (old new : Node) → Option Change → Type 0
DoesSome old new None = ⊥
DoesSome old new (Some c) = Does old new c

-- there is a change exactly where the answer says so
abbrev pub DoesIf : Bool → (old new : Node) → Option Change → Type 0
DoesIf true old new o = DoesSome old new o
DoesIf false old new None = OnlyHeap old new
DoesIf false old new (Some c) = ⊥

-- what is done to the process of that number, as it stands
abbrev pub DoesTo : (number : ℕ) → (old new : Node) → (Process → Change) → Type 0
DoesTo number old new change = (q : Process) → slice_get (world_of old).processes number ≡ Some q → Does old new (change q)

-- the same, and no term is made
pub record DoesAlone (number : ℕ) (old new : Node) (change : Process → Change) : Type 0 where
  pub heap : new.heap ≡ old.heap
  pub does : DoesTo number old new change

-- a term is made, and nothing else changes
pub record Makes (t : Term) (old new : Node) (id : TermId) : Type 0 where
  pub only : OnlyHeap old new
  pub stands : Stands new.heap id t

abbrev pub killed : Term
killed = Atom (codes "killed")

-- a message is at the end of the mailbox
abbrev pub PutsIn : (to : ℕ) → (message : TermId) → (old new : Node) → Type 0
PutsIn to message old new = DoesAlone to old new (λ q. shows [] (with_process (world_of old) to (with_message q (term_of old.heap message))))

-- a process is no longer linked to that one, if it was
abbrev pub unlinked : (was : Bool) → World → (from to : ℕ) → Process → World
unlinked was w from to q = if was then with_process w to (without_link q from) else w

pub record Unlinks (from to : ℕ) (old new : Node) (was : Bool) : Type 0 where
  pub does : DoesAlone to old new (λ q. shows [] (unlinked was (world_of old) from to q))
  pub was' : (q : Process) → slice_get (world_of old).processes to ≡ Some q → was ≡ is_linked q from

-- a process has ended, and nothing is seen of it yet
abbrev pub Buries : (number : ℕ) → (old new : Node) → Type 0
Buries number old new = DoesAlone number old new (λ q. shows [] (with_process (world_of old) number (with_status q world.Ended)))

-- the exit signals by the link of a process that ended
abbrev pub broken : (number : ℕ) → (reason : Term) → (links : List ℕ) → List (Event Term)
broken number reason links = map (λ other. event.Broken number other reason) links

-- ---- the clock

abbrev pub clocks : ℕ → World → Change
clocks clock w =
    record {
      events = event.Clock clock ∷ [];
      world = record { node = w.node; next_ref = w.next_ref; clock = clock; processes = w.processes; queue = w.queue };
    }

-- ---- processes

abbrev pub with_next : World → World
with_next w = record { node = w.node; next_ref = w.next_ref; clock = w.clock; processes = w.processes ++ world.fresh ∷ []; queue = w.queue }

-- the next process is there, which was to come
pub record Adds (old new : Node) : Type 0 where
  pub is_node : (coming : List ℕ) → IsNodeBut None (next_pid (world_of old) ∷ coming) old → IsNodeBut None coming new
  pub world : world_of new ≡ with_next (world_of old)
  pub events : new.events ≡ old.events
  pub heap : new.heap ≡ old.heap

-- the sets of ready processes and of deadlines change, and nothing else
abbrev pub with_sets : Node → BTreeSet ℕ → BTreeSet (ℕ × ℕ) → Node
with_sets node ready deadlines =
    record {
      alloc = node.alloc;
      heap = node.heap;
      clock = node.clock;
      next_ref = node.next_ref;
      slots = node.slots;
      queues = node.queues;
      ready = ready;
      deadlines = deadlines;
      live = node.live;
      events = node.events;
    }

abbrev pub SetsOf : (out : Option ℕ) → Node → Type 0
SetsOf out node = Sets out node.clock (processes_of node.heap node.slots.items) node.ready node.deadlines

-- a process goes out of the set of deadlines
pub record LeavesDeadlines (number : ℕ) (old new : Node) : Type 0 where
  pub is : new ≡ with_sets old old.ready new.deadlines
  pub out : IsDeadlineSet None old.clock (processes_of old.heap old.slots.items) old.deadlines → IsDeadlineSet (Some number) old.clock (processes_of old.heap old.slots.items) new.deadlines

-- and out of both sets
pub record Leaves (number : ℕ) (old new : Node) : Type 0 where
  pub is : new ≡ with_sets old new.ready new.deadlines
  pub out : SetsOf None old → SetsOf (Some number) new

-- a process goes into the set of ready processes, of deadlines, or of both, as it is
pub record EntersReady (number : ℕ) (old new : Node) : Type 0 where
  pub is : new ≡ with_sets old new.ready old.deadlines
  pub in' : IsReadySet (Some number) old.clock (processes_of old.heap old.slots.items) old.ready → IsReadySet None old.clock (processes_of old.heap old.slots.items) new.ready

pub record EntersDeadlines (number : ℕ) (old new : Node) : Type 0 where
  pub is : new ≡ with_sets old old.ready new.deadlines
  pub in' : IsDeadlineSet (Some number) old.clock (processes_of old.heap old.slots.items) old.deadlines → IsDeadlineSet None old.clock (processes_of old.heap old.slots.items) new.deadlines

pub record Enters (number : ℕ) (old new : Node) : Type 0 where
  pub is : new ≡ with_sets old new.ready new.deadlines
  pub in' : SetsOf (Some number) old → SetsOf None new

-- the sets of an earlier time are those of the clock
pub record Wakes (old new : Node) : Type 0 where
  pub is : new ≡ with_sets old new.ready new.deadlines
  pub sets : (before : ℕ) → before ≤ old.clock → Sets None before (processes_of old.heap old.slots.items) old.ready old.deadlines → SetsOf None new

-- ---- signals

-- the signals on their way change, and nothing else
abbrev pub with_queues : Node → BTreeMap (ℕ × ℕ) (VecDeque Signal Global) → Node
with_queues node queues =
    record {
      alloc = node.alloc;
      heap = node.heap;
      clock = node.clock;
      next_ref = node.next_ref;
      slots = node.slots;
      queues = queues;
      ready = node.ready;
      deadlines = node.deadlines;
      live = node.live;
      events = node.events;
    }

-- the queue of the pair is out, and it is the answer, or empty where there was none
pub record TakesQueue (pair : ℕ × ℕ) (old new : Node) (queue : VecDeque Signal Global) : Type 0 where
  pub is : new ≡ with_queues old new.queues
  pub queue' : map (signal_of old.heap) queue.items ≡ queue_of old.heap old.queues pair.0 pair.1
  pub held : IsNode old → All (HoldsSignal old.heap) queue.items
  pub out : (from to : ℕ) → get pair_cmp new.queues (from, to) ≡ (if nat_eq from pair.0 && nat_eq to pair.1 then None else get pair_cmp old.queues (from, to))

pub record Puts (pair : ℕ × ℕ) (signal : Signal) (old new : Node) : Type 0 where
  pub is : new ≡ with_queues old new.queues
  pub is_node : IsNode old → HoldsSignal old.heap signal → IsNode new
  pub queue : queue_of old.heap new.queues ≡ world.put pair.0 pair.1 (signal_of old.heap signal) (queue_of old.heap old.queues)

-- the first signal of the pair, and those behind it
pub record TakesOne (pair : ℕ × ℕ) (old new : Node) (signal : Signal) : Type 0 where
  pub held : HoldsSignal old.heap signal
  pub rest : List world.Signal
  pub was : queue_of old.heap old.queues pair.0 pair.1 ≡ signal_of old.heap signal ∷ rest
  pub queue : queue_of old.heap new.queues ≡ world.taken pair.0 pair.1 rest (queue_of old.heap old.queues)

abbrev pub TakesAny : (pair : ℕ × ℕ) → (old new : Node) → Option Signal → Type 0
TakesAny pair old new None = (queue_of old.heap old.queues pair.0 pair.1 ≡ []) × (queue_of old.heap new.queues ≡ queue_of old.heap old.queues)
TakesAny pair old new (Some signal) = TakesOne pair old new signal

pub record Takes (pair : ℕ × ℕ) (old new : Node) (signal : Option Signal) : Type 0 where
  pub is : new ≡ with_queues old new.queues
  pub is_node : IsNode new
  pub takes : TakesAny pair old new signal

-- what the event at a place sends is on its way, and nothing else changes
pub record SendsAt (at : ℕ) (old new : Node) : Type 0 where
  pub is : new ≡ with_queues old new.queues
  pub is_node : IsNode new
  pub queue : (d : Event TermId) → queue_of old.heap new.queues ≡ world.with_signal (event_of old.heap (slice_index_or old.events.items at d)) (queue_of old.heap old.queues)

-- what the events from a place on send is on its way
pub record SendsFrom (first : ℕ) (old new : Node) : Type 0 where
  pub is : new ≡ with_queues old new.queues
  pub is_node : IsNode new
  pub queue : queue_of old.heap new.queues ≡ world.with_signals (events_of old.heap (drop first old.events.items)) (queue_of old.heap old.queues)
