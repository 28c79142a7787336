-- What a node stands for stays, as its heap is added to.
use Rattle.std.proofs.Common.{◌≡◌, ℕ, List, [], ◌∷◌, ◌++◌, map, Option, None, Some, refl, sym, ap, ap₂, subst}
use Rattle.std.specs.BTreeMap.{BTreeMap, get}
use Rattle.std.specs.List.{All}
use Rattle.std.specs.declared.alloc.Global.{Global}
use Rattle.std.specs.declared.collections.VecDeque.{VecDeque}
use Rattle.std.proofs.lemmas.List.Elements.{All-head, All-tail, All-weaker}
use Rattle.ej_term.specs.Term.{Term}
use Rattle.ej_world.specs.declared.effect.Begin.{Begin}
use Rattle.ej_world.specs.declared.effect.Begin.TheVariants as begin
use Rattle.ej_world.specs.declared.event.Event.{Event}
use Rattle.ej_world.specs.declared.event.Event.TheVariants as event
use Rattle.ej_world.specs.World as world
use Rattle.ej_world.specs.World.{Process}
use Rattle.term_heap.specs.declared.cell.TermId.{TermId}
use Rattle.term_heap.specs.declared.heap.Heap.{Heap}
use Rattle.term_heap.specs.Held.{HoldsEach}
use Rattle.term_heap.specs.View.{Holds, term_of, Keeps}
use Rattle.term_heap.proofs.Kept.{held, kept-term, kept-each, kept-terms}
use Rattle.proc_sched.specs.declared.node.Node.{Node}
use Rattle.proc_sched.specs.declared.signal.Signal.{Signal}
use Rattle.proc_sched.specs.declared.signal.Signal.TheVariants as signal
use Rattle.proc_sched.specs.declared.slot.Slot.{Slot}
use Rattle.proc_sched.specs.Seen.{begin_of, event_of, HoldsEvent, events_of, HoldsEvents, ids_of, ids_of_begin}
use Rattle.proc_sched.specs.Stands.{signal_of, HoldsSignal, process_of, processes_of, HoldsSlot, queue_in, queue_of, HoldsQueue, world_of, IsNodeBut, Sets, OnlyHeap, IsNode, pair_cmp}

-- the same function on each element
pub map-same : {A B : Type 0} (P : A → Type 0) (f g : A → B) → ((x : A) → P x → f x ≡ g x) → (xs : List A) → All P xs → map f xs ≡ map g xs
map-same P f g same [] all = refl
map-same {A} {B} P f g same (x ∷ xs) all = ap₂ (λ (y : B) (ys : List B). y ∷ ys) (same x (All-head P x xs all)) (map-same P f g same xs (All-tail P x xs all))

module _ (old new : Heap) (keeps : Keeps old new) where
  first-held : (t : TermId) (ids : List TermId) → HoldsEach old (t ∷ ids) → Holds old t
  first-held t ids all = All-head (Holds old) t ids all

  rest-held : (t : TermId) (ids : List TermId) → HoldsEach old (t ∷ ids) → HoldsEach old ids
  rest-held t ids all = All-tail (Holds old) t ids all

  first-same : (t : TermId) (ids : List TermId) → HoldsEach old (t ∷ ids) → term_of new t ≡ term_of old t
  first-same t ids all = kept-term old new t keeps (first-held t ids all)

  pub kept-begin : (how : Begin TermId) → HoldsEach old (ids_of_begin how) → begin_of new how ≡ begin_of old how
  kept-begin (begin.Call m f args) all =
      ap₂ (λ (a : Term × Term) (b : Term). begin.Call a.0 a.1 b)
      (ap₂ (λ (a b : Term). (a, b)) (first-same m (f ∷ args ∷ []) all) (first-same f (args ∷ []) (rest-held m (f ∷ args ∷ []) all)))
      (first-same args [] (rest-held f (args ∷ []) (rest-held m (f ∷ args ∷ []) all)))
  kept-begin (begin.Fun f) all = ap begin.Fun (first-same f [] all)

  pub kept-event : (e : Event TermId) → HoldsEvent old e → event_of new e ≡ event_of old e
  kept-event (event.Start p how) all = ap (event.Start p) (kept-begin how all)
  kept-event (event.Spawn p q how) all = ap (event.Spawn p q) (kept-begin how all)
  kept-event (event.Send p q t) all = ap (event.Send p q) (first-same t [] all)
  kept-event (event.Signal p q t) all = ap (event.Signal p q) (first-same t [] all)
  kept-event (event.Broken p q t) all = ap (event.Broken p q) (first-same t [] all)
  kept-event (event.Lost p t) all = ap (event.Lost p) (first-same t [] all)
  kept-event (event.Deliver p q t) all = ap (event.Deliver p q) (first-same t [] all)
  kept-event (event.Hit p q t) all = ap (event.Hit p q) (first-same t [] all)
  kept-event (event.Dropped p q) all = refl
  kept-event (event.Input p t) all = ap (event.Input p) (first-same t [] all)
  kept-event (event.Recv p t) all = ap (event.Recv p) (first-same t [] all)
  kept-event (event.Print p t) all = ap (event.Print p) (first-same t [] all)
  kept-event (event.Raise p class t) all = ap (event.Raise p class) (first-same t [] all)
  kept-event (event.Answer p t) all = ap (event.Answer p) (first-same t [] all)
  kept-event (event.Exit p t) all = ap (event.Exit p) (first-same t [] all)
  kept-event (event.Fault p) all = refl
  kept-event (event.Clock n) all = refl
  kept-event (event.Turn p depth) all = refl
  kept-event event.Idle all = refl
  kept-event (event.Ready numbers) all = refl

  pub kept-events : (events : List (Event TermId)) → HoldsEvents old events → events_of new events ≡ events_of old events
  kept-events events all = map-same (HoldsEvent old) (event_of new) (event_of old) kept-event events all

  pub held-events : (events : List (Event TermId)) → HoldsEvents old events → HoldsEvents new events
  held-events events all = All-weaker (HoldsEvent old) (HoldsEvent new) (λ e held. kept-each old new (ids_of e) keeps held) events all

  pub kept-signal : (s : Signal) → HoldsSignal old s → signal_of new s ≡ signal_of old s
  kept-signal (signal.Message t) is = ap world.Message (kept-term old new t keeps is)
  kept-signal (signal.Link t) is = ap world.Link (kept-term old new t keeps is)
  kept-signal (signal.Exit t) is = ap world.Exit (kept-term old new t keeps is)

  pub held-signal : (s : Signal) → HoldsSignal old s → HoldsSignal new s
  held-signal (signal.Message t) is = held old new t keeps is
  held-signal (signal.Link t) is = held old new t keeps is
  held-signal (signal.Exit t) is = held old new t keeps is

  pub kept-queue : (o : Option (VecDeque Signal Global)) → HoldsQueue old o → queue_in new o ≡ queue_in old o
  kept-queue None is = refl
  kept-queue (Some q) is = map-same (HoldsSignal old) (signal_of new) (signal_of old) kept-signal q.items is.1

  pub held-queue : (o : Option (VecDeque Signal Global)) → HoldsQueue old o → HoldsQueue new o
  held-queue None is = tt
  held-queue (Some q) is = (is.0, All-weaker (HoldsSignal old) (HoldsSignal new) held-signal q.items is.1)

  pub kept-slot : (s : Slot) → HoldsSlot old s → process_of new s ≡ process_of old s
  kept-slot s is = ap (λ (messages : List Term). process s messages) (kept-terms old new s.mailbox.messages keeps is.messages)
    where
      process : Slot → List Term → Process
      process s messages = record { status = (process_of old s).status; messages = messages; save = s.mailbox.save; links = s.links.items; trapping = s.trapping; timer = s.timer }

  pub held-slot : (s : Slot) → HoldsSlot old s → HoldsSlot new s
  held-slot s is = record { messages = kept-each old new s.mailbox.messages keeps is.messages; links = is.links }

  pub kept-slots : (slots : List Slot) → All (HoldsSlot old) slots → processes_of new slots ≡ processes_of old slots
  kept-slots slots all = map-same (HoldsSlot old) (process_of new) (process_of old) kept-slot slots all

  pub held-slots : (slots : List Slot) → All (HoldsSlot old) slots → All (HoldsSlot new) slots
  held-slots slots all = All-weaker (HoldsSlot old) (HoldsSlot new) held-slot slots all

-- a node with another heap
abbrev pub with_heap : Node → Heap → Node
with_heap node heap =
    record {
      alloc = node.alloc;
      heap = heap;
      clock = node.clock;
      next_ref = node.next_ref;
      slots = node.slots;
      queues = node.queues;
      ready = node.ready;
      deadlines = node.deadlines;
      live = node.live;
      events = node.events;
    }

abbrev world-with : Node → List Process → world.Queue → world.World
world-with node ps queue = record { node = 0; next_ref = node.next_ref; clock = node.clock; processes = ps; queue = queue }

pub kept-queues : (old new : Heap) (queues : BTreeMap (ℕ × ℕ) (VecDeque Signal Global)) → Keeps old new → ((from to : ℕ) → HoldsQueue old (get pair_cmp queues (from, to))) → queue_of new queues ≡ queue_of old queues
kept-queues old new queues keeps all = λ i. λ from to. kept-queue old new keeps (get pair_cmp queues (from, to)) (all from to) i

pub kept-world : (node : Node) (heap : Heap) → Keeps node.heap heap → IsNode node → world_of (with_heap node heap) ≡ world_of node
kept-world node heap keeps is = ap₂ (world-with node) (kept-slots node.heap heap keeps node.slots.items is.slots') (kept-queues node.heap heap node.queues keeps is.queues')

pub only-heap : (node : Node) (heap : Heap) → Keeps node.heap heap → IsNode node → OnlyHeap node (with_heap node heap)
only-heap node heap keeps is =
    let same = kept-slots node.heap heap keeps node.slots.items is.slots' in
    record {
      is_node = record {
        slots' = held-slots node.heap heap keeps node.slots.items is.slots';
        queues' = λ from to. held-queue node.heap heap keeps _ (is.queues' from to);
        events' = held-events node.heap heap keeps node.events.items is.events';
        sets = subst (λ ps. Sets None node.clock ps node.ready node.deadlines) (sym same) is.sets;
        live' = subst (λ ps. node.live.items ≡ world.numbers_from 0 world.is_live ps ++ []) (sym same) is.live';
      };
      world = kept-world node heap keeps is;
      events = kept-events node.heap heap keeps node.events.items is.events';
      keeps = keeps;
    }

-- the same, but for one process that is out of the sets, and for processes to come
pub kept-but : (out : Option ℕ) (coming : List ℕ) (node : Node) (heap : Heap) → Keeps node.heap heap → IsNodeBut out coming node → IsNodeBut out coming (with_heap node heap)
kept-but out coming node heap keeps is =
    let same = kept-slots node.heap heap keeps node.slots.items is.slots' in
    record {
      slots' = held-slots node.heap heap keeps node.slots.items is.slots';
      queues' = λ from to. held-queue node.heap heap keeps _ (is.queues' from to);
      events' = held-events node.heap heap keeps node.events.items is.events';
      sets = subst (λ ps. Sets out node.clock ps node.ready node.deadlines) (sym same) is.sets;
      live' = subst (λ ps. node.live.items ≡ world.numbers_from 0 world.is_live ps ++ coming) (sym same) is.live';
    }

pub kept-world-but : (out : Option ℕ) (coming : List ℕ) (node : Node) (heap : Heap) → Keeps node.heap heap → IsNodeBut out coming node → world_of (with_heap node heap) ≡ world_of node
kept-world-but out coming node heap keeps is = ap₂ (world-with node) (kept-slots node.heap heap keeps node.slots.items is.slots') (kept-queues node.heap heap node.queues keeps is.queues')
