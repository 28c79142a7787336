-- What calls on a node make of it: events, processes that are added, and signals.
use Rattle.std.proofs.Common.{◌≡◌, ℕ, zero, suc, ◌+◌, ◌<◌, Bool, true, false, nat_eq, ◌&&◌, ◌⊎◌, inl, inr, List, [], ◌∷◌, ◌++◌, length, map, drop, get_or, Option, None, Some, refl, sym, ap, ap₂, subst, ◌∙◌, arith}
use Rattle.std.specs.Prelude.{slice_get, cond, if◌then◌else◌, option_to_list, Result, Ok, Err, IfOk, OnOk}
use Rattle.std.specs.BTreeMap.{BTreeMap, get, is_at}
use Rattle.std.specs.BTreeSet.{BTreeSet, contains}
use Rattle.std.specs.Ordering.{nat_cmp}
use Rattle.std.specs.List.{All}
use Rattle.std.specs.Global.{Vec}
use Rattle.std.specs.declared.alloc.Global.{Global}
use Rattle.std.specs.declared.collections.VecDeque.{VecDeque}
use Rattle.std.proofs.lemmas.Bool.{eqb-true, eq-eqb, ne_eqb, and_parts, cases_eq, cond-true, cond-false}
use Rattle.std.proofs.lemmas.Option.{slice_get_past}
use Rattle.std.proofs.lemmas.List.{append_assoc, map_push, length-append, at_drop_more, nil_from_length, get_or_default}
use Rattle.std.proofs.lemmas.List.Elements.{All-nil, All-head, All-tail, All-push, All-get_or}
use Rattle.term_heap.specs.declared.cell.TermId.{TermId}
use Rattle.term_heap.specs.declared.heap.Heap.{Heap}
use Rattle.term_heap.specs.View.{Holds, term_of, Keeps}
use Rattle.term_heap.proofs.Adding.{extends-itself}
use Rattle.term_heap.proofs.Meanings.{same-parts}
use Rattle.term_heap.proofs.Kept.{keeps-then}
use Rattle.ej_world.specs.declared.event.Event.{Event}
use Rattle.ej_world.specs.World as world
use Rattle.ej_world.specs.World.{Process, Change, fresh, is_live, numbers_from, put, with_signal, with_signals}
use Rattle.proc_sched.specs.declared.node.Node.{Node}
use Rattle.proc_sched.specs.declared.signal.Signal.{Signal}
use Rattle.proc_sched.specs.declared.slot.Slot.{Slot}
use Rattle.proc_sched.specs.Nodes as nodes
use Rattle.proc_sched.specs.Nodes.{shows, sends, with_queues, Puts, TakesQueue, TakesAny, Takes, SendsAt}
use Rattle.proc_sched.specs.Seen.{event_of, HoldsEvent, events_of}
use Rattle.proc_sched.specs.Sent.{Sends}
use Rattle.proc_sched.specs.Stands.{signal_of, HoldsSignal, process_of, processes_of, HoldsSlot, queue_in, queue_of, HoldsQueue, world_of, seen_of, IsNode, Does, Sets, IsReadySet, IsDeadlineSet, pair_cmp, ready_at, due_at, is_deadline, Rising}
use Rattle.proc_sched.proofs.Setting.{at-pair, at-number, eq-sym, Has}

pub same-heap : (heap : Heap) → Keeps heap heap
same-heap heap = record { terms = extends-itself _; parts = same-parts _; texts = extends-itself _ }

-- ---- one change behind another

pub does-then : (old mid new : Node) (c d : Change) → Does old mid c → Does mid new d → Does old new (record { events = c.events ++ d.events; world = d.world })
does-then old mid new c d one more = record {
  is_node = more.is_node;
  world = more.world;
  events = more.events ∙ (ap (λ es. es ++ d.events) one.events ∙ append_assoc (seen_of old) c.events d.events);
  keeps = keeps-then old.heap mid.heap new.heap one.keeps more.keeps;
}

-- a change that is another
pub does-as : (old new : Node) (c d : Change) → c ≡ d → Does old new c → Does old new d
does-as old new c d e does = subst (Does old new) e does

-- ---- events

abbrev pub with_events : Node → Vec (Event TermId) → Node
with_events node events =
    record {
      alloc = node.alloc;
      heap = node.heap;
      clock = node.clock;
      next_ref = node.next_ref;
      slots = node.slots;
      queues = node.queues;
      ready = node.ready;
      deadlines = node.deadlines;
      live = node.live;
      events = events;
    }

pub show-does : (node : Node) (events : Vec (Event TermId)) (e : Event TermId) → IsNode node → HoldsEvent node.heap e → events.items ≡ node.events.items ++ e ∷ []
    → Does node (with_events node events) (shows (event_of node.heap e ∷ []) (world_of node))
show-does node events e is held same = record {
  is_node = record {
    slots' = is.slots';
    queues' = is.queues';
    events' = subst (All (HoldsEvent node.heap)) (sym same) (All-push (HoldsEvent node.heap) node.events.items e is.events' held);
    sets = is.sets;
    live' = is.live';
  };
  world = refl;
  events = ap (events_of node.heap) same ∙ map_push (event_of node.heap) node.events.items e;
  keeps = same-heap node.heap;
}

-- ---- the next process

push-here : {A : Type 0} (xs : List A) (x : A) (n : ℕ) → n ≡ length xs → slice_get (xs ++ x ∷ []) n ≡ Some x
push-here [] x zero e = refl
push-here [] x (suc n) e = absurd (omega arith)
push-here (y ∷ xs) x zero e = absurd (omega arith)
push-here (y ∷ xs) x (suc n) e = push-here xs x n (omega arith)

push-other : {A : Type 0} (xs : List A) (x : A) (n : ℕ) → (n ≡ length xs → ⊥) → slice_get (xs ++ x ∷ []) n ≡ slice_get xs n
push-other [] x zero ne = absurd (ne refl)
push-other [] x (suc n) ne = refl
push-other (y ∷ xs) x zero ne = refl
push-other (y ∷ xs) x (suc n) ne = push-other xs x n (λ e. ne (ap suc e))

get-push : {A : Type 0} (xs : List A) (x : A) (n : ℕ) → slice_get (xs ++ x ∷ []) n ≡ (if nat_eq n (length xs) then Some x else slice_get xs n)
get-push {A} xs x n = by (cases_eq n (length xs))
  where
    by : (n ≡ length xs) ⊎ (n ≡ length xs → ⊥) → slice_get (xs ++ x ∷ []) n ≡ (if nat_eq n (length xs) then Some x else slice_get xs n)
    by (inl e) = push-here xs x n e ∙ sym (cond-true (nat_eq n (length xs)) (Some x) (slice_get xs n) (eq-eqb n (length xs) e))
    by (inr ne) = push-other xs x n ne ∙ sym (cond-false (nat_eq n (length xs)) (Some x) (slice_get xs n) (ne_eqb n (length xs) ne))

pub numbers-push : (test : Process → Bool) (number : ℕ) (ps : List Process) (p : Process) → numbers_from number test (ps ++ p ∷ []) ≡ numbers_from number test ps ++ (if test p then (number + length ps) ∷ [] else [])
numbers-push test number [] p = by (test p)
  where
    by : (b : Bool) → (if b then number ∷ [] else []) ≡ (if b then (number + 0) ∷ [] else [])
    by true = ap (λ n. n ∷ []) (omega arith)
    by false = refl
numbers-push test number (q ∷ ps) p = by (test q) (numbers-push test (number + 1) ps p)
  where
    last : (if test p then (number + 1 + length ps) ∷ [] else []) ≡ (if test p then (number + suc (length ps)) ∷ [] else [])
    last = ap (λ n. if test p then n ∷ [] else []) (omega arith)

    by : (b : Bool) → numbers_from (number + 1) test (ps ++ p ∷ []) ≡ numbers_from (number + 1) test ps ++ (if test p then (number + 1 + length ps) ∷ [] else [])
        → (if b then number ∷ numbers_from (number + 1) test (ps ++ p ∷ []) else numbers_from (number + 1) test (ps ++ p ∷ []))
        ≡ (if b then number ∷ numbers_from (number + 1) test ps else numbers_from (number + 1) test ps) ++ (if test p then (number + suc (length ps)) ∷ [] else [])
    by true e = ap (λ ns. number ∷ ns) (e ∙ ap (λ ns. numbers_from (number + 1) test ps ++ ns) last)
    by false e = e ∙ ap (λ ns. numbers_from (number + 1) test ps ++ ns) last

due-none : (clock n : ℕ) (ps : List Process) → nat_eq n (length ps) ≡ true → due_at clock (slice_get ps n) ≡ None
due-none clock n ps e = ap (due_at clock) (slice_get_past ps n (omega (arith, eqb-true n (length ps) e)))

ready-pushed : (clock : ℕ) (ps : List Process) (old new : BTreeSet ℕ) → Has (length ps) true old new → IsReadySet None clock ps old → IsReadySet None clock (ps ++ fresh ∷ []) new
ready-pushed clock ps old new has set n = by (nat_eq n (length ps)) refl
  where
    at : ready_at clock (slice_get (ps ++ fresh ∷ []) n) ≡ ready_at clock (if nat_eq n (length ps) then Some fresh else slice_get ps n)
    at = ap (ready_at clock) (get-push ps fresh n)

    here : is_at (nat_cmp (length ps)) n ≡ nat_eq n (length ps)
    here = at-number (length ps) n ∙ eq-sym (length ps) n

    by : (b : Bool) → nat_eq n (length ps) ≡ b → contains nat_cmp new n ≡ ready_at clock (slice_get (ps ++ fresh ∷ []) n)
    by true e = has n ∙ cond-true _ true _ (here ∙ e) ∙ sym (at ∙ ap (λ b. ready_at clock (if b then Some fresh else slice_get ps n)) e)
    by false e = has n ∙ cond-false _ true _ (here ∙ e) ∙ (set n ∙ sym (at ∙ ap (λ b. ready_at clock (if b then Some fresh else slice_get ps n)) e))

deadlines-pushed : (clock : ℕ) (ps : List Process) (old : BTreeSet (ℕ × ℕ)) → IsDeadlineSet None clock ps old → IsDeadlineSet None clock (ps ++ fresh ∷ []) old
deadlines-pushed clock ps old set d n = set d n ∙ sym (ap (is_deadline d) (ap (due_at clock) (get-push ps fresh n) ∙ by (nat_eq n (length ps)) refl))
  where
    by : (b : Bool) → nat_eq n (length ps) ≡ b → due_at clock (if b then Some fresh else slice_get ps n) ≡ due_at clock (slice_get ps n)
    by true e = sym (due-none clock n ps e)
    by false e = refl

abbrev pub with_slot : Node → Vec Slot → BTreeSet ℕ → Node
with_slot node slots ready =
    record {
      alloc = node.alloc;
      heap = node.heap;
      clock = node.clock;
      next_ref = node.next_ref;
      slots = slots;
      queues = node.queues;
      ready = ready;
      deadlines = node.deadlines;
      live = node.live;
      events = node.events;
    }

-- a slot that stands for a fresh process under any heap has no message, and no links
fresh-held : (heap : Heap) (s : Slot) → process_of heap s ≡ fresh → HoldsSlot heap s
fresh-held heap s is = record {
  messages = by s.mailbox.messages (ap (λ (p : Process). p.messages) is);
  links = subst Rising (sym (ap (λ (p : Process). p.links) is)) tt;
}
  where
    by : (ids : List TermId) → map (term_of heap) ids ≡ [] → All (Holds heap) ids
    by [] e = All-nil _
    by (id ∷ ids) e = absurd cc

pub adds-slot : (node : Node) (slots : Vec Slot) (s : Slot) (number : ℕ) (ready : BTreeSet ℕ) → number ≡ world.next_pid (world_of node) → ((heap : Heap) → process_of heap s ≡ fresh)
    → slots.items ≡ node.slots.items ++ s ∷ [] → Has number true node.ready ready → nodes.Adds node (with_slot node slots ready)
adds-slot node slots s number ready count is same has = record {
  is_node = λ coming old. record {
    slots' = subst (All (HoldsSlot node.heap)) (sym same) (All-push (HoldsSlot node.heap) node.slots.items s old.slots' (fresh-held node.heap s (is node.heap)));
    queues' = old.queues';
    events' = old.events';
    sets = subst (λ ps. Sets None node.clock ps ready node.deadlines) (sym more) (record {
      ready' = ready-pushed node.clock ps node.ready ready (subst (λ n. Has n true node.ready ready) count has) old.sets.ready';
      deadlines' = deadlines-pushed node.clock ps node.deadlines old.sets.deadlines';
    });
    live' = old.live' ∙ shift coming;
  };
  world = ap (λ (qs : List Process). record { node = 0; next_ref = node.next_ref; clock = node.clock; processes = qs; queue = queue_of node.heap node.queues }) more;
  events = refl;
  heap = refl;
}
  where
    ps : List Process
    ps = processes_of node.heap node.slots.items

    more : processes_of node.heap slots.items ≡ processes_of node.heap node.slots.items ++ fresh ∷ []
    more = ap (processes_of node.heap) same ∙ (map_push (process_of node.heap) node.slots.items s ∙ ap (λ p. processes_of node.heap node.slots.items ++ p ∷ []) (is node.heap))

    shift : (coming : List ℕ) → numbers_from 0 is_live ps ++ length ps ∷ coming ≡ numbers_from 0 is_live (processes_of node.heap slots.items) ++ coming
    shift coming =
        let last : length ps ≡ 0 + length ps = omega arith in
        sym (append_assoc (numbers_from 0 is_live ps) (length ps ∷ []) coming) ∙ (ap (λ ns. ns ++ coming) (ap (λ n. numbers_from 0 is_live ps ++ n ∷ []) last ∙ sym (numbers-push is_live 0 ps fresh))
        ∙ ap (λ (qs : List Process). numbers_from 0 is_live qs ++ coming) (sym more))

-- ---- signals

-- the other side round
pub at-pair-of : (p q from to : ℕ) → is_at (pair_cmp (p, q)) (from, to) ≡ (nat_eq from p && nat_eq to q)
at-pair-of p q from to = at-pair p q from to ∙ ap₂ (λ (a b : Bool). a && b) (eq-sym p from) (eq-sym q to)

-- the map has this at the pair, and else what the other has
abbrev pub SetsPair : (pair : ℕ × ℕ) → Option (VecDeque Signal Global) → (old new : BTreeMap (ℕ × ℕ) (VecDeque Signal Global)) → Type 0
SetsPair pair o old new = (q : ℕ × ℕ) → get pair_cmp new q ≡ cond (is_at (pair_cmp pair) q) o (get pair_cmp old q)

set-pair : (pair : ℕ × ℕ) (o : Option (VecDeque Signal Global)) (old new : BTreeMap (ℕ × ℕ) (VecDeque Signal Global)) → SetsPair pair o old new
    → (from to : ℕ) → get pair_cmp new (from, to) ≡ (if nat_eq from pair.0 && nat_eq to pair.1 then o else get pair_cmp old (from, to))
set-pair pair o old new sets from to = sets (from, to) ∙ ap (λ b. cond b o (get pair_cmp old (from, to))) (at-pair-of pair.0 pair.1 from to)

pub takes-queue : (node : Node) (pair : ℕ × ℕ) (queue : VecDeque Signal Global) (queues : BTreeMap (ℕ × ℕ) (VecDeque Signal Global)) → get pair_cmp node.queues pair ≡ Some queue → SetsPair pair None node.queues queues
    → TakesQueue pair node (with_queues node queues) queue
takes-queue node pair queue queues is sets = record {
  is = refl;
  queue' = sym (ap (queue_in node.heap) is);
  held = λ old. (subst (HoldsQueue node.heap) is (old.queues' pair.0 pair.1)).1;
  out = set-pair pair None node.queues queues sets;
}

pub with-queues-node : (node : Node) (queues : BTreeMap (ℕ × ℕ) (VecDeque Signal Global)) → IsNode node → ((from to : ℕ) → HoldsQueue node.heap (get pair_cmp queues (from, to))) → IsNode (with_queues node queues)
with-queues-node node queues is held = record { slots' = is.slots'; queues' = held; events' = is.events'; sets = is.sets; live' = is.live' }

pub puts-signal : (old mid : Node) (pair : ℕ × ℕ) (queue more : VecDeque Signal Global) (signal : Signal) (queues : BTreeMap (ℕ × ℕ) (VecDeque Signal Global)) → TakesQueue pair old mid queue
    → more.items ≡ queue.items ++ signal ∷ [] → SetsPair pair (Some more) mid.queues queues → Puts pair signal old (with_queues mid queues)
puts-signal old mid pair queue more signal queues takes same sets = record {
  is = ap (λ n. with_queues n queues) takes.is;
  is_node = λ is held. subst (λ n. IsNode (with_queues n queues)) (sym takes.is) (with-queues-node old queues is (λ from to. subst (HoldsQueue old.heap) (sym (got from to)) (by from to (nat_eq from pair.0 && nat_eq to pair.1) (is.queues' from to) (takes.held is) held)));
  queue = λ i. λ from to. at from to i;
}
  where
    got : (from to : ℕ) → get pair_cmp queues (from, to) ≡ (if nat_eq from pair.0 && nat_eq to pair.1 then Some more else get pair_cmp old.queues (from, to))
    got from to = set-pair pair (Some more) mid.queues queues sets from to ∙ twice (nat_eq from pair.0 && nat_eq to pair.1) (takes.out from to)
      where
        twice : (b : Bool) → get pair_cmp mid.queues (from, to) ≡ (if b then None else get pair_cmp old.queues (from, to)) → (if b then Some more else get pair_cmp mid.queues (from, to)) ≡ (if b then Some more else get pair_cmp old.queues (from, to))
        twice true e = refl
        twice false e = e

    by : (from to : ℕ) (b : Bool) → HoldsQueue old.heap (get pair_cmp old.queues (from, to)) → All (HoldsSignal old.heap) queue.items → HoldsSignal old.heap signal
        → HoldsQueue old.heap (if b then Some more else get pair_cmp old.queues (from, to))
    by from to true was each held = (omega (arith, ap length same, length-append queue.items (signal ∷ [])), subst (All (HoldsSignal old.heap)) (sym same) (All-push (HoldsSignal old.heap) queue.items signal each held))
    by from to false was each held = was

    at : (from to : ℕ) → queue_of old.heap queues from to ≡ put pair.0 pair.1 (signal_of old.heap signal) (queue_of old.heap old.queues) from to
    at from to = ap (queue_in old.heap) (got from to) ∙ here (nat_eq from pair.0 && nat_eq to pair.1) refl
      where
        here : (b : Bool) → (nat_eq from pair.0 && nat_eq to pair.1) ≡ b
            → queue_in old.heap (if b then Some more else get pair_cmp old.queues (from, to)) ≡ (if b then queue_of old.heap old.queues from to ++ signal_of old.heap signal ∷ [] else queue_of old.heap old.queues from to)
        here true e =
            let parts = and_parts (nat_eq from pair.0) (nat_eq to pair.1) e in
            ap (map (signal_of old.heap)) same ∙ (map_push (signal_of old.heap) queue.items signal
            ∙ ap (λ ss. ss ++ signal_of old.heap signal ∷ []) (takes.queue' ∙ ap₂ (queue_of old.heap old.queues) (sym (eqb-true from pair.0 parts.0)) (sym (eqb-true to pair.1 parts.1))))
        here false e = refl

-- what is left of a queue without its first signal
pub takes-signal : (old mid : Node) (pair : ℕ × ℕ) (queue : VecDeque Signal Global) (signal : Option Signal) (rest : List Signal) (left : Option (VecDeque Signal Global)) (queues : BTreeMap (ℕ × ℕ) (VecDeque Signal Global)) → IsNode old
    → TakesQueue pair old mid queue → queue.items ≡ option_to_list signal ++ rest → (signal ≡ None → rest ≡ []) → queue_in old.heap left ≡ map (signal_of old.heap) rest → (All (HoldsSignal old.heap) rest → HoldsQueue old.heap left)
    → SetsPair pair left mid.queues queues → Takes pair old (with_queues mid queues) signal
takes-signal old mid pair queue signal rest left queues is takes same none is_left holds sets = record {
  is = ap (λ n. with_queues n queues) takes.is;
  is_node = subst (λ n. IsNode (with_queues n queues)) (sym takes.is) (with-queues-node old queues is (λ from to. subst (HoldsQueue old.heap) (sym (got from to)) (by from to (nat_eq from pair.0 && nat_eq to pair.1) (is.queues' from to))));
  takes = any signal same none;
}
  where
    got : (from to : ℕ) → get pair_cmp queues (from, to) ≡ (if nat_eq from pair.0 && nat_eq to pair.1 then left else get pair_cmp old.queues (from, to))
    got from to = set-pair pair left mid.queues queues sets from to ∙ twice (nat_eq from pair.0 && nat_eq to pair.1) (takes.out from to)
      where
        twice : (b : Bool) → get pair_cmp mid.queues (from, to) ≡ (if b then None else get pair_cmp old.queues (from, to)) → (if b then left else get pair_cmp mid.queues (from, to)) ≡ (if b then left else get pair_cmp old.queues (from, to))
        twice true e = refl
        twice false e = e

    rest-held : (o : Option Signal) → All (HoldsSignal old.heap) (option_to_list o ++ rest) → All (HoldsSignal old.heap) rest
    rest-held None all = all
    rest-held (Some s) all = All-tail (HoldsSignal old.heap) s rest all

    all-held : All (HoldsSignal old.heap) (option_to_list signal ++ rest)
    all-held = subst (All (HoldsSignal old.heap)) same (takes.held is)

    by : (from to : ℕ) (b : Bool) → HoldsQueue old.heap (get pair_cmp old.queues (from, to)) → HoldsQueue old.heap (if b then left else get pair_cmp old.queues (from, to))
    by from to true was = holds (rest-held signal all-held)
    by from to false was = was

    queued : (from to : ℕ) → queue_of old.heap queues from to ≡ (if nat_eq from pair.0 && nat_eq to pair.1 then map (signal_of old.heap) rest else queue_of old.heap old.queues from to)
    queued from to = ap (queue_in old.heap) (got from to) ∙ here (nat_eq from pair.0 && nat_eq to pair.1)
      where
        here : (b : Bool) → queue_in old.heap (if b then left else get pair_cmp old.queues (from, to)) ≡ (if b then map (signal_of old.heap) rest else queue_of old.heap old.queues from to)
        here true = is_left
        here false = refl

    was : (o : Option Signal) → queue.items ≡ option_to_list o ++ rest → queue_of old.heap old.queues pair.0 pair.1 ≡ map (signal_of old.heap) (option_to_list o ++ rest)
    was o e = sym takes.queue' ∙ ap (map (signal_of old.heap)) e

    any : (o : Option Signal) → queue.items ≡ option_to_list o ++ rest → (o ≡ None → rest ≡ []) → TakesAny pair old (with_queues mid queues) o
    any None e empty =
        let nothing = was None e ∙ ap (map (signal_of old.heap)) (empty refl) in
        (nothing, λ i. λ from to. (queued from to ∙ unchanged from to (nat_eq from pair.0 && nat_eq to pair.1) refl nothing) i)
      where
        unchanged : (from to : ℕ) (b : Bool) → (nat_eq from pair.0 && nat_eq to pair.1) ≡ b → queue_of old.heap old.queues pair.0 pair.1 ≡ []
            → (if b then map (signal_of old.heap) rest else queue_of old.heap old.queues from to) ≡ queue_of old.heap old.queues from to
        unchanged from to true at nothing =
            let parts = and_parts (nat_eq from pair.0) (nat_eq to pair.1) at in
            ap (map (signal_of old.heap)) (empty refl) ∙ sym (ap₂ (queue_of old.heap old.queues) (eqb-true from pair.0 parts.0) (eqb-true to pair.1 parts.1) ∙ nothing)
        unchanged from to false at nothing = refl
    any (Some s) e empty = record {
      held = All-head (HoldsSignal old.heap) s rest (subst (All (HoldsSignal old.heap)) e (takes.held is));
      rest = map (signal_of old.heap) rest;
      was = was (Some s) e;
      queue = λ i. λ from to. queued from to i;
    }

-- ---- what events send

pub send-does : (old mid new : Node) (e : Event TermId) (pair : ℕ × ℕ) (s : Signal) → Sends old.heap e (Some (pair, s)) → Puts pair s old mid
    → Does mid new (shows (event_of mid.heap e ∷ []) (world_of mid)) → Does old new (sends (event_of old.heap e ∷ []) (world_of old))
send-does old mid new e pair s sent puts does =
    let shown : Does (with_queues old mid.queues) new (shows (event_of old.heap e ∷ []) (world_of (with_queues old mid.queues))) = subst (λ (m : Node). Does m new (shows (event_of m.heap e ∷ []) (world_of m))) puts.is does in
    record {
      is_node = shown.is_node;
      world = shown.world ∙ ap (λ (queue : world.Queue). record { node = 0; next_ref = old.next_ref; clock = old.clock; processes = processes_of old.heap old.slots.items; queue = queue }) (puts.queue ∙ sym (sent.1 (queue_of old.heap old.queues)));
      events = shown.events;
      keeps = shown.keeps;
    }

-- the event at a place is the first of those from there on
pub sends-more : (heap : Heap) (events : List (Event TermId)) (at : ℕ) (d : Event TermId) (queue : world.Queue) → at < length events
    → with_signals (events_of heap (drop at events)) queue ≡ with_signals (events_of heap (drop (at + 1) events)) (with_signal (event_of heap (get_or events at d)) queue)
sends-more heap events at d queue lt = at_drop_more (λ es. with_signals (events_of heap es) queue) events at d lt

-- what follows where a result is good
pub then-ok : {A B : Type 0} {P Q : Type 0} (r : Result A B) → (P → Q) → OnOk r P → OnOk r Q
then-ok (Ok x) f p = f p
then-ok (Err e) f p = p

pub then-if : {A B : Type 0} {P Q : A → Type 0} (r : Result A B) → ((x : A) → P x → Q x) → IfOk r P → IfOk r Q
then-if (Ok x) f p = f x p
then-if (Err e) f p = p

-- an empty rest
pub nothing-left : (q : VecDeque Signal Global) → q.len ≡ 0 → q.items ≡ []
nothing-left q e = nil_from_length q.items (omega (arith, q.ok.0))

pub none-left : (signals : List Signal) (o : Option Signal) (rest : List Signal) → (o ≡ None → signals ≡ []) → signals ≡ option_to_list o ++ rest → o ≡ None → rest ≡ []
none-left signals o rest empty same none = sym (ap (λ o. option_to_list o ++ rest) none) ∙ (sym same ∙ empty none)

pub holds-rest : (heap : Heap) (rest : VecDeque Signal Global) (r : Bool) → r ≡ nat_eq rest.len 0 → r ≡ false → All (HoldsSignal heap) rest.items → HoldsQueue heap (Some rest)
holds-rest heap rest r e other all = (omega (arith, rest.ok.0, some), all)
  where
    some : rest.len ≡ 0 → ⊥
    some is = by (sym other ∙ (e ∙ eq-eqb rest.len 0 is))
      where
        by : false ≡ true → ⊥
        by e = cc

pub none-same : (old mid : Node) (pair : ℕ × ℕ) (queue : VecDeque Signal Global) → TakesQueue pair old mid queue → SetsPair pair None mid.queues mid.queues
none-same old mid pair queue takes q = by (nat_eq q.0 pair.0 && nat_eq q.1 pair.1) (at-pair-of pair.0 pair.1 q.0 q.1) (takes.out q.0 q.1)
  where
    by : (b : Bool) → is_at (pair_cmp pair) q ≡ b → get pair_cmp mid.queues q ≡ (if b then None else get pair_cmp old.queues q) → get pair_cmp mid.queues q ≡ cond (is_at (pair_cmp pair) q) None (get pair_cmp mid.queues q)
    by true e out = out ∙ sym (ap (λ b. cond b None (get pair_cmp mid.queues q)) e)
    by false e out = sym (ap (λ b. cond b None (get pair_cmp mid.queues q)) e)

-- ---- the signal of the event at a place

pub sends-at : (old mid : Node) (at : ℕ) (e : Event TermId) (pair : ℕ × ℕ) (s : Signal) → IsNode old → at < length old.events.items → e ≡ get_or old.events.items at e → Sends old.heap e (Some (pair, s)) → Puts pair s old mid → SendsAt at old mid
sends-at old mid at e pair s is lt same sent puts = record {
  is = puts.is;
  is_node = puts.is_node is sent.0;
  queue = λ d. puts.queue ∙ (sym (sent.1 (queue_of old.heap old.queues)) ∙ ap (λ (e : Event TermId). with_signal (event_of old.heap e) (queue_of old.heap old.queues)) (same ∙ get_or_default old.events.items at e d lt));
}

pub held-at : (node : Node) (at : ℕ) (e : Event TermId) → IsNode node → at < length node.events.items → e ≡ get_or node.events.items at e → HoldsEvent node.heap e
held-at node at e is lt same = subst (HoldsEvent node.heap) (sym same) (All-get_or (HoldsEvent node.heap) node.events.items at e lt is.events')

-- so far some are sent, and the rest are to be
pub record SentFrom (first at : ℕ) (old new : Node) : Type 0 where
  pub is : new ≡ with_queues old new.queues
  pub is_node : IsNode new
  pub queue : with_signals (events_of old.heap (drop at old.events.items)) (queue_of old.heap new.queues) ≡ with_signals (events_of old.heap (drop first old.events.items)) (queue_of old.heap old.queues)

pub sent-more : (first at : ℕ) (old mid new : Node) (d : Event TermId) → at < length old.events.items → SentFrom first at old mid → SendsAt at mid new → SentFrom first (at + 1) old new
sent-more first at old mid new d lt so_far one = with_mid mid.queues (subst (λ (m : Node). SendsAt at m new) so_far.is one) refl
  where
    with_mid : (queues : BTreeMap (ℕ × ℕ) (VecDeque Signal Global)) → SendsAt at (with_queues old queues) new → mid.queues ≡ queues → SentFrom first (at + 1) old new
    with_mid queues one e = record {
      is = one.is;
      is_node = one.is_node;
      queue = ap (with_signals (events_of old.heap (drop (at + 1) old.events.items))) (one.queue d) ∙ (sym (sends-more old.heap old.events.items at d (queue_of old.heap queues) lt)
          ∙ subst (λ q. with_signals (events_of old.heap (drop at old.events.items)) (queue_of old.heap q) ≡ with_signals (events_of old.heap (drop first old.events.items)) (queue_of old.heap old.queues)) e so_far.queue);
    }
