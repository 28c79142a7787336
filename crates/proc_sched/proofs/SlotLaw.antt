-- What a node stands for, as the slot of one process changes.
use Rattle.std.proofs.Common.{◌≡◌, ℕ, zero, suc, ◌+◌, ◌<◌, Bool, true, false, not, nat_eq, List, [], ◌∷◌, length, get_or, Option, None, Some, refl, sym, ap, subst, ◌∙◌, arith, ◌⊎◌, inl, inr}
use Rattle.std.specs.Prelude.{slice_get, slice_set, unwrap_or, option_map, if◌then◌else◌}
use Rattle.std.specs.BTreeSet.{BTreeSet}
use Rattle.std.specs.Global.{Vec}
use Rattle.std.specs.List.{All, filter}
use Rattle.std.proofs.lemmas.Bool.{eq-eqb, ne_eqb, cond-true, cond-false, cases_eq}
use Rattle.std.proofs.lemmas.List.{append-nil, map-set, map_push, length-map}
use Rattle.std.proofs.lemmas.List.Elements.{All-set, All-push, All-get_or}
use Rattle.std.proofs.lemmas.Option.{slice_get-map, slice_get_read, slice_get_within}
use Rattle.ej_world.specs.Choices.{holds, without_number}
use Rattle.ej_world.specs.Delivery.{without_link, is_linked}
use Rattle.ej_world.specs.World.{Process, Status, Running, Waiting, Ended, is_live, is_ready_in, numbers_from, with_process, with_links, with_message, with_status}
use Rattle.ej_world.proofs.SoundDelivery.{get_set}
use Rattle.ej_term.specs.Term.{Term}
use Rattle.mailbox.specs.Mailbox.{Seen, pushed}
use Rattle.term_heap.specs.declared.cell.TermId.{TermId}
use Rattle.term_heap.specs.declared.heap.Heap.{Heap}
use Rattle.term_heap.specs.View.{Holds, term_of}
use Rattle.proc_sched.specs.declared.node.Node.{Node}
use Rattle.proc_sched.specs.declared.slot.Slot.{Slot}
use Rattle.proc_sched.specs.declared.slot.Status as slot
use Rattle.proc_sched.specs.declared.slot.Status.TheVariants as status
use Rattle.proc_sched.specs.Nodes.{live_at, shows, DoesAlone, Unlinks, Buries, Leaves, Enters, SetsOf}
use Rattle.proc_sched.specs.Stands.{Sets, IsNode, Does, HoldsSlot, Rising, process_of, processes_of, world_of, queue_of, seen_of, ready_at, due_at}
use Rattle.proc_sched.proofs.NodeLaw.{same-heap}
use Rattle.proc_sched.proofs.Rises.{without-below, rising-without}
use Rattle.proc_sched.proofs.Setting.{SameBut, sets-same, same-set, set-other, rising-numbers, ready-stays-out, deadline-stays-out}

-- ---- lists in which one element is another

pub some-same : {A : Type 0} (x y : A) → Some x ≡ Some y → x ≡ y
some-same x y e = ap (λ o. unwrap_or o x) e

-- the element that is there
set-same : {A : Type 0} (xs : List A) (k : ℕ) (x : A) → slice_get xs k ≡ Some x → slice_set xs k x ≡ xs
set-same [] k x at = refl
set-same (y ∷ xs) zero x at = ap (λ z. z ∷ xs) (some-same x y (sym at))
set-same (y ∷ xs) (suc k) x at = ap (λ zs. y ∷ zs) (set-same xs k x at)

-- a process that passes as the one before it
pub numbers-same : (test : Process → Bool) (number k : ℕ) (ps : List Process) (p q : Process) → slice_get ps k ≡ Some p → test q ≡ test p → numbers_from number test (slice_set ps k q) ≡ numbers_from number test ps
numbers-same test number k [] p q at same = refl
numbers-same test number zero (r ∷ ps) p q at same =
    ap (λ b. if b then number ∷ numbers_from (number + 1) test ps else numbers_from (number + 1) test ps) (same ∙ ap test (sym (some-same r p at)))
numbers-same test number (suc k) (r ∷ ps) p q at same =
    ap (λ ns. if test r then number ∷ ns else ns) (numbers-same test (number + 1) k ps p q at same)

-- a process that does not pass
numbers-without : (test : Process → Bool) (number k n : ℕ) (ps : List Process) (q : Process) → n ≡ number + k → test q ≡ false → numbers_from number test (slice_set ps k q) ≡ without_number n (numbers_from number test ps)
numbers-without test number k n [] q is fails = refl
numbers-without test number zero n (r ∷ ps) q is fails = cond-false (test q) _ _ fails ∙ sym (by (test r))
  where
    rest : List ℕ
    rest = numbers_from (number + 1) test ps

    below : without_number n rest ≡ rest
    below = without-below n (number + 1) rest (omega (arith, is)) (rising-numbers test (number + 1) ps)

    by : (b : Bool) → without_number n (if b then number ∷ rest else rest) ≡ rest
    by true = cond-true (nat_eq n number) _ _ (eq-eqb n number (omega (arith, is))) ∙ below
    by false = below
numbers-without test number (suc k) n (r ∷ ps) q is fails = by (test r) (numbers-without test (number + 1) k n ps q (omega (arith, is)) fails)
  where
    old : List ℕ
    old = numbers_from (number + 1) test ps

    new : List ℕ
    new = numbers_from (number + 1) test (slice_set ps k q)

    by : (b : Bool) → new ≡ without_number n old → (if b then number ∷ new else new) ≡ without_number n (if b then number ∷ old else old)
    by true e = ap (λ ns. number ∷ ns) e ∙ sym (cond-false (nat_eq n number) _ _ (ne_eqb n number (λ f. omega (arith, is))))
    by false e = e

-- numbers without one are those that are not it
without-filter : (n : ℕ) (ns : List ℕ) → without_number n ns ≡ filter (λ m. not (nat_eq n m)) ns
without-filter n [] = refl
without-filter n (m ∷ ms) = by (nat_eq n m) (without-filter n ms)
  where
    by : (b : Bool) → without_number n ms ≡ filter (λ m. not (nat_eq n m)) ms
        → (if b then without_number n ms else m ∷ without_number n ms) ≡ (if not b then m ∷ filter (λ m. not (nat_eq n m)) ms else filter (λ m. not (nat_eq n m)) ms)
    by true e = e
    by false e = ap (λ ns. m ∷ ns) e

-- ---- one slot

-- a node with other slots, sets and live numbers
abbrev pub changed : Node → Vec Slot → BTreeSet ℕ → BTreeSet (ℕ × ℕ) → Vec ℕ → Node
changed node slots ready deadlines live =
    record {
      alloc = node.alloc;
      heap = node.heap;
      clock = node.clock;
      next_ref = node.next_ref;
      slots = slots;
      queues = node.queues;
      ready = ready;
      deadlines = deadlines;
      live = live;
      events = node.events;
    }

-- the process of that number
pub found : (node : Node) (number : ℕ) (was : Slot) → number < length node.slots.items → was ≡ get_or node.slots.items number was → slice_get (world_of node).processes number ≡ Some (process_of node.heap was)
found node number was lt is =
    slice_get-map (process_of node.heap) node.slots.items number ∙ ap (option_map (process_of node.heap)) (slice_get_read node.slots.items (length node.slots.items) number was refl lt is)

-- and what its slot holds
slot-held : (node : Node) (number : ℕ) (was : Slot) → IsNode node → number < length node.slots.items → was ≡ get_or node.slots.items number was → HoldsSlot node.heap was
slot-held node number was is lt same = subst (HoldsSlot node.heap) (sym same) (All-get_or (HoldsSlot node.heap) node.slots.items number was lt is.slots')

-- the processes of the slots, one of which is another
pub processes-set : (heap : Heap) (old new : List Slot) (number : ℕ) (s : Slot) (p : Process) → process_of heap s ≡ p → new ≡ slice_set old number s → processes_of heap new ≡ slice_set (processes_of heap old) number p
processes-set heap old new number s p is same =
    ap (processes_of heap) same ∙ (map-set (process_of heap) old number s ∙ ap (slice_set (processes_of heap old) number) is)

-- one process is another, with the sets and the live numbers that belong to it
slot-does : (node : Node) (number : ℕ) (slots : Vec Slot) (s : Slot) (p : Process) (ready : BTreeSet ℕ) (deadlines : BTreeSet (ℕ × ℕ)) (live : Vec ℕ) → IsNode node → HoldsSlot node.heap s → process_of node.heap s ≡ p
    → slots.items ≡ slice_set node.slots.items number s → Sets None node.clock (processes_of node.heap slots.items) ready deadlines
    → live.items ≡ numbers_from 0 is_live (slice_set (processes_of node.heap node.slots.items) number p)
    → Does node (changed node slots ready deadlines live) (shows [] (with_process (world_of node) number p))
slot-does node number slots s p ready deadlines live is held stands same sets lives = record {
  is_node = record {
    slots' = subst (All (HoldsSlot node.heap)) (sym same) (All-set (HoldsSlot node.heap) node.slots.items number s held is.slots');
    queues' = is.queues';
    events' = is.events';
    sets = sets;
    live' = lives ∙ (ap (numbers_from 0 is_live) (sym processes) ∙ sym (append-nil _));
  };
  world = ap (λ (qs : List Process). record { node = 0; next_ref = node.next_ref; clock = node.clock; processes = qs; queue = queue_of node.heap node.queues }) processes;
  events = sym (append-nil (seen_of node));
  keeps = same-heap node.heap;
}
  where
    processes : processes_of node.heap slots.items ≡ slice_set (processes_of node.heap node.slots.items) number p
    processes = processes-set node.heap node.slots.items slots.items number s p stands same

-- the live numbers stay, where the process is live as before
live-same : (node : Node) (number : ℕ) (p q : Process) → IsNode node → slice_get (world_of node).processes number ≡ Some p → is_live q ≡ is_live p → node.live.items ≡ numbers_from 0 is_live (slice_set (processes_of node.heap node.slots.items) number q)
live-same node number p q is at same =
    is.live' ∙ (append-nil _ ∙ sym (numbers-same is_live 0 number (processes_of node.heap node.slots.items) p q at same))

-- a process changes between leaving the sets and entering them
pub slot-changes : (old mid new : Node) (number : ℕ) (slots : Vec Slot) (was s : Slot) (change : Process → Process) → IsNode old → Leaves number old mid → number < length old.slots.items → was ≡ get_or mid.slots.items number was
    → slots.items ≡ slice_set mid.slots.items number s → (HoldsSlot old.heap was → HoldsSlot old.heap s) → process_of old.heap s ≡ change (process_of old.heap was) → is_live (process_of old.heap s) ≡ is_live (process_of old.heap was)
    → Enters number (changed mid slots mid.ready mid.deadlines mid.live) new → DoesAlone number old new (λ q. shows [] (with_process (world_of old) number (change q)))
slot-changes old mid new number slots was s change is leaves lt index same held stands lives enters = record {
  heap = ap (λ (n : Node). n.heap) entered.is;
  does = λ q at. subst (λ (p : Process). Does old new (shows [] (with_process (world_of old) number (change p)))) (some-same _ q (sym here ∙ at)) does;
}
  where
    at-old : was ≡ get_or old.slots.items number was
    at-old = subst (λ (m : Node). was ≡ get_or m.slots.items number was) leaves.is index

    set-old : slots.items ≡ slice_set old.slots.items number s
    set-old = subst (λ (m : Node). slots.items ≡ slice_set m.slots.items number s) leaves.is same

    here : slice_get (world_of old).processes number ≡ Some (process_of old.heap was)
    here = found old number was lt at-old

    left : Sets (Some number) old.clock (processes_of old.heap old.slots.items) mid.ready mid.deadlines
    left = subst (SetsOf (Some number)) leaves.is (leaves.out is.sets)

    entered : Enters number (changed old slots mid.ready mid.deadlines old.live) new
    entered = subst (λ (m : Node). Enters number (changed m slots mid.ready mid.deadlines m.live) new) leaves.is enters

    set-left : Sets (Some number) old.clock (processes_of old.heap slots.items) mid.ready mid.deadlines
    set-left =
        subst (λ qs. Sets (Some number) old.clock qs mid.ready mid.deadlines) (sym (processes-set old.heap old.slots.items slots.items number s (process_of old.heap s) refl set-old))
        (sets-same (Some number) old.clock (processes_of old.heap old.slots.items) _ mid.ready mid.deadlines (same-set old.clock (processes_of old.heap old.slots.items) number (process_of old.heap s)) left)

    sets : Sets None old.clock (processes_of old.heap slots.items) new.ready new.deadlines
    sets = subst (SetsOf None) entered.is (entered.in' set-left)

    does : Does old new (shows [] (with_process (world_of old) number (change (process_of old.heap was))))
    does =
        subst (λ (n : Node). Does old n (shows [] (with_process (world_of old) number (change (process_of old.heap was))))) (sym entered.is)
        (slot-does old number slots s (change (process_of old.heap was)) new.ready new.deadlines old.live is (held (slot-held old number was is lt at-old)) stands set-old sets
        (live-same old number (process_of old.heap was) (change (process_of old.heap was)) is here (sym (ap is_live stands) ∙ lives)))

-- ---- a message more

abbrev pub with_box : Slot → Seen → Slot
with_box s box = record { status = s.status; mailbox = box; links = s.links; trapping = s.trapping; timer = s.timer }

-- the process has the message
pub message-put : (heap : Heap) (s : Slot) (box : Seen) (message : TermId) → box ≡ pushed message s.mailbox → process_of heap (with_box s box) ≡ with_message (process_of heap s) (term_of heap message)
message-put heap s box message is =
    ap (λ b. process_of heap (with_box s b)) is ∙ ap (λ (ts : List Term). process ts) (map_push (term_of heap) s.mailbox.messages message)
  where
    process : List Term → Process
    process messages = record { status = (process_of heap s).status; messages = messages; save = s.mailbox.save; links = s.links.items; trapping = s.trapping; timer = s.timer }

-- and holds its id
pub message-held : (heap : Heap) (s : Slot) (box : Seen) (message : TermId) → box ≡ pushed message s.mailbox → Holds heap message → HoldsSlot heap s → HoldsSlot heap (with_box s box)
message-held heap s box message is one held =
    subst (λ b. HoldsSlot heap (with_box s b)) (sym is) (record { messages = All-push (Holds heap) s.mailbox.messages message held.messages one; links = held.links })

-- ---- links

abbrev pub with_slot_links : Slot → Vec ℕ → Slot
with_slot_links s links = record { status = s.status; mailbox = s.mailbox; links = links; trapping = s.trapping; timer = s.timer }

-- links are nothing to the sets
links-same : (clock number : ℕ) (ps : List Process) (p : Process) (links : List ℕ) → slice_get ps number ≡ Some p → SameBut None clock ps (slice_set ps number (with_links p links))
links-same clock number ps p links at n is = by (cases_eq n number)
  where
    ready : (status : Status) → is_ready_in clock (with_links p links) status ≡ is_ready_in clock p status
    ready Running = refl
    ready Waiting = refl
    ready Ended = refl

    by : (n ≡ number) ⊎ (n ≡ number → ⊥)
        → (ready_at clock (slice_get (slice_set ps number (with_links p links)) n) ≡ ready_at clock (slice_get ps n)) × (due_at clock (slice_get (slice_set ps number (with_links p links)) n) ≡ due_at clock (slice_get ps n))
    by (inl e) =
        let old : slice_get ps n ≡ Some p = ap (slice_get ps) e ∙ at in
        let new : slice_get (slice_set ps number (with_links p links)) n ≡ Some (with_links p links) = ap (slice_get (slice_set ps number (with_links p links))) e ∙ get_set ps number p (with_links p links) at in
        (ap (ready_at clock) new ∙ (ready p.status ∙ sym (ap (ready_at clock) old)), ap (due_at clock) new ∙ sym (ap (due_at clock) old))
    by (inr ne) =
        let same = set-other ps number n (with_links p links) ne in
        (ap (ready_at clock) same, ap (due_at clock) same)

-- a process with other links
links-does : (node : Node) (number : ℕ) (slots : Vec Slot) (was : Slot) (links : Vec ℕ) → IsNode node → number < length node.slots.items → was ≡ get_or node.slots.items number was
    → slots.items ≡ slice_set node.slots.items number (with_slot_links was links) → Rising links.items
    → Does node (changed node slots node.ready node.deadlines node.live) (shows [] (with_process (world_of node) number (with_links (process_of node.heap was) links.items)))
links-does node number slots was links is lt index same rising =
    let here = found node number was lt index in
    let new = with_links (process_of node.heap was) links.items in
    slot-does node number slots (with_slot_links was links) new node.ready node.deadlines node.live is
    (record { messages = (slot-held node number was is lt index).messages; links = rising }) refl same
    (subst (λ qs. Sets None node.clock qs node.ready node.deadlines) (sym (processes-set node.heap node.slots.items slots.items number (with_slot_links was links) new refl same))
    (sets-same None node.clock (processes_of node.heap node.slots.items) _ node.ready node.deadlines (links-same node.clock number (processes_of node.heap node.slots.items) (process_of node.heap was) links.items here) is.sets))
    (live-same node number (process_of node.heap was) new is here refl)

-- it is not there
pub unlinks-none : (node : Node) (from to : ℕ) (slots : Vec Slot) (was : Slot) → IsNode node → to < length node.slots.items → was ≡ get_or node.slots.items to was → slots.items ≡ slice_set node.slots.items to was → false ≡ holds was.links.items from
    → Unlinks from to node (changed node slots node.ready node.deadlines node.live) false
unlinks-none node from to slots was is lt index same lacks = record {
  does = record {
    heap = refl;
    does = λ q at. subst (λ w. Does node (changed node slots node.ready node.deadlines node.live) (shows [] w)) unchanged (links-does node to slots was was.links is lt index same (slot-held node to was is lt index).links);
  };
  was' = λ q at. lacks ∙ ap (λ (p : Process). is_linked p from) (some-same _ q (sym here ∙ at));
}
  where
    here : slice_get (world_of node).processes to ≡ Some (process_of node.heap was)
    here = found node to was lt index

    unchanged : with_process (world_of node) to (process_of node.heap was) ≡ world_of node
    unchanged = ap (λ (qs : List Process). record { node = 0; next_ref = node.next_ref; clock = node.clock; processes = qs; queue = queue_of node.heap node.queues }) (set-same _ to _ here)

-- it is there, and is taken out
pub unlinks-one : (node : Node) (from to : ℕ) (slots : Vec Slot) (was : Slot) (links : Vec ℕ) → IsNode node → to < length node.slots.items → was ≡ get_or node.slots.items to was
    → slots.items ≡ slice_set node.slots.items to (with_slot_links was links) → links.items ≡ without_number from was.links.items → true ≡ holds was.links.items from
    → Unlinks from to node (changed node slots node.ready node.deadlines node.live) true
unlinks-one node from to slots was links is lt index same without has = record {
  does = record {
    heap = refl;
    does = λ q at. subst (λ (p : Process). Does node (changed node slots node.ready node.deadlines node.live) (shows [] (with_process (world_of node) to p))) (one q (some-same _ q (sym here ∙ at)))
        (links-does node to slots was links is lt index same (subst Rising (sym without) (rising-without from 0 was.links.items (slot-held node to was is lt index).links)));
  };
  was' = λ q at. has ∙ ap (λ (p : Process). is_linked p from) (some-same _ q (sym here ∙ at));
}
  where
    here : slice_get (world_of node).processes to ≡ Some (process_of node.heap was)
    here = found node to was lt index

    one : (q : Process) → process_of node.heap was ≡ q → with_links (process_of node.heap was) links.items ≡ without_link q from
    one q e = ap (with_links (process_of node.heap was)) (without ∙ without-filter from was.links.items) ∙ ap (λ (p : Process). without_link p from) e

-- ---- the end of a process

-- the live numbers rise
pub live-rising : (old mid : Node) (number : ℕ) → IsNode old → Leaves number old mid → Rising mid.live.items
live-rising old mid number is leaves =
    subst (λ (m : Node). Rising m.live.items) (sym leaves.is) (subst Rising (sym (is.live' ∙ append-nil _)) (rising-numbers is_live 0 (processes_of old.heap old.slots.items)))

-- a live process is there
pub live-within : (node : Node) (number : ℕ) → live_at (slice_get (world_of node).processes number) ≡ true → number < length node.slots.items
live-within node number live = by (slice_get (world_of node).processes number) refl live
  where
    by : (o : Option Process) → slice_get (world_of node).processes number ≡ o → live_at o ≡ true → number < length node.slots.items
    by None at e = absurd cc
    by (Some q) at e = subst (λ n. number < n) (length-map node.slots.items (process_of node.heap)) (slice_get_within (world_of node).processes number q at)

abbrev pub with_slot_status : Slot → slot.Status → Slot
with_slot_status s status = record { status = status; mailbox = s.mailbox; links = s.links; trapping = s.trapping; timer = s.timer }

-- the status, and then the live numbers without its own
pub buries : (old mid : Node) (number : ℕ) (slots : Vec Slot) (was : Slot) (live : Vec ℕ) → IsNode old → Leaves number old mid → live_at (slice_get (world_of old).processes number) ≡ true → was ≡ get_or mid.slots.items number was
    → slots.items ≡ slice_set mid.slots.items number (with_slot_status was status.Ended) → live.items ≡ without_number number mid.live.items → Buries number old (changed mid slots mid.ready mid.deadlines live)
buries old mid number slots was live is leaves lives index same without = record {
  heap = ap (λ (n : Node). n.heap) leaves.is;
  does = λ q at. subst (λ (p : Process). Does old (changed mid slots mid.ready mid.deadlines live) (shows [] (with_process (world_of old) number (with_status p Ended)))) (some-same _ q (sym here ∙ at)) does;
}
  where
    lt : number < length old.slots.items
    lt = live-within old number lives

    at-old : was ≡ get_or old.slots.items number was
    at-old = subst (λ (m : Node). was ≡ get_or m.slots.items number was) leaves.is index

    set-old : slots.items ≡ slice_set old.slots.items number (with_slot_status was status.Ended)
    set-old = subst (λ (m : Node). slots.items ≡ slice_set m.slots.items number (with_slot_status was status.Ended)) leaves.is same

    here : slice_get (world_of old).processes number ≡ Some (process_of old.heap was)
    here = found old number was lt at-old

    ended : Process
    ended = with_status (process_of old.heap was) Ended

    ps : List Process
    ps = processes_of old.heap old.slots.items

    left : Sets (Some number) old.clock ps mid.ready mid.deadlines
    left = subst (SetsOf (Some number)) leaves.is (leaves.out is.sets)

    after : Sets (Some number) old.clock (slice_set ps number ended) mid.ready mid.deadlines
    after = sets-same (Some number) old.clock ps _ mid.ready mid.deadlines (same-set old.clock ps number ended) left

    there : slice_get (slice_set ps number ended) number ≡ Some ended
    there = get_set ps number (process_of old.heap was) ended here

    sets : Sets None old.clock (slice_set ps number ended) mid.ready mid.deadlines
    sets = record {
      ready' = ready-stays-out old.clock (slice_set ps number ended) number mid.ready (ap (ready_at old.clock) there) after.ready';
      deadlines' = deadline-stays-out old.clock (slice_set ps number ended) number mid.deadlines (ap (due_at old.clock) there) after.deadlines';
    }

    live-old : live.items ≡ numbers_from 0 is_live (slice_set ps number ended)
    live-old =
        subst (λ (m : Node). live.items ≡ without_number number m.live.items) leaves.is without
        ∙ (ap (without_number number) (is.live' ∙ append-nil _) ∙ sym (numbers-without is_live 0 number number ps ended (omega arith) refl))

    does : Does old (changed mid slots mid.ready mid.deadlines live) (shows [] (with_process (world_of old) number ended))
    does =
        let held = slot-held old number was is lt at-old in
        subst (λ (m : Node). Does old (changed m slots mid.ready mid.deadlines live) (shows [] (with_process (world_of old) number ended))) (sym leaves.is)
        (slot-does old number slots (with_slot_status was status.Ended) ended mid.ready mid.deadlines live is (record { messages = held.messages; links = held.links }) refl set-old
        (subst (λ qs. Sets None old.clock qs mid.ready mid.deadlines) (sym (processes-set old.heap old.slots.items slots.items number (with_slot_status was status.Ended) ended refl set-old)) sets) live-old)
