-- What is behind a turn of a process that is ready.
use Rattle.std.proofs.Common.{◌≡◌, ℕ, zero, suc, ◌+◌, ◌<◌, ◌≤◌, true, List, [], ◌∷◌, ◌++◌, length, map, get_or, Option, None, Some, option_map, refl, sym, ap, ap₂, subst, ◌∙◌, arith}
use Rattle.std.specs.Prelude.{slice_get, slice_set}
use Rattle.std.specs.BTreeSet.{BTreeSet}
use Rattle.std.specs.Global.{Vec}
use Rattle.std.specs.List.{All}
use Rattle.std.proofs.lemmas.List.{append-nil, length-map, length-set, map-set, set-set}
use Rattle.std.proofs.lemmas.List.Elements.{All-get_or, All-set}
use Rattle.std.proofs.lemmas.Option.{slice_get-map, slice_get_within, get_or_from_slice_get}
use Rattle.ej_world.specs.declared.event.Event.{Event}
use Rattle.ej_world.specs.Agree.{may_turn}
use Rattle.ej_world.specs.Choices as world
use Rattle.ej_world.specs.Choices.{Code, Turned}
use Rattle.ej_world.specs.Lawful.{States, MeetsView, LawfulTurn, Lawful, made}
use Rattle.ej_world.specs.Sound.{SoundAll}
use Rattle.ej_world.specs.World as worlds
use Rattle.ej_world.specs.World.{Process, World, is_live, is_ready, numbers_from}
use Rattle.ej_world.proofs.SoundLaw.{ready-live, ready-turn, ready-state, view_meets, state_meets}
use Rattle.mailbox.specs.Mailbox.{Seen}
use Rattle.term_heap.specs.declared.cell.TermId.{TermId}
use Rattle.term_heap.specs.declared.heap.Heap.{Heap}
use Rattle.term_heap.specs.Held.{HoldsEach, terms_at}
use Rattle.term_heap.specs.View.{Keeps}
use Rattle.proc_sched.specs.declared.node.Node.{Node}
use Rattle.proc_sched.specs.declared.slot.Slot.{Slot}
use Rattle.proc_sched.specs.declared.view.Outcome.{Outcome}
use Rattle.proc_sched.specs.declared.view.Outcome.TheVariants as outcome
use Rattle.proc_sched.specs.declared.view.View.{View}
use Rattle.proc_sched.specs.Calls.{Held, Meant, StaysSame, MayTurn, StateAfter, IsTurned, Turns}
use Rattle.proc_sched.specs.Freed.{left, freed, IsFreed}
use Rattle.proc_sched.specs.Nodes.{Leaves, Enters, SetsOf, with_sets}
use Rattle.proc_sched.specs.Seen.{events_of, HoldsEvents, view_of, HoldsView, outcome_of, HoldsOutcome}
use Rattle.proc_sched.specs.Stands.{Sets, IsNode, IsNodeBut, HoldsSlot, Rising, process_of, processes_of, world_of, ready_at}
use Rattle.proc_sched.specs.Systems.{kept, meant, system_of, HoldsState, IsSystem, process_behind, IsBehind, GoesBehind}
use Rattle.proc_sched.specs.Turning.{Lends, LendsSlot, TakesBack, slot_behind, with_returned}
use Rattle.proc_sched.proofs.Kept.{with_heap, kept-slots, held-slots, kept-queues, held-queue}
use Rattle.proc_sched.proofs.Rises.{rising-within}
use Rattle.proc_sched.proofs.Setting.{sets-same, same-set}
use Rattle.proc_sched.proofs.SlotLaw.{some-same, numbers-same, processes-set}
use Rattle.proc_sched.proofs.SystemLaw.{states-held, states-same}

-- ---- the process and its slot

pub record HasSlot (heap : Heap) (slots : List Slot) (number : ℕ) (p : Process) : Type 0 where
  pub slot : Slot
  pub at : slice_get slots number ≡ Some slot
  pub is : process_of heap slot ≡ p

pub slot-found : (heap : Heap) (slots : List Slot) (number : ℕ) (p : Process) → slice_get (processes_of heap slots) number ≡ Some p → HasSlot heap slots number p
slot-found heap slots number p at = by (slice_get slots number) refl (sym (slice_get-map (process_of heap) slots number) ∙ at)
  where
    by : (o : Option Slot) → slice_get slots number ≡ o → option_map (process_of heap) o ≡ Some p → HasSlot heap slots number p
    by None e same = absurd cc
    by (Some s) e same = record { slot = s; at = e; is = cc }

-- what holds of each element holds of the one that is there
all-there : {A : Type 0} (P : A → Type 0) (xs : List A) (k : ℕ) (x : A) → slice_get xs k ≡ Some x → All P xs → P x
all-there P xs k x at all = subst P (get_or_from_slice_get xs k x x at) (All-get_or P xs k x (slice_get_within xs k x at) all)

-- ---- what is lent

module _ (old mid lent : Node) (number : ℕ) (v : View) (p : Process) (is : IsNode old) (leaves : Leaves number old mid) (lends : Lends number mid lent v) (at : slice_get (world_of old).processes number ≡ Some p) where
  own : HasSlot old.heap old.slots.items number p
  own = slot-found old.heap old.slots.items number p at

  from : LendsSlot own.slot v
  from = lends.slot own.slot (ap (λ (n : Node). slice_get n.slots.items number) leaves.is ∙ own.at)

  lent-heap : lent.heap ≡ old.heap
  lent-heap = ap (λ (n : Node). n.heap) lends.is ∙ ap (λ (n : Node). n.heap) leaves.is

  lent-view : view_of old.heap v ≡ world.view_of (world_of old) number p
  lent-view = λ i. record {
    me = lends.me i;
    clock = (lends.clock ∙ ap (λ (n : Node). n.clock) leaves.is) i;
    next_pid = (lends.next_pid ∙ (ap (λ (n : Node). length n.slots.items) leaves.is ∙ sym (length-map old.slots.items (process_of old.heap)))) i;
    next_ref = (lends.next_ref ∙ ap (λ (n : Node). n.next_ref) leaves.is) i;
    trapping = (from.trapping ∙ ap (λ (q : Process). q.trapping) own.is) i;
    timer = (from.timer ∙ ap (λ (q : Process). q.timer) own.is) i;
    messages = (ap (λ (m : Seen). terms_at old.heap m.messages) from.mailbox ∙ ap (λ (q : Process). q.messages) own.is) i;
    save = (ap (λ (m : Seen). m.save) from.mailbox ∙ ap (λ (q : Process). q.save) own.is) i;
    links = (ap (λ (ns : Vec ℕ). ns.items) from.links ∙ ap (λ (q : Process). q.links) own.is) i;
    live = (ap (λ (ns : Vec ℕ). ns.items) lends.live ∙ (ap (λ (n : Node). n.live.items) leaves.is ∙ (is.live' ∙ append-nil _))) i;
  }

  lent-held : HoldsView old.heap v
  lent-held = record {
    messages = subst (λ (m : Seen). HoldsEach old.heap m.messages) (sym from.mailbox) (all-there (HoldsSlot old.heap) old.slots.items number own.slot own.at is.slots').messages;
    events = subst (λ (es : Vec (Event TermId)). HoldsEvents old.heap es.items) (sym (lends.events ∙ ap (λ (n : Node). n.events) leaves.is)) is.events';
  }

-- ---- the node behind a turn

abbrev behind-node : Node → Heap → View → Vec Slot → BTreeSet ℕ → BTreeSet (ℕ × ℕ) → Node
behind-node old heap w slots ready deadlines =
    record {
      alloc = old.alloc;
      heap = heap;
      clock = old.clock;
      next_ref = w.next_ref;
      slots = slots;
      queues = old.queues;
      ready = ready;
      deadlines = deadlines;
      live = w.live;
      events = w.events;
    }

abbrev changed-world : World → (number : ℕ) → world.Outcome → world.View → World
changed-world old number outcome u = record { node = old.node; next_ref = u.next_ref; clock = old.clock; processes = slice_set old.processes number (process_behind outcome u); queue = old.queue }

slot-process : (heap : Heap) (w : View) (o : Outcome) → process_of heap (slot_behind w o) ≡ process_behind (outcome_of heap o) (view_of heap w)
slot-process heap w outcome.Runs = refl
slot-process heap w outcome.Waits = refl
slot-process heap w (outcome.Ended reason) = refl

live-behind : (outcome : world.Outcome) (u : world.View) → is_live (process_behind outcome u) ≡ true
live-behind world.Runs u = refl
live-behind world.Waits u = refl
live-behind (world.Ends reason) u = refl

pub record NodeBehind (old new : Node) (heap : Heap) (number : ℕ) (w : View) (o : Outcome) (coming : List ℕ) : Type 0 where
  pub heap' : new.heap ≡ heap
  pub events : new.events ≡ w.events
  pub is_node : IsNodeBut None coming new
  pub world : world_of new ≡ changed-world (world_of old) number (outcome_of heap o) (view_of heap w)

node-behind : (old mid lent behind new : Node) (heap : Heap) (number : ℕ) (v w : View) (o : Outcome) (p : Process) (coming : List ℕ) → IsNode old → Leaves number old mid → Lends number mid lent v → Keeps old.heap heap
    → TakesBack number w o (with_heap lent heap) behind → Enters number behind new → HoldsView heap w → Rising w.links.items → slice_get (world_of old).processes number ≡ Some p → is_live p ≡ true
    → w.live.items ≡ worlds.live (world_of old) ++ coming → NodeBehind old new heap number w o coming
node-behind old mid lent behind new heap number v w o p coming is leaves lends keeps takes enters held rising at live lives = record {
  heap' = ap (λ (n : Node). n.heap) new-is;
  events = ap (λ (n : Node). n.events) new-is;
  is_node = subst (IsNodeBut None coming) (sym new-is) (record {
    slots' = subst (All (HoldsSlot heap)) (sym slots) (All-set (HoldsSlot heap) old.slots.items number (slot_behind w o) (record { messages = held.messages; links = rising }) (held-slots old.heap heap keeps old.slots.items is.slots'));
    queues' = λ from to. held-queue old.heap heap keeps _ (is.queues' from to);
    events' = held.events;
    sets = subst (SetsOf None) new-is (enters.in' (subst (SetsOf (Some number)) (sym behind-is) sets));
    live' = lives ∙ ap (λ ns. ns ++ coming) (sym (numbers-same is_live 0 number ps p q at (live-behind (outcome_of heap o) (view_of heap w) ∙ sym live)) ∙ ap (numbers_from 0 is_live) (sym processes));
  });
  world = ap world_of new-is ∙ ap₂ (λ (qs : List Process) (queue : worlds.Queue). record { node = 0; next_ref = w.next_ref; clock = old.clock; processes = qs; queue = queue }) processes (kept-queues old.heap heap old.queues keeps is.queues');
}
  where
    ps : List Process
    ps = processes_of old.heap old.slots.items

    q : Process
    q = process_behind (outcome_of heap o) (view_of heap w)

    slots : behind.slots.items ≡ slice_set old.slots.items number (slot_behind w o)
    slots = takes.slots' ∙ (lends.others (slot_behind w o) ∙ ap (λ (n : Node). slice_set n.slots.items number (slot_behind w o)) leaves.is)

    behind-is : behind ≡ behind-node old heap w behind.slots mid.ready mid.deadlines
    behind-is = takes.is ∙ ap (λ (n : Node). behind-node n heap w behind.slots n.ready n.deadlines) (lends.is ∙ ap (λ (n : Node). with_returned n lent.slots n.next_ref lent.live lent.events) leaves.is)

    new-is : new ≡ behind-node old heap w behind.slots new.ready new.deadlines
    new-is = enters.is ∙ ap (λ (n : Node). with_sets n new.ready new.deadlines) behind-is

    processes : processes_of heap behind.slots.items ≡ slice_set ps number q
    processes = processes-set heap old.slots.items behind.slots.items number (slot_behind w o) q (slot-process heap w o) slots ∙ ap (λ qs. slice_set qs number q) (kept-slots old.heap heap keeps old.slots.items is.slots')

    sets : Sets (Some number) old.clock (processes_of heap behind.slots.items) mid.ready mid.deadlines
    sets =
        subst (λ qs. Sets (Some number) old.clock qs mid.ready mid.deadlines) (sym processes)
        (sets-same (Some number) old.clock ps (slice_set ps number q) mid.ready mid.deadlines (same-set old.clock ps number q) (subst (SetsOf (Some number)) leaves.is (leaves.out is.sets)))

-- ---- the state

pub record HasState {State : Type 0} (states : List (Option State)) (number : ℕ) : Type 0 where
  pub state : State
  pub at : slice_get states number ≡ Some (Some state)

-- a process that is ready, with its state
pub record IsReady {State : Type 0} (old : Node) (states : List (Option State)) (number : ℕ) : Type 0 where
  pub process : Process
  pub at : slice_get (world_of old).processes number ≡ Some process
  pub ready : is_ready old.clock process ≡ true
  pub has : HasState states number

-- what is left of the state of a process behind its turn
module _ {State S : Type 0} (Holds' : Held State) (means : Meant State S) (IsState : States S) (stays : StaysSame Holds' means) where
  left-meant : (old new : Heap) (states : List (Option State)) (number : ℕ) (o : Outcome) (after : State) (way : world.Outcome) (s : S) → Keeps old new → All (HoldsState Holds' old) states → outcome_of new o ≡ way → StateAfter Holds' means new o after s
      → map (option_map (means new)) (slice_set states number (left way after)) ≡ slice_set (map (option_map (means old)) states) number (left way s)
  left-meant old new states number o after way s keeps all e is =
      map-set (option_map (means new)) states number (left way after)
      ∙ ap₂ (λ (ss : List (Option S)) (x : Option S). slice_set ss number x) (states-same Holds' means IsState stays old new keeps states all) (subst (λ out. option_map (means new) (left out after) ≡ left out s) e (one o is))
    where
      one : (o : Outcome) → StateAfter Holds' means new o after s → option_map (means new) (left (outcome_of new o) after) ≡ left (outcome_of new o) s
      one outcome.Runs is = ap Some is.1
      one outcome.Waits is = ap Some is.1
      one (outcome.Ended reason) is = refl

  left-held : (old new : Heap) (states : List (Option State)) (number : ℕ) (o : Outcome) (after : State) (way : world.Outcome) (s : S) → Keeps old new → All (HoldsState Holds' old) states → outcome_of new o ≡ way → StateAfter Holds' means new o after s
      → All (HoldsState Holds' new) (slice_set states number (left way after))
  left-held old new states number o after way s keeps all e is =
      All-set (HoldsState Holds' new) states number (left way after) (subst (λ out. HoldsState Holds' new (left out after)) e (one o is)) (states-held Holds' means IsState stays old new keeps states all)
    where
      one : (o : Outcome) → StateAfter Holds' means new o after s → HoldsState Holds' new (left (outcome_of new o) after)
      one outcome.Runs is = is.0
      one outcome.Waits is = is.0
      one (outcome.Ended reason) is = tt

module _ {State S : Type 0} (Holds' : Held State) (means : Meant State S) (IsState : States S) (code : Code S) where
  state-there : (heap : Heap) (clock bound number k : ℕ) (ps : List Process) (os : List (Option State)) (p : Process) → slice_get ps k ≡ Some p → is_ready clock p ≡ true
      → SoundAll (IsFreed IsState) bound number ps (map (option_map (means heap)) os) → HasState os k
  state-there heap clock bound number k [] os p at ready sound = absurd cc
  state-there heap clock bound number k (x ∷ ps) [] p at ready sound = absurd sound
  state-there heap clock bound number zero (x ∷ ps) (None ∷ os) p at ready sound =
      let same : p ≡ x = cc in
      absurd (ready-state (freed code) (IsFreed IsState) clock x x.status None (subst (λ (q : Process). is_ready clock q ≡ true) same ready) sound.1)
  state-there heap clock bound number zero (x ∷ ps) (Some s ∷ os) p at ready sound = record { state = s; at = refl }
  state-there heap clock bound number (suc k) (x ∷ ps) (o ∷ os) p at ready sound =
      let rest = state-there heap clock bound (number + 1) k ps os p at ready sound.2 in
      record { state = rest.state; at = rest.at }

  pub ready-there : (old : Node) (states : List (Option State)) (number : ℕ) → IsSystem Holds' means IsState (kept old states) → ready_at old.clock (slice_get (world_of old).processes number) ≡ true → IsReady old states number
  ready-there old states number is ready = by (slice_get (world_of old).processes number) refl ready
    where
      by : (o : Option Process) → slice_get (world_of old).processes number ≡ o → ready_at old.clock o ≡ true → IsReady old states number
      by None at ready = absurd cc
      by (Some p) at ready = record {
        process = p;
        at = at;
        ready = ready;
        has = state-there old.heap old.clock (worlds.next_pid (world_of old)) 0 number (world_of old).processes states p at ready is.sound.processes;
      }

  module _ (old : Node) (states : List (Option State)) (number : ℕ) (is : IsSystem Holds' means IsState (kept old states)) (ready : ready_at old.clock (slice_get (world_of old).processes number) ≡ true) where
    found : IsReady old states number
    found = ready-there old states number is ready

    own-slot : HasSlot old.heap old.slots.items number found.process
    own-slot = slot-found old.heap old.slots.items number found.process found.at

    pub states-within : number < length states
    states-within = slice_get_within states number (Some found.has.state) found.has.at

    pub slots-within : (mid : Node) → Leaves number old mid → number < length mid.slots.items
    slots-within mid leaves = subst (λ (n : Node). number < length n.slots.items) (sym leaves.is) (slice_get_within old.slots.items number own-slot.slot own-slot.at)

    pub lent-within : (mid lent : Node) (v : View) → Leaves number old mid → Lends number mid lent v → number < length lent.slots.items
    lent-within mid lent v leaves lends =
        let s = own-slot.slot in
        omega (arith, slots-within mid leaves, length-set lent.slots.items number s, length-set mid.slots.items number s, ap length (lends.others s))

    -- what is taken out of the states is the state
    state-read : (o taken : Option State) → o ≡ get_or states number o → taken ≡ o → taken ≡ Some found.has.state
    state-read o taken read same = same ∙ (read ∙ get_or_from_slice_get states number (Some found.has.state) o found.has.at)

    pub never-none : (o taken : Option State) → o ≡ get_or states number o → taken ≡ o → taken ≡ None → ⊥
    never-none o taken read same none = by (sym none ∙ state-read o taken read same)
      where
        by : None ≡ Some found.has.state → ⊥
        by e = cc

    pub state-taken : (o taken : Option State) (state : State) → o ≡ get_or states number o → taken ≡ o → taken ≡ Some state → slice_get states number ≡ Some (Some state)
    state-taken o taken state read same is = found.has.at ∙ ap Some (sym (state-read o taken read same) ∙ is)

    -- ---- what is asked of a turn

    module _ (mid lent : Node) (transfers : ℕ) (v : View) (state : State) (has : slice_get states number ≡ Some (Some state)) (some : 1 ≤ transfers) where
      abbrev asked : world.View
      asked = world.view_of (world_of old) number found.process

      meets : MeetsView asked
      meets = view_meets (freed code) (IsFreed IsState) (system_of means (kept old states)) number found.process is.sound found.at found.ready

      has-meant : slice_get (meant means (kept old states)) number ≡ Some (Some (means old.heap state))
      has-meant = slice_get-map (option_map (means old.heap)) states number ∙ ap (option_map (option_map (means old.heap))) has

      may-have : IsState found.process.status (means old.heap state)
      may-have = state_meets (freed code) (IsFreed IsState) (system_of means (kept old states)) number found.process (Some (means old.heap state)) is.sound found.at has-meant found.ready

      turns : may_turn found.process.status asked ≡ true
      turns = ready-turn (world_of old) number found.process found.process.status found.ready

      pub may-turn : Leaves number old mid → Lends number mid lent v → MayTurn Holds' means IsState lent.heap state v transfers
      may-turn leaves lends =
          let is_node = is.is_kept.is_node in
          let view = lent-view old mid lent number v found.process is_node leaves lends found.at in
          subst (λ heap. MayTurn Holds' means IsState heap state v transfers) (sym (lent-heap old mid lent number v found.process is_node leaves lends found.at)) (record {
            transfers' = some;
            held = all-there (HoldsState Holds' old.heap) states number (Some state) has is.is_kept.states';
            view = lent-held old mid lent number v found.process is_node leaves lends found.at;
            meets = subst MeetsView (sym view) meets;
            status = found.process.status;
            turns = subst (λ u. may_turn found.process.status u ≡ true) (sym view) turns;
            is_state = may-have;
          })

      is-lawful : Lawful code IsState → LawfulTurn IsState asked (code.turn transfers asked (means old.heap state))
      is-lawful lawful = lawful.turns transfers asked found.process.status (means old.heap state) some meets turns may-have

      -- ---- what is behind it

      module _ (stays : StaysSame Holds' means) (lawful : Lawful code IsState) where
        -- the state is out of the states in the turn, and what is left of it is put back
        pub goes-behind : (behind new : Node) (heap : Heap) (w : View) (after : State) (o : Outcome) (out : Option State) (more : List (Option State)) → Leaves number old mid → Lends number mid lent v → Keeps lent.heap heap
            → Turns Holds' means code transfers lent.heap state v heap after w o → TakesBack number w o (with_heap lent heap) behind
            → more ≡ slice_set (slice_set states number out) number (left (outcome_of behind.heap o) after) → Enters number behind new
            → GoesBehind Holds' means code transfers number (kept old states) (kept new more) o
        goes-behind behind new heap w after o out more leaves lends grown turned takes put enters p s at is_state =
            subst (λ u. IsBehind Holds' means (code.turn transfers (world.view_of (world_of old) number p) u) number (kept old states) (kept new more) o) same-state
            (subst (λ q. IsBehind Holds' means (code.turn transfers (world.view_of (world_of old) number q) (means old.heap state)) number (kept old states) (kept new more) o) same-process (record {
              added = here.added;
              appends = ap (λ (es : Vec (Event TermId)). es.items) node.events ∙ (here.appends ∙ ap (λ (es : Vec (Event TermId)). es.items ++ here.added) (lends.events ∙ ap (λ (n : Node). n.events) leaves.is));
              events = subst (λ h. events_of h here.added ≡ t.events) (sym node.heap') here.events;
              outcome = subst (λ h. outcome_of h o ≡ t.outcome) (sym node.heap') here.outcome;
              reason = subst (λ h. HoldsOutcome h o) (sym node.heap') here.reason;
              is = record {
                is_node = node.is_node;
                states' = subst (λ h. All (HoldsState Holds' h) more) (sym node.heap') (subst (All (HoldsState Holds' heap)) (sym more-is) (left-held Holds' means IsState stays old.heap heap states number o after t.outcome t.state keeps is.is_kept.states' here.outcome here.state'));
              };
              world = node.world ∙ ap₂ (changed-world (world_of old) number) here.outcome here.view;
              states' = ap₂ (λ h (os : List (Option State)). map (option_map (means h)) os) node.heap' more-is ∙ left-meant Holds' means IsState stays old.heap heap states number o after t.outcome t.state keeps is.is_kept.states' here.outcome here.state';
              keeps = subst (Keeps old.heap) (sym node.heap') keeps;
            }))
          where
            is_node : IsNode old
            is_node = is.is_kept.is_node

            is_lent : lent.heap ≡ old.heap
            is_lent = lent-heap old mid lent number v found.process is_node leaves lends found.at

            keeps : Keeps old.heap heap
            keeps = subst (λ h. Keeps h heap) is_lent grown

            t : Turned S
            t = code.turn transfers asked (means old.heap state)

            legal : LawfulTurn IsState asked t
            legal = is-lawful lawful

            here : IsTurned Holds' means t v.events.items heap after w o
            here =
                subst (λ u. IsTurned Holds' means (code.turn transfers u (means old.heap state)) v.events.items heap after w o) (lent-view old mid lent number v found.process is_node leaves lends found.at)
                (subst (λ h. Turns Holds' means code transfers h state v heap after w o) is_lent turned)

            node : NodeBehind old new heap number w o (made t.events)
            node =
                node-behind old mid lent behind new heap number v w o found.process (made t.events) is_node leaves lends keeps takes enters here.held
                (subst (λ (u : world.View). Rising u.links) (sym here.view) (rising-within 0 _ t.view.links legal.links)) found.at (ready-live old.clock found.process found.process.status found.ready)
                (ap (λ (u : world.View). u.live) here.view ∙ legal.live)

            more-is : more ≡ slice_set states number (left t.outcome after)
            more-is = put ∙ (set-set states number out _ ∙ ap (λ u. slice_set states number (left u after)) (ap (λ (n : Node). outcome_of n.heap o) takes.is ∙ here.outcome))

            same-process : found.process ≡ p
            same-process = some-same found.process p (sym found.at ∙ at)

            same-state : means old.heap state ≡ s
            same-state = some-same (means old.heap state) s (some-same _ _ (sym has-meant ∙ is_state))
