-- What a running system stands for, as its heap grows and as changes follow each other.
use Rattle.std.proofs.Common.{◌≡◌, ℕ, ◌≤◌, Bool, true, false, List, [], ◌∷◌, ◌++◌, map, Option, None, Some, option_map, refl, sym, ap, ap₂, subst, ◌∙◌}
use Rattle.std.specs.List.{All}
use Rattle.std.proofs.lemmas.List.{append_assoc, append-nil}
use Rattle.std.proofs.lemmas.List.Elements.{All-nil, All-head, All-tail, All-weaker}
use Rattle.ej_world.specs.declared.event.Event.TheVariants as event
use Rattle.ej_world.specs.Choices.{Code, System, Happened, of_change, closed, nothing, or_nothing, delivered, at_clock}
use Rattle.ej_world.specs.Delivery.{deliver}
use Rattle.ej_world.specs.Lawful.{States, Lawful}
use Rattle.ej_world.specs.Sound.{Sound}
use Rattle.ej_world.specs.Steps.{Step, Delivers, Clocks}
use Rattle.ej_world.specs.World as world
use Rattle.ej_world.specs.World.{World, Process, Change, ready, limit, is_live}
use Rattle.ej_world.proofs.SoundLaw.{step-sound, empty_sound}
use Rattle.term_heap.specs.declared.heap.Heap.{Heap}
use Rattle.term_heap.specs.View.{Keeps}
use Rattle.term_heap.proofs.Kept.{keeps-then}
use Rattle.proc_sched.specs.declared.node.Node.{Node}
use Rattle.proc_sched.specs.Calls.{Held, Meant, StaysSame}
use Rattle.proc_sched.specs.Freed.{freed, IsFreed}
use Rattle.proc_sched.specs.Nodes.{shows, clocks, DoesIf}
use Rattle.proc_sched.specs.Stands.{IsNode, Does, OnlyHeap, world_of, seen_of}
use Rattle.proc_sched.specs.Systems.{Kept, kept, meant, system_of, HoldsState, IsSystem, Becomes, BecomesSome, BecomesIf, still, shows_ready}
use Rattle.proc_sched.proofs.FreedLaw.{freed-lawful}

module _ {State S : Type 0} (Holds' : Held State) (means : Meant State S) (IsState : States S) (stays : StaysSame Holds' means) where
  -- ---- states under a heap that was added to

  pub state-held : (old new : Heap) → Keeps old new → (o : Option State) → HoldsState Holds' old o → HoldsState Holds' new o
  state-held old new keeps None held = tt
  state-held old new keeps (Some s) held = (stays old new s keeps held).held

  pub states-held : (old new : Heap) → Keeps old new → (states : List (Option State)) → All (HoldsState Holds' old) states → All (HoldsState Holds' new) states
  states-held old new keeps states all = All-weaker (HoldsState Holds' old) (HoldsState Holds' new) (state-held old new keeps) states all

  state-same : (old new : Heap) → Keeps old new → (o : Option State) → HoldsState Holds' old o → option_map (means new) o ≡ option_map (means old) o
  state-same old new keeps None held = refl
  state-same old new keeps (Some s) held = ap Some (stays old new s keeps held).is

  pub states-same : (old new : Heap) → Keeps old new → (states : List (Option State)) → All (HoldsState Holds' old) states → map (option_map (means new)) states ≡ map (option_map (means old)) states
  states-same old new keeps [] all = refl
  states-same old new keeps (o ∷ states) all =
      ap₂ (λ (y : Option S) (ys : List (Option S)). y ∷ ys) (state-same old new keeps o (All-head (HoldsState Holds' old) o states all))
      (states-same old new keeps states (All-tail (HoldsState Holds' old) o states all))

  -- ---- changes of the node

  abbrev pub IsSys : Kept State → Type 0
  IsSys k = IsSystem Holds' means IsState k

  abbrev pub To : (old new : Kept State) → Happened (Option S) → Type 0
  To old new h = Becomes Holds' means IsState old new h

  pub becomes : (old new : Node) (states : List (Option State)) (h : Happened (Option S)) → IsSys (kept old states) → IsNode new → world_of new ≡ h.system.world → h.system.states ≡ meant means (kept old states)
      → seen_of new ≡ seen_of old ++ h.events → Keeps old.heap new.heap → Sound (IsFreed IsState) h.system → To (kept old states) (kept new states) h
  becomes old new states h is is_node world same events keeps sound =
      let system = ap₂ (λ (w : World) (ss : List (Option S)). record { world = w; states = ss }) world (states-same old.heap new.heap keeps states is.is_kept.states' ∙ sym same) in
      record {
        is = record {
          is_kept = record { is_node = is_node; states' = states-held old.heap new.heap keeps states is.is_kept.states' };
          sound = subst (Sound (IsFreed IsState)) (sym system) sound;
        };
        system = system;
        events = events;
        keeps = keeps;
      }

  pub becomes-does : (old new : Node) (states : List (Option State)) (h : Happened (Option S)) (c : Change) → IsSys (kept old states) → Does old new c → h ≡ of_change (meant means (kept old states)) c → Sound (IsFreed IsState) h.system
      → To (kept old states) (kept new states) h
  becomes-does old new states h c is does e sound =
      becomes old new states h is does.is_node (does.world ∙ sym (ap (λ (h : Happened (Option S)). h.system.world) e)) (ap (λ (h : Happened (Option S)). h.system.states) e)
      (does.events ∙ sym (ap (λ (h : Happened (Option S)). seen_of old ++ h.events) e)) does.keeps sound

  -- only the heap has grown
  pub becomes-heap : (old new : Node) (states : List (Option State)) → IsSys (kept old states) → OnlyHeap old new → To (kept old states) (kept new states) (still (system_of means (kept old states)))
  becomes-heap old new states is only =
      becomes old new states (still (system_of means (kept old states))) is only.is_node only.world refl (only.events ∙ sym (append-nil (seen_of old))) only.keeps is.sound

  -- ---- one behind the other

  pub becomes-then : (old mid new : Kept State) (h : Happened (Option S)) (more : System (Option S) → Happened (Option S)) → To old mid h → To mid new (more (system_of means mid))
      → To old new (record { events = h.events ++ (more h.system).events; system = (more h.system).system })
  becomes-then old mid new h more one rest =
      let next = subst (λ r. To mid new (more r)) one.system rest in
      record {
        is = next.is;
        system = next.system;
        events = next.events ∙ (ap (λ es. es ++ (more h.system).events) one.events ∙ append_assoc (seen_of old.node) h.events (more h.system).events);
        keeps = keeps-then old.node.heap mid.node.heap new.node.heap one.keeps next.keeps;
      }

  pub becomes-closed : (old mid new : Kept State) (h : Happened (Option S)) → To old mid h → To mid new (shows_ready (system_of means mid)) → To old new (closed h)
  becomes-closed old mid new h one rest = becomes-then old mid new h shows_ready one rest

  -- behind what only grew the heap
  pub becomes-grown : (old mid new : Kept State) (more : System (Option S) → Happened (Option S)) → To old mid (still (system_of means old)) → To mid new (more (system_of means mid)) → To old new (more (system_of means old))
  becomes-grown old mid new more one rest = becomes-then old mid new (still (system_of means old)) more one rest

  -- what happens, if it is there, and else nothing, closed by the ready processes
  pub becomes-or : (old mid new : Kept State) (o : Option (Happened (Option S))) → BecomesSome Holds' means IsState old mid o → To mid new (shows_ready (system_of means mid)) → To old new (closed (or_nothing (system_of means old) o))
  becomes-or old mid new None one rest = absurd one
  becomes-or old mid new (Some h) one rest = becomes-closed old mid new h one rest

  pub becomes-if : (was : Bool) (old mid new : Kept State) (o : Option (Happened (Option S))) → was ≡ true → BecomesIf Holds' means IsState was old mid o → To mid new (shows_ready (system_of means mid)) → To old new (closed (or_nothing (system_of means old) o))
  becomes-if true old mid new o e one rest = becomes-or old mid new o one rest
  becomes-if false old mid new o e one rest = absurd cc

  pub becomes-if-not : (was : Bool) (old mid new : Kept State) (o : Option (Happened (Option S))) → was ≡ false → BecomesIf Holds' means IsState was old mid o → To mid new (closed (nothing (system_of means mid))) → To old new (closed (or_nothing (system_of means old) o))
  becomes-if-not true old mid new o e one rest = absurd cc
  becomes-if-not false old mid new None e one rest = becomes-grown old mid new (λ r. closed (nothing r)) one rest
  becomes-if-not false old mid new (Some h) e one rest = absurd one

  -- ---- what happens at once

  module _ (code : Code S) (lawful : Lawful code IsState) where
    pub step : (r : System (Option S)) (h : Happened (Option S)) → Step (freed code) r h → Sound (IsFreed IsState) r → Sound (IsFreed IsState) h.system
    step r h happens sound = step-sound (freed code) (IsFreed IsState) (freed-lawful code IsState lawful) r h happens sound

    pub becomes-ready : (old new : Node) (states : List (Option State)) → IsSys (kept old states) → Does old new (shows (event.Ready (ready (world_of old)) ∷ []) (world_of old))
        → To (kept old states) (kept new states) (shows_ready (system_of means (kept old states)))
    becomes-ready old new states is does = becomes-does old new states (shows_ready (system_of means (kept old states))) _ is does refl is.sound

    pub becomes-nothing : (old new : Node) (states : List (Option State)) → IsSys (kept old states) → Does old new (shows (event.Idle ∷ []) (world_of old))
        → To (kept old states) (kept new states) (nothing (system_of means (kept old states)))
    becomes-nothing old new states is does = becomes-does old new states (nothing (system_of means (kept old states))) _ is does refl is.sound

    -- a delivery
    pub becomes-delivered : (old new : Node) (states : List (Option State)) (from to : ℕ) (was : Bool) (o : Option Change) → IsSys (kept old states) → deliver (world_of old) from to ≡ o → DoesIf was old new o
        → BecomesIf Holds' means IsState was (kept old states) (kept new states) (delivered (system_of means (kept old states)) from to)
    becomes-delivered old new states from to was o is e does = by was o e does
      where
        r : System (Option S)
        r = system_of means (kept old states)

        by : (was : Bool) (o : Option Change) → deliver (world_of old) from to ≡ o → DoesIf was old new o → BecomesIf Holds' means IsState was (kept old states) (kept new states) (delivered r from to)
        by true None e does = absurd does
        by true (Some c) e does =
            let is_delivered : delivered r from to ≡ Some (of_change r.states c) = ap (option_map (of_change r.states)) e in
            subst (BecomesSome Holds' means IsState (kept old states) (kept new states)) (sym is_delivered)
            (becomes-does old new states (of_change r.states c) c is does refl (step r (of_change r.states c) (Delivers from to _ is_delivered) is.sound))
        by false None e does =
            subst (BecomesIf Holds' means IsState false (kept old states) (kept new states)) (sym (ap (option_map (of_change r.states)) e)) (becomes-heap old new states is does)
        by false (Some c) e does = absurd does

    -- the clock
    pub becomes-clock : (old new : Node) (states : List (Option State)) (clock : ℕ) → clock ≤ limit → IsSys (kept old states) → Does old new (clocks clock (world_of old))
        → To (kept old states) (kept new states) (at_clock (system_of means (kept old states)) clock)
    becomes-clock old new states clock le is does =
        let r = system_of means (kept old states) in
        becomes-does old new states (at_clock r clock) (clocks clock (world_of old)) is does refl (step r (at_clock r clock) (Clocks clock le) is.sound)

-- no process, at the time 0
pub empty-system : {State S : Type 0} (Holds' : Held State) (means : Meant State S) (IsState : States S) (code : Code S) → Lawful code IsState → (node : Node) (states : List (Option State)) → IsNode node → world_of node ≡ world.empty → states ≡ []
    → IsSystem Holds' means IsState (kept node states)
empty-system Holds' means IsState code lawful node states is world none = record {
  is_kept = record { is_node = is; states' = subst (All (HoldsState Holds' node.heap)) (sym none) (All-nil (HoldsState Holds' node.heap)) };
  sound = subst (Sound (IsFreed IsState)) (sym (ap₂ (λ (w : World) (ss : List (Option _)). record { world = w; states = map (option_map (means node.heap)) ss }) world none)) (empty_sound (freed code) (IsFreed IsState) (freed-lawful code IsState lawful));
}
