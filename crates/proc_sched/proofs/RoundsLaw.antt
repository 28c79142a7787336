-- Rounds, as they follow each other.
use Rattle.std.proofs.Common.{◌≡◌, ℕ, zero, suc, ◌+◌, ◌-◌, ◌<◌, ◌≤◌, Bool, true, false, List, [], ◌∷◌, ◌++◌, length, Option, None, Some, option_map, option_and_then, refl, sym, ap, ap₂, subst, ◌∙◌, arith}
use Rattle.std.specs.Prelude.{slice_get, if◌then◌else◌}
use Rattle.std.specs.List.{find}
use Rattle.std.proofs.lemmas.List.{append_assoc, append-nil, length-append, length-map, nil_from_length}
use Rattle.std.proofs.lemmas.Option.{same_Some}
use Rattle.ej_term.specs.Term.{Term}
use Rattle.ej_world.specs.Auto as auto
use Rattle.ej_world.specs.Auto.{signals, behind, deliver_next, deliveries, all_delivered, first_pair, above, next_ready, Step, stepped, step_to, step, step_behind, rounds, or_idle}
use Rattle.ej_world.specs.Choices.{Code, System, Happened, closed, nothing, of_change, delivered, run_process}
use Rattle.ej_world.specs.Delivery.{deliver}
use Rattle.ej_world.specs.declared.event.Event.{Event}
use Rattle.ej_world.specs.declared.event.Event.TheVariants as event
use Rattle.ej_world.specs.Lawful.{States}
use Rattle.ej_world.specs.World.{World, Process, Change, is_ready, numbers_from, ready}
use Rattle.ej_world.proofs.DeliveriesLaw.{all_delivered_none, all_delivered_next, delivery_falls, pair_delivers}
use Rattle.term_heap.proofs.Kept.{keeps-then}
use Rattle.proc_sched.specs.declared.node.Node.{Node}
use Rattle.proc_sched.specs.declared.rounds.Stepped.{Stepped}
use Rattle.proc_sched.specs.declared.rounds.Stepped.TheVariants as stepped'
use Rattle.proc_sched.specs.Calls.{Held, Meant, StaysSame}
use Rattle.proc_sched.specs.Freed.{freed}
use Rattle.proc_sched.specs.Seen.{event_of}
use Rattle.proc_sched.specs.Stands.{world_of, seen_of, ready_at}
use Rattle.proc_sched.specs.Systems.{Kept, meant, system_of, IsSystem, Becomes, BecomesSome, BecomesIf, DoesStep, still, shows_ready}
use Rattle.proc_sched.proofs.NodeLaw.{same-heap}
use Rattle.proc_sched.proofs.SystemLaw.{becomes-then, becomes-closed}

-- ---- events

abbrev auto-ready : {S : Type 0} → Happened S → Event Term
auto-ready h = event.Ready (ready h.system.world)

-- events with one behind them are some
pub not-empty : {X : Type 0} (xs : List X) (x : X) (ys : List X) → (xs ++ x ∷ []) ++ ys ≡ [] → ⊥
not-empty [] x ys e = cc
not-empty (z ∷ xs) x ys e = cc

pub not-empty-behind : {X : Type 0} (ws xs : List X) (x : X) (ys : List X) → ws ++ ((xs ++ x ∷ []) ++ ys) ≡ [] → ⊥
not-empty-behind [] xs x ys e = not-empty xs x ys e
not-empty-behind (w ∷ ws) xs x ys e = cc

-- as many events, so none that is new
pub no-events : (old new : Node) (events : List (Event Term)) → seen_of new ≡ seen_of old ++ events → length new.events.items ≡ length old.events.items → events ≡ []
no-events old new events e same =
    nil_from_length events (omega (arith, ap length e, same, length-map new.events.items (event_of new.heap), length-map old.events.items (event_of old.heap), length-append (seen_of old) events))

pub as-many : (old new : Node) (events : List (Event Term)) → seen_of new ≡ seen_of old ++ events → events ≡ [] → length new.events.items ≡ length old.events.items
as-many old new events e none =
    omega (arith, ap length e, ap length none, length-map new.events.items (event_of new.heap), length-map old.events.items (event_of old.heap), length-append (seen_of old) events)

-- ---- the next ready process

-- what is found of the numbers of those that pass passes
found-passes : (test : ℕ → Bool) (p : Process → Bool) (number : ℕ) (ps qs : List Process) (n : ℕ) → ((k : ℕ) → slice_get qs (number + k) ≡ slice_get ps k) → find test (numbers_from number p ps) ≡ Some n
    → (q : Process) × (slice_get qs n ≡ Some q) × (p q ≡ true)
found-passes test p number [] qs n at e = absurd cc
found-passes test p number (q ∷ ps) qs n at e = by (p q) refl e (found-passes test p (number + 1) ps qs n (λ k. let next : number + 1 + k ≡ number + suc k = omega arith in ap (slice_get qs) next ∙ at (suc k)))
  where
    here : slice_get qs number ≡ Some q
    here = let same : number ≡ number + 0 = omega arith in ap (slice_get qs) same ∙ at 0

    found : (b : Bool) → test number ≡ b → p q ≡ true → (if b then Some number else find test (numbers_from (number + 1) p ps)) ≡ Some n
        → (find test (numbers_from (number + 1) p ps) ≡ Some n → (q : Process) × (slice_get qs n ≡ Some q) × (p q ≡ true)) → (q : Process) × (slice_get qs n ≡ Some q) × (p q ≡ true)
    found true is passes e rest = (q, ap (slice_get qs) (sym (same_Some number n e)) ∙ here, passes)
    found false is passes e rest = rest e

    by : (b : Bool) → p q ≡ b → find test (if b then number ∷ numbers_from (number + 1) p ps else numbers_from (number + 1) p ps) ≡ Some n
        → (find test (numbers_from (number + 1) p ps) ≡ Some n → (q : Process) × (slice_get qs n ≡ Some q) × (p q ≡ true)) → (q : Process) × (slice_get qs n ≡ Some q) × (p q ≡ true)
    by true passes e rest = found (test number) refl passes e rest
    by false passes e rest = rest e

pub next-is-ready : (w : World) (last : Option ℕ) (n : ℕ) → next_ready last (ready w) ≡ Some n → ready_at w.clock (slice_get w.processes n) ≡ true
next-is-ready w last n e = by (find (above last) (ready w)) refl e
  where
    is-ready : (test : ℕ → Bool) → find test (ready w) ≡ Some n → ready_at w.clock (slice_get w.processes n) ≡ true
    is-ready test e = let q = found-passes test (is_ready w.clock) 0 w.processes w.processes n (λ k. let same : 0 + k ≡ k = omega arith in ap (slice_get w.processes) same) e in ap (ready_at w.clock) q.1 ∙ q.2

    by : (o : Option ℕ) → find (above last) (ready w) ≡ o → auto.or_else o (find (above None) (ready w)) ≡ Some n → ready_at w.clock (slice_get w.processes n) ≡ true
    by None is e = is-ready (above None) e
    by (Some k) is e = is-ready (above last) (is ∙ e)

pub none-is-ready : (last : Option ℕ) (ns : List ℕ) → next_ready last ns ≡ None → ns ≡ []
none-is-ready last [] e = refl
none-is-ready last (n ∷ ns) e = by (find (above last) (n ∷ ns)) e
  where
    by : (o : Option ℕ) → auto.or_else o (Some n) ≡ None → n ∷ ns ≡ []
    by None e = absurd cc
    by (Some k) e = absurd cc

module _ {State S : Type 0} (Holds' : Held State) (means : Meant State S) (IsState : States S) (stays : StaysSame Holds' means) where
  abbrev Sys : Kept State → Type 0
  Sys k = IsSystem Holds' means IsState k

  abbrev To : (old new : Kept State) → Happened (Option S) → Type 0
  To old new h = Becomes Holds' means IsState old new h

  pub becomes-still : (k : Kept State) → Sys k → To k k (still (system_of means k))
  becomes-still k is = record { is = is; system = refl; events = sym (append-nil (seen_of k.node)); keeps = same-heap k.node.heap }

  -- what is done so far, and the rest of what was to be done
  pub record SoFar (more : System (Option S) → Happened (Option S)) (old now : Kept State) (all : Happened (Option S)) : Type 0 where
    pub done : Happened (Option S)
    pub becomes : To old now done
    pub rest : behind done.events (more done.system) ≡ all

  pub far-none : (more : System (Option S) → Happened (Option S)) (k : Kept State) → Sys k → SoFar more k k (more (system_of means k))
  far-none more k is = record { done = still (system_of means k); becomes = becomes-still k is; rest = refl }

  -- one more step of it
  pub far-more : (more then' : System (Option S) → Happened (Option S)) (old mid new : Kept State) (all h : Happened (Option S)) → SoFar more old mid all → To mid new h → more (system_of means mid) ≡ behind h.events (then' h.system) → SoFar then' old new all
  far-more more then' old mid new all h far one e =
      let done = far.done in
      record {
        done = record { events = done.events ++ h.events; system = h.system };
        becomes = becomes-then Holds' means IsState stays old mid new done (λ r. h) far.becomes one;
        rest = ap (λ events. record { events = events; system = (then' h.system).system }) (append_assoc done.events h.events (then' h.system).events)
            ∙ (ap (behind done.events) (sym e ∙ ap more far.becomes.system) ∙ far.rest);
      }

  -- nothing is left to be done
  pub far-all : (more : System (Option S) → Happened (Option S)) (old new : Kept State) (all : Happened (Option S)) → SoFar more old new all → more (system_of means new) ≡ still (system_of means new) → To old new all
  far-all more old new all far e =
      let nothing_more = subst (λ r. more r ≡ still r) far.becomes.system e in
      let same : behind far.done.events (still far.done.system) ≡ far.done = ap (λ events. record { events = events; system = far.done.system }) (append-nil far.done.events) in
      subst (To old new) (sym same ∙ (ap (behind far.done.events) (sym nothing_more) ∙ far.rest)) far.becomes

  -- ---- deliveries

  pub there-is : (old new : Kept State) (o : Option (Happened (Option S))) → BecomesSome Holds' means IsState old new o → Sys new
  there-is old new None becomes = absurd becomes
  there-is old new (Some h) becomes = becomes.is

  pub if-is : (was : Bool) (old new : Kept State) (o : Option (Happened (Option S))) → BecomesIf Holds' means IsState was old new o → Sys new
  if-is true old new o becomes = there-is old new o becomes
  if-is false old new None becomes = becomes.is
  if-is false old new (Some h) becomes = absurd becomes

  -- what is done where the least pair's first signal is delivered
  pub record Delivers (r : System (Option S)) (old new : Kept State) : Type 0 where
    pub change : Change
    pub becomes : To old new (of_change r.states change)
    pub next : all_delivered r ≡ behind (closed (of_change r.states change)).events (all_delivered (of_change r.states change).system)
    pub falls : signals change.world < signals r.world

  pub delivers : (was : Bool) (old new : Kept State) (p : ℕ × ℕ) → first_pair (world_of old.node) ≡ Some p → BecomesIf Holds' means IsState was old new (delivered (system_of means old) p.0 p.1) → Delivers (system_of means old) old new
  delivers was old new p e becomes = by was (deliver (world_of old.node) p.0 p.1) refl becomes
    where
      r : System (Option S)
      r = system_of means old

      by : (was : Bool) (o : Option Change) → deliver (world_of old.node) p.0 p.1 ≡ o → BecomesIf Holds' means IsState was old new (option_map (of_change r.states) o) → Delivers r old new
      by true None is becomes = absurd becomes
      by true (Some c) is becomes = record { change = c; becomes = becomes; next = all_delivered_next r p c e is; falls = delivery_falls r p c e is }
      by false None is becomes = absurd (pair_delivers (world_of old.node) p e is)
      by false (Some c) is becomes = absurd becomes

  pub far-delivered : (was : Bool) (old now mid new : Kept State) (p : ℕ × ℕ) (all : Happened (Option S)) → SoFar all_delivered old now all → first_pair (world_of now.node) ≡ Some p
      → BecomesIf Holds' means IsState was now mid (delivered (system_of means now) p.0 p.1) → To mid new (shows_ready (system_of means mid)) → SoFar all_delivered old new all
  far-delivered was old now mid new p all far e becomes closes =
      let d = delivers was now mid p e becomes in
      far-more all_delivered all_delivered old now new all (closed (of_change (meant means now) d.change)) far (becomes-closed Holds' means IsState stays now mid new (of_change (meant means now) d.change) d.becomes closes) d.next

  -- and there are fewer signals
  pub falls-delivered : (was : Bool) (now mid new : Kept State) (p : ℕ × ℕ) → first_pair (world_of now.node) ≡ Some p → BecomesIf Holds' means IsState was now mid (delivered (system_of means now) p.0 p.1)
      → To mid new (shows_ready (system_of means mid)) → signals (world_of new.node) < signals (world_of now.node)
  falls-delivered was now mid new p e becomes closes =
      let d = delivers was now mid p e becomes in
      subst (λ n. n < signals (world_of now.node)) (sym (ap (λ (r : System (Option S)). signals r.world) (closes.system ∙ d.becomes.system))) d.falls

  pub all-delivered : (old new : Kept State) → first_pair (world_of new.node) ≡ None → SoFar all_delivered old new (all_delivered (system_of means old)) → To old new (all_delivered (system_of means old))
  all-delivered old new e far = far-all all_delivered old new (all_delivered (system_of means old)) far (all_delivered_none (system_of means new) e)

  -- ---- a turn or an advance

  module _ (code : Code S) where
    pub steps-some : (old mid new : Kept State) (last : Option ℕ) (number : ℕ) (ran : Option ℕ) → next_ready last (ready (world_of old.node)) ≡ Some number → ran ≡ Some number
        → BecomesSome Holds' means IsState old mid (run_process (freed code) (system_of means old) 2000 number) → To mid new (shows_ready (system_of means mid))
        → DoesStep Holds' means IsState old new (step (freed code) last (system_of means old)) (stepped'.Happened ran)
    steps-some old mid new last number ran e is becomes closes =
        subst (λ o. DoesStep Holds' means IsState old new (step_to (freed code) last (system_of means old) o) (stepped'.Happened ran)) (sym e) (by (run_process (freed code) (system_of means old) 2000 number) becomes)
      where
        by : (o : Option (Happened (Option S))) → BecomesSome Holds' means IsState old mid o → DoesStep Holds' means IsState old new (option_map (stepped (Some number)) o) (stepped'.Happened ran)
        by None becomes = absurd becomes
        by (Some h) becomes = (becomes-closed Holds' means IsState stays old mid new h becomes closes, sym is)

    -- ---- rounds

    pub far-nothing : (most round : ℕ) (last : Option ℕ) (old now mid new : Kept State) (all : Happened (Option S)) (s : Stepped) → s ≡ stepped'.Nothing → round < most → SoFar (rounds (freed code) (most - round) last) old now all → To now mid (all_delivered (system_of means now))
        → DoesStep Holds' means IsState mid new (step (freed code) last (system_of means mid)) s → To old new all
    far-nothing most round last old now mid new all s is lt far delivers does =
        by (step (freed code) last (system_of means mid)) refl (subst (DoesStep Holds' means IsState mid new (step (freed code) last (system_of means mid))) is does)
      where
        by : (o : Option (Step (Option S))) → step (freed code) last (system_of means mid) ≡ o → DoesStep Holds' means IsState mid new o stepped'.Nothing → To old new all
        by None e same = subst (λ k. To old k all) (sym same) (far-all still old mid all (far-more (rounds (freed code) (most - round) last) still old now mid all (all_delivered (system_of means now)) far delivers
            (this (most - round) (omega arith) (subst (λ r. step (freed code) last r ≡ None) delivers.system e))) refl)
          where
            this : (n : ℕ) → 0 < n → step (freed code) last (all_delivered (system_of means now)).system ≡ None
                → rounds (freed code) n last (system_of means now) ≡ behind (all_delivered (system_of means now)).events (still (all_delivered (system_of means now)).system)
            this zero lt e = absurd (omega arith)
            this (suc n) lt e = ap (λ o. behind (all_delivered (system_of means now)).events (step_behind (rounds (freed code) n) (all_delivered (system_of means now)).system o)) e
        by (Some s) e same = absurd same

    pub far-round : (most round : ℕ) (last ran : Option ℕ) (old now mid new : Kept State) (all : Happened (Option S)) (s : Stepped) → s ≡ stepped'.Happened ran → round < most → SoFar (rounds (freed code) (most - round) last) old now all → To now mid (all_delivered (system_of means now))
        → DoesStep Holds' means IsState mid new (step (freed code) last (system_of means mid)) s → SoFar (rounds (freed code) (most - (round + 1)) ran) old new all
    far-round most round last ran old now mid new all s' is lt far delivers does =
        by (step (freed code) last (system_of means mid)) refl (subst (DoesStep Holds' means IsState mid new (step (freed code) last (system_of means mid))) is does)
      where
        r : System (Option S)
        r = system_of means now

        by : (o : Option (Step (Option S))) → step (freed code) last (system_of means mid) ≡ o → DoesStep Holds' means IsState mid new o (stepped'.Happened ran) → SoFar (rounds (freed code) (most - (round + 1)) ran) old new all
        by None e does = absurd does
        by (Some s) e does =
            let left : most - round ≡ suc (most - (round + 1)) = omega arith in
            far-more (step_rest (most - (round + 1))) (rounds (freed code) (most - (round + 1)) ran) old mid new all (closed s.happened)
            (far-more (rounds (freed code) (most - round) last) (step_rest (most - (round + 1))) old now mid all (all_delivered r) far delivers (ap (λ n. rounds (freed code) n last r) left)) does.0
            (ap (step_behind (rounds (freed code) (most - (round + 1))) (system_of means mid)) e ∙ ap (λ ran. behind (closed s.happened).events (rounds (freed code) (most - (round + 1)) ran s.happened.system)) does.1)
          where
            step_rest : ℕ → System (Option S) → Happened (Option S)
            step_rest n r = step_behind (rounds (freed code) n) r (step (freed code) last r)

    pub far-end : (most round : ℕ) (last : Option ℕ) (old new : Kept State) (all : Happened (Option S)) → most ≤ round → SoFar (rounds (freed code) (most - round) last) old new all → To old new all
    far-end most round last old new all le far =
        let none : most - round ≡ 0 = omega arith in
        far-all (rounds (freed code) (most - round) last) old new all far (ap (λ n. rounds (freed code) n last (system_of means new)) none)

    -- ---- nothing at all

    nothing-delivered : (n : ℕ) (r : System (Option S)) → (deliveries n r).events ≡ [] → (deliveries n r).system ≡ r
    nothing-delivered zero r e = refl
    nothing-delivered (suc n) r e = by (option_and_then (λ (p : ℕ × ℕ). delivered r p.0 p.1) (first_pair r.world)) e
      where
        by : (o : Option (Happened (Option S))) → (deliver_next (deliveries n) r o).events ≡ [] → (deliver_next (deliveries n) r o).system ≡ r
        by None e = refl
        by (Some h) e = absurd (not-empty h.events (auto-ready h) (deliveries n h.system).events e)

    nothing-in-rounds : (most : ℕ) (last : Option ℕ) (r : System (Option S)) → (rounds (freed code) most last r).events ≡ [] → (rounds (freed code) most last r).system ≡ r
    nothing-in-rounds zero last r e = refl
    nothing-in-rounds (suc n) last r e = by (step (freed code) last (all_delivered r).system) e
      where
        by : (o : Option (Step (Option S))) → (behind (all_delivered r).events (step_behind (rounds (freed code) n) (all_delivered r).system o)).events ≡ []
            → (behind (all_delivered r).events (step_behind (rounds (freed code) n) (all_delivered r).system o)).system ≡ r
        by None e = nothing-delivered (signals r.world) r (sym (append-nil (all_delivered r).events) ∙ e)
        by (Some s) e = absurd (not-empty-behind (all_delivered r).events s.happened.events (auto-ready s.happened) (rounds (freed code) n s.ran s.happened.system).events e)

    pub auto-idle : (most : ℕ) (old mid new : Kept State) → To old mid (rounds (freed code) most None (system_of means old)) → length mid.node.events.items ≡ length old.node.events.items
        → To mid new (closed (nothing (system_of means mid))) → To old new (auto.auto (freed code) most (system_of means old))
    auto-idle most old mid new becomes same idles =
        let h = rounds (freed code) most None (system_of means old) in
        let none = no-events old.node mid.node h.events becomes.events same in
        let stays = nothing-in-rounds most None (system_of means old) none in
        subst (To old new) (sym (ap (or_idle (system_of means old) h) none))
        (record {
          is = idles.is;
          system = idles.system ∙ (becomes.system ∙ stays);
          events = idles.events ∙ ap₂ (λ (es : List (Event Term)) (r : System (Option S)). es ++ (closed (nothing r)).events) (becomes.events ∙ (ap (λ es. seen_of old.node ++ es) none ∙ append-nil (seen_of old.node))) (becomes.system ∙ stays);
          keeps = keeps-then old.node.heap mid.node.heap new.node.heap becomes.keeps idles.keeps;
        })

    pub auto-some : (most : ℕ) (old new : Kept State) → To old new (rounds (freed code) most None (system_of means old)) → (length new.node.events.items ≡ length old.node.events.items → ⊥) → To old new (auto.auto (freed code) most (system_of means old))
    auto-some most old new becomes other =
        let h = rounds (freed code) most None (system_of means old) in
        subst (To old new) (sym (some h h.events (λ none. other (as-many old.node new.node h.events becomes.events none)))) becomes
      where
        some : (h : Happened (Option S)) (events : List (Event Term)) → (events ≡ [] → ⊥) → or_idle (system_of means old) h events ≡ h
        some h [] ne = absurd (ne refl)
        some h (e ∷ events) ne = refl
