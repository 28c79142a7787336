-- A turn of a process, put together of its parts.
use Rattle.std.proofs.Common.{◌≡◌, ℕ, zero, suc, ◌+◌, Bool, true, false, List, [], ◌∷◌, ◌++◌, map, Some, option_map, refl, sym, ap, ap₂, subst, ◌∙◌, arith}
use Rattle.std.specs.Prelude.{slice_get, slice_set}
use Rattle.std.proofs.lemmas.List.{append-nil}
use Rattle.ej_world.specs.Choices as world
use Rattle.ej_world.specs.Choices.{Code, System, Happened, Turned, Runs, Waits, Ends, holds, linked_back, agreeing, process_after, ending, depth_after, spawned, turned, turn_of, run_process}
use Rattle.ej_world.specs.World as worlds
use Rattle.ej_world.specs.World.{World, Process, Queue, Change, next_pid, is_ready, is_live, with_process, with_status, end_events, sending, with_signals, with_signal}
use Rattle.ej_world.proofs.SoundDelivery.{get_set}
use Rattle.term_heap.specs.declared.heap.Heap.{Heap}
use Rattle.term_heap.specs.View.{Keeps}
use Rattle.term_heap.proofs.Kept.{held, kept-term}
use Rattle.proc_sched.specs.declared.view.Outcome.{Outcome}
use Rattle.proc_sched.specs.declared.view.Outcome.TheVariants as outcome
use Rattle.proc_sched.specs.Seen.{outcome_of, HoldsOutcome}
use Rattle.proc_sched.specs.Systems.{finished, process_behind}
use Rattle.proc_sched.proofs.DeliveryLaw.{signals-then}
use Rattle.proc_sched.proofs.RelinkLaw.{get-agreeing}

-- ---- links of a definition

-- a change at a number that is not linked commutes with changes of links
pub agreeing-set : (me : ℕ) (old new : List ℕ) (number k : ℕ) (ps : List Process) (q : Process) → me ≡ number + k → holds old me ≡ false → holds new me ≡ false
    → slice_set (agreeing me old new number ps) k q ≡ agreeing me old new number (slice_set ps k q)
agreeing-set me old new number k [] q e was is = refl
agreeing-set me old new number zero (p ∷ ps) q e was is =
    let here : me ≡ number = omega (arith, e) in
    ap (λ r. r ∷ agreeing me old new (number + 1) ps)
    (sym (ap₂ (λ (a b : Bool). linked_back me a b q) (subst (λ n. holds old n ≡ false) here was) (subst (λ n. holds new n ≡ false) here is)))
agreeing-set me old new number (suc k) (p ∷ ps) q e was is = ap (λ rs. linked_back me (holds old number) (holds new number) p ∷ rs) (agreeing-set me old new (number + 1) k ps q (omega (arith, e)) was is)

set-front : {A : Type 0} (xs ys : List A) (k : ℕ) (x y : A) → slice_get xs k ≡ Some x → slice_set (xs ++ ys) k y ≡ slice_set xs k y ++ ys
set-front [] ys k x y at = absurd cc
set-front (z ∷ xs) ys zero x y at = refl
set-front (z ∷ xs) ys (suc k) x y at = ap (λ zs. z ∷ zs) (set-front xs ys k x y at)

set-twice : {A : Type 0} (xs : List A) (k : ℕ) (x y : A) → slice_set (slice_set xs k x) k y ≡ slice_set xs k y
set-twice [] k x y = refl
set-twice (z ∷ xs) zero x y = refl
set-twice (z ∷ xs) (suc k) x y = ap (λ zs. z ∷ zs) (set-twice xs k x y)

pub get-front : {A : Type 0} (xs ys : List A) (k : ℕ) (x : A) → slice_get xs k ≡ Some x → slice_get (xs ++ ys) k ≡ Some x
get-front [] ys k x at = absurd cc
get-front (z ∷ xs) ys zero x at = at
get-front (z ∷ xs) ys (suc k) x at = get-front xs ys k x at

-- a process behind a turn is live, until it is made to end
pub still-live : (o : world.Outcome) (v : world.View) → is_live (process_behind o v) ≡ true
still-live Runs v = refl
still-live Waits v = refl
still-live (Ends reason) v = refl

-- an outcome that is held stays so, and stands for the same
pub outcome-kept : (old new : Heap) (o : Outcome) → Keeps old new → HoldsOutcome old o → outcome_of new o ≡ outcome_of old o
outcome-kept old new outcome.Runs keeps is = refl
outcome-kept old new outcome.Waits keeps is = refl
outcome-kept old new (outcome.Ended reason) keeps is = ap Ends (kept-term old new reason keeps is)

pub outcome-held : (old new : Heap) (o : Outcome) → Keeps old new → HoldsOutcome old o → HoldsOutcome new o
outcome-held old new outcome.Runs keeps is = tt
outcome-held old new outcome.Waits keeps is = tt
outcome-held old new (outcome.Ended reason) keeps is = held old new reason keeps is

-- ---- the world behind a turn, before the process ends and after

module _ (w : World) (me : ℕ) (p : Process) (at : slice_get w.processes me ≡ Some p) {S : Type 0} (t : Turned S) (before : holds p.links me ≡ false) (behind : holds t.view.links me ≡ false) where
  abbrev with-spawned : Process → List Process
  with-spawned q = slice_set w.processes me q ++ map (λ how. worlds.fresh) (spawned t.events)

  -- links agree and signals are sent, and a process that ended still runs
  abbrev pub running : World
  running =
      record {
        node = w.node;
        next_ref = t.view.next_ref;
        clock = w.clock;
        processes = agreeing me p.links t.view.links 0 (with-spawned (process_behind t.outcome t.view));
        queue = with_signals t.events w.queue;
      }

  pub running-own : slice_get running.processes me ≡ Some (process_behind t.outcome t.view)
  running-own =
      get-agreeing me p.links t.view.links 0 me me (with-spawned (process_behind t.outcome t.view)) (omega arith)
      ∙ (ap (option_map (linked_back me (holds p.links me) (holds t.view.links me))) (get-front (slice_set w.processes me (process_behind t.outcome t.view)) _ me (process_behind t.outcome t.view) (get_set w.processes me p (process_behind t.outcome t.view) at))
      ∙ ap₂ (λ (a b : Bool). Some (linked_back me a b (process_behind t.outcome t.view))) before behind)

  -- what is done behind it is what the definition does
  pub record IsWhole (o : world.Outcome) (c : Change) : Type 0 where
    pub events : c.events ≡ ending me t.view.links o
    pub world : c.world ≡ sending (t.events ++ ending me t.view.links o)
        (record { node = w.node; next_ref = t.view.next_ref; clock = w.clock; processes = agreeing me p.links t.view.links 0 (with-spawned (process_after o t.view)); queue = w.queue })

  changed-process : (q : Process) → slice_set running.processes me q ≡ agreeing me p.links t.view.links 0 (with-spawned q)
  changed-process q =
      let here = get_set w.processes me p (process_behind t.outcome t.view) at in
      agreeing-set me p.links t.view.links 0 me (with-spawned (process_behind t.outcome t.view)) q (omega arith) before behind
      ∙ ap (agreeing me p.links t.view.links 0)
      (set-front (slice_set w.processes me (process_behind t.outcome t.view)) _ me (process_behind t.outcome t.view) q here ∙ ap (λ ps. ps ++ map (λ how. worlds.fresh) (spawned t.events)) (set-twice w.processes me (process_behind t.outcome t.view) q))

  runs-whole : (o : world.Outcome) → t.outcome ≡ o → IsWhole o (finished running me (process_behind o t.view) o)
  runs-whole Runs is = record { events = refl; world = ap₂ after (ap (λ o. process_behind o t.view) is) (ap (λ es. with_signals es w.queue) (sym (append-nil t.events))) }
    where
      after : Process → Queue → World
      after q queue = record { node = w.node; next_ref = t.view.next_ref; clock = w.clock; processes = agreeing me p.links t.view.links 0 (with-spawned q); queue = queue }
  runs-whole Waits is = record { events = refl; world = ap₂ after (ap (λ o. process_behind o t.view) is) (ap (λ es. with_signals es w.queue) (sym (append-nil t.events))) }
    where
      after : Process → Queue → World
      after q queue = record { node = w.node; next_ref = t.view.next_ref; clock = w.clock; processes = agreeing me p.links t.view.links 0 (with-spawned q); queue = queue }
  runs-whole (Ends reason) is = record {
    events = refl;
    world = ap₂ (λ (ps : List Process) (queue : Queue). record { node = w.node; next_ref = t.view.next_ref; clock = w.clock; processes = ps; queue = queue }) (changed-process (process_after (Ends reason) t.view))
        (sym (signals-then t.events (end_events me reason t.view.links) w.queue));
  }

  pub whole : IsWhole t.outcome (finished running me (process_behind t.outcome t.view) t.outcome)
  whole = runs-whole t.outcome refl
