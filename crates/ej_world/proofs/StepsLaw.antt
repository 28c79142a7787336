-- A run is what happens at once, one after the other.
use Rattle.std.proofs.Common.{◌≡◌, ℕ, zero, suc, ◌+◌, min, Bool, true, false, nat_le, List, [], ◌∷◌, ◌++◌, Option, None, Some, option_map, option_and_then, refl, sym, subst, arith}
use Rattle.std.specs.Prelude.{if◌then◌else◌}
use Rattle.std.proofs.lemmas.Bool.{leb-true}
use Rattle.std.proofs.lemmas.List.{append_assoc, append-nil}
use Rattle.ej_term.specs.Term.{Term, Atom, list}
use Rattle.ej_world.specs.declared.effect.Begin.TheVariants as begin
use Rattle.ej_world.specs.declared.event.Event.{Event}
use Rattle.ej_world.specs.Auto.{behind, deliver_next, deliveries, signals, first_pair, all_delivered, next_ready, deadlines, least, to_come, Step as AutoStep, stepped, or_advance, step_to, step, step_behind, rounds, or_idle}
use Rattle.ej_world.specs.Choices.{Code, System, Happened, closed, nothing, or_nothing, start, run_process, delivered, advanced, put_in}
use Rattle.ej_world.specs.Lawful.{IsAsked, AreAsked}
use Rattle.ej_world.specs.Runs.{Choice, Start, Run, Deliver, Advance, Input, Auto, choose, run_from}
use Rattle.ej_world.specs.Steps.{Step, Idles, Closes, Starts, Turns, Delivers, Clocks, Inputs, Reaches, Here, Then, end_of}
use Rattle.ej_world.specs.World as world

module _ {S : Type 0} (code : Code S) where
  -- what happens brings the system to that
  abbrev Comes : System S → Happened S → Type 0
  Comes r h = Reaches code r h.events h.system

  pub reaches_on : (r s q : System S) (es fs : List (Event Term)) → Reaches code r es s → Reaches code s fs q → Reaches code r (es ++ fs) q
  reaches_on _ _ q _ fs (Here s) more = more
  reaches_on _ s q _ fs (Then r h es _ first rest) more =
      subst (λ events. Reaches code r events q) (sym (append_assoc h.events es fs)) (Then r h (es ++ fs) q first (reaches_on h.system s q es fs rest more))

  one : (r : System S) (h : Happened S) → Step code r h → Comes r h
  one r h happens = subst (λ events. Reaches code r events h.system) (append-nil h.events) (Then r h [] h.system happens (Here h.system))

  comes-behind : (r : System S) (h k : Happened S) → Comes r h → Comes h.system k → Comes r (behind h.events k)
  comes-behind r h k first more = reaches_on r h.system k.system h.events k.events first more

  comes-closed : (r : System S) (h : Happened S) → Comes r h → Comes r (closed h)
  comes-closed r h first = comes-behind r h _ first (one h.system _ Closes)

  abbrev StepIf : System S → Option (Happened S) → Type 0
  StepIf r o = (h : Happened S) → o ≡ Some h → Step code r h

  comes-or : (r : System S) (o : Option (Happened S)) → StepIf r o → Comes r (or_nothing r o)
  comes-or r None step = one r (nothing r) Idles
  comes-or r (Some h) step = one r h (step h refl)

  -- ---- `auto`

  first-step : (r : System S) (o : Option (ℕ × ℕ)) → StepIf r (option_and_then (λ (p : ℕ × ℕ). delivered r p.0 p.1) o)
  first-step r None h e = absurd cc
  first-step r (Some p) h e = Delivers p.0 p.1 h e

  comes-next : (rest : System S → Happened S) → ((r : System S) → Comes r (rest r)) → (r : System S) (o : Option (Happened S)) → StepIf r o → Comes r (deliver_next rest r o)
  comes-next rest each r None step = Here r
  comes-next rest each r (Some h) step = comes-behind r (closed h) (rest h.system) (comes-closed r h (one r h (step h refl))) (each h.system)

  comes-deliveries : (most : ℕ) (r : System S) → Comes r (deliveries most r)
  comes-deliveries zero r = Here r
  comes-deliveries (suc n) r = comes-next (deliveries n) (comes-deliveries n) r _ (first-step r (first_pair r.world))

  ComesStep : System S → Option (AutoStep S) → Type 0
  ComesStep r None = Unit {0}
  ComesStep r (Some s) = Comes r s.happened

  comes-stepped : (r : System S) (ran : Option ℕ) (o : Option (Happened S)) → StepIf r o → ComesStep r (option_map (stepped ran) o)
  unfolding ComesStep
  comes-stepped r ran None step = tt
  comes-stepped r ran (Some h) step = one r h (step h refl)

  comes-advance : (r : System S) (last : Option ℕ) (o : Option ℕ) → ComesStep r (or_advance last r (to_come o))
  unfolding ComesStep
  comes-advance r last None = tt
  comes-advance r last (Some deadline) = by (nat_le deadline world.limit) refl
    where
      by : (b : Bool) → nat_le deadline world.limit ≡ b → ComesStep r (or_advance last r (if b then Some deadline else None))
      by true e = one r _ (Clocks deadline (leb-true deadline world.limit e))
      by false e = tt

  comes-step : (r : System S) (last o : Option ℕ) → ComesStep r (step_to code last r o)
  comes-step r last None = comes-advance r last (least (deadlines r.world))
  comes-step r last (Some number) = comes-stepped r (Some number) (run_process code r 2000 number) (λ h e. Turns 2000 number h (omega arith) e)

  comes-round : (rest : Option ℕ → System S → Happened S) → ((last : Option ℕ) (r : System S) → Comes r (rest last r)) → (r : System S) (o : Option (AutoStep S)) → ComesStep r o → Comes r (step_behind rest r o)
  unfolding ComesStep
  comes-round rest each r None comes = Here r
  comes-round rest each r (Some s) comes = comes-behind r (closed s.happened) (rest s.ran s.happened.system) (comes-closed r s.happened comes) (each s.ran s.happened.system)

  comes-rounds : (most : ℕ) (last : Option ℕ) (r : System S) → Comes r (rounds code most last r)
  comes-rounds zero last r = Here r
  comes-rounds (suc n) last r =
      let all = all_delivered r in
      comes-behind r all (step_behind (rounds code n) all.system (step code last all.system)) (comes-deliveries (signals r.world) r)
      (comes-round (rounds code n) (comes-rounds n) all.system (step code last all.system) (comes-step all.system last (next_ready last (world.ready all.system.world))))

  comes-idle : (r : System S) (h : Happened S) (events : List (Event Term)) → Comes r h → Comes r (or_idle r h events)
  comes-idle r h [] comes = comes-closed r (nothing r) (one r (nothing r) Idles)
  comes-idle r h (e ∷ events) comes = comes

  -- ---- scripts

  comes-one : (r : System S) (o : Option (Happened S)) → StepIf r o → Comes r (closed (or_nothing r o))
  comes-one r o step = comes-closed r (or_nothing r o) (comes-or r o step)

  comes-choice : (c : Choice) (r : System S) → IsAsked c → Comes r (choose code r c)
  comes-choice (Start module' name args) r asked =
      comes-one r (start code r (begin.Call (Atom module') (Atom name) (list args))) (λ h e. Starts (begin.Call (Atom module') (Atom name) (list args)) h (args, refl, asked) e)
  comes-choice (Run number transfers) r asked = comes-one r (run_process code r transfers number) (λ h e. Turns transfers number h asked e)
  comes-choice (Deliver from to) r asked = comes-one r (delivered r from to) (λ h e. Delivers from to h e)
  comes-choice (Advance ms) r asked = comes-closed r (advanced r ms) (one r (advanced r ms) (Clocks (min (r.world.clock + ms) world.limit) (omega arith)))
  comes-choice (Input number message) r asked = comes-one r (put_in r number message) (λ h e. Inputs number message h e)
  comes-choice (Auto most) r asked = comes-idle r (rounds code most None r) (rounds code most None r).events (comes-rounds most None r)

  -- a run of what may be asked is a row of steps
  pub run_steps : (script : List Choice) → AreAsked script → (r : System S) → Reaches code r (run_from code r script) (end_of code r script)
  run_steps [] asked r = Here r
  run_steps (c ∷ cs) asked r =
      let h = choose code r c in
      reaches_on r h.system (end_of code h.system cs) h.events (run_from code h.system cs) (comes-choice c r asked.0) (run_steps cs asked.1 h.system)
