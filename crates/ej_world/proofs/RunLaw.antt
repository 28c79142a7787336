-- Codes that agree have the same runs.
use Rattle.std.proofs.Common.{◌≡◌, ℕ, zero, suc, ◌+◌, Bool, true, false, nat_lt, List, [], ◌∷◌, ◌++◌, map, Option, None, Some, option_map, option_and_then, inl, inr, refl, sym, ap, ◌∙◌, subst}
use Rattle.std.specs.Prelude.{slice_get, slice_set, if◌then◌else◌}
use Rattle.std.specs.List.{AllByRecursion}
use Rattle.ej_term.specs.Term.{Term}
use Rattle.ej_world.specs.declared.effect.Begin.{Begin}
use Rattle.ej_world.specs.declared.event.Event.{Event}
use Rattle.ej_world.specs.declared.event.Event.TheVariants as event
use Rattle.ej_world.specs.Agree.{Relation, Keeps, may_turn, SameTurn, Agree, IsChoice, IsScript}
use Rattle.ej_world.specs.Choices.{View, Outcome, Runs, Waits, Ends, Turned, Code, System, Happened, view_of, agreeing, linked_back, holds, spawned, status_after, process_after, depth_after, ending, turned, closed, nothing, or_nothing, of_change, start, turn_of, run_ready, run_process, delivered, at_clock, advanced, input_to, put_in}
use Rattle.ej_world.specs.Auto.{behind, deliver_next, deliveries, signals, first_pair, all_delivered, next_ready, deadlines, least, to_come, Step, stepped, or_advance, step_to, step, step_behind, rounds, or_idle, auto}
use Rattle.ej_world.specs.Runs.{Choice, Start, Run, Deliver, Advance, Input, Auto, choose, run_from, run}
use Rattle.ej_world.specs.World.{Status, Running, Waiting, Ended, Process, World, Change, fresh, is_live, is_ready, with_links, with_message, with_process}
use Rattle.ej_world.specs.World as world
use Rattle.ej_world.specs.Delivery.{deliver}
use Rattle.ej_world.proofs.Laters.{Later, Laters, AfterEach, laters-set, deliver-later}

module _ {S T : Type 0} (Related : Relation S T) where
  -- the states of processes one by one
  abbrev pub Same : List Process → List S → List T → Type 0
  Same [] [] [] = Unit {0}
  Same (p ∷ ps) (s ∷ ss) (t ∷ ts) = Keeps Related p.status s t × Same ps ss ts
  Same _ _ _ = ⊥

  same-push : (ps : List Process) (ss : List S) (ts : List T) (p : Process) (s : S) (t : T) → Same ps ss ts → Keeps Related p.status s t
      → Same (ps ++ p ∷ []) (ss ++ s ∷ []) (ts ++ t ∷ [])
  same-push [] [] [] p s t same new = (new, tt)
  same-push [] [] (y ∷ ts) p s t same new = absurd same
  same-push [] (x ∷ ss) ts p s t same new = absurd same
  same-push (q ∷ ps) [] ts p s t same new = absurd same
  same-push (q ∷ ps) (x ∷ ss) [] p s t same new = absurd same
  same-push (q ∷ ps) (x ∷ ss) (y ∷ ts) p s t same new = (same.0, same-push ps ss ts p s t same.1 new)

  same-more : (ps : List Process) (ss : List S) (ts : List T) (qs : List Process) (us : List S) (vs : List T) → Same ps ss ts → Same qs us vs
      → Same (ps ++ qs) (ss ++ us) (ts ++ vs)
  same-more [] [] [] qs us vs same more = more
  same-more [] [] (y ∷ ts) qs us vs same more = absurd same
  same-more [] (x ∷ ss) ts qs us vs same more = absurd same
  same-more (q ∷ ps) [] ts qs us vs same more = absurd same
  same-more (q ∷ ps) (x ∷ ss) [] qs us vs same more = absurd same
  same-more (q ∷ ps) (x ∷ ss) (y ∷ ts) qs us vs same more = (same.0, same-more ps ss ts qs us vs same.1 more)

  same-set : (ps : List Process) (ss : List S) (ts : List T) (n : ℕ) (p : Process) (s : S) (t : T) → Same ps ss ts → Keeps Related p.status s t
      → Same (slice_set ps n p) (slice_set ss n s) (slice_set ts n t)
  same-set [] [] [] n p s t same new = tt
  same-set [] [] (y ∷ ts) n p s t same new = absurd same
  same-set [] (x ∷ ss) ts n p s t same new = absurd same
  same-set (q ∷ ps) [] ts n p s t same new = absurd same
  same-set (q ∷ ps) (x ∷ ss) [] n p s t same new = absurd same
  same-set (q ∷ ps) (x ∷ ss) (y ∷ ts) zero p s t same new = (new, same.1)
  same-set (q ∷ ps) (x ∷ ss) (y ∷ ts) (suc n) p s t same new = (same.0, same-set ps ss ts n p s t same.1 new)

  -- what is found under a number
  abbrev Found : Option Process → Option S → Option T → Type 0
  Found None None None = Unit {0}
  Found (Some p) (Some s) (Some t) = Keeps Related p.status s t
  Found _ _ _ = ⊥

  found : (ps : List Process) (ss : List S) (ts : List T) (n : ℕ) → Same ps ss ts → Found (slice_get ps n) (slice_get ss n) (slice_get ts n)
  found [] [] [] n same = tt
  found [] [] (y ∷ ts) n same = absurd same
  found [] (x ∷ ss) ts n same = absurd same
  found (q ∷ ps) [] ts n same = absurd same
  found (q ∷ ps) (x ∷ ss) [] n same = absurd same
  found (q ∷ ps) (x ∷ ss) (y ∷ ts) zero same = same.0
  found (q ∷ ps) (x ∷ ss) (y ∷ ts) (suc n) same = found ps ss ts n same.1

  linked-status : (me : ℕ) (was is : Bool) (p : Process) → (linked_back me was is p).status ≡ p.status
  linked-status me true true p = refl
  linked-status me true false p = refl
  linked-status me false true p = refl
  linked-status me false false p = refl

  same-agreeing : (me : ℕ) (old new : List ℕ) (n : ℕ) (ps : List Process) (ss : List S) (ts : List T) → Same ps ss ts → Same (agreeing me old new n ps) ss ts
  same-agreeing me old new n [] [] [] same = tt
  same-agreeing me old new n [] [] (y ∷ ts) same = absurd same
  same-agreeing me old new n [] (x ∷ ss) ts same = absurd same
  same-agreeing me old new n (q ∷ ps) [] ts same = absurd same
  same-agreeing me old new n (q ∷ ps) (x ∷ ss) [] same = absurd same
  same-agreeing me old new n (q ∷ ps) (x ∷ ss) (y ∷ ts) same =
      (subst (λ status. Keeps Related status x y) (sym (linked-status me (holds old n) (holds new n) q)) same.0, same-agreeing me old new (n + 1) ps ss ts same.1)

  keeps-later : (one other : Status) (s : S) (t : T) → Later one other → Keeps Related one s t → Keeps Related other s t
  keeps-later one other s t (inl e) keeps = subst (λ status. Keeps Related status s t) (sym e) keeps
  keeps-later one other s t (inr e) keeps = subst (λ status. Keeps Related status s t) (sym e) tt

  same-later : (ps qs : List Process) (ss : List S) (ts : List T) → Laters ps qs → Same ps ss ts → Same qs ss ts
  same-later [] [] [] [] later same = tt
  same-later [] [] [] (y ∷ ts) later same = absurd same
  same-later [] [] (x ∷ ss) ts later same = absurd same
  same-later [] (q ∷ qs) ss ts later same = absurd later
  same-later (p ∷ ps) [] ss ts later same = absurd later
  same-later (p ∷ ps) (q ∷ qs) [] ts later same = absurd same
  same-later (p ∷ ps) (q ∷ qs) (x ∷ ss) [] later same = absurd same
  same-later (p ∷ ps) (q ∷ qs) (x ∷ ss) (y ∷ ts) later same = (keeps-later p.status q.status x y later.0 same.0, same-later ps qs ss ts later.1 same.1)

  -- ---- systems, and what happens to them

  pub record SameSystem (r : System S) (q : System T) : Type 0 where
    pub world : r.world ≡ q.world
    pub states : Same r.world.processes r.states q.states

  pub record SameHappened (h : Happened S) (k : Happened T) : Type 0 where
    pub events : h.events ≡ k.events
    pub system : SameSystem h.system k.system

  abbrev SameOption : Option (Happened S) → Option (Happened T) → Type 0
  SameOption None None = Unit {0}
  SameOption (Some h) (Some k) = SameHappened h k
  SameOption _ _ = ⊥

  abbrev of : {U : Type 0} → World → List U → System U
  of w states = record { world = w; states = states }

  -- what holds over one world holds over the same world
  at-one : (P : System S → System T → Type 0) → ((w : World) (ss : List S) (ts : List T) → Same w.processes ss ts → P (of w ss) (of w ts))
      → (r : System S) (q : System T) → SameSystem r q → P r q
  at-one P f r q same = subst (λ w. P r (of w q.states)) same.world (f r.world r.states q.states same.states)

  same-closed : (h : Happened S) (k : Happened T) → SameHappened h k → SameHappened (closed h) (closed k)
  same-closed h k same = record {
    events = ap (λ events. events ++ event.Ready (world.ready h.system.world) ∷ []) same.events ∙ ap (λ w. k.events ++ event.Ready (world.ready w) ∷ []) same.system.world;
    system = same.system;
  }

  same-nothing : (r : System S) (q : System T) → SameSystem r q → SameHappened (nothing r) (nothing q)
  same-nothing r q same = record { events = refl; system = same }

  same-or : (r : System S) (q : System T) (o : Option (Happened S)) (u : Option (Happened T)) → SameSystem r q → SameOption o u → SameHappened (or_nothing r o) (or_nothing q u)
  same-or r q None None same both = same-nothing r q same
  same-or r q None (Some k) same both = absurd both
  same-or r q (Some h) None same both = absurd both
  same-or r q (Some h) (Some k) same both = both

  same-delivered : (from to : ℕ) (r : System S) (q : System T) → SameSystem r q → SameOption (delivered r from to) (delivered q from to)
  same-delivered from to = at-one (λ r q. SameOption (delivered r from to) (delivered q from to)) (λ w ss ts same. go w ss ts same (deliver w from to) (deliver-later w from to))
    where
      go : (w : World) (ss : List S) (ts : List T) → Same w.processes ss ts → (o : Option Change) → AfterEach w.processes o
          → SameOption (option_map (of_change ss) o) (option_map (of_change ts) o)
      go w ss ts same None later = tt
      go w ss ts same (Some c) later = record { events = refl; system = record { world = refl; states = same-later w.processes c.world.processes ss ts later same } }

  same-clock : (clock : ℕ) (r : System S) (q : System T) → SameSystem r q → SameHappened (at_clock r clock) (at_clock q clock)
  same-clock clock = at-one (λ r q. SameHappened (at_clock r clock) (at_clock q clock)) (λ w ss ts same. record { events = refl; system = record { world = refl; states = same } })

  same-advanced : (ms : ℕ) (r : System S) (q : System T) → SameSystem r q → SameHappened (advanced r ms) (advanced q ms)
  same-advanced ms = at-one (λ r q. SameHappened (advanced r ms) (advanced q ms)) (λ w ss ts same. record { events = refl; system = record { world = refl; states = same } })

  same-input : (number : ℕ) (message : Term) (r : System S) (q : System T) → SameSystem r q → SameOption (put_in r number message) (put_in q number message)
  same-input number message = at-one (λ r q. SameOption (put_in r number message) (put_in q number message)) (λ w ss ts same. go w ss ts same (slice_get w.processes number) refl)
    where
      input : (w : World) (ss : List S) (ts : List T) (p : Process) → slice_get w.processes number ≡ Some p → Same w.processes ss ts → (b : Bool)
          → SameOption (if b then Some (record { events = event.Input number message ∷ []; system = of (with_process w number (with_message p message)) ss }) else None)
          (if b then Some (record { events = event.Input number message ∷ []; system = of (with_process w number (with_message p message)) ts }) else None)
      input w ss ts p e same true =
          record { events = refl; system = record { world = refl; states = same-later w.processes _ ss ts (laters-set w.processes number p (with_message p message) e (inl refl)) same } }
      input w ss ts p e same false = tt

      go : (w : World) (ss : List S) (ts : List T) → Same w.processes ss ts → (o : Option Process) → slice_get w.processes number ≡ o
          → SameOption (option_and_then (input_to (of w ss) number message) o) (option_and_then (input_to (of w ts) number message) o)
      go w ss ts same None e = tt
      go w ss ts same (Some p) e = input w ss ts p e same (is_live p)

  -- ---- codes

  module _ (Asked : Begin Term → Type 0) (a : Code S) (b : Code T) (agree : Agree a b Related Asked) where
    same-start : (how : Begin Term) → Asked how → (r : System S) (q : System T) → SameSystem r q → SameOption (start a r how) (start b q how)
    same-start how asked = at-one (λ r q. SameOption (start a r how) (start b q how)) (λ w ss ts same. go w ss ts same (nat_lt (world.next_pid w) world.limit))
      where
        begun : {U : Type 0} → Code U → World → List U → Happened U
        begun code w states = record {
          events = event.Start (world.next_pid w) how ∷ [];
          system = of (record { node = w.node; next_ref = w.next_ref; clock = w.clock; processes = w.processes ++ fresh ∷ []; queue = w.queue }) (states ++ code.begin how ∷ []);
        }

        go : (w : World) (ss : List S) (ts : List T) → Same w.processes ss ts → (room : Bool)
            → SameOption (if room then Some (begun a w ss) else None) (if room then Some (begun b w ts) else None)
        go w ss ts same true = record { events = refl; system = record { world = refl; states = same-push w.processes ss ts fresh (a.begin how) (b.begin how) same (agree.begins how asked) } }
        go w ss ts same false = tt

    -- the states of the processes that a turn made
    same-begun : (hows : List (Begin Term)) → AllByRecursion Asked hows → Same (map (λ how. fresh) hows) (map a.begin hows) (map b.begin hows)
    same-begun [] asked = tt
    same-begun (how ∷ hows) asked = (agree.begins how asked.0, same-begun hows asked.1)

    same-depth : (outcome : Outcome) (s : S) (t : T) → Keeps Related (status_after outcome) s t → depth_after a outcome s ≡ depth_after b outcome t
    same-depth Runs s t keeps = agree.depths Running s t keeps
    same-depth Waits s t keeps = agree.depths Waiting s t keeps
    same-depth (Ends reason) s t keeps = refl

    made : {U : Type 0} → List (Event Term) → Outcome → View → U → Turned U
    made events outcome v state = record { events = events; outcome = outcome; view = v; state = state }

    -- what is seen of a turn is the same
    same-made : (w : World) (ss : List S) (ts : List T) (me : ℕ) (p : Process) (events : List (Event Term)) (outcome : Outcome) (v : View) (s : S) (t : T)
        → Same w.processes ss ts → AllByRecursion Asked (spawned events) → Keeps Related (status_after outcome) s t
        → SameHappened (turned a (of w ss) me p (record { events = events; outcome = outcome; view = v; state = s })) (turned b (of w ts) me p (record { events = events; outcome = outcome; view = v; state = t }))
    same-made w ss ts me p events outcome v s t same asked keeps = record {
      events = ap (λ depth. events ++ (ending me v.links outcome ++ event.Turn me depth ∷ [])) (same-depth outcome s t keeps);
      system = record {
        world = refl;
        states = same-agreeing me p.links v.links 0 _ _ _
            (same-more (slice_set w.processes me (process_after outcome v)) (slice_set ss me s) (slice_set ts me t) _ _ _
            (same-set w.processes ss ts me (process_after outcome v) s t same keeps) (same-begun (spawned events) asked));
      };
    }

    same-turned : (w : World) (ss : List S) (ts : List T) (me : ℕ) (p : Process) (x : Turned S) (y : Turned T) → Same w.processes ss ts → SameTurn Related Asked x y
        → SameHappened (turned a (of w ss) me p x) (turned b (of w ts) me p y)
    same-turned w ss ts me p x y same turn =
        subst (λ v. SameHappened (turned a (of w ss) me p x) (turned b (of w ts) me p (record { events = y.events; outcome = y.outcome; view = v; state = y.state }))) turn.view
        (subst (λ outcome. SameHappened (turned a (of w ss) me p x) (turned b (of w ts) me p (record { events = y.events; outcome = outcome; view = x.view; state = y.state }))) turn.outcome
        (subst (λ events. SameHappened (turned a (of w ss) me p x) (turned b (of w ts) me p (record { events = events; outcome = x.outcome; view = x.view; state = y.state }))) turn.events
        (same-made w ss ts me p x.events x.outcome x.view x.state y.state same turn.asked turn.states)))

    may-turn : (w : World) (me : ℕ) (p : Process) (status : Status) → world.is_ready_in w.clock p status ≡ true → may_turn status (view_of w me p) ≡ true
    may-turn w me p Running ready = refl
    may-turn w me p Waiting ready = ready
    may-turn w me p Ended ready = absurd cc

    related : (w : World) (p : Process) (status : Status) (s : S) (t : T) → world.is_ready_in w.clock p status ≡ true → Keeps Related status s t → Related status s t
    related w p Running s t ready keeps = keeps
    related w p Waiting s t ready keeps = keeps
    related w p Ended s t ready keeps = absurd cc

    same-ready : (transfers me : ℕ) (w : World) (ss : List S) (ts : List T) (p : Process) (x : Option S) (y : Option T) → Same w.processes ss ts → Found (Some p) x y
        → (ready : Bool) → is_ready w.clock p ≡ ready
        → SameOption (if ready then turn_of a (of w ss) transfers me p x else None) (if ready then turn_of b (of w ts) transfers me p y else None)
    same-ready transfers me w ss ts p None y same at ready e = absurd at
    same-ready transfers me w ss ts p (Some s) None same at ready e = absurd at
    same-ready transfers me w ss ts p (Some s) (Some t) same at true e = same-turned w ss ts me p _ _ same
        (agree.turns transfers (view_of w me p) p.status s t (may-turn w me p p.status e) (related w p p.status s t e at))
    same-ready transfers me w ss ts p (Some s) (Some t) same at false e = tt

    same-run : (transfers me : ℕ) (r : System S) (q : System T) → SameSystem r q → SameOption (run_process a r transfers me) (run_process b q transfers me)
    same-run transfers me = at-one (λ r q. SameOption (run_process a r transfers me) (run_process b q transfers me))
        (λ w ss ts same. go w ss ts same (slice_get w.processes me) (found w.processes ss ts me same))
      where
        go : (w : World) (ss : List S) (ts : List T) → Same w.processes ss ts → (o : Option Process) → Found o (slice_get ss me) (slice_get ts me)
            → SameOption (run_ready a (of w ss) transfers me o) (run_ready b (of w ts) transfers me o)
        go w ss ts same None at = tt
        go w ss ts same (Some p) at = same-ready transfers me w ss ts p (slice_get ss me) (slice_get ts me) same at (is_ready w.clock p) refl

    -- ---- `auto`

    same-behind : (es fs : List (Event Term)) (h : Happened S) (k : Happened T) → es ≡ fs → SameHappened h k → SameHappened (behind es h) (behind fs k)
    same-behind es fs h k e same = record { events = ap (λ xs. xs ++ h.events) e ∙ ap (λ xs. fs ++ xs) same.events; system = same.system }

    same-end : (r : System S) (q : System T) → SameSystem r q → SameHappened (record { events = []; system = r }) (record { events = []; system = q })
    same-end r q same = record { events = refl; system = same }

    same-first : (r : System S) (q : System T) → SameSystem r q
        → SameOption (option_and_then (λ (p : ℕ × ℕ). delivered r p.0 p.1) (first_pair r.world)) (option_and_then (λ (p : ℕ × ℕ). delivered q p.0 p.1) (first_pair q.world))
    same-first = at-one (λ r q. SameOption (option_and_then (λ (p : ℕ × ℕ). delivered r p.0 p.1) (first_pair r.world)) (option_and_then (λ (p : ℕ × ℕ). delivered q p.0 p.1) (first_pair q.world)))
        (λ w ss ts same. go w ss ts same (first_pair w))
      where
        go : (w : World) (ss : List S) (ts : List T) → Same w.processes ss ts → (o : Option (ℕ × ℕ))
            → SameOption (option_and_then (λ (p : ℕ × ℕ). delivered (of w ss) p.0 p.1) o) (option_and_then (λ (p : ℕ × ℕ). delivered (of w ts) p.0 p.1) o)
        go w ss ts same None = tt
        go w ss ts same (Some p) = same-delivered p.0 p.1 (of w ss) (of w ts) (record { world = refl; states = same })

    same-next : (rest : System S → Happened S) (more : System T → Happened T) → ((r : System S) (q : System T) → SameSystem r q → SameHappened (rest r) (more q))
        → (r : System S) (q : System T) → SameSystem r q → (o : Option (Happened S)) (u : Option (Happened T)) → SameOption o u
        → SameHappened (deliver_next rest r o) (deliver_next more q u)
    same-next rest more each r q same None None both = same-end r q same
    same-next rest more each r q same None (Some k) both = absurd both
    same-next rest more each r q same (Some h) None both = absurd both
    same-next rest more each r q same (Some h) (Some k) both =
        same-behind (closed h).events (closed k).events (rest h.system) (more k.system) (same-closed h k both).events (each h.system k.system both.system)

    same-deliveries : (most : ℕ) (r : System S) (q : System T) → SameSystem r q → SameHappened (deliveries most r) (deliveries most q)
    same-deliveries zero r q same = same-end r q same
    same-deliveries (suc n) r q same = same-next (deliveries n) (deliveries n) (same-deliveries n) r q same _ _ (same-first r q same)

    same-all : (r : System S) (q : System T) → SameSystem r q → SameHappened (all_delivered r) (all_delivered q)
    same-all r q same = subst (λ w. SameHappened (all_delivered r) (deliveries (signals w) q)) same.world (same-deliveries (signals r.world) r q same)

    record SameStep (x : Step S) (y : Step T) : Type 0 where
      happened : SameHappened x.happened y.happened
      ran : x.ran ≡ y.ran

    abbrev SameSteps : Option (Step S) → Option (Step T) → Type 0
    SameSteps None None = Unit {0}
    SameSteps (Some x) (Some y) = SameStep x y
    SameSteps _ _ = ⊥

    same-stepped : (ran : Option ℕ) (o : Option (Happened S)) (u : Option (Happened T)) → SameOption o u → SameSteps (option_map (stepped ran) o) (option_map (stepped ran) u)
    same-stepped ran None None both = tt
    same-stepped ran None (Some k) both = absurd both
    same-stepped ran (Some h) None both = absurd both
    same-stepped ran (Some h) (Some k) both = record { happened = both; ran = refl }

    same-advance : (last : Option ℕ) (o : Option ℕ) (r : System S) (q : System T) → SameSystem r q → SameSteps (or_advance last r o) (or_advance last q o)
    same-advance last None r q same = tt
    same-advance last (Some deadline) r q same = record { happened = same-clock deadline r q same; ran = refl }

    same-step : (last : Option ℕ) (r : System S) (q : System T) → SameSystem r q → SameSteps (step a last r) (step b last q)
    same-step last = at-one (λ r q. SameSteps (step a last r) (step b last q)) (λ w ss ts same. go w ss ts same (next_ready last (world.ready w)))
      where
        go : (w : World) (ss : List S) (ts : List T) → Same w.processes ss ts → (o : Option ℕ) → SameSteps (step_to a last (of w ss) o) (step_to b last (of w ts) o)
        go w ss ts same None = same-advance last (to_come (least (deadlines w))) (of w ss) (of w ts) (record { world = refl; states = same })
        go w ss ts same (Some number) = same-stepped (Some number) _ _ (same-run 2000 number (of w ss) (of w ts) (record { world = refl; states = same }))

    same-round : (rest : Option ℕ → System S → Happened S) (more : Option ℕ → System T → Happened T)
        → ((last : Option ℕ) (r : System S) (q : System T) → SameSystem r q → SameHappened (rest last r) (more last q))
        → (r : System S) (q : System T) → SameSystem r q → (x : Option (Step S)) (y : Option (Step T)) → SameSteps x y
        → SameHappened (step_behind rest r x) (step_behind more q y)
    same-round rest more each r q same None None both = same-end r q same
    same-round rest more each r q same None (Some y) both = absurd both
    same-round rest more each r q same (Some x) None both = absurd both
    same-round rest more each r q same (Some x) (Some y) both =
        subst (λ ran. SameHappened (step_behind rest r (Some x)) (behind (closed y.happened).events (more ran y.happened.system))) both.ran
        (same-behind (closed x.happened).events (closed y.happened).events _ _ (same-closed x.happened y.happened both.happened).events (each x.ran x.happened.system y.happened.system both.happened.system))

    same-rounds : (most : ℕ) (last : Option ℕ) (r : System S) (q : System T) → SameSystem r q → SameHappened (rounds a most last r) (rounds b most last q)
    same-rounds zero last r q same = same-end r q same
    same-rounds (suc n) last r q same =
        let all = same-all r q same in
        same-behind (all_delivered r).events (all_delivered q).events _ _ all.events
        (same-round (rounds a n) (rounds b n) (same-rounds n) (all_delivered r).system (all_delivered q).system all.system _ _ (same-step last (all_delivered r).system (all_delivered q).system all.system))

    same-idle : (r : System S) (q : System T) → SameSystem r q → (h : Happened S) (k : Happened T) → SameHappened h k → (events : List (Event Term))
        → SameHappened (or_idle r h events) (or_idle q k events)
    same-idle r q same h k both [] = same-closed (nothing r) (nothing q) (same-nothing r q same)
    same-idle r q same h k both (e ∷ events) = both

    same-auto : (most : ℕ) (r : System S) (q : System T) → SameSystem r q → SameHappened (auto a most r) (auto b most q)
    same-auto most r q same =
        let both = same-rounds most None r q same in
        subst (λ events. SameHappened (auto a most r) (or_idle q (rounds b most None q) events)) both.events
        (same-idle r q same (rounds a most None r) (rounds b most None q) both (rounds a most None r).events)

    -- ---- scripts

    same-choice : (c : Choice) → IsChoice Asked c → (r : System S) (q : System T) → SameSystem r q → SameHappened (choose a r c) (choose b q c)
    same-choice (Start module' name args) asked r q same = same-closed _ _ (same-or r q _ _ same (same-start _ asked r q same))
    same-choice (Run number transfers) asked r q same = same-closed _ _ (same-or r q _ _ same (same-run transfers number r q same))
    same-choice (Deliver from to) asked r q same = same-closed _ _ (same-or r q _ _ same (same-delivered from to r q same))
    same-choice (Advance ms) asked r q same = same-closed _ _ (same-advanced ms r q same)
    same-choice (Input number message) asked r q same = same-closed _ _ (same-or r q _ _ same (same-input number message r q same))
    same-choice (Auto most) asked r q same = same-auto most r q same

    same-runs : (script : List Choice) → IsScript Asked script → (r : System S) (q : System T) → SameSystem r q → run_from a r script ≡ run_from b q script
    same-runs [] asked r q same = refl
    same-runs (c ∷ cs) asked r q same =
        let chosen = same-choice c asked.0 r q same in
        ap (λ events. events ++ run_from a (choose a r c).system cs) chosen.events
        ∙ ap (λ events. (choose b q c).events ++ events) (same-runs cs asked.1 (choose a r c).system (choose b q c).system chosen.system)

    -- codes that agree have the same run of every script
    pub run_same : (script : List Choice) → IsScript Asked script → run a script ≡ run b script
    run_same script asked = same-runs script asked (of world.empty []) (of world.empty []) (record { world = refl; states = tt })
