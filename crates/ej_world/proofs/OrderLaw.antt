-- The signals of one pair are delivered in the order in which they were sent.
use Rattle.std.proofs.Common.{◌≡◌, ℕ, ◌≤◌, Bool, true, false, not, nat_eq, nat_lt, ◌&&◌, List, [], ◌∷◌, ◌++◌, codes, Option, None, Some, option_map, option_and_then, refl, sym, ap, ◌∙◌, subst}
use Rattle.std.specs.Prelude.{slice_get, if◌then◌else◌}
use Rattle.std.proofs.lemmas.Bool.{eqb-true}
use Rattle.std.proofs.lemmas.Grind.{flat_map-append}
use Rattle.std.proofs.lemmas.List.{append_assoc, append-nil}
use Rattle.ej_term.specs.Term.{Term, Atom}
use Rattle.ej_world.specs.declared.effect.Begin.{Begin}
use Rattle.ej_world.specs.declared.event.Event.{Event}
use Rattle.ej_world.specs.declared.event.Event.TheVariants as event
use Rattle.ej_world.specs.Choices.{Outcome, Runs, Waits, Ends as Ends', Turned, Code, System, Happened, view_of, depth_after, ending, turned, nothing, of_change, start, delivered, at_clock, input_to, put_in}
use Rattle.ej_world.specs.Delivery.{is_atom, exit_message, dropped, appended, hit, exits, is_linked, without_link, to_live, to_process, with_queue, first_of, deliver}
use Rattle.ej_world.specs.Lawful.{MayGive, MayGiveAll, next_after, live_after, States, Lawful, AreAsked}
use Rattle.ej_world.specs.Order.{sent_by, sent, handled_by, handled, Shows, ShowEach, InOrder}
use Rattle.ej_world.specs.Runs.{Choice, run}
use Rattle.ej_world.specs.Sound.{Sound}
use Rattle.ej_world.specs.Steps.{Step, Idles, Closes, Starts, Turns, Delivers as Delivers', Clocks, Inputs, Reaches, Here, Then, end_of, IsTurn}
use Rattle.ej_world.specs.World.{Signal, Message, Link, Exit, Process, World, Queue, Change, is_live, put, taken, with_signal, with_signals, with_process, with_message, end_events}
use Rattle.ej_world.specs.World as world
use Rattle.ej_world.proofs.SoundLaw.{is_turn, lawful_turn, empty_sound, step-sound}
use Rattle.ej_world.proofs.StepsLaw.{run_steps}

module _ (from to : ℕ) where
  is_pair : ℕ → ℕ → Bool
  is_pair p q = nat_eq from p && nat_eq to q

  -- ---- what events send is what is put on its way

  put-one : (p q : ℕ) (signal : Signal) (queue : Queue) → put p q signal queue from to ≡ queue from to ++ (if nat_eq from p && nat_eq to q then signal ∷ [] else [])
  put-one p q signal queue = by (nat_eq from p && nat_eq to q)
    where
      by : (b : Bool) → (if b then queue from to ++ signal ∷ [] else queue from to) ≡ queue from to ++ (if b then signal ∷ [] else [])
      by true = refl
      by false = sym (append-nil (queue from to))

  one-sent : (e : Event Term) (queue : Queue) → with_signal e queue from to ≡ queue from to ++ sent_by from to e
  one-sent (event.Send p q message) queue = put-one p q (Message message) queue
  one-sent (event.Signal p q reason) queue = put-one p q (Exit reason) queue
  one-sent (event.Broken p q reason) queue = put-one p q (Link reason) queue
  one-sent (event.Start p how) queue = sym (append-nil (queue from to))
  one-sent (event.Spawn p q how) queue = sym (append-nil (queue from to))
  one-sent (event.Lost p message) queue = sym (append-nil (queue from to))
  one-sent (event.Deliver p q message) queue = sym (append-nil (queue from to))
  one-sent (event.Hit p q reason) queue = sym (append-nil (queue from to))
  one-sent (event.Dropped p q) queue = sym (append-nil (queue from to))
  one-sent (event.Input p message) queue = sym (append-nil (queue from to))
  one-sent (event.Recv p message) queue = sym (append-nil (queue from to))
  one-sent (event.Print p term) queue = sym (append-nil (queue from to))
  one-sent (event.Raise p class reason) queue = sym (append-nil (queue from to))
  one-sent (event.Answer p value) queue = sym (append-nil (queue from to))
  one-sent (event.Exit p reason) queue = sym (append-nil (queue from to))
  one-sent (event.Fault p) queue = sym (append-nil (queue from to))
  one-sent (event.Clock clock) queue = sym (append-nil (queue from to))
  one-sent (event.Turn p depth) queue = sym (append-nil (queue from to))
  one-sent event.Idle queue = sym (append-nil (queue from to))
  one-sent (event.Ready numbers) queue = sym (append-nil (queue from to))

  all-sent : (events : List (Event Term)) (queue : Queue) → with_signals events queue from to ≡ queue from to ++ sent from to events
  all-sent [] queue = sym (append-nil (queue from to))
  all-sent (e ∷ events) queue =
      all-sent events (with_signal e queue)
      ∙ ap (λ signals. signals ++ sent from to events) (one-sent e queue)
      ∙ append_assoc (queue from to) (sent_by from to e) (sent from to events)

  -- ---- from one queue of the pair to another

  -- events by which some signals of a queue are delivered, and others come behind it
  pub record Moves (events : List (Event Term)) (before after : List Signal) : Type 0 where
    pub delivered : List Signal
    pub are : before ++ sent from to events ≡ delivered ++ after
    pub shown : ShowEach from to delivered (handled from to events)

  show-more : (ss us : List Signal) (es fs : List (Event Term)) → ShowEach from to ss es → ShowEach from to us fs → ShowEach from to (ss ++ us) (es ++ fs)
  show-more [] us [] fs one other = other
  show-more [] us (e ∷ es) fs one other = absurd one
  show-more (s ∷ ss) us [] fs one other = absurd one
  show-more (s ∷ ss) us (e ∷ es) fs one other = (one.0, show-more ss us es fs one.1 other)

  pub moves-on : (es fs : List (Event Term)) (a b c : List Signal) → Moves es a b → Moves fs b c → Moves (es ++ fs) a c
  moves-on es fs a b c one other = record {
    delivered = one.delivered ++ other.delivered;
    are =
        ap (λ signals. a ++ signals) (flat_map-append (sent_by from to) es fs)
        ∙ sym (append_assoc a (sent from to es) (sent from to fs))
        ∙ ap (λ signals. signals ++ sent from to fs) one.are
        ∙ append_assoc one.delivered b (sent from to fs)
        ∙ ap (λ signals. one.delivered ++ signals) other.are
        ∙ sym (append_assoc one.delivered other.delivered c);
    shown = subst (λ events. ShowEach from to (one.delivered ++ other.delivered) events) (sym (flat_map-append (handled_by from to) es fs))
        (show-more one.delivered other.delivered (handled from to es) (handled from to fs) one.shown other.shown);
  }

  pub moves-none : (before : List Signal) → Moves [] before before
  moves-none before = record { delivered = []; are = append-nil before; shown = tt }

  -- events that deliver nothing of the pair
  pub moves-quiet : (events : List (Event Term)) (before after : List Signal) → handled from to events ≡ [] → after ≡ before ++ sent from to events → Moves events before after
  moves-quiet events before after none behind = record {
    delivered = [];
    are = sym behind;
    shown = subst (λ events. ShowEach from to [] events) (sym none) tt;
  }

  -- ---- a delivery

  -- ends are deliveries of nothing
  quiet-end : (number : ℕ) (reason : Term) (links : List ℕ) → handled from to (end_events number reason links) ≡ []
  quiet-end number reason [] = refl
  quiet-end number reason (n ∷ links) = quiet-end number reason links

  -- what is seen first of a delivery
  data Seen (p q : ℕ) : Event Term → Type 0 where
    Taken : (message : Term) → Seen p q (event.Deliver p q message)
    Ended : (reason : Term) → Seen p q (event.Hit p q reason)
    Lost : Seen p q (event.Dropped p q)

  handles : (p q : ℕ) (e : Event Term) → Seen p q e → handled_by from to e ≡ (if nat_eq from p && nat_eq to q then e ∷ [] else [])
  handles p q _ (Taken message) = refl
  handles p q _ (Ended reason) = refl
  handles p q _ Lost = refl

  sends-none : (p q : ℕ) (e : Event Term) → Seen p q e → sent_by from to e ≡ []
  sends-none p q _ (Taken message) = refl
  sends-none p q _ (Ended reason) = refl
  sends-none p q _ Lost = refl

  -- a change that is the delivery of a signal from p to q, behind which the queues are those
  record Delivers (p q : ℕ) (signal : Signal) (queue : Queue) (c : Change) : Type 0 where
    first : Event Term
    more : List (Event Term)
    events : c.events ≡ first ∷ more
    seen : Seen p q first
    quiet : handled from to more ≡ []
    queues : c.world.queue ≡ with_signals more queue

  pick : (p q : ℕ) (signal : Signal) (queue : Queue) (b : Bool) (x y : Change) → (b ≡ true → Delivers p q signal queue x) → (b ≡ false → Delivers p q signal queue y)
      → Delivers p q signal queue (if b then x else y)
  pick p q signal queue true x y f g = f refl
  pick p q signal queue false x y f g = g refl

  drops : (w : World) (p q : ℕ) (signal : Signal) → Delivers p q signal w.queue (dropped w p q)
  drops w p q signal = record { first = event.Dropped p q; more = []; events = refl; seen = Lost; quiet = refl; queues = refl }

  ended-by : (w : World) (p q : ℕ) (x : Process) (signal : Signal) (reason : Term) → Delivers p q signal w.queue (hit w p q x reason)
  ended-by w p q x signal reason = record {
    first = event.Hit p q reason;
    more = end_events q reason x.links;
    events = refl;
    seen = Ended reason;
    quiet = quiet-end q reason x.links;
    queues = refl;
  }

  takes : (w : World) (p q : ℕ) (x : Process) (signal : Signal) (message : Term) → Delivers p q signal w.queue (appended w p q x message)
  takes w p q x signal message = record { first = event.Deliver p q message; more = []; events = refl; seen = Taken message; quiet = refl; queues = refl }

  -- the rules for an exit signal, of either kind
  exit-delivers : (w : World) (p q : ℕ) (x : Process) (by_exit : Bool) (signal : Signal) (reason : Term)
      → Delivers p q signal w.queue (exits w p q x by_exit reason)
  exit-delivers w p q x by_exit signal reason =
      pick p q signal w.queue (by_exit && is_atom (codes "kill") reason) _ _ (λ h. ended-by w p q x signal (Atom (codes "killed")))
      (λ h. pick p q signal w.queue x.trapping _ _ (λ h. takes w p q x signal (exit_message w.node p reason))
      (λ h. pick p q signal w.queue (is_atom (codes "normal") reason && not (nat_eq p q)) _ _ (λ h. drops w p q signal) (λ h. ended-by w p q x signal reason)))

  live-delivers : (w : World) (p q : ℕ) (x : Process) (signal : Signal) → Delivers p q signal w.queue (to_live w p q x signal)
  live-delivers w p q x (Message message) = takes w p q x (Message message) message
  live-delivers w p q x (Link reason) = pick p q (Link reason) w.queue (is_linked x p) _ _
      (λ h. exit-delivers (with_process w q (without_link x p)) p q (without_link x p) false (Link reason) reason)
      (λ h. drops w p q (Link reason))
  live-delivers w p q x (Exit reason) = exit-delivers w p q x true (Exit reason) reason

  process-delivers : (w : World) (p q : ℕ) (signal : Signal) (x : Process) → Delivers p q signal w.queue (if is_live x then to_live w p q x signal else dropped w p q)
  process-delivers w p q signal x = pick p q signal w.queue (is_live x) _ _ (λ h. live-delivers w p q x signal) (λ h. drops w p q signal)

  same-number : (a b : ℕ) → nat_eq a b ≡ true → a ≡ b
  same-number a b h = eqb-true a b h

  both-true : (a b : Bool) → (a && b) ≡ true → (a ≡ true) × (b ≡ true)
  both-true true true h = (refl, refl)
  both-true true false h = absurd cc
  both-true false b h = absurd cc

  -- the delivery of the first signal from p to q moves the queue of the pair, if that is it
  moves-delivered : (w : World) (p q : ℕ) (signal : Signal) (rest : List Signal) (c : Change) → w.queue p q ≡ signal ∷ rest → Delivers p q signal (taken p q rest w.queue) c
      → (u : World) (x : Process) → to_process u p q signal (Some x) ≡ Some c → Moves c.events (w.queue from to) (c.world.queue from to)
  moves-delivered w p q signal rest c waits d u x is =
      subst (λ queue. Moves c.events (w.queue from to) (queue from to)) (sym d.queues)
      (subst (λ signals. Moves c.events (w.queue from to) signals) (sym (all-sent d.more (taken p q rest w.queue)))
      (subst (λ events. Moves events (w.queue from to) (taken p q rest w.queue from to ++ sent from to d.more)) (sym d.events)
      (by (nat_eq from p && nat_eq to q) refl)))
    where
      handled-is : (b : Bool) → nat_eq from p && nat_eq to q ≡ b → handled from to (d.first ∷ d.more) ≡ (if b then d.first ∷ [] else [])
      handled-is b e = ap (λ events. handled_by from to d.first ++ events) d.quiet ∙ append-nil (handled_by from to d.first) ∙ handles p q d.first d.seen ∙ ap (λ b. if b then d.first ∷ [] else []) e

      sent-is : sent from to (d.first ∷ d.more) ≡ sent from to d.more
      sent-is = ap (λ signals. signals ++ sent from to d.more) (sends-none p q d.first d.seen)

      this : nat_eq from p && nat_eq to q ≡ true → (p ≡ from) × (q ≡ to)
      this e = (sym (same-number from p (both-true (nat_eq from p) (nat_eq to q) e).0), sym (same-number to q (both-true (nat_eq from p) (nat_eq to q) e).1))

      before : (e : nat_eq from p && nat_eq to q ≡ true) → w.queue from to ≡ signal ∷ rest
      before e = subst (λ n. w.queue n to ≡ signal ∷ rest) (this e).0 (subst (λ n. w.queue p n ≡ signal ∷ rest) (this e).1 waits)

      shows : Shows p q signal d.first
      shows = record { world = u; process = x; change = c; more = d.more; is = is; events = d.events }

      shown-one : (e : nat_eq from p && nat_eq to q ≡ true) → Shows from to signal d.first
      shown-one e = subst (λ n. Shows n to signal d.first) (this e).0 (subst (λ n. Shows p n signal d.first) (this e).1 shows)

      by : (b : Bool) → nat_eq from p && nat_eq to q ≡ b → Moves (d.first ∷ d.more) (w.queue from to) ((if b then rest else w.queue from to) ++ sent from to d.more)
      by true e = record {
        delivered = signal ∷ [];
        are = ap (λ signals. signals ++ sent from to (d.first ∷ d.more)) (before e) ∙ ap (λ signals. signal ∷ (rest ++ signals)) sent-is;
        shown = subst (λ events. ShowEach from to (signal ∷ []) events) (sym (handled-is true e)) (shown-one e, tt);
      }
      by false e = record {
        delivered = [];
        are = ap (λ signals. w.queue from to ++ signals) sent-is;
        shown = subst (λ events. ShowEach from to [] events) (sym (handled-is false e)) tt;
      }

  abbrev pub MovesEach : (before : List Signal) → Option Change → Type 0
  MovesEach before None = Unit {0}
  MovesEach before (Some c) = Moves c.events before (c.world.queue from to)

  moves-process : (w : World) (p q : ℕ) (signal : Signal) (rest : List Signal) → w.queue p q ≡ signal ∷ rest → (o : Option Process)
      → MovesEach (w.queue from to) (to_process (with_queue w (taken p q rest w.queue)) p q signal o)
  moves-process w p q signal rest waits None = tt
  moves-process w p q signal rest waits (Some x) = moves-delivered w p q signal rest _ waits (process-delivers (with_queue w (taken p q rest w.queue)) p q signal x) (with_queue w (taken p q rest w.queue)) x refl

  moves-first : (w : World) (p q : ℕ) (signals : List Signal) → w.queue p q ≡ signals → MovesEach (w.queue from to) (first_of w p q signals)
  moves-first w p q [] waits = tt
  moves-first w p q (signal ∷ rest) waits = moves-process w p q signal rest waits (slice_get w.processes q)

  pub moves-deliver : (w : World) (p q : ℕ) → MovesEach (w.queue from to) (deliver w p q)
  moves-deliver w p q = moves-first w p q (w.queue p q) refl

  -- ---- what a turn gives

  quiet-one : (me next : ℕ) (live : List ℕ) (e : Event Term) → MayGive me next live e → handled_by from to e ≡ []
  quiet-one me next live (event.Spawn p q how) may = refl
  quiet-one me next live (event.Send p q message) may = refl
  quiet-one me next live (event.Signal p q reason) may = refl
  quiet-one me next live (event.Broken p q reason) may = refl
  quiet-one me next live (event.Lost p message) may = refl
  quiet-one me next live (event.Recv p message) may = refl
  quiet-one me next live (event.Print p term) may = refl
  quiet-one me next live (event.Raise p class reason) may = refl
  quiet-one me next live (event.Answer p value) may = refl
  quiet-one me next live (event.Fault p) may = refl
  quiet-one me next live _ may = absurd may

  quiet-turn : (me next : ℕ) (live : List ℕ) (events : List (Event Term)) → MayGiveAll me next live events → handled from to events ≡ []
  quiet-turn me next live [] may = refl
  quiet-turn me next live (e ∷ events) may =
      ap (λ es. es ++ handled from to events) (quiet-one me next live e may.0) ∙ quiet-turn me (next_after next e) (live_after live e) events may.1

  quiet-ending : (me : ℕ) (links : List ℕ) (outcome : Outcome) → handled from to (ending me links outcome) ≡ []
  quiet-ending me links Runs = refl
  quiet-ending me links Waits = refl
  quiet-ending me links (Ends' reason) = quiet-end me reason links

  -- ---- choices

  -- one event that neither sends nor delivers
  moves-one : (e : Event Term) (before : List Signal) → handled_by from to e ≡ [] → sent_by from to e ≡ [] → Moves (e ∷ []) before before
  moves-one e before none nothing = moves-quiet (e ∷ []) before before (ap (λ es. es ++ []) none) (sym (append-nil before) ∙ ap (λ signals. before ++ (signals ++ [])) (sym nothing))

  module _ {S : Type 0} where
    abbrev waiting : System S → List Signal
    waiting r = r.world.queue from to

    abbrev Moved : System S → Happened S → Type 0
    Moved r h = Moves h.events (waiting r) (waiting h.system)

    abbrev MovedEach : System S → Option (Happened S) → Type 0
    MovedEach r None = Unit {0}
    MovedEach r (Some h) = Moved r h

    moved-nothing : (r : System S) → Moved r (nothing r)
    moved-nothing r = moves-one event.Idle (waiting r) refl refl

    moved-change : (r : System S) (o : Option Change) → MovesEach (waiting r) o → MovedEach r (option_map (of_change r.states) o)
    moved-change r None moved = tt
    moved-change r (Some c) moved = moved

    moved-delivered : (p q : ℕ) (r : System S) → MovedEach r (delivered r p q)
    moved-delivered p q r = moved-change r (deliver r.world p q) (moves-deliver r.world p q)

    moved-clock : (clock : ℕ) (r : System S) → Moved r (at_clock r clock)
    moved-clock clock r = moves-one (event.Clock clock) (waiting r) refl refl

    moved-input-to : (r : System S) (number : ℕ) (message : Term) (p : Process) (b : Bool)
        → MovedEach r (if b then Some (record { events = event.Input number message ∷ []; system = record { world = with_process r.world number (with_message p message); states = r.states } }) else None)
    moved-input-to r number message p true = moves-one (event.Input number message) (waiting r) refl refl
    moved-input-to r number message p false = tt

    moved-input : (number : ℕ) (message : Term) (r : System S) (o : Option Process) → MovedEach r (option_and_then (input_to r number message) o)
    moved-input number message r None = tt
    moved-input number message r (Some p) = moved-input-to r number message p (is_live p)

    module _ (code : Code S) where
      moved-turned : (r : System S) (me next : ℕ) (live : List ℕ) (p : Process) (t : Turned S) → MayGiveAll me next live t.events → Moved r (turned code r me p t)
      moved-turned r me next live p t may =
          moves-on t.events (ending me t.view.links t.outcome ++ event.Turn me depth ∷ []) (waiting r) (waiting r ++ sent from to t.events) (with_signals (t.events ++ ending me t.view.links t.outcome) r.world.queue from to)
          (moves-quiet t.events (waiting r) _ (quiet-turn me next live t.events may) refl)
          (moves-on (ending me t.view.links t.outcome) (event.Turn me depth ∷ []) (waiting r ++ sent from to t.events) _ _
          (moves-quiet (ending me t.view.links t.outcome) _ _ (quiet-ending me t.view.links t.outcome) after)
          (moves-one _ _ refl refl))
        where
          depth : ℕ
          depth = depth_after code t.outcome t.state

          after : with_signals (t.events ++ ending me t.view.links t.outcome) r.world.queue from to ≡ (waiting r ++ sent from to t.events) ++ sent from to (ending me t.view.links t.outcome)
          after =
              all-sent (t.events ++ ending me t.view.links t.outcome) r.world.queue
              ∙ ap (λ signals. waiting r ++ signals) (flat_map-append (sent_by from to) t.events (ending me t.view.links t.outcome))
              ∙ sym (append_assoc (waiting r) (sent from to t.events) (sent from to (ending me t.view.links t.outcome)))

      moved-start : (r : System S) (how : Begin Term) → MovedEach r (start code r how)
      moved-start r how = by (nat_lt (world.next_pid r.world) world.limit)
        where
          begun : Happened S
          begun = record {
            events = event.Start (world.next_pid r.world) how ∷ [];
            system = record {
              world = record { node = r.world.node; next_ref = r.world.next_ref; clock = r.world.clock; processes = r.world.processes ++ world.fresh ∷ []; queue = r.world.queue };
              states = r.states ++ code.begin how ∷ [];
            };
          }

          by : (b : Bool) → MovedEach r (if b then Some begun else None)
          by true = moves-one (event.Start (world.next_pid r.world) how) (waiting r) refl refl
          by false = tt

      if-there : (r : System S) (o : Option (Happened S)) (h : Happened S) → MovedEach r o → o ≡ Some h → Moved r h
      if-there r o h moved e = subst (MovedEach r) e moved

      module _ (IsState : States S) (lawful : Lawful code IsState) where
        moved-turn : (r : System S) (transfers number : ℕ) (h : Happened S) → Sound IsState r → 1 ≤ transfers → IsTurn code r transfers number h → Moved r h
        moved-turn r transfers number h sound some t =
            subst (λ h. Moved r h) (sym t.is)
            (moved-turned r number _ _ t.process (code.turn transfers (view_of r.world number t.process) t.state) (lawful_turn code IsState lawful r transfers number h sound some t).events)

        moved-step : (r : System S) (h : Happened S) → Sound IsState r → Step code r h → Moved r h
        moved-step r _ sound Idles = moved-nothing r
        moved-step r _ sound Closes = moves-one _ (waiting r) refl refl
        moved-step r _ sound (Starts how h is e) = if-there r (start code r how) h (moved-start r how) e
        moved-step r _ sound (Turns transfers number h some e) = moved-turn r transfers number h sound some (is_turn code IsState r transfers number h e)
        moved-step r _ sound (Delivers' p q h e) = if-there r (delivered r p q) h (moved-delivered p q r) e
        moved-step r _ sound (Clocks clock le) = moved-clock clock r
        moved-step r _ sound (Inputs number message h e) = if-there r (put_in r number message) h (moved-input number message r (slice_get r.world.processes number)) e

        moved-steps : (r q : System S) (events : List (Event Term)) → Reaches code r events q → Sound IsState r → Moves events (waiting r) (waiting q)
        moved-steps _ _ _ (Here r) sound = moves-none (waiting r)
        moved-steps _ q _ (Then r h events _ first rest) sound =
            moves-on h.events events (waiting r) (waiting h.system) (waiting q) (moved-step r h sound first) (moved-steps h.system q events rest (step-sound code IsState lawful r h first sound))

        -- in a run of what may be asked
        pub run_in_order : (script : List Choice) → AreAsked script → InOrder from to (run code script)
        run_in_order script asked =
            let begun : System S = record { world = world.empty; states = [] } in
            let moves = moved-steps begun (end_of code begun script) (run code script) (run_steps code script asked begun) (empty_sound code IsState lawful) in
            record { delivered = moves.delivered; waiting = waiting (end_of code begun script); are = moves.are; shown = moves.shown }
