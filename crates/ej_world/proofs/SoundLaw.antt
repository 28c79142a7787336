-- Each system that a run of a lawful code comes to is sound, and each turn of it is of a view that may be asked for a turn.
use Rattle.std.proofs.Common.{◌≡◌, ℕ, suc, ◌+◌, ◌<◌, ◌≤◌, true, nat_lt, inl, inr, List, [], ◌∷◌, ◌++◌, length, map, Option, None, Some, option_map, option_and_then, refl, sym, ap, subst, arith}
use Rattle.std.specs.Prelude.{slice_get, slice_set}
use Rattle.std.specs.List.{AllByRecursion}
use Rattle.std.proofs.lemmas.Bool.{cond_both, ltb-true}
use Rattle.std.proofs.lemmas.List.{length-append, length-map, length-set}
use Rattle.std.proofs.lemmas.Option.{slice_get_within, cond_some}
use Rattle.ej_term.specs.Term.{Term}
use Rattle.ej_world.specs.declared.effect.Begin.{Begin}
use Rattle.ej_world.specs.declared.event.Event.{Event}
use Rattle.ej_world.specs.declared.event.Event.TheVariants as event
use Rattle.ej_world.specs.Agree.{may_turn}
use Rattle.ej_world.specs.Choices.{Outcome, Runs, Waits, Ends, Turned, Code, System, Happened, view_of, agreeing, spawned, process_after, processes_after, ending, turned, of_change, start, turn_of, run_ready, run_process, delivered, input_to, put_in}
use Rattle.ej_world.specs.Delivery.{deliver}
use Rattle.ej_world.specs.Lawful.{RisingBelow, MeetsView, IsBegin, MayGive, MayGiveAll, made, next_after, live_after, TimerAfter, States, Kept, LawfulTurn, Lawful, AreAsked}
use Rattle.ej_world.specs.Runs.{Choice}
use Rattle.ej_world.specs.Sound.{IsTimer, SoundProcess, SoundAll, Sound}
use Rattle.ej_world.specs.Steps.{Step, Idles, Closes, Starts, Turns, Delivers, Clocks, Inputs, Reaches, Here, Then, end_of, IsTurn}
use Rattle.ej_world.specs.World.{Status, Running, Waiting, Ended, Process, World, Change, limit, next_pid, empty, fresh, is_live, is_ready, is_ready_in, with_message}
use Rattle.ej_world.specs.World as world
use Rattle.ej_world.proofs.LawfulLaw.{next_made}
use Rattle.ej_world.proofs.Numbers.{within-numbers, holds-numbers}
use Rattle.ej_world.proofs.SoundDelivery.{SoundEach, set-sound, deliver-sound}
use Rattle.ej_world.proofs.SoundParts.{fresh-sound, message-sound, Between, queue-grows, queue-sends, all-between, ends-between, all-grow, all-more, all-set, all-found, state-found, all-linked}
use Rattle.ej_world.proofs.StepsLaw.{run_steps}

-- ---- what a turn gives

pub made-length : (events : List (Event Term)) → length (made events) ≡ length (spawned events)
made-length [] = refl
made-length (event.Spawn p q how ∷ events) = ap suc (made-length events)
made-length (_ ∷ events) = made-length events

-- each process that a turn makes begins as it may
all-begun : (events : List (Event Term)) (me next : ℕ) (live : List ℕ) → MayGiveAll me next live events → AllByRecursion IsBegin (spawned events)
all-begun [] me next live may = tt
all-begun (event.Spawn p q how ∷ events) me next live may = (may.0.2, all-begun events me (next + 1) (live ++ q ∷ []) may.1)
all-begun (e ∷ events) me next live may = all-begun events me (next_after next e) (live_after live e) may.1

one-between : (me next bound : ℕ) (live : List ℕ) (e : Event Term) → MayGive me next live e → me < bound → next ≤ bound → Between bound e
one-between me next bound live (event.Send p q message) may lt le = (omega (arith, may.0), omega (arith, may.1))
one-between me next bound live (event.Signal p q reason) may lt le = (omega (arith, may.0), omega (arith, may.1))
one-between me next bound live (event.Broken q p reason) may lt le = (omega (arith, may.1), omega (arith, may.0))
one-between me next bound live _ may lt le = tt

-- and sends only to processes
given-between : (me next bound : ℕ) (live : List ℕ) (events : List (Event Term)) → MayGiveAll me next live events → me < bound → next + length (made events) ≤ bound
    → AllByRecursion (Between bound) events
given-between me next bound live [] may lt le = tt
given-between me next bound live (e ∷ events) may lt le =
    let whole = next_made next e events in
    (one-between me next bound live e may.0 lt (omega arith), given-between me (next_after next e) bound (live_after live e) events may.1 lt (omega arith))

pub length-agreeing : (me : ℕ) (old new : List ℕ) (number : ℕ) (ps : List Process) → length (agreeing me old new number ps) ≡ length ps
length-agreeing me old new number [] = refl
length-agreeing me old new number (p ∷ ps) = ap suc (length-agreeing me old new (number + 1) ps)

timer-sound : (clock : ℕ) (before after : Option ℕ) → clock ≤ limit → IsTimer before → TimerAfter clock before after → IsTimer after
timer-sound clock before None le sound set = tt
timer-sound clock before (Some deadline) le sound (inl same) = subst IsTimer same sound
timer-sound clock before (Some deadline) le sound (inr within) = omega arith

ending-between : (bound number : ℕ) (links : List ℕ) (outcome : Outcome) → number < bound → RisingBelow bound links → AllByRecursion (Between bound) (ending number links outcome)
ending-between bound number links Runs lt rise = tt
ending-between bound number links Waits lt rise = tt
ending-between bound number links (Ends reason) lt rise = (tt, ends-between bound 0 number reason links lt rise)

-- ---- ready processes

pub ready-live : (clock : ℕ) (p : Process) (status : Status) → is_ready_in clock p status ≡ true → world.has_not_ended status ≡ true
ready-live clock p Running ready = refl
ready-live clock p Waiting ready = refl
ready-live clock p Ended ready = absurd cc

pub ready-turn : (w : World) (me : ℕ) (p : Process) (status : Status) → is_ready_in w.clock p status ≡ true → may_turn status (view_of w me p) ≡ true
ready-turn w me p Running ready = refl
ready-turn w me p Waiting ready = ready
ready-turn w me p Ended ready = absurd cc

module _ {S : Type 0} (code : Code S) (IsState : States S) where
  pub ready-state : (clock : ℕ) (p : Process) (status : Status) (s : S) → is_ready_in clock p status ≡ true → Kept IsState status s → IsState status s
  ready-state clock p Running s ready kept = kept
  ready-state clock p Waiting s ready kept = kept
  ready-state clock p Ended s ready kept = absurd cc

  -- in a sound system a process that is ready has a view that may be asked for a turn
  pub view_meets : (r : System S) (number : ℕ) (p : Process) → Sound IsState r → slice_get r.world.processes number ≡ Some p → is_ready r.world.clock p ≡ true
      → MeetsView (view_of r.world number p)
  view_meets r number p sound at ready =
      let one = all-found IsState (next_pid r.world) 0 number number r.world.processes r.states p at (omega arith) sound.processes in
      record {
        me = holds-numbers is_live 0 number number r.world.processes p at (ready-live r.world.clock p p.status ready) (omega arith);
        live = within-numbers is_live 0 (next_pid r.world) r.world.processes (omega arith);
        links = one.links;
        not_itself = one.not_itself;
        clock = sound.clock;
        next_pid = sound.pids;
        next_ref = sound.refs;
        save = one.save;
      }

  -- and a state that may be asked
  pub state_meets : (r : System S) (number : ℕ) (p : Process) (s : S) → Sound IsState r → slice_get r.world.processes number ≡ Some p → slice_get r.states number ≡ Some s
      → is_ready r.world.clock p ≡ true → IsState p.status s
  state_meets r number p s sound at has ready =
      ready-state r.world.clock p p.status s ready (state-found IsState (next_pid r.world) 0 number r.world.processes r.states p s at has sound.processes)

  -- ---- what a turn is

  turn-if-ready : (r : System S) (transfers number : ℕ) (h : Happened S) (p : Process) (o : Option S) → slice_get r.world.processes number ≡ Some p → slice_get r.states number ≡ o
      → is_ready r.world.clock p ≡ true → turn_of code r transfers number p o ≡ Some h → IsTurn code r transfers number h
  turn-if-ready r transfers number h p None at has ready e = absurd cc
  turn-if-ready r transfers number h p (Some s) at has ready e = record { process = p; state = s; at = at; has = has; ready = ready; is = cc }

  turn-if-there : (r : System S) (transfers number : ℕ) (h : Happened S) (o : Option Process) → slice_get r.world.processes number ≡ o → run_ready code r transfers number o ≡ Some h
      → IsTurn code r transfers number h
  turn-if-there r transfers number h None at e = absurd cc
  turn-if-there r transfers number h (Some p) at e =
      cond_both (is_ready r.world.clock p) (turn_of code r transfers number p (slice_get r.states number)) None (λ o. o ≡ Some h → IsTurn code r transfers number h)
      (λ ready e. turn-if-ready r transfers number h p (slice_get r.states number) at refl ready e) (λ not_ready e. absurd cc) e

  pub is_turn : (r : System S) (transfers number : ℕ) (h : Happened S) → run_process code r transfers number ≡ Some h → IsTurn code r transfers number h
  is_turn r transfers number h e = turn-if-there r transfers number h (slice_get r.world.processes number) refl e

  module _ (lawful : Lawful code IsState) where
    pub lawful_turn : (r : System S) (transfers number : ℕ) (h : Happened S) → Sound IsState r → 1 ≤ transfers → (t : IsTurn code r transfers number h)
        → LawfulTurn IsState (view_of r.world number t.process) (code.turn transfers (view_of r.world number t.process) t.state)
    lawful_turn r transfers number h sound some t =
        lawful.turns transfers (view_of r.world number t.process) t.process.status t.state some (view_meets r number t.process sound t.at t.ready)
        (ready-turn r.world number t.process t.process.status t.ready) (state_meets r number t.process t.state sound t.at t.has t.ready)

    -- ---- what happens at once

    begun-sound : (bound number : ℕ) (hows : List (Begin Term)) → AllByRecursion IsBegin hows → SoundAll IsState bound number (map (λ how. fresh) hows) (map code.begin hows)
    begun-sound bound number [] are = tt
    begun-sound bound number (how ∷ hows) are = (fresh-sound bound number, lawful.begins how are.0, begun-sound bound (number + 1) hows are.1)

    turned-sound : (r : System S) (me : ℕ) (p : Process) (t : Turned S) → Sound IsState r → slice_get r.world.processes me ≡ Some p → LawfulTurn IsState (view_of r.world me p) t
        → Sound IsState (turned code r me p t).system
    turned-sound r me p t sound at turn = record {
      clock = sound.clock;
      pids = omega (arith, is, turn.pids_end);
      refs = turn.refs_end;
      processes = all-linked IsState bound 0 me p.links t.view.links (slice_set ps me after ++ map (λ how. fresh) (spawned t.events)) (slice_set r.states me t.state ++ map code.begin (spawned t.events)) lt turn.not_itself
          (all-more IsState bound 0 (0 + length (slice_set ps me after)) (slice_set ps me after) (slice_set r.states me t.state) _ _ refl
          (all-set IsState bound 0 me me ps r.states after t.state (omega arith) one turn.state (all-grow IsState (length ps) bound 0 ps r.states grows sound.processes))
          (begun-sound bound _ (spawned t.events) (all-begun t.events me (length ps) (world.live r.world) turn.events)));
      queue = queue-sends bound (t.events ++ ending me t.view.links t.outcome) r.world.queue
          (all-between bound t.events (ending me t.view.links t.outcome) (given-between me (length ps) bound _ t.events turn.events lt (omega (arith, is, turn.next_pid))) (ending-between bound me t.view.links t.outcome lt rise))
          (queue-grows (length ps) bound r.world.queue grows sound.queue);
    }
      where
        ps : List Process
        ps = r.world.processes

        after : Process
        after = process_after t.outcome t.view

        bound : ℕ
        bound = length (processes_after r.world me p t)

        is : bound ≡ t.view.next_pid
        is = omega (arith, length-agreeing me p.links t.view.links 0 (slice_set ps me after ++ map (λ how. fresh) (spawned t.events)), length-append (slice_set ps me after) (map (λ how. fresh) (spawned t.events)), length-set ps me after, length-map (spawned t.events) (λ how. fresh), made-length t.events, turn.next_pid)

        grows : length ps ≤ bound
        grows = omega (arith, is, turn.next_pid)

        lt : me < bound
        lt = omega (arith, slice_get_within ps me p at, turn.next_pid, is)

        rise : RisingBelow bound t.view.links
        rise = subst (λ n. RisingBelow n t.view.links) (sym is) turn.links

        was : SoundProcess (length ps) me p
        was = all-found IsState (length ps) 0 me me ps r.states p at (omega arith) sound.processes

        one : SoundProcess bound me after
        one = record { links = rise; not_itself = turn.not_itself; save = turn.save; timer = timer-sound r.world.clock p.timer t.view.timer sound.clock was.timer turn.timer }

    turn-sound : (r : System S) (transfers number : ℕ) (h : Happened S) → Sound IsState r → 1 ≤ transfers → IsTurn code r transfers number h → Sound IsState h.system
    turn-sound r transfers number h sound some t =
        subst (λ h. Sound IsState h.system) (sym t.is)
        (turned-sound r number t.process (code.turn transfers (view_of r.world number t.process) t.state) sound t.at (lawful_turn r transfers number h sound some t))

    start-sound : (r : System S) (how : Begin Term) (h : Happened S) → Sound IsState r → IsBegin how → start code r how ≡ Some h → Sound IsState h.system
    start-sound r how h sound is e =
        let begins = cond_some (nat_lt n limit) begun h e in
        let room = ltb-true n limit begins.0 in
        subst (λ h. Sound IsState h.system) begins.1 (record {
          clock = sound.clock;
          pids = omega (arith, room, more);
          refs = sound.refs;
          processes = all-more IsState (length (ps ++ fresh ∷ [])) 0 (0 + n) ps r.states (fresh ∷ []) (code.begin how ∷ []) refl
              (all-grow IsState n (length (ps ++ fresh ∷ [])) 0 ps r.states (omega (arith, more)) sound.processes) (fresh-sound _ _, lawful.begins how is, tt);
          queue = queue-grows n (length (ps ++ fresh ∷ [])) r.world.queue (omega (arith, more)) sound.queue;
        })
      where
        ps : List Process
        ps = r.world.processes

        n : ℕ
        n = length r.world.processes

        more : length (r.world.processes ++ fresh ∷ []) ≡ length r.world.processes + 1
        more = length-append r.world.processes (fresh ∷ [])

        begun : Happened S
        begun = record {
          events = event.Start (next_pid r.world) how ∷ [];
          system = record {
            world = record { node = r.world.node; next_ref = r.world.next_ref; clock = r.world.clock; processes = r.world.processes ++ fresh ∷ []; queue = r.world.queue };
            states = r.states ++ code.begin how ∷ [];
          };
        }

    SoundIf : Option (Happened S) → Type 0
    SoundIf None = Unit {0}
    SoundIf (Some h) = Sound IsState h.system

    if-there : (o : Option (Happened S)) (h : Happened S) → SoundIf o → o ≡ Some h → Sound IsState h.system
    unfolding SoundIf
    if-there o h sound e = subst SoundIf e sound

    change-sound : (states : List S) (o : Option Change) → SoundEach IsState states o → SoundIf (option_map (of_change states) o)
    unfolding SoundIf
    change-sound states None sound = tt
    change-sound states (Some c) sound = sound

    input-sound : (r : System S) (number : ℕ) (message : Term) (o : Option Process) → slice_get r.world.processes number ≡ o → Sound IsState r
        → SoundIf (option_and_then (input_to r number message) o)
    unfolding SoundIf
    input-sound r number message None at sound = tt
    input-sound r number message (Some p) at sound =
        let one = all-found IsState (next_pid r.world) 0 number number r.world.processes r.states p at (omega arith) sound.processes in
        cond_both (is_live p) (Some _) None SoundIf
        (λ e. set-sound IsState r.states r.world number p (with_message p message) at (message-sound (next_pid r.world) number p message one) (inl refl) sound) (λ e. tt)

    pub step-sound : (r : System S) (h : Happened S) → Step code r h → Sound IsState r → Sound IsState h.system
    step-sound r _ Idles sound = sound
    step-sound r _ Closes sound = sound
    step-sound r _ (Starts how h is e) sound = start-sound r how h sound is e
    step-sound r _ (Turns transfers number h some e) sound = turn-sound r transfers number h sound some (is_turn r transfers number h e)
    step-sound r _ (Delivers from to h e) sound = if-there (delivered r from to) h (change-sound r.states (deliver r.world from to) (deliver-sound IsState r.states r.world from to sound)) e
    step-sound r _ (Clocks clock le) sound = record { clock = le; pids = sound.pids; refs = sound.refs; processes = sound.processes; queue = sound.queue }
    step-sound r _ (Inputs number message h e) sound = if-there (put_in r number message) h (input-sound r number message (slice_get r.world.processes number) refl sound) e

    pub empty_sound : Sound IsState (record { world = empty; states = [] })
    empty_sound = record { clock = omega arith; pids = omega arith; refs = omega arith; processes = tt; queue = λ from to. inl refl }

    -- what a sound system comes to is sound
    pub sound_stays : (r q : System S) (events : List (Event Term)) → Reaches code r events q → Sound IsState r → Sound IsState q
    sound_stays _ _ _ (Here r) sound = sound
    sound_stays _ q _ (Then r h events _ first rest) sound = sound_stays h.system q events rest (step-sound r h first sound)

    -- each turn of what comes of the empty world is of a view and of a state that may be asked for a turn, and is lawful
    pub reached_turn : (r : System S) (events : List (Event Term)) (transfers number : ℕ) (h : Happened S) → Reaches code (record { world = empty; states = [] }) events r → 1 ≤ transfers
        → (t : IsTurn code r transfers number h) → MeetsView (view_of r.world number t.process) × IsState t.process.status t.state
        × LawfulTurn IsState (view_of r.world number t.process) (code.turn transfers (view_of r.world number t.process) t.state)
    reached_turn r events transfers number h reached some t =
        let sound = sound_stays _ r events reached empty_sound in
        (view_meets r number t.process sound t.at t.ready, state_meets r number t.process t.state sound t.at t.has t.ready, lawful_turn r transfers number h sound some t)

    -- what a run of what may be asked comes to, at each of its choices
    pub run_sound : (script : List Choice) → AreAsked script → Sound IsState (end_of code (record { world = empty; states = [] }) script)
    run_sound script asked = sound_stays _ _ _ (run_steps code script asked (record { world = empty; states = [] })) empty_sound
