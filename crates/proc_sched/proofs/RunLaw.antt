-- Each part of a turn may follow the one before it, and together they are the turn of the definition.
use Rattle.std.proofs.Common.{◌≡◌, ℕ, ◌≤◌, true, List, [], ◌∷◌, ◌++◌, length, map, drop, get_or, Option, None, Some, option_map, refl, sym, ap, ap₂, subst, ◌∙◌, arith}
use Rattle.std.specs.Prelude.{slice_get, slice_set}
use Rattle.std.specs.Global.{Vec}
use Rattle.std.specs.List.{All}
use Rattle.std.proofs.Math.Seq.{drop-append_seam}
use Rattle.std.proofs.lemmas.Bool.{cond-true}
use Rattle.std.proofs.lemmas.List.Elements.{All-drop}
use Rattle.std.proofs.lemmas.List.{append_assoc, map-append, length-map, length-append, length-set}
use Rattle.std.proofs.lemmas.Option.{slice_get_within, slice_get-map}
use Rattle.ej_term.specs.Term.{Term}
use Rattle.ej_world.specs.declared.effect.Begin.{Begin}
use Rattle.ej_world.specs.declared.event.Event.{Event}
use Rattle.ej_world.specs.declared.event.Event.TheVariants as event
use Rattle.ej_world.specs.Choices as world
use Rattle.ej_world.specs.Choices.{Code, System, Happened, Turned, Runs, Waits, Ends, agreeing, ending, depth_after, spawned, turned, turn_of, run_process}
use Rattle.ej_world.specs.Lawful.{States, Lawful, LawfulTurn, MayGiveAll, RisingBelow, made}
use Rattle.ej_world.specs.Sound.{SoundProcess, Sound}
use Rattle.ej_world.specs.Steps.{Turns}
use Rattle.ej_world.specs.World as worlds
use Rattle.ej_world.specs.World.{World, Process, Queue, Change, next_pid, is_ready, with_signals}
use Rattle.ej_world.proofs.Numbers.{within-grows}
use Rattle.ej_world.proofs.SoundLaw.{lawful_turn, made-length}
use Rattle.ej_world.proofs.SoundDelivery.{get_set}
use Rattle.ej_world.proofs.SoundParts.{all-found}
use Rattle.term_heap.specs.declared.cell.TermId.{TermId}
use Rattle.term_heap.specs.declared.heap.Heap.{Heap}
use Rattle.term_heap.specs.View.{Keeps}
use Rattle.term_heap.proofs.Kept.{keeps-then}
use Rattle.proc_sched.specs.declared.node.Node.{Node}
use Rattle.proc_sched.specs.declared.slot.Slot.{Slot}
use Rattle.proc_sched.specs.declared.view.Outcome.{Outcome}
use Rattle.proc_sched.specs.Calls.{Held, Meant, StaysSame}
use Rattle.proc_sched.specs.Freed.{left, freed, freed_after, IsFreed}
use Rattle.proc_sched.specs.Nodes.{shows, live_at, SendsFrom}
use Rattle.proc_sched.specs.Seen.{events_of, HoldsEvent, HoldsEvents, outcome_of}
use Rattle.proc_sched.specs.Stands.{IsNode, Does, world_of, process_of, seen_of, ready_at}
use Rattle.proc_sched.specs.Systems.{Kept, kept, meant, system_of, HoldsState, IsKept, IsSystem, BecomesSome, IsBehind, GoesBehind, MaySpawn, Spawns, spawned_from, MayFinish, Finishes, finished, process_behind, with_fresh}
use Rattle.proc_sched.specs.Turning.{IsLinked, MayAgree, Agrees}
use Rattle.proc_sched.proofs.BehindLaw.{ready-there, IsReady, slot-found, HasSlot}
use Rattle.proc_sched.proofs.FreedLaw.{freed-lawful}
use Rattle.proc_sched.proofs.Kept.{kept-events}
use Rattle.proc_sched.proofs.RelinkLaw.{relinked-world, relinked-node}
use Rattle.proc_sched.proofs.RunningLaw.{running, running-own, IsWhole, whole, outcome-held, outcome-kept, still-live, get-front}
use Rattle.proc_sched.proofs.SlotLaw.{some-same, found}
use Rattle.proc_sched.proofs.SystemLaw.{states-held, states-same, step}

module _ {State S : Type 0} (Holds' : Held State) (means : Meant State S) (IsState : States S) (stays : StaysSame Holds' means) (code : Code S) (lawful : Lawful code IsState)
    (old : Kept State) (number transfers : ℕ) (is : IsSystem Holds' means IsState old) (ready : ready_at old.node.clock (slice_get (world_of old.node).processes number) ≡ true) (some : 1 ≤ transfers)
  where
    -- ---- what the process is, and what its turn is

    pub there : IsReady old.node old.states number
    there = ready-there Holds' means IsState code old.node old.states number is ready

    abbrev pub w : World
    w = world_of old.node

    abbrev pub p : Process
    p = there.process

    abbrev pub s : S
    s = means old.node.heap there.has.state

    abbrev pub t : Turned S
    t = code.turn transfers (world.view_of w number p) s

    has : slice_get (meant means old) number ≡ Some (Some s)
    has = slice_get-map (option_map (means old.node.heap)) old.states number ∙ ap (option_map (option_map (means old.node.heap))) there.has.at

    abbrev pub h : Happened (Option S)
    h = turned (freed code) (system_of means old) number p (freed_after t)

    runs : run_process (freed code) (system_of means old) transfers number ≡ Some h
    runs =
        ap (world.run_ready (freed code) (system_of means old) transfers number) there.at
        ∙ (cond-true (is_ready w.clock p) (turn_of (freed code) (system_of means old) transfers number p (slice_get (meant means old) number)) None there.ready
        ∙ ap (turn_of (freed code) (system_of means old) transfers number p) has)

    legal : LawfulTurn (IsFreed IsState) (world.view_of w number p) (freed_after t)
    legal =
        lawful_turn (freed code) (IsFreed IsState) (freed-lawful code IsState lawful) (system_of means old) transfers number h is.sound some
        (record { process = p; state = Some s; at = there.at; has = has; ready = there.ready; is = refl })

    own : SoundProcess (next_pid w) number p
    own = all-found (IsFreed IsState) (next_pid w) 0 number number w.processes (meant means old) p there.at (omega arith) is.sound.processes

    -- the links that it had
    pub own-links : (r : Slot) → r ≡ get_or old.node.slots.items number r → r.links.items ≡ p.links
    own-links r read =
        let here = slot-found old.node.heap old.node.slots.items number p there.at in
        let lt = slice_get_within old.node.slots.items number here.slot here.at in
        ap (λ (q : Process). q.links) (some-same (process_of old.node.heap r) p (sym (found old.node number r lt read) ∙ there.at))

    -- ---- behind the turn itself

    module _ (first : ℕ) (from : first ≡ length old.node.events.items) (a : Kept State) (o : Outcome) (goes : GoesBehind Holds' means code transfers number old a o) where
      behind : IsBehind Holds' means t number old a o
      behind = goes p s there.at has

      new-events : drop first a.node.events.items ≡ behind.added
      new-events = ap₂ drop from behind.appends ∙ drop-append_seam old.node.events.items behind.added

      new-seen : events_of a.node.heap (drop first a.node.events.items) ≡ t.events
      new-seen = ap (events_of a.node.heap) new-events ∙ behind.events

      as-many : next_pid (world_of a.node) ≡ next_pid w
      as-many = ap next_pid behind.world ∙ length-set w.processes number (process_behind t.outcome t.view)

      pub may-spawn : MaySpawn Holds' first a
      may-spawn = record {
        me = number;
        live = worlds.live w;
        given = subst (λ n. MayGiveAll number n (worlds.live w) (events_of a.node.heap (drop first a.node.events.items))) (sym as-many) (subst (MayGiveAll number (next_pid w) (worlds.live w)) (sym new-seen) legal.events);
        is = subst (λ es. IsKept Holds' (made es) a) (sym new-seen) behind.is;
      }

      -- ---- behind the processes that it made

      module _ (b : Kept State) (spawns : Spawns Holds' means code (spawned_from first a.node) a b) where
        spawned-is : spawned_from first a.node ≡ spawned t.events
        spawned-is = ap spawned new-seen

        abbrev made-processes : List Process
        made-processes = slice_set w.processes number (process_behind t.outcome t.view) ++ map (λ how. worlds.fresh) (spawned t.events)

        b-world : world_of b.node ≡ record { node = 0; next_ref = t.view.next_ref; clock = w.clock; processes = made-processes; queue = w.queue }
        b-world = spawns.world ∙ ap₂ with_fresh spawned-is behind.world

        count : length b.node.slots.items ≡ t.view.next_pid
        count =
            let slots = length-map b.node.slots.items (process_of b.node.heap) in
            let all = ap next_pid b-world in
            omega (
              arith,
              slots,
              all,
              length-append (slice_set w.processes number (process_behind t.outcome t.view)) (map (λ how. worlds.fresh) (spawned t.events)),
              length-set w.processes number (process_behind t.outcome t.view),
              length-map (spawned t.events) (λ how. worlds.fresh),
              made-length t.events,
              legal.next_pid,
            )

        b-own : slice_get (world_of b.node).processes number ≡ Some (process_behind t.outcome t.view)
        b-own = ap (λ (w : World). slice_get w.processes number) b-world
            ∙ get-front (slice_set w.processes number (process_behind t.outcome t.view)) _ number (process_behind t.outcome t.view) (get_set w.processes number p (process_behind t.outcome t.view) there.at)

        b-slot : HasSlot b.node.heap b.node.slots.items number (process_behind t.outcome t.view)
        b-slot = slot-found b.node.heap b.node.slots.items number (process_behind t.outcome t.view) b-own

        b-links : b-slot.slot.links.items ≡ t.view.links
        b-links = ap (λ (q : Process). q.links) b-slot.is

        pub may-agree : (before : List ℕ) → before ≡ p.links → MayAgree number before b.node
        may-agree before same = record {
          within = slice_get_within b.node.slots.items number b-slot.slot b-slot.at;
          slots' = spawns.is.is_node.slots';
          before' = subst (IsLinked (length b.node.slots.items) number) (sym same) (record {
            below = within-grows 0 (next_pid w) (length b.node.slots.items) p.links (omega (arith, count, legal.next_pid)) own.links;
            not_itself = own.not_itself;
          });
          links = λ r at. subst (IsLinked (length b.node.slots.items) number) (sym (ap (λ (r : Slot). r.links.items) (some-same r b-slot.slot (sym at ∙ b-slot.at)) ∙ b-links)) (record {
            below = subst (λ n. RisingBelow n t.view.links) (sym count) legal.links;
            not_itself = legal.not_itself;
          });
        }

        -- ---- behind the change of links

        module _ (before : List ℕ) (same : before ≡ p.links) (c : Node) (agrees : Agrees number before b.node c) where
          pub c-node : IsNode c
          c-node = relinked-node number before b.node c b-slot.slot spawns.is.is_node agrees b-slot.at

          c-heap : c.heap ≡ b.node.heap
          c-heap = ap (λ (n : Node). n.heap) agrees.is

          c-events : c.events ≡ a.node.events
          c-events = ap (λ (n : Node). n.events) agrees.is ∙ spawns.events

          c-world : world_of c ≡ record { node = 0; next_ref = t.view.next_ref; clock = w.clock; processes = agreeing number p.links t.view.links 0 made-processes; queue = w.queue }
          c-world =
              relinked-world number before b.node c b-slot.slot agrees b-slot.at
              ∙ ap₂ (λ (u : World) (links : List ℕ × List ℕ). record { node = 0; next_ref = u.next_ref; clock = u.clock; processes = agreeing number links.0 links.1 0 u.processes; queue = u.queue }) b-world (ap₂ (λ (ms ns : List ℕ). (ms, ns)) same b-links)

          pub from-within : first ≤ length c.events.items
          from-within = omega (arith, from, ap (λ (es : Vec (Event TermId)). length es.items) c-events, ap length behind.appends, length-append old.node.events.items behind.added)

          -- ---- behind the signals

          module _ (d : Node) (sends : SendsFrom first c d) where
            abbrev pub e : Kept State
            e = kept d b.states

            d-heap : d.heap ≡ b.node.heap
            d-heap = ap (λ (n : Node). n.heap) sends.is ∙ c-heap

            d-events : d.events ≡ a.node.events
            d-events = ap (λ (n : Node). n.events) sends.is ∙ c-events

            d-seen-new : events_of c.heap (drop first c.events.items) ≡ t.events
            d-seen-new =
                ap₂ (λ (h : Heap) (es : Vec (Event TermId)). events_of h (drop first es.items)) c-heap c-events
                ∙ (ap (events_of b.node.heap) new-events ∙ (kept-events a.node.heap b.node.heap spawns.keeps behind.added added-held ∙ behind.events))
              where
                added-held : HoldsEvents a.node.heap behind.added
                added-held = subst (HoldsEvents a.node.heap) new-events (All-drop (HoldsEvent a.node.heap) first a.node.events.items behind.is.is_node.events')

            d-world : world_of d ≡ running w number p there.at t own.not_itself legal.not_itself
            d-world =
                ap world_of sends.is ∙ (ap₂ (λ (u : World) (queue : Queue). record { node = 0; next_ref = u.next_ref; clock = u.clock; processes = u.processes; queue = queue }) c-world
                (sends.queue ∙ ap₂ with_signals d-seen-new (ap (λ (u : World). u.queue) c-world)))

            d-own : slice_get (world_of d).processes number ≡ Some (process_behind t.outcome t.view)
            d-own = ap (λ (u : World). slice_get u.processes number) d-world ∙ running-own w number p there.at t own.not_itself legal.not_itself

            grown : Keeps old.node.heap d.heap
            grown = subst (Keeps old.node.heap) (sym d-heap) (keeps-then old.node.heap a.node.heap b.node.heap behind.keeps spawns.keeps)

            d-outcome : outcome_of d.heap o ≡ t.outcome
            d-outcome = ap (λ h. outcome_of h o) d-heap ∙ (outcome-kept a.node.heap b.node.heap o spawns.keeps behind.reason ∙ behind.outcome)

            d-meant : meant means e ≡ h.system.states
            d-meant = ap (λ h. map (option_map (means h)) b.states) d-heap ∙ (spawns.states' ∙ ap₂ (λ (ss : List (Option S)) (hows : List (Begin Term)). ss ++ map (freed code).begin hows) behind.states' spawned-is)

            d-has : slice_get (meant means e) number ≡ Some (left t.outcome t.state)
            d-has = ap (λ ss. slice_get ss number) d-meant ∙ get-front (slice_set (meant means old) number (left t.outcome t.state)) _ number (left t.outcome t.state) (get_set (meant means old) number (Some s) (left t.outcome t.state) has)

            pub e-kept : IsKept Holds' [] e
            e-kept = record { is_node = sends.is_node; states' = subst (λ h. All (HoldsState Holds' h) b.states) (sym d-heap) spawns.is.states' }

            pub may-finish : MayFinish means number e o
            may-finish = record {
              reason = outcome-held a.node.heap d.heap o (subst (Keeps a.node.heap) (sym d-heap) spawns.keeps) behind.reason;
              live = ap live_at d-own ∙ still-live t.outcome t.view;
              state' = t.state;
              has = d-has ∙ ap (λ o. Some (left o t.state)) (sym d-outcome);
            }

            -- ---- behind the end

            module _ (f : Kept State) (depth : ℕ) (finishes : Finishes means code number e f o depth) where
              done : Does d f.node (finished (world_of d) number (process_behind t.outcome t.view) (outcome_of d.heap o))
              done = finishes.does (process_behind t.outcome t.view) d-own

              pub f-node : IsNode f.node
              f-node = done.is_node

              all-done : IsWhole w number p there.at t own.not_itself legal.not_itself t.outcome (finished (world_of d) number (process_behind t.outcome t.view) (outcome_of d.heap o))
              all-done =
                  subst (λ u. IsWhole w number p there.at t own.not_itself legal.not_itself t.outcome (finished u number (process_behind t.outcome t.view) (outcome_of d.heap o))) (sym d-world)
                  (subst (λ o. IsWhole w number p there.at t own.not_itself legal.not_itself t.outcome (finished (running w number p there.at t own.not_itself legal.not_itself) number (process_behind t.outcome t.view) o)) (sym d-outcome)
                  (whole w number p there.at t own.not_itself legal.not_itself))

              seen-d : seen_of d ≡ seen_of old.node ++ t.events
              seen-d =
                  ap₂ (λ (h : Heap) (es : Vec (Event TermId)). events_of h es.items) d-heap d-events ∙ (ap (events_of b.node.heap) behind.appends ∙ (map-append _ old.node.events.items behind.added
                  ∙ ap₂ (λ (es fs : List (Event Term)). es ++ fs) (kept-events old.node.heap b.node.heap (keeps-then old.node.heap a.node.heap b.node.heap behind.keeps spawns.keeps) old.node.events.items is.is_kept.is_node.events')
                  (sym (ap (events_of b.node.heap) new-events) ∙ (sym (ap₂ (λ (h : Heap) (es : Vec (Event TermId)). events_of h (drop first es.items)) c-heap c-events) ∙ d-seen-new))))

              depth-is : depth ≡ depth_after (freed code) t.outcome (left t.outcome t.state)
              depth-is = finishes.depth' (left t.outcome t.state) d-has ∙ ap (λ o. depth_after (freed code) o (left t.outcome t.state)) d-outcome

              -- the turn of the definition
              pub becomes-run : (last : Node) → Does f.node last (shows (event.Turn number depth ∷ []) (world_of f.node)) → BecomesSome Holds' means IsState old (kept last f.states) (run_process (freed code) (system_of means old) transfers number)
              becomes-run last closes = subst (BecomesSome Holds' means IsState old (kept last f.states)) (sym runs) (record {
                is = record {
                  is_kept = record { is_node = closes.is_node; states' = subst (All (HoldsState Holds' last.heap)) (sym finishes.states') (states-held Holds' means IsState stays d.heap last.heap last-grown b.states e-kept.states') };
                  sound = subst (Sound (IsFreed IsState)) (sym system) (step Holds' means IsState stays code lawful (system_of means old) h (Turns transfers number h some runs) is.sound);
                };
                system = system;
                events = closes.events ∙ (ap (λ es. es ++ event.Turn number depth ∷ []) (done.events ∙ ap₂ (λ (es fs : List (Event Term)). es ++ fs) seen-d all-done.events)
                    ∙ (append_assoc (seen_of old.node ++ t.events) (ending number t.view.links t.outcome) (event.Turn number depth ∷ [])
                    ∙ (append_assoc (seen_of old.node) t.events (ending number t.view.links t.outcome ++ event.Turn number depth ∷ [])
                    ∙ ap (λ n. seen_of old.node ++ (t.events ++ (ending number t.view.links t.outcome ++ event.Turn number n ∷ []))) depth-is)));
                keeps = keeps-then old.node.heap d.heap last.heap grown last-grown;
              })
                where
                  last-grown : Keeps d.heap last.heap
                  last-grown = keeps-then d.heap f.node.heap last.heap done.keeps closes.keeps

                  system : system_of means (kept last f.states) ≡ h.system
                  system = ap₂ (λ (u : World) (ss : List (Option S)). record { world = u; states = ss }) (closes.world ∙ (done.world ∙ all-done.world))
                      (ap (map (option_map (means last.heap))) finishes.states' ∙ (states-same Holds' means IsState stays d.heap last.heap last-grown b.states e-kept.states' ∙ d-meant))
