-- Processes that begin, and messages that are put in.
use Rattle.std.proofs.Common.{◌≡◌, ℕ, ◌<◌, true, nat_lt, List, [], ◌∷◌, ◌++◌, map, Option, None, Some, option_map, option_and_then, refl, sym, ap, ap₂, subst, ◌∙◌}
use Rattle.std.specs.Prelude.{slice_get}
use Rattle.std.specs.Global.{Vec}
use Rattle.std.specs.List.{All}
use Rattle.std.proofs.lemmas.Bool.{lt-ltb, cond-true}
use Rattle.std.proofs.lemmas.List.{append-nil, map_push}
use Rattle.std.proofs.lemmas.List.Elements.{All-nil, All-cons, All-push}
use Rattle.ej_term.specs.Term.{Term}
use Rattle.ej_world.specs.declared.effect.Begin.{Begin}
use Rattle.ej_world.specs.declared.effect.Begin.TheVariants as begin
use Rattle.ej_world.specs.declared.event.Event.{Event}
use Rattle.ej_world.specs.declared.event.Event.TheVariants as event
use Rattle.ej_world.specs.Choices.{Code, System, Happened, of_change, start, put_in, input_to}
use Rattle.ej_world.specs.Lawful.{States, Lawful}
use Rattle.ej_world.specs.Sound.{Sound}
use Rattle.ej_world.specs.Steps.{Starts, Inputs}
use Rattle.ej_world.specs.World.{World, Process, Change, next_pid, limit, is_live, with_process, with_message}
use Rattle.term_heap.specs.declared.cell.TermId.{TermId}
use Rattle.term_heap.specs.declared.heap.Heap.{Heap}
use Rattle.term_heap.specs.View.{Keeps, Holds, term_of}
use Rattle.term_heap.specs.Held.{HoldsEach}
use Rattle.term_heap.proofs.Kept.{keeps-then}
use Rattle.proc_sched.specs.declared.node.Node.{Node}
use Rattle.proc_sched.specs.Calls.{Held, Meant, StaysSame, MayBegin, Begins}
use Rattle.proc_sched.specs.Freed.{freed, IsFreed}
use Rattle.proc_sched.specs.Nodes as nodes
use Rattle.proc_sched.specs.Nodes.{shows, with_next, live_at, PutsIn}
use Rattle.proc_sched.specs.Seen.{begin_of, HoldsBegin, ids_of_begin, event_of, events_of}
use Rattle.proc_sched.specs.Stands.{IsNodeBut, Does, world_of, seen_of}
use Rattle.proc_sched.specs.Systems.{kept, meant, system_of, HoldsState, IsKept, IsSystem, BecomesSome, Adds}
use Rattle.proc_sched.proofs.Kept.{with_heap, kept-but, kept-world-but, kept-begin, kept-events}
use Rattle.proc_sched.proofs.NodeLaw.{does-then}
use Rattle.proc_sched.proofs.SystemLaw.{states-held, states-same, becomes-does, step}

-- the process is there
pub record IsLive (o : Option Process) : Type 0 where
  pub process : Process
  pub is : o ≡ Some process
  pub live : is_live process ≡ true

pub live-there : (o : Option Process) → live_at o ≡ true → IsLive o
live-there None live = absurd cc
live-there (Some p) live = record { process = p; is = refl; live = live }

-- the ids of a beginning
pub begin-ids : (heap : Heap) (how : Begin TermId) → HoldsBegin heap how → HoldsEach heap (ids_of_begin how)
begin-ids heap (begin.Call m f args) held = All-cons (Holds heap) m (f ∷ args ∷ []) held.0 (All-cons (Holds heap) f (args ∷ []) held.1 (All-cons (Holds heap) args [] held.2 (All-nil (Holds heap))))
begin-ids heap (begin.Fun f) held = All-cons (Holds heap) f [] held (All-nil (Holds heap))

-- a change of the world as it is behind another
pub does-behind : (old mid new : Node) (c : Change) (more : World → Change) → Does old mid c → Does mid new (more (world_of mid)) → Does old new (record { events = c.events ++ (more c.world).events; world = (more c.world).world })
does-behind old mid new c more one rest = does-then old mid new c (more c.world) one (subst (λ w. Does mid new (more w)) one.world rest)

module _ {State S : Type 0} (Holds' : Held State) (means : Meant State S) (IsState : States S) (stays : StaysSame Holds' means) (code : Code S) where
  -- ---- the next process

  pub adds-state : (old new : Node) (heap : Heap) (states more : List (Option State)) (state : State) (how : Begin TermId) (coming : List ℕ) → IsKept Holds' coming (kept old states) → Keeps old.heap heap
      → Begins (Holds' heap) (means heap) code old.heap how state → more ≡ states ++ Some state ∷ [] → nodes.Adds (with_heap old heap) new → Adds Holds' means code how (kept old states) (kept new more)
  adds-state old new heap states more state how coming is keeps begins same adds = record {
    is = λ coming is. record {
      is_node = adds.is_node coming (subst (λ (w : World). IsNodeBut None (next_pid w ∷ coming) (with_heap old heap)) (sym world) (kept-but None (next_pid (world_of old) ∷ coming) old heap keeps is.is_node));
      states' = subst (All (HoldsState Holds' new.heap)) (sym same) (subst (λ h. All (HoldsState Holds' h) (states ++ Some state ∷ [])) (sym adds.heap)
          (All-push (HoldsState Holds' heap) states (Some state) (states-held Holds' means IsState stays old.heap heap keeps states is.states') begins.held));
    };
    world = adds.world ∙ ap with_next world;
    states' = ap₂ (λ h (ss : List (Option State)). map (option_map (means h)) ss) adds.heap same ∙ (map_push (option_map (means heap)) states (Some state)
        ∙ ap₂ (λ (ss : List (Option S)) (s : S). ss ++ Some s ∷ []) (states-same Holds' means IsState stays old.heap heap keeps states is.states') begins.is);
    events = adds.events;
    keeps = subst (Keeps old.heap) (sym adds.heap) keeps;
  }
    where
      world : world_of (with_heap old heap) ≡ world_of old
      world = kept-world-but None coming old heap keeps is.is_node

  -- a node in which one more process is live
  abbrev pub with_live : Node → Vec ℕ → Node
  with_live node live =
      record {
        alloc = node.alloc;
        heap = node.heap;
        clock = node.clock;
        next_ref = node.next_ref;
        slots = node.slots;
        queues = node.queues;
        ready = node.ready;
        deadlines = node.deadlines;
        live = live;
        events = node.events;
      }

  pub expects : (node : Node) (states : List (Option State)) (live : Vec ℕ) (number : ℕ) → number ≡ next_pid (world_of node) → live.items ≡ node.live.items ++ number ∷ [] → IsKept Holds' [] (kept node states)
      → IsKept Holds' (next_pid (world_of node) ∷ []) (kept (with_live node live) states)
  expects node states live number count same is = record {
    is_node = record {
      slots' = is.is_node.slots';
      queues' = is.is_node.queues';
      events' = is.is_node.events';
      sets = is.is_node.sets;
      live' = same ∙ ap₂ (λ (ns : List ℕ) n. ns ++ n ∷ []) (is.is_node.live' ∙ append-nil _) count;
    };
    states' = is.states';
  }

  module _ (lawful : Lawful code IsState) where
    -- the next process has begun
    pub becomes-started : (old mid new : Node) (states more : List (Option State)) (live : Vec ℕ) (number : ℕ) (how : Begin TermId) → IsSystem Holds' means IsState (kept old states) → MayBegin old.heap how → next_pid (world_of old) < limit
        → number ≡ next_pid (world_of old) → live.items ≡ old.live.items ++ number ∷ [] → Adds Holds' means code how (kept (with_live old live) states) (kept mid more)
        → Does mid new (shows (event_of mid.heap (event.Start number how) ∷ []) (world_of mid))
        → BecomesSome Holds' means IsState (kept old states) (kept new more) (start (freed code) (system_of means (kept old states)) (begin_of old.heap how))
    becomes-started old mid new states more live number how is may room count same adds does =
        subst (BecomesSome Holds' means IsState (kept old states) (kept new more)) (sym started) (record {
          is = record {
            is_kept = record { is_node = does.is_node; states' = states-held Holds' means IsState stays mid.heap new.heap does.keeps more began.states' };
            sound = subst (Sound (IsFreed IsState)) (sym system) (step Holds' means IsState stays code lawful r h (Starts (begin_of old.heap how) h may.is_begin started) is.sound);
          };
          system = system;
          events = does.events ∙ ap₂ (λ (es : List (Event Term)) (e : Event Term). es ++ e ∷ []) seen shown;
          keeps = keeps-then old.heap mid.heap new.heap adds.keeps does.keeps;
        })
      where
        r : System (Option S)
        r = system_of means (kept old states)

        h : Happened (Option S)
        h = record {
          events = event.Start (next_pid r.world) (begin_of old.heap how) ∷ [];
          system = record { world = with_next (world_of old); states = meant means (kept old states) ++ Some (code.begin (begin_of old.heap how)) ∷ [] };
        }

        started : start (freed code) r (begin_of old.heap how) ≡ Some h
        started = cond-true (nat_lt (next_pid r.world) limit) (Some h) None (lt-ltb (next_pid r.world) limit room)

        began : IsKept Holds' [] (kept mid more)
        began = adds.is [] (expects old states live number count same is.is_kept)

        system : system_of means (kept new more) ≡ h.system
        system = ap₂ (λ (w : World) (ss : List (Option S)). record { world = w; states = ss }) (does.world ∙ adds.world)
            (states-same Holds' means IsState stays mid.heap new.heap does.keeps more began.states' ∙ adds.states')

        seen : seen_of mid ≡ seen_of old
        seen = ap (λ (es : Vec (Event TermId)). events_of mid.heap es.items) adds.events ∙ kept-events old.heap mid.heap adds.keeps old.events.items is.is_kept.is_node.events'

        shown : event_of mid.heap (event.Start number how) ≡ event.Start (next_pid r.world) (begin_of old.heap how)
        shown = ap₂ event.Start count (kept-begin old.heap mid.heap adds.keeps how (begin-ids old.heap how may.held))

    -- ---- a message that is put in

    pub becomes-put : (old mid new : Node) (states : List (Option State)) (number : ℕ) (message : TermId) → IsSystem Holds' means IsState (kept old states) → live_at (slice_get (world_of old).processes number) ≡ true
        → PutsIn number message old mid → Does mid new (shows (event_of mid.heap (event.Input number message) ∷ []) (world_of mid))
        → BecomesSome Holds' means IsState (kept old states) (kept new states) (put_in (system_of means (kept old states)) number (term_of old.heap message))
    becomes-put old mid new states number message is live puts does = by (live-there (slice_get (world_of old).processes number) live)
      where
        r : System (Option S)
        r = system_of means (kept old states)

        by : IsLive (slice_get (world_of old).processes number) → BecomesSome Holds' means IsState (kept old states) (kept new states) (put_in r number (term_of old.heap message))
        by p = subst (BecomesSome Holds' means IsState (kept old states) (kept new states)) (sym there)
            (becomes-does Holds' means IsState stays old new states h change is both refl (step Holds' means IsState stays code lawful r h (Inputs number (term_of old.heap message) h there) is.sound))
          where
            change : Change
            change = record { events = event.Input number (term_of old.heap message) ∷ []; world = with_process (world_of old) number (with_message p.process (term_of old.heap message)) }

            h : Happened (Option S)
            h = of_change r.states change

            there : put_in r number (term_of old.heap message) ≡ Some h
            there = ap (option_and_then (input_to r number (term_of old.heap message))) p.is ∙ cond-true (is_live p.process) (Some h) None p.live

            both : Does old new change
            both = does-behind old mid new _ (shows (event.Input number (term_of old.heap message) ∷ [])) (puts.does p.process p.is)
                (subst (λ (h : Heap). Does mid new (shows (event.Input number (term_of h message) ∷ []) (world_of mid))) puts.heap does)
