-- The processes that a turn made begin, one event after the other.
use Rattle.std.proofs.Common.{◌≡◌, ℕ, ◌+◌, ◌<◌, ◌≤◌, List, [], ◌∷◌, ◌++◌, length, map, drop, get_or, refl, sym, ap, subst, ◌∙◌}
use Rattle.std.specs.Global.{Vec}
use Rattle.std.proofs.lemmas.List.{append_assoc, append-nil, map-append, length-append, drop_more, drop_all}
use Rattle.std.proofs.lemmas.List.Elements.{All-head, All-tail, All-get_or, All-drop}
use Rattle.ej_term.specs.Term.{Term}
use Rattle.ej_world.specs.declared.effect.Begin.{Begin}
use Rattle.ej_world.specs.declared.effect.Begin.TheVariants as begin
use Rattle.ej_world.specs.declared.event.Event.{Event}
use Rattle.ej_world.specs.declared.event.Event.TheVariants as event
use Rattle.ej_world.specs.Choices.{Code, spawned_by, spawned}
use Rattle.ej_world.specs.Lawful.{MayGiveAll, made_by, made, next_after, live_after}
use Rattle.ej_world.specs.World.{World, fresh, next_pid}
use Rattle.term_heap.specs.declared.cell.TermId.{TermId}
use Rattle.term_heap.specs.declared.heap.Heap.{Heap}
use Rattle.term_heap.specs.View.{Holds, Keeps}
use Rattle.term_heap.specs.Held.{HoldsEach}
use Rattle.term_heap.proofs.Kept.{keeps-then}
use Rattle.proc_sched.specs.Calls.{Held, Meant, MayBegin}
use Rattle.proc_sched.specs.Freed.{freed}
use Rattle.proc_sched.specs.Seen.{begin_of, HoldsBegin, ids_of_begin, event_of, HoldsEvent, HoldsEvents, events_of}
use Rattle.proc_sched.specs.Stands.{world_of}
use Rattle.proc_sched.specs.Systems.{Kept, meant, IsKept, Adds, Spawns, SpawnsAt, MaySpawn, spawned_from, with_fresh}
use Rattle.proc_sched.proofs.Kept.{kept-events}
use Rattle.proc_sched.proofs.NodeLaw.{same-heap}

-- the ids of a beginning
begin-held : (heap : Heap) (how : Begin TermId) → HoldsEach heap (ids_of_begin how) → HoldsBegin heap how
begin-held heap (begin.Call m f args) all =
    let rest = All-tail (Holds heap) m (f ∷ args ∷ []) all in
    (All-head (Holds heap) m (f ∷ args ∷ []) all, All-head (Holds heap) f (args ∷ []) rest, All-head (Holds heap) args [] (All-tail (Holds heap) f (args ∷ []) rest))
begin-held heap (begin.Fun f) all = All-head (Holds heap) f [] all

-- one after the other
fresh-more : (hows more : List (Begin Term)) (w : World) → with_fresh more (with_fresh hows w) ≡ with_fresh (hows ++ more) w
fresh-more hows more w =
    ap (λ ps. record { node = w.node; next_ref = w.next_ref; clock = w.clock; processes = ps; queue = w.queue })
    (append_assoc w.processes (map (λ how. fresh) hows) (map (λ how. fresh) more) ∙ ap (λ ps. w.processes ++ ps) (sym (map-append (λ how. fresh) hows more)))

-- an event that makes no process
record MakesNone (e : Event Term) : Type 0 where
  begins : spawned_by e ≡ []
  makes : made_by e ≡ []
  next : (n : ℕ) → next_after n e ≡ n
  live : (ns : List ℕ) → live_after ns e ≡ ns

makes-none : (heap : Heap) (e : Event TermId) → ((p q : ℕ) (how : Begin TermId) → e ≡ event.Spawn p q how → ⊥) → MakesNone (event_of heap e)
makes-none heap (event.Spawn p q how) other = absurd (other p q how refl)
makes-none heap _ other = record { begins = refl; makes = refl; next = λ n. refl; live = λ ns. refl }

module _ {State S : Type 0} (Holds' : Held State) (means : Meant State S) (code : Code S) where
  -- ---- the event at a place

  -- an event with those behind it, whose processes are to come
  record Rest (e : Event TermId) (rest : List (Event TermId)) (k : Kept State) : Type 0 where
    me : ℕ
    live : List ℕ
    given : MayGiveAll me (next_pid (world_of k.node)) live (events_of k.node.heap (e ∷ rest))
    is : IsKept Holds' (made (events_of k.node.heap (e ∷ rest))) k
    first : HoldsEvent k.node.heap e
    others : HoldsEvents k.node.heap rest

  module _ (at : ℕ) (old : Kept State) (e : Event TermId) (within : at < length old.node.events.items) (read : e ≡ get_or old.node.events.items at e) (may : MaySpawn Holds' at old) where
    abbrev rest : List (Event TermId)
    rest = drop (at + 1) old.node.events.items

    here : drop at old.node.events.items ≡ e ∷ rest
    here = drop_more old.node.events.items at e within ∙ ap (λ x. x ∷ rest) (sym read)

    of-rest : Rest e rest old
    of-rest = record {
      me = may.me;
      live = may.live;
      given = subst (λ es. MayGiveAll may.me (next_pid (world_of old.node)) may.live (events_of old.node.heap es)) here may.given;
      is = subst (λ es. IsKept Holds' (made (events_of old.node.heap es)) old) here may.is;
      first = subst (HoldsEvent old.node.heap) (sym read) (All-get_or (HoldsEvent old.node.heap) old.node.events.items at e within may.is.is_node.events');
      others = All-drop (HoldsEvent old.node.heap) (at + 1) old.node.events.items may.is.is_node.events';
    }

    -- it makes none
    pub spawns-none : ((p q : ℕ) (how : Begin TermId) → e ≡ event.Spawn p q how → ⊥) → SpawnsAt Holds' means code at old old
    spawns-none other =
        let r = of-rest in
        let none = makes-none old.node.heap e other in
        let es = events_of old.node.heap rest in
        record {
          hows = [];
          from = ap (λ es. spawned (events_of old.node.heap es)) here ∙ ap (λ bs. bs ++ spawned es) none.begins;
          may = record {
            me = r.me;
            live = r.live;
            given = subst (λ ns. MayGiveAll r.me (next_pid (world_of old.node)) ns es) (none.live r.live) (subst (λ n. MayGiveAll r.me n (live_after r.live (event_of old.node.heap e)) es) (none.next (next_pid (world_of old.node))) r.given.1);
            is = subst (λ ns. IsKept Holds' (ns ++ made es) old) none.makes r.is;
          };
          world = ap (λ ps. record { node = 0; next_ref = old.node.next_ref; clock = old.node.clock; processes = ps; queue = (world_of old.node).queue }) (sym (append-nil (world_of old.node).processes));
          states' = sym (append-nil (meant means old));
          events = refl;
          keeps = same-heap old.node.heap;
        }

    module _ (p q : ℕ) (how : Begin TermId) (is : e ≡ event.Spawn p q how) where
      spawn-rest : Rest (event.Spawn p q how) rest old
      spawn-rest = subst (λ e. Rest e rest old) is of-rest

      -- it makes the next one
      pub spawn-next : IsKept Holds' (next_pid (world_of old.node) ∷ made (events_of old.node.heap rest)) old
      spawn-next = let r = spawn-rest in subst (λ n. IsKept Holds' (n ∷ made (events_of old.node.heap rest)) old) r.given.0.1 r.is

      pub spawn-may : MayBegin old.node.heap how
      spawn-may = let r = spawn-rest in record { held = begin-held old.node.heap how r.first; is_begin = r.given.0.2 }

      pub spawns-next : (new : Kept State) → Adds Holds' means code how old new → SpawnsAt Holds' means code at old new
      spawns-next new adds =
          let r = spawn-rest in
          record {
            hows = begin_of old.node.heap how ∷ [];
            from = ap (λ es. spawned (events_of old.node.heap es)) (here ∙ ap (λ e. e ∷ rest) is) ∙ ap (λ es. begin_of old.node.heap how ∷ spawned es) (sym same);
            may = record {
              me = r.me;
              live = r.live ++ q ∷ [];
              given = subst (λ es. MayGiveAll r.me (next_pid (world_of new.node)) (r.live ++ q ∷ []) es) (sym same) (subst (λ n. MayGiveAll r.me n (r.live ++ q ∷ []) (events_of old.node.heap rest)) next r.given.1);
              is = subst (λ es. IsKept Holds' (made es) new) (sym same) (adds.is (made (events_of old.node.heap rest)) spawn-next);
            };
            world = adds.world;
            states' = adds.states';
            events = adds.events;
            keeps = adds.keeps;
          }
        where
          same : events_of new.node.heap (drop (at + 1) new.node.events.items) ≡ events_of old.node.heap rest
          same = let r = spawn-rest in ap (λ (es : Vec (Event TermId)). events_of new.node.heap (drop (at + 1) es.items)) adds.events ∙ kept-events old.node.heap new.node.heap adds.keeps rest r.others

          next : next_pid (world_of old.node) + 1 ≡ next_pid (world_of new.node)
          next = sym (ap next_pid adds.world ∙ length-append (world_of old.node).processes (fresh ∷ []))

  -- ---- each event from a place on

  -- what was made so far, and what is to come, are all
  pub record SpawnedFrom (first at : ℕ) (old now : Kept State) : Type 0 where
    pub may : MaySpawn Holds' at now
    pub world : with_fresh (spawned_from at now.node) (world_of now.node) ≡ with_fresh (spawned_from first old.node) (world_of old.node)
    pub states' : meant means now ++ map (freed code).begin (spawned_from at now.node) ≡ meant means old ++ map (freed code).begin (spawned_from first old.node)
    pub events : now.node.events ≡ old.node.events
    pub keeps : Keeps old.node.heap now.node.heap

  pub spawned-none : (first : ℕ) (old : Kept State) → MaySpawn Holds' first old → SpawnedFrom first first old old
  spawned-none first old may = record { may = may; world = refl; states' = refl; events = refl; keeps = same-heap old.node.heap }

  pub spawned-more : (first at : ℕ) (old mid new : Kept State) → SpawnedFrom first at old mid → SpawnsAt Holds' means code at mid new → SpawnedFrom first (at + 1) old new
  spawned-more first at old mid new so_far one =
      let rest = spawned_from (at + 1) new.node in
      record {
        may = one.may;
        world = ap (with_fresh rest) one.world ∙ (fresh-more one.hows rest (world_of mid.node) ∙ (ap (λ hows. with_fresh hows (world_of mid.node)) (sym one.from) ∙ so_far.world));
        states' = ap (λ ss. ss ++ map (freed code).begin rest) one.states' ∙ (append_assoc (meant means mid) (map (freed code).begin one.hows) (map (freed code).begin rest)
            ∙ (ap (λ ss. meant means mid ++ ss) (sym (map-append (freed code).begin one.hows rest)) ∙ (ap (λ hows. meant means mid ++ map (freed code).begin hows) (sym one.from) ∙ so_far.states')));
        events = one.events ∙ so_far.events;
        keeps = keeps-then old.node.heap mid.node.heap new.node.heap so_far.keeps one.keeps;
      }

  pub spawned-all : (first at : ℕ) (old new : Kept State) → length new.node.events.items ≤ at → SpawnedFrom first at old new → Spawns Holds' means code (spawned_from first old.node) old new
  spawned-all first at old new le so_far = record {
    is = subst (λ es. IsKept Holds' (made (events_of new.node.heap es)) new) none so_far.may.is;
    world = ap (λ ps. record { node = 0; next_ref = new.node.next_ref; clock = new.node.clock; processes = ps; queue = (world_of new.node).queue }) (sym (append-nil (world_of new.node).processes))
        ∙ (ap (λ es. with_fresh (spawned (events_of new.node.heap es)) (world_of new.node)) (sym none) ∙ so_far.world);
    states' = sym (append-nil (meant means new)) ∙ (ap (λ es. meant means new ++ map (freed code).begin (spawned (events_of new.node.heap es))) (sym none) ∙ so_far.states');
    events = so_far.events;
    keeps = so_far.keeps;
  }
    where
      none : drop at new.node.events.items ≡ []
      none = drop_all at new.node.events.items le
