-- What acts make of a view that is kept.
use Rattle.std.proofs.Common.{◌≡◌, ℕ, zero, suc, ◌+◌, ◌<◌, ◌≤◌, Bool, true, false, nat_lt, List, [], ◌∷◌, ◌++◌, length, map, take, drop, Option, None, Some, option_map, refl, sym, ap, ap₂, ◌∙◌, subst}
use Rattle.std.specs.Prelude.{codes, Result, Ok, Err, IfOk, slice_get, if◌then◌else◌}
use Rattle.std.proofs.lemmas.Bool.{lt-ltb, le-ltb, cond-true, cond-false}
use Rattle.std.specs.Str.{chars}
use Rattle.std.specs.declared.alloc.Global.{Global}
use Rattle.std.specs.declared.vec.Vec.{Vec}
use Rattle.std.specs.List.{All}
use Rattle.std.proofs.lemmas.List.{append-nil, take-map, drop-map, map-append}
use Rattle.std.proofs.lemmas.List.Elements.{All-nil, All-cons, All-head, All-tail, All-push, All-take, All-drop, All-append}
use Rattle.std.proofs.lemmas.Option.{slice_get-map, slice_get_past, same_Some}
use Rattle.ej_term.specs.Term.{Term, Atom}
use Rattle.ej_world.specs.declared.event.Event.{Event}
use Rattle.ej_world.specs.declared.event.Event.TheVariants as event
use Rattle.ej_world.specs.declared.effect.Begin.TheVariants as begin
use Rattle.ej_world.specs.Choices as world
use Rattle.ej_world.specs.Choices.{holds, with_number}
use Rattle.ej_world.specs.World.{limit}
use Rattle.mailbox.specs.Mailbox.{Seen, at_save, taken}
use Rattle.term_heap.specs.declared.cell.TermId.{TermId}
use Rattle.term_heap.specs.declared.heap.Heap.{Heap}
use Rattle.term_heap.specs.Held.{HoldsEach, terms_at}
use Rattle.term_heap.specs.View.{Keeps, Holds, Stands, term_of}
use Rattle.term_heap.proofs.Kept.{stands-held, stands-term, kept-each, kept-terms}
use Rattle.world_tests.specs.declared.acts.Act.{Act}
use Rattle.world_tests.specs.declared.acts.Act.TheVariants as act
use Rattle.proc_sched.specs.declared.view.View.{View}
use Rattle.proc_sched.specs.declared.view.Outcome.{Outcome}
use Rattle.proc_sched.specs.declared.view.Outcome.TheVariants as outcome
use Rattle.world_tests.specs.Acting.{MayAct, IsDone, Does, Leaves, Tells, Enters}
use Rattle.world_tests.specs.Acts.{Done, done, seen, removed, receive, may_link, broken, link, with_link, spawn, doing, turned, turn_at, acts}
use Rattle.proc_sched.specs.Calls.{IsTurned, StateAfter, Turns}
use Rattle.proc_sched.specs.Seen.{ids_of, event_of, HoldsEvent, HoldsEvents, view_of, HoldsView, outcome_of, HoldsOutcome}
use Rattle.proc_sched.specs.Stands.{Rising}
use Rattle.proc_sched.proofs.Rises.{rising-within}
use Rattle.proc_sched.proofs.Kept.{held-events}

-- nothing is seen
pub silent : (heap : Heap) (v v' : View) (o : Outcome) (d : Done) → HoldsView heap v → v'.events ≡ v.events → HoldsEach heap v'.mailbox.messages → HoldsOutcome heap o
    → d ≡ done [] (outcome_of heap o) (view_of heap v') → IsDone d v.events.items heap v' o
silent heap v v' o d held same messages reason is = record {
  added = [];
  appends = ap (λ (events : Vec (Event TermId) Global). events.items) same ∙ sym (append-nil v.events.items);
  events = sym (ap (λ (d : Done). d.events) is);
  outcome = sym (ap (λ (d : Done). d.outcome) is);
  view = sym (ap (λ (d : Done). d.view) is);
  held = record { messages = messages; events = subst (λ (events : Vec (Event TermId) Global). HoldsEvents heap events.items) (sym same) held.events };
  reason = reason;
}

-- the view is as it was, under a heap that was added to
pub same-view : (heap heap' : Heap) (v : View) → HoldsView heap v → Keeps heap heap' → view_of heap' v ≡ view_of heap v
same-view heap heap' v held keeps = ap (λ (ms : List Term). record (view_of heap v) { messages = ms }) (kept-terms heap heap' v.mailbox.messages keeps held.messages)

pub same-held : (heap heap' : Heap) (v : View) → HoldsView heap v → Keeps heap heap' → HoldsView heap' v
same-held heap heap' v held keeps = record { messages = kept-each heap heap' v.mailbox.messages keeps held.messages; events = held-events heap heap' keeps v.events.items held.events }

-- one event is seen, of a view that is held
pub told : (heap : Heap) (v v' : View) (o : Outcome) (e : Event TermId) (shown : Event Term) → HoldsView heap v → HoldsEvent heap e → event_of heap e ≡ shown → Tells e v v' o
    → IsDone (seen shown (view_of heap v)) v.events.items heap v' o
told heap v v' o e shown held holds is tells =
    subst (λ o. IsDone (seen shown (view_of heap v)) v.events.items heap v' o) (sym tells.runs)
    (subst (λ v'. IsDone (seen shown (view_of heap v)) v.events.items heap v' outcome.Runs) (sym tells.is) (by v'.events tells.appends))
  where
    by : (events : Vec (Event TermId) Global) → events.items ≡ v.events.items ++ e ∷ [] → IsDone (seen shown (view_of heap v)) v.events.items heap (record v { events = events }) outcome.Runs
    by events appends = record {
      added = e ∷ [];
      appends = appends;
      events = ap (λ e. e ∷ []) is;
      outcome = refl;
      view = refl;
      held = record { messages = held.messages; events = subst (HoldsEvents heap) (sym appends) (All-push (HoldsEvent heap) v.events.items e held.events holds) };
      reason = tt;
    }

pub if-ok : {A E : Type 0} {P Q : A → Type 0} (r : Result A E) → ((x : A) → P x → Q x) → IfOk r P → IfOk r Q
if-ok (Ok x) f p = f x p
if-ok (Err e) f p = tt

-- one event of one term is seen, under a heap that was added to
pub told-term : {E : Type 0} (heap heap' : Heap) (v v' : View) (r : Result Outcome E) (id : TermId) (t : Term) (e : Event TermId) (shown : Term → Event Term) → HoldsView heap v → Keeps heap heap' → Stands heap' id t
    → event_of heap' e ≡ shown (term_of heap' id) → ids_of e ≡ id ∷ [] → IfOk r (Tells e v v') → IfOk r (IsDone (seen (shown t) (view_of heap v)) v.events.items heap' v')
told-term heap heap' v v' r id t e shown held keeps stands is ids tells = if-ok r by tells
  where
    holds : HoldsEvent heap' e
    holds = subst (HoldsEach heap') (sym ids) (All-cons (Holds heap') id [] (stands-held heap' id t stands) (All-nil (Holds heap')))

    by : (o : Outcome) → Tells e v v' o → IsDone (seen (shown t) (view_of heap v)) v.events.items heap' v' o
    by o tell =
        subst (λ (w : world.View). IsDone (seen (shown t) w) v.events.items heap' v' o) (same-view heap heap' v held keeps)
        (told heap' v v' o e (shown t) (same-held heap heap' v held keeps) holds (is ∙ ap shown (stands-term heap' id t stands)) tell)

-- by whether there is a process of that number
pub to-process : {E : Type 0} (heap heap' : Heap) (v v' : View) (r : Result Outcome E) (to : ℕ) (sent lost : Event Term) → to < v.next_pid
    → IfOk r (IsDone (seen sent (view_of heap v)) v.events.items heap' v') → IfOk r (IsDone (seen (if nat_lt to v.next_pid then sent else lost) (view_of heap v)) v.events.items heap' v')
to-process heap heap' v v' r to sent lost lt is =
    subst (λ (e : Event Term). IfOk r (IsDone (seen e (view_of heap v)) v.events.items heap' v')) (sym (cond-true (nat_lt to v.next_pid) sent lost (lt-ltb to v.next_pid lt))) is

pub to-none : {E : Type 0} (heap heap' : Heap) (v v' : View) (r : Result Outcome E) (to : ℕ) (sent lost : Event Term) → v.next_pid ≤ to
    → IfOk r (IsDone (seen lost (view_of heap v)) v.events.items heap' v') → IfOk r (IsDone (seen (if nat_lt to v.next_pid then sent else lost) (view_of heap v)) v.events.items heap' v')
to-none heap heap' v v' r to sent lost le is =
    subst (λ (e : Event Term). IfOk r (IsDone (seen e (view_of heap v)) v.events.items heap' v')) (sym (cond-false (nat_lt to v.next_pid) sent lost (le-ltb to v.next_pid le))) is

-- ---- a receive

taken-terms : (f : TermId → Term) (ids : List TermId) (n : ℕ) → map f (take n ids ++ drop (suc n) ids) ≡ take n (map f ids) ++ drop (suc n) (map f ids)
taken-terms f ids n = map-append f (take n ids) (drop (suc n) ids) ∙ sym (ap₂ (λ (a b : List Term). a ++ b) (take-map f n ids) (drop-map f (suc n) ids))

all-at : {X : Type 0} (P : X → Type 0) (xs : List X) (k : ℕ) (x : X) → slice_get xs k ≡ Some x → All P xs → P x
all-at P [] k x e all = absurd cc
all-at P (y ∷ ys) zero x e all = subst P (same_Some y x e) (All-head P y ys all)
all-at P (y ∷ ys) (suc k) x e all = all-at P ys k x e (All-tail P y ys all)

-- the mailbox without the message at the save place, and no timer
abbrev pub with_taken : View → View
with_taken v = record v { mailbox = taken v.mailbox; timer = None }

module _ (v : View) (heap : Heap) (may : MayAct heap v) where
  abbrev after : Option Term → List Term → Done
  after o ms = done (removed v.me o) world.Runs (record (view_of heap v) { messages = ms; save = 0; timer = None })

  held-taken : HoldsView heap (with_taken v)
  held-taken = record {
    messages = All-append (Holds heap) (take v.mailbox.save v.mailbox.messages) (drop (suc v.mailbox.save) v.mailbox.messages) (All-take (Holds heap) v.mailbox.save v.mailbox.messages may.held.messages)
        (All-drop (Holds heap) (suc v.mailbox.save) v.mailbox.messages may.held.messages);
    events = may.held.events;
  }

  is-taken : (o : Option TermId) → at_save v.mailbox ≡ o → receive (view_of heap v) ≡ after (option_map (term_of heap) o) (terms_at heap (taken v.mailbox).messages)
  is-taken o e = ap₂ after (slice_get-map (term_of heap) v.mailbox.messages v.mailbox.save ∙ ap (option_map (term_of heap)) e) (sym (taken-terms (term_of heap) v.mailbox.messages v.mailbox.save))

  receives-some : (v' : View) (o : Outcome) (message : TermId) → at_save v.mailbox ≡ Some message → Tells (event.Recv v.me message) (with_taken v) v' o → Does receive heap v heap v' o
  receives-some v' o message at tells =
      subst (λ (d : Done). IsDone d v.events.items heap v' o) (sym (is-taken (Some message) at))
      (told heap (with_taken v) v' o (event.Recv v.me message) (event.Recv v.me (term_of heap message)) held-taken (All-cons (Holds heap) message [] holds (All-nil (Holds heap))) refl tells)
    where
      holds : Holds heap message
      holds = all-at (Holds heap) v.mailbox.messages v.mailbox.save message at may.held.messages

  receives-none : at_save v.mailbox ≡ None → Does receive heap v heap (with_taken v) outcome.Runs
  receives-none at = silent heap v (with_taken v) outcome.Runs (receive (view_of heap v)) may.held refl held-taken.messages tt (is-taken None at)

pub receives-message : {E : Type 0} (v v' : View) (r : Result Outcome E) (mailbox : Seen) (o : Option TermId) (message : TermId) → o ≡ at_save v.mailbox → mailbox ≡ taken v.mailbox → o ≡ Some message
    → IfOk r (Tells (event.Recv v.me message) (record v { mailbox = mailbox; timer = None }) v') → IfOk r (Leaves receive v v')
receives-message v v' r mailbox o message at left is tells =
    if-ok r (λ o tell heap may. receives-some v heap may v' o message (sym at ∙ is) tell) (subst (λ (mailbox : Seen). IfOk r (Tells (event.Recv v.me message) (record v { mailbox = mailbox; timer = None }) v')) left tells)

pub receives-nothing : (v : View) (mailbox : Seen) (o : Option TermId) → o ≡ at_save v.mailbox → mailbox ≡ taken v.mailbox → o ≡ None → Leaves receive v (record v { mailbox = mailbox; timer = None }) outcome.Runs
receives-nothing v mailbox o at left is = subst (λ (mailbox : Seen). Leaves receive v (record v { mailbox = mailbox; timer = None }) outcome.Runs) (sym left) (λ heap may. receives-none v heap may (sym at ∙ is))

-- ---- links

-- the links of a view that a process is asked with rise
pub rising-links : (heap : Heap) (v : View) → MayAct heap v → Rising v.links.items
rising-links heap v may = rising-within 0 v.next_pid v.links.items may.meets.links

pub rising-live : (heap : Heap) (v : View) → MayAct heap v → Rising v.live.items
rising-live heap v may = rising-within 0 v.next_pid v.live.items may.meets.live

pub links-nothing : (heap : Heap) (v : View) (other : ℕ) → MayAct heap v → may_link other (view_of heap v) ≡ false → Does (link other) heap v heap v outcome.Runs
links-nothing heap v other may may_not =
    silent heap v v outcome.Runs (link other (view_of heap v)) may.held refl may.held.messages tt
    (cond-false (may_link other (view_of heap v)) (done (broken (holds v.live.items other) other v.me) world.Runs (record (view_of heap v) { links = with_number other v.links.items })) (done [] world.Runs (view_of heap v)) may_not)

links-as : (heap : Heap) (v : View) (other : ℕ) (links : Vec ℕ Global) (live : Bool) → may_link other (view_of heap v) ≡ true → links.items ≡ with_number other v.links.items → holds v.live.items other ≡ live
    → link other (view_of heap v) ≡ done (broken live other v.me) world.Runs (view_of heap (record v { links = links }))
links-as heap v other links live may_be same is =
    cond-true (may_link other (view_of heap v)) (done (broken (holds v.live.items other) other v.me) world.Runs (record (view_of heap v) { links = with_number other v.links.items })) (done [] world.Runs (view_of heap v)) may_be
    ∙ ap₂ (λ (b : Bool) (ns : List ℕ). done (broken b other v.me) world.Runs (record (view_of heap v) { links = ns })) is (sym same)

pub links-live : (heap : Heap) (v : View) (other : ℕ) (links : Vec ℕ Global) → MayAct heap v → may_link other (view_of heap v) ≡ true → links.items ≡ with_number other v.links.items → holds v.live.items other ≡ true
    → Does (link other) heap v heap (record v { links = links }) outcome.Runs
links-live heap v other links may may_be same is = silent heap v (record v { links = links }) outcome.Runs (link other (view_of heap v)) may.held refl may.held.messages tt (links-as heap v other links true may_be same is)

pub links-ended : {E : Type 0} (heap heap' : Heap) (v v' : View) (other : ℕ) (links : Vec ℕ Global) (r : Result Outcome E) (id : TermId) → MayAct heap v → may_link other (view_of heap v) ≡ true → links.items ≡ with_number other v.links.items
    → holds v.live.items other ≡ false → Keeps heap heap' → Stands heap' id (Atom (codes "noproc")) → IfOk r (Tells (event.Broken other v.me id) (record v { links = links }) v') → IfOk r (Does (link other) heap v heap' v')
links-ended heap heap' v v' other links r id may may_be same is keeps stands tells =
    subst (λ (d : Done). IfOk r (IsDone d v.events.items heap' v')) (sym (links-as heap v other links false may_be same is))
    (told-term heap heap' (record v { links = links }) v' r id (Atom (codes "noproc")) (event.Broken other v.me id) (event.Broken other v.me) (record { messages = may.held.messages; events = may.held.events }) keeps stands refl refl tells)

-- ---- processes that are made

pub spawns-one : {E : Type 0} (heap heap' : Heap) (v between v' : View) (row : Term) (linked : Bool) (r : Result Outcome E) (id : TermId) → MayAct heap v → v.next_pid < limit → Keeps heap heap' → Stands heap' id row → Enters linked v between
    → IfOk r (Tells (event.Spawn between.me v.next_pid (begin.Fun id)) between v') → IfOk r (Does (spawn row linked) heap v heap' v')
spawns-one heap heap' v between v' row linked r id may lt keeps stands enters tells =
    by between.live between.links enters.live enters.links (subst (λ (w : View). IfOk r (Tells (event.Spawn w.me v.next_pid (begin.Fun id)) w v')) enters.is tells)
  where
    entered : Vec ℕ Global → Vec ℕ Global → View
    entered live links = record v { next_pid = v.next_pid + 1; live = live; links = links }

    after : List ℕ → List ℕ → Done
    after live links = done (event.Spawn v.me v.next_pid (begin.Fun row) ∷ []) world.Runs (record (view_of heap v) { next_pid = v.next_pid + 1; live = live; links = links })

    by : (live links : Vec ℕ Global) → live.items ≡ v.live.items ++ v.next_pid ∷ [] → links.items ≡ with_link linked v.next_pid v.links.items
        → IfOk r (Tells (event.Spawn v.me v.next_pid (begin.Fun id)) (entered live links) v') → IfOk r (Does (spawn row linked) heap v heap' v')
    by live links lives linked' tells =
        subst (λ (d : Done). IfOk r (IsDone d v.events.items heap' v'))
        (sym (cond-true (nat_lt v.next_pid limit) (after (v.live.items ++ v.next_pid ∷ []) (with_link linked v.next_pid v.links.items)) (done [] world.Runs (view_of heap v)) (lt-ltb v.next_pid limit lt) ∙ ap₂ after (sym lives) (sym linked')))
        (told-term heap heap' (entered live links) v' r id row (event.Spawn v.me v.next_pid (begin.Fun id)) (λ t. event.Spawn v.me v.next_pid (begin.Fun t)) (record { messages = may.held.messages; events = may.held.events }) keeps stands refl refl tells)

-- ---- ends

pub ends-with : (heap heap' : Heap) (v : View) (id : TermId) (why : Term) → MayAct heap v → Keeps heap heap' → Stands heap' id why → IsDone (done [] (world.Ends why) (view_of heap v)) v.events.items heap' v (outcome.Ended id)
ends-with heap heap' v id why may keeps stands =
    let later = same-held heap heap' v may.held keeps in
    silent heap' v v (outcome.Ended id) (done [] (world.Ends why) (view_of heap v)) later refl later.messages (stands-held heap' id why stands)
    (ap₂ (λ (t : Term) (w : world.View). done [] (world.Ends t) w) (sym (stands-term heap' id why stands)) (sym (same-view heap heap' v may.held keeps)))

pub faults : {E : Type 0} (heap : Heap) (v v' : View) (r : Result Outcome E) → MayAct heap v → IfOk r (Tells (event.Fault v.me) v v') → IfOk r (Does (doing act.Fault) heap v heap v')
faults heap v v' r may tells = if-ok r (λ o tell. told heap v v' o (event.Fault v.me) (event.Fault v.me) may.held (All-nil (Holds heap)) refl tell) tells

-- ---- turns

abbrev AnyRow : Heap → ℕ → Type 0
AnyRow heap row = Unit {0}

abbrev itself : Heap → ℕ → ℕ
itself heap row = row

turned-by : (d : Done) (before : List (Event TermId)) (heap : Heap) (row : ℕ) (v : View) (o : Outcome) → IsDone d before heap v o → IsTurned AnyRow itself (turned d row) before heap row v o
turned-by d before heap row v o is = record {
  added = is.added;
  appends = is.appends;
  events = is.events;
  outcome = is.outcome;
  view = is.view;
  held = is.held;
  reason = is.reason;
  state' = state o;
}
  where
    state : (o : Outcome) → StateAfter AnyRow itself heap o row row
    state outcome.Runs = (tt, refl)
    state outcome.Waits = (tt, refl)
    state (outcome.Ended reason) = tt

pub rests : (rows : List Act) (transfers : ℕ) (heap : Heap) (row : ℕ) (v : View) → length rows ≤ row → HoldsView heap v → Turns AnyRow itself (acts rows) transfers heap row v heap row v outcome.Runs
rests rows transfers heap row v past held =
    subst (λ (o : Option Act). IsTurned AnyRow itself (turn_at o row (view_of heap v)) v.events.items heap row v outcome.Runs) (sym (slice_get_past rows row past))
    (turned-by (done [] world.Runs (view_of heap v)) v.events.items heap row v outcome.Runs (silent heap v v outcome.Runs (done [] world.Runs (view_of heap v)) held refl held.messages tt refl))

pub turns-by : {E : Type 0} (rows : List Act) (a : Act) (transfers : ℕ) (heap heap' : Heap) (row : ℕ) (v v' : View) (r : Result Outcome E) → slice_get rows row ≡ Some a → IfOk r (Does (doing a) heap v heap' v')
    → IfOk r (Turns AnyRow itself (acts rows) transfers heap row v heap' (row + 1) v')
turns-by rows a transfers heap heap' row v v' r got does =
    if-ok r (λ o is. subst (λ (p : Option Act). IsTurned AnyRow itself (turn_at p row (view_of heap v)) v.events.items heap' (row + 1) v' o) (sym got)
    (turned-by (doing a (view_of heap v)) v.events.items heap' (row + 1) v' o is)) does

-- ---- names

pub spelled-normal : chars (codes "normal") ≡ codes "normal"
unfolding chars
spelled-normal = refl

pub spelled-kill : chars (codes "kill") ≡ codes "kill"
unfolding chars
spelled-kill = refl

pub spelled-boom : chars (codes "boom") ≡ codes "boom"
unfolding chars
spelled-boom = refl

pub spelled-noproc : chars (codes "noproc") ≡ codes "noproc"
unfolding chars
spelled-noproc = refl
