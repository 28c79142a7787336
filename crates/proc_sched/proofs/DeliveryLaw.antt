-- What the delivery of a signal makes of a node.
use Rattle.std.proofs.Common.{◌≡◌, ℕ, ◌+◌, ◌<◌, ◌≤◌, Bool, true, false, not, ◌&&◌, nat_eq, List, [], ◌∷◌, ◌++◌, length, take, get_or, codes, Option, None, Some, refl, sym, ap, ap₂, subst, ◌∙◌, add-one, arith}
use Rattle.std.specs.Prelude.{slice_get, option_map}
use Rattle.std.specs.Str.{chars, IsUtf8, bytes_eq}
use Rattle.std.proofs.lemmas.Bool.{eq-eqb, ne_eqb, cond-true, cond-false}
use Rattle.std.proofs.lemmas.List.{append-nil, map_push, length-map, take_all}
use Rattle.std.proofs.lemmas.List.Elements.{All-nil, All-cons}
use Rattle.std.proofs.lemmas.Option.{slice_get_within}
use Rattle.std.proofs.Math.Seq.{take-suc}
use Rattle.ej_term.proofs.TextLemmas.{same_text}
use Rattle.ej_term.specs.Term.{Term, Atom, Pid, tuple}
use Rattle.ej_world.specs.declared.event.Event.{Event}
use Rattle.ej_world.specs.declared.event.Event.TheVariants as event
use Rattle.ej_world.specs.Delivery.{is_atom, exit_message, appended, hit, exits, is_linked, without_link, to_live, to_process, with_queue, first_of, deliver}
use Rattle.ej_world.specs.World.{World, Process, Ended, Link, Queue, Change, with_signal, with_signals, sending, with_process, with_status, ends}
use Rattle.ej_world.proofs.SoundDelivery.{get_set}
use Rattle.term_heap.specs.declared.cell.TermId.{TermId}
use Rattle.term_heap.specs.declared.heap.Heap.{Heap}
use Rattle.term_heap.specs.View.{Holds, Stands, Keeps, term_of}
use Rattle.term_heap.specs.Held.{HoldsEach, terms_at}
use Rattle.term_heap.proofs.Kept.{stands-term, still-stands, held, kept-term, keeps-then}
use Rattle.proc_sched.specs.declared.node.Node.{Node}
use Rattle.proc_sched.specs.declared.signal.Signal.{Signal}
use Rattle.proc_sched.specs.declared.slot.Slot.{Slot}
use Rattle.proc_sched.specs.Nodes.{live_at, shows, sends, broken, killed, unlinked, with_queues, DoesSome, DoesIf, DoesTo, DoesAlone, Makes, Unlinks, Buries, Takes, TakesAny}
use Rattle.proc_sched.specs.Seen.{event_of}
use Rattle.proc_sched.specs.Stands.{IsNode, Does, signal_of, process_of, world_of, queue_of, seen_of}
use Rattle.proc_sched.proofs.Kept.{only-heap, with_heap}
use Rattle.proc_sched.proofs.NodeLaw.{same-heap, does-then, does-as}
use Rattle.proc_sched.proofs.SlotLaw.{some-same, found, live-within}

-- ---- terms that are made

-- the characters of these names are their bytes
kill_characters : chars (codes "kill") ≡ codes "kill"
unfolding chars
kill_characters = refl

pub killed_characters : chars (codes "killed") ≡ codes "killed"
unfolding chars
killed_characters = refl

normal_characters : chars (codes "normal") ≡ codes "normal"
unfolding chars
normal_characters = refl

exit_characters : chars (codes "EXIT") ≡ codes "EXIT"
unfolding chars
exit_characters = refl

-- a heap that is added to, with an id of the term
pub makes-term : (node : Node) (heap : Heap) (id : TermId) (t u : Term) → IsNode node → Keeps node.heap heap → Stands heap id t → t ≡ u → Makes u node (with_heap node heap) id
makes-term node heap id t u is keeps stands e = record { only = only-heap node heap keeps is; stands = subst (Stands heap id) e stands }

-- the elements of the message that a process gets which traps exits
pub message-parts : (first second last : Heap) (exit pid reason : TermId) (from : ℕ) → Keeps first second → Keeps second last → Stands second exit (Atom (chars (codes "EXIT"))) → Stands last pid (Pid 0 from) → Holds first reason
    → tuple (terms_at last (exit ∷ pid ∷ reason ∷ [])) ≡ exit_message 0 from (term_of first reason)
message-parts first second last exit pid reason from keeps more is_exit is_pid held =
    let exits : term_of last exit ≡ Atom (codes "EXIT") = stands-term last exit _ (still-stands second last exit _ more is_exit) ∙ ap Atom exit_characters in
    let reasons : term_of last reason ≡ term_of first reason = kept-term first last reason (keeps-then first second last keeps more) held in
    ap (λ t. tuple (t ∷ term_of last pid ∷ term_of last reason ∷ [])) exits ∙ (ap (λ t. tuple (Atom (codes "EXIT") ∷ t ∷ term_of last reason ∷ [])) (stands-term last pid _ is_pid)
    ∙ ap (λ t. tuple (Atom (codes "EXIT") ∷ Pid 0 from ∷ t ∷ [])) reasons)

-- ---- atoms

-- the term of an atom's cell has the text at its place
pub atom-told : (term : Term) (texts : List (List ℕ)) (place : ℕ) (text name : List ℕ) → IsUtf8 text → IsUtf8 name → option_map Atom (slice_get texts place) ≡ Some term → slice_get texts place ≡ Some (chars text)
    → bytes_eq text name ≡ is_atom (chars name) term
atom-told term texts place text name u v is at = same_text text name u v ∙ ap told (sym (ap (option_map Atom) at) ∙ is)
  where
    told : Option Term → Bool
    told None = false
    told (Some t) = is_atom (chars name) t

-- ---- one change behind another

-- a change of what another has left
pub does-next : (old mid new : Node) (c : Change) (f : World → Change) → Does old mid c → Does mid new (f (world_of mid)) → Does old new (record { events = c.events ++ (f c.world).events; world = (f c.world).world })
does-next old mid new c f one more = does-then old mid new c (f c.world) one (subst (λ w. Does mid new (f w)) one.world more)

-- an event with one term
pub one-held : (heap : Heap) (id : TermId) → Holds heap id → HoldsEach heap (id ∷ [])
one-held heap id is = All-cons (Holds heap) id [] is (All-nil (Holds heap))

-- ---- what goes to those that a process is linked to

abbrev pub links_at : Option Process → List ℕ
links_at None = []
links_at (Some q) = q.links

-- the exit signals to the first of them are on their way
abbrev pub BrokenTo : (number : ℕ) → (reason : TermId) → (at : ℕ) → (old new : Node) → Type 0
BrokenTo number reason at old new = Does old new (sends (broken number (term_of old.heap reason) (take at (links_at (slice_get (world_of old).processes number)))) (world_of old))

-- as many as the slot has
pub links-found : (node : Node) (number : ℕ) (slot : Slot) → number < length node.slots.items → slot ≡ get_or node.slots.items number slot → length (links_at (slice_get (world_of node).processes number)) ≡ length slot.links.items
links-found node number slot lt index = ap (λ o. length (links_at o)) (found node number slot lt index)

-- one event behind another
pub signals-then : (es ds : List (Event Term)) (queue : Queue) → with_signals (es ++ ds) queue ≡ with_signals ds (with_signals es queue)
signals-then [] ds queue = refl
signals-then (e ∷ es) ds queue = signals-then es ds (with_signal e queue)

-- none at first
pub broken-none : (number : ℕ) (reason : TermId) (node : Node) → IsNode node → BrokenTo number reason 0 node node
broken-none number reason node is = record { is_node = is; world = refl; events = sym (append-nil (seen_of node)); keeps = same-heap node.heap }

module _ (number : ℕ) (reason : TermId) (at : ℕ) (old cur : Node) (so_far : BrokenTo number reason at old cur) where
  -- the processes are the same as before
  processes-stay : (world_of cur).processes ≡ (world_of old).processes
  processes-stay = ap (λ (w : World). w.processes) so_far.world

  -- as many processes
  pub broken-within : number < length old.slots.items → number < length cur.slots.items
  broken-within lt = subst (λ n. number < n) (sym (length-map old.slots.items (process_of old.heap)) ∙ (sym (ap length processes-stay) ∙ length-map cur.slots.items (process_of cur.heap))) lt

  -- and the same links
  broken-links : (slot : Slot) → number < length old.slots.items → slot ≡ get_or cur.slots.items number slot → slot.links.items ≡ links_at (slice_get (world_of old).processes number)
  broken-links slot lt index = sym (ap links_at (found cur number slot (broken-within lt) index)) ∙ ap (λ ps. links_at (slice_get ps number)) processes-stay

  -- there is one more
  pub broken-at : (was slot : Slot) (count : ℕ) → at < count → count ≡ was.links.len → number < length old.slots.items → was ≡ get_or old.slots.items number was → slot ≡ get_or cur.slots.items number slot → at < length slot.links.items
  broken-at was slot count lt is within index cur_index =
      omega (arith, lt, is, was.links.ok.0, links-found old number was within index, ap length (broken-links slot within cur_index))

  -- and it is sent the signal
  pub broken-more : (new : Node) (slot : Slot) (other : ℕ) → Holds old.heap reason → number < length old.slots.items → slot ≡ get_or cur.slots.items number slot → at < length slot.links.items → other ≡ get_or slot.links.items at other
      → Does cur new (sends (event_of cur.heap (event.Broken number other reason) ∷ []) (world_of cur)) → BrokenTo number reason (at + 1) old new
  broken-more new slot other held lt index within is one =
      subst (Does old new) (sym same)
      (does-next old cur new (sends first (world_of old)) (λ w. sends (event.Broken number other t ∷ []) w) so_far
      (subst (λ u. Does cur new (sends (event.Broken number other u ∷ []) (world_of cur))) (kept-term old.heap cur.heap reason so_far.keeps held) one))
    where
      t : Term
      t = term_of old.heap reason

      links : List ℕ
      links = links_at (slice_get (world_of old).processes number)

      first : List (Event Term)
      first = broken number t (take at links)

      last : links_at (slice_get (world_of old).processes number) ≡ slot.links.items
      last = sym (broken-links slot lt index)

      more : take (at + 1) links ≡ take at links ++ other ∷ []
      more = subst (λ ns. take (at + 1) ns ≡ take at ns ++ other ∷ []) (sym last) (ap (λ n. take n slot.links.items) (add-one at) ∙ (take-suc slot.links.items at other within ∙ ap (λ n. take at slot.links.items ++ n ∷ []) (sym is)))

      events : broken number t (take (at + 1) links) ≡ first ++ event.Broken number other t ∷ []
      events = ap (broken number t) more ∙ map_push (λ n. event.Broken number n t) (take at links) other

      same : sends (broken number t (take (at + 1) links)) (world_of old) ≡ record { events = first ++ event.Broken number other t ∷ []; world = sending (event.Broken number other t ∷ []) (sending first (world_of old)) }
      same =
          ap (λ es. sends es (world_of old)) events
          ∙ ap (λ (queue : Queue). record { events = first ++ event.Broken number other t ∷ []; world = with_queue (world_of old) queue }) (signals-then first (event.Broken number other t ∷ []) (queue_of old.heap old.queues))

  -- each is sent it
  pub broken-all : length (links_at (slice_get (world_of old).processes number)) ≤ at → DoesTo number old cur (λ q. sends (broken number (term_of old.heap reason) q.links) (world_of old))
  broken-all le q here =
      subst (λ ns. Does old cur (sends (broken number (term_of old.heap reason) ns) (world_of old))) (take_all at (links_at (slice_get (world_of old).processes number)) le ∙ ap links_at here) so_far

-- ---- live processes

-- with its process
live-found : (node : Node) (number : ℕ) → live_at (slice_get (world_of node).processes number) ≡ true → (q : Process) × (slice_get (world_of node).processes number ≡ Some q)
live-found node number live = by (slice_get (world_of node).processes number) refl live
  where
    by : (o : Option Process) → slice_get (world_of node).processes number ≡ o → live_at o ≡ true → (q : Process) × (slice_get (world_of node).processes number ≡ Some q)
    by None at e = absurd cc
    by (Some q) at e = (q, at)

-- the invariant holds after what was done to it
pub alone-node : (number : ℕ) (old new : Node) (change : Process → Change) → live_at (slice_get (world_of old).processes number) ≡ true → DoesAlone number old new change → IsNode new
alone-node number old new change live alone =
    let there = live-found old number live in
    (alone.does there.0 there.1).is_node

-- ---- ends

-- the process that has ended, as its end is seen
ended-found : (old mid next : Node) (number : ℕ) (events : List (Event Term)) (q : Process) → Buries number old mid → Does mid next (sends events (world_of mid)) → slice_get (world_of old).processes number ≡ Some q
    → slice_get (world_of next).processes number ≡ Some (with_status q Ended)
ended-found old mid next number events q buries sent at =
    ap (λ (w : World). slice_get w.processes number) sent.world
    ∙ (ap (λ (w : World). slice_get w.processes number) (buries.does q at).world ∙ get_set (world_of old).processes number q (with_status q Ended) at)

-- it is still there
pub ended-within : (old mid next : Node) (number : ℕ) (events : List (Event Term)) → live_at (slice_get (world_of old).processes number) ≡ true → Buries number old mid → Does mid next (sends events (world_of mid)) → number < length next.slots.items
ended-within old mid next number events live buries sent =
    let there = live-found old number live in
    subst (λ n. number < n) (length-map next.slots.items (process_of next.heap)) (slice_get_within (world_of next).processes number _ (ended-found old mid next number events there.0 buries sent there.1))

-- and the reason is held
pub ended-held : (old mid next : Node) (number : ℕ) (reason : TermId) (events : List (Event Term)) → Holds old.heap reason → Buries number old mid → Does mid next (sends events (world_of mid)) → Holds next.heap reason
ended-held old mid next number reason events is buries sent = held mid.heap next.heap reason sent.keeps (subst (λ h. Holds h reason) (sym buries.heap) is)

-- its end, the exit event, and the signals by its links
pub ends-does : (old mid next new : Node) (number : ℕ) (reason : TermId) → Holds old.heap reason → Buries number old mid → Does mid next (sends (event_of mid.heap (event.Exit number reason) ∷ []) (world_of mid))
    → DoesTo number next new (λ q. sends (broken number (term_of next.heap reason) q.links) (world_of next)) → DoesTo number old new (λ q. ends (world_of old) number q (term_of old.heap reason))
ends-does old mid next new number reason is buries sent breaks q at =
    does-next old next new (record { events = event.Exit number t ∷ []; world = sending (event.Exit number t ∷ []) gone }) (λ w. sends (broken number t q.links) w)
    (does-next old mid next (shows [] gone) (λ w. sends (event.Exit number t ∷ []) w) (buries.does q at) (subst (λ h. Does mid next (sends (event.Exit number (term_of h reason) ∷ []) (world_of mid))) buries.heap sent))
    (subst (λ u. Does next new (sends (broken number u q.links) (world_of next))) same (breaks (with_status q Ended) (ended-found old mid next number _ q buries sent at)))
  where
    t : Term
    t = term_of old.heap reason

    gone : World
    gone = with_process (world_of old) number (with_status q Ended)

    same : term_of next.heap reason ≡ t
    same = kept-term mid.heap next.heap reason sent.keeps (subst (λ h. Holds h reason) (sym buries.heap) is) ∙ ap (λ h. term_of h reason) buries.heap

-- what is seen of the signal, and the end
pub hits : (old mid new : Node) (from to : ℕ) (reason : TermId) → Holds old.heap reason → Does old mid (shows (event_of old.heap (event.Hit from to reason) ∷ []) (world_of old))
    → DoesTo to mid new (λ q. ends (world_of mid) to q (term_of mid.heap reason)) → DoesTo to old new (λ q. hit (world_of old) from to q (term_of old.heap reason))
hits old mid new from to reason is one more q at =
    let t = term_of old.heap reason in
    does-next old mid new (shows (event.Hit from to t ∷ []) (world_of old)) (λ w. ends w to q t) one
    (subst (λ u. Does mid new (ends (world_of mid) to q u)) (kept-term old.heap mid.heap reason one.keeps is) (more q (ap (λ (w : World). slice_get w.processes to) one.world ∙ at)))

-- what is done with a term that was made for it
pub made-then : (old mid new : Node) (number : ℕ) (t : Term) (id : TermId) (f : World → Process → Term → Change) → Makes t old mid id → DoesTo number mid new (λ q. f (world_of mid) q (term_of mid.heap id)) → DoesTo number old new (λ q. f (world_of old) q t)
made-then old mid new number t id f makes more q at =
    let one = subst (λ u. Does mid new (f (world_of mid) q u)) (stands-term mid.heap id t makes.stands) (more q (ap (λ (w : World). slice_get w.processes number) makes.only.world ∙ at)) in
    let same = subst (λ w. Does mid new (f w q t)) makes.only.world one in
    record {
      is_node = same.is_node;
      world = same.world;
      events = same.events ∙ ap (λ es. es ++ (f (world_of old) q t).events) makes.only.events;
      keeps = keeps-then old.heap mid.heap new.heap makes.only.keeps same.keeps;
    }

-- ---- the rules of exit signals

-- a test by the characters of a name that are its bytes
by-name : (b : Bool) (name : List ℕ) (t : Term) (told : Bool) → chars name ≡ name → b ≡ is_atom (chars name) t → b ≡ told → is_atom name t ≡ told
by-name b name t told same is e = sym (ap (λ n. is_atom n t) same) ∙ (sym is ∙ e)

-- it counts as the signal that nothing stops, or not
pub is-kill : (by_exit b : Bool) (t : Term) → by_exit ≡ true → b ≡ is_atom (chars (codes "kill")) t → b ≡ true → (by_exit && is_atom (codes "kill") t) ≡ true
is-kill by_exit b t is named e = ap₂ (λ (x y : Bool). x && y) is (by-name b (codes "kill") t true kill_characters named e)

pub not-kill : (by_exit b : Bool) (t : Term) → b ≡ is_atom (chars (codes "kill")) t → b ≡ false → (by_exit && is_atom (codes "kill") t) ≡ false
not-kill true b t named e = by-name b (codes "kill") t false kill_characters named e
not-kill false b t named e = refl

-- it is dropped as a normal end of another process, or not
pub is-normal : (from to : ℕ) (b : Bool) (t : Term) → (from ≡ to → ⊥) → b ≡ is_atom (chars (codes "normal")) t → b ≡ true → (is_atom (codes "normal") t && not (nat_eq from to)) ≡ true
is-normal from to b t other named e = ap₂ (λ (x y : Bool). x && not y) (by-name b (codes "normal") t true normal_characters named e) (ne_eqb from to other)

pub not-normal : (from to : ℕ) (b : Bool) (t : Term) → b ≡ is_atom (chars (codes "normal")) t → b ≡ false → (is_atom (codes "normal") t && not (nat_eq from to)) ≡ false
not-normal from to b t named e = ap (λ x. x && not (nat_eq from to)) (by-name b (codes "normal") t false normal_characters named e)

pub not-other : (from to : ℕ) (t : Term) → from ≡ to → (is_atom (codes "normal") t && not (nat_eq from to)) ≡ false
not-other from to t same = ap (λ x. is_atom (codes "normal") t && not x) (eq-eqb from to same) ∙ by (is_atom (codes "normal") t)
  where
    by : (b : Bool) → (b && false) ≡ false
    by true = refl
    by false = refl

-- whether the process traps exits
pub trapping-told : (node : Node) (number : ℕ) (slot : Slot) (b : Bool) (q : Process) → live_at (slice_get (world_of node).processes number) ≡ true → slot ≡ get_or node.slots.items number slot → slot.trapping ≡ b
    → slice_get (world_of node).processes number ≡ Some q → q.trapping ≡ b
trapping-told node number slot b q live index is at =
    sym (ap (λ (p : Process). p.trapping) (some-same (process_of node.heap slot) q (sym (found node number slot (live-within node number live) index) ∙ at))) ∙ is

-- the first rule that applies
module _ (old new : Node) (from to : ℕ) (by_exit : Bool) (t : Term) where
  abbrev pub Exits : Type 0
  Exits = DoesTo to old new (λ q. exits (world_of old) from to q by_exit t)

  pub exits-kill : (by_exit && is_atom (codes "kill") t) ≡ true → DoesTo to old new (λ q. hit (world_of old) from to q killed) → Exits
  exits-kill kill does q at = does-as old new _ _ (sym (cond-true _ _ _ kill)) (does q at)

  pub exits-trap : (by_exit && is_atom (codes "kill") t) ≡ false → ((q : Process) → slice_get (world_of old).processes to ≡ Some q → q.trapping ≡ true)
      → DoesTo to old new (λ q. appended (world_of old) from to q (exit_message 0 from t)) → Exits
  exits-trap kill traps does q at = does-as old new _ _ (sym (cond-false _ _ _ kill ∙ cond-true q.trapping _ _ (traps q at))) (does q at)

  module _ (kill : (by_exit && is_atom (codes "kill") t) ≡ false) (traps : (q : Process) → slice_get (world_of old).processes to ≡ Some q → q.trapping ≡ false) where
    pub exits-drop : (is_atom (codes "normal") t && not (nat_eq from to)) ≡ true → Does old new (shows (event.Dropped from to ∷ []) (world_of old)) → Exits
    exits-drop normal does q at = does-as old new _ _ (sym (cond-false _ _ _ kill ∙ (cond-false q.trapping _ _ (traps q at) ∙ cond-true _ _ _ normal))) does

    pub exits-hit : (is_atom (codes "normal") t && not (nat_eq from to)) ≡ false → DoesTo to old new (λ q. hit (world_of old) from to q t) → Exits
    exits-hit normal does q at = does-as old new _ _ (sym (cond-false _ _ _ kill ∙ (cond-false q.trapping _ _ (traps q at) ∙ cond-false _ _ _ normal))) (does q at)

-- ---- exit signals by the link

-- the process without its link
unlinked-found : (old mid : Node) (from to : ℕ) (was : Bool) (q : Process) → was ≡ true → Unlinks from to old mid was → slice_get (world_of old).processes to ≡ Some q → slice_get (world_of mid).processes to ≡ Some (without_link q from)
unlinked-found old mid from to was q is unlinks at =
    ap (λ (w : World). slice_get w.processes to) ((unlinks.does.does q at).world ∙ ap (λ b. unlinked b (world_of old) from to q) is) ∙ get_set (world_of old).processes to q (without_link q from) at

-- is live
pub unlinked-live : (old mid : Node) (from to : ℕ) (was : Bool) → was ≡ true → live_at (slice_get (world_of old).processes to) ≡ true → Unlinks from to old mid was → live_at (slice_get (world_of mid).processes to) ≡ true
unlinked-live old mid from to was is live unlinks =
    let there = live-found old to live in
    ap live_at (unlinked-found old mid from to was there.0 is unlinks there.1) ∙ (sym (ap live_at there.1) ∙ live)

-- the link goes, and then the signal counts
pub breaks-link : (old mid new : Node) (from to : ℕ) (was : Bool) (reason : TermId) → was ≡ true → Unlinks from to old mid was → DoesTo to mid new (λ q. exits (world_of mid) from to q false (term_of mid.heap reason))
    → DoesTo to old new (λ q. to_live (world_of old) from to q (Link (term_of old.heap reason)))
breaks-link old mid new from to was reason is unlinks more q at =
    let t = term_of old.heap reason in
    let one = subst (λ b. Does old mid (shows [] (unlinked b (world_of old) from to q))) is (unlinks.does.does q at) in
    does-as old new _ _ (sym (cond-true (is_linked q from) _ _ (sym (unlinks.was' q at) ∙ is)))
    (does-next old mid new (shows [] (with_process (world_of old) to (without_link q from))) (λ w. exits w from to (without_link q from) false t) one
    (subst (λ h. Does mid new (exits (world_of mid) from to (without_link q from) false (term_of h reason))) unlinks.does.heap (more (without_link q from) (unlinked-found old mid from to was q is unlinks at))))

-- ---- delivery

-- there is no signal, or the first is taken
pub deliver-none : (old mid : Node) (from to : ℕ) (o : Option Signal) → o ≡ None → Takes (from, to) old mid o → DoesIf false old mid (deliver (world_of old) from to)
deliver-none old mid from to o none takes =
    let nothing = subst (TakesAny (from, to) old mid) none takes.takes in
    subst (λ ss. DoesIf false old mid (first_of (world_of old) from to ss)) (sym nothing.0) (record {
      is_node = takes.is_node;
      world = ap world_of takes.is ∙ ap (with_queue (world_of old)) nothing.1;
      events = ap seen_of takes.is;
      keeps = subst (λ (n : Node). Keeps old.heap n.heap) (sym takes.is) (same-heap old.heap);
    })

pub deliver-some : (old mid new : Node) (from to : ℕ) (o : Option Signal) (s : Signal) → o ≡ Some s → Takes (from, to) old mid o
    → DoesSome mid new (to_process (world_of mid) from to (signal_of mid.heap s) (slice_get (world_of mid).processes to)) → DoesSome old new (deliver (world_of old) from to)
deliver-some old mid new from to o s some takes more =
    let one = subst (TakesAny (from, to) old mid) some takes.takes in
    let mids = subst (λ (m : Node). DoesSome m new (to_process (world_of m) from to (signal_of m.heap s) (slice_get (world_of m).processes to))) takes.is more in
    subst (λ ss. DoesSome old new (first_of (world_of old) from to ss)) (sym one.was)
    (subst (λ queue. DoesSome old new (to_process (with_queue (world_of old) queue) from to (signal_of old.heap s) (slice_get (world_of old).processes to))) one.queue (of-old _ mids))
  where
    of-old : (c : Option Change) → DoesSome (with_queues old mid.queues) new c → DoesSome old new c
    of-old None does = does
    of-old (Some c) does = record { is_node = does.is_node; world = does.world; events = does.events; keeps = does.keeps }
