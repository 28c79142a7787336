-- The deliveries of `auto` leave no signal behind.
use Rattle.std.proofs.Common.{◌≡◌, ℕ, zero, suc, ◌+◌, ◌<◌, ◌≤◌, Bool, true, false, not, nat_eq, nat_lt, ◌&&◌, ◌⊎◌, inl, inr, List, [], ◌∷◌, ◌++◌, codes, length, map, Option, None, Some, option_map, option_and_then, refl, sym, ap, subst, ◌∙◌, arith}
use Rattle.std.specs.Prelude.{slice_get, slice_set, if◌then◌else◌}
use Rattle.std.specs.List.{AllByRecursion, flat_map, filter, find}
use Rattle.std.proofs.lemmas.Bool.{cond_both, ltb-true, ltb-false, cases_order}
use Rattle.std.proofs.lemmas.List.{length-set}
use Rattle.std.proofs.lemmas.Option.{same_Some}
use Rattle.ej_term.specs.Term.{Term, Atom}
use Rattle.ej_world.specs.declared.event.Event.TheVariants as event
use Rattle.ej_world.specs.Auto.{below, pairs, has_signal, first_pair, links_of_live, signals, behind, deliver_next, deliveries, all_delivered}
use Rattle.ej_world.specs.Choices.{Code, System, Happened, closed, of_change, delivered}
use Rattle.ej_world.specs.Delivery.{is_atom, exit_message, appended, hit, exits, is_linked, without_link, to_live, to_process, with_queue, first_of, deliver}
use Rattle.ej_world.specs.Lawful.{States, Lawful, AreAsked}
use Rattle.ej_world.specs.Runs.{Choice}
use Rattle.ej_world.specs.Sound.{SoundQueue, Sound}
use Rattle.ej_world.specs.Steps.{end_of}
use Rattle.ej_world.specs.World.{Signal, Message, Link, Exit, Ended, Process, World, Queue, Change, next_pid, empty, is_live, taken, put, with_signals, with_process, with_status, with_message}
use Rattle.ej_world.proofs.SoundDelivery.{get_set, SoundEach, deliver-sound}
use Rattle.ej_world.proofs.SoundLaw.{run_sound}
use Rattle.ej_world.proofs.Sums.{hits-pairs, hits-at-most, waiting, put-waits, taken-waits, linked-set}

-- ---- one delivery

-- an end puts at most one signal on its way for each link
ends-waits : (number n : ℕ) (reason : Term) (links : List ℕ) (queue : Queue)
    → waiting (with_signals (map (λ other. event.Broken number other reason) links) queue) (pairs n) ≤ waiting queue (pairs n) + length links
ends-waits number n reason [] queue = omega arith
ends-waits number n reason (other ∷ links) queue =
    omega (arith, ends-waits number n reason links (put number other (Link reason) queue), put-waits number other (Link reason) queue (pairs n), hits-at-most number other n)

-- the signals of a world in which one process is another
signals-set : (w : World) (k : ℕ) (p q : Process) → slice_get w.processes k ≡ Some p → signals (with_process w k q) + links_of_live p ≡ signals w + links_of_live q
signals-set w k p q at =
    let same = ap (λ n. waiting w.queue (pairs n)) (length-set w.processes k q) in
    omega (arith, same, linked-set w.processes k p q at)

live-links : (p : Process) → is_live p ≡ true → links_of_live p ≡ length p.links
live-links p live = cond_both (is_live p) (length p.links) 0 (λ n. is_live p ≡ true → n ≡ length p.links) (λ e h. refl) (λ e h. absurd cc) live

filter-shorter : (test : ℕ → Bool) (ns : List ℕ) → length (filter test ns) ≤ length ns
filter-shorter test [] = omega arith
filter-shorter test (n ∷ ns) =
    let rest = filter-shorter test ns in
    cond_both (test n) _ _ (λ ms. length ms ≤ suc (length ns)) (λ e. omega arith) (λ e. omega arith)

abbrev AtMost : ℕ → Change → Type 0
AtMost n c = signals c.world ≤ n

module _ (w : World) (from to : ℕ) (q : Process) (at : slice_get w.processes to ≡ Some q) (live : is_live q ≡ true) where
  appended-most : (message : Term) → AtMost (signals w) (appended w from to q message)
  appended-most message = omega (arith, signals-set w to q (with_message q message) at)

  -- its links count no more, since it is not live
  hit-most : (reason : Term) → AtMost (signals w) (hit w from to q reason)
  hit-most reason =
      let gone = signals-set w to q (with_status q Ended) at in
      let many = live-links q live in
      omega (arith, gone, many, ends-waits to (length (slice_set w.processes to (with_status q Ended))) reason q.links w.queue)

  exits-most : (by_exit : Bool) (reason : Term) → AtMost (signals w) (exits w from to q by_exit reason)
  exits-most by_exit reason =
      cond_both (by_exit && is_atom (codes "kill") reason) _ _ (AtMost (signals w)) (λ e. hit-most (Atom (codes "killed")))
      (λ e. cond_both q.trapping _ _ (AtMost (signals w)) (λ e. appended-most (exit_message w.node from reason))
      (λ e. cond_both (is_atom (codes "normal") reason && not (nat_eq from to)) _ _ (AtMost (signals w)) (λ e. omega arith) (λ e. hit-most reason)))

  unlinks-most : signals (with_process w to (without_link q from)) ≤ signals w
  unlinks-most =
      omega (arith, signals-set w to q (without_link q from) at, live-links q live, live-links (without_link q from) live, filter-shorter (λ n. not (nat_eq from n)) q.links)

live-most : (w : World) (from to : ℕ) (q : Process) (signal : Signal) → slice_get w.processes to ≡ Some q → is_live q ≡ true → AtMost (signals w) (to_live w from to q signal)
live-most w from to q (Message message) at live = appended-most w from to q at live message
live-most w from to q (Exit reason) at live = exits-most w from to q at live true reason
live-most w from to q (Link reason) at live =
    let unlinked = unlinks-most w from to q at live in
    let least = exits-most (with_process w to (without_link q from)) from to (without_link q from) (get_set w.processes to q (without_link q from) at) live false reason in
    cond_both (is_linked q from) _ _ (AtMost (signals w)) (λ e. omega arith) (λ e. omega arith)

-- there is a delivery, and fewer signals after it
abbrev Fewer : World → Option Change → Type 0
Fewer w None = ⊥
Fewer w (Some c) = signals c.world < signals w

process-fewer : (w v : World) (from to : ℕ) (signal : Signal) (o : Option Process) → slice_get v.processes to ≡ o → to < next_pid v → signals v < signals w → Fewer w (to_process v from to signal o)
process-fewer w v from to signal None at lt less = absurd (none-within v.processes to lt at)
  where
    none-within : (ps : List Process) (k : ℕ) → k < length ps → slice_get ps k ≡ None → ⊥
    none-within [] k lt none = absurd (omega arith)
    none-within (p ∷ ps) zero lt none = absurd cc
    none-within (p ∷ ps) (suc k) lt none = none-within ps k (omega arith) none
process-fewer w v from to signal (Some q) at lt less =
    cond_both (is_live q) _ _ (λ (c : Change). signals c.world < signals w) (λ live. let most = live-most v from to q signal at live in omega arith) (λ e. less)

first-fewer : (w : World) (from to : ℕ) (waits : List Signal) → w.queue from to ≡ waits → 0 < length waits → from < next_pid w → to < next_pid w → Fewer w (first_of w from to waits)
first-fewer w from to [] is some one other = absurd (omega arith)
first-fewer w from to (signal ∷ rest) is some one other =
    process-fewer w (with_queue w (taken from to rest w.queue)) from to signal (slice_get w.processes to) refl other
    (omega (arith, taken-waits from to signal rest w.queue (pairs (next_pid w)) is, hits-pairs from to (next_pid w) one other))

pub deliver_fewer : (w : World) (from to : ℕ) → has_signal w (from, to) ≡ true → from < next_pid w → to < next_pid w → Fewer w (deliver w from to)
deliver_fewer w from to has one other = first-fewer w from to (w.queue from to) refl (ltb-true 0 (length (w.queue from to)) has) one other

-- ---- the least pair that has a signal

all-append : {X : Type 0} (P : X → Type 0) (xs ys : List X) → AllByRecursion P xs → AllByRecursion P ys → AllByRecursion P (xs ++ ys)
all-append P [] ys one other = other
all-append P (x ∷ xs) ys one other = (one.0, all-append P xs ys one.1 other)

all-among : {X : Type 0} (P : X → Type 0) (xs ys : List X) → AllByRecursion P (xs ++ ys) → AllByRecursion P xs × AllByRecursion P ys
all-among P [] ys all = (tt, all)
all-among P (x ∷ xs) ys all = let rest = all-among P xs ys all.1 in ((all.0, rest.0), rest.1)

below-all : (P : ℕ → Type 0) (n : ℕ) → ((k : ℕ) → k < n → P k) → AllByRecursion P (below n)
below-all P zero each = tt
below-all P (suc n) each = all-append P (below n) (n ∷ []) (below-all P n (λ k lt. each k (omega arith))) (each n (omega arith), tt)

all-below : (P : ℕ → Type 0) (n k : ℕ) → AllByRecursion P (below n) → k < n → P k
all-below P zero k all lt = absurd (omega arith)
all-below P (suc n) k all lt =
    let parts = all-among P (below n) (n ∷ []) all in
    by (cases_order k n) parts.1.0 (all-below P n k parts.0)
  where
    by : (k ≡ n) ⊎ ((k < n) ⊎ (n < k)) → P n → (k < n → P k) → P k
    by (inl e) last rest = subst P (sym e) last
    by (inr (inl less)) last rest = rest less
    by (inr (inr more)) last rest = absurd (omega arith)

all-row : (P : ℕ × ℕ → Type 0) (n : ℕ) (ns : List ℕ) → AllByRecursion (λ m. P (n, m)) ns → AllByRecursion P (map (λ to. (n, to)) ns)
all-row P n [] all = tt
all-row P n (m ∷ ns) all = (all.0, all-row P n ns all.1)

row-all : (P : ℕ × ℕ → Type 0) (n : ℕ) (ns : List ℕ) → AllByRecursion P (map (λ to. (n, to)) ns) → AllByRecursion (λ m. P (n, m)) ns
row-all P n [] all = tt
row-all P n (m ∷ ns) all = (all.0, row-all P n ns all.1)

all-rows : (P : ℕ × ℕ → Type 0) (ms ns : List ℕ) → AllByRecursion (λ n. AllByRecursion (λ m. P (n, m)) ns) ms → AllByRecursion P (flat_map (λ n. map (λ to. (n, to)) ns) ms)
all-rows P [] ns all = tt
all-rows P (n ∷ ms) ns all = all-append P (map (λ to. (n, to)) ns) _ (all-row P n ns all.0) (all-rows P ms ns all.1)

rows-all : (P : ℕ × ℕ → Type 0) (ms ns : List ℕ) → AllByRecursion P (flat_map (λ n. map (λ to. (n, to)) ns) ms) → AllByRecursion (λ n. AllByRecursion (λ m. P (n, m)) ns) ms
rows-all P [] ns all = tt
rows-all P (n ∷ ms) ns all = let parts = all-among P (map (λ to. (n, to)) ns) _ all in (row-all P n ns parts.0, rows-all P ms ns parts.1)

abbrev BothBelow : ℕ → ℕ × ℕ → Type 0
BothBelow n p = (p.0 < n) × (p.1 < n)

pairs-below : (n : ℕ) → AllByRecursion (BothBelow n) (pairs n)
pairs-below n = all-rows (BothBelow n) (below n) (below n) (below-all (λ from. AllByRecursion (λ to. BothBelow n (from, to)) (below n)) n (λ from one. below-all (λ to. BothBelow n (from, to)) n (λ to other. (one, other))))

find-some : {X : Type 0} (P : X → Type 0) (test : X → Bool) (xs : List X) (x : X) → AllByRecursion P xs → find test xs ≡ Some x → P x × (test x ≡ true)
find-some P test [] x all e = absurd cc
find-some P test (y ∷ xs) x all e = by (test y) refl e (find-some P test xs x all.1)
  where
    by : (b : Bool) → test y ≡ b → (if b then Some y else find test xs) ≡ Some x → (find test xs ≡ Some x → P x × (test x ≡ true)) → P x × (test x ≡ true)
    by true passes e rest = let same : y ≡ x = same_Some y x e in subst (λ x. P x × (test x ≡ true)) same (all.0, passes)
    by false passes e rest = rest e

find-none : {X : Type 0} (test : X → Bool) (xs : List X) → find test xs ≡ None → AllByRecursion (λ x. test x ≡ false) xs
find-none test [] e = tt
find-none test (y ∷ xs) e = by (test y) refl e (find-none test xs)
  where
    by : (b : Bool) → test y ≡ b → (if b then Some y else find test xs) ≡ None → (find test xs ≡ None → AllByRecursion (λ x. test x ≡ false) xs)
        → (test y ≡ false) × AllByRecursion (λ x. test x ≡ false) xs
    by true passes e rest = absurd cc
    by false passes e rest = (passes, rest e)

-- where a pair has a signal, there is a delivery
pair-fewer : (w : World) (p : ℕ × ℕ) → first_pair w ≡ Some p → Fewer w (deliver w p.0 p.1)
pair-fewer w p e =
    let found = find-some (BothBelow (next_pid w)) (has_signal w) (pairs (next_pid w)) p (pairs-below (next_pid w)) e in
    deliver_fewer w p.0 p.1 found.1 found.0.0 found.0.1

none-left : (w : World) (o : Option (ℕ × ℕ)) → first_pair w ≡ o → signals w ≤ 0 → o ≡ None
none-left w None e le = refl
none-left w (Some p) e le = by (deliver w p.0 p.1) (pair-fewer w p e)
  where
    by : (o : Option Change) → Fewer w o → Some p ≡ None
    by None fewer = absurd fewer
    by (Some c) fewer = absurd (omega (arith, fewer))

-- where there is a least pair, there is a delivery
pub pair_delivers : (w : World) (p : ℕ × ℕ) → first_pair w ≡ Some p → deliver w p.0 p.1 ≡ None → ⊥
pair_delivers w p e none = subst (Fewer w) none (pair-fewer w p e)

-- ---- all deliveries

module _ {S : Type 0} where
  -- no pair of processes has a signal
  abbrev pub Still : Happened S → Type 0
  Still h = first_pair h.system.world ≡ None

  deliver-on : (n : ℕ) → ((r : System S) → signals r.world ≤ n → Still (deliveries n r)) → (r : System S) → signals r.world ≤ suc n → (o : Option Change) → Fewer r.world o
      → Still (deliver_next (deliveries n) r (option_map (of_change r.states) o))
  deliver-on n each r le None fewer = absurd fewer
  deliver-on n each r le (Some c) fewer = each (of_change r.states c).system (omega (arith, fewer))

  pairs-on : (n : ℕ) → ((r : System S) → signals r.world ≤ n → Still (deliveries n r)) → (r : System S) → signals r.world ≤ suc n → (o : Option (ℕ × ℕ)) → first_pair r.world ≡ o
      → Still (deliver_next (deliveries n) r (option_and_then (λ (p : ℕ × ℕ). delivered r p.0 p.1) o))
  pairs-on n each r le None e = e
  pairs-on n each r le (Some p) e = deliver-on n each r le (deliver r.world p.0 p.1) (pair-fewer r.world p e)

  -- as many deliveries as there are signals, and links of live processes, are enough
  pub deliveries_end : (most : ℕ) (r : System S) → signals r.world ≤ most → Still (deliveries most r)
  deliveries_end zero r le = none-left r.world (first_pair r.world) refl le
  deliveries_end (suc n) r le = pairs-on n (deliveries_end n) r le (first_pair r.world) refl

  pub all_delivered_end : (r : System S) → Still (all_delivered r)
  all_delivered_end r = deliveries_end (signals r.world) r (omega arith)

  -- ---- one delivery behind the other

  no-more : (n : ℕ) (r : System S) → first_pair r.world ≡ None → deliveries n r ≡ record { events = []; system = r }
  no-more zero r none = refl
  no-more (suc n) r none = ap (λ o. deliver_next (deliveries n) r (option_and_then (λ (p : ℕ × ℕ). delivered r p.0 p.1) o)) none

  -- one more than that many are as many
  enough : (n m : ℕ) (r : System S) → signals r.world ≤ n → signals r.world ≤ m → deliveries n r ≡ deliveries m r
  enough zero m r le more = sym (no-more m r (none-left r.world (first_pair r.world) refl le))
  enough (suc n) zero r le more = no-more (suc n) r (none-left r.world (first_pair r.world) refl more)
  enough (suc n) (suc m) r le more = by (first_pair r.world) refl (enough n m)
    where
      on : (o : Option Change) → Fewer r.world o → ((r : System S) → signals r.world ≤ n → signals r.world ≤ m → deliveries n r ≡ deliveries m r)
          → deliver_next (deliveries n) r (option_map (of_change r.states) o) ≡ deliver_next (deliveries m) r (option_map (of_change r.states) o)
      on None fewer rest = absurd fewer
      on (Some c) fewer rest = ap (behind (closed (of_change r.states c)).events) (rest (of_change r.states c).system (omega (arith, fewer)) (omega (arith, fewer)))

      by : (o : Option (ℕ × ℕ)) → first_pair r.world ≡ o → ((r : System S) → signals r.world ≤ n → signals r.world ≤ m → deliveries n r ≡ deliveries m r)
          → deliver_next (deliveries n) r (option_and_then (λ (p : ℕ × ℕ). delivered r p.0 p.1) o) ≡ deliver_next (deliveries m) r (option_and_then (λ (p : ℕ × ℕ). delivered r p.0 p.1) o)
      by None e rest = refl
      by (Some p) e rest = on (deliver r.world p.0 p.1) (pair-fewer r.world p e) rest

  pub all_delivered_none : (r : System S) → first_pair r.world ≡ None → all_delivered r ≡ record { events = []; system = r }
  all_delivered_none r none = no-more (signals r.world) r none

  pub delivery_falls : (r : System S) (p : ℕ × ℕ) (c : Change) → first_pair r.world ≡ Some p → deliver r.world p.0 p.1 ≡ Some c → signals c.world < signals r.world
  delivery_falls r p c e is = subst (Fewer r.world) is (pair-fewer r.world p e)

  -- all deliveries are the first one, and then all behind it
  pub all_delivered_next : (r : System S) (p : ℕ × ℕ) (c : Change) → first_pair r.world ≡ Some p → deliver r.world p.0 p.1 ≡ Some c
      → all_delivered r ≡ behind (closed (of_change r.states c)).events (all_delivered (of_change r.states c).system)
  all_delivered_next r p c e is =
      let fewer = delivery_falls r p c e is in
      enough (signals r.world) (suc (signals r.world)) r (omega arith) (omega arith)
      ∙ (ap (λ o. deliver_next (deliveries (signals r.world)) r (option_and_then (λ (p : ℕ × ℕ). delivered r p.0 p.1) o)) e
      ∙ (ap (λ o. deliver_next (deliveries (signals r.world)) r (option_map (of_change r.states) o)) is
      ∙ ap (behind (closed (of_change r.states c)).events) (enough (signals r.world) (signals c.world) (of_change r.states c).system (omega (arith, fewer)) (omega arith))))

-- and where only pairs of processes have signals, none is left at all
pub nothing_waits : (w : World) → SoundQueue (next_pid w) w.queue → first_pair w ≡ None → (from to : ℕ) → w.queue from to ≡ []
nothing_waits w sound none from to = by (sound from to)
  where
    empty : (queue : List Signal) → nat_lt 0 (length queue) ≡ false → queue ≡ []
    empty [] e = refl
    empty (s ∷ queue) e = absurd (omega (arith, ltb-false 0 (length (s ∷ queue)) e))

    none-has : AllByRecursion (λ p. has_signal w p ≡ false) (pairs (next_pid w))
    none-has = find-none (has_signal w) (pairs (next_pid w)) none

    at : from < next_pid w → to < next_pid w → has_signal w (from, to) ≡ false
    at one other =
        all-below (λ to. has_signal w (from, to) ≡ false) (next_pid w) to
        (all-below (λ from. AllByRecursion (λ to. has_signal w (from, to) ≡ false) (below (next_pid w))) (next_pid w) from (rows-all (λ p. has_signal w p ≡ false) (below (next_pid w)) (below (next_pid w)) none-has) one)
        other

    by : (w.queue from to ≡ []) ⊎ ((from < next_pid w) × (to < next_pid w)) → w.queue from to ≡ []
    by (inl is) = is
    by (inr lt) = empty (w.queue from to) (at lt.0 lt.1)

module _ {S : Type 0} (IsState : States S) where
  sound-on : (n : ℕ) → ((r : System S) → Sound IsState r → Sound IsState (deliveries n r).system) → (r : System S) → Sound IsState r → (o : Option Change) → SoundEach IsState r.states o
      → Sound IsState (deliver_next (deliveries n) r (option_map (of_change r.states) o)).system
  sound-on n each r sound None after = sound
  sound-on n each r sound (Some c) after = each (of_change r.states c).system after

  sound-pair : (n : ℕ) → ((r : System S) → Sound IsState r → Sound IsState (deliveries n r).system) → (r : System S) → Sound IsState r → (o : Option (ℕ × ℕ))
      → Sound IsState (deliver_next (deliveries n) r (option_and_then (λ (p : ℕ × ℕ). delivered r p.0 p.1) o)).system
  sound-pair n each r sound None = sound
  sound-pair n each r sound (Some p) = sound-on n each r sound (deliver r.world p.0 p.1) (deliver-sound IsState r.states r.world p.0 p.1 sound)

  deliveries-sound : (most : ℕ) (r : System S) → Sound IsState r → Sound IsState (deliveries most r).system
  deliveries-sound zero r sound = sound
  deliveries-sound (suc n) r sound = sound-pair n (deliveries-sound n) r sound (first_pair r.world)

  -- in a sound system all signals are delivered
  pub all_are_delivered : (r : System S) → Sound IsState r → (from to : ℕ) → (all_delivered r).system.world.queue from to ≡ []
  all_are_delivered r sound from to =
      nothing_waits (all_delivered r).system.world (deliveries-sound (signals r.world) r sound).queue (all_delivered_end r) from to

-- so they are wherever a run of a lawful code comes to
pub run_delivers : {S : Type 0} (code : Code S) (IsState : States S) → Lawful code IsState → (script : List Choice) → AreAsked script
    → (from to : ℕ) → (all_delivered (end_of code (record { world = empty; states = [] }) script)).system.world.queue from to ≡ []
run_delivers code IsState lawful script asked from to = all_are_delivered IsState (end_of code (record { world = empty; states = [] }) script) (run_sound code IsState lawful script asked) from to
