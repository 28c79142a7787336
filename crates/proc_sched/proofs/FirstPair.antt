-- The least pair that has a signal is the first key of the queues.
use Rattle.std.proofs.Common.{◌≡◌, ℕ, zero, suc, ◌<◌, ◌≤◌, Bool, true, false, nat_eq, nat_lt, ◌⊎◌, inl, inr, List, [], ◌∷◌, ◌++◌, length, map, Option, None, Some, refl, sym, ap, ap₂, subst, ◌∙◌, arith}
use Rattle.std.specs.Prelude.{cond}
use Rattle.std.specs.BTreeMap.{get, is_at, IsLowerBound}
use Rattle.std.specs.Map.{lookup}
use Rattle.std.specs.List.{AllByRecursion, flat_map, find}
use Rattle.std.specs.Option.{is_some}
use Rattle.std.specs.Ordering.{nat_cmp, ordering_then, is_gt}
use Rattle.std.specs.declared.alloc.Global.{Global}
use Rattle.std.specs.declared.collections.VecDeque.{VecDeque}
use Rattle.std.specs.declared.cmp.Ordering.{Ordering}
use Rattle.std.specs.declared.cmp.Ordering.TheVariants.{Less, Equal, Greater}
use Rattle.std.proofs.lemmas.Bool.{lt-ltb, le-ltb, eq-eqb, ne_eqb, cond-true, cond-false, cases_order}
use Rattle.std.proofs.lemmas.List.{length-map, nil_from_length}
use Rattle.ej_world.specs.Auto.{below, pairs, has_signal}
use Rattle.ej_world.specs.World.{next_pid}
use Rattle.proc_sched.specs.declared.node.Node.{Node}
use Rattle.proc_sched.specs.declared.signal.Signal.{Signal}
use Rattle.proc_sched.specs.Nodes.{Between, first_pair}
use Rattle.proc_sched.specs.Stands.{HoldsQueue, IsNode, pair_cmp, queue_in, queue_of, signal_of, world_of}

-- one pair is below another
abbrev pub Before : ℕ × ℕ → ℕ × ℕ → Type 0
Before p q = (p.0 < q.0) ⊎ ((p.0 ≡ q.0) × (p.1 < q.1))

abbrev pub Ordered : List (ℕ × ℕ) → Type 0
Ordered [] = Unit {0}
Ordered (p ∷ ps) = AllByRecursion (Before p) ps × Ordered ps

all-append : {X : Type 0} (P : X → Type 0) (xs ys : List X) → AllByRecursion P xs → AllByRecursion P ys → AllByRecursion P (xs ++ ys)
all-append P [] ys one other = other
all-append P (x ∷ xs) ys one other = (one.0, all-append P xs ys one.1 other)

-- each of the one list is below each of the other
abbrev Apart : (ps qs : List (ℕ × ℕ)) → Type 0
Apart ps qs = AllByRecursion (λ p. AllByRecursion (Before p) qs) ps

ordered-append : (ps qs : List (ℕ × ℕ)) → Ordered ps → Ordered qs → Apart ps qs → Ordered (ps ++ qs)
ordered-append [] qs one other apart = other
ordered-append (p ∷ ps) qs one other apart = (all-append (Before p) ps qs one.0 apart.0, ordered-append ps qs one.1 other apart.1)

-- rising numbers
abbrev Rises : List ℕ → Type 0
Rises [] = Unit {0}
Rises (n ∷ ns) = AllByRecursion (λ m. n < m) ns × Rises ns

rises-append : (ns : List ℕ) (m : ℕ) → Rises ns → AllByRecursion (λ n. n < m) ns → Rises (ns ++ m ∷ [])
rises-append [] m rise all = (tt, tt)
rises-append (n ∷ ns) m rise all = (all-append (λ k. n < k) ns (m ∷ []) rise.0 (all.0, tt), rises-append ns m rise.1 all.1)

all-weaker : {X : Type 0} (P Q : X → Type 0) → ((x : X) → P x → Q x) → (xs : List X) → AllByRecursion P xs → AllByRecursion Q xs
all-weaker P Q f [] all = tt
all-weaker P Q f (x ∷ xs) all = (f x all.0, all-weaker P Q f xs all.1)

below-lt : (n : ℕ) → AllByRecursion (λ k. k < n) (below n)
below-lt zero = tt
below-lt (suc n) = all-append (λ k. k < suc n) (below n) (n ∷ []) (all-weaker (λ k. k < n) (λ k. k < suc n) (λ k lt. omega arith) (below n) (below-lt n)) (omega arith, tt)

below-rises : (n : ℕ) → Rises (below n)
below-rises zero = tt
below-rises (suc n) = rises-append (below n) n (below-rises n) (below-lt n)

row-all : (P : ℕ × ℕ → Type 0) (n : ℕ) (ns : List ℕ) → AllByRecursion (λ m. P (n, m)) ns → AllByRecursion P (map (λ to. (n, to)) ns)
row-all P n [] all = tt
row-all P n (m ∷ ns) all = (all.0, row-all P n ns all.1)

row-ordered : (n : ℕ) (ns : List ℕ) → Rises ns → Ordered (map (λ to. (n, to)) ns)
row-ordered n [] rise = tt
row-ordered n (m ∷ ns) rise = (row-all (Before (n, m)) n ns (all-weaker (λ k. m < k) (λ k. Before (n, m) (n, k)) (λ k lt. inr (refl, lt)) ns rise.0), row-ordered n ns rise.1)

all-always : {X : Type 0} (P : X → Type 0) → ((x : X) → P x) → (xs : List X) → AllByRecursion P xs
all-always P f [] = tt
all-always P f (x ∷ xs) = (f x, all-always P f xs)

rows-above : (p : ℕ × ℕ) (ms ns : List ℕ) → AllByRecursion (λ m. p.0 < m) ms → AllByRecursion (Before p) (flat_map (λ n. map (λ to. (n, to)) ns) ms)
rows-above p [] ns all = tt
rows-above p (m ∷ ms) ns all = all-append (Before p) (map (λ to. (m, to)) ns) _ (row-all (Before p) m ns (all-always (λ k. Before p (m, k)) (λ k. inl all.0) ns)) (rows-above p ms ns all.1)

rows-ordered : (ms ns : List ℕ) → Rises ms → Rises ns → Ordered (flat_map (λ n. map (λ to. (n, to)) ns) ms)
rows-ordered [] ns rise other = tt
rows-ordered (m ∷ ms) ns rise other =
    ordered-append (map (λ to. (m, to)) ns) (flat_map (λ n. map (λ to. (n, to)) ns) ms) (row-ordered m ns other) (rows-ordered ms ns rise.1 other)
    (row-all (λ p. AllByRecursion (Before p) (flat_map (λ n. map (λ to. (n, to)) ns) ms)) m ns (all-always _ (λ k. rows-above (m, k) ms ns rise.0) ns))

pub pairs-ordered : (n : ℕ) → Ordered (pairs n)
pairs-ordered n = rows-ordered (below n) (below n) (below-rises n) (below-rises n)

-- ---- each pair of numbers below is there

pub data Among {X : Type 0} (x : X) : List X → Type 0 where
  First : (xs : List X) → Among x (x ∷ xs)
  Later : (y : X) (xs : List X) → Among x xs → Among x (y ∷ xs)

among-left : {X : Type 0} (x : X) (xs ys : List X) → Among x xs → Among x (xs ++ ys)
among-left x _ ys (First xs) = First (xs ++ ys)
among-left x _ ys (Later y xs more) = Later y (xs ++ ys) (among-left x xs ys more)

among-right : {X : Type 0} (x : X) (xs ys : List X) → Among x ys → Among x (xs ++ ys)
among-right x [] ys more = more
among-right x (y ∷ xs) ys more = Later y (xs ++ ys) (among-right x xs ys more)

among-below : (n k : ℕ) → k < n → Among k (below n)
among-below zero k lt = absurd (omega arith)
among-below (suc n) k lt = by (cases_order k n) (among-below n k)
  where
    by : (k ≡ n) ⊎ ((k < n) ⊎ (n < k)) → (k < n → Among k (below n)) → Among k (below n ++ n ∷ [])
    by (inl e) rest = among-right k (below n) (n ∷ []) (subst (λ m. Among k (m ∷ [])) e (First []))
    by (inr (inl less)) rest = among-left k (below n) (n ∷ []) (rest less)
    by (inr (inr more)) rest = absurd (omega arith)

among-row : (n m : ℕ) (ns : List ℕ) → Among m ns → Among {X = ℕ × ℕ} (n, m) (map (λ to. (n, to)) ns)
among-row n m _ (First ns) = First (map (λ to. (n, to)) ns)
among-row n m _ (Later k ns more) = Later (n, k) (map (λ to. (n, to)) ns) (among-row n m ns more)

among-rows : (n m : ℕ) (ms ns : List ℕ) → Among n ms → Among m ns → Among {X = ℕ × ℕ} (n, m) (flat_map (λ n. map (λ to. (n, to)) ns) ms)
among-rows n m _ ns (First ms) other = among-left (n, m) (map (λ to. (n, to)) ns) (flat_map (λ n. map (λ to. (n, to)) ns) ms) (among-row n m ns other)
among-rows n m _ ns (Later k ms more) other = among-right (n, m) (map (λ to. (k, to)) ns) (flat_map (λ n. map (λ to. (n, to)) ns) ms) (among-rows n m ms ns more other)

among-pairs : (n from to : ℕ) → from < n → to < n → Among {X = ℕ × ℕ} (from, to) (pairs n)
among-pairs n from to one other = among-rows from to (below n) (below n) (among-below n from one) (among-below n to other)

-- ---- what is found first

among-all : {X : Type 0} (P : X → Type 0) (x : X) (xs : List X) → Among x xs → AllByRecursion P xs → P x
among-all P x _ (First xs) all = all.0
among-all P x _ (Later y xs more) all = among-all P x xs more all.1

-- a pair that passes, with no pair below it that does
pub find-least : (test : ℕ × ℕ → Bool) (p : ℕ × ℕ) (ps : List (ℕ × ℕ)) → Ordered ps → Among p ps → test p ≡ true → ((q : ℕ × ℕ) → test q ≡ true → Before q p → ⊥) → find test ps ≡ Some p
find-least test p _ ordered (First ps) passes least = cond-true (test p) (Some p) (find test ps) passes
find-least test p _ ordered (Later q ps more) passes least = by (test q) refl (find-least test p ps ordered.1 more passes least)
  where
    by : (b : Bool) → test q ≡ b → find test ps ≡ Some p → cond b (Some q) (find test ps) ≡ Some p
    by true e rest = absurd (least q e (among-all (Before q) p ps more ordered.0))
    by false e rest = rest

-- none that passes
pub find-nothing : (test : ℕ × ℕ → Bool) (ps : List (ℕ × ℕ)) → ((q : ℕ × ℕ) → test q ≡ false) → find test ps ≡ None
find-nothing test [] all = refl
find-nothing test (p ∷ ps) all = cond-false (test p) (Some p) (find test ps) (all p) ∙ find-nothing test ps all

pub first-of-pairs : (test : ℕ × ℕ → Bool) (n : ℕ) (p : ℕ × ℕ) → p.0 < n → p.1 < n → test p ≡ true → ((q : ℕ × ℕ) → test q ≡ true → Before q p → ⊥) → find test (pairs n) ≡ Some p
first-of-pairs test n p one other passes least = find-least test p (pairs n) (pairs-ordered n) (among-pairs n p.0 p.1 one other) passes least

-- ---- comparisons

pub lt-greater : (a b : ℕ) → b < a → nat_cmp a b ≡ Greater
lt-greater a b lt = cond-false (nat_lt a b) Less (cond (nat_eq a b) Equal Greater) (le-ltb a b (omega arith)) ∙ cond-false (nat_eq a b) Equal Greater (ne_eqb a b (λ e. omega arith))

pub eq-equal : (a b : ℕ) → a ≡ b → nat_cmp a b ≡ Equal
eq-equal a b e = cond-false (nat_lt a b) Less (cond (nat_eq a b) Equal Greater) (le-ltb a b (omega arith)) ∙ cond-true (nat_eq a b) Equal Greater (eq-eqb a b e)

pub before-greater : (p q : ℕ × ℕ) → Before q p → is_gt (ordering_then (nat_cmp p.0 q.0) (nat_cmp p.1 q.1)) ≡ true
before-greater p q (inl lt) = ap (λ o. is_gt (ordering_then o (nat_cmp p.1 q.1))) (lt-greater p.0 q.0 lt)
before-greater p q (inr lt) = ap₂ (λ (a b : Ordering). is_gt (ordering_then a b)) (eq-equal p.0 q.0 (sym lt.0)) (lt-greater p.1 q.1 lt.1)

-- ---- the first key of the queues

-- a pair that has a queue, with none below it, is the first that has a signal
pub first-some : (node : Node) (p : ℕ × ℕ) (q : VecDeque Signal Global) → IsNode node → Between (world_of node) → get pair_cmp node.queues p ≡ Some q → IsLowerBound pair_cmp node.queues p
    → Some p ≡ first_pair (world_of node)
first-some node p q is between at least = sym (first-of-pairs (has_signal (world_of node)) (next_pid (world_of node)) p ends.0 ends.1 passes below-it)
  where
    some : 1 ≤ length q.items
    some = (subst (HoldsQueue node.heap) at (is.queues' p.0 p.1)).0

    long : length (queue_of node.heap node.queues p.0 p.1) ≡ length q.items
    long = ap (λ o. length (queue_in node.heap o)) at ∙ length-map q.items (signal_of node.heap)

    passes : has_signal (world_of node) p ≡ true
    passes = lt-ltb 0 (length (queue_of node.heap node.queues p.0 p.1)) (omega (arith, long, some))

    ends : (p.0 < next_pid (world_of node)) × (p.1 < next_pid (world_of node))
    ends = by (between p.0 p.1)
      where
        by : (queue_of node.heap node.queues p.0 p.1 ≡ []) ⊎ ((p.0 < next_pid (world_of node)) × (p.1 < next_pid (world_of node))) → (p.0 < next_pid (world_of node)) × (p.1 < next_pid (world_of node))
        by (inl e) = absurd (omega (arith, long, some, ap length e))
        by (inr both) = both

    below-it : (r : ℕ × ℕ) → has_signal (world_of node) r ≡ true → Before r p → ⊥
    below-it r has before = by (get pair_cmp node.queues r) refl has
      where
        by : (o : Option (VecDeque Signal Global)) → get pair_cmp node.queues r ≡ o → nat_lt 0 (length (queue_in node.heap o)) ≡ true → ⊥
        by None e none = absurd cc
        by (Some s) e has = absurd (differ (sym (before-greater p r before) ∙ least r (ap is_some e)))
          where
            differ : true ≡ false → ⊥
            differ e = cc

-- no queue is there, so no pair has a signal
pub first-none : (node : Node) → (0 < length node.queues.entries → false ≡ true) → None ≡ first_pair (world_of node)
first-none node empty = sym (find-nothing (has_signal (world_of node)) (pairs (next_pid (world_of node))) (λ q. ap (λ es. nat_lt 0 (length (queue_in node.heap (lookup (is_at (pair_cmp q)) es)))) nothing))
  where
    some : 0 < length node.queues.entries → ⊥
    some lt = by (empty lt)
      where
        by : false ≡ true → ⊥
        by e = cc

    nothing : node.queues.entries ≡ []
    nothing = nil_from_length node.queues.entries (omega (arith, some))
