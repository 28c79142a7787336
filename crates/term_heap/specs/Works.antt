-- How two terms are compared by their cells: what is still to be compared, and what it comes to.
use Rattle.std.specs.Prelude.{◌≡◌, ℕ, ◌+◌, ◌*◌, ◌<◌, if◌then◌else◌, List, [], ◌∷◌, map, slice_get, unwrap_or, IsSome}
use Rattle.std.specs.List.{All}
use Rattle.std.specs.Ordering.{ordering_then, nat_cmp, int_cmp, is_eq}
use Rattle.std.specs.declared.cmp.Ordering.{Ordering}
use Rattle.std.specs.declared.cmp.Ordering.TheVariants.{Equal}
use Rattle.ej_term.specs.Term.{Term, Fun, Tuple, Map, Nil, Cons, Terms, None, More, Pairs, Empty, Pair, terms}
use Rattle.ej_term.specs.Order.{compare, compare_each, compare_names, compare_numbers, compare_functions}
use Rattle.term_heap.specs.Cells.{Parts, parts_of}
use Rattle.term_heap.specs.declared.cell.TermId.{TermId}
use Rattle.term_heap.specs.declared.cell.Cell.{Cell}
use Rattle.term_heap.specs.declared.cell.Cell.TheVariants as c
use Rattle.term_heap.specs.declared.work.Work.{Work}
use Rattle.term_heap.specs.declared.work.Work.TheVariants as w

-- the place of a cell's kind among the kinds
abbrev pub kind : Cell → ℕ
kind (c.Int n) = 0
kind (c.Atom text) = 1
kind (c.Reference node number) = 2
kind (c.Fun local owner name arity first count) = 3
kind (c.Pid node number) = 4
kind (c.Tuple first count) = 5
kind (c.Map first count) = 6
kind c.Nil = 7
kind (c.Cons head tail) = 8

abbrev pub text : List (List ℕ) → ℕ → List ℕ
text texts place = unwrap_or (slice_get texts place) []

-- an order, and behind it that of two runs of parts
abbrev pub runs : Ordering → (first other count : ℕ) → Ordering × List Work
runs order first other count = (order, if is_eq order then w.Runs first other count ∷ [] else [])

-- the order of two cells as far as they tell, and what is to be compared behind it, the last first
abbrev pub opened : List (List ℕ) → Cell → Cell → Ordering × List Work
opened texts (c.Int m) (c.Int n) = (int_cmp m n, [])
opened texts (c.Atom a) (c.Atom b) = (compare_names (text texts a) (text texts b), [])
opened texts (c.Reference m k) (c.Reference n l) = (compare_numbers m k n l, [])
opened texts (c.Fun l m f a x n) (c.Fun k o g b y p) = runs (ordering_then (compare_functions l (text texts m) (text texts f) a k (text texts o) (text texts g) b) (nat_cmp n p)) x y n
opened texts (c.Pid m k) (c.Pid n l) = (compare_numbers m k n l, [])
opened texts (c.Tuple x n) (c.Tuple y m) = runs (nat_cmp n m) x y n
opened texts (c.Map x n) (c.Map y m) = runs (nat_cmp n m) x y (2 * n)
opened texts (c.Cons h t) (c.Cons k u) = (Equal, w.Terms t u ∷ w.Terms h k ∷ [])
opened texts a b = (nat_cmp (kind a) (kind b), [])

abbrev pub term_at : List Term → TermId → Term
term_at ts id = unwrap_or (slice_get ts id.0) Nil

abbrev pub run_at : Parts → List Term → (first count : ℕ) → List Term
run_at parts ts first count = unwrap_or (parts_of parts ts first count) []

-- the order of what is still to be compared
abbrev pub work_order : Parts → List Term → Work → Ordering
work_order parts ts (w.Terms a b) = compare (term_at ts a) (term_at ts b)
work_order parts ts (w.Runs first other count) = compare_each (terms (run_at parts ts first count)) (terms (run_at parts ts other count))

-- the last goes first
abbrev pub order_onto : Ordering → List Ordering → Ordering
order_onto later [] = later
order_onto later (o ∷ os) = order_onto (ordering_then o later) os

abbrev pub pending_order : Parts → List Term → List Work → Ordering
pending_order parts ts works = order_onto Equal (map (work_order parts ts) works)

-- its ids and runs are there
abbrev pub IsWork : Parts → List Term → Work → Type 0
IsWork parts ts (w.Terms a b) = IsSome (slice_get ts a.0) × IsSome (slice_get ts b.0)
IsWork parts ts (w.Runs first other count) = IsSome (parts_of parts ts first count) × IsSome (parts_of parts ts other count)

abbrev mutual
  -- more than the weights of all parts
  pub weight : Term → ℕ
  weight (Fun local owner name arity environment) = 1 + weight_each environment
  weight (Tuple parts) = 1 + weight_each parts
  weight (Map entries) = 1 + weight_pairs entries
  weight (Cons head tail) = 1 + (weight head + weight tail)
  weight _ = 1

  pub weight_each : Terms → ℕ
  weight_each None = 1
  weight_each (More first rest) = 1 + weight first + weight_each rest

  pub weight_pairs : Pairs → ℕ
  weight_pairs Empty = 1
  weight_pairs (Pair key value rest) = 1 + weight key + (1 + weight value) + weight_pairs rest

abbrev pub work_weight : Parts → List Term → Work → ℕ
work_weight parts ts (w.Terms a b) = weight (term_at ts a)
work_weight parts ts (w.Runs first other count) = weight_each (terms (run_at parts ts first count))

abbrev pub weigh : Parts → List Term → List Work → ℕ
weigh parts ts [] = 0
weigh parts ts (work ∷ works) = work_weight parts ts work + weigh parts ts works

-- a step takes work away and leaves less: what is left is the order
pub record Stepped (parts : Parts) (ts : List Term) (work : Work) (order : Ordering) (old new : List Work) : Type 0 where
  pub same : ordering_then (work_order parts ts work) (pending_order parts ts old) ≡ ordering_then order (pending_order parts ts new)
  pub fewer : weigh parts ts new < weigh parts ts old + work_weight parts ts work
  pub works : All (IsWork parts ts) old → All (IsWork parts ts) new
