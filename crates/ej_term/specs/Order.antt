-- The order of terms (Erlang Reference Manual, "Term Comparisons"):
-- number < atom < reference < fun < pid < tuple < map < nil < list.
use Rattle.std.specs.Prelude.{◌≡◌, ◌↔◌, ℕ, suc, Bool, not, List}
use Rattle.std.specs.Cmp.{IsTotalOrder}
use Rattle.std.specs.Cmp.Lexicographic.{slice_cmp}
use Rattle.std.specs.Ordering.{ordering_then, nat_cmp, int_cmp, bool_cmp}
use Rattle.std.specs.declared.cmp.Ordering.{Ordering}
use Rattle.std.specs.declared.cmp.Ordering.TheVariants.{Less, Equal, Greater}
use Rattle.ej_term.specs.Term.{Term, Int, Atom, Reference, Fun, Pid, Tuple, Map, Nil, Cons, Terms, None, More, Pairs, Empty, Pair}

-- the place of a term's kind among the kinds
abbrev pub kind : Term → ℕ
kind (Int n) = 0
kind (Atom name) = 1
kind (Reference node number) = 2
kind (Fun local owner name arity environment) = 3
kind (Pid node number) = 4
kind (Tuple parts) = 5
kind (Map pairs) = 6
kind Nil = 7
kind (Cons head tail) = 8

-- how many terms there are
abbrev pub size : Terms → ℕ
size None = 0
size (More first rest) = suc (size rest)

-- how many keys there are
abbrev pub count : Pairs → ℕ
count Empty = 0
count (Pair key value rest) = suc (count rest)

-- names go by the code points of their characters
abbrev pub compare_names : List ℕ → List ℕ → Ordering
compare_names = slice_cmp nat_cmp

-- pids and references go by node, then number
abbrev pub compare_numbers : (node number : ℕ) → (other_node other_number : ℕ) → Ordering
compare_numbers node number other_node other_number = ordering_then (nat_cmp node other_node) (nat_cmp number other_number)

-- funs go by local before external, module, name and arity, and then by environment
abbrev pub compare_functions : (local : Bool) (owner name : List ℕ) (arity : ℕ) → (other_local : Bool) (other_owner other_name : List ℕ) (other_arity : ℕ) → Ordering
compare_functions local owner name arity other_local other_owner other_name other_arity =
    ordering_then (bool_cmp (not local) (not other_local))
    (ordering_then (compare_names owner other_owner) (ordering_then (compare_names name other_name) (nat_cmp arity other_arity)))

abbrev mutual
  -- integers go by value, tuples and environments by size and then their elements, maps by size, then keys, then
  -- values in the order of the keys, and lists element by element
  pub compare : Term → Term → Ordering
  compare (Int m) (Int n) = int_cmp m n
  compare (Atom a) (Atom b) = compare_names a b
  compare (Reference m k) (Reference n l) = compare_numbers m k n l
  compare (Fun l m f a xs) (Fun k n g b ys) = ordering_then (compare_functions l m f a k n g b) (ordering_then (nat_cmp (size xs) (size ys)) (compare_each xs ys))
  compare (Pid m k) (Pid n l) = compare_numbers m k n l
  compare (Tuple xs) (Tuple ys) = ordering_then (nat_cmp (size xs) (size ys)) (compare_each xs ys)
  compare (Map ps) (Map qs) = ordering_then (nat_cmp (count ps) (count qs)) (ordering_then (compare_keys ps qs) (compare_values ps qs))
  compare (Cons x xs) (Cons y ys) = ordering_then (compare x y) (compare xs ys)
  compare a b = nat_cmp (kind a) (kind b)

  -- one element after the other
  pub compare_each : Terms → Terms → Ordering
  compare_each None None = Equal
  compare_each None (More y ys) = Less
  compare_each (More x xs) None = Greater
  compare_each (More x xs) (More y ys) = ordering_then (compare x y) (compare_each xs ys)

  pub compare_keys : Pairs → Pairs → Ordering
  compare_keys Empty Empty = Equal
  compare_keys Empty (Pair l w qs) = Less
  compare_keys (Pair k v ps) Empty = Greater
  compare_keys (Pair k v ps) (Pair l w qs) = ordering_then (compare k l) (compare_keys ps qs)

  pub compare_values : Pairs → Pairs → Ordering
  compare_values Empty Empty = Equal
  compare_values Empty (Pair l w qs) = Less
  compare_values (Pair k v ps) Empty = Greater
  compare_values (Pair k v ps) (Pair l w qs) = ordering_then (compare v w) (compare_values ps qs)

-- the order is total, and tells all terms apart: its ties are the equal terms
pub record IsOrderOfTerms : Type 0 where
  pub total : IsTotalOrder compare
  pub exact : (a b : Term) → compare a b ≡ Equal ↔ a ≡ b
