-- A code for terms by lists of integers, which sorts as the terms do.
use Rattle.std.proofs.Common.{◌≡◌, ℕ, suc, Bool, true, false, not, List, [], ◌∷◌, ℤ, pos, refl, sym, ap, ◌∙◌, Ordering, Less, Equal, Greater, nat_cmp, int_cmp, arith}
use Rattle.std.specs.Ordering.{ordering_then, bool_cmp}
use Rattle.std.specs.Cmp.Lexicographic.{slice_cmp}
use Rattle.std.proofs.lemmas.Bool.Decides.{nat_tests}
use Rattle.ej_term.specs.Term.{Term, Int, Atom, Reference, Fun, Pid, Tuple, Map, Nil, Cons, Terms, None, More, Pairs, Empty, Pair}
use Rattle.ej_term.specs.Order.{size, count, compare_names, compare_numbers, compare_functions, compare, compare_each, compare_keys, compare_values}

-- the order of codes
abbrev pub order : List ℤ → List ℤ → Ordering
order = slice_cmp int_cmp

-- a name's characters, each above the end mark
abbrev pub name_code : List ℕ → List ℤ → List ℤ
name_code [] rest = pos 0 ∷ rest
name_code (c ∷ cs) rest = pos (suc c) ∷ name_code cs rest

abbrev pub flag : Bool → ℕ
flag true = 0
flag false = 1

abbrev mutual
  pub code : Term → List ℤ → List ℤ
  code (Int n) rest = pos 0 ∷ n ∷ rest
  code (Atom name) rest = pos 1 ∷ name_code name rest
  code (Reference node number) rest = pos 2 ∷ pos node ∷ pos number ∷ rest
  code (Fun local owner name arity parts) rest = pos 3 ∷ pos (flag local) ∷ name_code owner (name_code name (pos arity ∷ pos (size parts) ∷ code_each parts rest))
  code (Pid node number) rest = pos 4 ∷ pos node ∷ pos number ∷ rest
  code (Tuple parts) rest = pos 5 ∷ pos (size parts) ∷ code_each parts rest
  code (Map pairs) rest = pos 6 ∷ pos (count pairs) ∷ code_keys pairs (code_values pairs rest)
  code Nil rest = pos 7 ∷ rest
  code (Cons head tail) rest = pos 8 ∷ code head (code tail rest)

  pub code_each : Terms → List ℤ → List ℤ
  code_each None rest = pos 0 ∷ rest
  code_each (More first others) rest = pos 1 ∷ code first (code_each others rest)

  pub code_keys : Pairs → List ℤ → List ℤ
  code_keys Empty rest = pos 0 ∷ rest
  code_keys (Pair key value others) rest = pos 1 ∷ code key (code_keys others rest)

  pub code_values : Pairs → List ℤ → List ℤ
  code_values Empty rest = pos 0 ∷ rest
  code_values (Pair key value others) rest = pos 1 ∷ code value (code_values others rest)

pub then-assoc : (a b c : Ordering) → ordering_then (ordering_then a b) c ≡ ordering_then a (ordering_then b c)
then-assoc Less b c = refl
then-assoc Equal b c = refl
then-assoc Greater b c = refl

pub then-Equal : (a : Ordering) → ordering_then a Equal ≡ a
then-Equal Less = refl
then-Equal Equal = refl
then-Equal Greater = refl

-- numbers go as integers
pub naturals : (m n : ℕ) → int_cmp (pos m) (pos n) ≡ nat_cmp m n
naturals m n = grind (arith, nat_tests)

pub flags : (l k : Bool) → int_cmp (pos (flag l)) (pos (flag k)) ≡ bool_cmp (not l) (not k)
flags true true = refl
flags true false = refl
flags false true = refl
flags false false = refl

first-rises : (d : ℕ) → int_cmp (pos 0) (pos (suc d)) ≡ Less
first-rises d = grind (arith, nat_tests)

first-falls : (c : ℕ) → int_cmp (pos (suc c)) (pos 0) ≡ Greater
first-falls c = grind (arith, nat_tests)

successors : (c d : ℕ) → int_cmp (pos (suc c)) (pos (suc d)) ≡ nat_cmp c d
successors c d = grind (arith, nat_tests)

pub names : (a b : List ℕ) (r s : List ℤ) → order (name_code a r) (name_code b s) ≡ ordering_then (compare_names a b) (order r s)
names [] [] r s = refl
names [] (d ∷ ds) r s = ap (λ o. ordering_then o (order r (name_code ds s))) (first-rises d)
names (c ∷ cs) [] r s = ap (λ o. ordering_then o (order (name_code cs r) s)) (first-falls c)
names (c ∷ cs) (d ∷ ds) r s =
    ap (λ o. ordering_then o (order (name_code cs r) (name_code ds s))) (successors c d)
    ∙ ap (ordering_then (nat_cmp c d)) (names cs ds r s)
    ∙ sym (then-assoc (nat_cmp c d) (compare_names cs ds) (order r s))

pub numbers : (m k n l : ℕ) (r s : List ℤ) → order (pos m ∷ pos k ∷ r) (pos n ∷ pos l ∷ s) ≡ ordering_then (compare_numbers m k n l) (order r s)
numbers m k n l r s =
    ap (λ o. ordering_then o (order (pos k ∷ r) (pos l ∷ s))) (naturals m n)
    ∙ ap (λ o. ordering_then (nat_cmp m n) (ordering_then o (order r s))) (naturals k l)
    ∙ sym (then-assoc (nat_cmp m n) (nat_cmp k l) (order r s))

-- a number in front
pub number : (m n : ℕ) (r s : List ℤ) (o : Ordering) → order r s ≡ o → order (pos m ∷ r) (pos n ∷ s) ≡ ordering_then (nat_cmp m n) o
number m n r s o e = ap (λ x. ordering_then x (order r s)) (naturals m n) ∙ ap (ordering_then (nat_cmp m n)) e

pub functions : (l : Bool) (m f : List ℕ) (a : ℕ) (k : Bool) (n g : List ℕ) (b : ℕ) (r s : List ℤ)
    → order (pos (flag l) ∷ name_code m (name_code f (pos a ∷ r))) (pos (flag k) ∷ name_code n (name_code g (pos b ∷ s)))
    ≡ ordering_then (compare_functions l m f a k n g b) (order r s)
functions l m f a k n g b r s =
    ap (λ o. ordering_then o (order (name_code m (name_code f (pos a ∷ r))) (name_code n (name_code g (pos b ∷ s))))) (flags l k)
    ∙ ap (ordering_then locals) (names m n (name_code f (pos a ∷ r)) (name_code g (pos b ∷ s)))
    ∙ ap (λ o. ordering_then locals (ordering_then (compare_names m n) o)) (names f g (pos a ∷ r) (pos b ∷ s))
    ∙ ap (λ o. ordering_then locals (ordering_then (compare_names m n) (ordering_then (compare_names f g) o))) (number a b r s (order r s) refl)
    ∙ regroup locals (compare_names m n) (compare_names f g) (nat_cmp a b) (order r s)
  where
    locals : Ordering
    locals = bool_cmp (not l) (not k)

    regroup : (p q u v w : Ordering) → ordering_then p (ordering_then q (ordering_then u (ordering_then v w))) ≡ ordering_then (ordering_then p (ordering_then q (ordering_then u v))) w
    regroup p q u v w = simp then-assoc

three : (p q u w : Ordering) → ordering_then p (ordering_then q (ordering_then u w)) ≡ ordering_then (ordering_then p (ordering_then q u)) w
three p q u w = simp then-assoc

mutual
  pub coded : (x y : Term) (r s : List ℤ) → order (code x r) (code y s) ≡ ordering_then (compare x y) (order r s)
  coded (Int m) (Int n) r s = refl
  coded (Atom a) (Atom b) r s = names a b r s
  coded (Reference m k) (Reference n l) r s = numbers m k n l r s
  coded (Fun l m f a xs) (Fun k n g b ys) r s =
      functions l m f a k n g b (pos (size xs) ∷ code_each xs r) (pos (size ys) ∷ code_each ys s)
      ∙ ap (ordering_then (compare_functions l m f a k n g b)) (number (size xs) (size ys) (code_each xs r) (code_each ys s) _ (coded_each xs ys r s))
      ∙ three (compare_functions l m f a k n g b) (nat_cmp (size xs) (size ys)) (compare_each xs ys) (order r s)
  coded (Pid m k) (Pid n l) r s = numbers m k n l r s
  coded (Tuple xs) (Tuple ys) r s =
      number (size xs) (size ys) (code_each xs r) (code_each ys s) _ (coded_each xs ys r s)
      ∙ sym (then-assoc (nat_cmp (size xs) (size ys)) (compare_each xs ys) (order r s))
  coded (Map ps) (Map qs) r s =
      number (count ps) (count qs) (code_keys ps (code_values ps r)) (code_keys qs (code_values qs s)) _
      (coded_keys ps qs (code_values ps r) (code_values qs s) ∙ ap (ordering_then (compare_keys ps qs)) (coded_values ps qs r s))
      ∙ three (nat_cmp (count ps) (count qs)) (compare_keys ps qs) (compare_values ps qs) (order r s)
  coded Nil Nil r s = refl
  coded (Cons x xs) (Cons y ys) r s =
      coded x y (code xs r) (code ys s) ∙ ap (ordering_then (compare x y)) (coded xs ys r s) ∙ sym (then-assoc (compare x y) (compare xs ys) (order r s))
  coded x y r s = refl

  pub coded_each : (xs ys : Terms) (r s : List ℤ) → order (code_each xs r) (code_each ys s) ≡ ordering_then (compare_each xs ys) (order r s)
  coded_each None None r s = refl
  coded_each None (More y ys) r s = refl
  coded_each (More x xs) None r s = refl
  coded_each (More x xs) (More y ys) r s =
      coded x y (code_each xs r) (code_each ys s) ∙ ap (ordering_then (compare x y)) (coded_each xs ys r s)
      ∙ sym (then-assoc (compare x y) (compare_each xs ys) (order r s))

  pub coded_keys : (ps qs : Pairs) (r s : List ℤ) → order (code_keys ps r) (code_keys qs s) ≡ ordering_then (compare_keys ps qs) (order r s)
  coded_keys Empty Empty r s = refl
  coded_keys Empty (Pair l w qs) r s = refl
  coded_keys (Pair k v ps) Empty r s = refl
  coded_keys (Pair k v ps) (Pair l w qs) r s =
      coded k l (code_keys ps r) (code_keys qs s) ∙ ap (ordering_then (compare k l)) (coded_keys ps qs r s)
      ∙ sym (then-assoc (compare k l) (compare_keys ps qs) (order r s))

  pub coded_values : (ps qs : Pairs) (r s : List ℤ) → order (code_values ps r) (code_values qs s) ≡ ordering_then (compare_values ps qs) (order r s)
  coded_values Empty Empty r s = refl
  coded_values Empty (Pair l w qs) r s = refl
  coded_values (Pair k v ps) Empty r s = refl
  coded_values (Pair k v ps) (Pair l w qs) r s =
      coded v w (code_values ps r) (code_values qs s) ∙ ap (ordering_then (compare v w)) (coded_values ps qs r s)
      ∙ sym (then-assoc (compare v w) (compare_values ps qs) (order r s))
