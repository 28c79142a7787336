-- The order of terms is total, and its ties are the equal terms.
use Rattle.std.proofs.Common.{◌≡◌, ◌↔◌, ℕ, Bool, true, false, not, List, [], ◌∷◌, ℤ, refl, sym, ap, ap₂, ◌∙◌, subst, Ordering, Less, Equal, Greater, nat_cmp, int_cmp, is_eq, true≢false}
use Rattle.std.specs.Cmp.{IsTotalOrder}
use Rattle.std.specs.Ordering.{ordering_then, bool_cmp}
use Rattle.std.proofs.lemmas.Cmp.{ranked, int_ranked, tied_itself, int_cmp_total, on_total, lists_total}
use Rattle.ej_term.specs.Term.{Term, Int, Atom, Reference, Fun, Pid, Tuple, Map, Nil, Cons, Terms, None, More, Pairs, Empty, Pair}
use Rattle.ej_term.specs.Order.{size, count, compare_names, compare_functions, compare, compare_each, compare_keys, compare_values, IsOrderOfTerms}
use Rattle.ej_term.proofs.OrderCode.{order, code, coded, then-Equal}

pub compare-code : (x y : Term) → compare x y ≡ order (code x []) (code y [])
compare-code x y = sym (coded x y [] [] ∙ then-Equal (compare x y))

pub compare-total : IsTotalOrder compare
compare-total = subst IsTotalOrder (λ i x y. sym (compare-code x y) i) (on_total (λ x. code x []) (lists_total int_cmp_total))

-- both parts of a tie are ties
pub first-tied : (a b : Ordering) → ordering_then a b ≡ Equal → a ≡ Equal
first-tied Less b e = e
first-tied Equal b e = refl
first-tied Greater b e = e

pub second-tied : (a b : Ordering) → ordering_then a b ≡ Equal → b ≡ Equal
second-tied Less b e = absurd (true≢false (sym (ap is_eq e)))
second-tied Equal b e = e
second-tied Greater b e = absurd (true≢false (sym (ap is_eq e)))

pub equal-naturals : (m n : ℕ) → nat_cmp m n ≡ Equal → m ≡ n
equal-naturals m n e = ranked m n Equal (sym e)

pub equal-integers : (m n : ℤ) → int_cmp m n ≡ Equal → m ≡ n
equal-integers m n e = int_ranked m n Equal (sym e)

pub equal-names : (a b : List ℕ) → compare_names a b ≡ Equal → a ≡ b
equal-names [] [] e = refl
equal-names [] (d ∷ ds) e = absurd (true≢false (sym (ap is_eq e)))
equal-names (c ∷ cs) [] e = absurd (true≢false (sym (ap is_eq e)))
equal-names (c ∷ cs) (d ∷ ds) e = ap₂ ◌∷◌ (equal-naturals c d (first-tied _ _ e)) (equal-names cs ds (second-tied (nat_cmp c d) _ e))

equal-flags : (l k : Bool) → bool_cmp (not l) (not k) ≡ Equal → l ≡ k
equal-flags true true e = refl
equal-flags true false e = absurd (true≢false (sym (ap is_eq e)))
equal-flags false true e = absurd (true≢false (sym (ap is_eq e)))
equal-flags false false e = refl

mutual
  pub equal : (x y : Term) → compare x y ≡ Equal → x ≡ y
  equal (Int m) (Int n) e = ap Int (equal-integers m n e)
  equal (Atom a) (Atom b) e = ap Atom (equal-names a b e)
  equal (Reference m k) (Reference n l) e = ap₂ Reference (equal-naturals m n (first-tied _ _ e)) (equal-naturals k l (second-tied (nat_cmp m n) _ e))
  equal (Fun l m f a xs) (Fun k n g b ys) e =
      let here = first-tied (compare_functions l m f a k n g b) _ e in
      let names = second-tied (bool_cmp (not l) (not k)) _ here in
      let rest = second-tied (compare_names m n) _ names in
      let same_local = equal-flags l k (first-tied _ _ here) in
      let same_owner = equal-names m n (first-tied _ _ names) in
      let same_name = equal-names f g (first-tied _ _ rest) in
      let same_arity = equal-naturals a b (second-tied (compare_names f g) _ rest) in
      let same_parts = equal_each xs ys (second-tied (nat_cmp (size xs) (size ys)) _ (second-tied (compare_functions l m f a k n g b) _ e)) in
      cc
  equal (Pid m k) (Pid n l) e = ap₂ Pid (equal-naturals m n (first-tied _ _ e)) (equal-naturals k l (second-tied (nat_cmp m n) _ e))
  equal (Tuple xs) (Tuple ys) e = ap Tuple (equal_each xs ys (second-tied (nat_cmp (size xs) (size ys)) _ e))
  equal (Map ps) (Map qs) e =
      let both = second-tied (nat_cmp (count ps) (count qs)) _ e in
      ap Map (equal_pairs ps qs (first-tied _ _ both) (second-tied (compare_keys ps qs) _ both))
  equal Nil Nil e = refl
  equal (Cons x xs) (Cons y ys) e = ap₂ Cons (equal x y (first-tied _ _ e)) (equal xs ys (second-tied (compare x y) _ e))
  equal x y e = absurd (true≢false (sym (ap is_eq e)))

  pub equal_each : (xs ys : Terms) → compare_each xs ys ≡ Equal → xs ≡ ys
  equal_each None None e = refl
  equal_each None (More y ys) e = absurd (true≢false (sym (ap is_eq e)))
  equal_each (More x xs) None e = absurd (true≢false (sym (ap is_eq e)))
  equal_each (More x xs) (More y ys) e = ap₂ More (equal x y (first-tied _ _ e)) (equal_each xs ys (second-tied (compare x y) _ e))

  pub equal_pairs : (ps qs : Pairs) → compare_keys ps qs ≡ Equal → compare_values ps qs ≡ Equal → ps ≡ qs
  equal_pairs Empty Empty e d = refl
  equal_pairs Empty (Pair l w qs) e d = absurd (true≢false (sym (ap is_eq e)))
  equal_pairs (Pair k v ps) Empty e d = absurd (true≢false (sym (ap is_eq e)))
  equal_pairs (Pair k v ps) (Pair l w qs) e d =
      let same_key = equal k l (first-tied _ _ e) in
      let same_value = equal v w (first-tied _ _ d) in
      let same_rest = equal_pairs ps qs (second-tied (compare k l) _ e) (second-tied (compare v w) _ d) in
      cc

pub compare-itself : (x : Term) → compare x x ≡ Equal
compare-itself x = tied_itself compare-total x

pub order-exact : (x y : Term) → compare x y ≡ Equal ↔ x ≡ y
order-exact x y = (equal x y, λ e. subst (λ z. compare x z ≡ Equal) e (compare-itself x))

pub laws : IsOrderOfTerms
laws = record { total = compare-total; exact = order-exact }
