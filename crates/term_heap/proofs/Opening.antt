-- What two cells come to is the order of their terms.
use Rattle.std.proofs.Common.{◌≡◌, ℕ, ◌+◌, ◌*◌, ◌<◌, option_and_then, false, List, [], ◌∷◌, ◌++◌, length, map, slice_get, Some, unwrap_or, refl, sym, ap, ap₂, subst, ◌∙◌, arith, nat_cmp, true≢false}
use Rattle.std.specs.List.{All}
use Rattle.std.specs.Ordering.{ordering_then, int_cmp, is_eq}
use Rattle.std.specs.declared.cmp.Ordering.{Ordering}
use Rattle.std.specs.declared.cmp.Ordering.TheVariants.{Less, Equal, Greater}
use Rattle.std.proofs.lemmas.Option.{cond_some}
use Rattle.std.proofs.lemmas.List.{length-map}
use Rattle.std.proofs.lemmas.List.Elements.{All-nil, All-cons}
use Rattle.ej_term.specs.Term.{Term, Int, Atom, Reference, Fun, Pid, Tuple, Map, Nil, Cons, terms}
use Rattle.ej_term.specs.Order.{compare, compare_each, compare_names, compare_keys, compare_values, compare_functions, count, size}
use Rattle.ej_term.specs.Order as order
use Rattle.ej_term.specs.Maps.{rises}
use Rattle.ej_term.specs.AsmValue.{every}
use Rattle.ej_term.proofs.Options.{unsome, mapped, chained}
use Rattle.ej_term.proofs.OrderCode.{then-assoc}
use Rattle.ej_term.proofs.OrderLaws.{equal-naturals, second-tied}
use Rattle.term_heap.specs.Cells.{Parts, from_entries, parts_of, row_of, rising, entries_from, entry_terms, map_of, meaning}
use Rattle.term_heap.specs.Entries.{pairs}
use Rattle.term_heap.specs.Works.{kind, runs, text, opened, term_at, work_order, order_onto, IsWork, weight, weight_each, work_weight, weigh}
use Rattle.term_heap.specs.declared.cell.TermId.{TermId}
use Rattle.term_heap.specs.declared.cell.Cell.{Cell}
use Rattle.term_heap.specs.declared.cell.Cell.TheVariants as c
use Rattle.term_heap.specs.declared.work.Work.{Work}
use Rattle.term_heap.specs.declared.work.Work.TheVariants as w
use Rattle.term_heap.proofs.Meanings.{both-parts, three-parts, length-every}
use Rattle.term_heap.proofs.Places.{Few, row-parts, entries-known, map-all, map-keys, map-values}
use Rattle.term_heap.proofs.Adding.{is-known}
use Rattle.term_heap.proofs.Comparing.{weights-append, weight_each-terms, weight_pairs-pairs, size-terms, count-pairs, each-append, keys-each, values-each, parts-length, as-pairs}

-- an order, and the work behind it, come to this order, with less than this weight
pub record OpensTo (ps : Parts) (ts : List Term) (r : Ordering × List Work) (d : Ordering) (k : ℕ) : Type 0 where
  pub order : (l : Ordering) → ordering_then d l ≡ ordering_then r.0 (order_onto l (map (work_order ps ts) r.1))
  pub fewer : weigh ps ts r.1 < k
  pub works : All (IsWork ps ts) r.1

-- they come to the order of these terms
abbrev pub Opens : Parts → List Term → Ordering × List Work → Term → Term → Type 0
Opens ps ts r s t = OpensTo ps ts r (compare s t) (weight s)

pub weight-positive : (s : Term) → 0 < weight s
weight-positive (Fun local owner name arity environment) = omega arith
weight-positive (Tuple parts) = omega arith
weight-positive (Map entries) = omega arith
weight-positive (Cons head tail) = omega arith
weight-positive s = omega arith

pub alone : (ps : Parts) (ts : List Term) (o : Ordering) (s t : Term) → compare s t ≡ o → Opens ps ts (o, []) s t
alone ps ts o s t e = record { order = λ l. ap (λ q. ordering_then q l) e; fewer = weight-positive s; works = All-nil (IsWork ps ts) }

pub runs-order : (ps : Parts) (ts : List Term) (o d : Ordering) (x y n : ℕ) → (o ≡ Equal → d ≡ work_order ps ts (w.Runs x y n)) → (l : Ordering)
    → ordering_then (ordering_then o d) l ≡ ordering_then (runs o x y n).0 (order_onto l (map (work_order ps ts) (runs o x y n).1))
runs-order ps ts Less d x y n h l = refl
runs-order ps ts Equal d x y n h l = ap (λ q. ordering_then q l) (h refl)
runs-order ps ts Greater d x y n h l = refl

pub runs-fewer : (ps : Parts) (ts : List Term) (o : Ordering) (x y n k : ℕ) → work_weight ps ts (w.Runs x y n) < k → weigh ps ts (runs o x y n).1 < k
runs-fewer ps ts Less x y n k h = omega (arith, h)
runs-fewer ps ts Equal x y n k h = omega (arith, h)
runs-fewer ps ts Greater x y n k h = omega (arith, h)

pub runs-works : (ps : Parts) (ts : List Term) (o : Ordering) (x y n : ℕ) → (o ≡ Equal → IsWork ps ts (w.Runs x y n)) → All (IsWork ps ts) (runs o x y n).1
runs-works ps ts Less x y n h = All-nil (IsWork ps ts)
runs-works ps ts Equal x y n h = All-cons (IsWork ps ts) (w.Runs x y n) [] (h refl) (All-nil (IsWork ps ts))
runs-works ps ts Greater x y n h = All-nil (IsWork ps ts)

-- terms whose order is one, and behind it that of two runs
pub in-runs : (ps : Parts) (ts : List Term) (o d : Ordering) (x y n : ℕ) (xs ys : List Term) (s t : Term)
    → parts_of ps ts x n ≡ Some xs → (o ≡ Equal → parts_of ps ts y n ≡ Some ys) → compare s t ≡ ordering_then o d → (o ≡ Equal → d ≡ compare_each (terms xs) (terms ys)) → weight_each (terms xs) < weight s
    → Opens ps ts (runs o x y n) s t
in-runs ps ts o d x y n xs ys s t ex ey e same less = record {
  order = λ l. ap (λ q. ordering_then q l) e ∙ runs-order ps ts o d x y n (λ tie. same tie ∙ ap₂ (λ (p q : List Term). compare_each (terms p) (terms q)) (sym (ap (λ z. unwrap_or z []) ex)) (sym (ap (λ z. unwrap_or z []) (ey tie)))) l;
  fewer = runs-fewer ps ts o x y n (weight s) (subst (λ (p : List Term). weight_each (terms p) < weight s) (sym (ap (λ z. unwrap_or z []) ex)) less);
  works = runs-works ps ts o x y n (λ tie. (is-known (parts_of ps ts x n) xs ex, is-known (parts_of ps ts y n) ys (ey tie)));
}

-- kinds that differ decide
pub kinds-decide : (s t : Term) → is_eq (nat_cmp (order.kind s) (order.kind t)) ≡ false → compare s t ≡ nat_cmp (order.kind s) (order.kind t)
kinds-decide (Int m) (Int n) h = absurd (true≢false h)
kinds-decide (Atom a) (Atom b) h = absurd (true≢false h)
kinds-decide (Reference m k) (Reference n l) h = absurd (true≢false h)
kinds-decide (Fun l m f a xs) (Fun k n g b ys) h = absurd (true≢false h)
kinds-decide (Pid m k) (Pid n l) h = absurd (true≢false h)
kinds-decide (Tuple xs) (Tuple ys) h = absurd (true≢false h)
kinds-decide (Map ps) (Map qs) h = absurd (true≢false h)
kinds-decide (Cons x xs) (Cons y ys) h = absurd (true≢false h)
kinds-decide s t h = refl

-- the map of keys and values
pub record IsMapOf (ps : Parts) (ts : List Term) (first count : ℕ) (s : Term) : Type 0 where
  pub keys : List Term
  pub values : List Term
  pub is : Map (pairs keys values) ≡ s
  pub parts : parts_of ps ts first (2 * count) ≡ Some (keys ++ values)
  pub keys_at : parts_of ps ts first count ≡ Some keys
  pub values_at : parts_of ps ts (first + count) count ≡ Some values
  pub keys_long : length keys ≡ count
  pub values_long : length values ≡ count

pub map-known : (ps : Parts) (few : Few ps) (ts : List Term) (first count : ℕ) (s : Term) → option_and_then (map_of ts) (entries_from ps first count) ≡ Some s → IsMapOf ps ts first count s
map-known ps few ts first count s e =
    let f = chained (map_of ts) (entries_from ps first count) s e in
    let g = chained (λ us. rising (from_entries us)) (every (map (entry_terms ts) f.0)) s f.2 in
    let c = cond_some (rises (from_entries g.0)) (Map (from_entries g.0)) s g.2 in
    let long : length g.0 ≡ count = length-every (map (entry_terms ts) f.0) g.0 g.1 ∙ length-map f.0 (entry_terms ts) ∙ sym (entries-known ps first count f.0 f.1).2 in
    record {
      keys = map (λ u. u.0) g.0;
      values = map (λ u. u.1) g.0;
      is = ap Map (sym (as-pairs g.0)) ∙ c.1;
      parts = map-all ps few ts first count f.0 g.0 f.1 g.1;
      keys_at = map-keys ps few ts first count f.0 g.0 f.1 g.1;
      values_at = map-values ps few ts first count f.0 g.0 f.1 g.1;
      keys_long = length-map g.0 (λ u. u.0) ∙ long;
      values_long = length-map g.0 (λ u. u.1) ∙ long;
    }

-- the kind of the map of some entries
map-kind : (ts : List Term) (es : List (TermId × TermId)) (s : Term) → map_of ts es ≡ Some s → order.kind s ≡ 6
map-kind ts es s e =
    let g = chained (λ us. rising (from_entries us)) (every (map (entry_terms ts) es)) s e in
    ap order.kind (sym (cond_some (rises (from_entries g.0)) (Map (from_entries g.0)) s g.2).1)

pub kind-of : (us : List (List ℕ)) (ps : Parts) (ts : List Term) (a : Cell) (s : Term) → meaning us ps ts a ≡ Some s → order.kind s ≡ kind a
kind-of us ps ts (c.Int n) s e = ap order.kind (sym (unsome _ _ e))
kind-of us ps ts (c.Atom n) s e = let m = mapped Atom (slice_get us n) s e in ap order.kind (sym m.2)
kind-of us ps ts c.Nil s e = ap order.kind (sym (unsome _ _ e))
kind-of us ps ts (c.Cons h t) s e = let m = both-parts Cons (slice_get ts h.0) (slice_get ts t.0) s e in ap order.kind (sym m.4)
kind-of us ps ts (c.Tuple x n) s e = let m = mapped (λ ts. Tuple (terms ts)) (row_of ps ts x n) s e in ap order.kind (sym m.2)
kind-of us ps ts (c.Map x n) s e = let m = chained (map_of ts) (entries_from ps x n) s e in map-kind ts m.0 s m.2
kind-of us ps ts (c.Fun l m f a x n) s e = let p = three-parts (λ m f ts. Fun l m f a (terms ts)) (slice_get us m) (slice_get us f) (row_of ps ts x n) s e in ap order.kind (sym p.6)
kind-of us ps ts (c.Pid n k) s e = ap order.kind (sym (unsome _ _ e))
kind-of us ps ts (c.Reference n k) s e = ap order.kind (sym (unsome _ _ e))

pub by-kind : (ps : Parts) (ts : List Term) (s t : Term) (m n : ℕ) → order.kind s ≡ m → order.kind t ≡ n → is_eq (nat_cmp m n) ≡ false → Opens ps ts (nat_cmp m n, []) s t
by-kind ps ts s t m n d e h = alone ps ts (nat_cmp m n) s t (kinds-decide s t (ap₂ (λ i j. is_eq (nat_cmp i j)) d e ∙ h) ∙ ap₂ nat_cmp d e)

-- terms that are equal to others
pub opens-is : (ps : Parts) (ts : List Term) (r : Ordering × List Work) (s t s' t' : Term) → s ≡ s' → t ≡ t' → Opens ps ts r s t → Opens ps ts r s' t'
opens-is ps ts r s t s' t' d e h = subst (λ (y : Term). Opens ps ts r s' y) e (subst (λ (x : Term). Opens ps ts r x t) d h)

map-weight : (ks vs : List Term) → length ks ≡ length vs → weight_each (terms (ks ++ vs)) < weight (Map (pairs ks vs))
map-weight ks vs e = omega (arith, weights-append ks vs, weight_each-terms (ks ++ vs), weight_pairs-pairs ks vs e)

map-order : (ks vs ls ws : List Term) → length ks ≡ length vs → length ls ≡ length ws → length ks ≡ length ls
    → ordering_then (compare_keys (pairs ks vs) (pairs ls ws)) (compare_values (pairs ks vs) (pairs ls ws)) ≡ compare_each (terms (ks ++ vs)) (terms (ls ++ ws))
map-order ks vs ls ws e d same = ap₂ ordering_then (keys-each ks vs ls ws e d) (values-each ks vs ls ws e d) ∙ sym (each-append ks vs ls ws same)

pub opened-right : (us : List (List ℕ)) (ps : Parts) (few : Few ps) (ts : List Term) (a b : Cell) (s t : Term) → meaning us ps ts a ≡ Some s → meaning us ps ts b ≡ Some t → Opens ps ts (opened us a b) s t
opened-right us ps few ts (c.Int m) (c.Int n) s t ea eb = opens-is ps ts _ (Int m) (Int n) s t (unsome _ _ ea) (unsome _ _ eb) (alone ps ts (int_cmp m n) (Int m) (Int n) refl)
opened-right us ps few ts (c.Atom a) (c.Atom b) s t ea eb =
    let p = mapped Atom (slice_get us a) s ea in
    let q = mapped Atom (slice_get us b) t eb in
    opens-is ps ts _ (Atom p.0) (Atom q.0) s t p.2 q.2 (alone ps ts (compare_names (text us a) (text us b)) (Atom p.0) (Atom q.0)
    (ap₂ compare_names (sym (ap (λ z. unwrap_or z []) p.1)) (sym (ap (λ z. unwrap_or z []) q.1))))
opened-right us ps few ts (c.Reference m k) (c.Reference n l) s t ea eb = opens-is ps ts _ (Reference m k) (Reference n l) s t (unsome _ _ ea) (unsome _ _ eb) (alone ps ts (compare (Reference m k) (Reference n l)) (Reference m k) (Reference n l) refl)
opened-right us ps few ts (c.Pid m k) (c.Pid n l) s t ea eb = opens-is ps ts _ (Pid m k) (Pid n l) s t (unsome _ _ ea) (unsome _ _ eb) (alone ps ts (compare (Pid m k) (Pid n l)) (Pid m k) (Pid n l) refl)
opened-right us ps few ts c.Nil c.Nil s t ea eb = opens-is ps ts _ Nil Nil s t (unsome _ _ ea) (unsome _ _ eb) (alone ps ts Equal Nil Nil refl)
opened-right us ps few ts (c.Fun l m f a x n) (c.Fun k o g b y i) s t ea eb =
    let p = three-parts (λ m f ts. Fun l m f a (terms ts)) (slice_get us m) (slice_get us f) (row_of ps ts x n) s ea in
    let q = three-parts (λ m f ts. Fun k m f b (terms ts)) (slice_get us o) (slice_get us g) (row_of ps ts y i) t eb in
    let px = row-parts ps few.ids ts x n p.2 p.5 in
    let qy = row-parts ps few.ids ts y i q.2 q.5 in
    let functions = compare_functions l (text us m) (text us f) a k (text us o) (text us g) b in
    opens-is ps ts _ (Fun l p.0 p.1 a (terms p.2)) (Fun k q.0 q.1 b (terms q.2)) s t p.6 q.6
    (in-runs ps ts (ordering_then functions (nat_cmp n i)) (compare_each (terms p.2) (terms q.2)) x y n p.2 q.2 (Fun l p.0 p.1 a (terms p.2)) (Fun k q.0 q.1 b (terms q.2)) px
    (λ tie. subst (λ j. parts_of ps ts y j ≡ Some q.2) (sym (equal-naturals n i (second-tied functions (nat_cmp n i) tie))) qy)
    (ap₂ (λ u v. ordering_then (compare_functions l u v a k q.0 q.1 b) (ordering_then (nat_cmp (size (terms p.2)) (size (terms q.2))) (compare_each (terms p.2) (terms q.2)))) (sym (ap (λ z. unwrap_or z []) p.3)) (sym (ap (λ z. unwrap_or z []) p.4))
    ∙ ap₂ (λ u v. ordering_then (compare_functions l (text us m) (text us f) a k u v b) (ordering_then (nat_cmp (size (terms p.2)) (size (terms q.2))) (compare_each (terms p.2) (terms q.2)))) (sym (ap (λ z. unwrap_or z []) q.3)) (sym (ap (λ z. unwrap_or z []) q.4))
    ∙ ap₂ (λ u v. ordering_then functions (ordering_then (nat_cmp u v) (compare_each (terms p.2) (terms q.2)))) (size-terms p.2 ∙ parts-length ps ts x n p.2 px) (size-terms q.2 ∙ parts-length ps ts y i q.2 qy)
    ∙ sym (then-assoc functions (nat_cmp n i) (compare_each (terms p.2) (terms q.2))))
    (λ tie. refl) (omega arith))
opened-right us ps few ts (c.Tuple x n) (c.Tuple y m) s t ea eb =
    let p = mapped (λ ts. Tuple (terms ts)) (row_of ps ts x n) s ea in
    let q = mapped (λ ts. Tuple (terms ts)) (row_of ps ts y m) t eb in
    let px = row-parts ps few.ids ts x n p.0 p.1 in
    let qy = row-parts ps few.ids ts y m q.0 q.1 in
    opens-is ps ts _ (Tuple (terms p.0)) (Tuple (terms q.0)) s t p.2 q.2
    (in-runs ps ts (nat_cmp n m) (compare_each (terms p.0) (terms q.0)) x y n p.0 q.0 (Tuple (terms p.0)) (Tuple (terms q.0)) px
    (λ tie. subst (λ j. parts_of ps ts y j ≡ Some q.0) (sym (equal-naturals n m tie)) qy)
    (ap₂ (λ u v. ordering_then (nat_cmp u v) (compare_each (terms p.0) (terms q.0))) (size-terms p.0 ∙ parts-length ps ts x n p.0 px) (size-terms q.0 ∙ parts-length ps ts y m q.0 qy))
    (λ tie. refl) (omega arith))
opened-right us ps few ts (c.Map x n) (c.Map y m) s t ea eb =
    let p = map-known ps few ts x n s ea in
    let q = map-known ps few ts y m t eb in
    let lp = p.keys_long ∙ sym p.values_long in
    let lq = q.keys_long ∙ sym q.values_long in
    let keys = pairs p.keys p.values in
    let others = pairs q.keys q.values in
    let d = ordering_then (compare_keys keys others) (compare_values keys others) in
    opens-is ps ts _ (Map keys) (Map others) s t p.is q.is
    (in-runs ps ts (nat_cmp n m) d x y (2 * n) (p.keys ++ p.values) (q.keys ++ q.values) (Map keys) (Map others) p.parts
    (λ tie. subst (λ j. parts_of ps ts y (2 * j) ≡ Some (q.keys ++ q.values)) (sym (equal-naturals n m tie)) q.parts)
    (ap₂ (λ u v. ordering_then (nat_cmp u v) d) (count-pairs p.keys p.values lp ∙ p.keys_long) (count-pairs q.keys q.values lq ∙ q.keys_long))
    (λ tie. map-order p.keys p.values q.keys q.values lp lq (p.keys_long ∙ equal-naturals n m tie ∙ sym q.keys_long))
    (map-weight p.keys p.values lp))
opened-right us ps few ts (c.Cons h t) (c.Cons k u) s r ea eb =
    let p = both-parts Cons (slice_get ts h.0) (slice_get ts t.0) s ea in
    let q = both-parts Cons (slice_get ts k.0) (slice_get ts u.0) r eb in
    opens-is ps ts _ (Cons p.0 p.1) (Cons q.0 q.1) s r p.4 q.4 record {
      order = λ l. then-assoc (compare p.0 q.0) (compare p.1 q.1) l
          ∙ ap₂ (λ (x y : Term). ordering_then (compare x y) (ordering_then (compare p.1 q.1) l)) (sym (ap (λ z. unwrap_or z Nil) p.2)) (sym (ap (λ z. unwrap_or z Nil) q.2))
          ∙ ap₂ (λ (x y : Term). ordering_then (compare (term_at ts h) (term_at ts k)) (ordering_then (compare x y) l)) (sym (ap (λ z. unwrap_or z Nil) p.3)) (sym (ap (λ z. unwrap_or z Nil) q.3));
      fewer = (let wh : weight (term_at ts h) ≡ weight p.0 = ap (λ z. weight (unwrap_or z Nil)) p.2 in let wt : weight (term_at ts t) ≡ weight p.1 = ap (λ z. weight (unwrap_or z Nil)) p.3 in omega (arith, wh, wt));
      works = All-cons (IsWork ps ts) (w.Terms t u) (w.Terms h k ∷ []) (is-known (slice_get ts t.0) p.1 p.3, is-known (slice_get ts u.0) q.1 q.3)
          (All-cons (IsWork ps ts) (w.Terms h k) [] (is-known (slice_get ts h.0) p.0 p.2, is-known (slice_get ts k.0) q.0 q.2) (All-nil (IsWork ps ts)));
    }
opened-right us ps few ts a b s t ea eb = by-kind ps ts s t (kind a) (kind b) (kind-of us ps ts a s ea) (kind-of us ps ts b t eb) refl
