-- What is added to a heap changes no earlier term.
use Rattle.std.proofs.Common.{◌≡◌, ℕ, ◌+◌, nat_eq, ◌&&◌, if◌then◌else◌, drop, List, [], ◌∷◌, ◌++◌, length, map, take, slice_get, Option, Some, option_map, option_and_then, unwrap_or, refl, sym, ap, ap₂, subst, ◌∙◌, zero, suc, arith}
use Rattle.std.specs.Prelude as std
use Rattle.std.proofs.lemmas.Option.{none-some}
use Rattle.std.proofs.lemmas.Grind.{common_steps}
use Rattle.std.proofs.lemmas.List.{append-nil, append_assoc, length-append}
use Rattle.std.proofs.Math.Nat.{add-zero}
use Rattle.std.proofs.Math.Seq.{take-append_seam}
use Rattle.ej_term.specs.Term.{Term, Atom, Fun, Tuple, Cons, terms}
use Rattle.ej_term.specs.AsmValue.{every}
use Rattle.ej_term.proofs.Options.{mapped, chained, first-every}
use Rattle.term_heap.specs.Cells.{Parts, run, map_place, number_of, term_for, terms_of, row_of, entries_from, entry_terms, from_entries, rising, Extends, ExtendsParts, both, all_three, map_of, meaning, meanings}
use Rattle.term_heap.specs.declared.cell.TermId.{TermId}
use Rattle.term_heap.specs.declared.cell.Cell.{Cell}
use Rattle.term_heap.specs.declared.cell.Cell.TheVariants as c

pub slice-more : {X : Type 0} (xs ys : List X) (i : ℕ) (x : X) → slice_get xs i ≡ Some x → slice_get (xs ++ ys) i ≡ Some x
slice-more [] ys i x e = absurd (none-some x e)
slice-more (a ∷ xs) ys zero x e = e
slice-more (a ∷ xs) ys (suc i) x e = slice-more xs ys i x e

pub run-more : {X : Type 0} (xs ys : List X) (first count : ℕ) (r : List X) → run xs first count ≡ Some r → run (xs ++ ys) first count ≡ Some r
run-more xs ys first count r e = grind (arith, common_steps, e)

pub both-parts : {X Y Z : Type 0} (f : X → Y → Z) (o : Option X) (p : Option Y) (z : Z) → both f o p ≡ Some z → (x : X) × (y : Y) × (o ≡ Some x) × (p ≡ Some y) × (f x y ≡ z)
both-parts f std.None p z e = absurd (none-some z e)
both-parts f (Some x) std.None z e = absurd (none-some z e)
both-parts f (Some x) (Some y) z e = (x, y, refl, refl, ap (λ o. unwrap_or o z) e)

pub both-is : {X Y Z : Type 0} (f : X → Y → Z) (o : Option X) (p : Option Y) (x : X) (y : Y) → o ≡ Some x → p ≡ Some y → both f o p ≡ Some (f x y)
both-is f o p x y d e = ap (λ o. both f o p) d ∙ ap (both f (Some x)) e

pub three-parts : {X Y Z W : Type 0} (f : X → Y → Z → W) (o : Option X) (p : Option Y) (q : Option Z) (w : W) → all_three f o p q ≡ Some w
    → (x : X) × (y : Y) × (z : Z) × (o ≡ Some x) × (p ≡ Some y) × (q ≡ Some z) × (f x y z ≡ w)
three-parts f std.None p q w e = absurd (none-some w e)
three-parts f (Some x) std.None q w e = absurd (none-some w e)
three-parts f (Some x) (Some y) std.None w e = absurd (none-some w e)
three-parts f (Some x) (Some y) (Some z) w e = (x, y, z, refl, refl, refl, ap (λ o. unwrap_or o w) e)

pub three-is : {X Y Z W : Type 0} (f : X → Y → Z → W) (o : Option X) (p : Option Y) (q : Option Z) (x : X) (y : Y) (z : Z) → o ≡ Some x → p ≡ Some y → q ≡ Some z → all_three f o p q ≡ Some (f x y z)
three-is f o p q x y z d e g = ap (λ o. all_three f o p q) d ∙ ap (λ p. all_three f (Some x) p q) e ∙ ap (all_three f (Some x) (Some y)) g

pub terms_of-more : (xs ys : List Term) (ids : List TermId) (ts : List Term) → terms_of xs ids ≡ Some ts → terms_of (xs ++ ys) ids ≡ Some ts
terms_of-more xs ys [] ts e = e
terms_of-more xs ys (id ∷ ids) ts e =
    let f = first-every (slice_get xs id.0) _ ts e in
    ap (λ o. every (o ∷ map (term_for (xs ++ ys)) ids)) (slice-more xs ys id.0 f.0 f.2)
    ∙ ap (option_map (◌∷◌ f.0)) (terms_of-more xs ys ids f.1 f.3)
    ∙ ap Some f.4

entry-more : (xs ys : List Term) (e : TermId × TermId) (t : Term × Term) → entry_terms xs e ≡ Some t → entry_terms (xs ++ ys) e ≡ Some t
entry-more xs ys e t is =
    let m = both-parts (λ k v. (k, v)) (slice_get xs e.0.0) (slice_get xs e.1.0) t is in
    both-is (λ k v. (k, v)) (slice_get (xs ++ ys) e.0.0) (slice_get (xs ++ ys) e.1.0) m.0 m.1 (slice-more xs ys e.0.0 m.0 m.2) (slice-more xs ys e.1.0 m.1 m.3) ∙ ap Some m.4

entries-more : (xs ys : List Term) (es : List (TermId × TermId)) (ts : List (Term × Term)) → every (map (entry_terms xs) es) ≡ Some ts → every (map (entry_terms (xs ++ ys)) es) ≡ Some ts
entries-more xs ys [] ts e = e
entries-more xs ys (x ∷ es) ts e =
    let f = first-every (entry_terms xs x) _ ts e in
    ap (λ o. every (o ∷ map (entry_terms (xs ++ ys)) es)) (entry-more xs ys x f.0 f.2)
    ∙ ap (option_map (◌∷◌ f.0)) (entries-more xs ys es f.1 f.3)
    ∙ ap Some f.4

pub map_of-more : (xs ys : List Term) (es : List (TermId × TermId)) (t : Term) → map_of xs es ≡ Some t → map_of (xs ++ ys) es ≡ Some t
map_of-more xs ys es t e =
    let f = chained (λ ts. rising (from_entries ts)) (every (map (entry_terms xs) es)) t e in
    ap (option_and_then (λ ts. rising (from_entries ts))) (entries-more xs ys es f.0 f.1) ∙ f.2

-- more parts
module _ (ps qs : Parts) (more : ExtendsParts ps qs) where
  run-later : (first count : ℕ) (r : List TermId) → run ps.ids first count ≡ Some r → run qs.ids first count ≡ Some r
  run-later first count r e = ap (λ (zs : List TermId). run zs first count) more.ids ∙ run-more ps.ids (drop (length ps.ids) qs.ids) first count r e

  map-later : (f : List (TermId × TermId) → Option (List (TermId × TermId))) (n : ℕ) (r : List (TermId × TermId)) → option_and_then f (slice_get ps.maps n) ≡ Some r → option_and_then f (slice_get qs.maps n) ≡ Some r
  map-later f n r e =
      let c = chained f (slice_get ps.maps n) r e in
      ap (option_and_then f) (ap (λ (zs : List (List (TermId × TermId))). slice_get zs n) more.maps ∙ slice-more ps.maps (drop (length ps.maps) qs.maps) n c.0 c.1) ∙ c.2

  pub entries_from-more : (first count : ℕ) (es : List (TermId × TermId)) → entries_from ps first count ≡ Some es → entries_from qs first count ≡ Some es
  entries_from-more first count es e = map-later (λ zs. if nat_eq first (map_place (number_of first)) && nat_eq count (length zs) then Some zs else std.None) (number_of first) es e

  pub row_of-more : (xs ys : List Term) (first count : ℕ) (ts : List Term) → row_of ps xs first count ≡ Some ts → row_of qs (xs ++ ys) first count ≡ Some ts
  row_of-more xs ys first count ts e =
      let f = chained (terms_of xs) (run ps.ids first count) ts e in
      ap (option_and_then (terms_of (xs ++ ys))) (run-later first count f.0 f.1) ∙ terms_of-more xs ys f.0 ts f.2

-- no more parts
all-there : {X : Type 0} (xs : List X) → Extends xs xs
all-there [] = refl
all-there (x ∷ xs) = ap (λ ys. x ∷ ys) (all-there xs)

pub same-parts : (ps : Parts) → ExtendsParts ps ps
same-parts ps = record { ids = all-there ps.ids; maps = all-there ps.maps }

pub option_map-is : {A B : Type 0} (f : A → B) (o : Option A) (a : A) → o ≡ Some a → option_map f o ≡ Some (f a)
option_map-is f o a e = ap (option_map f) e

pub meaning-more : (us bs : List (List ℕ)) (ps qs : Parts) (more : ExtendsParts ps qs) (xs ys : List Term) (cell : Cell) (t : Term) → meaning us ps xs cell ≡ Some t → meaning (us ++ bs) qs (xs ++ ys) cell ≡ Some t
meaning-more us bs ps qs more xs ys (c.Int n) t e = e
meaning-more us bs ps qs more xs ys (c.Atom text) t e =
    let m = mapped Atom (slice_get us text) t e in
    option_map-is Atom _ m.0 (slice-more us bs text m.0 m.1) ∙ ap Some m.2
meaning-more us bs ps qs more xs ys c.Nil t e = e
meaning-more us bs ps qs more xs ys (c.Cons head tail) t e =
    let m = both-parts Cons (slice_get xs head.0) (slice_get xs tail.0) t e in
    both-is Cons _ _ m.0 m.1 (slice-more xs ys head.0 m.0 m.2) (slice-more xs ys tail.0 m.1 m.3) ∙ ap Some m.4
meaning-more us bs ps qs more xs ys (c.Tuple first count) t e =
    let m = mapped (λ ts. Tuple (terms ts)) (row_of ps xs first count) t e in
    option_map-is (λ ts. Tuple (terms ts)) _ m.0 (row_of-more ps qs more xs ys first count m.0 m.1) ∙ ap Some m.2
meaning-more us bs ps qs more xs ys (c.Map first count) t e =
    let m = chained (map_of xs) (entries_from ps first count) t e in
    ap (option_and_then (map_of (xs ++ ys))) (entries_from-more ps qs more first count m.0 m.1) ∙ map_of-more xs ys m.0 t m.2
meaning-more us bs ps qs more xs ys (c.Fun local owner name arity first count) t e =
    let m = three-parts (λ m f ts. Fun local m f arity (terms ts)) (slice_get us owner) (slice_get us name) (row_of ps xs first count) t e in
    three-is (λ m f ts. Fun local m f arity (terms ts)) _ _ _ m.0 m.1 m.2 (slice-more us bs owner m.0 m.3) (slice-more us bs name m.1 m.4) (row_of-more ps qs more xs ys first count m.2 m.5)
    ∙ ap Some m.6
meaning-more us bs ps qs more xs ys (c.Pid node number) t e = e
meaning-more us bs ps qs more xs ys (c.Reference node number) t e = e

pub length-every : {A : Type 0} (os : List (Option A)) (xs : List A) → every os ≡ Some xs → length xs ≡ length os
length-every [] xs e = ap (λ o. length (unwrap_or o [])) (sym e)
length-every (o ∷ os) xs e = let f = first-every o os xs e in ap length (sym f.4) ∙ ap suc (length-every os f.1 f.3)

-- a cell behind the others
pub meanings-push : (us : List (List ℕ)) (ps : Parts) (xs : List Term) (cells : List Cell) (ts : List Term) (cell : Cell) (t : Term)
    → meanings us ps xs cells ≡ Some ts → meaning us ps ts cell ≡ Some t → meanings us ps xs (cells ++ cell ∷ []) ≡ Some (ts ++ t ∷ [])
meanings-push us ps xs [] ts cell t e m =
    let same = ap (λ o. unwrap_or o ts) e in
    ap (option_and_then (λ y. Some (xs ++ y ∷ []))) (ap (λ (zs : List Term). meaning us ps zs cell) same ∙ m) ∙ ap (λ (zs : List Term). Some (zs ++ t ∷ [])) same
meanings-push us ps xs (other ∷ cells) ts cell t e m =
    let f = chained (λ y. meanings us ps (xs ++ y ∷ []) cells) (meaning us ps xs other) ts e in
    ap (option_and_then (λ y. meanings us ps (xs ++ y ∷ []) (cells ++ cell ∷ []))) f.1 ∙ meanings-push us ps (xs ++ f.0 ∷ []) cells ts cell t f.2 m

-- texts and parts behind the others
pub meanings-more : (us vs : List (List ℕ)) (ps qs : Parts) (more : ExtendsParts ps qs) (xs : List Term) (cells : List Cell) (ts : List Term)
    → meanings us ps xs cells ≡ Some ts → meanings (us ++ vs) qs xs cells ≡ Some ts
meanings-more us vs ps qs more xs [] ts e = e
meanings-more us vs ps qs more xs (cell ∷ cells) ts e =
    let f = chained (λ y. meanings us ps (xs ++ y ∷ []) cells) (meaning us ps xs cell) ts e in
    ap (option_and_then (λ y. meanings (us ++ vs) qs (xs ++ y ∷ []) cells)) (subst (λ (zs : List Term). meaning (us ++ vs) qs zs cell ≡ Some f.0) (append-nil xs) (meaning-more us vs ps qs more xs [] cell f.0 f.1))
    ∙ meanings-more us vs ps qs more (xs ++ f.0 ∷ []) cells ts f.2

-- the first terms stay
pub meanings-from : (us : List (List ℕ)) (ps : Parts) (xs : List Term) (cells : List Cell) (ts : List Term)
    → meanings us ps xs cells ≡ Some ts → (ys : List Term) × (ts ≡ xs ++ ys) × (length ys ≡ length cells)
meanings-from us ps xs [] ts e = ([], ap (λ o. unwrap_or o ts) (sym e) ∙ sym (append-nil xs), refl)
meanings-from us ps xs (cell ∷ cells) ts e =
    let f = chained (λ y. meanings us ps (xs ++ y ∷ []) cells) (meaning us ps xs cell) ts e in
    let r = meanings-from us ps (xs ++ f.0 ∷ []) cells ts f.2 in
    (f.0 ∷ r.0, r.1 ∙ append_assoc xs (f.0 ∷ []) r.0, ap suc r.2)

pub nth-behind : {X : Type 0} (xs : List X) (x : X) (ys : List X) → slice_get (xs ++ x ∷ ys) (length xs) ≡ Some x
nth-behind [] x ys = refl
nth-behind (a ∷ xs) x ys = nth-behind xs x ys

-- the term at a cell's place is the cell's
pub meanings-at : (us : List (List ℕ)) (ps : Parts) (xs : List Term) (cells : List Cell) (ts : List Term) (place : ℕ) (cell : Cell)
    → meanings us ps xs cells ≡ Some ts → slice_get cells place ≡ Some cell → (t : Term) × (meaning us ps ts cell ≡ Some t) × (slice_get ts (length xs + place) ≡ Some t)
meanings-at us ps xs [] ts place cell e g = absurd (none-some cell g)
meanings-at us ps xs (first ∷ cells) ts zero cell e g =
    let f = chained (λ y. meanings us ps (xs ++ y ∷ []) cells) (meaning us ps xs first) ts e in
    let r = meanings-from us ps (xs ++ f.0 ∷ []) cells ts f.2 in
    let is = ap (λ o. unwrap_or o cell) g in
    let whole : ts ≡ xs ++ f.0 ∷ r.0 = r.1 ∙ append_assoc xs (f.0 ∷ []) r.0 in
    let kept = meaning-more us [] ps ps (same-parts ps) xs (f.0 ∷ r.0) first f.0 f.1 in (
      f.0,
      subst (λ (zs : List Term). meaning us ps zs cell ≡ Some f.0) (sym whole)
          (subst (λ (d : Cell). meaning us ps (xs ++ f.0 ∷ r.0) d ≡ Some f.0) is
          (subst (λ (vs : List (List ℕ)). meaning vs ps (xs ++ f.0 ∷ r.0) first ≡ Some f.0) (append-nil us) kept)),
      ap₂ slice_get whole (add-zero (length xs)) ∙ nth-behind xs f.0 r.0,
    )
meanings-at us ps xs (first ∷ cells) ts (suc place) cell e g =
    let f = chained (λ y. meanings us ps (xs ++ y ∷ []) cells) (meaning us ps xs first) ts e in
    let r = meanings-at us ps (xs ++ f.0 ∷ []) cells ts place cell f.2 g in
    let n : length (xs ++ f.0 ∷ []) + place ≡ length xs + suc place = omega (arith, length-append xs (f.0 ∷ [])) in
    (r.0, r.1, ap (slice_get ts) (sym n) ∙ r.2)

-- a cell has its term by the terms in front of its place alone
pub meanings-before : (us : List (List ℕ)) (ps : Parts) (xs : List Term) (cells : List Cell) (ts : List Term) (place : ℕ) (cell : Cell)
    → meanings us ps xs cells ≡ Some ts → slice_get cells place ≡ Some cell → (t : Term) × (meaning us ps (take (length xs + place) ts) cell ≡ Some t)
meanings-before us ps xs [] ts place cell e g = absurd (none-some cell g)
meanings-before us ps xs (first ∷ cells) ts zero cell e g =
    let f = chained (λ y. meanings us ps (xs ++ y ∷ []) cells) (meaning us ps xs first) ts e in
    let r = meanings-from us ps (xs ++ f.0 ∷ []) cells ts f.2 in
    let is = ap (λ o. unwrap_or o cell) g in
    let whole : ts ≡ xs ++ f.0 ∷ r.0 = r.1 ∙ append_assoc xs (f.0 ∷ []) r.0 in
    let front : take (length xs + zero) ts ≡ xs = ap₂ take (add-zero (length xs)) whole ∙ take-append_seam xs (f.0 ∷ r.0) in (
      f.0,
      subst (λ (zs : List Term). meaning us ps zs cell ≡ Some f.0) (sym front) (subst (λ (d : Cell). meaning us ps xs d ≡ Some f.0) is f.1),
    )
meanings-before us ps xs (first ∷ cells) ts (suc place) cell e g =
    let f = chained (λ y. meanings us ps (xs ++ y ∷ []) cells) (meaning us ps xs first) ts e in
    let r = meanings-before us ps (xs ++ f.0 ∷ []) cells ts place cell f.2 g in
    let n : length (xs ++ f.0 ∷ []) + place ≡ length xs + suc place = omega (arith, length-append xs (f.0 ∷ [])) in
    (r.0, ap (λ k. meaning us ps (take k ts) cell) (sym n) ∙ r.1)
