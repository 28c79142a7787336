-- What a cell comes to is the print of its term.
use Rattle.std.proofs.Common.{◌≡◌, ℕ, ◌+◌, ◌*◌, ◌<◌, true, false, nat_lt, List, [], ◌∷◌, ◌++◌, map, slice_get, Some, unwrap_or, codes, refl, sym, ap, ap₂, subst, ◌∙◌, arith, true≢false}
use Rattle.std.specs.Prelude.{IsSome}
use Rattle.std.specs.List.{All}
use Rattle.std.specs.Fmt.{signed_decimal}
use Rattle.std.proofs.lemmas.List.{append_assoc}
use Rattle.std.proofs.lemmas.List.Elements.{All-nil, All-cons}
use Rattle.ej_term.specs.Term.{Term, Int, Atom, Reference, Fun, Pid, Tuple, Map, Nil, Cons, terms}
use Rattle.ej_term.specs.TermPrint.{print, print_atom, print_numbers, print_function, print_parts, print_pairs, print_tail}
use Rattle.ej_term.specs.Order as order
use Rattle.ej_term.proofs.Options.{unsome, mapped}
use Rattle.term_heap.specs.Cells.{Parts, parts_of, row_of, meaning}
use Rattle.term_heap.specs.Entries.{pairs}
use Rattle.term_heap.proofs.Places.{Few, row-parts}
use Rattle.term_heap.specs.Works.{text, term_at, run_at, weight, weight_each, weight_pairs}
use Rattle.term_heap.specs.declared.cell.TermId.{TermId}
use Rattle.term_heap.specs.declared.cell.Cell.{Cell}
use Rattle.term_heap.specs.declared.cell.Cell.TheVariants as c
use Rattle.term_heap.proofs.Meanings.{both-parts, three-parts}
use Rattle.term_heap.proofs.Adding.{is-known}
use Rattle.term_heap.proofs.Opening.{weight-positive, kind-of, map-known}
use Rattle.term_text.specs.declared.work.Work.{Work}
use Rattle.term_text.specs.declared.work.Work.TheVariants as w
use Rattle.term_text.specs.Printing.{local_front, opened, followed, work_text, text_onto, IsWork, work_weight, weigh}

-- a text, and the work behind it, come to this text, with less than this weight
pub record OpensTo (ps : Parts) (ts : List Term) (r : List ℕ × List Work) (d : List ℕ) (k : ℕ) : Type 0 where
  pub text : (behind : List ℕ) → d ++ behind ≡ r.0 ++ text_onto behind (map (work_text ps ts) r.1)
  pub fewer : weigh ps ts r.1 < k
  pub works : All (IsWork ps ts) r.1

-- they come to the print of this term
abbrev pub Opens : Parts → List Term → List ℕ × List Work → Term → Type 0
Opens ps ts r s = OpensTo ps ts r (print s) (4 * weight s)

-- they come to what follows it in a list's tail
abbrev pub Follows : Parts → List Term → List ℕ × List Work → Term → Type 0
Follows ps ts r s = OpensTo ps ts r (print_tail s) (4 * weight s + 1)

three : (a b c d : List ℕ) → (a ++ b ++ c) ++ d ≡ a ++ (b ++ (c ++ d))
three a b c d = simp append_assoc

four : (a b c d e : List ℕ) → (a ++ b ++ c ++ d) ++ e ≡ a ++ (b ++ (c ++ (d ++ e)))
four a b c d e = simp append_assoc

alone : (ps : Parts) (ts : List Term) (xs : List ℕ) (s : Term) → print s ≡ xs → Opens ps ts (xs, []) s
alone ps ts xs s e = record {
  text = λ behind. ap (λ zs. zs ++ behind) e;
  fewer = (let positive = weight-positive s in omega (arith, positive));
  works = All-nil (IsWork ps ts);
}

opens-is : (ps : Parts) (ts : List Term) (r : List ℕ × List Work) (s t : Term) → s ≡ t → Opens ps ts r s → Opens ps ts r t
opens-is ps ts r s t e h = subst (λ (x : Term). Opens ps ts r x) e h

-- a piece of work between a front and an end
enclosed : (ps : Parts) (ts : List Term) (front : List ℕ) (closing inside : Work) (s : Term) → print s ≡ front ++ work_text ps ts inside ++ work_text ps ts closing
    → work_weight ps ts closing ≡ 1 → 1 + work_weight ps ts inside < 4 * weight s → IsWork ps ts closing → IsWork ps ts inside → Opens ps ts (front, closing ∷ inside ∷ []) s
enclosed ps ts front closing inside s e one less c i = record {
  text = λ behind. ap (λ zs. zs ++ behind) e ∙ three front (work_text ps ts inside) (work_text ps ts closing) behind;
  fewer = omega (arith, one, less);
  works = All-cons (IsWork ps ts) closing (inside ∷ []) c (All-cons (IsWork ps ts) inside [] i (All-nil (IsWork ps ts)));
}

-- ---- cells

run-is : (ps : Parts) (ts : List Term) (first n : ℕ) (xs : List Term) → parts_of ps ts first n ≡ Some xs → run_at ps ts first n ≡ xs
run-is ps ts first n xs e = ap (λ z. unwrap_or z []) e

at-is : (ts : List Term) (id : TermId) (t : Term) → slice_get ts id.0 ≡ Some t → term_at ts id ≡ t
at-is ts id t e = ap (λ z. unwrap_or z Nil) e

text-is : (us : List (List ℕ)) (place : ℕ) (name : List ℕ) → slice_get us place ≡ Some name → name ≡ text us place
text-is us place name e = sym (ap (λ z. unwrap_or z []) e)

tuple-opens : (ps : Parts) (ts : List Term) (first n : ℕ) (xs : List Term) → parts_of ps ts first n ≡ Some xs → Opens ps ts (codes "{", w.Brace ∷ w.Parts first n ∷ []) (Tuple (terms xs))
tuple-opens ps ts first n xs e =
    let r = run-is ps ts first n xs e in
    let k : weight_each (terms (run_at ps ts first n)) ≡ weight_each (terms xs) = ap (λ (l : List Term). weight_each (terms l)) r in
    enclosed ps ts (codes "{") w.Brace (w.Parts first n) (Tuple (terms xs)) (ap (λ (l : List Term). codes "{" ++ print_parts (terms l) ++ codes "}") (sym r))
    refl (omega (arith, k)) tt (is-known (parts_of ps ts first n) xs e)

map-opens : (ps : Parts) (ts : List Term) (first n : ℕ) (keys values : List Term) → parts_of ps ts first n ≡ Some keys → parts_of ps ts (first + n) n ≡ Some values
    → Opens ps ts (codes "#{", w.Brace ∷ w.Entries first (first + n) n ∷ []) (Map (pairs keys values))
map-opens ps ts first n keys values front back =
    let f = run-is ps ts first n keys front in
    let b = run-is ps ts (first + n) n values back in
    let k : weight_pairs (pairs (run_at ps ts first n) (run_at ps ts (first + n) n)) ≡ weight_pairs (pairs keys values) = ap₂ (λ (l m : List Term). weight_pairs (pairs l m)) f b in
    enclosed ps ts (codes "#{") w.Brace (w.Entries first (first + n) n) (Map (pairs keys values)) (ap₂ (λ (l m : List Term). codes "#{" ++ print_pairs (pairs l m) ++ codes "}") (sym f) (sym b))
    refl (omega (arith, k)) tt (is-known (parts_of ps ts first n) keys front, is-known (parts_of ps ts (first + n) n) values back)

local-opens : (us : List (List ℕ)) (ps : Parts) (ts : List Term) (m f arity first n : ℕ) (owner name : List ℕ) (xs : List Term)
    → slice_get us m ≡ Some owner → slice_get us f ≡ Some name → parts_of ps ts first n ≡ Some xs
    → Opens ps ts (local_front (text us m) (text us f) arity, w.Angle ∷ w.Parts first n ∷ []) (Fun true owner name arity (terms xs))
local-opens us ps ts m f arity first n owner name xs d g e =
    let r = run-is ps ts first n xs e in
    let k : weight_each (terms (run_at ps ts first n)) ≡ weight_each (terms xs) = ap (λ (l : List Term). weight_each (terms l)) r in
    enclosed ps ts (local_front (text us m) (text us f) arity) w.Angle (w.Parts first n) (Fun true owner name arity (terms xs))
    (ap (λ (l : List Term). local_front owner name arity ++ print_parts (terms l) ++ codes "]>") (sym r)
    ∙ ap₂ (λ (x y : List ℕ). local_front x y arity ++ print_parts (terms (run_at ps ts first n)) ++ codes "]>") (text-is us m owner d) (text-is us f name g))
    refl (omega (arith, k)) tt (is-known (parts_of ps ts first n) xs e)

cons-opens : (ps : Parts) (ts : List Term) (h t : TermId) (x y : Term) → slice_get ts h.0 ≡ Some x → slice_get ts t.0 ≡ Some y → Opens ps ts (codes "[", w.Bracket ∷ w.Tail t ∷ w.Term h ∷ []) (Cons x y)
cons-opens ps ts h t x y d e =
    let hx = at-is ts h x d in
    let ty = at-is ts t y e in
    let kx : weight (term_at ts h) ≡ weight x = ap weight hx in
    let ky : weight (term_at ts t) ≡ weight y = ap weight ty in
    record {
      text = λ behind. four (codes "[") (print x) (print_tail y) (codes "]") behind
          ∙ ap₂ (λ (u v : Term). codes "[" ++ (print u ++ (print_tail v ++ (codes "]" ++ behind)))) (sym hx) (sym ty);
      fewer = omega (arith, kx, ky);
      works = All-cons (IsWork ps ts) w.Bracket (w.Tail t ∷ w.Term h ∷ []) tt
          (All-cons (IsWork ps ts) (w.Tail t) (w.Term h ∷ []) (is-known (slice_get ts t.0) y e) (All-cons (IsWork ps ts) (w.Term h) [] (is-known (slice_get ts h.0) x d) (All-nil (IsWork ps ts))));
    }

pub opened-right : (us : List (List ℕ)) (ps : Parts) (few : Few ps) (ts : List Term) (a : Cell) (s : Term) → meaning us ps ts a ≡ Some s → Opens ps ts (opened us a) s
opened-right us ps few ts (c.Int n) s e = opens-is ps ts _ (Int n) s (unsome _ _ e) (alone ps ts (signed_decimal n) (Int n) refl)
opened-right us ps few ts (c.Atom a) s e =
    let p = mapped Atom (slice_get us a) s e in
    opens-is ps ts _ (Atom p.0) s p.2 (alone ps ts (print_atom (text us a)) (Atom p.0) (ap print_atom (text-is us a p.0 p.1)))
opened-right us ps few ts c.Nil s e = opens-is ps ts _ Nil s (unsome _ _ e) (alone ps ts (codes "[]") Nil refl)
opened-right us ps few ts (c.Cons h t) s e =
    let p = both-parts Cons (slice_get ts h.0) (slice_get ts t.0) s e in
    opens-is ps ts _ (Cons p.0 p.1) s p.4 (cons-opens ps ts h t p.0 p.1 p.2 p.3)
opened-right us ps few ts (c.Tuple first n) s e =
    let p = mapped (λ ts. Tuple (terms ts)) (row_of ps ts first n) s e in
    opens-is ps ts _ (Tuple (terms p.0)) s p.2 (tuple-opens ps ts first n p.0 (row-parts ps few.ids ts first n p.0 p.1))
opened-right us ps few ts (c.Map first n) s e =
    let p = map-known ps few ts first n s e in
    opens-is ps ts _ (Map (pairs p.keys p.values)) s p.is (map-opens ps ts first n p.keys p.values p.keys_at p.values_at)
opened-right us ps few ts (c.Fun true m f arity first n) s e =
    let p = three-parts (λ m f ts. Fun true m f arity (terms ts)) (slice_get us m) (slice_get us f) (row_of ps ts first n) s e in
    opens-is ps ts _ (Fun true p.0 p.1 arity (terms p.2)) s p.6 (local-opens us ps ts m f arity first n p.0 p.1 p.2 p.3 p.4 (row-parts ps few.ids ts first n p.2 p.5))
opened-right us ps few ts (c.Fun false m f arity first n) s e =
    let p = three-parts (λ m f ts. Fun false m f arity (terms ts)) (slice_get us m) (slice_get us f) (row_of ps ts first n) s e in
    opens-is ps ts _ (Fun false p.0 p.1 arity (terms p.2)) s p.6
    (alone ps ts (print_function (text us m) (text us f) arity) (Fun false p.0 p.1 arity (terms p.2)) (ap₂ (λ (x y : List ℕ). print_function x y arity) (text-is us m p.0 p.3) (text-is us f p.1 p.4)))
opened-right us ps few ts (c.Pid node number) s e = opens-is ps ts _ (Pid node number) s (unsome _ _ e) (alone ps ts (codes "#Pid" ++ print_numbers node number) (Pid node number) refl)
opened-right us ps few ts (c.Reference node number) s e = opens-is ps ts _ (Reference node number) s (unsome _ _ e) (alone ps ts (codes "#Ref" ++ print_numbers node number) (Reference node number) refl)

-- ---- tails

-- an improper tail stands behind a bar
barred : (s : Term) → nat_lt (order.kind s) 7 ≡ true → print_tail s ≡ codes "|" ++ print s
barred (Int n) h = refl
barred (Atom name) h = refl
barred (Reference node number) h = refl
barred (Fun true owner name arity environment) h = refl
barred (Fun false owner name arity environment) h = refl
barred (Pid node number) h = refl
barred (Tuple parts) h = refl
barred (Map entries) h = refl
barred Nil h = absurd (true≢false (sym h))
barred (Cons head tail) h = absurd (true≢false (sym h))

follows-is : (ps : Parts) (ts : List Term) (r : List ℕ × List Work) (s t : Term) → s ≡ t → Follows ps ts r s → Follows ps ts r t
follows-is ps ts r s t e h = subst (λ (x : Term). Follows ps ts r x) e h

improper : (ps : Parts) (ts : List Term) (id : TermId) → IsSome (slice_get ts id.0) → nat_lt (order.kind (term_at ts id)) 7 ≡ true → Follows ps ts (codes "|", w.Term id ∷ []) (term_at ts id)
improper ps ts id is h = record {
  text = λ behind. ap (λ zs. zs ++ behind) (barred (term_at ts id) h);
  fewer = omega arith;
  works = All-cons (IsWork ps ts) (w.Term id) [] is (All-nil (IsWork ps ts));
}

cons-follows : (ps : Parts) (ts : List Term) (h t : TermId) (x y : Term) → slice_get ts h.0 ≡ Some x → slice_get ts t.0 ≡ Some y → Follows ps ts (codes ",", w.Tail t ∷ w.Term h ∷ []) (Cons x y)
cons-follows ps ts h t x y d e =
    let hx = at-is ts h x d in
    let ty = at-is ts t y e in
    let kx : weight (term_at ts h) ≡ weight x = ap weight hx in
    let ky : weight (term_at ts t) ≡ weight y = ap weight ty in
    record {
      text = λ behind. three (codes ",") (print x) (print_tail y) behind ∙ ap₂ (λ (u v : Term). codes "," ++ (print u ++ (print_tail v ++ behind))) (sym hx) (sym ty);
      fewer = omega (arith, kx, ky);
      works = All-cons (IsWork ps ts) (w.Tail t) (w.Term h ∷ []) (is-known (slice_get ts t.0) y e) (All-cons (IsWork ps ts) (w.Term h) [] (is-known (slice_get ts h.0) x d) (All-nil (IsWork ps ts)));
    }

pub followed-right : (us : List (List ℕ)) (ps : Parts) (few : Few ps) (ts : List Term) (id : TermId) (a : Cell) → IsSome (slice_get ts id.0) → meaning us ps ts a ≡ Some (term_at ts id)
    → Follows ps ts (followed id a) (term_at ts id)
followed-right us ps few ts id c.Nil is e =
    follows-is ps ts _ Nil (term_at ts id) (unsome _ _ e) (record { text = λ behind. refl; fewer = omega arith; works = All-nil (IsWork ps ts) })
followed-right us ps few ts id (c.Cons h t) is e =
    let p = both-parts Cons (slice_get ts h.0) (slice_get ts t.0) (term_at ts id) e in
    follows-is ps ts _ (Cons p.0 p.1) (term_at ts id) p.4 (cons-follows ps ts h t p.0 p.1 p.2 p.3)
followed-right us ps few ts id a is e = improper ps ts id is (ap (λ k. nat_lt k 7) (kind-of us ps ts a (term_at ts id) e))
