-- Steps of a comparison.
use Rattle.std.proofs.Common.{◌≡◌, ℕ, ◌+◌, ◌-◌, ◌<◌, List, [], ◌∷◌, ◌++◌, length, map, slice_get, Some, option_and_then, unwrap_or, refl, sym, ap, ap₂, subst, ◌∙◌, zero, suc, arith}
use Rattle.std.specs.Prelude.{Result, IfOk, Option, IfNone}
use Rattle.std.specs.Prelude as std
use Rattle.std.specs.Ordering.{nat_cmp}
use Rattle.std.specs.Option.{option_to_list}
use Rattle.std.specs.List.{All}
use Rattle.std.specs.Ordering.{ordering_then}
use Rattle.std.specs.declared.cmp.Ordering.{Ordering}
use Rattle.std.specs.declared.cmp.Ordering.TheVariants.{Less, Equal, Greater}
use Rattle.std.proofs.lemmas.List.{map-append}
use Rattle.std.proofs.lemmas.List.Elements.{All-nil, All-cons, All-append, All-take}
use Rattle.std.proofs.Math.Seq.{take-append_seam}
use Rattle.ej_term.specs.Term.{Term, Tuple, Nil, Terms, None, More, terms}
use Rattle.ej_term.specs.Order.{compare, compare_each, size}
use Rattle.ej_term.proofs.OrderLaws.{order-exact, second-tied}
use Rattle.ej_term.proofs.OrderCode.{then-assoc}
use Rattle.std.specs.declared.alloc.AllocError.{AllocError}
use Rattle.std.specs.Prelude.{Ok, Err}
use Rattle.term_heap.specs.Cells.{Parts, term_for, part_at, parts_of, meaning}
use Rattle.term_heap.proofs.Meanings.{both-parts}
use Rattle.term_heap.proofs.Places.{Few}
use Rattle.term_heap.specs.Works.{opened, term_at, run_at, work_order, order_onto, pending_order, IsWork, weight, weight_each, work_weight, weigh, Stepped}
use Rattle.term_heap.specs.declared.cell.TermId.{TermId}
use Rattle.term_heap.specs.declared.cell.Cell.{Cell}
use Rattle.term_heap.specs.declared.work.Work.{Work}
use Rattle.term_heap.specs.declared.work.Work.TheVariants as w
use Rattle.term_heap.proofs.Adding.{known, is-known}
use Rattle.term_heap.proofs.Opening.{OpensTo, opened-right, weight-positive}

pub order-append : (l : Ordering) (xs ys : List Ordering) → order_onto l (xs ++ ys) ≡ order_onto (order_onto l xs) ys
order-append l [] ys = refl
order-append l (x ∷ xs) ys = order-append (ordering_then x l) xs ys

pub weigh-append : (ps : Parts) (ts : List Term) (xs ys : List Work) → weigh ps ts (xs ++ ys) ≡ weigh ps ts xs + weigh ps ts ys
weigh-append ps ts [] ys = omega arith
weigh-append ps ts (x ∷ xs) ys = ap (λ n. work_weight ps ts x + n) (weigh-append ps ts xs ys) ∙ omega arith

pub pending-append : (ps : Parts) (ts : List Term) (xs ys : List Work) → pending_order ps ts (xs ++ ys) ≡ order_onto (pending_order ps ts xs) (map (work_order ps ts) ys)
pending-append ps ts xs ys = ap (order_onto Equal) (map-append (work_order ps ts) xs ys) ∙ order-append Equal (map (work_order ps ts) xs) (map (work_order ps ts) ys)

pub stepped : (ps : Parts) (ts : List Term) (r : Ordering × List Work) (work : Work) (o : Ordering) (old new : List Work)
    → OpensTo ps ts r (work_order ps ts work) (work_weight ps ts work) → o ≡ r.0 → new ≡ old ++ r.1 → Stepped ps ts work o old new
stepped ps ts r work o old new opens is more = record {
  same = opens.order (pending_order ps ts old) ∙ ap₂ ordering_then (sym is) (sym (pending-append ps ts old r.1) ∙ ap (pending_order ps ts) (sym more));
  fewer = (let all : weigh ps ts new ≡ weigh ps ts old + weigh ps ts r.1 = ap (weigh ps ts) more ∙ weigh-append ps ts old r.1 in let less = opens.fewer in omega (arith, all, less));
  works = λ h. subst (λ (ws : List Work). All (IsWork ps ts) ws) (sym more) (All-append (IsWork ps ts) old r.1 h opens.works);
}

-- two ids, by their cells
pub stepped-terms : (us : List (List ℕ)) (ps : Parts) (few : Few ps) (ts : List Term) (x y : TermId) (a b : Cell) (r : Result Ordering AllocError) (old new : List Work)
    → meaning us ps ts a ≡ Some (term_at ts x) → meaning us ps ts b ≡ Some (term_at ts y)
    → IfOk r (λ o. o ≡ (opened us a b).0) → IfOk r (λ _. new ≡ old ++ (opened us a b).1) → IfOk r (λ o. Stepped ps ts (w.Terms x y) o old new)
stepped-terms us ps few ts x y a b (Ok o) old new ea eb is more = stepped ps ts (opened us a b) (w.Terms x y) o old new (opened-right us ps few ts a b (term_at ts x) (term_at ts y) ea eb) is more
stepped-terms us ps few ts x y a b (Err e) old new ea eb is more = tt

-- the first of so many parts, and the others
pub parts-split : (ps : Parts) (ts : List Term) (first count : ℕ) (xs : List Term) (id : TermId) → 0 < count → parts_of ps ts first count ≡ Some xs → part_at ps first ≡ Some id
    → (x : Term) × (rest : List Term) × (xs ≡ x ∷ rest) × (slice_get ts id.0 ≡ Some x) × (parts_of ps ts (first + 1) (count - 1) ≡ Some rest)
parts-split ps ts first zero xs id positive e g = absurd (omega (arith, positive))
parts-split ps ts first (suc count) xs id positive e g =
    let b = both-parts (◌∷◌) (option_and_then (term_for ts) (part_at ps first)) (parts_of ps ts (suc first) count) xs e in
    let here : first + 1 ≡ suc first = omega arith in
    let same : suc count - 1 ≡ count = omega arith in
    (b.0, b.1, sym b.4, sym (ap (option_and_then (term_for ts)) g) ∙ b.2, ap₂ (parts_of ps ts) here same ∙ b.3)

pub runs-open : (ps : Parts) (ts : List Term) (x y count : ℕ) (p q : TermId) → IsWork ps ts (w.Runs x y count) → 0 < count → part_at ps x ≡ Some p → part_at ps y ≡ Some q
    → OpensTo ps ts (Equal, w.Runs (x + 1) (y + 1) (count - 1) ∷ w.Terms p q ∷ []) (work_order ps ts (w.Runs x y count)) (work_weight ps ts (w.Runs x y count))
runs-open ps ts x y count p q is positive gp gq =
    let a = parts-split ps ts x count (run_at ps ts x count) p positive (known (parts_of ps ts x count) [] is.0) gp in
    let b = parts-split ps ts y count (run_at ps ts y count) q positive (known (parts_of ps ts y count) [] is.1) gq in
    let ra : run_at ps ts (x + 1) (count - 1) ≡ a.1 = ap (λ z. unwrap_or z []) a.4 in
    let rb : run_at ps ts (y + 1) (count - 1) ≡ b.1 = ap (λ z. unwrap_or z []) b.4 in
    let ta : term_at ts p ≡ a.0 = ap (λ z. unwrap_or z Nil) a.3 in
    let tb : term_at ts q ≡ b.0 = ap (λ z. unwrap_or z Nil) b.3 in
    record {
      order = λ l. ap₂ (λ (u v : List Term). ordering_then (compare_each (terms u) (terms v)) l) a.2 b.2
          ∙ then-assoc (compare a.0 b.0) (compare_each (terms a.1) (terms b.1)) l
          ∙ ap₂ (λ (u v : Term). ordering_then (compare u v) (ordering_then (compare_each (terms a.1) (terms b.1)) l)) (sym ta) (sym tb)
          ∙ ap₂ (λ (u v : List Term). ordering_then (compare (term_at ts p) (term_at ts q)) (ordering_then (compare_each (terms u) (terms v)) l)) (sym ra) (sym rb);
      fewer = (let wa : weight_each (terms (run_at ps ts x count)) ≡ 1 + weight a.0 + weight_each (terms a.1) = ap (λ (u : List Term). weight_each (terms u)) a.2 in
          let wr : weight_each (terms (run_at ps ts (x + 1) (count - 1))) ≡ weight_each (terms a.1) = ap (λ (u : List Term). weight_each (terms u)) ra in
          let wt : weight (term_at ts p) ≡ weight a.0 = ap weight ta in
          omega (arith, wa, wr, wt));
      works = All-cons (IsWork ps ts) (w.Runs (x + 1) (y + 1) (count - 1)) (w.Terms p q ∷ []) (is-known (parts_of ps ts (x + 1) (count - 1)) a.1 a.4, is-known (parts_of ps ts (y + 1) (count - 1)) b.1 b.4)
          (All-cons (IsWork ps ts) (w.Terms p q) [] (is-known (slice_get ts p.0) a.0 a.3, is-known (slice_get ts q.0) b.0 b.3) (All-nil (IsWork ps ts)));
    }

-- what is compared with itself is a tie at once
stepped-tie : (ps : Parts) (ts : List Term) (work : Work) (old : List Work) → work_order ps ts work ≡ Equal → 0 < work_weight ps ts work → Stepped ps ts work Equal old old
stepped-tie ps ts work old tie positive = record {
  same = ap (λ o. ordering_then o (pending_order ps ts old)) tie;
  fewer = omega (arith, positive);
  works = λ h. h;
}

have-weight : (ts : Terms) → 0 < weight_each ts
have-weight None = omega arith
have-weight (More first rest) = omega arith

itself : (t : Term) → compare t t ≡ Equal
itself t = (order-exact t t).1 refl

each-itself : (ts : Terms) → compare_each ts ts ≡ Equal
each-itself ts = second-tied (nat_cmp (size ts) (size ts)) (compare_each ts ts) (itself (Tuple ts))

pub same-ids : (ps : Parts) (ts : List Term) (work : Work) (x y : TermId) (old : List Work) → work ≡ w.Terms x y → x.0 ≡ y.0 → Stepped ps ts work Equal old old
same-ids ps ts work x y old is same =
    subst (λ (k : Work). Stepped ps ts k Equal old old) (sym is)
    (stepped-tie ps ts (w.Terms x y) old (ap (λ n. compare (term_at ts x) (unwrap_or (slice_get ts n) Nil)) (sym same) ∙ itself (term_at ts x)) (weight-positive (term_at ts x)))

pub same-runs : (ps : Parts) (ts : List Term) (work : Work) (x y n : ℕ) (old : List Work) → work ≡ w.Runs x y n → x ≡ y → Stepped ps ts work Equal old old
same-runs ps ts work x y n old is same =
    subst (λ (k : Work). Stepped ps ts k Equal old old) (sym is)
    (stepped-tie ps ts (w.Runs x y n) old (ap (λ k. compare_each (terms (run_at ps ts x n)) (terms (run_at ps ts k n))) (sym same) ∙ each-itself (terms (run_at ps ts x n))) (have-weight (terms (run_at ps ts x n))))

-- nothing is left where the last was taken
pub none-left : (r : Option Work) (items : List Work) → IfNone r (length items ≡ 0) → IfNone r (items ≡ [])
none-left std.None [] e = refl
none-left std.None (x ∷ xs) e = absurd (omega (arith, e))
none-left (Some x) items e = tt

-- the works with one more, if there is one
abbrev pub with_next : List Work → Option Work → List Work
with_next works next = works ++ option_to_list next

-- a step that tells
pub step-ends : (ps : Parts) (ts : List Term) (work : Work) (o d : Ordering) (old popped new : List Work)
    → Stepped ps ts work o popped new → pending_order ps ts old ≡ d → old ≡ popped ++ work ∷ [] → (o ≡ Equal → ⊥) → o ≡ d
step-ends ps ts work o d old popped new s e is differs = decided o differs (pending_order ps ts new) ∙ sym s.same ∙ sym (pending-append ps ts popped (work ∷ [])) ∙ ap (pending_order ps ts) (sym is) ∙ e
  where
    decided : (o : Ordering) → (o ≡ Equal → ⊥) → (l : Ordering) → o ≡ ordering_then o l
    decided Less h l = refl
    decided Equal h l = absurd (h refl)
    decided Greater h l = refl

-- a step that leaves a tie
pub step-goes : (ps : Parts) (ts : List Term) (work : Work) (o d : Ordering) (old popped new : List Work)
    → Stepped ps ts work o popped new → pending_order ps ts old ≡ d → old ≡ popped ++ work ∷ [] → o ≡ Equal → pending_order ps ts new ≡ d
step-goes ps ts work o d old popped new s e is tie = sym (s.same ∙ ap (λ q. ordering_then q (pending_order ps ts new)) tie) ∙ sym (pending-append ps ts popped (work ∷ [])) ∙ ap (pending_order ps ts) (sym is) ∙ e

all-front : (P : Work → Type 0) (xs ys : List Work) → All P (xs ++ ys) → All P xs
all-front P xs ys all = subst (λ (ws : List Work). All P ws) (take-append_seam xs ys) (All-take P (length xs) (xs ++ ys) all)

pub step-works : (ps : Parts) (ts : List Term) (work : Work) (o : Ordering) (old popped new : List Work)
    → Stepped ps ts work o popped new → All (IsWork ps ts) old → old ≡ popped ++ work ∷ [] → All (IsWork ps ts) new
step-works ps ts work o old popped new s all is = s.works (all-front (IsWork ps ts) popped (work ∷ []) (subst (λ (ws : List Work). All (IsWork ps ts) ws) is all))

pub step-fewer : (ps : Parts) (ts : List Term) (work : Work) (o : Ordering) (old popped new : List Work)
    → Stepped ps ts work o popped new → old ≡ popped ++ work ∷ [] → weigh ps ts new < weigh ps ts old
step-fewer ps ts work o old popped new s is =
    let all : weigh ps ts old ≡ weigh ps ts popped + (work_weight ps ts work + 0) = ap (weigh ps ts) is ∙ weigh-append ps ts popped (work ∷ []) in
    let less = s.fewer in
    omega (arith, all, less)
