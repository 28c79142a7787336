-- Steps of a print.
use Rattle.std.proofs.Common.{◌≡◌, ℕ, ◌+◌, ◌-◌, ◌*◌, ◌<◌, List, [], ◌∷◌, ◌++◌, length, map, slice_get, Some, unwrap_or, codes, refl, sym, ap, ap₂, subst, ◌∙◌, arith}
use Rattle.std.specs.Prelude.{IsSome, OnOk, Result, Ok, Err}
use Rattle.std.specs.List.{All}
use Rattle.std.specs.declared.alloc.AllocError.{AllocError}
use Rattle.std.proofs.lemmas.List.{append_assoc, append-nil, map-append}
use Rattle.std.proofs.lemmas.List.Elements.{All-nil, All-cons, All-append, All-take}
use Rattle.std.proofs.Math.Seq.{take-append_seam}
use Rattle.ej_term.specs.Term.{Term, Nil, terms}
use Rattle.ej_term.specs.TermPrint.{print, print_parts, print_rest, print_pairs, print_more_pairs}
use Rattle.term_heap.specs.Cells.{Parts, part_at, parts_of, meaning}
use Rattle.term_heap.specs.Entries.{pairs}
use Rattle.term_heap.proofs.Places.{Few}
use Rattle.term_heap.specs.Works.{term_at, run_at, weight, weight_each, weight_pairs}
use Rattle.term_heap.specs.declared.cell.TermId.{TermId}
use Rattle.term_heap.specs.declared.cell.Cell.{Cell}
use Rattle.term_heap.proofs.Adding.{known, is-known}
use Rattle.term_heap.proofs.Comparing.{parts-length}
use Rattle.term_heap.proofs.Stepping.{parts-split}
use Rattle.term_text.specs.declared.work.Work.{Work}
use Rattle.term_text.specs.declared.work.Work.TheVariants as w
use Rattle.term_text.specs.Printing.{opened, followed, RunPushed, EntriesPushed, work_text, text_onto, pending_text, IsWork, work_weight, weigh, Stepped}
use Rattle.term_text.proofs.Opened.{OpensTo, opened-right, followed-right}

onto-append : (behind : List ℕ) (xs ys : List (List ℕ)) → text_onto behind (xs ++ ys) ≡ text_onto (text_onto behind xs) ys
onto-append behind [] ys = refl
onto-append behind (x ∷ xs) ys = onto-append (x ++ behind) xs ys

weigh-append : (ps : Parts) (ts : List Term) (xs ys : List Work) → weigh ps ts (xs ++ ys) ≡ weigh ps ts xs + weigh ps ts ys
weigh-append ps ts [] ys = omega arith
weigh-append ps ts (x ∷ xs) ys = ap (λ n. work_weight ps ts x + n) (weigh-append ps ts xs ys) ∙ omega arith

pending-append : (ps : Parts) (ts : List Term) (xs ys : List Work) → pending_text ps ts (xs ++ ys) ≡ text_onto (pending_text ps ts xs) (map (work_text ps ts) ys)
pending-append ps ts xs ys = ap (text_onto []) (map-append (work_text ps ts) xs ys) ∙ onto-append [] (map (work_text ps ts) xs) (map (work_text ps ts) ys)

pub stepped : (ps : Parts) (ts : List Term) (r : List ℕ × List Work) (work : Work) (written now_written : List ℕ) (old new : List Work)
    → OpensTo ps ts r (work_text ps ts work) (work_weight ps ts work) → now_written ≡ written ++ r.0 → new ≡ old ++ r.1 → Stepped ps ts work written now_written old new
stepped ps ts r work written now_written old new opens is more = record {
  same = ap₂ (λ xs (ws : List Work). xs ++ pending_text ps ts ws) is more
      ∙ ap (◌++◌ (written ++ r.0)) (pending-append ps ts old r.1)
      ∙ append_assoc written r.0 (text_onto (pending_text ps ts old) (map (work_text ps ts) r.1))
      ∙ ap (◌++◌ written) (sym (opens.text (pending_text ps ts old)));
  fewer = (let all : weigh ps ts new ≡ weigh ps ts old + weigh ps ts r.1 = ap (weigh ps ts) more ∙ weigh-append ps ts old r.1 in let less = opens.fewer in omega (arith, all, less));
  works = λ h. subst (λ (ws : List Work). All (IsWork ps ts) ws) (sym more) (All-append (IsWork ps ts) old r.1 h opens.works);
}

-- a call's steps
pub stepped-ok : (ps : Parts) (ts : List Term) (r : List ℕ × List Work) (work : Work) (result : Result (Unit {0}) AllocError) (written now_written : List ℕ) (old new : List Work)
    → OpensTo ps ts r (work_text ps ts work) (work_weight ps ts work) → OnOk result (now_written ≡ written ++ r.0) → OnOk result (new ≡ old ++ r.1)
    → OnOk result (Stepped ps ts work written now_written old new)
stepped-ok ps ts r work (Ok u) written now_written old new opens is more = stepped ps ts r work written now_written old new opens is more
stepped-ok ps ts r work (Err e) written now_written old new opens is more = tt

pub stepped-term : (us : List (List ℕ)) (ps : Parts) (few : Few ps) (ts : List Term) (id : TermId) (a : Cell) (result : Result (Unit {0}) AllocError) (written now_written : List ℕ) (old new : List Work)
    → meaning us ps ts a ≡ Some (term_at ts id) → OnOk result (now_written ≡ written ++ (opened us a).0) → OnOk result (new ≡ old ++ (opened us a).1)
    → OnOk result (Stepped ps ts (w.Term id) written now_written old new)
stepped-term us ps few ts id a result written now_written old new e is more = stepped-ok ps ts (opened us a) (w.Term id) result written now_written old new (opened-right us ps few ts a (term_at ts id) e) is more

pub stepped-tail : (us : List (List ℕ)) (ps : Parts) (few : Few ps) (ts : List Term) (id : TermId) (a : Cell) (result : Result (Unit {0}) AllocError) (written now_written : List ℕ) (old new : List Work)
    → IsWork ps ts (w.Tail id) → meaning us ps ts a ≡ Some (term_at ts id) → OnOk result (now_written ≡ written ++ (followed id a).0) → OnOk result (new ≡ old ++ (followed id a).1)
    → OnOk result (Stepped ps ts (w.Tail id) written now_written old new)
stepped-tail us ps few ts id a result written now_written old new work e is more = stepped-ok ps ts (followed id a) (w.Tail id) result written now_written old new (followed-right us ps few ts id a work e) is more

-- a piece that is text alone
pub stepped-piece : (ps : Parts) (ts : List Term) (work : Work) (result : Result (Unit {0}) AllocError) (written now_written : List ℕ) (works : List Work)
    → work_weight ps ts work ≡ 1 → OnOk result (now_written ≡ written ++ work_text ps ts work) → OnOk result (Stepped ps ts work written now_written works works)
stepped-piece ps ts work result written now_written works one is =
    stepped-ok ps ts (work_text ps ts work, []) work result written now_written works works
    (record { text = λ behind. refl; fewer = omega (arith, one); works = All-nil (IsWork ps ts) }) is (same result)
  where
    same : (r : Result (Unit {0}) AllocError) → OnOk r (works ≡ works ++ [])
    same (Ok u) = sym (append-nil works)
    same (Err e) = tt

-- ---- runs

-- what is left of a run's first part and the others
record Split (ps : Parts) (ts : List Term) (first count : ℕ) (id : TermId) : Type 0 where
  run : run_at ps ts first count ≡ term_at ts id ∷ run_at ps ts (first + 1) (count - 1)
  here : IsSome (slice_get ts id.0)
  rest : IsSome (parts_of ps ts (first + 1) (count - 1))

split : (ps : Parts) (ts : List Term) (first count : ℕ) (id : TermId) → IsSome (parts_of ps ts first count) → 0 < count → part_at ps first ≡ Some id → Split ps ts first count id
split ps ts first count id is positive g =
    let s = parts-split ps ts first count (run_at ps ts first count) id positive (known (parts_of ps ts first count) [] is) g in
    record {
      run = s.2 ∙ ap₂ (λ (x : Term) (xs : List Term). x ∷ xs) (sym (ap (λ z. unwrap_or z Nil) s.3)) (sym (ap (λ z. unwrap_or z []) s.4));
      here = is-known (slice_get ts id.0) s.0 s.3;
      rest = is-known (parts_of ps ts (first + 1) (count - 1)) s.1 s.4;
    }

-- a run of no parts
none-is : (ps : Parts) (ts : List Term) (first : ℕ) → IsSome (parts_of ps ts first 0) → run_at ps ts first 0 ≡ []
none-is ps ts first is = empty (run_at ps ts first 0) (parts-length ps ts first 0 (run_at ps ts first 0) (known (parts_of ps ts first 0) [] is))
  where
    empty : (xs : List Term) → length xs ≡ 0 → xs ≡ []
    empty [] e = refl
    empty (x ∷ xs) e = absurd (omega (arith, e))

abbrev Opens : Parts → List Term → List ℕ × List Work → Work → Type 0
Opens ps ts r work = OpensTo ps ts r (work_text ps ts work) (work_weight ps ts work)

nothing : (ps : Parts) (ts : List Term) (work : Work) → work_text ps ts work ≡ [] → 0 < work_weight ps ts work → Opens ps ts ([], []) work
nothing ps ts work e positive = record { text = λ behind. ap (λ zs. zs ++ behind) e; fewer = positive; works = All-nil (IsWork ps ts) }

pub parts-none : (ps : Parts) (ts : List Term) (first : ℕ) → IsWork ps ts (w.Parts first 0) → Opens ps ts ([], []) (w.Parts first 0)
parts-none ps ts first is =
    let none = none-is ps ts first is in
    let k : weight_each (terms (run_at ps ts first 0)) ≡ 1 = ap (λ (xs : List Term). weight_each (terms xs)) none in
    nothing ps ts (w.Parts first 0) (ap (λ (xs : List Term). print_parts (terms xs)) none) (omega (arith, k))

pub rest-none : (ps : Parts) (ts : List Term) (first : ℕ) → IsWork ps ts (w.Rest first 0) → Opens ps ts ([], []) (w.Rest first 0)
rest-none ps ts first is =
    let none = none-is ps ts first is in
    let k : weight_each (terms (run_at ps ts first 0)) ≡ 1 = ap (λ (xs : List Term). weight_each (terms xs)) none in
    nothing ps ts (w.Rest first 0) (ap (λ (xs : List Term). print_rest (terms xs)) none) (omega (arith, k))

pub entries-none : (ps : Parts) (ts : List Term) (key value : ℕ) → IsWork ps ts (w.Entries key value 0) → Opens ps ts ([], []) (w.Entries key value 0)
entries-none ps ts key value is =
    let none = none-is ps ts key is.0 in
    let k : weight_pairs (pairs (run_at ps ts key 0) (run_at ps ts value 0)) ≡ 1 = ap (λ (xs : List Term). weight_pairs (pairs xs (run_at ps ts value 0))) none in
    nothing ps ts (w.Entries key value 0) (ap (λ (xs : List Term). print_pairs (pairs xs (run_at ps ts value 0))) none) (omega (arith, k))

pub more-none : (ps : Parts) (ts : List Term) (key value : ℕ) → IsWork ps ts (w.More key value 0) → Opens ps ts ([], []) (w.More key value 0)
more-none ps ts key value is =
    let none = none-is ps ts key is.0 in
    let k : weight_pairs (pairs (run_at ps ts key 0) (run_at ps ts value 0)) ≡ 1 = ap (λ (xs : List Term). weight_pairs (pairs xs (run_at ps ts value 0))) none in
    nothing ps ts (w.More key value 0) (ap (λ (xs : List Term). print_more_pairs (pairs xs (run_at ps ts value 0))) none) (omega (arith, k))

-- a part and the others behind this front
run-open : (ps : Parts) (ts : List Term) (front : List ℕ) (work : Work) (first count : ℕ) (id : TermId)
    → ((x : Term) (rest : List Term) → run_at ps ts first count ≡ x ∷ rest → work_text ps ts work ≡ front ++ print x ++ print_rest (terms rest))
    → work_weight ps ts work ≡ 4 * weight_each (terms (run_at ps ts first count)) → IsSome (parts_of ps ts first count) → 0 < count → part_at ps first ≡ Some id
    → Opens ps ts (front, w.Rest (first + 1) (count - 1) ∷ w.Term id ∷ []) work
run-open ps ts front work first count id same k is positive g =
    let s = split ps ts first count id is positive g in
    let kr : weight_each (terms (run_at ps ts first count)) ≡ 1 + weight (term_at ts id) + weight_each (terms (run_at ps ts (first + 1) (count - 1))) = ap (λ (xs : List Term). weight_each (terms xs)) s.run in
    record {
      text = λ behind. ap (λ zs. zs ++ behind) (same (term_at ts id) (run_at ps ts (first + 1) (count - 1)) s.run)
          ∙ three front (print (term_at ts id)) (print_rest (terms (run_at ps ts (first + 1) (count - 1)))) behind;
      fewer = omega (arith, k, kr);
      works = All-cons (IsWork ps ts) (w.Rest (first + 1) (count - 1)) (w.Term id ∷ []) s.rest (All-cons (IsWork ps ts) (w.Term id) [] s.here (All-nil (IsWork ps ts)));
    }
  where
    three : (a b c d : List ℕ) → (a ++ b ++ c) ++ d ≡ a ++ (b ++ (c ++ d))
    three a b c d = simp append_assoc

pub parts-open : (ps : Parts) (ts : List Term) (first count : ℕ) (id : TermId) → IsWork ps ts (w.Parts first count) → 0 < count → part_at ps first ≡ Some id
    → Opens ps ts ([], w.Rest (first + 1) (count - 1) ∷ w.Term id ∷ []) (w.Parts first count)
parts-open ps ts first count id is positive g =
    run-open ps ts [] (w.Parts first count) first count id (λ x rest e. ap (λ (ys : List Term). print_parts (terms ys)) e) refl is positive g

pub rest-open : (ps : Parts) (ts : List Term) (first count : ℕ) (id : TermId) → IsWork ps ts (w.Rest first count) → 0 < count → part_at ps first ≡ Some id
    → Opens ps ts (codes ",", w.Rest (first + 1) (count - 1) ∷ w.Term id ∷ []) (w.Rest first count)
rest-open ps ts first count id is positive g =
    run-open ps ts (codes ",") (w.Rest first count) first count id (λ x rest e. ap (λ (ys : List Term). print_rest (terms ys)) e) refl is positive g

-- a key with its value and the others behind this front
pairs-open : (ps : Parts) (ts : List Term) (front : List ℕ) (work : Work) (key value count : ℕ) (id other : TermId)
    → ((x y : Term) (xs ys : List Term) → run_at ps ts key count ≡ x ∷ xs → run_at ps ts value count ≡ y ∷ ys → work_text ps ts work ≡ front ++ print x ++ codes "=>" ++ print y ++ print_more_pairs (pairs xs ys))
    → work_weight ps ts work ≡ 4 * weight_pairs (pairs (run_at ps ts key count) (run_at ps ts value count)) → IsSome (parts_of ps ts key count) → IsSome (parts_of ps ts value count) → 0 < count
    → part_at ps key ≡ Some id → part_at ps value ≡ Some other
    → Opens ps ts (front, w.More (key + 1) (value + 1) (count - 1) ∷ w.Term other ∷ w.Arrow ∷ w.Term id ∷ []) work
pairs-open ps ts front work key value count id other same k is-keys is-values positive g h =
    let s = split ps ts key count id is-keys positive g in
    let v = split ps ts value count other is-values positive h in
    let keys = run_at ps ts (key + 1) (count - 1) in
    let values = run_at ps ts (value + 1) (count - 1) in
    let kr : weight_pairs (pairs (run_at ps ts key count) (run_at ps ts value count)) ≡ 1 + weight (term_at ts id) + (1 + weight (term_at ts other)) + weight_pairs (pairs keys values) =
    ap₂ (λ (xs ys : List Term). weight_pairs (pairs xs ys)) s.run v.run in
    record {
      text = λ behind. ap (λ zs. zs ++ behind) (same (term_at ts id) (term_at ts other) keys values s.run v.run)
          ∙ five front (print (term_at ts id)) (codes "=>") (print (term_at ts other)) (print_more_pairs (pairs keys values)) behind;
      fewer = omega (arith, k, kr);
      works = All-cons (IsWork ps ts) (w.More (key + 1) (value + 1) (count - 1)) (w.Term other ∷ w.Arrow ∷ w.Term id ∷ []) (s.rest, v.rest)
          (All-cons (IsWork ps ts) (w.Term other) (w.Arrow ∷ w.Term id ∷ []) v.here (All-cons (IsWork ps ts) w.Arrow (w.Term id ∷ []) tt (All-cons (IsWork ps ts) (w.Term id) [] s.here (All-nil (IsWork ps ts)))));
    }
  where
    five : (a b c d e f : List ℕ) → (a ++ b ++ c ++ d ++ e) ++ f ≡ a ++ (b ++ (c ++ (d ++ (e ++ f))))
    five a b c d e f = simp append_assoc

pub entries-open : (ps : Parts) (ts : List Term) (key value count : ℕ) (id other : TermId) → IsWork ps ts (w.Entries key value count) → 0 < count → part_at ps key ≡ Some id → part_at ps value ≡ Some other
    → Opens ps ts ([], w.More (key + 1) (value + 1) (count - 1) ∷ w.Term other ∷ w.Arrow ∷ w.Term id ∷ []) (w.Entries key value count)
entries-open ps ts key value count id other is positive g h =
    pairs-open ps ts [] (w.Entries key value count) key value count id other (λ x y xs ys d e. ap₂ (λ (us vs : List Term). print_pairs (pairs us vs)) d e) refl is.0 is.1 positive g h

pub more-open : (ps : Parts) (ts : List Term) (key value count : ℕ) (id other : TermId) → IsWork ps ts (w.More key value count) → 0 < count → part_at ps key ≡ Some id → part_at ps value ≡ Some other
    → Opens ps ts (codes ",", w.More (key + 1) (value + 1) (count - 1) ∷ w.Term other ∷ w.Arrow ∷ w.Term id ∷ []) (w.More key value count)
more-open ps ts key value count id other is positive g h =
    pairs-open ps ts (codes ",") (w.More key value count) key value count id other (λ x y xs ys d e. ap₂ (λ (us vs : List Term). print_more_pairs (pairs us vs)) d e) refl is.0 is.1 positive g h

-- ---- calls that push a run

-- a work that is stepped, of equal works
pub stepped-is : (ps : Parts) (ts : List Term) (work other : Work) (result : Result (Unit {0}) AllocError) (written now_written : List ℕ) (old new : List Work)
    → work ≡ other → OnOk result (Stepped ps ts other written now_written old new) → OnOk result (Stepped ps ts work written now_written old new)
stepped-is ps ts work other result written now_written old new e h = subst (λ (x : Work). OnOk result (Stepped ps ts x written now_written old new)) (sym e) h

pub stepped-parts : (ps : Parts) (ts : List Term) (first count : ℕ) (result : Result (Unit {0}) AllocError) (written : List ℕ) (old new : List Work)
    → IsWork ps ts (w.Parts first count) → 0 < count → OnOk result (RunPushed ps first count old new) → OnOk result (Stepped ps ts (w.Parts first count) written written old new)
stepped-parts ps ts first count (Ok u) written old new is positive p = stepped ps ts _ (w.Parts first count) written written old new (parts-open ps ts first count p.0 is positive p.1) (sym (append-nil written)) p.2
stepped-parts ps ts first count (Err e) written old new is positive p = tt

pub stepped-rest : (ps : Parts) (ts : List Term) (first count : ℕ) (result : Result (Unit {0}) AllocError) (written now_written : List ℕ) (old new : List Work)
    → IsWork ps ts (w.Rest first count) → 0 < count → now_written ≡ written ++ codes "," → OnOk result (RunPushed ps first count old new)
    → OnOk result (Stepped ps ts (w.Rest first count) written now_written old new)
stepped-rest ps ts first count (Ok u) written now_written old new is positive e p = stepped ps ts _ (w.Rest first count) written now_written old new (rest-open ps ts first count p.0 is positive p.1) e p.2
stepped-rest ps ts first count (Err f) written now_written old new is positive e p = tt

pub stepped-entries : (ps : Parts) (ts : List Term) (key value count : ℕ) (result : Result (Unit {0}) AllocError) (written : List ℕ) (old new : List Work)
    → IsWork ps ts (w.Entries key value count) → 0 < count → OnOk result (EntriesPushed ps key value count old new) → OnOk result (Stepped ps ts (w.Entries key value count) written written old new)
stepped-entries ps ts key value count (Ok u) written old new is positive p =
    stepped ps ts _ (w.Entries key value count) written written old new (entries-open ps ts key value count p.0 p.1 is positive p.2 p.3) (sym (append-nil written)) p.4
stepped-entries ps ts key value count (Err e) written old new is positive p = tt

pub stepped-more : (ps : Parts) (ts : List Term) (key value count : ℕ) (result : Result (Unit {0}) AllocError) (written now_written : List ℕ) (old new : List Work)
    → IsWork ps ts (w.More key value count) → 0 < count → now_written ≡ written ++ codes "," → OnOk result (EntriesPushed ps key value count old new)
    → OnOk result (Stepped ps ts (w.More key value count) written now_written old new)
stepped-more ps ts key value count (Ok u) written now_written old new is positive e p =
    stepped ps ts _ (w.More key value count) written now_written old new (more-open ps ts key value count p.0 p.1 is positive p.2 p.3) e p.4
stepped-more ps ts key value count (Err f) written now_written old new is positive e p = tt

-- ---- the loop

-- the whole text stays
pub step-same : (ps : Parts) (ts : List Term) (work : Work) (written now_written whole : List ℕ) (old popped new : List Work)
    → Stepped ps ts work written now_written popped new → written ++ pending_text ps ts old ≡ whole → old ≡ popped ++ work ∷ [] → now_written ++ pending_text ps ts new ≡ whole
step-same ps ts work written now_written whole old popped new s e is =
    s.same ∙ ap (◌++◌ written) (sym (pending-append ps ts popped (work ∷ []))) ∙ ap (λ (ws : List Work). written ++ pending_text ps ts ws) (sym is) ∙ e

pub step-works : (ps : Parts) (ts : List Term) (work : Work) (written now_written : List ℕ) (old popped new : List Work)
    → Stepped ps ts work written now_written popped new → All (IsWork ps ts) old → old ≡ popped ++ work ∷ [] → All (IsWork ps ts) new
step-works ps ts work written now_written old popped new s all is =
    s.works (subst (λ (ws : List Work). All (IsWork ps ts) ws) (take-append_seam popped (work ∷ [])) (All-take (IsWork ps ts) (length popped) (popped ++ work ∷ []) (subst (λ (ws : List Work). All (IsWork ps ts) ws) is all)))

pub step-fewer : (ps : Parts) (ts : List Term) (work : Work) (written now_written : List ℕ) (old popped new : List Work)
    → Stepped ps ts work written now_written popped new → old ≡ popped ++ work ∷ [] → weigh ps ts new < weigh ps ts old
step-fewer ps ts work written now_written old popped new s is =
    let all : weigh ps ts old ≡ weigh ps ts popped + (work_weight ps ts work + 0) = ap (weigh ps ts) is ∙ weigh-append ps ts popped (work ∷ []) in
    let less = s.fewer in
    omega (arith, all, less)
