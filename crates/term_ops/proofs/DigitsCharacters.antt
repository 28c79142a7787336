-- Digits, and the lists of characters.
use Rattle.std.proofs.Common.{◌≡◌, ℕ, ◌+◌, ◌-◌, ◌*◌, ◌<◌, min, Bool, true, ◌&&◌, List, [], ◌∷◌, length, drop, get_or, pos, refl, sym, ap, ◌∙◌, suc, arith, drop-cons, false, true≢false}
use Rattle.ej_term.specs.Term.{Term, Int, Cons}
use Rattle.std.specs.List.{list_all}
use Rattle.ej_term.specs.Digits.{string, worth_onto}
use Rattle.term_heap.specs.declared.cell.TermId.{TermId}
use Rattle.term_heap.specs.declared.heap.Heap.{Heap}
use Rattle.term_heap.specs.View.{Holds, Stands, term_of, Keeps}
use Rattle.term_heap.proofs.Kept.{stands-term, kept-term}

-- a limit on the way is the limit at the end
capped : (m n : ℕ) (cs : List ℕ) → min (worth_onto (min n m) cs) m ≡ min (worth_onto n cs) m
capped m n [] = omega arith
capped m n (c ∷ cs) =
    let d = c - 48 in
    let same : min (min n m * 10 + d) m ≡ min (n * 10 + d) m = omega arith in
    sym (capped m (min n m * 10 + d) cs) ∙ ap (λ k. min (worth_onto k cs) m) same ∙ capped m (n * 10 + d) cs

-- one more digit
pub worth-next : (m w new c : ℕ) (cs : List ℕ) → new ≡ min (min (w * 10) m + (c - 48)) m → min (worth_onto new cs) m ≡ min (worth_onto w (c ∷ cs)) m
worth-next m w new c cs is =
    let d = c - 48 in
    let same : min (min (w * 10) m + d) m ≡ min (w * 10 + d) m = omega arith in
    ap (λ k. min (worth_onto k cs) m) (is ∙ same) ∙ capped m (w * 10 + d) cs

-- one more character in front of those behind it
pub string-next : (heap mid new : Heap) (cs : List ℕ) (k d : ℕ) (behind character made : TermId) → k < length cs → Keeps heap mid → Holds heap behind → term_of heap behind ≡ string (drop (suc k) cs)
    → Stands mid character (Int (pos (get_or cs k d))) → Stands new made (Cons (term_of mid character) (term_of mid behind)) → term_of new made ≡ string (drop k cs)
string-next heap mid new cs k d behind character made within keeps holds so_far is stands =
    stands-term new made _ stands
    ∙ ap (λ (t : Term). Cons t (term_of mid behind)) (stands-term mid character _ is)
    ∙ ap (Cons (Int (pos (get_or cs k d)))) (kept-term heap mid behind keeps holds ∙ so_far)
    ∙ ap string (sym (drop-cons cs k d within))

pub behind-all : (p : ℕ → Bool) (c : ℕ) (cs : List ℕ) → list_all p (c ∷ cs) ≡ true → list_all p cs ≡ true
behind-all p c cs e = (both-true (p c) (list_all p cs) e).1
  where
    both-true : (a b : Bool) → a && b ≡ true → (a ≡ true) × (b ≡ true)
    both-true true b e = (refl, e)
    both-true false b e = absurd (true≢false (sym e))
