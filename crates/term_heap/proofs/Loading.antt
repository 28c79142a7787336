-- One more in front of a list or a string.
use Rattle.std.proofs.Common.{◌≡◌, pos, ℕ, ◌+◌, ◌-◌, ◌<◌, ◌≤◌, List, ◌∷◌, length, drop, slice_index_or, sym, ap, ap₂, subst, ◌∙◌, arith}
use Rattle.std.proofs.lemmas.List.{drop_more}
use Rattle.std.proofs.lemmas.List.Elements.{All-get_or}
use Rattle.ej_term.specs.Term.{Term, Int, Cons}
use Rattle.ej_term.specs.Digits.{string}
use Rattle.ej_term.specs.Lists.{list_onto}
use Rattle.term_heap.specs.declared.cell.TermId.{TermId}
use Rattle.term_heap.specs.declared.heap.Heap.{Heap}
use Rattle.term_heap.specs.View.{Holds, Stands, term_of, Keeps}
use Rattle.term_heap.specs.Held.{HoldsEach, terms_at}
use Rattle.term_heap.proofs.Kept.{stands-held, stands-term, kept-term, keeps-then}

-- one more in front of a list
pub list-step : (first old new : Heap) (parts : List TermId) (part : TermId) (at : ℕ) (tail : Term) (list id d : TermId) → 0 < at → at ≤ length parts
    → Keeps first old × Holds old list × (term_of old list ≡ list_onto (terms_at first (drop at parts)) tail)
    → HoldsEach first parts → part ≡ slice_index_or parts (at - 1) d → Keeps old new → Stands new id (Cons (term_of old part) (term_of old list))
    → Keeps first new × Holds new id × (term_of new id ≡ list_onto (terms_at first (drop (at - 1) parts)) tail)
list-step first old new parts part at tail list id d some within is all picked keeps stands =
    let below : at - 1 < length parts = omega (arith, some, within) in
    let back : at - 1 + 1 ≡ at = omega (arith, some) in
    let split : drop (at - 1) parts ≡ part ∷ drop at parts = drop_more parts (at - 1) d below ∙ ap₂ (λ (p : TermId) (n : ℕ). p ∷ drop n parts) (sym picked) back in
    let part-held : Holds first part = subst (Holds first) (sym picked) (All-get_or (Holds first) parts (at - 1) d below all) in (
      keeps-then first old new is.0 keeps,
      stands-held new id _ stands,
      stands-term new id _ stands ∙ ap₂ Cons (kept-term first old part is.0 part-held) is.2
          ∙ sym (ap (λ (ids : List TermId). list_onto (terms_at first ids) tail) split),
    )

-- one more character in front of a string
pub string-step : (first old made new : Heap) (characters : List ℕ) (at : ℕ) (head list id : TermId) (d : ℕ) → 0 < at → at ≤ length characters
    → Keeps first old × Holds old list × (term_of old list ≡ string (drop at characters))
    → Keeps old made → Stands made head (Int (pos (slice_index_or characters (at - 1) d))) → Keeps made new → Stands new id (Cons (term_of made head) (term_of made list))
    → Keeps first new × Holds new id × (term_of new id ≡ string (drop (at - 1) characters))
string-step first old made new characters at head list id d some within is keeps number' more stands =
    let below : at - 1 < length characters = omega (arith, some, within) in
    let back : at - 1 + 1 ≡ at = omega (arith, some) in
    let split : drop (at - 1) characters ≡ slice_index_or characters (at - 1) d ∷ drop at characters = drop_more characters (at - 1) d below ∙ ap (λ n. slice_index_or characters (at - 1) d ∷ drop n characters) back in (
      keeps-then first made new (keeps-then first old made is.0 keeps) more,
      stands-held new id _ stands,
      stands-term new id _ stands ∙ ap₂ Cons (stands-term made head _ number') (kept-term old made list keeps is.1 ∙ is.2)
          ∙ sym (ap string split),
    )
