-- That the terms of a heap are of the profile.
use Rattle.std.proofs.Common.{◌≡◌, ℕ, ◌<◌, zero, suc, nat_le, Bool, true, false, ◌&&◌, ◌||◌, if◌then◌else◌, List, [], ◌∷◌, ◌++◌, map, slice_get, Option, Some, unwrap_or, refl, sym, ap, subst, ◌∙◌, arith}
use Rattle.std.specs.Prelude.{IsSome, IfSome, IsFalse}
use Rattle.std.specs.List.{All, list_all}
use Rattle.std.specs.Str.{all_scalars}
use Rattle.std.proofs.lemmas.Option.{none-some}
use Rattle.std.proofs.lemmas.Bool.{and_parts, and_from, le-leb}
use Rattle.std.proofs.lemmas.List.Elements.{All-head, All-tail}
use Rattle.std.proofs.lemmas.List.Folds.{list_all-append}
use Rattle.ej_term.specs.Term.{Term, Fun, Map, Nil, Cons, Pairs, Pair, terms}
use Rattle.ej_term.specs.Maps.{rises}
use Rattle.ej_term.specs.WellFormed.{in_each, in_each_pair, is_empty, is_in_range, is_well_formed}
use Rattle.ej_term.proofs.Options.{unsome}
use Rattle.term_heap.specs.Cells.{Parts, from_entries, both, meaning}
use Rattle.term_heap.specs.declared.cell.TermId.{TermId}
use Rattle.term_heap.specs.declared.cell.Cell.{Cell}
use Rattle.term_heap.proofs.Meanings.{both-is}
use Rattle.term_heap.proofs.Adding.{known, seen, Meant, pushed-cells}
use Rattle.term_heap.proofs.Made.{IsId, term_at}

abbrev pub IsFormed : Term → Type 0
IsFormed t = is_well_formed t ≡ true

abbrev pub AreFormed : List Term → Type 0
AreFormed ts = list_all is_well_formed ts ≡ true

formed-at : (ts : List Term) (i : ℕ) (t : Term) → AreFormed ts → slice_get ts i ≡ Some t → IsFormed t
formed-at [] i t all e = absurd (none-some t e)
formed-at (x ∷ ts) zero t all e = subst (λ (u : Term). IsFormed u) (unsome x t e) (and_parts (is_well_formed x) (list_all is_well_formed ts) all).0
formed-at (x ∷ ts) (suc i) t all e = formed-at ts i t (and_parts (is_well_formed x) (list_all is_well_formed ts) all).1 e

-- the term of an id
pub formed-id : (ts : List Term) (id : TermId) → AreFormed ts → IsId ts id → IsFormed (term_at ts id)
formed-id ts id all is = formed-at ts id.0 (term_at ts id) all (known (slice_get ts id.0) Nil is)

pub formed-ids : (ts : List Term) (ids : List TermId) → AreFormed ts → All (IsId ts) ids → in_each is_in_range (terms (map (term_at ts) ids)) ≡ true
formed-ids ts [] all is = refl
formed-ids ts (id ∷ ids) all is =
    and_from (is_well_formed (term_at ts id)) (in_each is_in_range (terms (map (term_at ts) ids))) (formed-id ts id all (All-head (IsId ts) id ids is)) (formed-ids ts ids all (All-tail (IsId ts) id ids is))

-- a cell's term that is known
pub formed-made : (o : Option Term) (t : Term) → o ≡ Some t → IsFormed t → IfSome o (λ u. is_well_formed u ≡ true)
formed-made o t e is = subst (λ (p : Option Term). IfSome p (λ u. is_well_formed u ≡ true)) (sym e) is

pub formed-cons : (ts : List Term) (head tail : TermId) → AreFormed ts → IsId ts head → IsId ts tail → IfSome (both Cons (slice_get ts head.0) (slice_get ts tail.0)) (λ u. is_well_formed u ≡ true)
formed-cons ts head tail all is-head is-tail =
    formed-made (both Cons (slice_get ts head.0) (slice_get ts tail.0)) (Cons (term_at ts head) (term_at ts tail))
    (both-is Cons (slice_get ts head.0) (slice_get ts tail.0) (term_at ts head) (term_at ts tail) (known (slice_get ts head.0) Nil is-head) (known (slice_get ts tail.0) Nil is-tail))
    (and_from (is_well_formed (term_at ts head)) (is_well_formed (term_at ts tail)) (formed-id ts head all is-head) (formed-id ts tail all is-tail))

-- a fun, whose names are characters of text, and which has no free variables where it is external
pub formed-fun : (local : Bool) (owner name : List ℕ) (arity : ℕ) (ts : List Term) (ids : List TermId) → AreFormed ts → All (IsId ts) ids → all_scalars owner ≡ true → all_scalars name ≡ true → arity < 256 → (IsFalse local → ids ≡ [])
    → IsFormed (Fun local owner name arity (terms (map (term_at ts) ids)))
formed-fun local owner name arity ts ids all is o n a external =
    and_from (is_in_range (Fun local owner name arity (terms (map (term_at ts) ids)))) (in_each is_in_range (terms (map (term_at ts) ids)))
    (and_from (all_scalars owner) (all_scalars name && (nat_le arity 255 && (local || is_empty (terms (map (term_at ts) ids))))) o
    (and_from (all_scalars name) (nat_le arity 255 && (local || is_empty (terms (map (term_at ts) ids)))) n
    (and_from (nat_le arity 255) (local || is_empty (terms (map (term_at ts) ids))) (le-leb arity 255 (omega (arith, a))) (no-environment local external))))
    (formed-ids ts ids all is)
  where
    no-environment : (b : Bool) → (IsFalse b → ids ≡ []) → (b || is_empty (terms (map (term_at ts) ids))) ≡ true
    no-environment true h = refl
    no-environment false h = ap (λ (zs : List TermId). is_empty (terms (map (term_at ts) zs))) (h refl)

-- Maps.

formed-pair : (k v : Term) (rest : Pairs) → IsFormed k → IsFormed v → in_each_pair is_in_range rest ≡ true → in_each_pair is_in_range (Pair k v rest) ≡ true
formed-pair k v rest is-k is-v r = and_from (is_well_formed k) (is_well_formed v && in_each_pair is_in_range rest) is-k (and_from (is_well_formed v) (in_each_pair is_in_range rest) is-v r)

abbrev pub AreBoth : List Term → TermId × TermId → Type 0
AreBoth ts e = IsId ts e.0 × IsId ts e.1

abbrev pub both_at : List Term → TermId × TermId → Term × Term
both_at ts e = (term_at ts e.0, term_at ts e.1)

formed-entries : (ts : List Term) (es : List (TermId × TermId)) → AreFormed ts → All (AreBoth ts) es → in_each_pair is_in_range (from_entries (map (both_at ts) es)) ≡ true
formed-entries ts [] all is = refl
formed-entries ts (e ∷ es) all is =
    let first = All-head (AreBoth ts) e es is in
    formed-pair (term_at ts e.0) (term_at ts e.1) (from_entries (map (both_at ts) es)) (formed-id ts e.0 all first.0) (formed-id ts e.1 all first.1) (formed-entries ts es all (All-tail (AreBoth ts) e es is))

-- the map of these keys and values, which rises
pub formed-map : (ts : List Term) (es : List (TermId × TermId)) → AreFormed ts → All (AreBoth ts) es → rises (from_entries (map (both_at ts) es)) ≡ true → IsFormed (Map (from_entries (map (both_at ts) es)))
formed-map ts es all is r = and_from (rises (from_entries (map (both_at ts) es))) (in_each_pair is_in_range (from_entries (map (both_at ts) es))) r (formed-entries ts es all is)

-- the same terms
pub formed-still : (ts news : List Term) → news ≡ ts → AreFormed ts → AreFormed news
formed-still ts news same all = ap (list_all is_well_formed) same ∙ all

-- one more cell
pub formed-pushed : (b : Bool) (us : List (List ℕ)) (ps : Parts) (cells news : List Cell) (cell : Cell) → Meant us ps cells → IsSome (meaning us ps (seen us ps cells) cell)
    → IfSome (meaning us ps (seen us ps cells) cell) (λ t. is_well_formed t ≡ true) → AreFormed (seen us ps cells) → news ≡ (if b then cells ++ cell ∷ [] else cells) → AreFormed (seen us ps news)
formed-pushed true us ps cells news cell m is formed all e =
    let p = pushed-cells us ps cells cell m is in
    let new : is_well_formed p.0 ≡ true = subst (λ (o : Option Term). IfSome o (λ t. is_well_formed t ≡ true)) p.1 formed in
    ap (λ (zs : List Cell). list_all is_well_formed (seen us ps zs)) e
    ∙ ap (λ (o : Option (List Term)). list_all is_well_formed (unwrap_or o [])) p.2
    ∙ list_all-append is_well_formed (seen us ps cells) (p.0 ∷ [])
    ∙ and_from (list_all is_well_formed (seen us ps cells)) (list_all is_well_formed (p.0 ∷ [])) all (and_from (is_well_formed p.0) true new refl)
formed-pushed false us ps cells news cell m is formed all e = ap (λ (zs : List Cell). list_all is_well_formed (seen us ps zs)) e ∙ all
