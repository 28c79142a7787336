-- Adding to the lists of a heap.
use Rattle.std.proofs.Common.{◌≡◌, ℕ, ◌<◌, Bool, true, false, if◌then◌else◌, List, [], ◌∷◌, ◌++◌, length, take, drop, slice_get, Option, Some, unwrap_or, is_some, refl, sym, ap, subst, ◌∙◌}
use Rattle.std.specs.Prelude as std
use Rattle.std.specs.Prelude.{IsSome}
use Rattle.std.proofs.lemmas.Option.{slice_get_within}
use Rattle.std.proofs.lemmas.List.{append-nil, append_assoc}
use Rattle.std.proofs.Math.Seq.{drop-append_seam}
use Rattle.std.proofs.Math.Nat.{zero-add}
use Rattle.std.proofs.Common.{true≢false}
use Rattle.ej_term.specs.Term.{Term, Nil}
use Rattle.term_heap.specs.Cells.{Parts, stored, meaning, meanings, Extends, ExtendsParts}
use Rattle.term_heap.specs.declared.cell.TermId.{TermId}
use Rattle.term_heap.specs.declared.cell.Cell.{Cell}
use Rattle.term_heap.proofs.Meanings.{nth-behind, meanings-push, meanings-more, meanings-from, meanings-at, meanings-before}

pub known : {X : Type 0} (o : Option X) (d : X) → is_some o ≡ true → o ≡ Some (unwrap_or o d)
known std.None d e = absurd (true≢false (sym e))
known (Some x) d e = refl

pub is-known : {X : Type 0} (o : Option X) (x : X) → o ≡ Some x → is_some o ≡ true
is-known o x e = ap is_some e

abbrev pub seen : List (List ℕ) → Parts → List Cell → List Term
seen us ps cells = unwrap_or (meanings us ps [] cells) []

abbrev pub Meant : List (List ℕ) → Parts → List Cell → Type 0
Meant us ps cells = is_some (meanings us ps [] cells) ≡ true

pub extends-by : {X : Type 0} (xs ys zs : List X) → zs ≡ xs ++ ys → Extends xs zs
extends-by xs ys zs e = e ∙ ap (◌++◌ xs) (sym (ap (drop (length xs)) e ∙ drop-append_seam xs ys))

pub extends-itself : {X : Type 0} (xs : List X) → Extends xs xs
extends-itself xs = extends-by xs [] xs (sym (append-nil xs))

pub extends-same : {X : Type 0} (xs ys : List X) → ys ≡ xs → Extends xs ys
extends-same xs ys e = extends-by xs [] ys (e ∙ sym (append-nil xs))

pub extends-if : {X : Type 0} (b : Bool) (xs ys zs : List X) → zs ≡ (if b then xs ++ ys else xs) → Extends xs zs
extends-if true xs ys zs e = extends-by xs ys zs e
extends-if false xs ys zs e = extends-by xs [] zs (e ∙ sym (append-nil xs))

pub extends-then : {X : Type 0} (xs ys zs : List X) → Extends xs ys → Extends ys zs → Extends xs zs
extends-then xs ys zs d e = extends-by xs (drop (length xs) ys ++ drop (length ys) zs) zs (e ∙ ap (λ ws. ws ++ drop (length ys) zs) d ∙ append_assoc xs (drop (length xs) ys) (drop (length ys) zs))

-- more texts and parts
pub grown-meant : (us vs : List (List ℕ)) (ps qs : Parts) (cells : List Cell) → Extends us vs → ExtendsParts ps qs → Meant us ps cells → meanings vs qs [] cells ≡ Some (seen us ps cells)
grown-meant us vs ps qs cells d e m =
    subst (λ (ws : List (List ℕ)). meanings ws qs [] cells ≡ Some (seen us ps cells)) (sym d)
    (meanings-more us (drop (length us) vs) ps qs e [] cells (seen us ps cells) (known (meanings us ps [] cells) [] m))

pub grown : (us vs : List (List ℕ)) (ps qs : Parts) (cells : List Cell) → Extends us vs → ExtendsParts ps qs → Meant us ps cells → Meant vs qs cells
grown us vs ps qs cells d e m = is-known (meanings vs qs [] cells) (seen us ps cells) (grown-meant us vs ps qs cells d e m)

pub grown-seen : (us vs : List (List ℕ)) (ps qs : Parts) (cells : List Cell) → Extends us vs → ExtendsParts ps qs → Meant us ps cells → seen vs qs cells ≡ seen us ps cells
grown-seen us vs ps qs cells d e m = ap (λ o. unwrap_or o []) (grown-meant us vs ps qs cells d e m)

-- one more cell
pub pushed-cells : (us : List (List ℕ)) (ps : Parts) (cells : List Cell) (cell : Cell) → Meant us ps cells → IsSome (meaning us ps (seen us ps cells) cell)
    → (t : Term) × (meaning us ps (seen us ps cells) cell ≡ Some t) × (meanings us ps [] (cells ++ cell ∷ []) ≡ Some (seen us ps cells ++ t ∷ []))
pushed-cells us ps cells cell m is = with_term (meaning us ps (seen us ps cells) cell) refl is
  where
    with_term : (o : Option Term) → meaning us ps (seen us ps cells) cell ≡ o → IsSome o
        → (t : Term) × (meaning us ps (seen us ps cells) cell ≡ Some t) × (meanings us ps [] (cells ++ cell ∷ []) ≡ Some (seen us ps cells ++ t ∷ []))
    with_term std.None e i = absurd (true≢false (sym i))
    with_term (Some t) e i = (t, e, meanings-push us ps [] cells (seen us ps cells) cell t (known (meanings us ps [] cells) [] m) e)

pub pushed : (b : Bool) (us : List (List ℕ)) (ps : Parts) (cells news : List Cell) (cell : Cell) → Meant us ps cells → IsSome (meaning us ps (seen us ps cells) cell)
    → news ≡ (if b then cells ++ cell ∷ [] else cells) → Meant us ps news
pushed true us ps cells news cell m is e =
    let p = pushed-cells us ps cells cell m is in
    subst (λ (zs : List Cell). Meant us ps zs) (sym e) (is-known (meanings us ps [] (cells ++ cell ∷ [])) (seen us ps cells ++ p.0 ∷ []) p.2)
pushed false us ps cells news cell m is e = subst (λ (zs : List Cell). Meant us ps zs) (sym e) m

pub pushed-seen : (b : Bool) (us : List (List ℕ)) (ps : Parts) (cells news : List Cell) (cell : Cell) → Meant us ps cells → IsSome (meaning us ps (seen us ps cells) cell)
    → news ≡ (if b then cells ++ cell ∷ [] else cells) → Extends (seen us ps cells) (seen us ps news)
pushed-seen true us ps cells news cell m is e =
    let p = pushed-cells us ps cells cell m is in
    extends-by (seen us ps cells) (p.0 ∷ []) (seen us ps news) (ap (seen us ps) e ∙ ap (λ o. unwrap_or o []) p.2)
pushed-seen false us ps cells news cell m is e = extends-by (seen us ps cells) [] (seen us ps news) (ap (seen us ps) e ∙ sym (append-nil (seen us ps cells)))

pub seen-length : (us : List (List ℕ)) (ps : Parts) (cells : List Cell) → Meant us ps cells → length (seen us ps cells) ≡ length cells
seen-length us ps cells m =
    let f = meanings-from us ps [] cells (seen us ps cells) (known (meanings us ps [] cells) [] m) in
    ap length f.1 ∙ f.2

-- the new cell's term stands at its place
pub pushed-term : (us : List (List ℕ)) (ps : Parts) (cells news : List Cell) (cell : Cell) (place : ℕ) → Meant us ps cells → IsSome (meaning us ps (seen us ps cells) cell)
    → news ≡ cells ++ cell ∷ [] → place ≡ length cells → slice_get (seen us ps news) place ≡ meaning us ps (seen us ps cells) cell
pushed-term us ps cells news cell place m is e at =
    let p = pushed-cells us ps cells cell m is in
    ap (λ (zs : List Cell). slice_get (seen us ps zs) place) e ∙ ap (λ o. slice_get (unwrap_or o []) place) p.2
    ∙ ap (slice_get (seen us ps cells ++ p.0 ∷ [])) (at ∙ sym (seen-length us ps cells m)) ∙ nth-behind (seen us ps cells) p.0 [] ∙ sym p.1

-- the cell at a place
pub cell-term : (us : List (List ℕ)) (ps : Parts) (cells : List Cell) (place : ℕ) (cell : Cell) → Meant us ps cells → slice_get cells place ≡ Some cell
    → (t : Term) × (meaning us ps (seen us ps cells) cell ≡ Some t) × (slice_get (seen us ps cells) place ≡ Some t)
cell-term us ps cells place cell m g =
    let r = meanings-at us ps [] cells (seen us ps cells) place cell (known (meanings us ps [] cells) [] m) g in
    (r.0, r.1, ap (slice_get (seen us ps cells)) (sym (zero-add place)) ∙ r.2)

pub cell-is : (us : List (List ℕ)) (ps : Parts) (cells : List Cell) (place : ℕ) (cell : Cell) → Meant us ps cells → slice_get cells place ≡ Some cell
    → meaning us ps (seen us ps cells) cell ≡ Some (unwrap_or (slice_get (seen us ps cells) place) Nil)
cell-is us ps cells place cell m g =
    let r = cell-term us ps cells place cell m g in
    r.1 ∙ ap (λ o. Some (unwrap_or o Nil)) (sym r.2)

-- it has it by the terms in front of its place
pub cell-before : (us : List (List ℕ)) (ps : Parts) (cells : List Cell) (place : ℕ) (cell : Cell) → Meant us ps cells → slice_get cells place ≡ Some cell → IsSome (meaning us ps (take place (seen us ps cells)) cell)
cell-before us ps cells place cell m g =
    let r = meanings-before us ps [] cells (seen us ps cells) place cell (known (meanings us ps [] cells) [] m) g in
    is-known _ r.0 (ap (λ k. meaning us ps (take k (seen us ps cells)) cell) (sym (zero-add place)) ∙ r.1)

-- an id that is held is below the count of cells
pub held-within : (us : List (List ℕ)) (ps : Parts) (cells : List Cell) (place : ℕ) → Meant us ps cells → IsSome (slice_get (seen us ps cells) place) → place < length cells
held-within us ps cells place m is =
    subst (λ n. place < n) (seen-length us ps cells m) (slice_get_within (seen us ps cells) place _ (known (slice_get (seen us ps cells) place) Nil is))

pub extends-parts-then : (ps qs rs : Parts) → ExtendsParts ps qs → ExtendsParts qs rs → ExtendsParts ps rs
extends-parts-then ps qs rs d e = record { ids = extends-then ps.ids qs.ids rs.ids d.ids e.ids; maps = extends-then ps.maps qs.maps rs.maps d.maps e.maps }

pub more-ids : (b : Bool) (ids new news : List TermId) (maps : List (List (TermId × TermId))) → news ≡ (if b then ids ++ new else ids) → ExtendsParts (stored ids maps) (stored news maps)
more-ids b ids new news maps e = record { ids = extends-if b ids new news e; maps = extends-itself maps }

pub more-maps : (ids : List TermId) (maps news : List (List (TermId × TermId))) → Extends maps news → ExtendsParts (stored ids maps) (stored ids news)
more-maps ids maps news e = record { ids = extends-itself ids; maps = e }
