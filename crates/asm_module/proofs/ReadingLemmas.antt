-- What was read before, in front of what is read of the rest.
use Rattle.std.proofs.Common.{◌≡◌, ℕ, ◌+◌, ◌<◌, suc, ◌++◌, List, [], ◌∷◌, Option, None, Some, drop, length, get_or, refl, sym, ap, ◌∙◌, add-one, drop-cons, append_assoc}
use Rattle.std.specs.Option.{option_map, option_and_then, option_zip}
use Rattle.ej_term.specs.declared.asm_term.AsmTerm.{AsmTerm}
use Rattle.asm_module.specs.Operands.{two_by_two}

abbrev pub onto : {X : Type 0} → List X → Option (List X) → Option (List X)
onto front rest = option_map (λ xs. front ++ xs) rest

-- an element, and what is behind it
pub dropped : {A : Type 0} (xs : List A) (i : ℕ) (x : A) → i < length xs → x ≡ get_or xs i x → drop i xs ≡ x ∷ drop (i + 1) xs
dropped xs i x within is = drop-cons xs i x within ∙ ap (λ y. y ∷ drop (suc i) xs) (sym is) ∙ ap (λ n. x ∷ drop n xs) (sym (add-one i))

-- two elements read together, behind what was read before
two-step : {A B : Type 0} (front : List (A × B)) (x : A × B) (rest : Option (List (A × B))) → onto (front ++ x ∷ []) rest ≡ onto front (option_map (λ xs. x ∷ xs) rest)
two-step front x None = refl
two-step front x (Some xs) = ap Some (append_assoc front (x ∷ []) xs)

pub two-kept : {A B : Type 0} (a : AsmTerm → Option A) (b : AsmTerm → Option B) (front front' : List (A × B)) (terms rest tail behind : List AsmTerm) (first second : AsmTerm) (x : A × B)
    → rest ≡ first ∷ tail → tail ≡ second ∷ behind → option_zip (a first) (b second) ≡ Some x → front' ≡ front ++ x ∷ [] → onto front (two_by_two a b rest) ≡ two_by_two a b terms
    → onto front' (two_by_two a b behind) ≡ two_by_two a b terms
two-kept a b front front' terms rest tail behind first second x r t e f same =
    ap (λ xs. onto xs (two_by_two a b behind)) f ∙ two-step front x (two_by_two a b behind)
    ∙ ap (λ o. onto front (option_and_then (λ y. option_map (λ ys. y ∷ ys) (two_by_two a b behind)) o)) (sym e)
    ∙ ap (λ ts. onto front (two_by_two a b ts)) (sym (r ∙ ap (λ ts. first ∷ ts) t)) ∙ same
