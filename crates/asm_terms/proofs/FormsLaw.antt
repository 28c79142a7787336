-- A file has one row of forms at most, or one first fault, and not both.
use Rattle.std.proofs.Common.{◌≡◌, inl, inr, ℕ, zero, suc, Bool, true, false, List, [], ◌∷◌, refl, sym, ap, ◌∙◌, subst}
use Rattle.ej_term.specs.declared.asm_term.AsmTerm.{AsmTerm}
use Rattle.asm_terms.specs.Characters.{characters}
use Rattle.asm_terms.specs.Grammar.{IsTerm, too_deep}
use Rattle.asm_terms.specs.Forms.{IsForm, AreFormsOf, Cause, BadText, TooDeep, Refused, RefusedAt, OneReading}
use Rattle.asm_terms.proofs.GrammarLaw.{one_term}
use Rattle.asm_terms.proofs.SplitLaw.{one_split}

not_both_depths : (b : Bool) → b ≡ true → b ≡ false → ⊥
not_both_depths b e f = cc

-- a text begins with one form at most
pub one_form : (text : List ℕ) (f g : AsmTerm) (rest rest' : List ℕ) → IsForm text f rest → IsForm text g rest' → (f ≡ g) × (rest ≡ rest')
one_form text f g rest rest' a b =
    let same = one_split text a.tokens b.tokens rest rest' a.spelled b.spelled in
    ((one_term a.is_term (subst (λ ts. IsTerm ts g []) (sym same.0) b.is_term)).0, same.1)

-- a text that begins with a form is not refused
pub not_refused : (text : List ℕ) (f : AsmTerm) (rest : List ℕ) (cause : Cause) → IsForm text f rest → Refused text cause → ⊥
not_refused text f rest TooDeep a r =
    let same = one_split text a.tokens r.1.tokens rest r.1.rest a.spelled r.1.spelled in
    not_both_depths (too_deep a.tokens) (ap too_deep same.0 ∙ r.1.deep) a.shallow
not_refused text f rest BadText a r = elim r.1 [
  | inl none ↦ none a.tokens rest a.spelled
  | inr s ↦ let same = one_split text a.tokens s.tokens rest s.rest a.spelled s.spelled in
      s.no_term f (subst (λ ts. IsTerm ts f []) same.0 a.is_term)
]

-- a form that is too deep has tokens and is not bad text
deep_is_not_bad : (text : List ℕ) → Refused text TooDeep → Refused text BadText → ⊥
deep_is_not_bad text r s = elim s.1 [
  | inl none ↦ none r.1.tokens r.1.rest r.1.spelled
  | inr n ↦ let same = one_split text r.1.tokens n.tokens r.1.rest n.rest r.1.spelled n.spelled in
      not_both_depths (too_deep r.1.tokens) r.1.deep (ap too_deep same.0 ∙ n.shallow)
]

-- a text is refused for one cause
pub one_cause : (text : List ℕ) (cause cause' : Cause) → Refused text cause → Refused text cause' → cause ≡ cause'
one_cause text TooDeep TooDeep r s = refl
one_cause text BadText BadText r s = refl
one_cause text TooDeep BadText r s = absurd (deep_is_not_bad text r s)
one_cause text BadText TooDeep r s = absurd (deep_is_not_bad text s r)

same_rows : (text : List ℕ) (forms others : List AsmTerm) → AreFormsOf text forms → AreFormsOf text others → forms ≡ others
same_rows text [] [] a b = refl
same_rows text [] (other ∷ others) a b = absurd (b.0 a)
same_rows text (form ∷ forms) [] a b = absurd (a.0 b)
same_rows text (form ∷ forms) (other ∷ others) a b =
    let one = one_form text form other a.1 b.1 a.2 b.2 in
    let more = same_rows a.1 forms others a.3 (subst (λ rest. AreFormsOf rest others) (sym one.1) b.3) in
    ap (λ f. f ∷ forms) one.0 ∙ ap (λ fs. other ∷ fs) more

no_fault : (text : List ℕ) (forms : List AsmTerm) (form : ℕ) (cause : Cause) → AreFormsOf text forms → RefusedAt text form cause → ⊥
no_fault text [] zero TooDeep a r = r.0 a
no_fault text [] zero BadText a r = r.0 a
no_fault text [] (suc n) cause a r = r.0 a
no_fault text (form ∷ forms) zero cause a r = not_refused text form a.1 cause a.2 r
no_fault text (form ∷ forms) (suc n) cause a r =
    let one = one_form text form r.1 a.1 r.2 a.2 r.3 in
    no_fault a.1 forms n cause a.3 (subst (λ rest. RefusedAt rest n cause) (sym one.1) r.4)

one_fault : (text : List ℕ) (form form' : ℕ) (cause cause' : Cause) → RefusedAt text form cause → RefusedAt text form' cause' → (form ≡ form') × (cause ≡ cause')
one_fault text zero zero cause cause' r s = (refl, one_cause text cause cause' r s)
one_fault text zero (suc n) cause cause' r s = absurd (not_refused text s.1 s.2 cause s.3 r)
one_fault text (suc n) zero cause cause' r s = absurd (not_refused text r.1 r.2 cause' r.3 s)
one_fault text (suc n) (suc m) cause cause' r s =
    let one = one_form text r.1 s.1 r.2 s.2 r.3 s.3 in
    let more = one_fault r.2 n m cause cause' r.4 (subst (λ rest. RefusedAt rest m cause') (sym one.1) s.4) in
    (ap suc more.0, more.1)

pub one_reading : (bytes : List ℕ) → OneReading bytes
one_reading bytes = record {
  one_split = one_split;
  same_forms = same_rows (characters bytes);
  not_both = no_fault (characters bytes);
  same_fault = one_fault (characters bytes);
}
