-- A readable term's print is read back as that term.
use Rattle.std.proofs.Common.{◌≡◌, ℕ, true, not, List, [], ◌∷◌, ◌++◌, codes, Some, refl, sym, ap, ◌∙◌, subst}
use Rattle.std.proofs.lemmas.Bool.{and_parts, and_from, not-false}
use Rattle.ej_term.specs.declared.asm_term.AsmTerm.{AsmTerm}
use Rattle.ej_term.specs.Term.{Term}
use Rattle.ej_term.specs.TermPrint.{print}
use Rattle.ej_term.specs.AsmValue.{value}
use Rattle.ej_term.proofs.Options.{unsome}
use Rattle.asm_terms.specs.Forms.{IsForm, AreFormsOf, AreForms}
use Rattle.asm_terms.specs.Grammar.{too_deep}
use Rattle.asm_terms.specs.Splitting.{HasMore, at_end, blank}
use Rattle.asm_terms.proofs.FormsLaw.{one_reading}
use Rattle.asm_terms.proofs.SplitLaw.{skipped, has_tokens, one_split}
use Rattle.ej_term.specs.WellFormed.{everywhere, is_well_formed}
use Rattle.ej_term.specs.Readable.{is_sayable, is_shallow, is_readable}
use Rattle.term_text.specs.Laws.{IsRead, PrintsAreRead}
use Rattle.term_text.proofs.Ascii.{print-characters, print-scalars}
use Rattle.term_text.proofs.Sound.{Sound, sound, formed}
use Rattle.term_text.proofs.GoodTokens.{form-good}
use Rattle.term_text.proofs.SoundForms.{spelled-sound}
use Rattle.term_text.proofs.Spelled.{tokens, as_source}
use Rattle.term_text.proofs.Lexing.{print-solid, print-tokens}
use Rattle.term_text.proofs.Grammatical.{spells}
use Rattle.term_text.proofs.Valued.{stands-for}
use Rattle.term_text.proofs.Depth.{print-depth}

not-empty : (xs ys : List ℕ) (y : ℕ) → xs ++ y ∷ ys ≡ [] → ⊥
not-empty [] ys y e = cc
not-empty (x ∷ xs) ys y e = cc

not-blank : (t : Term) → Sound t → HasMore (print t ++ codes ".\n")
not-blank t s e = not-empty (print t) (10 ∷ []) 46 (sym (print-solid t s) ∙ skipped e)

print-form : (t : Term) → Sound t → is_shallow 0 t ≡ true → IsForm (print t ++ codes ".\n") (as_source t) (codes "\n")
print-form t s shallow = record {
  tokens = tokens t [];
  spelled = has_tokens (print t ++ codes ".\n") (tokens t []) (codes "\n") (print-tokens t s);
  shallow = print-depth t s ∙ ap not shallow;
  is_term = spells t s [];
}

-- a print and a full stop are one form
pub sound-forms : (t : Term) → Sound t → is_shallow 0 t ≡ true → AreForms (print t ++ codes ".\n") (as_source t ∷ [])
sound-forms t s shallow = subst (λ text. AreFormsOf text (as_source t ∷ [])) (sym (print-characters t)) (not-blank t s, codes "\n", print-form t s shallow, blank 10 [] [] refl at_end)

read : (t : Term) → is_well_formed t ≡ true → is_readable t ≡ true → IsRead (print t) t
read t well_formed readable =
    let parts = and_parts (is_shallow 0 t) (everywhere is_sayable t) readable in
    let s = sound t well_formed parts.1 in
    record { form = as_source t; is_form = sound-forms t s parts.0; stands = stands-for t s }

first_or : AsmTerm → List AsmTerm → AsmTerm
first_or default [] = default
first_or default (form ∷ forms) = form

one-term : (bytes : List ℕ) (term other : Term) → IsRead bytes term → IsRead bytes other → term ≡ other
unfolding first_or
one-term bytes term other r o =
    let reading = one_reading (bytes ++ codes ".\n") in
    let same = ap (first_or r.form) (reading.same_forms (r.form ∷ []) (o.form ∷ []) r.is_form o.is_form) in
    unsome term other (sym r.stands ∙ ap value same ∙ o.stands)

-- the tokens of a print are not too deep
shallow-form : (t : Term) (form : AsmTerm) (rest : List ℕ) → Sound t → IsForm (print t ++ codes ".\n") form rest → is_shallow 0 t ≡ true
shallow-form t form rest s is =
    let spelled = has_tokens (print t ++ codes ".\n") (tokens t []) (codes "\n") (print-tokens t s) in
    let same = one_split (print t ++ codes ".\n") is.tokens (tokens t []) rest (codes "\n") is.spelled spelled in
    not-false (is_shallow 0 t) (sym (print-depth t s) ∙ ap too_deep (sym same.0) ∙ is.shallow)

no-other-form : (t : Term) (form : AsmTerm) (rest : List ℕ) → IsForm (print t ++ codes ".\n") form rest → value form ≡ Some t → (is_well_formed t ≡ true) × (is_readable t ≡ true)
no-other-form t form rest is stands =
    let s = spelled-sound is.tokens form t is.is_term (form-good (print t ++ codes ".\n") is.tokens rest (print-scalars t) is.spelled) stands in
    let f = formed t s in
    (f.0, and_from (is_shallow 0 t) (everywhere is_sayable t) (shallow-form t form rest s is) f.1)

no-other : (t : Term) → IsRead (print t) t → (is_well_formed t ≡ true) × (is_readable t ≡ true)
no-other t r =
    let forms = subst (λ text. AreFormsOf text (r.form ∷ [])) (print-characters t) r.is_form in
    no-other-form t r.form forms.1 forms.2 r.stands

pub law : PrintsAreRead
law = record { read = read; no_other = no-other; one_term = one-term }
