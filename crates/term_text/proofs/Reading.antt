-- What the forms of bytes and a full stop tell of the bytes: whether they are a readable term's print, and whose.
use Rattle.std.proofs.Common.{◌≡◌, ◌≢◌, ℕ, true, false, not, List, [], ◌∷◌, ◌++◌, codes, Option, Some, None, is_some, refl, sym, ap, ◌∙◌, subst, true≢false}
use Rattle.std.specs.Prelude.{Result, Ok, Err}
use Rattle.std.proofs.lemmas.Option.{none-some}
use Rattle.ej_term.specs.declared.asm_term.AsmTerm.{AsmTerm}
use Rattle.ej_term.specs.Term.{Term}
use Rattle.ej_term.specs.TermPrint.{print}
use Rattle.ej_term.specs.AsmValue.{value, has_opaque}
use Rattle.ej_term.proofs.OpaqueLaw as opaque
use Rattle.ej_term.proofs.Options.{unsome}
use Rattle.asm_terms.specs.Forms.{AreForms, FirstFault, Cause}
use Rattle.asm_terms.proofs.FormsLaw.{one_reading}
use Rattle.term_heap.specs.declared.cell.TermId.{TermId}
use Rattle.term_heap.specs.declared.heap.Heap.{Heap}
use Rattle.term_heap.specs.View.{Holds, term_of}
use Rattle.term_heap.specs.Loaded.{IsLoaded}
use Rattle.term_text.specs.declared.fault.ReadFault.{ReadFault}
use Rattle.term_text.specs.declared.fault.ReadFault.TheVariants as fault
use Rattle.term_text.specs.Laws.{IsRead}
use Rattle.ej_term.specs.Prints.{IsPrint, IsNoPrint}
use Rattle.term_text.specs.Reads.{Reads, Checks}
use Rattle.term_text.proofs.Law.{law}

-- a print is read as its term
pub print-read : (bytes : List ℕ) (t : Term) → IsPrint bytes t → IsRead bytes t
print-read bytes t p = subst (λ text. IsRead text t) p.printed (law.read t p.well_formed p.readable)

-- what is read and prints as these bytes is readable
pub read-print : (bytes : List ℕ) (t : Term) → IsRead bytes t → print t ≡ bytes → IsPrint bytes t
read-print bytes t r e = let o = law.no_other t (subst (λ text. IsRead text t) (sym e) r) in record { printed = e; well_formed = o.0; readable = o.1 }

-- bytes are one term's print at most
pub one-print : (bytes : List ℕ) (t u : Term) → IsPrint bytes t → IsPrint bytes u → t ≡ u
one-print bytes t u p q = law.one_term bytes t u (print-read bytes t p) (print-read bytes u q)

-- the forms of a print and a full stop
pub print-forms : (bytes : List ℕ) (t : Term) (forms : List AsmTerm) → IsPrint bytes t → AreForms (bytes ++ codes ".\n") forms → (form : AsmTerm) × (forms ≡ form ∷ []) × (value form ≡ Some t)
print-forms bytes t forms p are =
    let r = print-read bytes t p in
    let one = one_reading (bytes ++ codes ".\n") in
    (r.form, one.same_forms forms (r.form ∷ []) are r.is_form, r.stands)

-- bytes that are refused are no print
pub fault-no-print : (bytes : List ℕ) (form : ℕ) (cause : Cause) → FirstFault (bytes ++ codes ".\n") form cause → IsNoPrint bytes
fault-no-print bytes form cause fault t p =
    let r = print-read bytes t p in
    let one = one_reading (bytes ++ codes ".\n") in
    one.not_both (r.form ∷ []) form cause r.is_form fault

-- nor are bytes that are no form, or several
pub several-no-print : (bytes : List ℕ) (forms : List AsmTerm) → AreForms (bytes ++ codes ".\n") forms → ((form : AsmTerm) → forms ≡ form ∷ [] → ⊥) → IsNoPrint bytes
several-no-print bytes forms are other t p = let f = print-forms bytes t forms p are in other f.0 f.1

form_or : AsmTerm → List AsmTerm → AsmTerm
form_or default [] = default
form_or default (form ∷ forms) = form

-- the form of a print stands for its term
pub form-value : (bytes : List ℕ) (t : Term) (form : AsmTerm) → IsPrint bytes t → AreForms (bytes ++ codes ".\n") (form ∷ []) → value form ≡ Some t
unfolding form_or
form-value bytes t form p are =
    let f = print-forms bytes t (form ∷ []) p are in
    ap value (ap (form_or form) f.1) ∙ f.2

-- bytes whose form stands for no term are no print
pub valueless-no-print : (bytes : List ℕ) (form : AsmTerm) → AreForms (bytes ++ codes ".\n") (form ∷ []) → value form ≡ None → IsNoPrint bytes
valueless-no-print bytes form are none t p = none-some t (sym none ∙ form-value bytes t form p are)

-- nor are bytes whose form stands for a term that prints otherwise
pub other-no-print : (bytes : List ℕ) (form : AsmTerm) (v : Term) → AreForms (bytes ++ codes ".\n") (form ∷ []) → value form ≡ Some v → print v ≢ bytes → IsNoPrint bytes
other-no-print bytes form v are stands other t p =
    let same = unsome v t (sym stands ∙ form-value bytes t form p are) in
    other (ap print same ∙ p.printed)

-- and those whose form's term prints as they are are its print
pub form-print : (bytes : List ℕ) (form : AsmTerm) (v : Term) → AreForms (bytes ++ codes ".\n") (form ∷ []) → value form ≡ Some v → print v ≡ bytes → IsPrint bytes v
form-print bytes form v are stands e = read-print bytes v (record { form = form; is_form = are; stands = stands }) e

opaque-none : (form : AsmTerm) → has_opaque form ≡ true → value form ≡ None
opaque-none form is = none (value form) (opaque.law form ∙ ap not is)
  where
    none : (o : Option Term) → is_some o ≡ false → o ≡ None
    none None e = refl
    none (Some t) e = absurd (true≢false e)

-- bytes whose form holds an opaque token are no print
pub opaque-no-print : (bytes : List ℕ) (form : AsmTerm) → AreForms (bytes ++ codes ".\n") (form ∷ []) → has_opaque form ≡ true → IsNoPrint bytes
opaque-no-print bytes form are is = valueless-no-print bytes form are (opaque-none form is)

-- what is loaded and checked is read
pub reads-checked : (heap : Heap) (bytes : List ℕ) (form : AsmTerm) (id : TermId) (result : Result TermId ReadFault) → AreForms (bytes ++ codes ".\n") (form ∷ []) → IsLoaded heap form id
    → Checks heap bytes id result → Reads heap bytes result
reads-checked heap bytes form id (Ok same) are loaded checks =
    subst (λ (i : TermId). Holds heap i × IsPrint bytes (term_of heap i)) (sym checks.0)
    (loaded.0, form-print bytes form (term_of heap id) are loaded.1 checks.1)
reads-checked heap bytes form id (Err fault.BadText) are loaded checks = other-no-print bytes form (term_of heap id) are loaded.1 checks
reads-checked heap bytes form id (Err fault.NoMemory) are loaded checks = tt
