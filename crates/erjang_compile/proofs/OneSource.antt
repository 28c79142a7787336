-- Bytes read as the forms of one module at most, and the first fault of text, forms and labels is one.
use Rattle.std.proofs.Common.{◌≡◌, ℕ, List, Option, None, Some, IsSomeAnd, refl, sym, ap, ap₂, subst, ◌∙◌}
use Rattle.ej_term.specs.declared.asm_term.AsmTerm.{AsmTerm}
use Rattle.asm_terms.specs.declared.fault.TextFault.{TextFault}
use Rattle.asm_terms.specs.declared.fault.TextFault.TheVariants as text_fault
use Rattle.asm_terms.specs.Forms as text
use Rattle.asm_terms.specs.Forms.{AreForms, Cause, FirstFault as TextFirstFault}
use Rattle.asm_terms.proofs.FormsLaw.{one_reading}
use Rattle.asm_module.specs.declared.fault.FormFault.{FormFault}
use Rattle.asm_module.specs.declared.fault.FormFault.TheVariants as form_fault
use Rattle.asm_module.specs.Modules.{Stands, FirstFault}
use Rattle.asm_module.proofs.OneModule.{one_module as one_of_forms}
use Rattle.label_check.specs.declared.fault.LabelFault.{LabelFault}
use Rattle.label_check.specs.declared.fault.LabelFault.TheVariants as label_fault
use Rattle.label_check.specs.Told.{break_of}
use Rattle.beam_code.specs.declared.module.Module.{Module}
use Rattle.beam_code.specs.Code.{module_code}
use Rattle.beam_code.specs.Labels as labels
use Rattle.beam_code.specs.Labels.{Break, first_break, KeepsLabelRules}
use Rattle.beam_code.proofs.FirstBreak.{unbroken as unbroken_law}
use Rattle.erjang_compile.specs.Accepted.{KeepsRules}
use Rattle.erjang_compile.specs.Faults.{HasTextFault, FirstFormFault, HasFormFault, HasBreak}

-- bytes that are the forms of a module
pub record HasModule (bytes : List ℕ) (m : Module) : Type 0 where
  pub forms : List AsmTerm
  pub are_forms : AreForms bytes forms
  pub stands : Stands forms m

pub of_rules : (bytes : List ℕ) (m : Module) → KeepsRules bytes m → HasModule bytes m
of_rules bytes m r = record { forms = r.forms; are_forms = r.are_forms; stands = r.stands }

pub of_break : (bytes : List ℕ) (broken : Break) (h : HasBreak bytes broken) → HasModule bytes h.read
of_break bytes broken h = record { forms = h.forms; are_forms = h.are_forms; stands = h.stands }

same-forms : (bytes : List ℕ) (forms others : List AsmTerm) → AreForms bytes forms → AreForms bytes others → forms ≡ others
same-forms bytes forms others = (one_reading bytes).same_forms forms others

-- it is one module
pub same_module : (bytes : List ℕ) (m n : Module) → HasModule bytes m → HasModule bytes n → m ≡ n
same_module bytes m n a b =
    (one_of_forms a.forms).same_module m n a.stands (subst (λ fs. Stands fs n) (same-forms bytes b.forms a.forms b.are_forms a.are_forms) b.stands)

-- Faults of the text.

abbrev text_fault_of : ℕ → Cause → TextFault
text_fault_of form text.BadText = text_fault.BadText form
text_fault_of form text.TooDeep = text_fault.TooDeep form

-- a fault of a text, as the reader of texts counts it
record TextFirst (bytes : List ℕ) (fault : TextFault) : Type 0 where
  form : ℕ
  cause : Cause
  first : TextFirstFault bytes form cause
  is : fault ≡ text_fault_of form cause

text-first : (bytes : List ℕ) (fault : TextFault) → HasTextFault bytes fault → TextFirst bytes fault
text-first bytes (text_fault.BadText form) p = record { form = form; cause = text.BadText; first = p; is = refl }
text-first bytes (text_fault.TooDeep form) p = record { form = form; cause = text.TooDeep; first = p; is = refl }
text-first bytes text_fault.NoMemory p = absurd p

told-same : (bytes : List ℕ) (e f : TextFault) → TextFirst bytes e → TextFirst bytes f → e ≡ f
told-same bytes e f p q =
    let same = (one_reading bytes).same_fault p.form q.form p.cause q.cause p.first q.first in
    p.is ∙ ap₂ text_fault_of same.0 same.1 ∙ sym q.is

pub same_text_fault : (bytes : List ℕ) (e f : TextFault) → HasTextFault bytes e → HasTextFault bytes f → e ≡ f
same_text_fault bytes e f p q = told-same bytes e f (text-first bytes e p) (text-first bytes f q)

-- what has forms has none
pub no_forms : {G : Type 0} (bytes : List ℕ) (fault : TextFault) (forms : List AsmTerm) → HasTextFault bytes fault → AreForms bytes forms → G
no_forms bytes fault forms p are =
    let first = text-first bytes fault p in absurd ((one_reading bytes).not_both forms first.form first.cause are first.first)

-- Faults of forms.

pub form_first : (bytes : List ℕ) (fault : FormFault) → HasFormFault bytes fault → FirstFormFault bytes fault
form_first bytes (form_fault.BadForm form) p = p
form_first bytes (form_fault.OutsideProfile func index name) p = p
form_first bytes (form_fault.BadInstruction func index) p = p
form_first bytes form_fault.NoMemory p = absurd p

found-same : (bytes : List ℕ) (e f : FormFault) → FirstFormFault bytes e → FirstFormFault bytes f → e ≡ f
found-same bytes e f a b =
    (one_of_forms a.forms).same_fault e f a.first (subst (λ fs. FirstFault fs f) (same-forms bytes b.forms a.forms b.are_forms a.are_forms) b.first)

pub same_form_fault : (bytes : List ℕ) (e f : FormFault) → HasFormFault bytes e → HasFormFault bytes f → e ≡ f
same_form_fault bytes e f p q = found-same bytes e f (form_first bytes e p) (form_first bytes f q)

-- forms with a fault are no module's
pub no_module : {G : Type 0} (bytes : List ℕ) (e : FormFault) (m : Module) → HasFormFault bytes e → HasModule bytes m → G
no_module bytes e m p h =
    let first = form_first bytes e p in
    absurd ((one_of_forms h.forms).not_both m e h.stands (subst (λ fs. FirstFault fs e) (same-forms bytes first.forms h.forms first.are_forms h.are_forms) first.first))

-- Breaks of label rules.

some-told : (x y : Break) → ◌≡◌ {A = Option Break} (Some x) (Some y) → x ≡ y
some-told x y e = cc

none-told : {G : Type 0} (x : Break) → ◌≡◌ {A = Option Break} None (Some x) → G
none-told x e = absurd (cc)

abbrev label_fault_of : Break → LabelFault
label_fault_of (labels.Twice label) = label_fault.Twice label
label_fault_of (labels.Missing func index label) = label_fault.Missing func index label
label_fault_of (labels.BadEntry func) = label_fault.BadEntry func
label_fault_of (labels.BadArity func index) = label_fault.BadArity func index

-- a fault of labels, as the label rules tell it
pub record LabelFirst (bytes : List ℕ) (fault : LabelFault) : Type 0 where
  pub broken : Break
  pub first : HasBreak bytes broken
  pub is : fault ≡ label_fault_of broken

pub label_first : (bytes : List ℕ) (fault : LabelFault) → IsSomeAnd (break_of fault) (HasBreak bytes) → LabelFirst bytes fault
label_first bytes (label_fault.Twice label) p = record { broken = labels.Twice label; first = p; is = refl }
label_first bytes (label_fault.Missing func index label) p = record { broken = labels.Missing func index label; first = p; is = refl }
label_first bytes (label_fault.BadEntry func) p = record { broken = labels.BadEntry func; first = p; is = refl }
label_first bytes (label_fault.BadArity func index) p = record { broken = labels.BadArity func index; first = p; is = refl }
label_first bytes label_fault.NoMemory p = absurd p

same-break : (bytes : List ℕ) (x y : Break) → HasBreak bytes x → HasBreak bytes y → x ≡ y
same-break bytes x y a b =
    some-told x y (sym a.first ∙ ap (λ m. first_break (module_code m)) (same_module bytes a.read b.read (of_break bytes x a) (of_break bytes y b)) ∙ b.first)

pub same_label_fault : (bytes : List ℕ) (e f : LabelFault) → LabelFirst bytes e → LabelFirst bytes f → e ≡ f
same_label_fault bytes e f p q = p.is ∙ ap label_fault_of (same-break bytes p.broken q.broken p.first q.first) ∙ sym q.is

-- what keeps the rules has none
pub no_break : {G : Type 0} (bytes : List ℕ) (x : Break) (m : Module) → HasBreak bytes x → KeepsRules bytes m → G
no_break bytes x m a b =
    none-told x (sym (unbroken_law (module_code m) b.keeps_labels)
    ∙ ap (λ n. first_break (module_code n)) (same_module bytes m a.read (of_rules bytes m b) (of_break bytes x a)) ∙ a.first)
