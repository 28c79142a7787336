-- The faults of the checks as faults of the source.
use Rattle.std.proofs.Common.{◌≡◌, List, ℕ, Result, Ok, Err, sym, subst}
use Rattle.std.specs.Result.{IsErrAnd}
use Rattle.ej_term.specs.declared.asm_term.AsmTerm.{AsmTerm}
use Rattle.asm_terms.specs.Forms.{AreForms}
use Rattle.asm_module.specs.Modules.{Stands}
use Rattle.label_check.specs.declared.fault.LabelFault.{LabelFault}
use Rattle.label_check.specs.declared.fault.LabelFault.TheVariants as label_fault
use Rattle.label_check.specs.Told.{TellsFault}
use Rattle.beam_code.specs.declared.module.Module.{Module}
use Rattle.beam_code.specs.Code.{module_code}
use Rattle.beam_code.specs.Labels.{first_break}
use Rattle.erjang_compile.specs.declared.fault.SourceFault.{SourceFault}
use Rattle.erjang_compile.specs.declared.fault.SourceFault.TheVariants as fault
use Rattle.erjang_compile.specs.Accepted.{KeepsRules}
use Rattle.erjang_compile.specs.Answers.{Answers, IsFirst}
use Rattle.erjang_compile.specs.Raised.{of_labels}

-- a fault is an answer
refused : (bytes : List ℕ) (f : SourceFault) → IsFirst bytes f → Answers (KeepsRules bytes) (IsFirst bytes) (Err f)
refused bytes (fault.Text e) p = p
refused bytes (fault.Form e) p = p
refused bytes (fault.Label e) p = p
refused bytes (fault.NotSlotted func) p = p
refused bytes (fault.TooLarge size) p = p
refused bytes fault.NoMemory p = tt

-- a break of a label rule in the module that is read
first-broken : (bytes : List ℕ) (forms : List AsmTerm) (m : Module) (f : LabelFault) → AreForms bytes forms → Stands forms m → TellsFault f (first_break (module_code m)) → IsFirst bytes (of_labels f)
first-broken bytes forms m (label_fault.Twice label) are stands e = λ sizes. record { forms = forms; are_forms = are; read = m; stands = stands; first = e }
first-broken bytes forms m (label_fault.Missing func index label) are stands e = λ sizes. record { forms = forms; are_forms = are; read = m; stands = stands; first = e }
first-broken bytes forms m (label_fault.BadEntry func) are stands e = λ sizes. record { forms = forms; are_forms = are; read = m; stands = stands; first = e }
first-broken bytes forms m (label_fault.BadArity func index) are stands e = λ sizes. record { forms = forms; are_forms = are; read = m; stands = stands; first = e }
first-broken bytes forms m label_fault.NoMemory are stands e = λ sizes. tt

pub broken : (bytes : List ℕ) (forms read : List AsmTerm) (m : Module) (f : LabelFault) (result : Result Module SourceFault) → AreForms bytes forms → read ≡ forms → Stands read m
    → TellsFault f (first_break (module_code m)) → IsErrAnd result (λ e. e ≡ of_labels f) → Answers (KeepsRules bytes) (IsFirst bytes) result
broken bytes forms read m f (Ok n) are same stands e h = absurd h
broken bytes forms read m f (Err told) are same stands e h =
    refused bytes told (subst (IsFirst bytes) (sym h) (first-broken bytes forms m f are (subst (λ fs. Stands fs m) same stands) e))
