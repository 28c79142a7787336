-- Forms are those of one module at most, or have one first fault.
use Rattle.std.proofs.Common.{◌≡◌, List, Result, Ok, Err, sym, ◌∙◌}
use Rattle.ej_term.specs.declared.asm_term.AsmTerm.{AsmTerm}
use Rattle.asm_module.specs.declared.fault.FormFault.{FormFault}
use Rattle.asm_module.specs.Modules.{OneModule}
use Rattle.beam_code.specs.Parts.{ModuleParts, module_parts}
use Rattle.beam_code.proofs.PartsLaw.{same_parts}

ok_told : (x y : ModuleParts) → ◌≡◌ {A = Result ModuleParts FormFault} (Ok x) (Ok y) → x ≡ y
ok_told x y e = cc

err_told : (x y : FormFault) → ◌≡◌ {A = Result ModuleParts FormFault} (Err x) (Err y) → x ≡ y
err_told x y e = cc

clash : (x : ModuleParts) (y : FormFault) → ◌≡◌ {A = Result ModuleParts FormFault} (Ok x) (Err y) → ⊥
clash x y e = absurd (cc)

pub one_module : (forms : List AsmTerm) → OneModule forms
one_module forms = record {
  same_module = λ m n a b. same_parts m n (ok_told _ _ (sym a ∙ b));
  same_fault = λ fault other a b. err_told fault other (sym a ∙ b);
  not_both = λ m fault a b. clash (module_parts m) fault (sym a ∙ b);
}
