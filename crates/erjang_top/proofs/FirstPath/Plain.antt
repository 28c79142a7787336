-- What the names and sources of a plain module are written as.
use Rattle.std.proofs.Common.{◌≡◌, ℕ, ◌<◌, ◌^◌, true, ◌&&◌, nat_lt, List, length, ap, sym, ◌∙◌, subst, arith}
use Rattle.std.specs.Prelude.{ℤ}
use Rattle.std.specs.Int.{w64}
use Rattle.std.proofs.Math.Facts.{to_z-of_z}
use mir.Val.{to_z, of_z}
use Rattle.std.specs.List.{list_all, AllByRecursion}
use Rattle.std.proofs.lemmas.Bool.{and_parts}
use Rattle.beam_code.specs.declared.module.Function.{Function}
use Rattle.beam_code.specs.declared.module.Module.{Module}
use Rattle.erjang_top.specs.first_path.LabelRules.{opcodes}
use Rattle.erjang_top.specs.first_path.Opcode.{Integer, Source, Of, Opcode}
use Rattle.erjang_top.specs.first_path.Accepted.{is_atom_name, is_thin_opcode, is_thin_function, is_thin_module, is_thin_source}
use Rattle.erjang_top.specs.Mangle.{class_name, method_name}
use Rattle.erjang_top.specs.first_path.ModuleClass.{body}
use Rattle.erjang_top.proofs.FirstPath.NameText.{class_name_text, method_name_text}
use Rattle.erjang_top.proofs.FirstPath.ThinValues.{all-true, integer-fits, thin-function, thin-module, behind-all}

pub functions_plain : (m : Module) → is_thin_module m ≡ true → AllByRecursion (λ f. is_thin_function f ≡ true) m.functions
functions_plain m h = all-true is_thin_function m.functions (and_parts (is_atom_name m.name && nat_lt 0 (length m.name)) (list_all is_thin_function m.functions) h).1

pub method_name_short : (f : Function) (bytes : List ℕ) → is_thin_function f ≡ true → bytes ≡ method_name f.name f.arity → length bytes < 2 ^ 16
method_name_short f bytes h e =
    let p = thin-function f h in
    let arity : f.arity < 256 = omega (arith, p.arity) in
    let t = method_name_text f.name f.arity p.name arity in
    omega (arith, t.short, ap length e)

pub class_name_short : (m : Module) (bytes : List ℕ) → is_thin_module m ≡ true → bytes ≡ class_name m.name → length bytes < 2 ^ 16
class_name_short m bytes h e = let t = class_name_text m.name (thin-module m h).name in omega (arith, t.short, ap length e)

pub body_plain : (f : Function) (code : List Opcode) → AllByRecursion (λ o. is_thin_opcode o ≡ true) (opcodes f) → code ≡ body f → AllByRecursion (λ o. is_thin_opcode o ≡ true) code
body_plain f code all e = let P = λ (o : Opcode). is_thin_opcode o ≡ true in subst (AllByRecursion P) (sym e) (behind-all P f.entry (opcodes f) all)

-- an integer of a source comes through its 64 bits
pub integer_same : (from : Source) (z : ℤ) → from ≡ Of (Integer z) → is_thin_source from ≡ true → to_z w64 (of_z w64 z) ≡ z
integer_same from z e h = to_z-of_z (integer-fits z (ap is_thin_source (sym e) ∙ h))
