-- Of a module that is read from a text all names and numbers are in range.
use Rattle.std.proofs.Common.{◌≡◌, ℕ, ℤ, pos, negsuc, true, false, ◌&&◌, nat_lt, nat_le, List, [], ◌∷◌, map, length, Option, None, Some, unwrap_or, IfSome, Result, IfOk, refl, ap, ap₂, ◌∙◌, subst, arith}
use Rattle.std.specs.List.{list_all}
use Rattle.std.proofs.lemmas.Bool.{and_from, lt-ltb}
use Rattle.beam_code.specs.declared.instr.Instr.{Instr}
use Rattle.beam_code.specs.declared.module.Function.{Function}
use Rattle.beam_code.specs.declared.module.Module.{Module}
use Rattle.beam_code.specs.declared.operand.Src.TheVariants as source
use Rattle.beam_code.specs.declared.operand.Reg.TheVariants as register
use Rattle.erjang_top.specs.first_path.Accepted.{is_atom_name, is_integer, is_count, is_thin_source, is_thin_opcode, is_thin_function, is_thin_module}
use Rattle.beam_code.specs.Code.{opcode as opcode_of}
use Rattle.beam_code.specs.Decoded.{decoded_row}
use Rattle.beam_code.specs.Opcode as w
use Rattle.erjang_top.specs.first_path.LabelRules.{opcodes}
use Rattle.erjang_top.specs.first_path.Opcode.{opcode, thin, X, Of, Integer, Atom, Nil, is_known}
use Rattle.beam_code.specs.Parts.{parts_of, function_parts, module_parts, ModuleParts}
use Rattle.erjang_top.proofs.FirstPath.GoodOpcodes.{GoodOpcode, decoded-good}
use Rattle.asm_module.specs.Terms.{is_word}
use Rattle.asm_module.specs.declared.fault.FormFault.{FormFault}
use Rattle.erjang_top.specs.first_path.Built.{knows}
use Rattle.erjang_top.specs.first_path.Ranges.{Ranges}
use Rattle.erjang_top.proofs.GoodTerms.{forms-good}
use Rattle.asm_module.specs.Ranges.{Bits, EachOperand, EachInstruction, GoodFunction, EachFunction, GoodParts}
use Rattle.asm_module.proofs.InRange.{reading-good}

-- ---- instructions

bits-integer : (n : ℤ) → Bits n → is_integer n ≡ true
bits-integer (pos n) h = h
bits-integer (negsuc n) h = h

-- an instruction whose names and integers are in range and whose operands fit is one that is read so far, if it is known
thin-known : (o : w.Opcode) → GoodOpcode o → is_thin_opcode (thin o) ≡ is_known (thin o)
thin-known (w.Label n) g = g
thin-known (w.FuncInfo owner name arity) g =
    and_from (is_atom_name owner && is_atom_name name) (is_count arity) (and_from (is_atom_name owner) (is_atom_name name) g.0 g.1) g.2
thin-known (w.Move (source.Reg (register.X n)) (register.X to)) g = and_from (is_thin_source (X n)) (nat_le to 1023) g.1 g.2
thin-known (w.Move (source.Reg (register.Y n)) (register.X to)) g = refl
thin-known (w.Move (source.Int n) (register.X to)) g = and_from (is_thin_source (Of (Integer n))) (nat_le to 1023) (bits-integer n g.0) g.2
thin-known (w.Move (source.Atom name) (register.X to)) g = and_from (is_thin_source (Of (Atom name))) (nat_le to 1023) g.0 g.2
thin-known (w.Move source.Nil (register.X to)) g = and_from (is_thin_source (Of Nil)) (nat_le to 1023) refl g.2
thin-known (w.Move (source.Literal t) (register.X to)) g = refl
thin-known (w.Move from (register.Y to)) g = refl
thin-known _ g = refl

instruction-thin : (i : Instr) → EachOperand i.operands → is_thin_opcode (opcode i) ≡ is_known (opcode i)
unfolding opcode_of
instruction-thin i g = by (decoded_row i.row i.operands) (decoded-good i.row i.operands g i.fits_row)
  where
    by : (d : Option w.Opcode) → IfSome d GoodOpcode → is_thin_opcode (thin (unwrap_or d w.Line)) ≡ is_known (thin (unwrap_or d w.Line))
    by None h = refl
    by (Some o) h = thin-known o h

code-thin : (code : List Instr) → EachInstruction (map parts_of code) → list_all is_thin_opcode (map opcode code) ≡ list_all is_known (map opcode code)
code-thin [] g = refl
code-thin (i ∷ code) g = ap₂ ◌&&◌ (instruction-thin i g.0) (code-thin code g.1)

-- ---- functions and modules

function-thin : (f : Function) → GoodFunction (function_parts f) → is_thin_function f ≡ knows f
function-thin f g =
    ap (λ b. b && list_all is_thin_opcode (opcodes f))
    (and_from (is_atom_name f.name && nat_le f.arity 255) (is_count f.entry) (and_from (is_atom_name f.name) (nat_le f.arity 255) g.0.0 g.0.1) g.0.2)
    ∙ code-thin f.code g.1

functions-thin : (fs : List Function) → EachFunction (map function_parts fs) → list_all is_thin_function fs ≡ list_all knows fs
functions-thin [] g = refl
functions-thin (f ∷ fs) g = ap₂ ◌&&◌ (function-thin f g.0) (functions-thin fs g.1)

some-character : (name : List ℕ) → is_word name [] ≡ false → nat_lt 0 (length name) ≡ true
some-character [] e = absurd (cc)
some-character (c ∷ cs) e = lt-ltb 0 (length (c ∷ cs)) (omega arith)

module-thin : (m : Module) → GoodParts (module_parts m) → is_thin_module m ≡ list_all knows m.functions
module-thin m g =
    ap (λ b. b && list_all is_thin_function m.functions)
    (and_from (is_atom_name m.name) (nat_lt 0 (length m.name)) g.0.0 (some-character m.name g.0.1))
    ∙ functions-thin m.functions g.1

pub ranges : Ranges
ranges bytes m are r =
    module-thin m (subst (λ (x : Result ModuleParts FormFault). IfOk x GoodParts) r.stands (reading-good r.forms (forms-good bytes r.forms are r.are_forms)))
