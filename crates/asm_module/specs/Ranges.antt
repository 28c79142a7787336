-- The names and numbers of what is read are in range.
use Rattle.std.specs.Prelude.{◌≡◌, ℕ, ℤ, Bool, true, false, ◌&&◌, nat_le, List, [], ◌∷◌, length, IfOk, ⊤}
use Rattle.std.specs.List.{list_all}
use Rattle.std.specs.Str.{all_scalars}
use Rattle.ej_term.specs.declared.asm_term.AsmTerm.{AsmTerm, fold-AsmTerm}
use Rattle.ej_term.specs.declared.asm_term.AsmTerm.TheOpen as o
use Rattle.ej_term.specs.declared.asm_term.AsmTerm.TheOpen.{AsmTerm-F}
use Rattle.ej_term.specs.Term.{has_64_bits}
use Rattle.beam_code.specs.declared.operand.Operand.{Operand}
use Rattle.beam_code.specs.declared.operand.Operand.TheVariants as operand
use Rattle.beam_code.specs.declared.operand.Src.{Src}
use Rattle.beam_code.specs.declared.operand.Src.TheVariants as source
use Rattle.beam_code.specs.declared.operand.TheConstants.{LAST_COUNT}
use Rattle.beam_code.specs.Parts.{Instruction, FunctionParts, ModuleParts}
use Rattle.asm_module.specs.Terms.{is_word}
use Rattle.asm_module.specs.Modules.{reading}

-- ---- terms

-- the name of an atom: at most 255 characters
abbrev pub is_atom_name : List ℕ → Bool
is_atom_name name = all_scalars name && nat_le (length name) 255

-- in a term's parts but those of its lists and maps, once it is known of its parts
abbrev pub good_step : AsmTerm-F Bool → Bool
good_step (o.Int n) = has_64_bits n
good_step (o.Atom name) = is_atom_name name
good_step (o.Tuple parts) = list_all (λ part. part) parts
good_step _ = true

abbrev pub good : AsmTerm → Bool
good = fold-AsmTerm Bool good_step

-- each name and integer of a term that is in no list and no map is in range
abbrev pub Good : AsmTerm → Type 0
Good t = good t ≡ true

abbrev pub EachGood : List AsmTerm → Type 0
EachGood [] = ⊤
EachGood (t ∷ ts) = Good t × EachGood ts

-- ---- what is read of them

abbrev pub Name : List ℕ → Type 0
Name name = is_atom_name name ≡ true

abbrev pub Bits : ℤ → Type 0
Bits n = has_64_bits n ≡ true

abbrev pub UpTo : ℕ → ℕ → Type 0
UpTo most n = nat_le n most ≡ true

-- the name or the integer of a source is in range
abbrev pub GoodSrc : Src → Type 0
GoodSrc (source.Int n) = Bits n
GoodSrc (source.Atom name) = Name name
GoodSrc _ = ⊤

abbrev pub GoodOperand : Operand → Type 0
GoodOperand (operand.Src s) = GoodSrc s
GoodOperand _ = ⊤

abbrev pub EachOperand : List Operand → Type 0
EachOperand [] = ⊤
EachOperand (x ∷ xs) = GoodOperand x × EachOperand xs

abbrev pub GoodInstruction : Instruction → Type 0
GoodInstruction i = EachOperand i.operands

abbrev pub EachInstruction : List Instruction → Type 0
EachInstruction [] = ⊤
EachInstruction (i ∷ code) = GoodInstruction i × EachInstruction code

abbrev pub GoodFunction : FunctionParts → Type 0
GoodFunction f = (Name f.name × UpTo 255 f.arity × UpTo LAST_COUNT f.entry) × EachInstruction f.code

abbrev pub EachFunction : List FunctionParts → Type 0
EachFunction [] = ⊤
EachFunction (f ∷ fs) = GoodFunction f × EachFunction fs

-- the name of a module is not empty
abbrev pub ModuleName : List ℕ → Type 0
ModuleName name = Name name × (is_word name [] ≡ false)

abbrev pub GoodParts : ModuleParts → Type 0
GoodParts m = ModuleName m.name × EachFunction m.functions

-- of forms whose names and integers are in range come the parts of a module whose names and integers are in range
abbrev pub ReadInRange : Type 0
ReadInRange = (forms : List AsmTerm) → EachGood forms → IfOk (reading forms) GoodParts
