-- Which bytes are the source of a module, and which modules fit into a class file.
use Rattle.std.specs.Prelude.{◌≡◌, ℕ, suc, ◌≤◌, nat_lt, Bool, List, [], ◌∷◌, ◌++◌, map, length, encode_utf8_all, Option, None, option_map}
use Rattle.std.specs.List.{All, AllZip, filter_map, find}
use Rattle.ej_term.specs.declared.asm_term.AsmTerm.{AsmTerm}
use Rattle.ej_term.specs.AsmValue.{value}
use Rattle.ej_term.specs.Term.{Term}
use Rattle.ej_term.specs.TermPrint.{print}
use Rattle.asm_terms.specs.Forms.{AreForms}
use Rattle.asm_module.specs.Modules.{Stands}
use Rattle.beam_code.specs.declared.module.Module.{Module}
use Rattle.beam_code.specs.declared.operand.Src.{Src}
use Rattle.beam_code.specs.declared.operand.Src.TheVariants as source
use Rattle.beam_code.specs.declared.slot_state.SlotMap.{SlotMap}
use Rattle.beam_code.specs.Code.{FunctionCode, ModuleCode, module_code}
use Rattle.beam_code.specs.Good.{Assignment, Good, assignment_of}
use Rattle.beam_code.specs.Labels.{KeepsLabelRules}
use Rattle.beam_code.specs.Opcode.{Opcode}
use Rattle.beam_code.specs.Pool.{PoolWeight, sources_in}
use Rattle.beam_code.specs.Weights.{weight}
use Rattle.slot_kinds.specs.Best.{IsBest}

-- What is read.

-- the bytes are the forms of a module that keeps the label rules
pub record KeepsRules (bytes : List ℕ) (m : Module) : Type 0 where
  pub forms : List AsmTerm
  pub are_forms : AreForms bytes forms
  pub stands : Stands forms m
  pub keeps_labels : KeepsLabelRules (module_code m)

-- some assignment of slot states to the labels of the function is good
abbrev pub WellSlotted : FunctionCode → Type 0
WellSlotted f = (at : Assignment) × Good f at

-- the bytes are those of a module that keeps the label rules, and each of its functions is well slotted
pub record Read (bytes : List ℕ) (m : Module) : Type 0 where
  pub rules : KeepsRules bytes m
  pub slotted : All WellSlotted (module_code m).functions

-- the slot maps of the functions, in their order: the most defined good assignments, for exactly the labels of each
abbrev pub AreMaps : ModuleCode → List SlotMap → Type 0
AreMaps m maps = AllZip IsBest m.functions maps

-- What fits.

-- what a function and the constants of a module may weigh, and the bytes that the print of a literal may have
abbrev pub most_of_function : ℕ
most_of_function = 32767

abbrev pub most_of_pool : ℕ
most_of_pool = 65534

abbrev pub longest_literal : ℕ
longest_literal = 65535

-- the weight of a function: that under its slot map, which is the most defined good assignment
pub record Weighs (f : FunctionCode) (w : ℕ) : Type 0 where
  pub slots : SlotMap
  pub best : IsBest f slots
  pub sum : w ≡ weight (assignment_of slots) f

abbrev pub FunctionFits : FunctionCode → Type 0
FunctionFits f = (w : ℕ) × Weighs f w × (w ≤ most_of_function)

abbrev pub PoolFits : ModuleCode → Type 0
PoolFits m = (w : ℕ) × PoolWeight m w × (w ≤ most_of_pool)

-- a literal: its function and its instruction, each counted from 0, and how long it is
pub record Literal : Type 0 where
  pub func : ℕ
  pub index : ℕ
  pub bytes : ℕ

-- the bytes of a term's canonical print in UTF-8
abbrev pub print_length : Term → ℕ
print_length term = length (encode_utf8_all (print term))

-- those of the term that a literal stands for; each literal of an instruction stands for one, since no opaque token is in it
abbrev pub literal_length : Src → Option ℕ
literal_length (source.Literal t) = option_map print_length (value t)
literal_length _ = None

-- those of an instruction, in the order of its operands
abbrev pub literal_lengths : Opcode → List ℕ
literal_lengths o = filter_map literal_length (sources_in o)

abbrev pub literals_at : ℕ → ℕ → List ℕ → List Literal
literals_at func index lengths = map (λ bytes. record { func = func; index = index; bytes = bytes }) lengths

-- those of instructions, the first of which has that index
abbrev pub literals_in_code : ℕ → ℕ → List Opcode → List Literal
literals_in_code func index [] = []
literals_in_code func index (o ∷ code) = literals_at func index (literal_lengths o) ++ literals_in_code func (suc index) code

-- those of functions, the first of which has that number
abbrev pub literals_in : ℕ → List FunctionCode → List Literal
literals_in func [] = []
literals_in func (f ∷ functions) = literals_in_code func 0 f.code ++ literals_in (suc func) functions

abbrev pub is_long : Literal → Bool
is_long literal = nat_lt longest_literal literal.bytes

-- the first literal of a module that is too long
abbrev pub first_long : ModuleCode → Option Literal
first_long m = find is_long (literals_in 0 m.functions)

-- no function, nor the constants, weigh too much, and no literal is too long
pub record Fits (m : ModuleCode) : Type 0 where
  pub functions : All FunctionFits m.functions
  pub pool : PoolFits m
  pub literals : first_long m ≡ None

-- What is accepted.

pub record Accepted (bytes : List ℕ) (m : Module) : Type 0 where
  pub read : Read bytes m
  pub fits : Fits (module_code m)
