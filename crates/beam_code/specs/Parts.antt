-- What instructions, functions and modules are made of.
use Rattle.std.specs.Prelude.{ℕ, if◌then◌else◌, List, map, Option, None, Some}
use Rattle.beam_code.specs.declared.instr.Instr.{Instr}
use Rattle.beam_code.specs.declared.module.Function.{Function}
use Rattle.beam_code.specs.declared.module.Module.{Module}
use Rattle.beam_code.specs.declared.operand.Operand.{Operand}
use Rattle.beam_code.specs.RowFits.{fits}
use Rattle.beam_code.specs.Keys.{Key}

-- an instruction: the number of its row, and its operands
pub record Instruction : Type 0 where
  pub row : ℕ
  pub operands : List Operand

abbrev pub parts_of : Instr → Instruction
parts_of i = record { row = i.row; operands = i.operands }

-- the instruction of a row and operands that fit it
abbrev pub fitting : ℕ → List Operand → Option Instruction
fitting row operands = if fits row operands then Some (record { row = row; operands = operands }) else None

-- a function: its name and arity, its entry label, and its instructions
pub record FunctionParts : Type 0 where
  pub name : List ℕ
  pub arity : ℕ
  pub entry : ℕ
  pub code : List Instruction

abbrev pub function_parts : Function → FunctionParts
function_parts f = record { name = f.name; arity = f.arity; entry = f.entry; code = map parts_of f.code }

-- a module: its name, its exports, and its functions
pub record ModuleParts : Type 0 where
  pub name : List ℕ
  pub exports : List Key
  pub functions : List FunctionParts

abbrev pub module_parts : Module → ModuleParts
module_parts m = record { name = m.name; exports = m.exports; functions = map function_parts m.functions }
