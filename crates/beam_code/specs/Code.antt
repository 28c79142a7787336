-- Functions and modules by what their instructions do.
use Rattle.std.specs.Prelude.{ℕ, List, [], map, get_or, unwrap_or}
use Rattle.beam_code.specs.declared.instr.Instr.{Instr}
use Rattle.beam_code.specs.declared.module.Function.{Function}
use Rattle.beam_code.specs.declared.module.Module.{Module}
use Rattle.beam_code.specs.Decoded.{decoded_row}
use Rattle.beam_code.specs.Opcode.{Opcode, Line}

-- what an instruction stands for; since its operands fit its row, it stands for one of the opcodes, and the `Line` here
-- for nothing (`Known`)
unfoldable pub opcode : Instr → Opcode
opcode i = unwrap_or (decoded_row i.row i.operands) Line

-- a function: its name and arity, its entry label, and what its instructions do
pub record FunctionCode : Type 0 where
  pub name : List ℕ
  pub arity : ℕ
  pub entry : ℕ
  pub code : List Opcode

abbrev pub function_code : Function → FunctionCode
function_code f = record { name = f.name; arity = f.arity; entry = f.entry; code = map opcode f.code }

-- a module: its name, and its functions
pub record ModuleCode : Type 0 where
  pub name : List ℕ
  pub functions : List FunctionCode

abbrev pub module_code : Module → ModuleCode
module_code m = record { name = m.name; functions = map function_code m.functions }

-- what the function of that number, from 0, is, and the instruction of it; the `no_function` and the `Line` stand for none
abbrev pub no_function : FunctionCode
no_function = record { name = []; arity = 0; entry = 0; code = [] }

abbrev pub function_at : ModuleCode → ℕ → FunctionCode
function_at m func = get_or m.functions func no_function

abbrev pub opcode_at : ModuleCode → ℕ → ℕ → Opcode
opcode_at m func index = get_or (function_at m func).code index Line
