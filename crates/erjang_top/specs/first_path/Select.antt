-- What the writer makes of one instruction.
use Rattle.std.specs.Prelude.{ℕ, ◌+◌, Bool, true, false, List, []}
use Rattle.erjang_top.specs.first_path.Opcode.{Value, Opcode, FuncInfo, Move, Return}
use Rattle.erjang_top.specs.first_path.ClassFile.{Op}
use Rattle.erjang_top.specs.first_path.ModuleClass.{move_ops, raise_ops, return_ops}

-- the number behind that of the register that an instruction writes, or 0
abbrev pub written_register : Opcode → ℕ
written_register (Move from to) = to + 1
written_register _ = 0

abbrev pub instr_ops : List Value → Opcode → List Op
instr_ops values (Move from to) = move_ops values from to
instr_ops values (FuncInfo owner name arity) = raise_ops
instr_ops values Return = return_ops
instr_ops values _ = []

-- whether the next instruction is reached
abbrev pub goes_on : Opcode → Bool
goes_on (FuncInfo owner name arity) = false
goes_on Return = false
goes_on _ = true
