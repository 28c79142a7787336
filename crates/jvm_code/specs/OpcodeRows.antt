-- What a row of the code's table of opcodes says.
use Rattle.jvm_code.specs.declared.opcodes.OpcodeRow.{OpcodeRow}
use Rattle.jvm_code.specs.Opcodes.{Opcode, row}

abbrev pub opcode_of : OpcodeRow → Opcode
opcode_of r = row r.number r.name.now r.operands
