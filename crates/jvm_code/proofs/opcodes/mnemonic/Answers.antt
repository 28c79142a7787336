use Rattle.ej_tables.specs.Rows.{has_number}
use Rattle.jvm_code.specs.OpcodeRows.{opcode_of}
use Rattle.jvm_code.specs.Opcodes.{Opcode, opcodes}
use Rattle.genop_table.proofs.Found.{found, missing}
use Rattle.jvm_code.proofs.opcodes.mnemonic.Goals as goal

pub returns-in-Some : goal.returns-in-Some
returns-in-Some c =
    found opcode_of (λ (o : Opcode). has_number c.args.number o.entry) c.table.result opcodes c.table.ensures.rows c.in-Some.row.now c.in-Some.ensures

pub returns-in-None : goal.returns-in-None
returns-in-None c =
    missing opcode_of (λ (o : Opcode). has_number c.args.number o.entry) c.table.result opcodes c.table.ensures.rows c.in-None.ensures
