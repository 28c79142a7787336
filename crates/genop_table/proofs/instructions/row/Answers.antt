use Rattle.std.proofs.Common.{nat_eq}
use Rattle.genop_table.specs.InstructionRows.{instruction_of}
use Rattle.genop_table.specs.Instructions.{Instruction, instructions}
use Rattle.genop_table.proofs.Found.{found, missing}
use Rattle.genop_table.proofs.instructions.row.Goals as goal

pub returns-in-Some : goal.returns-in-Some
returns-in-Some c =
    found instruction_of (λ (i : Instruction). nat_eq i.entry.number c.args.number) c.table.result instructions c.table.ensures.rows c.in-Some.row.now c.in-Some.ensures

pub returns-in-None : goal.returns-in-None
returns-in-None c =
    missing instruction_of (λ (i : Instruction). nat_eq i.entry.number c.args.number) c.table.result instructions c.table.ensures.rows c.in-None.ensures
