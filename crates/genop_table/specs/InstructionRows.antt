-- What a row of the code's table says.
use Rattle.genop_table.specs.declared.instructions.InstructionRow.{InstructionRow}
use Rattle.genop_table.specs.Instructions.{Instruction}

abbrev pub instruction_of : InstructionRow → Instruction
instruction_of r =
    record { entry = record { name = r.name.now; arity = r.arity; number = r.number }; genop = r.genop; parts = r.shape.now; places = r.places.now }
