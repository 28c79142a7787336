-- The worked scripts, computed.
use Rattle.beam_code.specs.Code.{opcode}
use Rattle.std.proofs.Common.{refl}
use Rattle.std.specs.Fmt.{digits}
use lib.Utf8.{encode}
use Rattle.erjang_top.specs.first_path.Worked.{Returns, NotLoaded, OtherArity, NotExported, NothingToDo, MovesRegisters, MovesInteger, MovesAtom, MovesNil, Refuses, OtherExported}

pub returns : Returns
unfolding opcode digits encode
returns = record { beam_gives = refl; class_gives = refl }

pub not_loaded : NotLoaded
unfolding opcode digits encode
not_loaded = record { beam_gives = refl; class_gives = refl }

pub other_arity : OtherArity
unfolding opcode digits encode
other_arity = record { beam_gives = refl; class_gives = refl }

pub not_exported : NotExported
unfolding opcode digits encode
not_exported = record { beam_gives = refl; class_gives = refl }

pub nothing_to_do : NothingToDo
unfolding opcode digits encode
nothing_to_do = record { beam_gives = refl; class_gives = refl }

pub moves_registers : MovesRegisters
unfolding opcode digits encode
moves_registers = record { beam_gives = refl; class_gives = refl }

pub moves_integer : MovesInteger
unfolding opcode digits encode
moves_integer = record { beam_gives = refl; class_gives = refl }

pub moves_atom : MovesAtom
unfolding opcode digits encode
moves_atom = record { beam_gives = refl; class_gives = refl }

pub moves_nil : MovesNil
unfolding opcode digits encode
moves_nil = record { beam_gives = refl; class_gives = refl }

pub refuses : Refuses
unfolding opcode digits encode
refuses = record { beam_gives = refl; class_gives = refl }

pub other_exported : OtherExported
unfolding opcode digits encode
other_exported = record { beam_gives = refl; class_gives = refl }
