use Rattle.std.proofs.Common.{◌≡◌, map, drop}
use Rattle.std.specs.List.{find}
use Rattle.beam_code.specs.Code.{opcode}
use Rattle.erjang_compile.specs.Accepted.{is_long, literals_in_code}
use Rattle.erjang_compile.proofs.literals.long_in_code.Given as goal

abbrev pub invariant-loop-index : goal.invariant-loop-index
invariant-loop-index l =
    find is_long (literals_in_code l.func l.index (map opcode (drop l.index l.code))) ≡ find is_long (literals_in_code l.func 0 (map opcode l.code))
