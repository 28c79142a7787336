use Rattle.std.proofs.Common.{drop, map}
use Rattle.beam_code.specs.Code.{opcode}
use Rattle.label_check.specs.Seen.{seen_scope}
use Rattle.label_check.proofs.Breaks.{Walked}
use Rattle.label_check.proofs.walk.check_code.Given as goal

abbrev pub invariant-loop-index : goal.invariant-loop-index
invariant-loop-index l =
    Walked (seen_scope l.scope) l.func l.index l.before.keys l.initial.before.keys (map opcode (drop l.index l.code)) (map opcode l.code)
