use Rattle.std.proofs.Common.{nat_eq}
use Rattle.indexmap.specs.IndexSet.{contains}
use Rattle.beam_code.specs.Code.{opcode}
use Rattle.beam_code.specs.Good.{assignment_of}
use Rattle.slot_kinds.proofs.Left.{left-none}
use Rattle.slot_kinds.proofs.Walking.{entries-end}
use Rattle.slot_kinds.proofs.function.entries_weight.Goals as goal

pub returns : goal.returns
returns c =
    entries-end (assignment_of c.args.map.now) (contains nat_eq c.args.entries.now) _ c.loop-instr.total _
    (left-none opcode c.args.code.now c.loop-instr.instr-index c.loop-instr-test.false) c.loop-instr.invariant.within c.loop-instr.invariant.same
