use Rattle.std.proofs.Common.{◌||◌, ◌+◌, nat_eq, map, drop, sym, ap, ◌∙◌}
use Rattle.std.specs.List.{flat_map}
use Rattle.indexmap.specs.IndexSet.{contains}
use Rattle.beam_code.specs.Code.{opcode}
use Rattle.beam_code.specs.Labels.{is_in}
use Rattle.beam_code.specs.Pool.{numbers_in}
use Rattle.slot_kinds.proofs.Entered.{adds-some}
use Rattle.slot_kinds.proofs.Left.{left-more}
use Rattle.slot_kinds.proofs.named.add_code.Goals as goal

pub loop-instr-preserved : goal.loop-instr-preserved
loop-instr-preserved c q =
    let e = left-more opcode c.args.code.now c.loop-instr.instr-index c.instr-item.result c.loop-instr-test.true c.instr-item.is in
    let has = contains nat_eq c.loop-instr.seen in
    adds-some has (contains nat_eq c.add_numbers.new.seen) (numbers_in (opcode c.instr-item.result)) (flat_map numbers_in (map opcode (drop (c.loop-instr.instr-index + 1) c.args.code.now)))
    (λ p. c.in_ok-add_numbers.ensures p ∙ ap (λ ns. has p || is_in ns p) (c.numbers_of.ensures ∙ ap numbers_in c.opcode.ensures)) q
    ∙ ap (λ code. has q || is_in (flat_map numbers_in code) q) (sym e)
    ∙ c.loop-instr.invariant q
