use Rattle.std.proofs.Common.{◌||◌, nat_eq, ap, ◌∙◌}
use Rattle.indexmap.specs.IndexSet.{contains}
use Rattle.beam_code.specs.Code.{opcode}
use Rattle.beam_code.specs.Labels.{defined_by}
use Rattle.slot_kinds.specs.Walked.{makes_entry, with_seen}
use Rattle.slot_kinds.proofs.Left.{left-more}
use Rattle.slot_kinds.proofs.Walking.{entries-more}
use Rattle.slot_kinds.proofs.function.add_all.Goals as goal

pub loop-instr-preserved : goal.loop-instr-preserved
loop-instr-preserved c label =
    let e = left-more opcode c.args.code.now c.loop-instr.instr-index c.instr-item.result c.loop-instr-test.true c.instr-item.is in
    entries-more (contains nat_eq c.loop-instr.passed) (contains nat_eq c.pass.new.passed) (contains nat_eq c.loop-instr.entries) (contains nat_eq c.add_entries.new.entries) _ _ _ e
    (λ q. c.in_ok-add_entries.ensures q ∙ ap (λ o. contains nat_eq c.loop-instr.entries q || makes_entry (contains nat_eq c.loop-instr.passed) o q) c.opcode-opcode.ensures)
    (λ q. c.in_ok-pass.ensures q ∙ ap (λ o. with_seen (contains nat_eq c.loop-instr.passed) (defined_by o) q) c.opcode-opcode.ensures)
    label
    ∙ c.loop-instr.invariant label
