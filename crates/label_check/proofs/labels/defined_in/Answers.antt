use Rattle.std.proofs.Common.{sym, ap, ◌∙◌, ◌+◌, ◌||◌, nat_eq, map, drop}
use Rattle.indexmap.specs.IndexSet.{contains}
use Rattle.beam_code.specs.Labels.{is_in, defined_by, defined_in}
use Rattle.beam_code.specs.Code.{opcode}
use Rattle.label_check.proofs.Left.{left-more}
use Rattle.label_check.proofs.Defined.{gathered-nothing, gathered-label}
use Rattle.label_check.proofs.labels.defined_in.Goals.{in-Some+in_ok-insert, in_default}
use Rattle.label_check.proofs.labels.defined_in.Goals as goal

pub loop-instr-preserved : goal.loop-instr-preserved
loop-instr-preserved c =
    let e = left-more opcode c.args.code.now c.loop-instr.instr-index c.instr-item.result c.loop-instr-test.true c.instr-item.is in
    let left = map opcode (drop (c.loop-instr.instr-index + 1) c.args.code.now) in
    elim c.match-defined_by.branch [
      | in-Some+in_ok-insert w ↦
          gathered-label (contains nat_eq c.loop-instr.labels) (contains nat_eq c.match-defined_by.labels) w.in-Some.label _ left _ (map opcode c.args.code.now) e (ap defined_by (sym c.opcode.ensures) ∙ sym c.defined_by.ensures ∙ w.in-Some.is)
          (λ q. ap (λ s. contains nat_eq s q) w.labels-is ∙ w.in_ok-insert.ensures.updates.0 q) c.loop-instr.invariant
      | in_default w ↦
          λ q. ap (λ s. contains nat_eq s q || is_in (defined_in left) q) w.labels-is
          ∙ gathered-nothing (contains nat_eq c.loop-instr.labels) _ left _ (map opcode c.args.code.now) e (ap defined_by (sym c.opcode.ensures) ∙ sym c.defined_by.ensures ∙ w.in_default.is) c.loop-instr.invariant q
    ]
