use Rattle.std.proofs.Common.{sym, ◌∙◌, subst}
use Rattle.jvm_code.specs.ReadClass.{ClassOf}
use Rattle.jvm_code.proofs.ClassLaw.{spelled}
use Rattle.class_file.proofs.BytesWritten.{none_has}
use Rattle.class_file.proofs.writing.write.Goals as goal

pub returns-then-branch-clause-written : goal.returns-then-branch-clause-written
returns-then-branch-clause-written c = subst (λ bs. ClassOf bs c.args.class.now) c.as_slice.ensures.value (c.in_ok-reads_as.ensures.0 c.if-branch.true)

pub returns-then-branch-clause-again : goal.returns-then-branch-clause-again
returns-then-branch-clause-again c = λ bytes h. c.in_ok-bytes.ensures ∙ sym (spelled bytes c.args.class.now h)

pub returns-clause-written : goal.returns-clause-written
returns-clause-written c = none_has c.as_slice.result.now c.args.class.now _ (c.as_slice.ensures.value ∙ c.in_ok-bytes.ensures) c.in_ok-reads_as.ensures c.if-branch.false

pub returns-clause-again : goal.returns-clause-again
returns-clause-again c = λ bytes h. absurd (none_has c.as_slice.result.now c.args.class.now _ (c.as_slice.ensures.value ∙ c.in_ok-bytes.ensures) c.in_ok-reads_as.ensures c.if-branch.false bytes h)
