use Rattle.std.proofs.Common.{ap, sym, ◌∙◌}
use Rattle.term_ops.specs.Parts.{truth_named}
use Rattle.term_ops.proofs.ReadWords.{truth_of_characters, no_truth}
use Rattle.term_ops.proofs.read.boolean_named.Goals as goal

pub returns-in-true : goal.returns-in-true
returns-in-true c = sym (truth_of_characters c.args.name.now c.utf8.name ∙ ap truth_named c.in-true.is)

pub returns-in-false : goal.returns-in-false
returns-in-false c = sym (truth_of_characters c.args.name.now c.utf8.name ∙ ap truth_named c.in-false.is)

pub returns-in_default : goal.returns-in_default
returns-in_default c = sym (truth_of_characters c.args.name.now c.utf8.name ∙ no_truth c.args.name.now c.in_default.not-true c.in_default.not-false)
