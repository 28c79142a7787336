use Rattle.std.proofs.Common.{arith, ◌∙◌}
use Rattle.forest.proofs.Places.{none-there}
use Rattle.forest.proofs.forest.Forest.+collect.Goals as goal

pub returns-in_default-clause-list : goal.returns-in_default-clause-list
returns-in_default-clause-list g t c = c.empty.ensures.list ∙ none-there c.args.items.now (omega (arith, c.in_default.ensures.cases, c.split_at.ensures.back_len))
