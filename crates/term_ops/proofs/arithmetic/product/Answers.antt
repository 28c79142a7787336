use Rattle.std.proofs.Common.{◌∙◌}
use Rattle.std.specs.Int.{w128}
use Rattle.std.proofs.lemmas.Int.{to_z-of_z}
use Rattle.term_ops.proofs.ArithmeticFits.{product-is, product-fits}
use Rattle.term_ops.proofs.arithmetic.product.Goals as goal

pub overflow_mul-result : goal.overflow_mul-result
overflow_mul-result c = product-fits c.args.m c.from.result c.min.result c.args.places c.from.ensures c.ranges.m c.min.ensures

pub returns : goal.returns
returns c =
    to_z-of_z w128 _ (product-fits c.args.m c.from.result c.min.result c.args.places c.from.ensures c.ranges.m c.min.ensures)
    ∙ product-is c.args.m c.from.result c.min.result c.args.places c.from.ensures c.ranges.m c.min.ensures
