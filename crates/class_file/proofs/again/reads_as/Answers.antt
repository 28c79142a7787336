use Rattle.class_file.proofs.ReadAgain.{same_bytes, other_bytes, read_same, read_other}
use Rattle.class_file.proofs.again.reads_as.Goals as goal

pub returns-then-same : goal.returns-then-same
returns-then-same c =
    same_bytes c.args.bytes.now c.args.class.now c.is_class.new.source c.left.result (λ k. (c.type_inv.bytes k).fits)
    (read_same c.args.bytes.now _ c.args.class.now c.in-Ok.same c.is_class.new.source c.new-source.ensures c.if-same.true c.in-Ok.ensures) c.left.ensures

pub returns-else-same : goal.returns-else-same
returns-else-same c =
    other_bytes c.args.bytes.now c.args.class.now c.in-Ok.same c.if-same.false
    (read_other c.args.bytes.now _ c.args.class.now c.in-Ok.same c.is_class.new.source c.new-source.ensures c.if-same.false c.in-Ok.ensures)
