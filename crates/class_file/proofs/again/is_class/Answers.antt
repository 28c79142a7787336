use Rattle.std.proofs.Common.{sym, ◌∙◌}
use Rattle.class_file.proofs.ReadAgain.{not_headed, all_read, when_same}
use Rattle.class_file.proofs.again.is_class.Goals as goal

pub returns-then-not-has_head : goal.returns-then-not-has_head
returns-then-not-has_head c =
    not_headed c.in_ok-head.head c.args.class.now _ c.read_head.new.source.at c.read_head.new.source.rest c.in_ok-head.ensures (sym c.has_head.ensures ∙ c.if-not-has_head.true)

pub returns : goal.returns
returns c =
    all_read c.in_ok-head.head c.args.class.now _ c.read_head.new.source.at c.read_head.new.source.rest c.are_methods.new.source.at c.are_methods.new.source.rest
    c.in_ok-none.field-0 c.none.new.source.at c.none.new.source.rest c.in_ok-head.ensures (sym c.has_head.ensures ∙ c.if-not-has_head.false)
    (when_same c.as_slice.result.now _ c.in_ok-head.head.count c.read_head.new.source.at c.read_head.new.source.rest c.as_slice-2.result.now _ c.in_ok-are_methods.field-0
    c.are_methods.new.source c.if-not-branch.false c.as_slice.ensures c.as_slice-2.ensures c.in_ok-are_methods.ensures)
    c.in_ok-none.ensures
