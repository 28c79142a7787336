use Rattle.std.proofs.Common.{arith, ◌∙◌}
use Rattle.std.proofs.lemmas.Result.{IfOk-weaker}
use Rattle.forest.specs.View.{list_of}
use Rattle.forest.proofs.Keeping.{kept}
use Rattle.forest.proofs.Places.{insert-before, insert-behind, insert-only}
use Rattle.forest.proofs.forest.Forest.+with.Goals as goal

pub returns-in_default-clause-items : goal.returns-in_default-clause-items
returns-in_default-clause-items g t c =
    let old = c.args.self.now in
    insert-only (list_of old c.args.tree) _ _ c.args.place c.args.item c.in_default.ensures c.empty.ensures.list c.empty-in_default.ensures.list c.requires.place

pub returns-in_ok-left-clause-items : goal.returns-in_ok-left-clause-items
returns-in_ok-left-clause-items g t c =
    let old = c.args.self.now in
    let top = c.in-Some.top in
    IfOk-weaker c.with_left.result _ _ (λ made e. e ∙ insert-before (list_of old c.args.tree) (list_of old top.left) (list_of old top.right) _ _ top.item c.args.place c.args.item
    c.in-Some.ensures.items (omega (arith, c.if-place-before.true, c.len-before.ensures.len)) c.in_ok-left.ensures.items (kept old c.with.new.self top.right c.with.ensures.keeps c.in-Some.ensures.right)) c.with_left.ensures.items

pub returns-in_ok-right-clause-items : goal.returns-in_ok-right-clause-items
returns-in_ok-right-clause-items g t c =
    let old = c.args.self.now in
    let top = c.in-Some.top in
    IfOk-weaker c.with_right.result _ _ (λ made e. e ∙ insert-behind (list_of old c.args.tree) (list_of old top.left) (list_of old top.right) _ _ top.item c.len-before.result c.args.place c.args.item
    c.in-Some.ensures.items c.len-before.ensures.len (omega (arith, c.if-place-before.false)) (kept old c.with-else-place-before.new.self top.left c.with-else-place-before.ensures.keeps c.in-Some.ensures.left) c.in_ok-right.ensures.items) c.with_right.ensures.items
