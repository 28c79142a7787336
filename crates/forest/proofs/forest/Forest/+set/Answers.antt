use Rattle.std.proofs.Common.{arith, ◌∙◌}
use Rattle.std.proofs.lemmas.Result.{IfOk-weaker}
use Rattle.forest.specs.View.{list_of}
use Rattle.forest.proofs.Keeping.{kept}
use Rattle.forest.proofs.Places.{set-before, set-here, set-behind}
use Rattle.forest.proofs.forest.Forest.+set.Goals as goal

pub returns-in_ok-left-clause-list : goal.returns-in_ok-left-clause-list
returns-in_ok-left-clause-list g t c =
    let old = c.args.self.now in
    let top = c.in-Some.top in
    IfOk-weaker c.join.result _ _ (λ made e. e ∙ set-before (list_of old c.args.tree) (list_of old top.left) (list_of old top.right) _ _ top.item c.args.place c.args.item
    c.in-Some.ensures.items (omega (arith, c.if-place-before.true, c.len-before.ensures.len)) c.in_ok-left.ensures.list (kept old c.set.new.self top.right c.set.ensures.keeps c.in-Some.ensures.right)) c.join.ensures.list

pub returns-then-place-before-2-clause-list : goal.returns-then-place-before-2-clause-list
returns-then-place-before-2-clause-list g t c =
    let old = c.args.self.now in
    let top = c.in-Some.top in
    IfOk-weaker c.join-then-place-before-2.result _ _ (λ made e. e ∙ set-here (list_of old c.args.tree) (list_of old top.left) (list_of old top.right) top.item c.args.place c.args.item
    c.in-Some.ensures.items (omega (arith, c.if-place-before-2.true, c.len-before.ensures.len))) c.join-then-place-before-2.ensures.list

pub returns-in_ok-right-clause-list : goal.returns-in_ok-right-clause-list
returns-in_ok-right-clause-list g t c =
    let old = c.args.self.now in
    let top = c.in-Some.top in
    IfOk-weaker c.join-else-place-before-2.result _ _ (λ made e. e ∙ set-behind (list_of old c.args.tree) (list_of old top.left) (list_of old top.right) _ _ top.item c.len-before.result c.args.place c.args.item
    c.in-Some.ensures.items c.len-before.ensures.len (omega (arith, c.if-place-before.false, c.if-place-before-2.false)) (kept old c.set-else-place-before-2.new.self top.left c.set-else-place-before-2.ensures.keeps c.in-Some.ensures.left) c.in_ok-right.ensures.list) c.join-else-place-before-2.ensures.list
