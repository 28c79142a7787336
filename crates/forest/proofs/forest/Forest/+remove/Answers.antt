use Rattle.std.proofs.Common.{◌-◌, arith, ◌∙◌}
use Rattle.std.proofs.lemmas.Result.{IfOk-weaker}
use Rattle.forest.specs.View.{list_of}
use Rattle.forest.proofs.Keeping.{kept}
use Rattle.forest.proofs.Places.{remove-before, remove-here, remove-behind, last-back}
use Rattle.forest.proofs.forest.Forest.+remove.Goals as goal

pub both-returns-in_ok-left-clause-list : goal.both-returns-in_ok-left-clause-list
both-returns-in_ok-left-clause-list g t c =
    let old = c.args.self.now in
    IfOk-weaker c.balanced.result _ _ (λ made e. e ∙ last-back (list_of old c.args.left) _ _ (list_of old c.args.right) c.get-item.result (c.len-before.result - 1)
    (omega (arith, c.if-before-eq0.false, c.len-before.ensures.len)) c.get-item.ensures c.in_ok-left.ensures.list (kept old c.remove.new.self c.args.right c.remove.ensures.keeps c.requires.right)) c.balanced.ensures.list

pub remove-returns-in_ok-left-clause-list : goal.remove-returns-in_ok-left-clause-list
remove-returns-in_ok-left-clause-list g t c =
    let old = c.args.self.now in
    let top = c.in-Some.top in
    IfOk-weaker c.balanced.result _ _ (λ made e. e ∙ remove-before (list_of old c.args.tree) (list_of old top.left) (list_of old top.right) _ _ top.item c.args.place
    c.in-Some.ensures.items (omega (arith, c.if-place-before.true, c.len-before.ensures.len)) c.in_ok-left.ensures.list (kept old c.remove.new.self top.right c.remove.ensures.keeps c.in-Some.ensures.right)) c.balanced.ensures.list

pub remove-returns-then-place-before-2-clause-list : goal.remove-returns-then-place-before-2-clause-list
remove-returns-then-place-before-2-clause-list g t c =
    let old = c.args.self.now in
    let top = c.in-Some.top in
    IfOk-weaker c.both.result _ _ (λ made e. e ∙ remove-here (list_of old c.args.tree) (list_of old top.left) (list_of old top.right) top.item c.args.place
    c.in-Some.ensures.items (omega (arith, c.if-place-before-2.true, c.len-before.ensures.len))) c.both.ensures.list

pub remove-returns-in_ok-right-clause-list : goal.remove-returns-in_ok-right-clause-list
remove-returns-in_ok-right-clause-list g t c =
    let old = c.args.self.now in
    let top = c.in-Some.top in
    IfOk-weaker c.balanced-else-place-before-2.result _ _ (λ made e. e ∙ remove-behind (list_of old c.args.tree) (list_of old top.left) (list_of old top.right) _ _ top.item c.len-before.result c.args.place
    c.in-Some.ensures.items c.len-before.ensures.len (omega (arith, c.if-place-before.false, c.if-place-before-2.false)) (kept old c.remove-else-place-before-2.new.self top.left c.remove-else-place-before-2.ensures.keeps c.in-Some.ensures.left) c.in_ok-right.ensures.list) c.balanced-else-place-before-2.ensures.list
