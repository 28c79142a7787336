use Rattle.std.proofs.Common.{◌++◌, List, ℕ, ap, ◌∙◌}
use Rattle.erjang_top.specs.first_path.ClassFile.{counted}
use Rattle.erjang_top.proofs.FirstPath.Appends.{adds}
use Rattle.erjang_top.proofs.first_path.emit.method.push_method.Goals as goal

pub returns : goal.returns
returns c =
    let start = c.args.out.now.items in
    let three = adds start _ _ _ _ (adds start _ _ _ _ c.in_ok-push_u2.ensures c.in_ok-push_u2-2.ensures) c.in_ok-push_u2-3.ensures in
    let five = adds start _ _ _ _ (adds start _ _ _ _ three c.in_ok-push_u2-4.ensures) c.in_ok-push_u2-5.ensures in
    let content = c.deref.ensures.value ∙ c.in_ok-content.ensures in
    adds start _ _ _ _ five (c.in_ok-push_counted.ensures ∙ ap (λ (t : List ℕ). c.push_u2-5.new.out.items ++ counted t) content)
