use Rattle.std.proofs.Common.{ℤ, map, ap, ◌∙◌}
use Rattle.std.proofs.Math.Facts.{to_z-of_z}
use Rattle.erjang_top.specs.first_path.Opcode.{Integer}
use Rattle.erjang_top.specs.first_path.ModuleClass.{index_of}
use Rattle.erjang_top.specs.first_path.SeenValues.{seen_value}
use Rattle.erjang_top.proofs.FirstPath.Appends.{appended-as}
use Rattle.erjang_top.proofs.FirstPath.SelectSteps.{integer_ops}
use Rattle.erjang_top.proofs.first_path.emit.select.push_integer.Goals as goal

pub returns : goal.returns
returns c =
    let index = c.index_of-index.ensures ∙ ap (λ (z : ℤ). index_of (map seen_value c.args.values.now.keys) (Integer z)) (to_z-of_z c.ranges.number) in
    appended-as c.push_ops.result _ _ _ _ (integer_ops (map seen_value c.args.values.now.keys) c.args.number c.index_of-index.result index) c.push_ops.ensures
