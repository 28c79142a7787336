use Rattle.std.proofs.Common.{ℕ, List, ◌++◌, map, ap, ◌∙◌}
use Rattle.std.specs.List.{flat_map}
use Rattle.erjang_top.specs.first_path.ClassFile.{op_bytes}
use Rattle.erjang_top.specs.first_path.ModuleClass.{function_ops}
use Rattle.erjang_top.specs.first_path.SeenValues.{seen_value}
use Rattle.erjang_top.proofs.FirstPath.Appends.{appended-as}
use Rattle.erjang_top.proofs.FirstPath.ClassSteps.{content_fits, bytes_same}
use Rattle.erjang_top.proofs.FirstPath.ThinValues.{thin-function}
use Rattle.erjang_top.proofs.first_path.emit.function.push_function.Goals as goal

pub push_code-requires-clause-thin : goal.push_code-requires-clause-thin
push_code-requires-clause-thin c = (thin-function c.args.function.now c.requires.thin).code

pub local_count-requires : goal.local_count-requires
local_count-requires c = (thin-function c.args.function.now c.requires.thin).code

pub push_method-requires : goal.push_method-requires
push_method-requires c =
    let values = map seen_value c.args.values.now.keys in
    let code = c.in_ok-push_code.ensures ∙ ap (λ (t : List ℕ). t ++ flat_map op_bytes (function_ops values c.args.function.now)) c.new-code.ensures.items in
    content_fits c.args.flags c.args.name c.local_count.result values c.args.function.now c.push_code.new.code.items code c.local_count.ensures c.requires.content

pub returns : goal.returns
returns c =
    let values = map seen_value c.args.values.now.keys in
    let code = c.in_ok-push_code.ensures ∙ ap (λ (t : List ℕ). t ++ flat_map op_bytes (function_ops values c.args.function.now)) c.new-code.ensures.items in
    appended-as c.push_method.result _ _ _ _ (bytes_same c.args.flags c.args.name c.local_count.result values c.args.function.now c.push_code.new.code.items code c.local_count.ensures) c.push_method.ensures
