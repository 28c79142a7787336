use Rattle.std.proofs.Common.{◌≡◌, ◌-◌, ◌++◌}
use Rattle.std.specs.List.{flat_map}
use Rattle.erjang_top.specs.first_path.ClassFile.{op_bytes}
use Rattle.erjang_top.specs.first_path.ModuleClass.{take_arguments}
use Rattle.erjang_top.proofs.first_path.emit.select.push_arguments.Given as goal

abbrev pub invariant-loop-at : goal.invariant-loop-at
invariant-loop-at l = l.code.items ++ flat_map op_bytes (take_arguments l.at (l.count - l.at)) ≡ l.initial.code.items ++ flat_map op_bytes (take_arguments 0 l.count)
