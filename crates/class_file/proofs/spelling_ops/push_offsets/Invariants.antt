use Rattle.std.proofs.Common.{◌≡◌, ◌++◌, take}
use Rattle.std.specs.List.{flat_map}
use Rattle.jvm_code.specs.Spelling.{s4}
use Rattle.class_file.proofs.spelling_ops.push_offsets.Given as goal

abbrev pub invariant-loop-offset : goal.invariant-loop-offset
invariant-loop-offset l = l.out.items ≡ l.initial.out.items ++ flat_map s4 (take l.offset-index l.offsets)
