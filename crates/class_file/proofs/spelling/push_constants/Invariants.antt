use Rattle.std.proofs.Common.{◌≡◌, ◌++◌, take}
use Rattle.std.specs.List.{flat_map}
use Rattle.jvm_code.specs.Spelling.{constant_bytes}
use Rattle.class_file.proofs.spelling.push_constants.Given as goal

abbrev pub invariant-loop-constant : goal.invariant-loop-constant
invariant-loop-constant l = l.out.items ≡ l.initial.out.items ++ flat_map constant_bytes (take l.constant-index l.pool)
