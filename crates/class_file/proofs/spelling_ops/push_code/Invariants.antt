use Rattle.std.proofs.Common.{◌≡◌, ◌++◌, take}
use Rattle.jvm_code.specs.Spelling.{code_bytes}
use Rattle.class_file.proofs.spelling_ops.push_code.Given as goal

abbrev pub invariant-loop-pc : goal.invariant-loop-pc
invariant-loop-pc l = l.out.items ≡ l.initial.out.items ++ code_bytes (take l.pc-index l.code)
