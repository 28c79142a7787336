use Rattle.std.proofs.Common.{◌≡◌, [], take, drop, map}
use Rattle.std.specs.Prelude.{string_bytes}
use Rattle.erjang_top.specs.Answers.{first_twice}
use Rattle.erjang_top.specs.Work.{modules_of}
use Rattle.erjang_top.proofs.compile.same_module.Given as goal

-- no name of those so far stands twice
abbrev pub invariant-loop-place : goal.invariant-loop-place
invariant-loop-place l =
    (l.names.keys ≡ modules_of (take l.place l.classes))
    × (first_twice [] (map string_bytes l.files) (modules_of l.classes)
    ≡ first_twice (modules_of (take l.place l.classes)) (map string_bytes (drop l.place l.files)) (modules_of (drop l.place l.classes)))
