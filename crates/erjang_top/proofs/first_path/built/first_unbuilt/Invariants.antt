use Rattle.std.proofs.Common.{◌≡◌, true, take}
use Rattle.std.specs.List.{list_all}
use Rattle.erjang_top.specs.first_path.Built.{knows}
use Rattle.erjang_top.proofs.first_path.built.first_unbuilt.Given as goal

abbrev pub invariant-loop-func : goal.invariant-loop-func
invariant-loop-func l = list_all knows (take l.func l.«module».functions) ≡ true
