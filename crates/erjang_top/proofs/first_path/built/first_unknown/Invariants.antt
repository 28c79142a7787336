use Rattle.std.proofs.Common.{◌≡◌, true, map, take}
use Rattle.std.specs.List.{list_all}
use Rattle.erjang_top.specs.first_path.Opcode.{opcode, is_known}
use Rattle.erjang_top.proofs.first_path.built.first_unknown.Given as goal

abbrev pub invariant-loop-index : goal.invariant-loop-index
invariant-loop-index l = list_all is_known (take l.index (map opcode l.code)) ≡ true
