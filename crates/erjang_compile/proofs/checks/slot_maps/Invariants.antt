use Rattle.std.proofs.Common.{take}
use Rattle.std.specs.List.{AllZip}
use Rattle.beam_code.specs.Code.{module_code}
use Rattle.slot_kinds.specs.Best.{IsBest}
use Rattle.erjang_compile.proofs.checks.slot_maps.Given as goal

abbrev pub invariant-loop-func : goal.invariant-loop-func
invariant-loop-func l = AllZip IsBest (take l.func (module_code l.«module»).functions) l.maps
