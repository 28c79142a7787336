use Rattle.std.proofs.Common.{◌≡◌, drop}
use Rattle.jvm_code.specs.ReadOps.{rise_above, rises}
use Rattle.class_file.proofs.switches.rises.Given as goal

abbrev pub invariant-loop-pair : goal.invariant-loop-pair
invariant-loop-pair l = rise_above l.before (drop l.pair-index l.pairs) ≡ rises l.pairs
