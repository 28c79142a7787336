use Rattle.std.proofs.Common.{nat_eq, drop, map}
use Rattle.indexmap.specs.IndexMap.{get}
use Rattle.beam_code.specs.Code.{function_code}
use Rattle.label_check.proofs.Entries.{Kept}
use Rattle.label_check.proofs.arity.arities_of.Given as goal

abbrev pub invariant-loop-function : goal.invariant-loop-function
invariant-loop-function l = Kept (get nat_eq l.entries) (map function_code (drop l.function-index l.functions)) (map function_code l.functions)
