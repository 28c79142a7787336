use Rattle.std.proofs.Common.{drop}
use Rattle.std.specs.Ordering.{int_eq}
use Rattle.std.specs.Option.{option_map}
use Rattle.indexmap.specs.IndexMap.{get}
use Rattle.class_verifier.proofs.Found.{Kept}
use Rattle.class_verifier.proofs.table.by_offset.Given as goal

abbrev pub invariant-loop-frame : goal.invariant-loop-frame
invariant-loop-frame l = Kept (λ n. option_map (λ f. f.now) (get int_eq l.table n)) (drop l.frame-index l.frames) l.frames
