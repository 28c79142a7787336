use Rattle.term_heap.proofs.Rebuilding.{map-parts}
use Rattle.term_heap.proofs.load.count_inner.Goals as goal

pub returns-in-Map : goal.returns-in-Map
returns-in-Map c = map-parts c.args.t.now c.in-Map.pairs c.as_slice-in-Map.result.now c.in-Map.is c.as_slice-in-Map.ensures
