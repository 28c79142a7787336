use Rattle.std.proofs.Common.{◌<◌, length, ◌∙◌, rules}
use Rattle.term_heap.specs.Maps.{pairs_in}
use Rattle.term_heap.proofs.Kept.{keeps-then}
use Rattle.term_heap.proofs.MapTrees.{put-step}
use Rattle.term_heap.proofs.heap.Heap.put_each.Goals as goal

pub loop-pair-preserved : goal.loop-pair-preserved
loop-pair-preserved c =
    let within : c.loop-pair.pair-index < length c.args.pairs.now = search rules in (
      keeps-then c.args.self.now c.loop-pair.self c.put.new.self c.loop-pair.invariant.0 c.put.ensures.keeps,
      c.put.ensures.terms ∙ c.loop-pair.invariant.1,
      c.in_ok-tree.ensures.tree,
      put-step c.args.self.now c.loop-pair.self c.put.new.self c.loop-pair.tree c.in_ok-tree.tree (pairs_in c.args.self.now c.args.entries.tree) c.args.pairs.now c.loop-pair.pair-index _ within
          c.loop-pair.invariant.1 c.loop-pair.invariant.3 c.in_ok-tree.ensures.map,
    )
