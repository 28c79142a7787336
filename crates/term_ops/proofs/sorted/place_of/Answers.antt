use Rattle.std.proofs.Common.{◌<◌, ◌+◌, ◌-◌, ◌/◌, length, arith}
use Rattle.term_heap.specs.View.{term_of}
use Rattle.term_ops.proofs.SortedPlacing.{less-here, equal-here, greater-here}
use Rattle.term_ops.proofs.sorted.place_of.Goals as goal

pub loop-low-preserved-in-Less : goal.loop-low-preserved-in-Less
loop-low-preserved-in-Less c =
    let within : c.loop-low.low + (c.loop-low.high - c.loop-low.low) / 2 < length c.args.keys.now = omega arith in (
      omega arith,
      omega arith,
      c.loop-low.invariant.2,
      less-here c.args.heap.now c.args.keys.now (c.loop-low.low + (c.loop-low.high - c.loop-low.low) / 2) _ (term_of c.args.heap.now c.args.key) c.in_ok-compare.field-0 within c.requires.rise c.in_ok-compare.ensures c.in-Less.is,
    )

pub returns-in-Equal : goal.returns-in-Equal
returns-in-Equal c =
    let within : c.loop-low.low + (c.loop-low.high - c.loop-low.low) / 2 < length c.args.keys.now = omega arith in
    equal-here c.args.heap.now c.args.keys.now (c.loop-low.low + (c.loop-low.high - c.loop-low.low) / 2) _ (term_of c.args.heap.now c.args.key) c.in_ok-compare.field-0 within c.requires.rise c.in_ok-compare.ensures c.in-Equal.is

pub loop-low-preserved : goal.loop-low-preserved
loop-low-preserved c =
    let within : c.loop-low.low + (c.loop-low.high - c.loop-low.low) / 2 < length c.args.keys.now = omega arith in (
      omega arith,
      omega arith,
      greater-here c.args.heap.now c.args.keys.now (c.loop-low.low + (c.loop-low.high - c.loop-low.low) / 2) _ (term_of c.args.heap.now c.args.key) c.in_ok-compare.field-0 within c.requires.rise c.in_ok-compare.ensures c.in-Greater.is,
      c.loop-low.invariant.3,
    )
