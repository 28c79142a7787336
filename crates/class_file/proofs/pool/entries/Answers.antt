use Rattle.std.proofs.Common.{rules, arith}
use Rattle.class_file.proofs.EntriesRead.{kept, sized}
use Rattle.class_file.proofs.pool.entries.Goals as goal

pub loop-left-preserved : goal.loop-left-preserved
loop-left-preserved c = record {
  told = kept c.loop-left.pool c.push.new.self c.loop-left.due c.is_long-due.result c.loop-left.left c.loop-left.source.at c.loop-left.source.rest c.in-Ok.next c.next_entry.new.source.at c.next_entry.new.source.rest _
      (search (rules, arith)) c.in-Ok.ensures.read c.is_long-due.ensures c.in_ok-push-in-Ok.ensures.ok c.loop-left.invariant.told;
  size = sized c.loop-left.pool c.push.new.self c.in-Ok.next c.args.source.now.at c.loop-left.source.at c.next_entry.new.source.at c.loop-left.invariant.size c.in-Ok.ensures.size c.in_ok-push-in-Ok.ensures.ok;
}
