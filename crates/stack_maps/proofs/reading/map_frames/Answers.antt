use Rattle.std.proofs.Common.{rules, arith, Bor}
use Rattle.std.specs.Option.{option_map}
use Rattle.stack_maps.specs.declared.frame.MapFrame.{MapFrame}
use Rattle.stack_maps.proofs.FramesRead.{stopped}
use Rattle.stack_maps.proofs.reading.map_frames.Goals as goal

pub returns-in-Err : goal.returns-in-Err
returns-in-Err c = stopped c.args.pool.now c.loop-left.frames c.loop-left.left c.loop-left.source c.in-Err.fault _ (option_map (λ (f : Bor MapFrame). f.now) c.last.result) (search (rules, arith)) (search rules) c.loop-left.invariant c.in-Err.ensures
