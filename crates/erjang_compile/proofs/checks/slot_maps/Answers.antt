use Rattle.std.proofs.Common.{arith}
use Rattle.erjang_compile.proofs.Mapped.{unslotted-so, one-map-more}
use Rattle.erjang_compile.proofs.checks.slot_maps.Goals as goal

pub returns-in-Err-NotSlotted : goal.returns-in-Err-NotSlotted
returns-in-Err-NotSlotted c =
    unslotted-so c.args.«module».now c.loop-func.maps c.loop-func.func (omega (arith, c.loop-func-test.true, c.len-func-end.ensures)) c.loop-func.invariant
    (rw c.in-Err-NotSlotted.field-0-is at c.in-Err-NotSlotted.ensures)

pub loop-func-preserved : goal.loop-func-preserved
loop-func-preserved c =
    one-map-more c.args.«module».now c.loop-func.maps c.push.new.self c.loop-func.func c.in-Ok.map (omega (arith, c.loop-func-test.true, c.len-func-end.ensures)) c.loop-func.invariant
    c.in-Ok.ensures c.in_ok-push-in-Ok.ensures.ok
