use Rattle.std.proofs.Common.{map, take, drop, ◌+◌}
use Rattle.std.specs.Prelude.{string_bytes}
use Rattle.erjang_top.proofs.ManyFiles.{between, front-map}
use Rattle.erjang_top.proofs.Verifying.{verified_more, verify_stops}
use Rattle.erjang_top.proofs.classes.verify_each.Goals as goal

pub returns-in-Err : goal.returns-in-Err
returns-in-Err g c =
    let stop = rw c.as_str.ensures.value at c.in-Err.ensures in
    verify_stops _ (map string_bytes (take c.loop-file.file-index c.args.files.now)) (map string_bytes (drop (c.loop-file.file-index + 1) c.args.files.now)) (string_bytes c.file-item.result) _ _ _ _ _ _ c.in-Err.stopped
    (between string_bytes c.args.files.now c.loop-file.file-index c.file-item.result c.loop-file-test.true c.file-item.is) c.loop-file.invariant stop

pub loop-file-preserved : goal.loop-file-preserved
loop-file-preserved g c =
    let next = rw c.as_str.ensures.value at c.in_default.ensures in
    verified_more _ _ _ _ _ _ _ _ _ (front-map string_bytes c.args.files.now c.loop-file.file-index c.file-item.result c.loop-file-test.true c.file-item.is) c.loop-file.invariant next
