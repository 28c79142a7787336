use Rattle.std.proofs.Common.{refl}
use Rattle.erjang_top.proofs.FirstPath.ExportKeys.{one-more}
use Rattle.erjang_top.proofs.first_path.emit.exports.exports_of.Goals as goal

pub loop-export-preserved : goal.loop-export-preserved
loop-export-preserved c = λ key.
    one-more c.as_slice-export-items.result.now c.loop-export.export-index c.export-item.result _ _ c.loop-export.exports.keys c.insert.new.self.keys key
    c.loop-export-test.true c.export-item.is refl c.in_ok-insert.ensures.keys (c.loop-export.invariant key)
