use Rattle.std.proofs.Common.{◌≡◌, ◌||◌, map, drop}
use Rattle.beam_code.specs.Keys.{Key, is_among}
use Rattle.erjang_top.specs.first_path.SeenExports.{seen_key}
use Rattle.erjang_top.proofs.first_path.emit.exports.exports_of.Given as goal

abbrev pub invariant-loop-export : goal.invariant-loop-export
invariant-loop-export l = (key : Key) → (is_among (map seen_key l.exports.keys) key || is_among (drop l.export-index l.export-items) key) ≡ is_among l.source.exports key
