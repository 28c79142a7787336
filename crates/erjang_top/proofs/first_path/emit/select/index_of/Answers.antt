use Rattle.std.proofs.Common.{ap, ◌+◌, ◌*◌}
use Rattle.erjang_top.proofs.FirstPath.SelectSteps.{place_is}
use Rattle.erjang_top.proofs.first_path.emit.select.index_of.Goals as goal

pub returns : goal.returns
returns c =
    ap (λ n. 31 + 2 * n) (place_is c.args.value.now c.args.values.now.keys c.get_index_of.result c.len.result c.unwrap_or-place.result c.get_index_of.ensures.index c.len.ensures.len c.unwrap_or-place.ensures)
