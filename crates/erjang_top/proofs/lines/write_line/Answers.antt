use Rattle.erjang_top.proofs.Said.{writes_rest}
use Rattle.erjang_top.proofs.lines.write_line.Goals as goal

pub returns : goal.returns
returns g c =
    let p = rw c.as_bytes.ensures.value at c.in_ok-write_all.ensures in
    let q = rw c.as_bytes-2.ensures.value at c.write_all-2.ensures in
    writes_rest _ _ _ c.args.file.now c.args.said.now _ p q
