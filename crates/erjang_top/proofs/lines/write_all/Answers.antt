use Rattle.erjang_top.proofs.Said.{took_more, took_till, rest_is}
use Rattle.std.proofs.Common.{◌≡◌, ℕ, ◌<◌, ◌++◌, ◌∙◌, false, nat_eq, arith, length, sym, take}
use Rattle.std.proofs.lemmas.Bool.Decides.{nat_tests}
use Rattle.erjang_top.proofs.lines.write_all.Goals as goal

not_empty : (n : ℕ) → nat_eq n 0 ≡ false → 0 < n
not_empty n e = grind (arith, nat_tests)

pub loop-rest-preserved : goal.loop-rest-preserved
loop-rest-preserved g c =
    let i = c.loop-rest.invariant in (
      i.0 ++ take c.in-Ok.count c.loop-rest.rest.now,
      rw c.split_at.ensures.back (rest_is i.0 c.loop-rest.rest.now c.args.piece.now c.in-Ok.count i.1),
      took_more _ _ _ i.0 c.loop-rest.rest.now c.in-Ok.count i.2 c.in-Ok.ensures,
    )

pub returns-in-Err : goal.returns-in-Err
returns-in-Err g c =
    let i = c.loop-rest.invariant in
    let some = not_empty (length c.loop-rest.rest.now) (sym c.is_empty.ensures ∙ c.loop-rest-test.true) in
    took_till _ _ _ i.0 c.loop-rest.rest.now c.args.piece.now some i.1 i.2 c.in-Err.ensures
