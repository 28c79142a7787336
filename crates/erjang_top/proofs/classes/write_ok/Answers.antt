use Rattle.std.proofs.Common.{[], ◌∷◌, ◌++◌, codes}
use Rattle.erjang_top.proofs.Said.{fault_passed_on, took_first_front, writes_rest}
use Rattle.erjang_top.proofs.classes.write_ok.Goals as goal

pub returns-in_err-write_all : goal.returns-in_err-write_all
returns-in_err-write_all g c =
    fault_passed_on _ _ _ _ _ c.from_residual.ensures.1 (took_first_front _ _ (codes "ok ") (c.args.file.now ++ 10 ∷ []) c.in_err-write_all.ensures)

pub returns : goal.returns
returns g c = writes_rest _ _ _ (codes "ok ") (c.args.file.now ++ 10 ∷ []) _ c.in_ok-write_all.ensures c.write_line.ensures
