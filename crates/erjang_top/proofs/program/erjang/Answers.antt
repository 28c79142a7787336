use Rattle.std.proofs.Common.{IfSome, Option, map, refl, subst}
use Rattle.std.specs.Prelude.{string_bytes}
use Rattle.erjang_top.specs.Program.{AnswersCommand}
use Rattle.erjang_top.specs.Words.{Command}
use Rattle.erjang_top.specs.Work.{seen_words}
use Rattle.erjang_top.proofs.Answered.{answer}
use Rattle.erjang_top.proofs.AnsweredVerify.{answer_verify}
use Rattle.erjang_top.proofs.program.erjang.Goals as goal

pub returns-in-Some-Compile-clause-answers : goal.returns-in-Some-Compile-clause-answers
returns-in-Some-Compile-clause-answers g c =
    subst (λ (o : Option Command). IfSome o (λ command. AnswersCommand command c.report.result (g.S.Shelf.state c.args.shelf.now) (g.S.Shelf.state c.compile-outcome.new.shelf) (g.O.Sink.state c.args.out.now) (g.O.Sink.state c.args.out.now) (g.E.Sink.state c.args.err.now) (g.E.Sink.state c.report.new.err)))
    (rw c.in-Some-Compile.field-0-is at c.in-Some-Compile.ensures)
    (answer (seen_words c.in-Some-Compile.words) _ _ _ _ _ _ c.compile-outcome.ensures c.report.ensures, refl)

pub returns-in-Some-Verify-clause-answers : goal.returns-in-Some-Verify-clause-answers
returns-in-Some-Verify-clause-answers g c =
    subst (λ (o : Option Command). IfSome o (λ command. AnswersCommand command c.report-in-Some-Verify.result (g.S.Shelf.state c.args.shelf.now) (g.S.Shelf.state c.verify_each-verified.new.shelf) (g.O.Sink.state c.args.out.now) (g.O.Sink.state c.verify_each-verified.new.out) (g.E.Sink.state c.args.err.now) (g.E.Sink.state c.report-in-Some-Verify.new.err)))
    (rw c.in-Some-Verify.field-0-is at c.in-Some-Verify.ensures)
    (answer_verify (map string_bytes c.in-Some-Verify.files.now) _ _ _ _ _ _ _ _ c.verify_each-verified.ensures c.report-in-Some-Verify.ensures)
