use Rattle.std.proofs.Common.{sym, subst}
use Rattle.erjang_top.specs.Answers.{NotBuilt, SameModule}
use Rattle.erjang_top.specs.Work.{ReportsAt}
use Rattle.erjang_top.specs.declared.fault.Fault.{Fault}
use Rattle.erjang_top.proofs.Said.{said_refused}
use Rattle.erjang_top.proofs.report.report_at.Goals as goal

pub returns-in-SameModule : goal.returns-in-SameModule
returns-in-SameModule g c =
    subst (λ (f : Fault). ReportsAt c.args.file.now f c.refuse-in-SameModule.result (g.E.Sink.state c.args.err.now) (g.E.Sink.state c.refuse-in-SameModule.new.err)) (sym c.in-SameModule.is)
    (said_refused c.args.file.now (SameModule c.in-SameModule.earlier) c.same_module.result _ _ _ c.same_module.ensures c.refuse-in-SameModule.ensures)

pub returns-in-NotBuilt : goal.returns-in-NotBuilt
returns-in-NotBuilt g c =
    subst (λ (f : Fault). ReportsAt c.args.file.now f c.refuse-in-NotBuilt.result (g.E.Sink.state c.args.err.now) (g.E.Sink.state c.refuse-in-NotBuilt.new.err)) (sym c.in-NotBuilt.is)
    (said_refused c.args.file.now (NotBuilt c.in-NotBuilt.func c.in-NotBuilt.index) c.not_built.result _ _ _ c.not_built.ensures c.refuse-in-NotBuilt.ensures)
