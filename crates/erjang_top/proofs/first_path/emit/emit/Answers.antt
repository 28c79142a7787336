use Rattle.erjang_top.proofs.FirstPath.ClassSteps.{class_fits}
use Rattle.erjang_top.proofs.FirstPath.ModuleEmitted.{in-profile, emitted, if-ok}
use Rattle.erjang_top.proofs.FirstPath.SameRuns.{runs-as}
use Rattle.erjang_top.proofs.first_path.emit.emit.Goals as goal

pub write_class-requires : goal.write_class-requires
write_class-requires c = class_fits c.args.source.now (in-profile c.args.source.now c.requires) c.requires.plain

pub returns-clause-emitted : goal.returns-clause-emitted
returns-clause-emitted c = if-ok _ _ c.write_class.result (λ class spelled. emitted c.args.source.now class.items c.requires spelled (runs-as c.args.source.now c.requires)) c.write_class.ensures

pub returns-clause-spelled : goal.returns-clause-spelled
returns-clause-spelled c = if-ok _ _ c.write_class.result (λ class spelled. record { spelled = spelled; profile = in-profile c.args.source.now c.requires }) c.write_class.ensures
