use Rattle.std.proofs.Common.{sym, subst}
use Rattle.beam_code.specs.Slots.{state_of}
use Rattle.beam_code.specs.Good.{GoesTo}
use Rattle.slot_kinds.specs.Rows.{NoRise, RisesTo}
use Rattle.slot_kinds.specs.Tables.{Refuses}
use Rattle.slot_kinds.proofs.AnswerLaw.{handed-on}
use Rattle.slot_kinds.proofs.TableLaw.{no-rise, stays-goes, raise-goes}
use Rattle.slot_kinds.proofs.table.Table.reach.Goals as goal

pub returns-in-Err : goal.returns-in-Err
returns-in-Err c =
    handed-on (NoRise c.in-Some.row.now.state c.args.state.now) (Refuses (λ at. GoesTo at (c.args.label, state_of c.args.state.now)) c.args.self.now) _
    (no-rise c.args.self.now c.args.label c.in-Some.row.now c.args.state.now (sym c.in-Some.ensures.value)) c.in-Err.ensures

pub returns-in-Ok-None : goal.returns-in-Ok-None
returns-in-Ok-None c =
    stays-goes c.args.self.now c.args.label c.in-Some.row.now c.args.state.now (sym c.in-Some.ensures.value)
    (subst (RisesTo c.in-Some.row.now.state c.args.state.now) c.in-Ok-None.field-0-is c.in-Ok-None.ensures)

pub returns-in_ok-raise-in-Ok-Some : goal.returns-in_ok-raise-in-Ok-Some
returns-in_ok-raise-in-Ok-Some c =
    raise-goes c.args.self.now c.raise.new.self c.args.label c.in-Some.row.now c.args.state.now c.in-Ok-Some.higher (sym c.in-Some.ensures.value)
    (subst (RisesTo c.in-Some.row.now.state c.args.state.now) c.in-Ok-Some.field-0-is c.in-Ok-Some.ensures) c.in_ok-raise-in-Ok-Some.ensures c.requires.tags_known
