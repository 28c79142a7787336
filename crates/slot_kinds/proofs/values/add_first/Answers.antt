use Rattle.std.proofs.Common.{[], sym, subst}
use Rattle.std.specs.Prelude.{OnOk}
use Rattle.beam_code.specs.ConstantsSeen.{behind_first}
use Rattle.slot_kinds.specs.Named.{Gains, values}
use Rattle.slot_kinds.proofs.values.add_first.Goals as goal

pub returns-in-Some : goal.returns-in-Some
returns-in-Some c =
    subst (λ first. OnOk c.add.result (Gains c.args.seen.now.keys c.add.new.seen.keys (values (behind_first first [])))) (sym c.in-Some.is) c.add.ensures
