use Rattle.std.proofs.Common.{sym, subst}
use Rattle.std.specs.Prelude.{OnOk}
use Rattle.beam_code.specs.ConstantsSeen.{externals_seen}
use Rattle.slot_kinds.specs.Named.{Gains}
use Rattle.slot_kinds.proofs.named.add_call.Goals as goal

pub returns-in-Some : goal.returns-in-Some
returns-in-Some c =
    subst (λ x. OnOk c.add_external.result (Gains c.args.seen.now.keys c.add_external.new.seen.keys (externals_seen x))) (sym c.in-Some.is) c.add_external.ensures
