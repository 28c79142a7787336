use Rattle.std.proofs.Common.{◌∷◌, [], sym, subst}
use Rattle.std.specs.Prelude.{OnOk}
use Rattle.beam_code.specs.ConstantsSeen.{more_seen}
use Rattle.beam_code.specs.declared.operand.Src.TheVariants as source
use Rattle.slot_kinds.specs.Named.{Gains, values}
use Rattle.slot_kinds.proofs.values.add_more.Goals as goal

pub returns-in-Each : goal.returns-in-Each
returns-in-Each c =
    subst (λ more. OnOk c.add_each.result (Gains c.args.seen.now.keys c.add_each.new.seen.keys (values (more_seen more)))) (sym c.in-Each.is) c.add_each.ensures

pub returns-in-One : goal.returns-in-One
returns-in-One c =
    subst (λ more. OnOk c.add.result (Gains c.args.seen.now.keys c.add.new.seen.keys (values (more_seen more)))) (sym c.in-One.is) c.add.ensures

pub returns-in-Pairs : goal.returns-in-Pairs
returns-in-Pairs c =
    subst (λ more. OnOk c.add_pairs.result (Gains c.args.seen.now.keys c.add_pairs.new.seen.keys (values (more_seen more)))) (sym c.in-Pairs.is) c.add_pairs.ensures

pub returns-in-Keys : goal.returns-in-Keys
returns-in-Keys c =
    subst (λ more. OnOk c.add_keys.result (Gains c.args.seen.now.keys c.add_keys.new.seen.keys (values (more_seen more)))) (sym c.in-Keys.is) c.add_keys.ensures

pub returns-in-Cases : goal.returns-in-Cases
returns-in-Cases c =
    subst (λ more. OnOk c.add_cases.result (Gains c.args.seen.now.keys c.add_cases.new.seen.keys (values (more_seen more)))) (sym c.in-Cases.is) c.add_cases.ensures

pub returns-in_ok-clone-in-Atom : goal.returns-in_ok-clone-in-Atom
returns-in_ok-clone-in-Atom c =
    subst (λ more. OnOk c.add_value.result (Gains c.args.seen.now.keys c.add_value.new.seen.keys (values (more_seen more)))) (sym c.in-Atom.is)
    (subst (λ name. OnOk c.add_value.result (Gains c.args.seen.now.keys c.add_value.new.seen.keys (source.Atom name ∷ []))) (sym c.in_ok-clone-in-Atom.ensures.cases) c.add_value.ensures)
