use Rattle.std.proofs.Common.{◌∙◌}
use Rattle.erjang_top.proofs.FirstPath.Appends.{appended-as}
use Rattle.erjang_top.proofs.FirstPath.AtomText.{print_short}
use Rattle.erjang_top.proofs.FirstPath.PoolSteps.{atom_plain, atom_entries}
use Rattle.erjang_top.proofs.first_path.emit.pool.push_value.Goals as goal

pub push_text-requires-clause-short : goal.push_text-requires-clause-short
push_text-requires-clause-short c =
    let named = atom_plain c.args.value.now c.in-Atom.name c.in-Atom.is c.requires.thin in
    print_short c.in-Atom.name.now c.deref.result.now named (c.deref.ensures.value ∙ c.in_ok-text-in-Atom.ensures)

pub returns-in_ok-text-in-Atom : goal.returns-in_ok-text-in-Atom
returns-in_ok-text-in-Atom c =
    let same = c.deref.ensures.value ∙ c.in_ok-text-in-Atom.ensures in
    appended-as c.push_text.result _ _ _ _ (atom_entries c.args.at c.args.value.now c.in-Atom.name c.deref.result.now c.in-Atom.is same) c.push_text.ensures
