use Rattle.std.proofs.Common.{sym, ap, ◌∙◌}
use Rattle.term_heap.specs.View.{term_of, texts_in, cell_term}
use Rattle.proc_sched.proofs.DeliveryLaw.{atom-told}
use Rattle.proc_sched.proofs.node.Node.is_atom.Goals as goal

pub returns-in-Atom : goal.returns-in-Atom
returns-in-Atom c =
    let heap = c.args.self.now.heap in
    c.eq.ensures ∙ atom-told (term_of heap c.args.id) (texts_in heap) c.in-Atom.place c.atom_text.result.now c.args.name.now c.atom_text.utf8 c.utf8.name (ap (cell_term heap) (sym c.in-Atom.is) ∙ c.cell.ensures.term) c.atom_text.ensures
