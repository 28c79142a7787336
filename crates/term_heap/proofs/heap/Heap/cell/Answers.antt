use Rattle.std.proofs.Common.{rules, ◌<◌, length, get_or, refl, ap, ◌∙◌}
use Rattle.std.proofs.lemmas.Option.{slice_get_read}
use Rattle.term_heap.proofs.Adding.{held-within, cell-is, cell-before}
use Rattle.term_heap.specs.View.{terms_in, parts_in}
use Rattle.term_heap.proofs.Profiled.{formed-id}
use Rattle.term_heap.proofs.heap.Heap.cell.Goals as goal

pub index-requires : goal.index-requires
index-requires c =
    let h : c.args.id.0 < length c.args.self.now.cells.items = held-within c.args.self.now.atoms.keys (parts_in c.args.self.now) c.args.self.now.cells.items c.args.id.0 c.args.self.now.meant c.requires in
    search rules

pub returns-clause-term : goal.returns-clause-term
returns-clause-term c =
    let h : c.args.id.0 < length c.args.self.now.cells.items = held-within c.args.self.now.atoms.keys (parts_in c.args.self.now) c.args.self.now.cells.items c.args.id.0 c.args.self.now.meant c.requires in
    cell-is c.args.self.now.atoms.keys (parts_in c.args.self.now) c.args.self.now.cells.items c.args.id.0 c.index.result.now c.args.self.now.meant (slice_get_read c.args.self.now.cells.items (length c.args.self.now.cells.items) c.args.id.0 c.index.result.now refl h (c.index.ensures ∙ ap (λ i. get_or c.args.self.now.cells.items i c.index.result.now) c.place.ensures))

pub returns-clause-earlier : goal.returns-clause-earlier
returns-clause-earlier c =
    let h : c.args.id.0 < length c.args.self.now.cells.items = held-within c.args.self.now.atoms.keys (parts_in c.args.self.now) c.args.self.now.cells.items c.args.id.0 c.args.self.now.meant c.requires in
    cell-before c.args.self.now.atoms.keys (parts_in c.args.self.now) c.args.self.now.cells.items c.args.id.0 c.index.result.now c.args.self.now.meant (slice_get_read c.args.self.now.cells.items (length c.args.self.now.cells.items) c.args.id.0 c.index.result.now refl h (c.index.ensures ∙ ap (λ i. get_or c.args.self.now.cells.items i c.index.result.now) c.place.ensures))

pub returns-clause-profile : goal.returns-clause-profile
returns-clause-profile c = formed-id (terms_in c.args.self.now) c.args.id c.args.self.now.profile c.requires
