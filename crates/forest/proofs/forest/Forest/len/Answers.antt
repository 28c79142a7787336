use Rattle.std.proofs.Common.{◌≡◌, ◌<◌, ◌-◌, length, suc, refl, sym, ap, ◌∙◌, arith}
use Rattle.std.proofs.lemmas.Option.{slice_get_read}
use Rattle.forest.proofs.Placing.{length-lists, empty-list, list-fits, node-of}
use Rattle.forest.proofs.forest.Forest.len.Goals as goal

pub index-requires : goal.index-requires
index-requires g c =
    let nodes = c.args.self.now.nodes in
    omega (arith, nodes.ok.0, c.requires, c.number.ensures, length-lists nodes.items)

pub returns-in-0-clause-len : goal.returns-in-0-clause-len
returns-in-0-clause-len g c = sym (ap length (empty-list c.args.self.now.nodes.items c.args.tree.number (sym c.number.ensures ∙ c.in-0.is)))

pub returns-in-0-clause-list_fits : goal.returns-in-0-clause-list_fits
returns-in-0-clause-list_fits g c = list-fits c.args.self.now.nodes.items c.args.tree.number c.args.self.now.grows c.requires

pub returns-in_default-clause-len : goal.returns-in_default-clause-len
returns-in_default-clause-len g c =
    let nodes = c.args.self.now.nodes in
    let within : c.number.result - 1 < length nodes.items = omega (arith, c.requires, c.number.ensures, length-lists nodes.items) in
    let at : c.args.tree.number ≡ suc (c.number.result - 1) = omega (arith, c.number.ensures) in
    let r = node-of nodes.items c.args.tree.number (c.number.result - 1) c.index.result.now c.args.self.now.grows at (slice_get_read nodes.items (length nodes.items) (c.number.result - 1) c.index.result.now refl within c.index.ensures) in
    r.1.len ∙ ap length (sym r.0)

pub returns-in_default-clause-list_fits : goal.returns-in_default-clause-list_fits
returns-in_default-clause-list_fits g c = list-fits c.args.self.now.nodes.items c.args.tree.number c.args.self.now.grows c.requires

pub returns-in_default-clause-number_fits : goal.returns-in_default-clause-number_fits
returns-in_default-clause-number_fits g c = omega (arith, c.args.self.now.few, c.requires, length-lists c.args.self.now.nodes.items)
