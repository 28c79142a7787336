use Rattle.std.proofs.Common.{◌≡◌, ◌<◌, ◌-◌, length, suc, refl, sym, ◌∙◌, arith}
use Rattle.std.proofs.lemmas.Option.{slice_get_read}
use Rattle.forest.proofs.Placing.{length-lists, empty-list, node-of}
use Rattle.forest.proofs.Tops.{top-of}
use Rattle.forest.proofs.forest.Forest.top.Goals as goal

pub index-node-requires : goal.index-node-requires
index-node-requires g c =
    let nodes = c.args.self.now.nodes in
    omega (arith, nodes.ok.0, c.requires, c.number.ensures, length-lists nodes.items)

pub returns-in-0 : goal.returns-in-0
returns-in-0 g c = empty-list c.args.self.now.nodes.items c.args.tree.number (sym c.number.ensures ∙ c.in-0.is)

pub returns-in_default : goal.returns-in_default
returns-in_default g c =
    let nodes = c.args.self.now.nodes in
    let within : c.number.result - 1 < length nodes.items = omega (arith, c.requires, c.number.ensures, length-lists nodes.items) in
    let at : c.args.tree.number ≡ suc (c.number.result - 1) = omega (arith, c.number.ensures) in
    let r = node-of nodes.items c.args.tree.number (c.number.result - 1) c.index-node.result.now c.args.self.now.grows at (slice_get_read nodes.items (length nodes.items) (c.number.result - 1) c.index-node.result.now refl within c.index-node.ensures) in
    top-of c.args.self.now c.args.tree c.index-node.result.now c.numbered.result c.numbered-in_default.result r.0 r.1 c.numbered.ensures c.numbered-in_default.ensures
