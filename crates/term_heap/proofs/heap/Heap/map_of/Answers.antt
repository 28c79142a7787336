use Rattle.std.proofs.Common.{rules, is_some, ap}
use Rattle.ej_term.specs.Term as term
use Rattle.term_heap.specs.Maps.{listed, pairs_in}
use Rattle.term_heap.specs.View.{terms_in}
use Rattle.term_heap.proofs.Made.{made}
use Rattle.term_heap.proofs.MapTrees.{tree-cell, rises-rising}
use Rattle.term_heap.proofs.Profiled.{formed-made, formed-map}
use Rattle.term_heap.proofs.heap.Heap.map_of.Goals as goal

pub push-requires-clause-known : goal.push-requires-clause-known
push-requires-clause-known c = ap is_some (tree-cell c.args.self.now c.args.tree c.map_place.result c.len-count.result c.requires c.map_place.ensures (search rules))

pub returns-clause-term : goal.returns-clause-term
returns-clause-term c = made c.push.result (terms_in c.push.new.self) _ (term.Map (pairs_in c.args.self.now c.args.tree)) c.push.ensures.term
    (tree-cell c.args.self.now c.args.tree c.map_place.result c.len-count.result c.requires c.map_place.ensures (search rules))

pub push-requires-clause-profile : goal.push-requires-clause-profile
push-requires-clause-profile c = formed-made _ (term.Map (pairs_in c.args.self.now c.args.tree))
    (tree-cell c.args.self.now c.args.tree c.map_place.result c.len-count.result c.requires c.map_place.ensures (search rules))
    (formed-map (terms_in c.args.self.now) (listed c.args.self.now c.args.tree) c.args.self.now.profile c.requires.ids (rises-rising (pairs_in c.args.self.now c.args.tree) c.requires.rises))
