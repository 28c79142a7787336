use Rattle.std.proofs.Common.{subst}
use Rattle.ej_term.specs.Term as term
use Rattle.ej_term.specs.Term.{Pairs}
use Rattle.term_heap.specs.Entries.{entries_at}
use Rattle.term_heap.specs.Maps.{listed, IsPlace, StandsAt, GoesTo}
use Rattle.term_heap.specs.View.{term_of, Stands}
use Rattle.term_heap.proofs.Searching.{not-there}
use Rattle.term_heap.proofs.MapTrees.{removed-tree, removed-map}
use Rattle.term_heap.proofs.heap.Heap.remove.Goals as goal

pub map_of-requires : goal.map_of-requires
map_of-requires c =
    let old = c.args.self.now in
    let at : StandsAt (term_of old c.args.key) (entries_at old (listed old c.args.entries.tree)) c.in-Ok.place = subst (IsPlace (term_of old c.args.key) (entries_at old (listed old c.args.entries.tree))) c.in-Ok.is c.in_ok-place.ensures in
    removed-tree old c.without.new.self c.args.entries.tree c.in_ok-tree-in-Ok.tree c.in-Ok.place c.without.ensures.terms c.in_ok-tree-in-Ok.ensures.held c.requires.map (term_of old c.args.key) c.in_ok-tree-in-Ok.ensures.list at

pub returns-in_ok-map_of-in-Ok-clause-term : goal.returns-in_ok-map_of-in-Ok-clause-term
returns-in_ok-map_of-in-Ok-clause-term c =
    let old = c.args.self.now in
    let at : StandsAt (term_of old c.args.key) (entries_at old (listed old c.args.entries.tree)) c.in-Ok.place = subst (IsPlace (term_of old c.args.key) (entries_at old (listed old c.args.entries.tree))) c.in-Ok.is c.in_ok-place.ensures in
    subst (λ (ps : Pairs). Stands c.map_of.new.self c.in_ok-map_of-in-Ok.field-0 (term.Map ps))
    (removed-map old c.without.new.self c.args.entries.tree c.in_ok-tree-in-Ok.tree c.in-Ok.place c.without.ensures.terms c.in_ok-tree-in-Ok.ensures.held c.requires.map (term_of old c.args.key) c.in_ok-tree-in-Ok.ensures.list at)
    c.in_ok-map_of-in-Ok.ensures.term

pub returns-in-Err-clause-absent : goal.returns-in-Err-clause-absent
returns-in-Err-clause-absent c =
    let old = c.args.self.now in
    let at : GoesTo (term_of old c.args.key) (entries_at old (listed old c.args.entries.tree)) c.in-Err.field-0 = subst (IsPlace (term_of old c.args.key) (entries_at old (listed old c.args.entries.tree))) c.in-Err.is c.in_ok-place.ensures in
    not-there (term_of old c.args.key) (entries_at old (listed old c.args.entries.tree)) c.in-Err.field-0 at
