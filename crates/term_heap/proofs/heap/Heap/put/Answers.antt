use Rattle.std.proofs.Common.{subst}
use Rattle.std.specs.Prelude.{Result, Ok, Err, IfOk}
use Rattle.std.specs.declared.alloc.AllocError.{AllocError}
use Rattle.forest.specs.declared.tree.Tree.{Tree}
use Rattle.term_heap.specs.Entries.{entries_at}
use Rattle.term_heap.specs.Maps.{listed, IsPlace, StandsAt, GoesTo}
use Rattle.term_heap.specs.View.{term_of}
use Rattle.term_heap.proofs.MapTrees.{set-tree, set-map, new-tree, new-map}
use Rattle.term_heap.proofs.heap.Heap.put.Goals as goal

if-ok : {P Q R : Tree → Type 0} (r : Result Tree AllocError) → ((made : Tree) → P made → Q made → R made) → IfOk r P → IfOk r Q → IfOk r R
if-ok (Ok made) f p q = f made p q
if-ok (Err e) f p q = tt

pub returns-in-Ok-clause-tree : goal.returns-in-Ok-clause-tree
returns-in-Ok-clause-tree c =
    let old = c.args.self.now in
    let at : StandsAt (term_of old c.args.entry.0) (entries_at old (listed old c.args.tree)) c.in-Ok.place = subst (IsPlace (term_of old c.args.entry.0) (entries_at old (listed old c.args.tree))) c.in-Ok.is c.in_ok-place.ensures in
    if-ok c.with.result (λ made held are. set-tree old c.with.new.self c.args.tree made c.in-Ok.place c.with.ensures.terms held c.requires.tree c.args.entry c.requires.entry are at) c.with.ensures.held c.with.ensures.list

pub returns-in-Ok-clause-map : goal.returns-in-Ok-clause-map
returns-in-Ok-clause-map c =
    let old = c.args.self.now in
    let at : StandsAt (term_of old c.args.entry.0) (entries_at old (listed old c.args.tree)) c.in-Ok.place = subst (IsPlace (term_of old c.args.entry.0) (entries_at old (listed old c.args.tree))) c.in-Ok.is c.in_ok-place.ensures in
    if-ok c.with.result (λ made held are. set-map old c.with.new.self c.args.tree made c.in-Ok.place c.with.ensures.terms held c.requires.tree c.args.entry c.requires.entry are at) c.with.ensures.held c.with.ensures.list

pub returns-in-Err-clause-tree : goal.returns-in-Err-clause-tree
returns-in-Err-clause-tree c =
    let old = c.args.self.now in
    let at : GoesTo (term_of old c.args.entry.0) (entries_at old (listed old c.args.tree)) c.in-Err.place = subst (IsPlace (term_of old c.args.entry.0) (entries_at old (listed old c.args.tree))) c.in-Err.is c.in_ok-place.ensures in
    if-ok c.with_new.result (λ made held are. new-tree old c.with_new.new.self c.args.tree made c.in-Err.place c.with_new.ensures.terms held c.requires.tree c.args.entry c.requires.entry are at) c.with_new.ensures.held c.with_new.ensures.list

pub returns-in-Err-clause-map : goal.returns-in-Err-clause-map
returns-in-Err-clause-map c =
    let old = c.args.self.now in
    let at : GoesTo (term_of old c.args.entry.0) (entries_at old (listed old c.args.tree)) c.in-Err.place = subst (IsPlace (term_of old c.args.entry.0) (entries_at old (listed old c.args.tree))) c.in-Err.is c.in_ok-place.ensures in
    if-ok c.with_new.result (λ made held are. new-map old c.with_new.new.self c.args.tree made c.in-Err.place c.with_new.ensures.terms held c.requires.tree c.args.entry c.requires.entry are at) c.with_new.ensures.held c.with_new.ensures.list
