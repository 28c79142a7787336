use Rattle.std.proofs.Common.{◌<◌, ◌+◌, ◌*◌, ◌^◌, subst, rules}
use Rattle.std.specs.Prelude.{IsSome}
use Rattle.term_heap.specs.View.{terms_in, parts_in, texts_in, cell_term}
use Rattle.term_heap.specs.declared.cell.Cell.{Cell}
use Rattle.term_heap.proofs.HeapBounds.{heap-few, map-fits, fun-names}
use Rattle.term_text.proofs.printer.write_cell.Goals as goal

pub overflow_add-first : goal.overflow_add-first
overflow_add-first c =
    let heap = c.args.heap.now in
    let fits : c.in-Map.first + 2 * c.in-Map.count < 2 ^ 64 = map-fits (parts_in heap) (heap-few heap) (terms_in heap) c.in-Map.first c.in-Map.count (subst (λ (cell : Cell). IsSome (cell_term heap cell)) c.in-Map.is c.requires) in
    search rules

pub atom_text-requires-in-Fun-true-default-default-default-default-default : goal.atom_text-requires-in-Fun-true-default-default-default-default-default
atom_text-requires-in-Fun-true-default-default-default-default-default c =
    (fun-names (texts_in c.args.heap.now) (parts_in c.args.heap.now) (terms_in c.args.heap.now) c.args.cell.now c.in-Fun-true-default-default-default-default-default.local c.in-Fun-true-default-default-default-default-default.module c.in-Fun-true-default-default-default-default-default.name c.in-Fun-true-default-default-default-default-default.arity
    c.in-Fun-true-default-default-default-default-default.first c.in-Fun-true-default-default-default-default-default.len c.requires c.in-Fun-true-default-default-default-default-default.is).0

pub atom_text-requires-in-Fun-true-default-default-default-default-default-2 : goal.atom_text-requires-in-Fun-true-default-default-default-default-default-2
atom_text-requires-in-Fun-true-default-default-default-default-default-2 c =
    (fun-names (texts_in c.args.heap.now) (parts_in c.args.heap.now) (terms_in c.args.heap.now) c.args.cell.now c.in-Fun-true-default-default-default-default-default.local c.in-Fun-true-default-default-default-default-default.module c.in-Fun-true-default-default-default-default-default.name c.in-Fun-true-default-default-default-default-default.arity
    c.in-Fun-true-default-default-default-default-default.first c.in-Fun-true-default-default-default-default-default.len c.requires c.in-Fun-true-default-default-default-default-default.is).1

pub atom_text-requires-in-Fun-false-default-default-default-default-default : goal.atom_text-requires-in-Fun-false-default-default-default-default-default
atom_text-requires-in-Fun-false-default-default-default-default-default c =
    (fun-names (texts_in c.args.heap.now) (parts_in c.args.heap.now) (terms_in c.args.heap.now) c.args.cell.now c.in-Fun-false-default-default-default-default-default.local c.in-Fun-false-default-default-default-default-default.module c.in-Fun-false-default-default-default-default-default.name c.in-Fun-false-default-default-default-default-default.arity
    c.in-Fun-false-default-default-default-default-default.first c.in-Fun-false-default-default-default-default-default.len c.requires c.in-Fun-false-default-default-default-default-default.is).0

pub atom_text-requires-in-Fun-false-default-default-default-default-default-2 : goal.atom_text-requires-in-Fun-false-default-default-default-default-default-2
atom_text-requires-in-Fun-false-default-default-default-default-default-2 c =
    (fun-names (texts_in c.args.heap.now) (parts_in c.args.heap.now) (terms_in c.args.heap.now) c.args.cell.now c.in-Fun-false-default-default-default-default-default.local c.in-Fun-false-default-default-default-default-default.module c.in-Fun-false-default-default-default-default-default.name c.in-Fun-false-default-default-default-default-default.arity
    c.in-Fun-false-default-default-default-default-default.first c.in-Fun-false-default-default-default-default-default.len c.requires c.in-Fun-false-default-default-default-default-default.is).1
