use Rattle.std.proofs.Common.{◌++◌, ◌<◌, ◌^◌, subst, rules, nat_cmp, ap, ap₂, sym, ◌∙◌}
use Rattle.std.proofs.lemmas.List.{append-nil}
use Rattle.std.specs.Prelude.{IsSome}
use Rattle.term_heap.specs.View.{terms_in, parts_in, texts_in, cell_term}
use Rattle.term_heap.specs.declared.cell.Cell.{Cell}
use Rattle.term_heap.proofs.HeapBounds.{heap-few, map-short}
use Rattle.term_heap.proofs.Apart.{Apart, apart-is, apart-Int, apart-Atom, apart-Reference, apart-Fun, apart-Pid, apart-Tuple, apart-Map, apart-Cons, apart-Nil}
use Rattle.term_heap.proofs.order.compare_cells.Goals as goal
use Rattle.term_heap.proofs.order.compare_cells.Goals.{in_default-via-in-Int+in_default, in_default-via-in-Atom+in_default, in_default-via-in-Reference+in_default, in_default-via-in-Fun+in_default, in_default-via-in-Pid+in_default, in_default-via-in-Tuple+in_default, in_default-via-in-Map+in_default, in_default-via-in-Cons+in_default, in_default-via-in_default}

apart : (c : goal.After-cmp-in_default) → Apart (texts_in c.args.heap.now) c.args.a.now c.args.b.now
apart c =
    let us = texts_in c.args.heap.now in
    let b = c.args.b.now in
    elim c.in_default.branch [
      | in_default-via-in-Int+in_default w ↦ apart-is us _ _ b w.in_default.is-0 (apart-Int us _ b w.in_default.not-Int-1)
      | in_default-via-in-Atom+in_default w ↦ apart-is us _ _ b w.in_default.is-0 (apart-Atom us _ b w.in_default.not-Atom-1)
      | in_default-via-in-Reference+in_default w ↦ apart-is us _ _ b w.in_default.is-0 (apart-Reference us _ _ b w.in_default.not-Reference-1)
      | in_default-via-in-Fun+in_default w ↦ apart-is us _ _ b w.in_default.is-0 (apart-Fun us _ _ _ _ _ _ b w.in_default.not-Fun-1)
      | in_default-via-in-Pid+in_default w ↦ apart-is us _ _ b w.in_default.is-0 (apart-Pid us _ _ b w.in_default.not-Pid-1)
      | in_default-via-in-Tuple+in_default w ↦ apart-is us _ _ b w.in_default.is-0 (apart-Tuple us _ _ b w.in_default.not-Tuple-1)
      | in_default-via-in-Map+in_default w ↦ apart-is us _ _ b w.in_default.is-0 (apart-Map us _ _ b w.in_default.not-Map-1)
      | in_default-via-in-Cons+in_default w ↦ apart-is us _ _ b w.in_default.is-0 (apart-Cons us _ _ b w.in_default.not-Cons-1)
      | in_default-via-in_default w ↦ apart-is us _ _ b w.in_default.is-0 (apart-Nil us b)
    ]

pub returns-in_default-clause-order : goal.returns-in_default-clause-order
returns-in_default-clause-order c = c.cmp-in_default.ensures ∙ ap₂ nat_cmp c.kind.ensures c.kind-in_default.ensures ∙ sym (ap (λ p. p.0) (apart c))

pub returns-in_default-clause-works : goal.returns-in_default-clause-works
returns-in_default-clause-works c = sym (append-nil c.args.pending.now.items) ∙ ap (◌++◌ c.args.pending.now.items) (sym (ap (λ p. p.1) (apart c)))

pub overflow_mul-count : goal.overflow_mul-count
overflow_mul-count c =
    let heap = c.args.heap.now in
    let short : c.in-Map-Map.count < 2 ^ 31 = map-short (parts_in heap) (heap-few heap) (terms_in heap) c.in-Map-Map.first c.in-Map-Map.count (subst (λ (cell : Cell). IsSome (cell_term heap cell)) c.in-Map-Map.is-0 c.requires.first) in
    search rules
