use Rattle.std.proofs.Common.{◌<◌, ◌+◌, ◌-◌, ◌^◌, List, [], ◌∷◌, ◌++◌, IfOk, subst, sym, ap, ◌∙◌, refl, rules}
use Rattle.std.proofs.lemmas.List.{append_assoc}
use Rattle.term_heap.specs.View.{terms_in, parts_in, texts_in}
use Rattle.term_heap.specs.Works.{IsWork, Stepped}
use Rattle.term_heap.specs.declared.work.Work.{Work}
use Rattle.term_heap.specs.declared.work.Work.TheVariants as w
use Rattle.term_heap.proofs.Stepping.{stepped-terms, stepped, runs-open, same-ids, same-runs}
use Rattle.term_heap.proofs.HeapBounds.{heap-few}
use Rattle.term_heap.proofs.Places.{run-fits}
use Rattle.term_heap.proofs.order.step.Goals as goal

pub returns-in-Terms : goal.returns-in-Terms
returns-in-Terms c = same-ids (parts_in c.args.heap.now) (terms_in c.args.heap.now) c.args.work c.in-Terms.a c.in-Terms.b c.args.pending.now.items c.in-Terms.is (search rules)

pub returns-in-Terms-2 : goal.returns-in-Terms-2
returns-in-Terms-2 c =
    subst (λ (k : Work). IfOk c.compare_cells.result (λ o. Stepped (parts_in c.args.heap.now) (terms_in c.args.heap.now) k o c.args.pending.now.items c.compare_cells.new.pending.items)) (sym c.in-Terms-2.is)
    (stepped-terms (texts_in c.args.heap.now) (parts_in c.args.heap.now) (heap-few c.args.heap.now) (terms_in c.args.heap.now) c.in-Terms-2.a c.in-Terms-2.b c.cell.result.now c.cell-in-Terms-2.result.now c.compare_cells.result
    c.args.pending.now.items c.compare_cells.new.pending.items c.cell.ensures.term c.cell-in-Terms-2.ensures.term c.compare_cells.ensures.order c.compare_cells.ensures.works)

pub returns-in-Runs : goal.returns-in-Runs
returns-in-Runs c = same-runs (parts_in c.args.heap.now) (terms_in c.args.heap.now) c.args.work c.in-Runs.first c.in-Runs.other c.in-Runs.field-2 c.args.pending.now.items c.in-Runs.is c.if-first-other.true

pub returns-in_ok-push-in-Runs-2-2 : goal.returns-in_ok-push-in-Runs-2-2
returns-in_ok-push-in-Runs-2-2 c =
    let works : IsWork (parts_in c.args.heap.now) (terms_in c.args.heap.now) (w.Runs c.in-Runs-2.first c.in-Runs-2.other c.in-Runs-2.count) = subst (λ (k : Work). IsWork (parts_in c.args.heap.now) (terms_in c.args.heap.now) k) c.in-Runs-2.is c.requires in
    let positive : 0 < c.in-Runs-2.count = search rules in
    subst (λ (k : Work). Stepped (parts_in c.args.heap.now) (terms_in c.args.heap.now) k _ c.args.pending.now.items c.push-in-Runs-2.new.self.items) (sym c.in-Runs-2.is)
    (stepped (parts_in c.args.heap.now) (terms_in c.args.heap.now) _ (w.Runs c.in-Runs-2.first c.in-Runs-2.other c.in-Runs-2.count) _ c.args.pending.now.items c.push-in-Runs-2.new.self.items
    (runs-open (parts_in c.args.heap.now) (terms_in c.args.heap.now) c.in-Runs-2.first c.in-Runs-2.other c.in-Runs-2.count c.part.result c.part-in-Runs-2.result works positive c.part.ensures c.part-in-Runs-2.ensures)
    refl (c.in_ok-push-in-Runs-2-2.ensures.items ∙ ap (λ (ws : List Work). ws ++ w.Terms c.part.result c.part-in-Runs-2.result ∷ []) c.in_ok-push-in-Runs-2.ensures.items ∙ append_assoc c.args.pending.now.items (w.Runs (c.in-Runs-2.first + 1) (c.in-Runs-2.other + 1) (c.in-Runs-2.count - 1) ∷ []) (w.Terms c.part.result c.part-in-Runs-2.result ∷ [])))

pub overflow_add-first : goal.overflow_add-first
overflow_add-first c =
    let heap = c.args.heap.now in
    let works : IsWork (parts_in heap) (terms_in heap) (w.Runs c.in-Runs-2.first c.in-Runs-2.other c.in-Runs-2.count) = subst (λ (k : Work). IsWork (parts_in heap) (terms_in heap) k) c.in-Runs-2.is c.requires in
    let positive : 0 < c.in-Runs-2.count = search rules in
    let fits : c.in-Runs-2.first + 1 < 2 ^ 64 = run-fits (parts_in heap) (heap-few heap) (terms_in heap) c.in-Runs-2.first c.in-Runs-2.count works.0 positive in
    search rules

pub overflow_add-other : goal.overflow_add-other
overflow_add-other c =
    let heap = c.args.heap.now in
    let works : IsWork (parts_in heap) (terms_in heap) (w.Runs c.in-Runs-2.first c.in-Runs-2.other c.in-Runs-2.count) = subst (λ (k : Work). IsWork (parts_in heap) (terms_in heap) k) c.in-Runs-2.is c.requires in
    let positive : 0 < c.in-Runs-2.count = search rules in
    let fits : c.in-Runs-2.other + 1 < 2 ^ 64 = run-fits (parts_in heap) (heap-few heap) (terms_in heap) c.in-Runs-2.other c.in-Runs-2.count works.1 positive in
    search rules
