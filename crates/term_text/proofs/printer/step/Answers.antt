use Rattle.std.proofs.Common.{◌<◌, string_bytes, rules, subst}
use Rattle.term_heap.specs.View.{terms_in, parts_in, texts_in}
use Rattle.term_text.specs.declared.work.Work.{Work}
use Rattle.term_text.specs.declared.work.Work.TheVariants as w
use Rattle.term_text.specs.Printing.{IsWork}
use Rattle.term_text.proofs.Steps.{stepped-is, stepped-term, stepped-tail, stepped-parts, stepped-rest, stepped-entries, stepped-more}
use Rattle.term_heap.proofs.HeapBounds.{heap-few}
use Rattle.term_text.proofs.printer.step.Goals as goal

pub returns-in-Term : goal.returns-in-Term
returns-in-Term c =
    stepped-is (parts_in c.args.heap.now) (terms_in c.args.heap.now) c.args.work (w.Term c.in-Term.id) c.write_cell.result (string_bytes c.args.out.now) (string_bytes c.write_cell.new.out) c.args.pending.now.items c.write_cell.new.pending.items c.in-Term.is
    (stepped-term (texts_in c.args.heap.now) (parts_in c.args.heap.now) (heap-few c.args.heap.now) (terms_in c.args.heap.now) c.in-Term.id c.cell.result.now c.write_cell.result _ _ _ _ c.cell.ensures.term c.write_cell.ensures.text c.write_cell.ensures.works)

pub returns-in-Tail : goal.returns-in-Tail
returns-in-Tail c =
    let is : IsWork (parts_in c.args.heap.now) (terms_in c.args.heap.now) (w.Tail c.in-Tail.id) = subst (λ (k : Work). IsWork (parts_in c.args.heap.now) (terms_in c.args.heap.now) k) c.in-Tail.is c.requires in
    stepped-is (parts_in c.args.heap.now) (terms_in c.args.heap.now) c.args.work (w.Tail c.in-Tail.id) c.write_tail.result (string_bytes c.args.out.now) (string_bytes c.write_tail.new.out) c.args.pending.now.items c.write_tail.new.pending.items c.in-Tail.is
    (stepped-tail (texts_in c.args.heap.now) (parts_in c.args.heap.now) (heap-few c.args.heap.now) (terms_in c.args.heap.now) c.in-Tail.id c.cell-in-Tail.result.now c.write_tail.result _ _ _ _ is c.cell-in-Tail.ensures.term c.write_tail.ensures.text c.write_tail.ensures.works)

pub returns-in-Parts : goal.returns-in-Parts
returns-in-Parts c =
    let is : IsWork (parts_in c.args.heap.now) (terms_in c.args.heap.now) (w.Parts c.in-Parts.first c.in-Parts.count) = subst (λ (k : Work). IsWork (parts_in c.args.heap.now) (terms_in c.args.heap.now) k) c.in-Parts.is c.requires in
    let positive : 0 < c.in-Parts.count = search rules in
    stepped-is (parts_in c.args.heap.now) (terms_in c.args.heap.now) c.args.work (w.Parts c.in-Parts.first c.in-Parts.count) c.push_run.result (string_bytes c.args.out.now) (string_bytes c.args.out.now) c.args.pending.now.items c.push_run.new.pending.items c.in-Parts.is
    (stepped-parts (parts_in c.args.heap.now) (terms_in c.args.heap.now) c.in-Parts.first c.in-Parts.count c.push_run.result _ _ _ is positive c.push_run.ensures)

pub returns-in_ok-push_str-in-Rest : goal.returns-in_ok-push_str-in-Rest
returns-in_ok-push_str-in-Rest c =
    let is : IsWork (parts_in c.args.heap.now) (terms_in c.args.heap.now) (w.Rest c.in-Rest.first c.in-Rest.count) = subst (λ (k : Work). IsWork (parts_in c.args.heap.now) (terms_in c.args.heap.now) k) c.in-Rest.is c.requires in
    let positive : 0 < c.in-Rest.count = search rules in
    stepped-is (parts_in c.args.heap.now) (terms_in c.args.heap.now) c.args.work (w.Rest c.in-Rest.first c.in-Rest.count) c.push_run-in-Rest.result (string_bytes c.args.out.now) (string_bytes c.push_str.new.self) c.args.pending.now.items c.push_run-in-Rest.new.pending.items c.in-Rest.is
    (stepped-rest (parts_in c.args.heap.now) (terms_in c.args.heap.now) c.in-Rest.first c.in-Rest.count c.push_run-in-Rest.result _ _ _ _ is positive c.in_ok-push_str-in-Rest.ensures.bytes c.push_run-in-Rest.ensures)

pub returns-in-Entries : goal.returns-in-Entries
returns-in-Entries c =
    let is : IsWork (parts_in c.args.heap.now) (terms_in c.args.heap.now) (w.Entries c.in-Entries.key c.in-Entries.value c.in-Entries.count) = subst (λ (k : Work). IsWork (parts_in c.args.heap.now) (terms_in c.args.heap.now) k) c.in-Entries.is c.requires in
    let positive : 0 < c.in-Entries.count = search rules in
    stepped-is (parts_in c.args.heap.now) (terms_in c.args.heap.now) c.args.work (w.Entries c.in-Entries.key c.in-Entries.value c.in-Entries.count) c.push_entries.result (string_bytes c.args.out.now) (string_bytes c.args.out.now) c.args.pending.now.items c.push_entries.new.pending.items c.in-Entries.is
    (stepped-entries (parts_in c.args.heap.now) (terms_in c.args.heap.now) c.in-Entries.key c.in-Entries.value c.in-Entries.count c.push_entries.result _ _ _ is positive c.push_entries.ensures)

pub returns-in_ok-push_str-in-More : goal.returns-in_ok-push_str-in-More
returns-in_ok-push_str-in-More c =
    let is : IsWork (parts_in c.args.heap.now) (terms_in c.args.heap.now) (w.More c.in-More.key c.in-More.value c.in-More.count) = subst (λ (k : Work). IsWork (parts_in c.args.heap.now) (terms_in c.args.heap.now) k) c.in-More.is c.requires in
    let positive : 0 < c.in-More.count = search rules in
    stepped-is (parts_in c.args.heap.now) (terms_in c.args.heap.now) c.args.work (w.More c.in-More.key c.in-More.value c.in-More.count) c.push_entries-in-More.result (string_bytes c.args.out.now) (string_bytes c.push_str-in-More.new.self) c.args.pending.now.items c.push_entries-in-More.new.pending.items c.in-More.is
    (stepped-more (parts_in c.args.heap.now) (terms_in c.args.heap.now) c.in-More.key c.in-More.value c.in-More.count c.push_entries-in-More.result _ _ _ _ is positive c.in_ok-push_str-in-More.ensures.bytes c.push_entries-in-More.ensures)
