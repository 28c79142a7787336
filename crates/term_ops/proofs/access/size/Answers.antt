use Rattle.std.proofs.Common.{◌≡◌, rules, pos, length, to_z, w64, sym, ap, ◌∙◌}
use Rattle.std.proofs.lemmas.List.{length-map}
use Rattle.ej_term.specs.Term.{Int}
use Rattle.ej_term.specs.Outcome.{Value, number}
use Rattle.term_heap.specs.View.{term_of}
use Rattle.term_heap.specs.Held.{terms_at}
use Rattle.term_ops.proofs.SizeLemmas.{size_is}
use Rattle.term_ops.proofs.access.size.Goals as goal

pub returns : goal.returns
returns c =
    let same : to_z w64 (length c.in_ok-elements.elements.now) ≡ pos (length c.in_ok-elements.elements.now) = search rules in
    ap (λ n. Value (Int n)) same
    ∙ ap (λ k. Value (number k)) (sym (length-map c.in_ok-elements.elements.now (term_of c.args.heap.now)))
    ∙ sym (size_is (term_of c.args.heap.now c.args.id) (terms_at c.args.heap.now c.in_ok-elements.elements.now) c.in_ok-elements.ensures.elements)
