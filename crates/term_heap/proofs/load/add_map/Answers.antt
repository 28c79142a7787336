use Rattle.std.proofs.Common.{List, Some, ap, ◌∙◌}
use Rattle.ej_term.specs.Term.{Term, Map, Empty}
use Rattle.ej_term.specs.Maps.{put_each}
use Rattle.term_heap.specs.declared.cell.TermId.{TermId}
use Rattle.term_heap.specs.View.{terms_in}
use Rattle.term_heap.specs.Entries.{entries_at}
use Rattle.term_heap.proofs.Made.{made}
use Rattle.term_heap.proofs.Rebuilding.{entries-held, entries-terms}
use Rattle.term_heap.proofs.load.add_map.Goals as goal

pub map-requires : goal.map-requires
map-requires c = entries-held c.args.heap.now c.args.parts.now c.deref.result.now (c.deref.ensures.value ∙ c.in_ok-entries.ensures) c.requires

pub returns-clause-term : goal.returns-clause-term
returns-clause-term c = made c.map.result (terms_in c.map.new.self) _ _ c.map.ensures.term
    (ap (λ (es : List (TermId × TermId)). Some (Map (put_each Empty (entries_at c.args.heap.now es)))) (c.deref.ensures.value ∙ c.in_ok-entries.ensures)
    ∙ ap (λ (es : List (Term × Term)). Some (Map (put_each Empty es))) (entries-terms c.args.heap.now c.args.parts.now))
