use Rattle.std.proofs.Common.{subst}
use Rattle.ej_term.specs.Lists.{list_onto}
use Rattle.term_heap.specs.Held.{terms_at}
use Rattle.term_heap.specs.View.{Stands, term_of}
use Rattle.proc_sched.proofs.LoadLaw.{is-list}
use Rattle.proc_sched.proofs.call.load_list.Goals as goal

pub returns-clause-loads : goal.returns-clause-loads
returns-clause-loads c =
    is-list c.args.terms.now c.load_each.new.heap c.nil.new.self c.list_onto.new.self c.in_ok-ids.ids.items c.in_ok-nil.nil c.in_ok-list_onto.field-0 c.in_ok-ids.ensures.held c.in_ok-ids.ensures.terms c.in_ok-nil.ensures.keeps c.in_ok-nil.ensures.term
    (subst (λ ids. Stands c.list_onto.new.self c.in_ok-list_onto.field-0 (list_onto (terms_at c.nil.new.self ids) (term_of c.nil.new.self c.in_ok-nil.nil))) c.as_slice.ensures.value c.in_ok-list_onto.ensures.term)
