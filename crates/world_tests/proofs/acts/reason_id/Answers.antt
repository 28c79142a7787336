use Rattle.std.proofs.Common.{IfOk, sym, ap, ◌∙◌, subst}
use Rattle.ej_term.specs.Term.{Atom}
use Rattle.term_heap.specs.View.{Stands}
use Rattle.world_tests.specs.Acts.{reason_of}
use Rattle.world_tests.proofs.ActsLaw.{spelled-normal, spelled-kill, spelled-boom}
use Rattle.world_tests.proofs.acts.reason_id.Goals as goal

pub returns-in-Normal-clause-term : goal.returns-in-Normal-clause-term
returns-in-Normal-clause-term c = subst (λ t. IfOk c.atom.result (λ id. Stands c.atom.new.self id t)) (ap Atom spelled-normal ∙ ap reason_of (sym c.in-Normal.is)) c.atom.ensures.term

pub returns-in-Kill-clause-term : goal.returns-in-Kill-clause-term
returns-in-Kill-clause-term c = subst (λ t. IfOk c.atom-in-Kill.result (λ id. Stands c.atom-in-Kill.new.self id t)) (ap Atom spelled-kill ∙ ap reason_of (sym c.in-Kill.is)) c.atom-in-Kill.ensures.term

pub returns-in-Boom-clause-term : goal.returns-in-Boom-clause-term
returns-in-Boom-clause-term c = subst (λ t. IfOk c.atom-in-Boom.result (λ id. Stands c.atom-in-Boom.new.self id t)) (ap Atom spelled-boom ∙ ap reason_of (sym c.in-Boom.is)) c.atom-in-Boom.ensures.term
