use Rattle.std.proofs.Common.{subst}
use Rattle.ej_term.specs.Term.{Atom}
use Rattle.term_heap.specs.View.{Stands}
use Rattle.proc_sched.proofs.LoadLaw.{is-call}
use Rattle.proc_sched.proofs.call.load_call.Goals as goal

pub returns-clause-loads : goal.returns-clause-loads
returns-clause-loads c =
    is-call c.args.«module».now c.args.name.now c.args.args.now c.load_list.new.heap c.atom.new.self c.atom-2.new.self c.in_ok-module.«module» c.in_ok-name.name c.in_ok-args.args c.in_ok-args.ensures.loads c.in_ok-module.ensures.keeps
    (subst (λ name. Stands c.atom.new.self c.in_ok-module.«module» (Atom name)) c.as_str.ensures.characters c.in_ok-module.ensures.term) c.in_ok-name.ensures.keeps
    (subst (λ name. Stands c.atom-2.new.self c.in_ok-name.name (Atom name)) c.as_str-2.ensures.characters c.in_ok-name.ensures.term)
