use Rattle.std.proofs.Common.{◌≡◌, None, Option, rules}
use Rattle.ej_term.specs.declared.asm_term.AsmTerm.{AsmTerm}
use Rattle.asm_terms.specs.TermReader.{term_of}
use Rattle.asm_terms.proofs.FormsRead.{spelled_by}
use Rattle.asm_terms.proofs.terms.term_of.Goals as goal

pub returns-in-None : goal.returns-in-None
returns-in-None c =
    let e : ◌≡◌ {A = Option AsmTerm} None (term_of c.args.tokens) = search rules in
    spelled_by c.args.tokens None e

pub returns : goal.returns
returns c =
    let e : c.finish.result ≡ term_of c.args.tokens = search rules in
    spelled_by c.args.tokens c.finish.result e
