-- The elements of a list, as the code has them.
use Rattle.std.specs.Prelude.{List}
use Rattle.ej_term.specs.declared.asm_term.AsmTerm.{AsmTerm}
use Rattle.asm_module.specs.declared.terms.ListOf.{ListOf}
use Rattle.asm_module.specs.declared.terms.ListOf.TheVariants.{Terms, Characters}

abbrev pub elements_seen : ListOf → List AsmTerm
elements_seen (Terms terms) = terms.now
elements_seen (Characters terms) = terms
