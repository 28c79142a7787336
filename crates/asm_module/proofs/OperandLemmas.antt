-- Terms that end before the places of a shape do.
use Rattle.std.proofs.Common.{◌≡◌, ◌<◌, refl, sym, ◌∙◌, ℕ, List, [], ◌∷◌, length, drop, None, arith}
use Rattle.std.proofs.lemmas.Grind.{common_steps}
use Rattle.ej_term.specs.declared.asm_term.AsmTerm.{AsmTerm}
use Rattle.genop_table.specs.declared.part.Place.{Place}
use Rattle.beam_code.specs.declared.operand.Operand.{Operand}
use Rattle.asm_module.specs.Operands.{operands_of}
use Rattle.asm_module.proofs.ReadingLemmas.{onto}

at-end : (number : ℕ) (front : List Operand) (places : List Place) → 0 < length places → onto front (operands_of number places []) ≡ None
at-end number front [] some = absurd (omega (arith, some))
at-end number front (p ∷ places) some = refl

pub short : (number at : ℕ) (front : List Operand) (places : List Place) (rest terms : List AsmTerm) → at < length places → length rest ≡ 0
    → onto front (operands_of number (drop at places) rest) ≡ operands_of number places terms → None ≡ operands_of number places terms
short number at front places [] terms within ends same = sym (at-end number front (drop at places) (left places at within)) ∙ same
  where
    left : (ps : List Place) (k : ℕ) → k < length ps → 0 < length (drop k ps)
    left ps k h = grind (arith, common_steps)
short number at front places (t ∷ rest) terms within ends same = absurd (omega (arith, ends))
