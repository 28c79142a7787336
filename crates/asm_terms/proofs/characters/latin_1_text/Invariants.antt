use Rattle.std.proofs.Common.{◌≡◌, ◌++◌, drop}
use Rattle.asm_terms.proofs.characters.latin_1_text.Given as goal

abbrev pub invariant-loop-byte : goal.invariant-loop-byte
invariant-loop-byte l = l.text ++ drop l.byte-index l.bytes ≡ l.bytes
