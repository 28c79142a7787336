use Rattle.std.proofs.Common.{◌≡◌, ◌++◌, drop, map}
use Rattle.asm_module.specs.Terms.{integer_of}
use Rattle.asm_module.proofs.terms.integers.Given as goal

abbrev pub invariant-loop-character : goal.invariant-loop-character
invariant-loop-character l = l.terms ++ map integer_of (drop l.character-index l.characters) ≡ map integer_of l.characters
