-- The print of a term is as long in characters as in bytes.
use Rattle.std.proofs.Common.{◌≡◌, List, ℕ, length, Option, None, Some, true, false, refl, sym, ap, ◌∙◌}
use Rattle.std.specs.Prelude.{option_map, is_some, not}
use Rattle.std.proofs.lemmas.Str.{encodes-IsAscii}
use Rattle.ej_term.specs.declared.asm_term.AsmTerm.{AsmTerm}
use Rattle.ej_term.specs.AsmValue.{value, has_opaque}
use Rattle.ej_term.specs.Term.{Term}
use Rattle.ej_term.specs.TermPrint.{print}
use Rattle.ej_term.proofs.OpaqueLaw.{law}
use Rattle.term_text.proofs.Ascii.{print-ascii}
use Rattle.erjang_compile.specs.Accepted.{print_length}

pub print-bytes : (t : Term) → length (print t) ≡ print_length t
print-bytes t = sym (ap length (encodes-IsAscii (print t) (print-ascii t)))

-- the length of a term that was loaded and printed
pub loaded-length : (t : AsmTerm) (v : Term) (bytes : List ℕ) (n : ℕ) → value t ≡ Some v → bytes ≡ print v → n ≡ length bytes → Some n ≡ option_map print_length (value t)
loaded-length t v bytes n e printed is = ap Some (is ∙ ap length printed ∙ print-bytes v) ∙ sym (ap (option_map print_length) e)

-- a term with an opaque token has none
pub no-length : (t : AsmTerm) → has_opaque t ≡ true → None ≡ option_map print_length (value t)
no-length t e = by (value t) (law t ∙ ap not e)
  where
    by : (o : Option Term) → is_some o ≡ false → None ≡ option_map print_length o
    by None h = refl
    by (Some v) h = absurd (cc)
