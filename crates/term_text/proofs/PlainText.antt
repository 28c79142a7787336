-- A name is plain by its bytes as by its characters.
use Rattle.std.proofs.Common.{◌≡◌, ℕ, Bool, true, false, if◌then◌else◌, List, [], ◌∷◌, ◌++◌, refl, sym, ap, ◌∙◌}
use Rattle.std.specs.List.{flat_map}
use Rattle.std.specs.Str.{chars, IsUtf8}
use Rattle.std.proofs.lemmas.Str.{chars-IsAscii, encodes-IsAscii}
use Rattle.ej_term.specs.Atoms.{is_plain}
use Rattle.ej_term.specs.TermPrint.{print_atom, quoted_character}
use Rattle.ej_term.proofs.TextLemmas.{encode-chars}
use Rattle.term_text.proofs.Ascii.{plain-ascii}

pub plain_text : (bytes : List ℕ) → IsUtf8 bytes → is_plain bytes ≡ is_plain (chars bytes)
plain_text bytes u = by (is_plain bytes) (is_plain (chars bytes)) refl refl
  where
    by : (a b : Bool) → is_plain bytes ≡ a → is_plain (chars bytes) ≡ b → is_plain bytes ≡ is_plain (chars bytes)
    by true b e f = ap is_plain (sym (chars-IsAscii bytes (plain-ascii bytes e)))
    by false true e f = ap is_plain (sym (encode-chars bytes u) ∙ encodes-IsAscii (chars bytes) (plain-ascii (chars bytes) f))
    by false false e f = e ∙ sym f

-- the bytes of a plain name are its characters
pub plain_bytes : (bytes : List ℕ) → IsUtf8 bytes → is_plain (chars bytes) ≡ true → chars bytes ≡ bytes
plain_bytes bytes u e = chars-IsAscii bytes (plain-ascii bytes (plain_text bytes u ∙ e))

-- and they are its print
pub plain_atom : (bytes : List ℕ) → IsUtf8 bytes → is_plain (chars bytes) ≡ true → bytes ≡ print_atom (chars bytes)
plain_atom bytes u e =
    sym (ap (λ plain. if plain then chars bytes else 39 ∷ (flat_map quoted_character (chars bytes) ++ 39 ∷ [])) e ∙ plain_bytes bytes u e)
