-- The characters of a file, by UTF-8 and by Latin-1.
use Rattle.std.proofs.Common.{◌≡◌, ℕ, List, Bool, true, false, if◌then◌else◌, refl, ap}
use Rattle.std.specs.Str.{chars, IsUtf8, is_utf8}
use Rattle.std.proofs.lemmas.Str.{IsUtf8-from_is_utf8, is_utf8-from_IsUtf8}
use Rattle.asm_terms.specs.Characters.{characters}

pub characters-utf8 : (bytes : List ℕ) → IsUtf8 bytes → characters bytes ≡ chars bytes
characters-utf8 bytes u = ap (λ b. if b then chars bytes else bytes) (is_utf8-from_IsUtf8 bytes u)

chosen : (bytes : List ℕ) (b : Bool) → is_utf8 bytes ≡ b → ¬ (IsUtf8 bytes) → (if b then chars bytes else bytes) ≡ bytes
chosen bytes true e u = absurd (u (IsUtf8-from_is_utf8 bytes e))
chosen bytes false e u = refl

pub characters-latin_1 : (bytes : List ℕ) → ¬ (IsUtf8 bytes) → characters bytes ≡ bytes
characters-latin_1 bytes u = chosen bytes (is_utf8 bytes) refl u
