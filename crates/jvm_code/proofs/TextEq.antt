-- A text is a literal of ASCII exactly where its UTF-8 is.
use Rattle.std.proofs.Common.{◌≡◌, ℕ, zero, suc, Bool, true, false, nat_lt, ◌&&◌, List, [], ◌∷◌, codes, refl, sym, ap, ◌∙◌, arith}
use Rattle.std.specs.Prelude.{encode_utf8_all}
use Rattle.std.specs.List.{list_all}
use Rattle.std.specs.Str.{IsAscii, all_scalars, bytes_eq, chars}
use Rattle.std.proofs.lemmas.Bool.{ltb-true}
use Rattle.std.proofs.lemmas.Slice.Eq.{bytes_eq-Decides}
use Rattle.std.proofs.lemmas.Str.{chars-encodes, encodes-IsAscii}
use Rattle.jvm_code.proofs.SignedEq.{same_bool}

first_of : (a b : Bool) → (a && b) ≡ true → a ≡ true
first_of true b h = refl
first_of false b h = absurd cc

rest_of : (a b : Bool) → (a && b) ≡ true → b ≡ true
rest_of true b h = h
rest_of false b h = absurd cc

are_ascii : (bs : List ℕ) → list_all (λ b. nat_lt b 128) bs ≡ true → IsAscii bs
are_ascii [] h i = omega arith
are_ascii (b ∷ bs) h zero = ltb-true b 128 (first_of (nat_lt b 128) (list_all (λ b. nat_lt b 128) bs) h)
are_ascii (b ∷ bs) h (suc i) = are_ascii bs (rest_of (nat_lt b 128) (list_all (λ b. nat_lt b 128) bs) h) i

pub same_text : (bytes text literal : List ℕ) → chars bytes ≡ text → bytes ≡ encode_utf8_all text
    → all_scalars literal ≡ true → list_all (λ b. nat_lt b 128) literal ≡ true → bytes_eq bytes literal ≡ bytes_eq text literal
same_text bytes text literal is_text is_bytes scalars ascii = same_bool (bytes_eq bytes literal) (bytes_eq text literal)
    (λ h. (bytes_eq-Decides text literal).1 (sym is_text ∙ ap chars ((bytes_eq-Decides bytes literal).0 h ∙ sym told) ∙ chars-encodes literal scalars))
    (λ h. (bytes_eq-Decides bytes literal).1 (is_bytes ∙ ap encode_utf8_all ((bytes_eq-Decides text literal).0 h) ∙ told))
  where
    told : encode_utf8_all literal ≡ literal
    told = encodes-IsAscii literal (are_ascii literal ascii)

pub same_object : (bytes text : List ℕ) → chars bytes ≡ text → bytes ≡ encode_utf8_all text
    → bytes_eq bytes (codes "java/lang/Object") ≡ bytes_eq text (codes "java/lang/Object")
same_object bytes text is_text is_bytes = same_text bytes text (codes "java/lang/Object") is_text is_bytes refl refl
