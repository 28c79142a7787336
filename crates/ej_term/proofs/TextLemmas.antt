-- A text's bytes and its characters tell each other.
use Rattle.std.proofs.Common.{◌≡◌, ℕ, List, encode_utf8_all, nat_eq, sym, ap, ◌∙◌}
use Rattle.std.specs.Bool.{Decides}
use Rattle.std.specs.Str.{chars, IsUtf8}
use Rattle.std.specs.Cmp.Lexicographic.{pointwise, bytes_decides}
use Rattle.std.proofs.lemmas.Str.{chars-encodes}
use Rattle.std.proofs.lemmas.Bool.Decides.{same_from_decides}

-- the bytes are their characters' encoding
pub encode-chars : (bs : List ℕ) → IsUtf8 bs → encode_utf8_all (chars bs) ≡ bs
encode-chars bs u = ap encode_utf8_all (ap chars (sym u.1.1) ∙ chars-encodes u.0 u.1.0) ∙ u.1.1

-- texts are equal where their characters are
pub chars-injective : (xs bs : List ℕ) → IsUtf8 xs → IsUtf8 bs → chars xs ≡ chars bs → xs ≡ bs
chars-injective xs bs u v e = sym (encode-chars xs u) ∙ ap encode_utf8_all e ∙ encode-chars bs v

pub same_text : (xs bs : List ℕ) → IsUtf8 xs → IsUtf8 bs → pointwise nat_eq xs bs ≡ pointwise nat_eq (chars xs) (chars bs)
same_text xs bs u v =
    let by_characters = bytes_decides (chars xs) (chars bs) in
    let by_bytes = bytes_decides xs bs in
    let here : Decides (pointwise nat_eq (chars xs) (chars bs)) (xs ≡ bs) = (λ h. chars-injective xs bs u v (by_characters.0 h), λ e. by_characters.1 (ap chars e)) in
    same_from_decides _ _ by_bytes here
