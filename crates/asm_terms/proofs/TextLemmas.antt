-- The characters of a text, one by one.
use Rattle.std.proofs.Common.{◌≡◌, codes, ℕ, zero, suc, List, [], ◌∷◌, ◌++◌, length, true, Option, Some, None, MatchOption, encode_utf8, sym, ap, ◌∙◌, refl, arith}
use Rattle.std.specs.Str.{chars, IsUtf8, IsAscii, is_utf8}
use Rattle.std.specs.Char.{IsScalar}
use Rattle.std.proofs.lemmas.List.{append-nil}
use Rattle.std.proofs.lemmas.Str.{chars_past_char, IsUtf8-from_is_utf8, IsUtf8-encode, chars-nil, chars-append, IsUtf8-from_ascii}

-- the empty text alone has no byte
none_left : (bs : List ℕ) → length bs ≡ 0 → bs ≡ []
none_left [] e = refl
none_left (b ∷ bs) e = absurd (omega arith)

pub no_characters : (bs : List ℕ) → length bs ≡ 0 → chars bs ≡ []
no_characters bs e = ap chars (none_left bs e) ∙ chars-nil

-- what `next` of `chars` gives
pub next_character : {S : Type 0} (rest : S → List ℕ) (s t : S) (before after : List ℕ) (r : Option ℕ) → rest s ≡ before → after ≡ rest t → is_utf8 before ≡ true
    → MatchOption r ((length (rest s) ≡ 0) × (t ≡ s)) (λ c. rest s ≡ encode_utf8 c ++ rest t)
    → MatchOption r ((chars before ≡ []) × (chars after ≡ [])) (λ c. chars before ≡ c ∷ chars after)
next_character rest s t before after None from to u (e, same) =
    (ap chars (sym from) ∙ no_characters (rest s) e, ap chars (to ∙ ap rest same) ∙ no_characters (rest s) e)
next_character rest s t before after (Some c) from to u e = chars_past_char before after c (IsUtf8-from_is_utf8 before u) (sym from ∙ e ∙ ap (λ x. encode_utf8 c ++ x) (sym to))

-- the character alone
chars-encode : (c : ℕ) → IsScalar c → chars (encode_utf8 c) ≡ c ∷ []
chars-encode c h = chars_past_char (encode_utf8 c) [] c (IsUtf8-encode c h) (sym (append-nil (encode_utf8 c))) ∙ ap (λ cs. c ∷ cs) chars-nil

-- what `push` of a text gives
pub chars-push : (before after : List ℕ) (c : ℕ) → IsScalar c → IsUtf8 before → after ≡ before ++ encode_utf8 c → chars after ≡ chars before ++ c ∷ []
chars-push before after c h u e = ap chars e ∙ chars-append before (encode_utf8 c) u ∙ ap (λ cs. chars before ++ cs) (chars-encode c h)

pub fun_characters : chars (codes "fun") ≡ codes "fun"
unfolding chars
fun_characters = refl

fun_ascii : IsAscii (codes "fun")
fun_ascii zero = omega arith
fun_ascii (suc zero) = omega arith
fun_ascii (suc (suc zero)) = omega arith
fun_ascii (suc (suc (suc i))) = omega arith

pub fun_utf8 : IsUtf8 (codes "fun")
fun_utf8 = IsUtf8-from_ascii (codes "fun") fun_ascii
