-- Words are told by their bytes as by their characters.
use Rattle.std.proofs.Common.{◌≡◌, ℕ, List, codes, refl, ap, ap₂, ◌∙◌, sym, Some, if◌then◌else◌, Bool, true, false}
use Rattle.std.specs.Prelude as std
use Rattle.std.specs.Str.{chars, IsUtf8, bytes_eq}
use lib.Utf8.{encode}
use Rattle.std.proofs.lemmas.Slice.Eq.{bytes_eq-Decides}
use Rattle.ej_term.proofs.TextLemmas.{same_text}
use Rattle.term_ops.specs.Parts.{truth_named}

pub true_characters : chars (codes "true") ≡ codes "true"
unfolding chars
true_characters = refl

pub false_characters : chars (codes "false") ≡ codes "false"
unfolding chars
false_characters = refl

pub badarg_characters : chars (codes "badarg") ≡ codes "badarg"
unfolding chars
badarg_characters = refl

pub badarith_characters : chars (codes "badarith") ≡ codes "badarith"
unfolding chars
badarith_characters = refl

pub system_limit_characters : chars (codes "system_limit") ≡ codes "system_limit"
unfolding chars
system_limit_characters = refl

pub ruleset words = (true_characters, false_characters, badarg_characters, badarith_characters, system_limit_characters)

pub is-word : (bs word : List ℕ) → IsUtf8 bs → IsUtf8 word → chars word ≡ word → bytes_eq (chars bs) word ≡ bytes_eq bs word
is-word bs word u v e = ap (bytes_eq (chars bs)) (sym e) ∙ sym (same_text bs word u v)

is-true : IsUtf8 (codes "true")
unfolding encode
is-true = (codes "true", (refl, refl))

is-false : IsUtf8 (codes "false")
unfolding encode
is-false = (codes "false", (refl, refl))

pub truth_of_characters : (bs : List ℕ) → IsUtf8 bs → truth_named (chars bs) ≡ truth_named bs
truth_of_characters bs u =
    ap₂ (λ (a b : Bool). if a then Some true else if b then Some false else std.None)
    (is-word bs (codes "true") u is-true true_characters) (is-word bs (codes "false") u is-false false_characters)

pub no_truth : (bs : List ℕ) → (bs ≡ codes "true" → ⊥) → (bs ≡ codes "false" → ⊥) → truth_named bs ≡ std.None
no_truth bs not-true not-false = by (bytes_eq bs (codes "true")) (bytes_eq bs (codes "false")) refl refl
  where
    by : (a b : Bool) → bytes_eq bs (codes "true") ≡ a → bytes_eq bs (codes "false") ≡ b → truth_named bs ≡ std.None
    by true b e f = absurd (not-true ((bytes_eq-Decides bs (codes "true")).0 e))
    by false true e f = absurd (not-false ((bytes_eq-Decides bs (codes "false")).0 f))
    by false false e f = ap₂ (λ (a b : Bool). if a then Some true else if b then Some false else std.None) e f
