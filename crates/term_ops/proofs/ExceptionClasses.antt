-- The names of the classes of exceptions are told by their bytes as by their characters.
use Rattle.std.proofs.Common.{◌≡◌, ℕ, List, codes, refl, ap, ◌∙◌, Some, if◌then◌else◌, Option, Bool, true, false}
use Rattle.std.specs.Prelude as std
use Rattle.std.specs.Str.{chars, IsUtf8, bytes_eq}
use Rattle.std.proofs.lemmas.Slice.Eq.{bytes_eq-Decides}
use Rattle.ej_term.specs.declared.class.Class3.{Class3}
use Rattle.ej_term.specs.declared.class.Class3.TheVariants.{Error, Exit, Throw}
use Rattle.term_ops.specs.Parts.{class_of_name}
use Rattle.term_ops.proofs.ReadWords.{is-word}
use lib.Utf8.{encode}

error_characters : chars (codes "error") ≡ codes "error"
unfolding chars
error_characters = refl

is-error : IsUtf8 (codes "error")
unfolding encode
is-error = (codes "error", (refl, refl))

exit_characters : chars (codes "exit") ≡ codes "exit"
unfolding chars
exit_characters = refl

is-exit : IsUtf8 (codes "exit")
unfolding encode
is-exit = (codes "exit", (refl, refl))

throw_characters : chars (codes "throw") ≡ codes "throw"
unfolding chars
throw_characters = refl

is-throw : IsUtf8 (codes "throw")
unfolding encode
is-throw = (codes "throw", (refl, refl))

abbrev chosen : Bool → Bool → Bool → Option Class3
chosen a b c = if a then Some Error else if b then Some Exit else if c then Some Throw else std.None

chosen-is : (bs : List ℕ) (a b c : Bool) → bytes_eq bs (codes "error") ≡ a → bytes_eq bs (codes "exit") ≡ b → bytes_eq bs (codes "throw") ≡ c → class_of_name bs ≡ chosen a b c
chosen-is bs a b c e f g =
    ap (λ x. if x then Some Error else if bytes_eq bs (codes "exit") then Some Exit else if bytes_eq bs (codes "throw") then Some Throw else std.None) e
    ∙ ap (λ y. if a then Some Error else if y then Some Exit else if bytes_eq bs (codes "throw") then Some Throw else std.None) f
    ∙ ap (λ z. if a then Some Error else if b then Some Exit else if z then Some Throw else std.None) g

pub class_of_characters : (bs : List ℕ) → IsUtf8 bs → class_of_name (chars bs) ≡ class_of_name bs
class_of_characters bs u =
    chosen-is (chars bs) (bytes_eq bs (codes "error")) (bytes_eq bs (codes "exit")) (bytes_eq bs (codes "throw"))
    (is-word bs (codes "error") u is-error error_characters) (is-word bs (codes "exit") u is-exit exit_characters) (is-word bs (codes "throw") u is-throw throw_characters)

differs : (bs word : List ℕ) → (bs ≡ word → ⊥) → bytes_eq bs word ≡ false
differs bs word not = by (bytes_eq bs word) refl
  where
    by : (a : Bool) → bytes_eq bs word ≡ a → bytes_eq bs word ≡ false
    by true e = absurd (not ((bytes_eq-Decides bs word).0 e))
    by false e = e

pub no_class : (bs : List ℕ) → (bs ≡ codes "error" → ⊥) → (bs ≡ codes "exit" → ⊥) → (bs ≡ codes "throw" → ⊥) → class_of_name bs ≡ std.None
no_class bs not-error not-exit not-throw =
    chosen-is bs false false false (differs bs (codes "error") not-error) (differs bs (codes "exit") not-exit) (differs bs (codes "throw") not-throw)
