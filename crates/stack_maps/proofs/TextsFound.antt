-- Texts that are made are those that were to be found.
use Rattle.std.proofs.Common.{◌≡◌, ℕ, false, if◌then◌else◌, List, None, Some, codes, encode_utf8_all, [], ◌∷◌, ◌++◌, refl, sym, ap, ◌∙◌}
use Rattle.std.proofs.lemmas.Str.{chars_from_encodes}
use Rattle.std.specs.Char.Utf16.{has_unpaired_surrogate, utf16_lossy_chars}
use Rattle.std.specs.Str.{chars, IsUtf8}
use Rattle.jvm_code.specs.declared.types.Frame.{Frame}
use Rattle.jvm_code.specs.declared.types.VType.{VType}
use Rattle.jvm_code.specs.declared.types.VType.TheVariants as v
use Rattle.jvm_code.specs.StackMaps.{first}
use Rattle.stack_maps.specs.Texts.{paired_text}

pub paired : (units bytes text : List ℕ) → has_unpaired_surrogate units ≡ false → bytes ≡ encode_utf8_all (utf16_lossy_chars units) → text ≡ chars bytes → IsUtf8 bytes
    → Some text ≡ paired_text units
paired units bytes text p e t u = ap Some (t ∙ sym (chars_from_encodes (utf16_lossy_chars units) bytes u (sym e))) ∙ sym (ap (λ c. if c then None else Some (utf16_lossy_chars units)) p)

pub process : chars (codes "erl/Proc") ≡ codes "erl/Proc"
unfolding chars
process = refl

pub first_is : (empty one two stack : List VType) (text : List ℕ) → empty ≡ [] → one ≡ empty ++ v.Class text ∷ [] → two ≡ one ++ v.Integer ∷ [] → stack ≡ [] → text ≡ codes "erl/Proc"
    → Path Frame (record { locals = two; stack = stack }) first
first_is empty one two stack text e o t s n = framed two stack (t ∙ ap (λ l. l ++ v.Integer ∷ []) (o ∙ ap (λ l. l ++ v.Class text ∷ []) e ∙ ap (λ t. v.Class t ∷ []) n)) s
  where
    framed : (locals stack : List VType) → locals ≡ first.locals → stack ≡ [] → Path Frame (record { locals = locals; stack = stack }) first
    framed locals stack l s = ap (λ l. record { locals = l; stack = stack }) l ∙ ap (λ s. record { locals = first.locals; stack = s }) s
