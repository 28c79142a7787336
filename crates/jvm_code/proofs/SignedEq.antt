-- Signed numbers are equal where their signs and numbers are.
use Rattle.std.proofs.Common.{◌≡◌, ℤ, Bool, true, false, refl, sym, ap, ◌∙◌}
use Rattle.std.specs.Cmp.{signed_Decides}
use Rattle.std.specs.Ordering.{int_eq}
use Rattle.std.specs.Str.{bytes_eq}
use Rattle.std.proofs.lemmas.Slice.Eq.{bytes_eq-Decides}
use Rattle.jvm_code.specs.ConstantKey.{signed}
use Rattle.jvm_code.specs.ConstantLaws.{worth, worth_signed}

pub same_bool : (a b : Bool) → (a ≡ true → b ≡ true) → (b ≡ true → a ≡ true) → a ≡ b
same_bool true b f g = sym (f refl)
same_bool false true f g = g refl
same_bool false false f g = refl

pub same_signed : (m n : ℤ) → int_eq m n ≡ bytes_eq (signed m) (signed n)
same_signed m n = same_bool (int_eq m n) (bytes_eq (signed m) (signed n))
    (λ h. (bytes_eq-Decides (signed m) (signed n)).1 (ap signed ((signed_Decides m n).0 h)))
    (λ h. (signed_Decides m n).1 (sym (worth_signed m) ∙ ap worth ((bytes_eq-Decides (signed m) (signed n)).0 h) ∙ worth_signed n))
