-- Whether types have room, while they are gone through.
use Rattle.std.proofs.Common.{◌≡◌, ℕ, ◌+◌, ◌-◌, ◌<◌, ◌≤◌, nat_le, false, List, ◌∷◌, length, sym, ap, ◌∙◌, arith}
use Rattle.std.proofs.lemmas.List.{length-append}
use Rattle.std.proofs.lemmas.Bool.Decides.{nat_tests}
use Rattle.jvm_code.specs.declared.types.VType.{VType}
use Rattle.jvm_code.specs.Typing.{places, places_of}

both : (t : VType) (left : List VType) → length (places (t ∷ left)) ≡ length (places_of t) + length (places left)
both t left = length-append (places_of t) (places left)

pub room_stop : (t : VType) (left more : List VType) (count room : ℕ) → more ≡ t ∷ left → count ≡ length (places_of t) → room < count → nat_le (length (places more)) room ≡ false
room_stop t left more count room e is over = ap (λ ts. nat_le (length (places ts)) room) e ∙ by (length (places (t ∷ left))) (both t left)
  where
    by : (n : ℕ) → n ≡ length (places_of t) + length (places left) → nat_le n room ≡ false
    by n h = grind (arith, nat_tests)

pub room_more : (t : VType) (left more : List VType) (count room : ℕ) → more ≡ t ∷ left → count ≡ length (places_of t) → count ≤ room
    → nat_le (length (places left)) (room - count) ≡ nat_le (length (places more)) room
room_more t left more count room e is fits = by (length (places left)) (length (places (t ∷ left))) (both t left) ∙ sym (ap (λ ts. nat_le (length (places ts)) room) e)
  where
    by : (m n : ℕ) → n ≡ length (places_of t) + m → nat_le m (room - count) ≡ nat_le n room
    by m n h = grind (arith, nat_tests)
