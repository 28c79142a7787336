-- The bytes of a big-endian number are those that it was read from.
use Rattle.std.proofs.Common.{arith, refl, sym, ap, ◌∙◌, ◌≡◌, ℕ, zero, suc, ◌+◌, ◌*◌, ◌/◌, ◌%◌, ◌^◌, ◌<◌, ◌≤◌, List, [], ◌∷◌, length, take, Some}
use Rattle.std.proofs.Math.Nat.{mod-eq_of_lt, mod-lt, mul-add-mod_self_right}
use Rattle.std.proofs.lemmas.Nat.{div-mul-add}
use Rattle.std.proofs.lemmas.List.{append-nil, length-drop, length-take-le}
use Rattle.std.specs.Int.{bytes_high_first}
use Rattle.byteorder.specs.Endian.{big_from, big_number, big_bytes}
use Rattle.ej_tables.specs.Bytes.{AreBytes, Unread, rest, Moved, Takes}
use Rattle.byteorder.specs.Numbers.{big_from-cons, big_from-lt, big_from-take, big_number-reads_back, length-bytes_high_first}

-- a number is a digit to a base and what is left below the base, in one way
one_split : (c b b' r r' : ℕ) → r < c → r' < c → b * c + r ≡ b' * c + r' → (b ≡ b') × (r ≡ r')
one_split c b b' r r' below below' same = (
  sym (div-mul-add b c r below) ∙ ap (λ (x : ℕ). x / c) same ∙ div-mul-add b' c r' below',
  sym (mul-add-mod_self_right b c r ∙ mod-eq_of_lt below) ∙ ap (λ (x : ℕ). x % c) same ∙ (mul-add-mod_self_right b' c r' ∙ mod-eq_of_lt below'),
)

-- the same number is of the same bytes
same_bytes : (n : ℕ) (xs ys : List ℕ) → length xs ≡ n → length ys ≡ n → AreBytes xs → AreBytes ys → big_from 0 n xs ≡ big_from 0 n ys → xs ≡ ys
same_bytes zero [] [] l l' b b' same = refl
same_bytes zero (x ∷ xs) ys l l' b b' same = absurd (omega (arith, l))
same_bytes zero [] (y ∷ ys) l l' b b' same = absurd (omega (arith, l'))
same_bytes (suc n) [] ys l l' b b' same = absurd (omega (arith, l))
same_bytes (suc n) (x ∷ xs) [] l l' b b' same = absurd (omega (arith, l'))
same_bytes (suc n) (x ∷ xs) (y ∷ ys) l l' b b' same =
    let parts = one_split (256 ^ n) x y (big_from 0 n xs) (big_from 0 n ys)
    (big_from-lt 0 n xs (λ k. b (suc k))) (big_from-lt 0 n ys (λ k. b' (suc k)))
    (sym (ap (λ (r : ℕ). x * 256 ^ n + r) (big_from-cons 0 n x xs)) ∙ same ∙ ap (λ (r : ℕ). y * 256 ^ n + r) (big_from-cons 0 n y ys)) in
    let rest = same_bytes n xs ys (omega (arith, l)) (omega (arith, l')) (λ k. b (suc k)) (λ k. b' (suc k)) parts.1 in
    rw (parts.0, rest) refl

-- each byte of a number is one
number_bytes : (n x : ℕ) → AreBytes (bytes_high_first n x)
number_bytes zero x zero = omega arith
number_bytes zero x (suc k) = omega arith
number_bytes (suc zero) x zero = mod-lt x (omega arith)
number_bytes (suc (suc n)) x zero = mod-lt (x / 256 ^ suc n) (omega arith)
number_bytes (suc n) x (suc k) = number_bytes n x k

-- the bytes of the number that was read
bytes_read : (n : ℕ) (xs : List ℕ) → length xs ≡ n → AreBytes xs → big_bytes n (big_number n xs) ≡ xs
bytes_read n xs all b =
    let x = big_from 0 n xs in
    let back = ap (big_from 0 n) (append-nil (bytes_high_first n x)) in
    same_bytes n (bytes_high_first n x) xs (length-bytes_high_first n x) all (number_bytes n x) b
    (sym back ∙ big_number-reads_back n x [] (big_from-lt 0 n xs b))

-- the number of a piece is the next number, and the piece is its bytes
pub number_taken : (n : ℕ) (old new : Unread) (piece : List ℕ) (x : ℕ) → Moved n old new → piece ≡ take n (rest old) → AreBytes piece
    → x ≡ big_number n piece → Takes n old (Some x) new
number_taken n old new piece x moved is bytes number =
    let left = length-drop old.place old.bytes in
    let enough : n ≤ length (rest old) = let e = moved.enough in omega arith in
    let all : length piece ≡ n = ap length is ∙ length-take-le n (rest old) enough in (
      moved,
      number ∙ ap (big_from 0 n) is ∙ big_from-take 0 n n (rest old) (omega arith),
      ap (big_bytes n) number ∙ bytes_read n piece all bytes ∙ is,
    )
