-- The low bytes of a number are the last of its eight.
use Rattle.std.proofs.Common.{◌≡◌, ℕ, drop, refl}
use Rattle.byteorder.specs.Endian.{big_bytes}

pub two : (n : ℕ) → drop 6 (big_bytes 8 n) ≡ big_bytes 2 n
two n = refl

pub four : (n : ℕ) → drop 4 (big_bytes 8 n) ≡ big_bytes 4 n
four n = refl
