-- An entry of the constant pool is read back from its bytes, so they tell it.
use Rattle.std.proofs.Common.{◌≡◌, ℕ, ◌<◌, ◌^◌, nat_eq, if◌then◌else◌, List, [], ◌∷◌, ◌++◌, length, take, drop, None, refl, ap, ◌∙◌}
use Rattle.std.specs.Prelude.{ℤ, FitsSigned}
use Rattle.std.specs.Int.{cast_signed, cast_unsigned, from_be_bytes, w64}
use Rattle.std.proofs.Math.Facts.{Fits-lt-pow, Fits-of_z, to_z-of_z}
use Rattle.std.proofs.lemmas.List.{take_at, drop_at}
use Rattle.std.proofs.lemmas.Nat.{from_be_bytes-to_be_bytes_2, from_be_bytes-to_be_bytes_8}
use Rattle.erjang_top.specs.first_path.ClassFile.{Constant, Gap, Utf8, Long, ClassEntry, StringEntry, Methodref, NameAndType, constant_bytes}
use Rattle.erjang_top.proofs.FirstPath.Spelling.{Tells, Reader, took, then_read, ReadsBack, tells_from_reads, read_u2}

-- the indices fit two bytes
abbrev pub ConstantFits : Constant → Type 0
ConstantFits Gap = ⊥
ConstantFits (Utf8 bytes) = length bytes < 2 ^ 16
ConstantFits (Long value) = FitsSigned w64 value
ConstantFits (ClassEntry name) = name < 2 ^ 16
ConstantFits (StringEntry text) = text < 2 ^ 16
ConstantFits (Methodref class name_and_type) = (class < 2 ^ 16) × (name_and_type < 2 ^ 16)
ConstantFits (NameAndType name descriptor) = (name < 2 ^ 16) × (descriptor < 2 ^ 16)

abbrev utf8_behind : ℕ → Reader Constant
utf8_behind n rest = took (Utf8 (take n rest)) (drop n rest)

abbrev long_behind : Reader Constant
long_behind (a ∷ b ∷ c ∷ d ∷ e ∷ f ∷ g ∷ h ∷ rest) = took (Long (cast_signed w64 (from_be_bytes w64 (a ∷ b ∷ c ∷ d ∷ e ∷ f ∷ g ∷ h ∷ [])))) rest
long_behind _ = None

abbrev one_index : (ℕ → Constant) → Reader Constant
one_index of bytes = then_read (read_u2 bytes) (λ a rest. took (of a) rest)

abbrev two_indices : (ℕ → ℕ → Constant) → Reader Constant
two_indices of bytes = then_read (read_u2 bytes) (λ a behind. then_read (read_u2 behind) (λ b rest. took (of a b) rest))

-- by the tag
abbrev entry_behind : ℕ → Reader Constant
entry_behind tag bytes =
    if nat_eq tag 1 then then_read (read_u2 bytes) utf8_behind
    else if nat_eq tag 5 then long_behind bytes
    else if nat_eq tag 7 then one_index ClassEntry bytes
    else if nat_eq tag 8 then one_index StringEntry bytes
    else if nat_eq tag 10 then two_indices Methodref bytes
    else if nat_eq tag 12 then two_indices NameAndType bytes
    else None

abbrev read_constant : Reader Constant
read_constant [] = None
read_constant (tag ∷ bytes) = entry_behind tag bytes

utf8_back : (n : ℕ) (bytes rest : List ℕ) → n ≡ length bytes → utf8_behind n (bytes ++ rest) ≡ took (Utf8 bytes) rest
utf8_back n bytes rest e = rw (e, take_at bytes rest (length bytes) refl, drop_at bytes rest (length bytes) refl) refl

two_same : (of : ℕ → ℕ → Constant) (a c b d : ℕ) (rest : List ℕ) → a ≡ c → b ≡ d → took (of a b) rest ≡ took (of c d) rest
two_same of a c b d rest e f = cc

constant_back : ReadsBack ConstantFits constant_bytes read_constant
constant_back Gap rest h = absurd h
constant_back (Utf8 bytes) rest h = utf8_back _ bytes rest (from_be_bytes-to_be_bytes_2 (length bytes) h)
constant_back (Long value) rest h =
    ap (λ (z : ℤ). took (Long z) rest) (ap (cast_signed w64) (from_be_bytes-to_be_bytes_8 (cast_unsigned w64 value) (Fits-lt-pow (Fits-of_z h))) ∙ to_z-of_z h)
constant_back (StringEntry text) rest h = ap (λ (n : ℕ). took (StringEntry n) rest) (from_be_bytes-to_be_bytes_2 text h)
constant_back (ClassEntry name) rest h = ap (λ (n : ℕ). took (ClassEntry n) rest) (from_be_bytes-to_be_bytes_2 name h)
constant_back (Methodref a b) rest h = two_same Methodref _ a _ b rest (from_be_bytes-to_be_bytes_2 a h.0) (from_be_bytes-to_be_bytes_2 b h.1)
constant_back (NameAndType a b) rest h = two_same NameAndType _ a _ b rest (from_be_bytes-to_be_bytes_2 a h.0) (from_be_bytes-to_be_bytes_2 b h.1)

pub constant-tells : Tells ConstantFits constant_bytes
constant-tells = tells_from_reads ConstantFits constant_bytes read_constant constant_back
