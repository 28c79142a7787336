-- The bytes of units of 16 bits in modified UTF-8 (JVMS SE 7, 4.4.7).
use Rattle.std.specs.Prelude.{◌≡◌, ℕ, ◌+◌, ◌/◌, ◌%◌, ◌<◌, ◌^◌, nat_lt, ◌&&◌, if◌then◌else◌, List, [], ◌∷◌}
use Rattle.std.specs.List.{flat_map}

-- one byte for the units from 1 to 127, two for 0 and for those up to 2,047, and three for the others
abbrev pub unit_bytes : ℕ → List ℕ
unit_bytes u =
    if nat_lt 0 u && nat_lt u 128 then u ∷ []
    else if nat_lt u 2048 then (192 + u / 64) ∷ (128 + u % 64) ∷ []
    else (224 + u / 4096) ∷ (128 + u / 64 % 64) ∷ (128 + u % 64) ∷ []

abbrev pub units_bytes : List ℕ → List ℕ
units_bytes units = flat_map unit_bytes units

-- each has 16 bits
abbrev pub AreUnits : List ℕ → Type 0
AreUnits [] = Unit {0}
AreUnits (u ∷ units) = (u < 2 ^ 16) × AreUnits units

-- units that the bytes are
pub record UnitsOf (bytes : List ℕ) : Type 0 where
  pub units : List ℕ
  pub within : AreUnits units
  pub is : bytes ≡ units_bytes units
