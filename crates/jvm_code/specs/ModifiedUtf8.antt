-- Modified UTF-8 (JVMS SE 7, 4.4.7): each unit of 16 bits in its shortest form, but 0 in two bytes.
use Rattle.std.specs.Prelude.{ℕ, Bool, true, false, nat_eq, nat_le, ◌&&◌, if◌then◌else◌, List, [], ◌∷◌, Option, None, Some}

abbrev pub is_in : ℕ × ℕ → ℕ → Bool
is_in range b = nat_le range.0 b && nat_le b range.1

-- the ranges of the bytes behind the first of a unit, if it is one
abbrev pub behind : ℕ → Option (List (ℕ × ℕ))
behind b =
    -- one byte, for the units from 1 to 127
    if is_in (1, 127) b then Some []
    -- two bytes, for the unit 0 and for those from 128 to 2,047
    else if nat_eq b 192 then Some ((128, 128) ∷ [])
    else if is_in (194, 223) b then Some ((128, 191) ∷ [])
    -- three bytes, for those from 2,048 on
    else if nat_eq b 224 then Some ((160, 191) ∷ (128, 191) ∷ [])
    else if is_in (225, 239) b then Some ((128, 191) ∷ (128, 191) ∷ [])
    else None

-- the ranges that are due behind a byte, if it is in the first of those that were due, or begins a unit
abbrev pub next : List (ℕ × ℕ) → ℕ → Option (List (ℕ × ℕ))
next [] b = behind b
next (range ∷ due) b = if is_in range b then Some due else None

abbrev pub is_some_and : {A : Type 0} → (A → Bool) → Option A → Bool
is_some_and test None = false
is_some_and test (Some x) = test x

-- the bytes that are due, and then whole units
abbrev pub are_units : List (ℕ × ℕ) → List ℕ → Bool
are_units [] [] = true
are_units (range ∷ due) [] = false
are_units due (b ∷ bs) = is_some_and (λ due. are_units due bs) (next due b)

abbrev pub is_modified_utf8 : List ℕ → Bool
is_modified_utf8 bytes = are_units [] bytes
