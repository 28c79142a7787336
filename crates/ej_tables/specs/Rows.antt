-- Rows that have a name with an arity, and a number.
use Rattle.std.specs.Prelude.{◌≡◌, ℕ, Bool, true, not, nat_eq, ◌&&◌, List, [], ◌∷◌, Option, Some}
use Rattle.std.specs.List.{list_all, find, AllByRecursion}
use Rattle.std.specs.Option.{option_map}
use Rattle.std.specs.Str.{bytes_eq}

-- what a row says
pub record Entry : Type 0 where
  pub name : List ℕ
  pub arity : ℕ
  pub number : ℕ

-- the row has that name, a text's bytes, and that arity
abbrev pub is_named : List ℕ → ℕ → Entry → Bool
is_named name arity entry = nat_eq entry.arity arity && bytes_eq entry.name name

-- the row has that number
abbrev pub has_number : ℕ → Entry → Bool
has_number number entry = nat_eq entry.number number

-- neither the name with its arity nor the number of one is that of the other
abbrev pub differs : Entry → Entry → Bool
differs one other = not (is_named other.name other.arity one) && not (has_number other.number one)

-- no two rows have the same name and arity, or the same number
abbrev pub are_distinct : List Entry → Bool
are_distinct [] = true
are_distinct (entry ∷ entries) = list_all (differs entry) entries && are_distinct entries

-- the number of the row of that name and arity
abbrev pub number_of : List ℕ → ℕ → List Entry → Option ℕ
number_of name arity entries = option_map (λ (entry : Entry). entry.number) (find (is_named name arity) entries)

-- a row is the one that its name and arity are looked up to, and the one that its number is
pub record IsFound (entries : List Entry) (entry : Entry) : Type 0 where
  pub by_name : find (is_named entry.name entry.arity) entries ≡ Some entry
  pub by_number : find (has_number entry.number) entries ≡ Some entry

-- each row of a table is
abbrev pub FindsEach : List Entry → Type 0
FindsEach entries = AllByRecursion (IsFound entries) entries
