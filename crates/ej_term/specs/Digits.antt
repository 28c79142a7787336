-- Builtin functions between atoms, integers and their characters (the OTP module erlang).
use Rattle.std.specs.Prelude.{ℕ, ◌+◌, ◌-◌, ◌*◌, ℤ, pos, neg_ℤ, Bool, ◌&&◌, not, if◌then◌else◌, nat_eq, List, [], ◌∷◌, Option, Some, option_map}
use Rattle.std.specs.Prelude as std
use Rattle.std.specs.List.{list_all}
use Rattle.std.specs.Fmt.{signed_decimal}
use Rattle.ej_term.specs.Atoms.{is_between}
use Rattle.ej_term.specs.Term.{Term, Int, Atom, Nil, Cons}
use Rattle.ej_term.specs.Outcome.{Outcome, Value, badarg, number, integer}

-- the list of these characters
abbrev pub string : List ℕ → Term
string [] = Nil
string (c ∷ cs) = Cons (number c) (string cs)

-- the characters of a proper list of integers from 0
abbrev pub characters : Term → Option (List ℕ)
characters Nil = Some []
characters (Cons (Int (pos c)) rest) = option_map (◌∷◌ c) (characters rest)
characters _ = std.None

abbrev pub atom_to_list : Term → Outcome
atom_to_list (Atom name) = Value (string name)
atom_to_list _ = badarg

abbrev pub integer_to_list : Term → Outcome
integer_to_list (Int n) = Value (string (signed_decimal n))
integer_to_list _ = badarg

-- one digit or more, and nothing else
abbrev pub are_digits : List ℕ → Bool
are_digits [] = std.false
are_digits (c ∷ cs) = list_all (is_between 48 57) (c ∷ cs)

-- what digits are worth behind a number
abbrev pub worth_onto : ℕ → List ℕ → ℕ
worth_onto n [] = n
worth_onto n (c ∷ cs) = worth_onto (n * 10 + (c - 48)) cs

abbrev pub worth : List ℕ → ℤ
worth digits = pos (worth_onto 0 digits)

-- digits behind a sign or none
abbrev pub read_signed : List ℕ → Outcome
read_signed [] = badarg
read_signed (c ∷ cs) =
    if nat_eq c 45 && are_digits cs then integer (neg_ℤ (worth cs))
    else if nat_eq c 43 && are_digits cs then integer (worth cs)
    else if are_digits (c ∷ cs) then integer (worth (c ∷ cs))
    else badarg

abbrev pub read_number : Option (List ℕ) → Outcome
read_number (Some cs) = read_signed cs
read_number std.None = badarg

-- error system_limit of a number that does not fit
abbrev pub list_to_integer : Term → Outcome
list_to_integer term = read_number (characters term)
