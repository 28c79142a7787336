-- What a builtin function gives: a value, or a raised exception (Erlang Reference Manual, "Errors and Error Handling").
use Rattle.std.specs.Prelude.{ℕ, ℤ, pos, Bool, true, false, if◌then◌else◌, List, [], ◌∷◌, codes, Option, Some}
use Rattle.std.specs.Prelude as std
use Rattle.ej_term.specs.declared.class.Class3.{Class3}
use Rattle.ej_term.specs.declared.class.Class3.TheVariants.{Error}
use Rattle.ej_term.specs.Term.{Term, Int, tuple, atom, has_64_bits}

pub data Outcome : Type 0 where
  Value : (value : Term) → Outcome
  Raised : (class : Class3) (reason : Term) → Outcome

abbrev pub error : Term → Outcome
error reason = Raised Error reason

-- the error whose reason is this atom
abbrev pub named_error : List ℕ → Outcome
named_error name = error (atom name)

abbrev pub badarg : Outcome
badarg = named_error (codes "badarg")

abbrev pub badarith : Outcome
badarith = named_error (codes "badarith")

abbrev pub system_limit : Outcome
system_limit = named_error (codes "system_limit")

-- the error whose reason is `{name,term}`
abbrev pub error_with : List ℕ → Term → Outcome
error_with name reason = error (tuple (atom name ∷ reason ∷ []))

abbrev pub boolean : Bool → Term
boolean true = atom (codes "true")
boolean false = atom (codes "false")

-- a number of things, as a term
abbrev pub number : ℕ → Term
number n = Int (pos n)

-- the value, or error badarg where there is none
abbrev pub or_badarg : Option Term → Outcome
or_badarg std.None = badarg
or_badarg (Some value) = Value value

-- this integer, or error system_limit where it does not fit
abbrev pub integer : ℤ → Outcome
integer n = if has_64_bits n then Value (Int n) else system_limit
