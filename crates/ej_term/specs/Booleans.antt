-- Comparisons and operations on booleans (Erlang Reference Manual, "Term Comparisons" and "Boolean Expressions").
use Rattle.std.specs.Prelude.{Bool, true, false, not, ◌&&◌, ◌||◌, if◌then◌else◌, codes, Option, Some}
use Rattle.std.specs.Prelude as std
use Rattle.std.specs.Str.{bytes_eq}
use Rattle.ej_term.specs.Term.{Term, Atom}
use Rattle.ej_term.specs.Outcome.{Outcome, Value, badarg, boolean}
use Rattle.ej_term.specs.Tests.{less}

-- the boolean that a term is
abbrev pub truth : Term → Option Bool
truth (Atom name) = if bytes_eq name (codes "true") then Some true else if bytes_eq name (codes "false") then Some false else std.None
truth _ = std.None

-- an operation on booleans; error badarg of anything else
abbrev pub negated : Option Bool → Outcome
negated (Some a) = Value (boolean (not a))
negated std.None = badarg

abbrev pub joined : (Bool → Bool → Bool) → Option Bool → Option Bool → Outcome
joined f (Some a) (Some b) = Value (boolean (f a b))
joined f _ _ = badarg

abbrev pub both : Bool → Bool → Bool
both a b = a && b

abbrev pub either : Bool → Bool → Bool
either a b = a || b

abbrev pub differ : Bool → Bool → Bool
differ a b = if a then not b else b

-- the greater of two terms, and the first where they are equal
abbrev pub maximum : Term → Term → Term
maximum a b = if less a b then b else a

-- the lesser, and the first where they are equal
abbrev pub minimum : Term → Term → Term
minimum a b = if less b a then b else a
