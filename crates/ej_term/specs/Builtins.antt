-- What the builtin functions that have no effect give (the OTP modules erlang, lists and maps).
use Rattle.std.specs.Prelude.{ℕ, pos, ℤ, neg_ℤ, Bool, false, not, if◌then◌else◌, nat_eq, List, [], ◌∷◌, codes, Option, Some}
use Rattle.std.specs.Prelude as std
use Rattle.std.specs.Str.{bytes_eq}
use Rattle.ej_term.specs.declared.class.Class3.{Class3}
use Rattle.ej_term.specs.declared.class.Class3.TheVariants.{Error, Exit, Throw}
use Rattle.ej_term.specs.declared.builtin.Builtin.{Builtin}
use Rattle.ej_term.specs.declared.builtin.Builtin.TheVariants as b
use Rattle.ej_term.specs.BuiltinNumbers.{builtin_numbered}
use Rattle.ej_term.specs.Term.{Term, Int, Atom, tuple, atom}
use Rattle.ej_term.specs.Outcome.{Outcome, Value, Raised, named_error, badarg, badarith, boolean}
use Rattle.ej_term.specs.Tests.{less, equal, is_integer, is_atom, is_pid, is_reference, is_list, is_tuple, is_boolean, is_function, takes, is_map, never}
use Rattle.ej_term.specs.Arithmetic.{on_integers, on_integer, plus, minus, times, quotient, remainder, band, bor, bxor, bsl, bsr, same, bnot, absolute}
use Rattle.ej_term.specs.Booleans.{truth, negated, joined, both, either, differ, maximum, minimum}
use Rattle.ej_term.specs.Lists.{elements, on_elements, head, tail, length_of, append, subtract, reverse_onto, member, keyfind}
use Rattle.ej_term.specs.Tuples.{tuple_size, element, setelement, tuple_to_list, make_tuple}
use Rattle.ej_term.specs.Maps.{map_size, map_get, is_map_key, maps_find, maps_put, maps_update, maps_remove, maps_keys, maps_values, maps_to_list, maps_from_list, maps_merge}
use Rattle.ej_term.specs.Digits.{atom_to_list, integer_to_list, list_to_integer}

-- `is_function/2`; error badarg where the second is no integer from 0
abbrev pub is_function_of : Term → Term → Outcome
is_function_of term (Int (pos n)) = Value (boolean (takes term (Int (pos n))))
is_function_of term _ = badarg

abbrev pub list_to_tuple : Term → Outcome
list_to_tuple term = on_elements (λ parts. Value (tuple parts)) (elements term)

-- the class of an exception that an atom names
abbrev pub class_named : Term → Option Class3
class_named (Atom name) =
    if bytes_eq name (codes "error") then Some Error
    else if bytes_eq name (codes "exit") then Some Exit
    else if bytes_eq name (codes "throw") then Some Throw
    else std.None
class_named _ = std.None

-- `raise/3` raises the reason with the class; its value is badarg where the first names no class or the third is
-- no proper list
abbrev pub raise : Term → Term → Term → Outcome
raise class reason trace = raised (class_named class) (elements trace)
  where
    raised : Option Class3 → Option (List Term) → Outcome
    raised (Some named) (Some parts) = Raised named reason
    raised _ _ = Value (atom (codes "badarg"))

-- what a builtin function gives for one, two or three arguments; one with an effect gives nothing here
pub data Rule : Type 0 where
  One : (Term → Outcome) → Rule
  Two : (Term → Term → Outcome) → Rule
  Three : (Term → Term → Term → Outcome) → Rule
  Effect : Rule

-- a test of one term
abbrev pub asks : (Term → Bool) → Rule
asks f = One (λ term. Value (boolean (f term)))

-- a comparison
abbrev pub compares : (Term → Term → Bool) → Rule
compares f = Two (λ a b. Value (boolean (f a b)))

-- an operation on two integers, and one on two booleans
abbrev pub computes : (ℤ → ℤ → Outcome) → Rule
computes f = Two (on_integers f)

abbrev pub decides : (Bool → Bool → Bool) → Rule
decides f = Two (λ a b. joined f (truth a) (truth b))

abbrev pub rule : Builtin → Rule
rule b.Add = computes plus
rule b.Subtract = computes minus
rule b.Multiply = computes times
rule b.Div = computes quotient
rule b.Rem = computes remainder
rule b.Band = computes band
rule b.Bor = computes bor
rule b.Bxor = computes bxor
rule b.Bsl = computes bsl
rule b.Bsr = computes bsr
rule b.Negate = One (on_integer badarith neg_ℤ)
rule b.Plus = One (on_integer badarith same)
rule b.Bnot = One (on_integer badarith bnot)
rule b.Abs = One (on_integer badarg absolute)
rule b.Equal = compares equal
rule b.NotEqual = compares (λ a b. not (equal a b))
rule b.AtMost = compares (λ a b. not (less b a))
rule b.Less = compares less
rule b.AtLeast = compares (λ a b. not (less a b))
rule b.Greater = compares (λ a b. less b a)
rule b.ExactlyEqual = compares equal
rule b.NotExactlyEqual = compares (λ a b. not (equal a b))
rule b.Not = One (λ a. negated (truth a))
rule b.And = decides both
rule b.Or = decides either
rule b.Xor = decides differ
rule b.Hd = One head
rule b.Tl = One tail
rule b.Length = One length_of
rule b.TupleSize = One tuple_size
rule b.Element = Two element
rule b.MapSize = One map_size
rule b.MapGet = Two map_get
rule b.IsMapKey = Two is_map_key
rule b.SelfPid = Effect
rule b.IsAtom = asks is_atom
rule b.IsInteger = asks is_integer
rule b.IsNumber = asks is_integer
rule b.IsList = asks is_list
rule b.IsTuple = asks is_tuple
rule b.IsPid = asks is_pid
rule b.IsReference = asks is_reference
rule b.IsFunction = asks is_function
rule b.IsMap = asks is_map
rule b.IsBoolean = asks is_boolean
rule b.IsFloat = asks never
rule b.IsBinary = asks never
rule b.IsFunctionOfArity = Two is_function_of
rule b.Max = Two (λ a b. Value (maximum a b))
rule b.Min = Two (λ a b. Value (minimum a b))
rule b.Append = Two append
rule b.SubtractList = Two subtract
rule b.SetElement = Three setelement
rule b.TupleToList = One tuple_to_list
rule b.ListToTuple = One list_to_tuple
rule b.MakeTuple = Two make_tuple
rule b.ListsReverse = Two reverse_onto
rule b.ListsMember = Two member
rule b.ListsKeyfind = Three keyfind
rule b.MapsGet = Two map_get
rule b.MapsFind = Two maps_find
rule b.MapsPut = Three maps_put
rule b.MapsUpdate = Three maps_update
rule b.MapsRemove = Two maps_remove
rule b.MapsIsKey = Two is_map_key
rule b.MapsKeys = One maps_keys
rule b.MapsValues = One maps_values
rule b.MapsToList = One maps_to_list
rule b.MapsFromList = One maps_from_list
rule b.MapsMerge = Two maps_merge
rule b.AtomToList = One atom_to_list
rule b.IntegerToList = One integer_to_list
rule b.ListToInteger = One list_to_integer
rule b.Error = One (Raised Error)
rule b.ErrorWithArguments = Two (λ reason arguments. Raised Error reason)
rule b.Exit = One (Raised Exit)
rule b.Throw = One (Raised Throw)
rule b.Raise = Three raise
rule b.SendOperator = Effect
rule b.Send = Effect
rule b.SpawnFun = Effect
rule b.Spawn = Effect
rule b.SpawnLinkFun = Effect
rule b.SpawnLink = Effect
rule b.Link = Effect
rule b.Unlink = Effect
rule b.ExitSignal = Effect
rule b.ProcessFlag = Effect
rule b.Display = Effect
rule b.MakeRef = Effect

abbrev pub undefined : Outcome
undefined = named_error (codes "undef")

-- by a rule: error undef where it is not of so many arguments
abbrev pub gives : Rule → List Term → Outcome
gives (One f) (a ∷ []) = f a
gives (Two f) (a ∷ b ∷ []) = f a b
gives (Three f) (a ∷ b ∷ c ∷ []) = f a b c
gives _ _ = undefined

abbrev pub applied : Option Builtin → List Term → Outcome
applied (Some named) arguments = gives (rule named) arguments
applied std.None arguments = undefined

-- what the builtin of this number gives for these arguments; error undef where none without an effect has that
-- number and takes so many
abbrev pub pure : ℕ → List Term → Outcome
pure number arguments = applied (builtin_numbered number) arguments

-- so many arguments, and no effect
abbrev pub is_of : Rule → ℕ → Bool
is_of (One f) count = nat_eq count 1
is_of (Two f) count = nat_eq count 2
is_of (Three f) count = nat_eq count 3
is_of Effect count = false

abbrev pub counts : Option Builtin → ℕ → Bool
counts (Some named) count = is_of (rule named) count
counts std.None count = false

-- there is a builtin of this number without an effect, and it takes so many arguments
abbrev pub is_pure : ℕ → ℕ → Bool
is_pure number count = counts (builtin_numbered number) count
