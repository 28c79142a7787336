-- The tests of terms (Erlang Reference Manual, "Guard Sequences"; the OTP 24 genop table).
use Rattle.std.specs.Prelude.{ℕ, pos, Bool, true, false, not, ◌&&◌, ◌||◌, nat_eq, List, [], ◌∷◌, codes, Option, Some}
use Rattle.std.specs.Prelude as std
use Rattle.std.specs.Str.{bytes_eq}
use Rattle.std.specs.Ordering.{is_lt, is_eq}
use Rattle.ej_term.specs.Term.{Term, Int, Atom, Reference, Fun, Pid, Tuple, Map, Nil, Cons, More}
use Rattle.ej_term.specs.Order.{compare, size}
use Rattle.ej_term.specs.declared.test.Test.{Test}
use Rattle.ej_term.specs.declared.test.Test.TheVariants as t
use Rattle.ej_term.specs.TestNumbers.{test_numbered}

abbrev pub less : Term → Term → Bool
less a b = is_lt (compare a b)

abbrev pub equal : Term → Term → Bool
equal a b = is_eq (compare a b)

abbrev pub is_integer : Term → Bool
is_integer (Int n) = true
is_integer _ = false

abbrev pub is_atom : Term → Bool
is_atom (Atom name) = true
is_atom _ = false

abbrev pub is_pid : Term → Bool
is_pid (Pid node number) = true
is_pid _ = false

abbrev pub is_reference : Term → Bool
is_reference (Reference node number) = true
is_reference _ = false

abbrev pub is_nil : Term → Bool
is_nil Nil = true
is_nil _ = false

abbrev pub is_nonempty_list : Term → Bool
is_nonempty_list (Cons head tail) = true
is_nonempty_list _ = false

-- nil, or a list of elements with whatever tail
abbrev pub is_list : Term → Bool
is_list term = is_nil term || is_nonempty_list term

abbrev pub is_tuple : Term → Bool
is_tuple (Tuple parts) = true
is_tuple _ = false

-- a tuple of this size
abbrev pub has_arity : Term → Term → Bool
has_arity (Tuple parts) (Int (pos n)) = nat_eq (size parts) n
has_arity _ _ = false

abbrev pub is_boolean : Term → Bool
is_boolean (Atom name) = bytes_eq name (codes "true") || bytes_eq name (codes "false")
is_boolean _ = false

abbrev pub is_function : Term → Bool
is_function (Fun local owner name arity environment) = true
is_function _ = false

-- a fun that takes this many arguments
abbrev pub takes : Term → Term → Bool
takes (Fun local owner name arity environment) (Int (pos n)) = nat_eq arity n
takes _ _ = false

abbrev pub is_map : Term → Bool
is_map (Map pairs) = true
is_map _ = false

-- the first element of a tuple is this term
abbrev pub begins_with : Term → Term → Bool
begins_with (Tuple (More first rest)) tag = equal first tag
begins_with _ tag = false

-- a tuple of this size whose first element is the tag
abbrev pub is_tagged_tuple : Term → Term → Term → Bool
is_tagged_tuple term n tag = has_arity term n && begins_with term tag

-- of floats, binaries, bit strings and ports there are none
abbrev pub never : Term → Bool
never term = false

-- what a test says of one, two or three terms
pub data Rule : Type 0 where
  One : (Term → Bool) → Rule
  Two : (Term → Term → Bool) → Rule
  Three : (Term → Term → Term → Bool) → Rule

abbrev pub rule : Test → Rule
rule t.Less = Two less
rule t.AtLeast = Two (λ a b. not (less a b))
rule t.Equal = Two equal
rule t.NotEqual = Two (λ a b. not (equal a b))
rule t.ExactlyEqual = Two equal
rule t.NotExactlyEqual = Two (λ a b. not (equal a b))
rule t.IsInteger = One is_integer
rule t.IsNumber = One is_integer
rule t.IsAtom = One is_atom
rule t.IsPid = One is_pid
rule t.IsReference = One is_reference
rule t.IsNil = One is_nil
rule t.IsList = One is_list
rule t.IsNonemptyList = One is_nonempty_list
rule t.IsTuple = One is_tuple
rule t.TestArity = Two has_arity
rule t.IsBoolean = One is_boolean
rule t.IsFunction = One is_function
rule t.IsFunctionOfArity = Two takes
rule t.IsMap = One is_map
rule t.IsTaggedTuple = Three is_tagged_tuple
rule t.IsFloat = One never
rule t.IsBinary = One never
rule t.IsBitstring = One never
rule t.IsPort = One never

-- by a rule: false where it is not of so many terms
abbrev pub holds_by : Rule → List Term → Bool
holds_by (One f) (a ∷ []) = f a
holds_by (Two f) (a ∷ b ∷ []) = f a b
holds_by (Three f) (a ∷ b ∷ c ∷ []) = f a b c
holds_by _ _ = false

abbrev pub holds : Option Test → List Term → Bool
holds (Some named) terms = holds_by (rule named) terms
holds std.None terms = false

-- what the test of this number says of these terms; false where there is no such test of so many terms
abbrev pub test : ℕ → List Term → Bool
test number terms = holds (test_numbered number) terms

-- it is of so many terms
abbrev pub is_of : Rule → ℕ → Bool
is_of (One f) count = nat_eq count 1
is_of (Two f) count = nat_eq count 2
is_of (Three f) count = nat_eq count 3

abbrev pub tests_count : Option Test → ℕ → Bool
tests_count (Some named) count = is_of (rule named) count
tests_count std.None count = false

-- there is a test of this number, and it is of so many terms
abbrev pub is_test : ℕ → ℕ → Bool
is_test number count = tests_count (test_numbered number) count
