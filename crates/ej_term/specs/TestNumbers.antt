-- The tests by number, from 1 on in this order (the OTP 24 genop table).
use Rattle.std.specs.Prelude.{ℕ, zero, suc, List, [], ◌∷◌, slice_get, Option, None}
use Rattle.ej_term.specs.declared.test.Test.{Test}
use Rattle.ej_term.specs.declared.test.Test.TheVariants as t

abbrev pub tests : List Test
tests =
    t.Less ∷ t.AtLeast ∷ t.Equal ∷ t.NotEqual ∷ t.ExactlyEqual
    ∷ t.NotExactlyEqual ∷ t.IsInteger ∷ t.IsNumber ∷ t.IsAtom ∷ t.IsPid
    ∷ t.IsReference ∷ t.IsNil ∷ t.IsList ∷ t.IsNonemptyList ∷ t.IsTuple
    ∷ t.TestArity ∷ t.IsBoolean ∷ t.IsFunction ∷ t.IsFunctionOfArity ∷ t.IsMap
    ∷ t.IsTaggedTuple ∷ t.IsFloat ∷ t.IsBinary ∷ t.IsBitstring ∷ t.IsPort ∷ []

-- the test of this number
abbrev pub test_numbered : ℕ → Option Test
test_numbered zero = None
test_numbered (suc n) = slice_get tests n
