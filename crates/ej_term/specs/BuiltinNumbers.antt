-- The builtin functions by number, from 1 on in this order (the OTP modules erlang, lists and maps).
use Rattle.std.specs.Prelude.{ℕ, zero, suc, List, [], ◌∷◌, slice_get, Option, None}
use Rattle.ej_term.specs.declared.builtin.Builtin.{Builtin}
use Rattle.ej_term.specs.declared.builtin.Builtin.TheVariants as b

abbrev pub builtins : List Builtin
builtins =
    -- 1
    b.Add ∷ b.Subtract ∷ b.Multiply ∷ b.Div ∷ b.Rem
    ∷ b.Band ∷ b.Bor ∷ b.Bxor ∷ b.Bsl ∷ b.Bsr
    -- 11
    ∷ b.Negate ∷ b.Plus ∷ b.Bnot ∷ b.Abs ∷ b.Equal
    ∷ b.NotEqual ∷ b.AtMost ∷ b.Less ∷ b.AtLeast ∷ b.Greater
    -- 21
    ∷ b.ExactlyEqual ∷ b.NotExactlyEqual ∷ b.Not ∷ b.And ∷ b.Or
    ∷ b.Xor ∷ b.Hd ∷ b.Tl ∷ b.Length ∷ b.TupleSize
    -- 31
    ∷ b.Element ∷ b.MapSize ∷ b.MapGet ∷ b.IsMapKey ∷ b.SelfPid
    ∷ b.IsAtom ∷ b.IsInteger ∷ b.IsNumber ∷ b.IsList ∷ b.IsTuple
    -- 41
    ∷ b.IsPid ∷ b.IsReference ∷ b.IsFunction ∷ b.IsMap ∷ b.IsBoolean
    ∷ b.IsFloat ∷ b.IsBinary ∷ b.IsFunctionOfArity ∷ b.Max ∷ b.Min
    -- 51
    ∷ b.Append ∷ b.SubtractList ∷ b.SetElement ∷ b.TupleToList ∷ b.ListToTuple
    ∷ b.MakeTuple ∷ b.ListsReverse ∷ b.ListsMember ∷ b.ListsKeyfind ∷ b.MapsGet
    -- 61
    ∷ b.MapsFind ∷ b.MapsPut ∷ b.MapsUpdate ∷ b.MapsRemove ∷ b.MapsIsKey
    ∷ b.MapsKeys ∷ b.MapsValues ∷ b.MapsToList ∷ b.MapsFromList ∷ b.MapsMerge
    -- 71
    ∷ b.AtomToList ∷ b.IntegerToList ∷ b.ListToInteger ∷ b.Error ∷ b.ErrorWithArguments
    ∷ b.Exit ∷ b.Throw ∷ b.Raise ∷ b.SendOperator ∷ b.Send
    -- 81
    ∷ b.SpawnFun ∷ b.Spawn ∷ b.SpawnLinkFun ∷ b.SpawnLink ∷ b.Link
    ∷ b.Unlink ∷ b.ExitSignal ∷ b.ProcessFlag ∷ b.Display ∷ b.MakeRef ∷ []

-- the builtin function of this number
abbrev pub builtin_numbered : ℕ → Option Builtin
builtin_numbered zero = None
builtin_numbered (suc n) = slice_get builtins n
