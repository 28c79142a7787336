-- Builtin functions on tuples (the OTP module erlang).
use Rattle.std.specs.Prelude.{suc, pos, if◌then◌else◌, nat_lt, nat_le, List, [], ◌∷◌, replicate, slice_get, slice_set}
use Rattle.ej_term.specs.Term.{Term, Int, Tuple, Terms, None, More, list, tuple}
use Rattle.ej_term.specs.Order.{size}
use Rattle.ej_term.specs.Outcome.{Outcome, Value, badarg, or_badarg, number}

-- the terms as a list
abbrev pub items : Terms → List Term
items None = []
items (More first rest) = first ∷ items rest

abbrev pub tuple_size : Term → Outcome
tuple_size (Tuple parts) = Value (number (size parts))
tuple_size _ = badarg

-- the element at a place from 1
abbrev pub element : Term → Term → Outcome
element (Int (pos (suc place))) (Tuple parts) = or_badarg (slice_get (items parts) place)
element _ _ = badarg

-- the tuple with another element at a place from 1
abbrev pub setelement : Term → Term → Term → Outcome
setelement (Int (pos (suc place))) (Tuple parts) value = if nat_lt place (size parts) then Value (tuple (slice_set (items parts) place value)) else badarg
setelement _ _ value = badarg

abbrev pub tuple_to_list : Term → Outcome
tuple_to_list (Tuple parts) = Value (list (items parts))
tuple_to_list _ = badarg

-- a tuple of a size up to 16777215, all of whose elements are this term
abbrev pub make_tuple : Term → Term → Outcome
make_tuple (Int (pos n)) value = if nat_le n 16777215 then Value (tuple (replicate n value)) else badarg
make_tuple _ value = badarg
