-- Builtin functions on lists (the OTP modules erlang and lists).
use Rattle.std.specs.Prelude.{ℕ, suc, pos, Bool, true, false, if◌then◌else◌, List, [], ◌∷◌, ◌++◌, length, reverse, Option, Some, option_map, slice_get}
use Rattle.std.specs.Prelude as std
use Rattle.ej_term.specs.Term.{Term, Int, Tuple, Nil, Cons, list}
use Rattle.ej_term.specs.Outcome.{Outcome, Value, badarg, boolean, number}
use Rattle.ej_term.specs.Tuples.{items}
use Rattle.ej_term.specs.Tests.{equal}

-- the elements of a proper list
abbrev pub elements : Term → Option (List Term)
elements Nil = Some []
elements (Cons head tail) = option_map (◌∷◌ head) (elements tail)
elements _ = std.None

-- these elements, and then this tail
abbrev pub list_onto : List Term → Term → Term
list_onto [] tail = tail
list_onto (head ∷ rest) tail = Cons head (list_onto rest tail)

-- a function of the elements; error badarg of anything but a proper list
abbrev pub on_elements : (List Term → Outcome) → Option (List Term) → Outcome
on_elements f (Some parts) = f parts
on_elements f std.None = badarg

abbrev pub head : Term → Outcome
head (Cons first rest) = Value first
head _ = badarg

abbrev pub tail : Term → Outcome
tail (Cons first rest) = Value rest
tail _ = badarg

abbrev pub length_of : Term → Outcome
length_of term = on_elements (λ parts. Value (number (length parts))) (elements term)

-- `++`
abbrev pub append : Term → Term → Outcome
append front back = on_elements (λ parts. Value (list_onto parts back)) (elements front)

-- these terms without the first that is equal to this one
abbrev pub without : Term → List Term → List Term
without term [] = []
without term (first ∷ rest) = if equal first term then rest else first ∷ without term rest

abbrev pub without_each : List Term → List Term → List Term
without_each parts [] = parts
without_each parts (first ∷ rest) = without_each (without first parts) rest

-- `--`
abbrev pub subtract : Term → Term → Outcome
subtract front back = on_elements (λ parts. on_elements (λ others. Value (list (without_each parts others))) (elements back)) (elements front)

-- the elements of the first turned round, and then the second as its tail
abbrev pub reverse_onto : Term → Term → Outcome
reverse_onto front back = on_elements (λ parts. Value (list_onto (reverse parts) back)) (elements front)

-- whether an element before the tail is equal to the term; error badarg where the tail is reached and is not nil
abbrev pub member : Term → Term → Outcome
member term Nil = Value (boolean false)
member term (Cons first rest) = if equal first term then Value (boolean true) else member term rest
member term _ = badarg

-- a tuple's element at this place from 0 is equal to the key
abbrev pub has_key_at : ℕ → Term → Term → Bool
has_key_at place key (Tuple parts) = is_key (slice_get (items parts) place)
  where
    is_key : Option Term → Bool
    is_key (Some part) = equal part key
    is_key std.None = false
has_key_at place key _ = false

-- the first tuple with the key at the place, or false; error badarg where the tail is reached and is not nil
abbrev pub find_tuple : ℕ → Term → Term → Outcome
find_tuple place key Nil = Value (boolean false)
find_tuple place key (Cons first rest) = if has_key_at place key first then Value first else find_tuple place key rest
find_tuple place key _ = badarg

-- `lists:keyfind/3`, with places from 1
abbrev pub keyfind : Term → Term → Term → Outcome
keyfind key (Int (pos (suc place))) term = find_tuple place key term
keyfind key _ term = badarg
