-- What terms are, where they are of one kind.
use Rattle.std.specs.Prelude.{ℕ, suc, ℤ, pos, Bool, if◌then◌else◌, List, [], ◌∷◌, codes, Option, Some, true, false}
use Rattle.std.specs.Prelude as std
use Rattle.std.specs.Str.{bytes_eq}
use Rattle.ej_term.specs.declared.class.Class3.{Class3}
use Rattle.ej_term.specs.declared.class.Class3.TheVariants.{Error, Exit, Throw}
use Rattle.ej_term.specs.Term.{Term, Int, Fun, Tuple, tuple}
use Rattle.ej_term.specs.Outcome.{Outcome, Value, badarg}
use Rattle.ej_term.specs.Tuples.{items}

-- the integer that a term is
abbrev pub integer_of : Term → Option ℤ
integer_of (Int n) = Some n
integer_of _ = std.None

-- the integer from 0 that a term is
abbrev pub natural_of : Term → Option ℕ
natural_of (Int (pos n)) = Some n
natural_of _ = std.None

-- the place from 0 that a place from 1 is
abbrev pub place_of : Term → Option ℕ
place_of (Int (pos (suc place))) = Some place
place_of _ = std.None

-- the boolean of an atom of this name
abbrev pub truth_named : List ℕ → Option Bool
truth_named name = if bytes_eq name (codes "true") then Some true else if bytes_eq name (codes "false") then Some false else std.None

-- the elements of a tuple
abbrev pub tuple_elements : Term → Option (List Term)
tuple_elements (Tuple parts) = Some (items parts)
tuple_elements _ = std.None

-- how many arguments a fun takes
abbrev pub arity_of : Term → Option ℕ
arity_of (Fun local owner name arity environment) = Some arity
arity_of _ = std.None

-- the class of an exception of this name
abbrev pub class_of_name : List ℕ → Option Class3
class_of_name name =
    if bytes_eq name (codes "error") then Some Error
    else if bytes_eq name (codes "exit") then Some Exit
    else if bytes_eq name (codes "throw") then Some Throw
    else std.None

-- the tuple of these elements, or error badarg where there are none
abbrev pub tuple_or_badarg : Option (List Term) → Outcome
tuple_or_badarg (Some elements) = Value (tuple elements)
tuple_or_badarg std.None = badarg

-- two of them, and no more
abbrev pub pair_in : {X : Type 0} → List X → Option (X × X)
pair_in (first ∷ second ∷ []) = Some (first, second)
pair_in _ = std.None
