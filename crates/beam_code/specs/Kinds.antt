-- What the code's lists of kinds stand for, when they are changed.
use Rattle.std.specs.Prelude.{◌≡◌, ℕ, ◌-◌, nat_lt, if◌then◌else◌, List, [], ◌∷◌, ◌++◌, length, replicate, slice_set}
use Rattle.beam_code.specs.declared.kind.Kind.{Kind}
use Rattle.beam_code.specs.declared.kind.Kind.TheVariants.{Undefined, Tag}

-- the labels of the first tag of a list
abbrev pub first_tag : List Kind → List ℕ
first_tag [] = []
first_tag (Tag labels ∷ kinds) = labels
first_tag (kind ∷ kinds) = first_tag kinds

-- kinds are gone from the end of a list
abbrev pub IsFront : List Kind → List Kind → Type 0
IsFront front all = (gone : List Kind) × (all ≡ front ++ gone)

-- the list with that kind at a place, with undefined ones before it where the list is shorter
abbrev pub put_at : List Kind → ℕ → Kind → List Kind
put_at kinds at kind = if nat_lt at (length kinds) then slice_set kinds at kind else kinds ++ replicate (at - length kinds) Undefined ++ kind ∷ []
