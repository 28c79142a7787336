-- The terms that the cells of a heap stand for.
use Rattle.std.specs.Prelude.{◌≡◌, ℕ, zero, suc, ◌+◌, ◌-◌, ◌*◌, ◌/◌, ◌%◌, ◌^◌, ◌&&◌, nat_le, nat_lt, nat_eq, if◌then◌else◌, List, [], ◌∷◌, ◌++◌, length, map, take, drop, slice_get, Option, Some, unwrap_or, option_map, option_and_then}
use Rattle.std.specs.Prelude as std
use Rattle.ej_term.specs.Term.{Term, Int, Atom, Reference, Fun, Pid, Tuple, Map, Nil, Cons, Pairs, Empty, Pair, terms}
use Rattle.ej_term.specs.AsmValue.{every}
use Rattle.ej_term.specs.Maps.{rises}
use Rattle.term_heap.specs.declared.cell.TermId.{TermId}
use Rattle.term_heap.specs.declared.cell.Cell.{Cell}
use Rattle.term_heap.specs.declared.cell.Cell.TheVariants as c

-- what the cells of a heap name beside other cells: the parts of tuples and funs, in a row, and the keys of each map with their values
pub record Parts : Type 0 where
  pub ids : List TermId
  pub maps : List (List (TermId × TermId))

abbrev pub stored : List TermId → List (List (TermId × TermId)) → Parts
stored ids maps = record { ids = ids; maps = maps }

-- these keys with their values in front of others
abbrev pub onto : List (Term × Term) → Pairs → Pairs
onto [] behind = behind
onto (entry ∷ entries) behind = Pair entry.0 entry.1 (onto entries behind)

abbrev pub from_entries : List (Term × Term) → Pairs
from_entries entries = onto entries Empty

-- the place at which a map begins, by its number: that of its first key
abbrev pub map_place : ℕ → ℕ
map_place number = 2 ^ 63 + number * 2 ^ 32

-- the number of the map that a place is of, and how far from its beginning it is
abbrev pub number_of : ℕ → ℕ
number_of place = (place - 2 ^ 63) / 2 ^ 32

abbrev pub offset_of : ℕ → ℕ
offset_of place = (place - 2 ^ 63) % 2 ^ 32

-- a map's keys, and then their values
abbrev pub spread : {X : Type 0} → List (X × X) → List X
spread entries = map (λ e. e.0) entries ++ map (λ e. e.1) entries

-- the part at a place: one of the row, or a key or a value of a map
abbrev pub part_at : Parts → ℕ → Option TermId
part_at parts place =
    if nat_lt place (2 ^ 63) then slice_get parts.ids place
    else option_and_then (λ es. slice_get (spread es) (offset_of place)) (slice_get parts.maps (number_of place))

-- the term of an id
abbrev pub term_for : List Term → TermId → Option Term
term_for earlier id = slice_get earlier id.0

-- the terms of these ids, where each is there
abbrev pub terms_of : List Term → List TermId → Option (List Term)
terms_of earlier ids = every (map (term_for earlier) ids)

-- both, where both are there
abbrev pub both : {X Y Z : Type 0} → (X → Y → Z) → Option X → Option Y → Option Z
both f (Some x) (Some y) = Some (f x y)
both f _ _ = std.None

-- the terms of so many parts from a place on
abbrev pub parts_of : Parts → List Term → (first count : ℕ) → Option (List Term)
parts_of parts earlier first zero = Some []
parts_of parts earlier first (suc count) = both (◌∷◌) (option_and_then (term_for earlier) (part_at parts first)) (parts_of parts earlier (suc first) count)

-- so many of these, from this place on, where they are there
abbrev pub run : {X : Type 0} → List X → (first count : ℕ) → Option (List X)
run xs first count = if nat_le (first + count) (length xs) then Some (take count (drop first xs)) else std.None

-- the terms of so many parts of the row, which are those of a tuple or a fun
abbrev pub row_of : Parts → List Term → (first count : ℕ) → Option (List Term)
row_of parts earlier first count = option_and_then (terms_of earlier) (run parts.ids first count)

-- the keys and values of the map that begins at a place, where it has so many keys
abbrev pub entries_from : Parts → (first count : ℕ) → Option (List (TermId × TermId))
entries_from parts first count =
    option_and_then (λ es. if nat_eq first (map_place (number_of first)) && nat_eq count (length es) then Some es else std.None)
    (slice_get parts.maps (number_of first))

abbrev pub all_three : {X Y Z W : Type 0} → (X → Y → Z → W) → Option X → Option Y → Option Z → Option W
all_three f (Some x) (Some y) (Some z) = Some (f x y z)
all_three f _ _ _ = std.None

-- the map of these pairs, where their keys rise
abbrev pub rising : Pairs → Option Term
rising ps = if rises ps then Some (Map ps) else std.None

-- the terms of a key and its value
abbrev pub entry_terms : List Term → TermId × TermId → Option (Term × Term)
entry_terms earlier e = both (λ k v. (k, v)) (term_for earlier e.0) (term_for earlier e.1)

-- the map of these keys and values, whose keys rise
abbrev pub map_of : List Term → List (TermId × TermId) → Option Term
map_of earlier es = option_and_then (λ ts. rising (from_entries ts)) (every (map (entry_terms earlier) es))

-- the term that a cell stands for, by the texts of the atoms, the parts, and the terms of the earlier cells; none
-- where it names what isn't there
abbrev pub meaning : List (List ℕ) → Parts → List Term → Cell → Option Term
meaning atoms parts earlier (c.Int n) = Some (Int n)
meaning atoms parts earlier (c.Atom text) = option_map Atom (slice_get atoms text)
meaning atoms parts earlier c.Nil = Some Nil
meaning atoms parts earlier (c.Cons head tail) = both Cons (slice_get earlier head.0) (slice_get earlier tail.0)
meaning atoms parts earlier (c.Tuple first count) = option_map (λ ts. Tuple (terms ts)) (row_of parts earlier first count)
meaning atoms parts earlier (c.Map first count) = option_and_then (map_of earlier) (entries_from parts first count)
meaning atoms parts earlier (c.Fun local owner name arity first count) =
    all_three (λ m f ts. Fun local m f arity (terms ts)) (slice_get atoms owner) (slice_get atoms name) (row_of parts earlier first count)
meaning atoms parts earlier (c.Pid node number) = Some (Pid node number)
meaning atoms parts earlier (c.Reference node number) = Some (Reference node number)

-- the earlier terms and then those of these cells, each of which names earlier ones only
abbrev pub meanings : List (List ℕ) → Parts → List Term → List Cell → Option (List Term)
meanings atoms parts earlier [] = Some earlier
meanings atoms parts earlier (cell ∷ cells) = option_and_then (λ t. meanings atoms parts (earlier ++ t ∷ []) cells) (meaning atoms parts earlier cell)

-- the terms of these cells, none where one of them names what isn't there
abbrev pub all_meant : List (List ℕ) → Parts → List Cell → List Term
all_meant atoms parts cells = unwrap_or (meanings atoms parts [] cells) []

-- the first list, and then what may be more
abbrev pub Extends : {X : Type 0} → List X → List X → Type 0
Extends old new = new ≡ old ++ drop (length old) new

-- the same of both kinds of parts
pub record ExtendsParts (old new : Parts) : Type 0 where
  pub ids : Extends old.ids new.ids
  pub maps : Extends old.maps new.maps
