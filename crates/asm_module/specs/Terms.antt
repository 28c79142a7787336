-- The parts of a form.
use Rattle.std.specs.Prelude.{ℕ, ℤ, pos, negsuc, Bool, nat_le, if◌then◌else◌, List, [], ◌∷◌, map, encode_utf8_all, Option, None, Some, option_map, option_and_then}
use Rattle.std.specs.Str.{bytes_eq}
use Rattle.ej_term.specs.declared.asm_term.AsmTerm.{AsmTerm, out-AsmTerm}
use Rattle.ej_term.specs.declared.asm_term.AsmTerm.TheOpen as o
use Rattle.ej_term.specs.declared.asm_term.AsmTerm.TheOpen.{AsmTerm-F}
use Rattle.ej_term.specs.declared.asm_term.AsmTerm.TheVariants as v

-- a name is that word, whose bytes are given
abbrev pub is_word : List ℕ → List ℕ → Bool
is_word name word = bytes_eq (encode_utf8_all name) word

abbrev pub atom_in : AsmTerm-F AsmTerm → Option (List ℕ)
atom_in (o.Atom name) = Some name
atom_in _ = None

-- an atom's name
abbrev pub atom : AsmTerm → Option (List ℕ)
atom t = atom_in (out-AsmTerm t)

abbrev pub integer_in : AsmTerm-F AsmTerm → Option ℤ
integer_in (o.Int n) = Some n
integer_in _ = None

abbrev pub integer : AsmTerm → Option ℤ
integer t = integer_in (out-AsmTerm t)

abbrev pub up_to : ℕ → ℤ → Option ℕ
up_to most (pos n) = if nat_le n most then Some n else None
up_to most (negsuc n) = None

-- an integer from 0 to the largest
abbrev pub number : ℕ → AsmTerm → Option ℕ
number most t = option_and_then (up_to most) (integer t)

abbrev pub tuple_in : AsmTerm-F AsmTerm → Option (List AsmTerm)
tuple_in (o.Tuple parts) = Some parts
tuple_in _ = None

-- a tuple's elements
abbrev pub tuple : AsmTerm → Option (List AsmTerm)
tuple t = tuple_in (out-AsmTerm t)

abbrev pub integer_of : ℕ → AsmTerm
integer_of c = v.Int (pos c)

abbrev pub elements_in : AsmTerm-F AsmTerm → Option (List AsmTerm)
elements_in (o.List parts None) = Some parts
elements_in (o.Str characters) = Some (map integer_of characters)
elements_in _ = None

-- the elements of a list; a string is the list of its characters' integers, and a list with a tail of its own is none
abbrev pub elements : AsmTerm → Option (List AsmTerm)
elements t = elements_in (out-AsmTerm t)

-- an atom and what stands behind it
abbrev pub Tagged : Type 0
Tagged = List ℕ × List AsmTerm

abbrev pub tagged_parts : List AsmTerm → Option Tagged
tagged_parts [] = None
tagged_parts (first ∷ rest) = option_map (λ name. (name, rest)) (atom first)

-- a tuple that begins with an atom
abbrev pub tagged : AsmTerm → Option Tagged
tagged t = option_and_then tagged_parts (tuple t)

abbrev pub pair_of : Tagged → Option (List ℕ × AsmTerm)
pair_of (name, part ∷ []) = Some (name, part)
pair_of _ = None

-- an atom with one term behind it
abbrev pub pair : AsmTerm → Option (List ℕ × AsmTerm)
pair t = option_and_then pair_of (tagged t)

abbrev pub pair_with : List ℕ → List ℕ × AsmTerm → Option AsmTerm
pair_with word p = if is_word p.0 word then Some p.1 else None

-- the term behind that word
abbrev pub behind : List ℕ → AsmTerm → Option AsmTerm
behind word t = option_and_then (pair_with word) (pair t)

-- what each of them is, where each is something
abbrev pub each : {X Y : Type 0} → (X → Option Y) → List X → Option (List Y)
each read [] = Some []
each read (x ∷ xs) = option_and_then (λ y. option_map (λ ys. y ∷ ys) (each read xs)) (read x)
