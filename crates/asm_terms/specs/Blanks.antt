-- White space, the characters 9 to 13 and 32, and comments, from `%` to the end of the line. Both stand between tokens.
use Rattle.std.specs.Prelude.{ℕ, Bool, true, false, not, nat_eq, ◌||◌, if◌then◌else◌, List, [], ◌∷◌}
use Rattle.ej_term.specs.Atoms.{is_between}

abbrev pub is_blank : ℕ → Bool
is_blank c = is_between 9 13 c || nat_eq c 32

-- the text behind space and comments, where it begins inside a comment or outside
abbrev pub skip : (in_comment : Bool) → List ℕ → List ℕ
skip in_comment [] = []
skip true (c ∷ cs) = skip (not (nat_eq c 10)) cs
skip false (c ∷ cs) = if nat_eq c 37 then skip true cs else if is_blank c then skip false cs else c ∷ cs

-- the text behind the space and the comments that it begins with
abbrev pub skip_blank : List ℕ → List ℕ
skip_blank = skip false

-- a `.` is a full stop before this text: white space, a comment or the end
abbrev pub ends_form : List ℕ → Bool
ends_form [] = true
ends_form (c ∷ cs) = is_blank c || nat_eq c 37
