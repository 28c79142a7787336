-- How the kinds of slots are listed: the labels of a tag rise, no undefined x register stands last, and there is a y
-- register for each slot of the frame.
use Rattle.std.specs.Prelude.{ℕ, Bool, true, false, nat_eq, nat_lt, ◌&&◌, ◌-◌, List, [], ◌∷◌, length, get_or, Option, None, Some}
use Rattle.beam_code.specs.declared.kind.Kind.{Kind}
use Rattle.beam_code.specs.declared.kind.Kind.TheVariants as k

-- each number is larger than the one before it
abbrev pub rises_from : ℕ → List ℕ → Bool
rises_from n [] = true
rises_from n (m ∷ ms) = nat_lt n m && rises_from m ms

abbrev pub rises : List ℕ → Bool
rises [] = true
rises (n ∷ ns) = rises_from n ns

abbrev pub is_undefined : Kind → Bool
is_undefined k.Undefined = true
is_undefined _ = false

-- the labels of a tag rise
abbrev pub is_kind : Kind → Bool
is_kind (k.Tag labels) = rises labels
is_kind _ = true

-- the last, if there is one, is undefined
abbrev pub ends_undefined : List Kind → Bool
ends_undefined kinds = is_undefined (get_or kinds (length kinds - 1) k.Term)

-- a frame of that many slots, none where there is no frame
abbrev pub is_size : Option ℕ → ℕ → Bool
is_size None n = nat_eq n 0
is_size (Some size) n = nat_eq n size
