-- Files in memory, some given at the start, and some put within room that was set aside for them.
use Rattle.std.specs.Prelude.{◌≡◌, ℕ, ◌+◌, ◌-◌, ◌<◌, ◌≤◌, Bool, true, false, List, [], ◌∷◌, length, take, drop, map, String, string_bytes, Vec, refl}
use Rattle.std.specs.declared.alloc.Global.{Global}
use Rattle.std.specs.FinMap as files
use Rattle.std.specs.Coded.{Coded, code_by, coded×, coded_ℕ, coded_list}
use Rattle.ej_outside.specs.Shelf.{Files}
use Rattle.ej_outside.specs.declared.store.Lengths.{Lengths}

-- the files, and how many bytes of room are left for puts
pub record StoreState : Type 0 where
  pub files : Files
  pub room : ℕ

-- it is stored as the pair of its fields
abbrev pub store_code : Coded StoreState
store_code =
    code_by (Files × ℕ) (coded× (files.code (coded_list coded_ℕ) (coded_list coded_ℕ)) coded_ℕ) (λ s. (s.files, s.room)) (λ p. record { files = p.0; room = p.1 }) (λ _. refl)

-- how much room a put takes
abbrev pub need : List ℕ → List ℕ → ℕ
need name bytes = length name + length bytes + 16

-- a put: where there is the room, the bytes stand under the name and the room falls, and else nothing changes
abbrev pub Stores : StoreState → List ℕ → List ℕ → Bool → StoreState → Type 0
Stores old name bytes true new = (need name bytes ≤ old.room) × (new ≡ record { files = files.insert old.files name bytes; room = old.room - need name bytes })
Stores old name bytes false new = (old.room < need name bytes) × (new ≡ old)

-- the files that were given at the start, by name
abbrev pub given_files : List (String Global × Vec ℕ Global) → List (List ℕ × List ℕ)
given_files given = map (λ f. (string_bytes f.0, f.1.items)) given

-- the bytes of the puts' names and of what was put under them
abbrev pub total_size : List Lengths → ℕ
total_size [] = 0
total_size (p ∷ ps) = p.name + p.bytes + total_size ps

-- where the newest put begins
abbrev pub start_of : List ℕ → Lengths → ℕ
start_of text p = length text - p.bytes - p.name

-- a name and its bytes, one after the other
abbrev pub entry : ℕ → List ℕ → List ℕ × List ℕ
entry name both = (take name both, drop name both)

-- the newest put ends the text, and those before it lie before it
abbrev pub entries_in : List ℕ → List Lengths → List (List ℕ × List ℕ)
entries_in text [] = []
entries_in text (p ∷ ps) = entry p.name (drop (start_of text p) text) ∷ entries_in (take (start_of text p) text) ps
