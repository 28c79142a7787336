-- A shelf in memory: what it stands for, and what each call on it answers and leaves.
use Rattle.std.specs.Prelude.{◌≡◌, ℕ, ◌-◌, ◌/◌, ◌<◌, ◌≤◌, ◌⊎◌, true, false, nat_le, if◌then◌else◌, List, length, take, None, Some, IsSomeAnd, Result, Ok, Err, refl}
use Rattle.std.specs.FinMap as map
use Rattle.std.specs.Coded.{Coded, code_by, coded×, coded_ℕ, coded_list}
use Rattle.ej_outside.specs.declared.shelf.Got.{Got}
use Rattle.ej_outside.specs.declared.shelf.Got.TheVariants.{Bytes, Absent, Longer}
use Rattle.ej_outside.specs.declared.shelf.ShelfFault.{ShelfFault}
use Rattle.ej_outside.specs.declared.shelf.ShelfFault.TheVariants.{Failed, NoMemory}
use Rattle.ej_outside.specs.declared.fault.Failed as failed
use Rattle.ej_outside.specs.Counts.{raised}
use Rattle.ej_outside.specs.Calls.{is_listed}
use Rattle.ej_outside.specs.Shelf.{Files, ShelfState}
use Rattle.ej_outside.specs.Store.{need}

-- a shelf in memory: its files, the bytes of room left for puts, the numbers of the calls that fail, the
-- number of the next call, and its four counts
pub record MemShelfState : Type 0 where
  pub files : Files
  pub room : ℕ
  pub fails : List ℕ
  pub next : ℕ
  pub read_faults : ℕ
  pub put_faults : ℕ
  pub misses : ℕ
  pub longs : ℕ

-- it is stored as its files, its room, its calls and its counts
abbrev pub mem_shelf_code : Coded MemShelfState
mem_shelf_code =
    code_by ((Files × ℕ) × ((List ℕ × ℕ) × ((ℕ × ℕ) × (ℕ × ℕ))))
    (coded× (coded× (map.code (coded_list coded_ℕ) (coded_list coded_ℕ)) coded_ℕ) (coded× (coded× (coded_list coded_ℕ) coded_ℕ) (coded× (coded× coded_ℕ coded_ℕ) (coded× coded_ℕ coded_ℕ))))
    (λ m. ((m.files, m.room), ((m.fails, m.next), ((m.read_faults, m.put_faults), (m.misses, m.longs)))))
    (λ p. record { files = p.0.0; room = p.0.1; fails = p.1.0.0; next = p.1.0.1; read_faults = p.1.1.0.0; put_faults = p.1.1.0.1; misses = p.1.1.1.0; longs = p.1.1.1.1 })
    (λ _. refl)

-- what other code sees of it, as of any shelf; it tells its contents
abbrev pub shelf_state : MemShelfState → ShelfState
shelf_state m = record { held = Some m.files; read_faults = m.read_faults; put_faults = m.put_faults; misses = m.misses; longs = m.longs }

-- a shelf with these files and this room on which nothing was called yet
abbrev pub fresh : Files → ℕ → List ℕ → MemShelfState
fresh files room fails = record { files = files; room = room; fails = fails; next = 0; read_faults = 0; put_faults = 0; misses = 0; longs = 0 }

-- the next call was made
abbrev pub called : MemShelfState → MemShelfState
called m = record m { next = raised m.next }

-- the next call is one that is not to fail, or one that is
abbrev pub IsFree : MemShelfState → Type 0
IsFree m = is_listed m.fails m.next ≡ false

abbrev pub IsToFail : MemShelfState → Type 0
IsToFail m = is_listed m.fails m.next ≡ true

-- `get` of a name, of which at most so many bytes are wanted
abbrev pub MemGets : MemShelfState → List ℕ → ℕ → Result Got ShelfFault → MemShelfState → Type 0
MemGets old name limit (Ok (Bytes v)) new =
    IsFree old × (map.get old.files name ≡ Some v.items) × (length v.items ≤ limit) × (new ≡ called old)
MemGets old name limit (Ok Absent) new =
    IsFree old × (map.get old.files name ≡ None) × (new ≡ record (called old) { misses = raised old.misses })
MemGets old name limit (Ok Longer) new =
    IsFree old × IsSomeAnd (map.get old.files name) (λ bytes. limit < length bytes) × (new ≡ record (called old) { longs = raised old.longs })
MemGets old name limit (Err Failed) new =
    IsToFail old × (new ≡ record (called old) { read_faults = raised old.read_faults })
MemGets old name limit (Err NoMemory) new =
    IsFree old × IsSomeAnd (map.get old.files name) (λ bytes. length bytes ≤ limit) × (new ≡ called old)

-- the bytes stand under the name, and the room has fallen by what a put of them takes
abbrev pub with_put : MemShelfState → List ℕ → List ℕ → MemShelfState
with_put m name bytes = record m { files = map.insert m.files name bytes; room = m.room - need name bytes }

-- that, where there is the room for it
abbrev pub with_put_in_room : MemShelfState → List ℕ → List ℕ → MemShelfState
with_put_in_room m name bytes = (if nat_le (need name bytes) m.room then with_put m name bytes else m)

-- half of the bytes, rounded down
abbrev pub half_of : List ℕ → List ℕ
half_of bytes = take (length bytes / 2) bytes

-- a put failed, and was counted
abbrev pub with_fault : MemShelfState → MemShelfState
with_fault m = record m { put_faults = raised m.put_faults }

-- `put` of the bytes under a name. One that is to fail stores half of them.
abbrev pub MemPuts : MemShelfState → List ℕ → List ℕ → Result (Unit {0}) failed.Failed → MemShelfState → Type 0
MemPuts old name bytes (Ok done) new =
    IsFree old × (need name bytes ≤ old.room) × (new ≡ with_put (called old) name bytes)
MemPuts old name bytes (Err fault) new =
    (IsFree old × (old.room < need name bytes) × (new ≡ with_fault (called old))) ⊎ (IsToFail old × (new ≡ with_fault (with_put_in_room (called old) name (half_of bytes))))
