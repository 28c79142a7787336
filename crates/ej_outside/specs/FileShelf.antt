-- A shelf over files, which tells no contents.
use Rattle.std.specs.Prelude.{ℕ, ◌≤◌, length, Option, None, Result, Ok, Err, refl}
use Rattle.std.specs.FinMap as map
use Rattle.std.specs.Coded.{Coded, code_by, coded×, coded_ℕ, coded_list, coded_option}
use Rattle.ej_outside.specs.declared.shelf.Got.{Got}
use Rattle.ej_outside.specs.declared.shelf.Got.TheVariants.{Bytes, Absent, Longer}
use Rattle.ej_outside.specs.declared.shelf.ShelfFault.{ShelfFault}
use Rattle.ej_outside.specs.declared.shelf.ShelfFault.TheVariants.{Failed, NoMemory}
use Rattle.ej_outside.specs.declared.fault.Failed as failed
use Rattle.ej_outside.specs.Counts.{raised}
use Rattle.ej_outside.specs.Shelf.{Files, ShelfState}

-- it is stored as its contents and its counts
abbrev pub shelf_code : Coded ShelfState
shelf_code =
    code_by (Option Files × ((ℕ × ℕ) × (ℕ × ℕ)))
    (coded× (coded_option (map.code (coded_list coded_ℕ) (coded_list coded_ℕ))) (coded× (coded× coded_ℕ coded_ℕ) (coded× coded_ℕ coded_ℕ)))
    (λ s. (s.held, ((s.read_faults, s.put_faults), (s.misses, s.longs))))
    (λ p. record { held = p.0; read_faults = p.1.0.0; put_faults = p.1.0.1; misses = p.1.1.0; longs = p.1.1.1 })
    (λ _. refl)

-- a shelf that tells no contents, on which nothing was called yet
abbrev pub untold_shelf : ShelfState
untold_shelf = record { held = None; read_faults = 0; put_faults = 0; misses = 0; longs = 0 }

-- no more bytes than the limit are handed out
abbrev pub IsWithin : Result Got ShelfFault → ℕ → Type 0
IsWithin (Ok (Bytes v)) limit = length v.items ≤ limit
IsWithin (Ok Absent) limit = Unit {0}
IsWithin (Ok Longer) limit = Unit {0}
IsWithin (Err fault) limit = Unit {0}

-- what a `get` that answered so leaves: the count of that answer has risen
abbrev pub after_get : ShelfState → Result Got ShelfFault → ShelfState
after_get s (Ok (Bytes v)) = s
after_get s (Ok Absent) = record s { misses = raised s.misses }
after_get s (Ok Longer) = record s { longs = raised s.longs }
after_get s (Err Failed) = record s { read_faults = raised s.read_faults }
after_get s (Err NoMemory) = s

-- what a `put` that answered so leaves
abbrev pub after_put : ShelfState → Result (Unit {0}) failed.Failed → ShelfState
after_put s (Ok done) = s
after_put s (Err fault) = record s { put_faults = raised s.put_faults }
