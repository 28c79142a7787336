-- A sink in memory: what it stands for, and what a write to it answers and leaves.
use Rattle.std.specs.Prelude.{◌≡◌, ℕ, ◌-◌, ◌<◌, ◌≤◌, ◌⊎◌, true, false, List, [], ◌++◌, length, Some, Result, Ok, Err, refl}
use Rattle.std.specs.Coded.{Coded, code_by, coded×, coded_ℕ, coded_list}
use Rattle.ej_outside.specs.declared.fault.Failed.{Failed}
use Rattle.ej_outside.specs.Counts.{raised}
use Rattle.ej_outside.specs.Calls.{is_listed}
use Rattle.ej_outside.specs.Sink.{SinkState}

-- a sink in memory: the bytes that it took, the bytes of room left, the numbers of the writes that fail, the
-- number of the next write, and how often a write failed
pub record MemSinkState : Type 0 where
  pub taken : List ℕ
  pub room : ℕ
  pub fails : List ℕ
  pub next : ℕ
  pub faults : ℕ

-- it is stored as its bytes, its room, its calls and its count
abbrev pub mem_sink_code : Coded MemSinkState
mem_sink_code =
    code_by ((List ℕ × ℕ) × ((List ℕ × ℕ) × ℕ))
    (coded× (coded× (coded_list coded_ℕ) coded_ℕ) (coded× (coded× (coded_list coded_ℕ) coded_ℕ) coded_ℕ))
    (λ m. ((m.taken, m.room), ((m.fails, m.next), m.faults)))
    (λ p. record { taken = p.0.0; room = p.0.1; fails = p.1.0.0; next = p.1.0.1; faults = p.1.1 })
    (λ _. refl)

-- what other code sees of it, as of any sink; it tells what it took
abbrev pub sink_state : MemSinkState → SinkState
sink_state m = record { took = Some m.taken; faults = m.faults }

-- a sink with this room to which nothing was written yet
abbrev pub fresh : ℕ → List ℕ → MemSinkState
fresh room fails = record { taken = []; room = room; fails = fails; next = 0; faults = 0 }

-- the write fails: it is listed, or there is too little room
abbrev pub IsRefused : MemSinkState → List ℕ → Type 0
IsRefused m piece = (is_listed m.fails m.next ≡ true) ⊎ (m.room < length piece)

-- `write` of a piece, which is taken whole or not at all
abbrev pub MemWrites : MemSinkState → List ℕ → Result ℕ Failed → MemSinkState → Type 0
MemWrites old piece (Ok count) new =
    (is_listed old.fails old.next ≡ false) × (length piece ≤ old.room) × (count ≡ length piece) × (new ≡ record old { taken = old.taken ++ piece; room = old.room - length piece; next = raised old.next })
MemWrites old piece (Err fault) new =
    IsRefused old piece × (new ≡ record old { next = raised old.next; faults = raised old.faults })
