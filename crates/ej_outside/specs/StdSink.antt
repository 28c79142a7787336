-- A sink over a stream, which does not tell what it took.
use Rattle.std.specs.Prelude.{ℕ, ◌<◌, ◌≤◌, List, length, Option, None, Result, Ok, Err, refl}
use Rattle.std.specs.Coded.{Coded, code_by, coded×, coded_ℕ, coded_list, coded_option}
use Rattle.ej_outside.specs.declared.fault.Failed.{Failed}
use Rattle.ej_outside.specs.Counts.{raised}
use Rattle.ej_outside.specs.Sink.{SinkState}

-- it is stored as the pair of its fields
abbrev pub sink_code : Coded SinkState
sink_code =
    code_by (Option (List ℕ) × ℕ) (coded× (coded_option (coded_list coded_ℕ)) coded_ℕ) (λ s. (s.took, s.faults)) (λ p. record { took = p.0; faults = p.1 }) (λ _. refl)

-- a sink that does not tell what it took, to which nothing was written yet
abbrev pub untold_sink : SinkState
untold_sink = record { took = None; faults = 0 }

-- so many bytes were taken from the front of the piece: at least one, unless there is none
abbrev pub IsFront : List ℕ → ℕ → Type 0
IsFront piece count = (count ≤ length piece) × (0 < length piece → 0 < count)

-- what a `write` that answered so leaves: each failed one is counted
abbrev pub after_write : SinkState → Result ℕ Failed → SinkState
after_write s (Ok count) = s
after_write s (Err fault) = record s { faults = raised s.faults }
