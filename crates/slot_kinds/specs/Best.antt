-- The slot map of a function.
use Rattle.std.specs.Prelude.{◌≡◌, ℕ, map, Option}
use Rattle.beam_code.specs.declared.slot_state.SlotMap.{SlotMap}
use Rattle.beam_code.specs.declared.slot_state.SlotState.{SlotState}
use Rattle.beam_code.specs.Code.{FunctionCode}
use Rattle.beam_code.specs.Good.{MostDefined, assignment_of}
use Rattle.beam_code.specs.Labels.{is_in, defined_in}

-- the assignment of a map is the most defined good one, and it lists the labels of the function
pub record IsBest (f : FunctionCode) (m : SlotMap) : Type 0 where
  pub best : MostDefined f (assignment_of m)
  pub lists : (label : ℕ) → is_in (map (λ (e : ℕ × Option SlotState). e.0) m.at) label ≡ is_in (defined_in f.code) label
