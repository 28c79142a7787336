-- Where control goes is monotone: from a lower state each row that holds from a higher one holds, and it goes to the same
-- labels in lower states.
use Rattle.std.specs.Prelude.{◌≡◌, ◌⊎◌, List, [], ◌∷◌, Option, None, Some}
use Rattle.beam_code.specs.Flow.{Way, Flow, flow}
use Rattle.beam_code.specs.Opcode.{Opcode}
use Rattle.beam_code.specs.Slots.{State, Below, BelowIfReached}

-- one of the ways goes to the same label, in a state that this one is below
abbrev pub IsCovered : List Way → Way → Type 0
IsCovered [] w = ⊥
IsCovered (v ∷ vs) w = ((w.0 ≡ v.0) × Below w.1 v.1) ⊎ IsCovered vs w

abbrev pub AreCovered : List Way → List Way → Type 0
AreCovered vs [] = Unit {0}
AreCovered vs (w ∷ ws) = IsCovered vs w × AreCovered vs ws

pub record BelowFlow (f g : Flow) : Type 0 where
  pub next : BelowIfReached f.next g.next
  pub goes : AreCovered g.goes f.goes
  pub raised : AreCovered g.raised f.raised

-- nothing is said of a row that does not hold
abbrev pub BelowRow : Option Flow → Option Flow → Type 0
BelowRow f None = Unit {0}
BelowRow None (Some g) = ⊥
BelowRow (Some f) (Some g) = BelowFlow f g

abbrev pub FlowIsMonotone : Type 0
FlowIsMonotone = (o : Opcode) (a b : State) → Below a b → BelowRow (flow o a) (flow o b)
