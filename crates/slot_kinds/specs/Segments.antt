-- What holds where code is gone through from a state up to the next label.
use Rattle.std.specs.Prelude.{◌≡◌, ℕ, if◌then◌else◌, List, [], ◌∷◌, Option, None, Some}
use Rattle.beam_code.specs.Flow.{flow}
use Rattle.beam_code.specs.Good.{Assignment, GoesTo, Onward}
use Rattle.beam_code.specs.Labels.{defined_by, is_that}
use Rattle.beam_code.specs.Opcode.{Opcode, Label}
use Rattle.beam_code.specs.Slots.{State, BelowIfReached}

-- each label is reached by the other too, in a state that the one's is below
abbrev pub Under : Assignment → Assignment → Type 0
Under at other = (label : ℕ) → BelowIfReached (at label) (other label)

-- an instruction, in the state before it, if it is reached; a label ends the segment
abbrev pub SegmentStep : Assignment → (Option State → Type 0) → Opcode → Option State → Type 0
SegmentStep at rest o None = Unit {0}
SegmentStep at rest (Label label) (Some s) = GoesTo at (label, s)
SegmentStep at rest o (Some s) = Onward at rest (flow o s)

-- from that state on each row holds and each label that control goes to is reached so, up to the next label
abbrev pub Segment : Assignment → List Opcode → Option State → Type 0
Segment at [] before = before ≡ None
Segment at (o ∷ code) before = SegmentStep at (Segment at code) o before

-- the code behind a label
abbrev pub behind : ℕ → List Opcode → List Opcode
behind label [] = []
behind label (o ∷ code) = if is_that label (defined_by o) then code else behind label code
