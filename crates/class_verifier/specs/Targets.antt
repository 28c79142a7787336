-- The frames at the targets of instructions.
use Rattle.std.specs.Prelude.{ℕ, ℤ, pos, negsuc, List, Option, None}
use Rattle.jvm_code.specs.declared.types.Frame.{Frame}
use Rattle.jvm_code.specs.Verification.{frame_at}

-- the frame at a target, which may be an offset of no code
abbrev pub frame_to : List (ℕ × Frame) → ℤ → Option Frame
frame_to frames (pos n) = frame_at frames n
frame_to frames (negsuc n) = None
