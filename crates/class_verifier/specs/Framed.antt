-- What the reading of a method's frames answers.
use Rattle.std.specs.Prelude.{◌≡◌, ℕ, List, [], map, Option, MatchOption, Result, Ok, Err}
use Rattle.jvm_code.specs.declared.class.Class.{Class}
use Rattle.jvm_code.specs.declared.class.Constant.{Constant}
use Rattle.jvm_code.specs.declared.class.Method.{Method}
use Rattle.jvm_code.specs.declared.types.Frame.{Frame}
use Rattle.jvm_code.specs.StackMaps.{AreFrames}
use Rattle.jvm_code.specs.Verification.{HasFrames, NoFrames}
use Rattle.stack_maps.specs.declared.fault.MapFault.{MapFault}
use Rattle.stack_maps.specs.declared.fault.MapFault.TheVariants.{BadMap, NoMemory}
use Rattle.stack_maps.specs.declared.frame.MapFrame.{MapFrame}
use Rattle.stack_maps.specs.Read.{seen}

-- the frames that stand for a `StackMapTable`, or none where there is none
abbrev pub Listed : List Constant → Option (ℕ × List ℕ) → List (ℕ × Frame) → Type 0
Listed pool maps frames = MatchOption maps (frames ≡ []) (λ maps. AreFrames pool maps.1 frames)

-- the frames of a `StackMapTable`, wherever they stand; a want of memory is free
abbrev pub Lists : List Constant → Option (ℕ × List ℕ) → Result (List MapFrame) MapFault → Type 0
Lists pool maps (Ok frames) = Listed pool maps (map seen frames)
Lists pool maps (Err BadMap) = (frames : List (ℕ × Frame)) → Listed pool maps frames → ⊥
Lists pool maps (Err NoMemory) = Unit {0}

-- the frames of a method, each at its place; a want of memory is free
abbrev pub Framed : Class → Method → Result (List MapFrame) MapFault → Type 0
Framed class m (Ok frames) = HasFrames class m (map seen frames)
Framed class m (Err BadMap) = NoFrames class m
Framed class m (Err NoMemory) = Unit {0}
