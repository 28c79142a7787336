-- What a call owes to the reader that it is the code of.
use Rattle.std.specs.Prelude.{◌≡◌, ℕ, List, Option, None, Some, Result, Ok, Err, map}
use Rattle.jvm_code.specs.declared.class.Constant.{Constant}
use Rattle.jvm_code.specs.declared.types.Frame.{Frame}
use Rattle.jvm_code.specs.StackMaps.{AreFrames}
use Rattle.stack_maps.specs.declared.fault.MapFault.{MapFault}
use Rattle.stack_maps.specs.declared.fault.MapFault.TheVariants.{BadMap, NoMemory}
use Rattle.stack_maps.specs.declared.frame.MapFrame.{MapFrame}
use Rattle.stack_maps.specs.Read.{Got, seen}

-- nothing was to be read; a want of memory is free
abbrev pub Failed : {B : Type 0} → Option B → MapFault → Type 0
Failed got BadMap = got ≡ None
Failed got NoMemory = Unit {0}

-- what is given is what is read, and the bytes behind it are left
abbrev pub Gave : {A B : Type 0} → (A → B) → Got B → Result A MapFault → List ℕ → Type 0
Gave made got (Ok x) left = got ≡ Some (made x, left)
Gave made got (Err fault) left = Failed got fault

-- the same of what has no bytes
abbrev pub Given : {A : Type 0} → Option A → Result A MapFault → Type 0
Given got (Ok x) = got ≡ Some x
Given got (Err fault) = Failed got fault

-- the frames of the bytes; none where no list of frames has them
abbrev pub Decodes : List Constant → List ℕ → Result (List MapFrame) MapFault → Type 0
Decodes pool bytes (Ok frames) = AreFrames pool bytes (map seen frames)
Decodes pool bytes (Err BadMap) = (frames : List (ℕ × Frame)) → AreFrames pool bytes frames → ⊥
Decodes pool bytes (Err NoMemory) = Unit {0}
