-- Which classes are typed and linked (JVMS SE 7, 4.7.4 and 4.10.1), and what is wrong first with others.
use Rattle.std.specs.Prelude.{◌≡◌, ℕ, suc, ℤ, pos, negsuc, Bool, true, false, nat_eq, nat_lt, nat_le, ◌&&◌, not, ◌⊎◌, if◌then◌else◌, List, [], ◌∷◌, length, Option, None, Some, option_map, option_and_then, MatchOption}
use Rattle.std.specs.List.{AllByRecursion, find, list_all, list_any}
use Rattle.std.specs.Option.{option_map_or}
use Rattle.jvm_code.specs.declared.class.Class.{Class}
use Rattle.jvm_code.specs.declared.class.Method.{Method}
use Rattle.jvm_code.specs.declared.class.Op.{Op}
use Rattle.jvm_code.specs.declared.types.Frame.{Frame}
use Rattle.jvm_code.specs.Instruction.{Instruction, is_linked, resolve}
use Rattle.jvm_code.specs.StackMaps.{AreFrames, first}
use Rattle.jvm_code.specs.Typing.{State, after, targets, goes_on, state_of, places, fits_state}

-- ---- frames

-- an instruction begins at that offset
abbrev pub is_start : List (ℕ × Op) → ℕ → Bool
is_start code pc = list_any (λ (i : ℕ × Op). nat_eq i.0 pc) code

-- no more places than the method has
abbrev pub has_room : Method → Frame → Bool
has_room m f = nat_le (length (places f.locals)) m.max_locals && nat_le (length (places f.stack)) m.max_stack

-- each frame stands where an instruction begins, and has room
abbrev pub are_placed : Method → List (ℕ × Frame) → Bool
are_placed m frames = list_all (λ (f : ℕ × Frame). is_start m.code f.0 && has_room m f.1) frames

-- the frames of a method: those of its `StackMapTable`, or none
pub record HasFrames (class : Class) (m : Method) (frames : List (ℕ × Frame)) : Type 0 where
  pub are : MatchOption m.maps (frames ≡ []) (λ maps. AreFrames class.pool maps.1 frames)
  pub placed : are_placed m frames ≡ true

abbrev pub NoFrames : Class → Method → Type 0
NoFrames class m = (frames : List (ℕ × Frame)) → HasFrames class m frames → ⊥

abbrev pub frame_at : List (ℕ × Frame) → ℕ → Option Frame
frame_at frames pc = option_map (λ (f : ℕ × Frame). f.1) (find (λ (f : ℕ × Frame). nat_eq f.0 pc) frames)

-- ---- code

-- what is wrong at an offset of a method's code
pub data CodeFault : Type 0 where
  NotTyped : (offset : ℕ) → CodeFault
  NotLinked : (offset : ℕ) → CodeFault

-- the state at an offset that has a frame, in a method of so many locals
abbrev pub listed : Method → List (ℕ × Frame) → ℕ → Option State
listed m frames pc = option_map (state_of m.max_locals) (frame_at frames pc)

-- the state at an instruction: that of its frame, which the state before fits, if control comes from there; without a
-- frame the state before
abbrev pub at_frame : Option State → Option State → Option State
at_frame before None = before
at_frame None (Some frame) = Some frame
at_frame (Some s) (Some frame) = if fits_state s frame then Some frame else None

-- a frame stands at the target, which the state fits
abbrev pub reaches : Method → List (ℕ × Frame) → State → ℤ → Bool
reaches m frames s (pos pc) = option_map_or (fits_state s) (listed m frames pc) false
reaches m frames s (negsuc n) = false

-- behind an instruction the stack is not too deep, each target is reached, and control does not run off the end
abbrev pub is_sound : Method → List (ℕ × Frame) → (is_last : Bool) → Instruction ℤ → State → Bool
is_sound m frames is_last i s =
    nat_le (length s.stack) m.max_stack && (list_all (reaches m frames s) (targets i) && not (goes_on i && is_last))

abbrev pub if_sound : Method → List (ℕ × Frame) → (is_last : Bool) → Instruction ℤ → State → Option State
if_sound m frames is_last i s = if is_sound m frames is_last i s then Some s else None

-- the state behind an instruction, where nothing is wrong with it
abbrev pub typed : Method → List (ℕ × Frame) → (is_last : Bool) → Option (Instruction ℤ) → Option State → Option State
typed m frames is_last None s = None
typed m frames is_last (Some i) s = option_and_then (if_sound m frames is_last i) (option_and_then (λ s. after s i) s)

-- the state with which the next instruction is come to, if control goes on
abbrev pub next : Option (Instruction ℤ) → State → Option State
next i s = if option_map_or goes_on i false then Some s else None

abbrev pub is_empty : {A : Type 0} → List A → Bool
is_empty [] = true
is_empty (x ∷ xs) = false

abbrev pub behind : ℕ → (State → Option CodeFault) → Option State → Option CodeFault
behind pc rest None = Some (NotTyped pc)
behind pc rest (Some s) = rest s

-- what is wrong first from an instruction on, which is come to with that state, if control comes from the one before
abbrev pub fault_from : Class → Method → List (ℕ × Frame) → List (ℕ × Op) → Option State → Option CodeFault
fault_from class m frames [] before = None
fault_from class m frames (i ∷ code) before =
    if is_linked class i.1
    then behind i.0 (λ s. fault_from class m frames code (next (resolve class i.0 i.1) s)) (typed m frames (is_empty code) (resolve class i.0 i.1) (at_frame before (listed m frames i.0)))
    else Some (NotLinked i.0)

-- the first fault of a method with these frames
abbrev pub code_fault : Class → Method → List (ℕ × Frame) → Option CodeFault
code_fault class m frames =
    if nat_lt m.max_locals 2 then Some (NotTyped 0) else fault_from class m frames m.code (Some (state_of m.max_locals first))

-- ---- classes

-- a method has frames, and nothing is wrong with its code
pub record IsSoundMethod (class : Class) (m : Method) : Type 0 where
  pub frames : List (ℕ × Frame)
  pub has : HasFrames class m frames
  pub fine : code_fault class m frames ≡ None

-- the class is typed and linked
abbrev pub IsVerified : Class → Type 0
IsVerified class = AllByRecursion (IsSoundMethod class) class.methods

-- what is wrong first with a class; methods count from 0, and offsets are those in their code
pub data Fault : Type 0 where
  BadMap : (method : ℕ) → Fault
  InCode : (method : ℕ) (fault : CodeFault) → Fault

pub record HasCodeFault (class : Class) (m : Method) (fault : CodeFault) : Type 0 where
  pub frames : List (ℕ × Frame)
  pub has : HasFrames class m frames
  pub found : code_fault class m frames ≡ Some fault

-- what is wrong with the method of that number
abbrev pub IsFaultOf : Class → Method → ℕ → Fault → Type 0
IsFaultOf class m at (BadMap method) = (method ≡ at) × NoFrames class m
IsFaultOf class m at (InCode method fault) = (method ≡ at) × HasCodeFault class m fault

-- of methods, the first of which has that number
abbrev pub FirstOf : Class → List Method → ℕ → Fault → Type 0
FirstOf class [] at fault = ⊥
FirstOf class (m ∷ methods) at fault = IsFaultOf class m at fault ⊎ (IsSoundMethod class m × FirstOf class methods (suc at) fault)

abbrev pub FirstFault : Class → Fault → Type 0
FirstFault class fault = FirstOf class class.methods 0 fault
