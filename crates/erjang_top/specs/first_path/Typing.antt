-- The types of locals and operands at each instruction (JVMS SE 7, 4.10.1), for the instructions that are
-- written so far.
use Rattle.std.specs.Prelude.{ℕ, ◌-◌, Bool, true, false, nat_eq, nat_lt, nat_le, ◌&&◌, ◌||◌, if◌then◌else◌, List, [], ◌∷◌, ◌++◌, length, reverse, replicate, codes, slice_get, slice_set, Option, None, Some, unwrap_or, is_none}
use Rattle.std.specs.List.{list_all}
use Rattle.std.specs.Str.{bytes_eq}
use Rattle.std.specs.Option.{option_and_then, option_map}
use Rattle.erjang_top.specs.first_path.ClassFile.{Constant, Op, IConst, SIPush, LdcW, Ldc2W, ALoad, AStore, Invoke, IReturn, Method, Class}
use Rattle.erjang_top.specs.first_path.ClassProfile.{callee_at, string_at, long_at}

-- a verification type (4.10.1.2); a Long takes two places, its own and a Top behind it
pub data VType : Type 0 where
  Top : VType
  Integer : VType
  Long : VType
  Null : VType
  Object : (class : List ℕ) → VType

abbrev pub same_type : VType → VType → Bool
same_type Top Top = true
same_type Integer Integer = true
same_type Long Long = true
same_type Null Null = true
same_type (Object a) (Object b) = bytes_eq a b
same_type _ _ = false

-- Null and classes
abbrev pub is_reference : VType → Bool
is_reference Null = true
is_reference (Object class) = true
is_reference _ = false

-- each type to itself and Top, null to each class, each class to `java/lang/Object`
abbrev pub assignable : VType → VType → Bool
assignable a Top = true
assignable Null (Object class) = true
assignable (Object a) (Object b) = bytes_eq a b || bytes_eq b (codes "java/lang/Object")
assignable a b = same_type a b

abbrev pub all_assignable : List VType → List VType → Bool
all_assignable [] [] = true
all_assignable (a ∷ rest) (b ∷ others) = assignable a b && all_assignable rest others
all_assignable _ _ = false

-- the types of the locals, and of the operand stack from its top
pub record Frame : Type 0 where
  pub locals : List VType
  pub stack : List VType

abbrev pub frame_assignable : Frame → Frame → Bool
frame_assignable f g = all_assignable f.locals g.locals && all_assignable f.stack g.stack

-- the types that a method takes, in order, and the one that it gives
pub record Signature : Type 0 where
  pub takes : List VType
  pub gives : Option VType

abbrev pub put_first : VType → Option (List VType × List ℕ) → Option (List VType × List ℕ)
put_first t rest = option_map (λ p. (t ∷ p.0, p.1)) rest

-- a Long and the place behind it
abbrev pub put_long : Option (List VType × List ℕ) → Option (List VType × List ℕ)
put_long rest = put_first Long (put_first Top rest)

-- the types before a `)` and what stands behind it (4.3.3), where the characters so far of a class name, or
-- none, were read
abbrev pub types_in : Option (List ℕ) → List ℕ → Option (List VType × List ℕ)
types_in class [] = None
types_in None (c ∷ text) =
    if nat_eq c 41 then Some ([], text)
    else if nat_eq c 73 then put_first Integer (types_in None text)
    else if nat_eq c 74 then put_long (types_in None text)
    else if nat_eq c 76 then types_in (Some []) text
    else None
types_in (Some class) (c ∷ text) =
    if nat_eq c 59 then put_first (Object class) (types_in None text) else types_in (Some (class ++ c ∷ [])) text

abbrev pub only_type : List VType × List ℕ → Option (Option VType)
only_type (t ∷ [], []) = Some (Some t)
only_type _ = None

-- `V`, or a type
abbrev pub result_in : List ℕ → Option (Option VType)
result_in text = if bytes_eq text (codes "V") then Some None else option_and_then only_type (types_in None (text ++ codes ")"))

-- a method descriptor, `(`, types, `)` and a result
abbrev pub signature_of : List ℕ → Option Signature
signature_of [] = None
signature_of (c ∷ text) =
    if nat_eq c 40
    then option_and_then (λ p. option_map (λ gives. record { takes = p.0; gives = gives }) (result_in p.1)) (types_in None text)
    else None

-- the stack below these types, which are assignable to those that are taken, last on top
abbrev pub taken : List VType → List VType → Option (List VType)
taken [] stack = Some stack
taken (t ∷ wanted) [] = None
taken (t ∷ wanted) (s ∷ stack) = if assignable s t then taken wanted stack else None

abbrev pub given : Option VType → List VType → List VType
given None stack = stack
given (Some t) stack = t ∷ stack

-- the frame with this stack
abbrev pub with_stack : Frame → List VType → Frame
with_stack f stack = record { locals = f.locals; stack = stack }

-- a reference is popped into a local that there is; no local holds a Long so far
abbrev pub stored : Frame → ℕ → List VType → Option (Option Frame)
stored f local [] = None
stored f local (t ∷ stack) =
    if is_reference t && nat_lt local (length f.locals) then Some (Some (record { locals = slice_set f.locals local t; stack = stack })) else None

-- what an instruction leaves of the frame before it: nothing where no row applies, and no frame where it
-- does not go on to the next
abbrev pub leaves : List Constant → Op → Frame → Option (Option Frame)
leaves pool (IConst value) f = Some (Some (with_stack f (Integer ∷ f.stack)))
leaves pool (SIPush value) f = Some (Some (with_stack f (Integer ∷ f.stack)))
leaves pool (LdcW index) f = option_map (λ text. Some (with_stack f (Object (codes "java/lang/String") ∷ f.stack))) (string_at pool index)
leaves pool (Ldc2W index) f = option_map (λ value. Some (with_stack f (Top ∷ Long ∷ f.stack))) (long_at pool index)
leaves pool (AStore width local) f = stored f local f.stack
leaves pool (ALoad width local) f = option_and_then (λ t. if is_reference t then Some (Some (with_stack f (t ∷ f.stack))) else None) (slice_get f.locals local)
leaves pool (Invoke index) f =
    option_and_then (λ callee. option_and_then (λ signature. option_map (λ stack. Some (with_stack f (given signature.gives stack))) (taken (reverse signature.takes) f.stack)) (signature_of callee.descriptor)) (callee_at pool index)
leaves pool IReturn f = option_and_then (λ stack. Some None) (taken (Integer ∷ []) f.stack)

-- the frame of the map at an offset
abbrev pub frame_at : List (ℕ × Frame) → ℕ → Option Frame
frame_at [] offset = None
frame_at (m ∷ maps) offset = if nat_eq m.0 offset then Some m.1 else frame_at maps offset

-- the frame at an instruction: that of the map, to which the one before is assignable, or else the one before
abbrev pub standing : Option Frame → Option Frame → Option Frame
standing None before = before
standing (Some f) None = Some f
standing (Some f) (Some before) = if frame_assignable before f then Some f else None

abbrev pub within : ℕ → Option Frame → Bool
within max_stack None = true
within max_stack (Some f) = nat_le (length f.stack) max_stack

-- Each instruction has a row that applies, from the frame before it on, and control does not run off the end.
abbrev pub code_typed : List Constant → ℕ → List (ℕ × Frame) → Option Frame → List (ℕ × Op) → Bool
code_typed pool max_stack maps before [] = is_none before
code_typed pool max_stack maps before (p ∷ code) =
    unwrap_or (option_map (λ after. within max_stack after && code_typed pool max_stack maps after code)
    (option_and_then (leaves pool p.1) (standing (frame_at maps p.0) before))) false

-- the process, the entry number, and locals that hold nothing yet
abbrev pub first_frame : ℕ → Frame
first_frame max_locals = record { locals = Object (codes "erl/Proc") ∷ Integer ∷ replicate (max_locals - 2) Top; stack = [] }

-- the frames of a method's map (4.7.4): none where it has no map; no class that is written so far has one
abbrev pub frames_of : Option (ℕ × List ℕ) → Option (List (ℕ × Frame))
frames_of None = Some []
frames_of (Some maps) = None

abbrev pub method_typed : List Constant → Method → Bool
method_typed pool m =
    nat_le 2 m.max_locals
    && unwrap_or (option_map (λ maps. code_typed pool m.max_stack maps (Some (first_frame m.max_locals)) m.code) (frames_of m.maps)) false

-- each method is typed
abbrev pub typed : Class → Bool
typed c = list_all (method_typed c.pool) c.methods
