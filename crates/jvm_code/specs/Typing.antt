-- The types of locals and operands before and after each instruction (JVMS SE 7, 4.10.1), over resolved instructions.
use Rattle.std.specs.Prelude.{ℕ, ◌-◌, Bool, true, false, nat_lt, ◌&&◌, if◌then◌else◌, List, [], ◌∷◌, ◌++◌, length, map, reverse, replicate, codes, slice_get, slice_set, Option, None, Some, option_map, option_and_then, unwrap_or}
use Rattle.std.specs.List.{flat_map}
use Rattle.jvm_code.specs.declared.types.VType.{VType}
use Rattle.jvm_code.specs.declared.types.VType.TheVariants as v
use Rattle.jvm_code.specs.declared.types.Frame.{Frame}
use Rattle.jvm_code.specs.Instruction.{Callee, Runtime, Own, Instruction, Null, Int, Str, Long, LoadInt, LoadReference, StoreInt, StoreReference, Pop, Dup, Swap, Add, Subtract, If, IfCompare, IfSame, IfNull, Goto, Table, Lookup, Return, Invoke}
use Rattle.jvm_code.specs.Runtime.{Runtime as Method, method_numbered}
use Rattle.jvm_code.specs.Signature.{Signature, own}
use Rattle.jvm_code.specs.Types.{assignable}

-- ---- states

-- the places of types: a Long takes two, its own and a Top behind it
abbrev pub places_of : VType → List VType
places_of v.Long = v.Long ∷ v.Top ∷ []
places_of t = t ∷ []

abbrev pub places : List VType → List VType
places types = flat_map places_of types

-- the types at the places of the locals, and at those of the operand stack from its top
pub record State : Type 0 where
  pub locals : List VType
  pub stack : List VType

-- the locals filled with Top up to so many
abbrev pub filled : ℕ → List VType → List VType
filled count locals = locals ++ replicate (count - length locals) v.Top

-- the state that a frame lists, in a method of so many locals
abbrev pub state_of : ℕ → Frame → State
state_of max_locals f = record { locals = filled max_locals (places f.locals); stack = reverse (places f.stack) }

abbrev pub all_assignable : List VType → List VType → Bool
all_assignable [] [] = true
all_assignable (a ∷ rest) (b ∷ others) = assignable a b && all_assignable rest others
all_assignable _ _ = false

-- a state may stand where another is wanted
abbrev pub fits_state : State → State → Bool
fits_state s t = all_assignable s.locals t.locals && all_assignable s.stack t.stack

-- ---- the operand stack

-- null and classes are references
abbrev pub is_reference : VType → Bool
is_reference v.Null = true
is_reference (v.Class name) = true
is_reference _ = false

-- neither a Long nor the place behind one
abbrev pub is_single : VType → Bool
is_single v.Long = false
is_single v.Top = false
is_single _ = true

-- the stack below a type that passes
abbrev pub popped : (VType → Bool) → List VType → Option (List VType)
popped test [] = None
popped test (t ∷ stack) = if test t then Some stack else None

abbrev pub is_int : VType → Bool
is_int v.Integer = true
is_int _ = false

abbrev pub popped_twice : (VType → Bool) → List VType → Option (List VType)
popped_twice test stack = option_and_then (popped test) (popped test stack)

-- the stack below these places, the last of which is on top
abbrev pub taken : List VType → List VType → Option (List VType)
taken [] stack = Some stack
taken (t ∷ wanted) [] = None
taken (t ∷ wanted) (s ∷ stack) = if assignable s t then taken wanted stack else None

-- ---- calls

abbrev pub signature_of : Callee → Option Signature
signature_of (Runtime number) = option_map (λ (m : Method). m.signature) (method_numbered number)
signature_of (Own name) = Some own

abbrev pub given : Option VType → List VType → List VType
given None stack = stack
given (Some t) stack = reverse (places_of t) ++ stack

abbrev pub called : Signature → List VType → Option (List VType)
called s stack = option_map (given s.gives) (taken (reverse (places s.takes)) stack)

-- ---- the locals

abbrev pub is_long : VType → Bool
is_long v.Long = true
is_long _ = false

abbrev pub type_at : List VType → ℕ → VType
type_at locals local = unwrap_or (slice_get locals local) v.Top

-- what is left of a Long whose second place is stored into is a Top
abbrev pub without_half : List VType → ℕ → List VType
without_half locals local = if nat_lt 0 local && is_long (type_at locals (local - 1)) then slice_set locals (local - 1) v.Top else locals

abbrev pub stored : List VType → ℕ → VType → Option (List VType)
stored locals local t = if nat_lt local (length locals) then Some (slice_set (without_half locals local) local t) else None

-- ---- the instructions

abbrev pub with_stack : State → List VType → State
with_stack s stack = record { locals = s.locals; stack = stack }

abbrev pub left : State → Option (List VType) → Option State
left s stack = option_map (with_stack s) stack

abbrev pub pushed : State → VType → Option State
pushed s t = Some (with_stack s (reverse (places_of t) ++ s.stack))

abbrev pub loaded : State → (VType → Bool) → VType → Option State
loaded s test t = if test t then pushed s t else None

-- the type on top, if it passes, goes into the local
abbrev pub moved : State → (VType → Bool) → ℕ → List VType → Option State
moved s test local [] = None
moved s test local (t ∷ stack) =
    if test t then option_map (λ locals. record { locals = locals; stack = stack }) (stored s.locals local t) else None

abbrev pub doubled : List VType → Option (List VType)
doubled [] = None
doubled (t ∷ stack) = if is_single t then Some (t ∷ t ∷ stack) else None

abbrev pub swapped : List VType → Option (List VType)
swapped (t ∷ u ∷ stack) = if is_single t && is_single u then Some (u ∷ t ∷ stack) else None
swapped _ = None

-- two integers to one
abbrev pub joined : List VType → Option (List VType)
joined stack = option_map (λ below. v.Integer ∷ below) (popped_twice is_int stack)

-- the state behind an instruction; none where the state before does not allow it
abbrev pub after : {T : Type 0} → State → Instruction T → Option State
after s Null = pushed s v.Null
after s (Int value) = pushed s v.Integer
after s (Str text) = pushed s (v.Class (codes "java/lang/String"))
after s (Long value) = pushed s v.Long
after s (LoadInt local) = loaded s is_int (type_at s.locals local)
after s (LoadReference local) = loaded s is_reference (type_at s.locals local)
after s (StoreInt local) = moved s is_int local s.stack
after s (StoreReference local) = moved s is_reference local s.stack
after s Pop = left s (popped is_single s.stack)
after s Dup = left s (doubled s.stack)
after s Swap = left s (swapped s.stack)
after s Add = left s (joined s.stack)
after s Subtract = left s (joined s.stack)
after s (If opcode to) = left s (popped is_int s.stack)
after s (IfCompare opcode to) = left s (popped_twice is_int s.stack)
after s (IfSame opcode to) = left s (popped_twice is_reference s.stack)
after s (IfNull null to) = left s (popped is_reference s.stack)
after s (Goto to) = Some s
after s (Table default low targets) = left s (popped is_int s.stack)
after s (Lookup default pairs) = left s (popped is_int s.stack)
after s Return = left s (popped is_int s.stack)
after s (Invoke callee) = left s (option_and_then (λ signature. called signature s.stack) (signature_of callee))

-- where control may go other than to the next instruction
abbrev pub targets : {T : Type 0} → Instruction T → List T
targets (If opcode to) = to ∷ []
targets (IfCompare opcode to) = to ∷ []
targets (IfSame opcode to) = to ∷ []
targets (IfNull null to) = to ∷ []
targets (Goto to) = to ∷ []
targets (Table default low others) = default ∷ others
targets (Lookup default pairs) = default ∷ map (λ p. p.1) pairs
targets _ = []

-- control may go to the next instruction
abbrev pub goes_on : {T : Type 0} → Instruction T → Bool
goes_on (Goto to) = false
goes_on (Table default low others) = false
goes_on (Lookup default pairs) = false
goes_on Return = false
goes_on _ = true
