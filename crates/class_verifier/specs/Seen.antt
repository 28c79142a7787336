-- What the verifier's own types stand for: verification types, and states of them.
use Rattle.std.specs.Prelude.{◌≡◌, Bool, List, map, reverse, Option, None, Some, if◌then◌else◌}
use Rattle.jvm_code.specs.declared.types.VType.{VType}
use Rattle.jvm_code.specs.declared.types.VType.TheVariants as v
use Rattle.jvm_code.specs.Typing.{State, is_int, is_reference, is_single}
use Rattle.class_verifier.specs.declared.state.State.{State as StateRef}
use Rattle.class_verifier.specs.declared.types.TypeRef.{TypeRef}
use Rattle.class_verifier.specs.declared.types.TypeRef.TheVariants as t
use Rattle.class_verifier.specs.declared.types.Wanted.{Wanted}
use Rattle.class_verifier.specs.declared.types.Wanted.TheVariants as w

abbrev pub type_seen : TypeRef → VType
type_seen t.Top = v.Top
type_seen t.Integer = v.Integer
type_seen t.Long = v.Long
type_seen t.Null = v.Null
type_seen (t.Class name) = v.Class name.now

-- types at places one behind another
abbrev pub types_seen : List TypeRef → List VType
types_seen types = map type_seen types

-- an operand stack from its top, which is the end of the list
abbrev pub stack_seen : List TypeRef → List VType
stack_seen types = reverse (types_seen types)

-- the stack is the one that is wanted, if it is told that there is one
abbrev pub Leaves : Option (List VType) → Bool → List TypeRef → Type 0
Leaves wanted told types = wanted ≡ (if told then Some (stack_seen types) else None)

-- the test of a type that an instruction takes
abbrev pub test_of : Wanted → VType → Bool
test_of w.Integer = is_int
test_of w.Reference = is_reference
test_of w.Single = is_single

abbrev pub state_seen : StateRef → State
state_seen s = record { locals = types_seen s.locals.items; stack = stack_seen s.stack.items }

-- the state is the one that is wanted, if it is told that there is one
abbrev pub Becomes : Option State → Bool → StateRef → Type 0
Becomes wanted told s = wanted ≡ (if told then Some (state_seen s) else None)
