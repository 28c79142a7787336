-- What the walk over a method's code does at an instruction.
use Rattle.std.specs.Prelude.{◌≡◌, ℕ, Bool, true, false, nat_le, ◌&&◌, not, length, map, Option, None, Some, is_some, Result, Ok, Err}
use Rattle.std.specs.Borrow.{Bor}
use Rattle.std.specs.List.{list_all}
use Rattle.jvm_code.specs.declared.class.Op.{Op}
use Rattle.jvm_code.specs.declared.class.Op.TheVariants as o
use Rattle.jvm_code.specs.Instruction.{is_linked, resolve, target}
use Rattle.jvm_code.specs.Typing.{State}
use Rattle.jvm_code.specs.Verification.{at_frame, listed, reaches, typed}
use Rattle.class_verifier.specs.declared.code_fault.CodeFault.{CodeFault}
use Rattle.class_verifier.specs.declared.code_fault.CodeFault.TheVariants as fault
use Rattle.class_verifier.specs.declared.links.Signature.{Signature}
use Rattle.class_verifier.specs.declared.scope.Scope.{Scope}
use Rattle.class_verifier.specs.OpParts.{offsets, goes_on}
use Rattle.class_verifier.specs.Told.{come}

-- an instruction calls what there is, by the signature of what is found for it
abbrev pub linked_by : Op → Option (Bor Signature) → Bool
linked_by (o.Invoke index) signature = is_some signature
linked_by _ signature = true

-- the state with which an instruction begins
abbrev pub before : Scope → Bool → ℕ → State → Option State
before scope comes pc s = at_frame (come comes s) (listed scope.method.now scope.frames pc)

-- the state behind an instruction that begins with such a state
abbrev pub behind : Scope → (is_last : Bool) → ℕ → Op → Option State → Option State
behind scope is_last pc op s = typed scope.method.now scope.frames is_last (resolve scope.class.now pc op) s

-- `is_sound`, by the instruction as it stands in the code
abbrev pub is_sound_at : Scope → (is_last : Bool) → ℕ → Op → State → Bool
is_sound_at scope is_last pc op s =
    nat_le (length s.stack) scope.method.now.max_stack
    && (list_all (reaches scope.method.now scope.frames s) (map (target pc) (offsets op)) && not (goes_on op && is_last))

-- the instruction is fit, with this state behind it, or else the fault is told; a want of memory is free
abbrev pub Stepped : Scope → ℕ → Op → Option State → Result (Unit {0}) CodeFault → State → Type 0
Stepped scope pc op behind (Ok _) new = (is_linked scope.class.now op ≡ true) × (behind ≡ Some new)
Stepped scope pc op behind (Err (fault.NotTyped offset)) new = (is_linked scope.class.now op ≡ true) × (behind ≡ None) × (offset ≡ pc)
Stepped scope pc op behind (Err (fault.NotLinked offset)) new = (is_linked scope.class.now op ≡ false) × (offset ≡ pc)
Stepped scope pc op behind (Err fault.NoMemory) new = Unit {0}
