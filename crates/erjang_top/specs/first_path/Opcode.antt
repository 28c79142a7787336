-- The instructions that are read so far.
use Rattle.std.specs.Prelude.{ℕ, ℤ, Bool, true, false, List, Option, None, Some}
use Rattle.beam_code.specs.declared.instr.Instr.{Instr}
use Rattle.beam_code.specs.declared.operand.Reg.{Reg}
use Rattle.beam_code.specs.declared.operand.Reg.TheVariants as register
use Rattle.beam_code.specs.declared.operand.Src.{Src}
use Rattle.beam_code.specs.declared.operand.Src.TheVariants as source
use Rattle.beam_code.specs.Code.{opcode as opcode_of}
use Rattle.beam_code.specs.Opcode as code

-- a value that an instruction has in it
pub data Value : Type 0 where
  -- `{integer,I}`
  Integer : (number : ℤ) → Value
  -- `{atom,A}`
  Atom : (name : List ℕ) → Value
  -- `nil`
  Nil : Value

-- what is read: an x register, or a value
pub data Source : Type 0 where
  -- `{x,N}`
  X : (number : ℕ) → Source
  Of : (value : Value) → Source

pub data Opcode : Type 0 where
  -- `{label,n}`
  Label : (label : ℕ) → Opcode
  -- `{line,_}`
  Line : Opcode
  -- `{'%',_}`
  Comment : Opcode
  -- `{func_info,{atom,M},{atom,F},n}`
  FuncInfo : (owner name : List ℕ) (arity : ℕ) → Opcode
  -- `{move,S,{x,N}}`
  Move : (from : Source) (to : ℕ) → Opcode
  -- `return`
  Return : Opcode
  -- no instruction that is read so far
  Unknown : Opcode

-- an x register, an integer, an atom or nil
abbrev pub source_of : Src → Option Source
source_of (source.Reg (register.X n)) = Some (X n)
source_of (source.Int number) = Some (Of (Integer number))
source_of (source.Atom name) = Some (Of (Atom name))
source_of source.Nil = Some (Of Nil)
source_of _ = None

abbrev pub move_to : Option Source → ℕ → Opcode
move_to None to = Unknown
move_to (Some from) to = Move from to

abbrev pub move_of : Src → Reg → Opcode
move_of from (register.X to) = move_to (source_of from) to
move_of from (register.Y to) = Unknown

-- an instruction as one of those that are read so far
abbrev pub thin : code.Opcode → Opcode
thin (code.Label n) = Label n
thin code.Line = Line
thin code.Comment = Comment
thin (code.FuncInfo owner name arity) = FuncInfo owner name arity
thin (code.Move from to) = move_of from to
thin code.Return = Return
thin _ = Unknown

abbrev pub opcode : Instr → Opcode
opcode i = thin (opcode_of i)

abbrev pub is_known : Opcode → Bool
is_known Unknown = false
is_known _ = true
