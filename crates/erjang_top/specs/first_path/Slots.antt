-- Which slots hold what at each place: slot states, and good assignments of states to labels.
use Rattle.std.specs.Prelude.{◌≡◌, ℕ, zero, suc, ◌+◌, true, nat_eq, nat_lt, if◌then◌else◌, List, [], ◌∷◌, Option, None, Some, MatchOption, unwrap_or}
use Rattle.std.specs.List.{list_any, list_all}
use Rattle.std.specs.Option.{option_map}
use Rattle.beam_code.specs.declared.module.Function.{Function}
use Rattle.erjang_top.specs.first_path.LabelRules.{opcodes}
use Rattle.erjang_top.specs.first_path.Opcode.{Source, X, Of, Opcode, Label, Line, Comment, FuncInfo, Move, Return, Unknown}

-- what a slot holds: nothing that is known, a term, a term or null, the tag of a `try` or `catch` with the
-- labels of its handlers, a trace, or the marker of a receive
pub data Kind : Type 0 where
  Undefined : Kind
  Term : Kind
  OptTerm : Kind
  Tag : (labels : List ℕ) → Kind
  Trace : Kind
  Marker : Kind

-- a frame, none or of a size, and the kind of each x and y
pub record State : Type 0 where
  pub frame : Option ℕ
  pub xs : ℕ → Kind
  pub ys : ℕ → Kind

-- A kind is below itself; a term is below what may be a term; a tag is below tags with more labels alone; all
-- else is below Undefined.
abbrev pub BelowKind : Kind → Kind → Type 0
BelowKind Undefined Undefined = Unit {0}
BelowKind Term Term = Unit {0}
BelowKind Term OptTerm = Unit {0}
BelowKind Term Undefined = Unit {0}
BelowKind OptTerm OptTerm = Unit {0}
BelowKind OptTerm Undefined = Unit {0}
BelowKind (Tag few) (Tag many) = list_all (λ n. list_any (nat_eq n) many) few ≡ true
BelowKind Trace Trace = Unit {0}
BelowKind Trace Undefined = Unit {0}
BelowKind Marker Marker = Unit {0}
BelowKind Marker Undefined = Unit {0}
BelowKind _ _ = ⊥

-- the frames agree, and each kind is below the other's
pub record Below (a b : State) : Type 0 where
  pub frame : a.frame ≡ b.frame
  pub xs : (n : ℕ) → BelowKind (a.xs n) (b.xs n)
  pub ys : (n : ℕ) → BelowKind (a.ys n) (b.ys n)

-- a state for each label, or none where it is not reached
abbrev pub Assignment : Type 0
Assignment = ℕ → Option State

-- the state goes to that label
abbrev pub GoesTo : Assignment → State → ℕ → Type 0
GoesTo at state label = MatchOption (at label) ⊥ (Below state)

abbrev pub tag_labels : Kind → Option (List ℕ)
tag_labels (Tag labels) = Some labels
tag_labels _ = None

-- the labels of the lowest-numbered tag among the y slots from a place on
abbrev pub lowest_tag : (ℕ → Kind) → ℕ → ℕ → List ℕ
lowest_tag ys at zero = []
lowest_tag ys at (suc left) = unwrap_or (tag_labels (ys at)) (lowest_tag ys (at + 1) left)

abbrev pub handlers : State → List ℕ
handlers s = lowest_tag s.ys 0 (unwrap_or s.frame 0)

-- where an exception is caught: the same frame, x0 a term or null, every other x undefined
abbrev pub caught : State → State
caught s = record { frame = s.frame; xs = λ n. if nat_eq n 0 then OptTerm else Undefined; ys = s.ys }

abbrev pub GoToEach : Assignment → State → List ℕ → Type 0
GoToEach at s [] = Unit {0}
GoToEach at s (label ∷ labels) = GoesTo at s label × GoToEach at s labels

-- an instruction that may raise: each label of the lowest tag gets the state in which the exception is caught
abbrev pub MayRaise : Assignment → State → Type 0
MayRaise at s = GoToEach at (caught s) (handlers s)

-- what a source holds
abbrev pub kind_of : State → Source → Kind
kind_of s (X n) = s.xs n
kind_of s (Of value) = Term

-- terms, traces and markers alone are moved
abbrev pub IsMoved : Kind → Type 0
IsMoved Term = Unit {0}
IsMoved Trace = Unit {0}
IsMoved Marker = Unit {0}
IsMoved _ = ⊥

-- the state with that kind in an x register
abbrev pub with_x : ℕ → Kind → State → State
with_x to kind s = record { frame = s.frame; xs = λ n. if nat_eq n to then kind else s.xs n; ys = s.ys }

-- what an instruction's row asks of the state before it
abbrev pub Holds : Assignment → State → Opcode → Type 0
Holds at s (Label n) = GoesTo at s n
Holds at s Line = Unit {0}
Holds at s Comment = Unit {0}
Holds at s (FuncInfo owner name arity) = MayRaise at s
Holds at s (Move from to) = IsMoved (kind_of s from)
Holds at s Return = (s.frame ≡ None) × (s.xs 0 ≡ Term)
Holds at s Unknown = ⊥

-- the state before the next instruction, none where it is not reached from this one
abbrev pub after : Assignment → Option State → Opcode → Option State
after at before (Label n) = at n
after at before (FuncInfo owner name arity) = None
after at before (Move from to) = option_map (λ s. with_x to (kind_of s from) s) before
after at before Return = None
after at before _ = before

-- Each reached instruction's row holds from the state before it, and the last does not fall through.
abbrev pub Walk : Assignment → Option State → List Opcode → Type 0
Walk at before [] = before ≡ None
Walk at before (i ∷ code) = MatchOption before (Unit {0}) (λ s. Holds at s i) × Walk at (after at before i) code

-- a call enters with no frame, its arguments terms and every other x undefined
abbrev pub entry_state : ℕ → State
entry_state arity = record { frame = None; xs = λ n. if nat_lt n arity then Term else Undefined; ys = λ n. Undefined }

pub record Good (f : Function) (at : Assignment) : Type 0 where
  pub enters : GoesTo at (entry_state f.arity) f.entry
  pub walks : Walk at None (opcodes f)

-- a good assignment exists
abbrev pub WellSlotted : Function → Type 0
WellSlotted f = (at : Assignment) × Good f at
