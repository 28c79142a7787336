-- What the slots of a function hold at a place of its code: kinds, states, and which of them are below others.
use Rattle.std.specs.Prelude.{◌≡◌, ℕ, Bool, true, false, nat_eq, nat_lt, if◌then◌else◌, List, get_or, Option, None, Some, unwrap_or}
use Rattle.std.specs.List.{list_all}
use Rattle.beam_code.specs.declared.kind.Kind.{Kind}
use Rattle.beam_code.specs.declared.kind.Kind.TheVariants.{Undefined, Term, OptTerm, Tag, Trace, Marker}
use Rattle.beam_code.specs.declared.slot_state.SlotState.{SlotState}
use Rattle.beam_code.specs.Labels.{is_in}

-- a frame, none or of a size, and the kind of each x and each y register
pub record State : Type 0 where
  pub frame : Option ℕ
  pub xs : ℕ → Kind
  pub ys : ℕ → Kind

-- A kind is below itself; a term is below what may be a term; a tag is below tags with more labels and below nothing
-- else; every kind but a tag is below Undefined.
abbrev pub below_kind : Kind → Kind → Bool
below_kind (Tag few) (Tag many) = list_all (is_in many) few
below_kind (Tag few) _ = false
below_kind Undefined Undefined = true
below_kind Term Term = true
below_kind Term OptTerm = true
below_kind Term Undefined = true
below_kind OptTerm OptTerm = true
below_kind OptTerm Undefined = true
below_kind Trace Trace = true
below_kind Trace Undefined = true
below_kind Marker Marker = true
below_kind Marker Undefined = true
below_kind _ _ = false

-- the frames agree, and each kind is below the other's
pub record Below (a b : State) : Type 0 where
  pub frame : a.frame ≡ b.frame
  pub xs : (n : ℕ) → below_kind (a.xs n) (b.xs n) ≡ true
  pub ys : (n : ℕ) → below_kind (a.ys n) (b.ys n) ≡ true

-- what is not reached is below every state
abbrev pub BelowIfReached : Option State → Option State → Type 0
BelowIfReached None b = Unit {0}
BelowIfReached (Some a) None = ⊥
BelowIfReached (Some a) (Some b) = Below a b

-- the kinds that are listed, and Undefined for all others
abbrev pub listed : List Kind → ℕ → Kind
listed kinds n = get_or kinds n Undefined

abbrev pub state_of : SlotState → State
state_of s = record { frame = s.frame; xs = listed s.xs; ys = listed s.ys }

-- Reading.

abbrev pub size : State → ℕ
size s = unwrap_or s.frame 0

-- the frame has that slot
abbrev pub has_slot : State → ℕ → Bool
has_slot s n = nat_lt n (size s)

-- Writing.

abbrev pub changed : (ℕ → Kind) → ℕ → Kind → ℕ → Kind
changed kinds at kind n = if nat_eq n at then kind else kinds n

abbrev pub with_x : ℕ → Kind → State → State
with_x at kind s = record { frame = s.frame; xs = changed s.xs at kind; ys = s.ys }

abbrev pub with_y : ℕ → Kind → State → State
with_y at kind s = record { frame = s.frame; xs = s.xs; ys = changed s.ys at kind }

-- every slot undefined
abbrev pub nothing : ℕ → Kind
nothing n = Undefined

abbrev pub with_xs : (ℕ → Kind) → State → State
with_xs xs s = record { frame = s.frame; xs = xs; ys = s.ys }

-- the first n registers terms, every other undefined
abbrev pub arguments : ℕ → ℕ → Kind
arguments n m = if nat_lt m n then Term else Undefined

-- a function is entered with its arguments and no frame
abbrev pub entry_state : ℕ → State
entry_state arity = record { frame = None; xs = arguments arity; ys = nothing }
