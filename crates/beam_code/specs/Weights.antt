-- What a function weighs under an assignment of slot states: an upper bound on the bytes of the method that it becomes.
-- The numbers are this project's own.
use Rattle.std.specs.Prelude.{ℕ, zero, suc, ◌+◌, ◌-◌, ◌*◌, ◌^◌, min, Bool, true, false, not, nat_eq, nat_lt, ◌&&◌, ◌||◌, if◌then◌else◌, List, [], ◌∷◌, ◌++◌, map, length, Option, None, is_some, is_none}
use Rattle.std.specs.List.{list_any, filter, flat_map, sum}
use Rattle.std.specs.Option.{option_map_or}
use Rattle.beam_code.specs.declared.kind.Kind.{Kind}
use Rattle.beam_code.specs.declared.kind.Kind.TheVariants.{Tag}
use Rattle.beam_code.specs.Code.{FunctionCode}
use Rattle.beam_code.specs.Flow.{is_tag, builtin_called}
use Rattle.beam_code.specs.Good.{Assignment, next_state}
use Rattle.beam_code.specs.Labels.{is_in, defined_by, defined_in, with_label, failure}
use Rattle.beam_code.specs.Opcode.{Opcode, Callee, Local, Body, Head, Tail, Element, Reserve, FuncInfo, Move, Swap, Trim, InitYregs, Call, Return, MakeFun2, MakeFun3, Send, Bif, PutList, PutTuple2, GetList, Get, SetTupleElement, PutMap, GetMapElements, Jump, SelectVal, SelectTupleArity, Test, TestArity, IsTaggedTuple, HasMapFields, LoopRec, RemoveMessage, Timeout, LoopRecEnd, Wait, WaitTimeout, RecvMarker, Try, TryEnd, TryCase, CatchEnd, Unmatches, IfEnd, Raise, RawRaise, BuildStacktrace}
use Rattle.beam_code.specs.SlotForm.{is_undefined}
use Rattle.beam_code.specs.Slots.{State, size}

-- Slots that are not undefined.

-- among the first n registers
abbrev pub defined_among : (ℕ → Kind) → ℕ → ℕ
defined_among kinds zero = 0
defined_among kinds (suc n) = defined_among kinds n + (if is_undefined (kinds n) then 0 else 1)

abbrev pub defined_ys : State → ℕ
defined_ys s = defined_among s.ys (size s)

-- there are 1,024 x registers
abbrev pub defined_slots : State → ℕ
defined_slots s = defined_among s.xs 1024 + defined_ys s

-- of a state, and 0 where it is not reached
abbrev pub if_reached : (State → ℕ) → Option State → ℕ
if_reached count before = option_map_or count before 0

abbrev pub undefined_ys : State → ℕ
undefined_ys s = size s - defined_ys s

abbrev pub any_among : (Kind → Bool) → (ℕ → Kind) → ℕ → Bool
any_among test kinds zero = false
any_among test kinds (suc n) = any_among test kinds n || test (kinds n)

abbrev pub has_any_tag : State → Bool
has_any_tag s = any_among is_tag s.ys (size s)

-- a tag of more than one label
abbrev pub is_wide_tag : Kind → Bool
is_wide_tag (Tag labels) = nat_lt 1 (length labels)
is_wide_tag _ = false

abbrev pub has_wide_tag : State → Bool
has_wide_tag s = any_among is_wide_tag s.ys (size s)

-- The weights of instructions; q is the number of y registers that are not undefined before it.

abbrev pub callee_weight : Callee → ℕ
callee_weight (Local label) = 96
callee_weight _ = 128

abbrev pub call_weight : Callee → ℕ → ℕ → ℕ
call_weight callee n q = if is_some (builtin_called callee) then 48 + 8 * n else callee_weight callee + 12 * n + 24 * q

abbrev pub own_weight : Opcode → ℕ → ℕ
own_weight (FuncInfo owner name arity) q = 32
own_weight (Move from to) q = 10
own_weight (Swap one other) q = 16
own_weight (Trim dropped left) q = 8 * left
own_weight (InitYregs registers) q = 10 * length registers
own_weight (Call callee n Body) q = call_weight callee n q
own_weight (Call callee n kind) q = 64 + 12 * n
own_weight Return q = 16
own_weight (MakeFun2 entry free) q = 32 + 10 * free
own_weight (MakeFun3 entry to free) q = 32 + 10 * length free
own_weight Send q = 40
own_weight (Bif builtin fail live arguments to) q = 24 + 8 * length arguments
own_weight (PutList head tail to) q = 22
own_weight (PutTuple2 to elements) q = 12 + 10 * length elements
own_weight (GetList from head tail) q = 56
own_weight (Get Head from to) q = 32
own_weight (Get Tail from to) q = 32
own_weight (Get (Element place) from to) q = 40
own_weight (SetTupleElement value tuple place) q = 48
own_weight (PutMap update fail from to pairs) q = 40 + 20 * length pairs
own_weight (GetMapElements fail from gets) q = 16 + 40 * length gets
own_weight (Jump label) q = 5
own_weight (SelectVal value fail cases) q = 24 + 20 * length cases
own_weight (SelectTupleArity tuple fail cases) q = 24 + 20 * length cases
own_weight (Test test fail arguments) q = 32
own_weight (TestArity tuple fail n) q = 32
own_weight (IsTaggedTuple tuple fail n tag) q = 32
own_weight (HasMapFields fail from keys) q = 16 + 20 * length keys
own_weight (LoopRec fail to) q = 24
own_weight RemoveMessage q = 8
own_weight Timeout q = 8
own_weight (LoopRecEnd label) q = 8
own_weight (Wait label) q = 8
own_weight (WaitTimeout label timeout) q = 64
own_weight (RecvMarker (Reserve to)) q = 8
own_weight (Try slot handler) q = 8
own_weight (TryEnd slot) q = 4
own_weight (TryCase slot) q = 48
own_weight (CatchEnd slot) q = 24
own_weight (Unmatches reason value) q = 56
own_weight IfEnd q = 32
own_weight (Raise trace reason) q = 32
own_weight RawRaise q = 40
own_weight BuildStacktrace q = 16
own_weight _ q = 0

-- The charges.

-- the labels that a branch names, each as often as it does; `wait`, `try` and their kin are no branches
abbrev pub branch_labels : Opcode → List ℕ
branch_labels (Bif builtin fail live arguments to) = failure fail
branch_labels (PutMap update fail from to pairs) = failure fail
branch_labels (GetMapElements fail from gets) = fail ∷ []
branch_labels (Jump label) = label ∷ []
branch_labels (SelectVal value fail cases) = fail ∷ map (λ c. c.1) cases
branch_labels (SelectTupleArity tuple fail cases) = fail ∷ map (λ c. c.1) cases
branch_labels (Test test fail arguments) = fail ∷ []
branch_labels (TestArity tuple fail n) = fail ∷ []
branch_labels (IsTaggedTuple tuple fail n tag) = fail ∷ []
branch_labels (HasMapFields fail from keys) = fail ∷ []
branch_labels (LoopRec fail to) = fail ∷ []
branch_labels (LoopRecEnd label) = label ∷ []
branch_labels _ = []

-- the labels at which an instruction has the function entered again
abbrev pub entered_labels : Opcode → List ℕ
entered_labels (Wait label) = label ∷ []
entered_labels (WaitTimeout label timeout) = label ∷ []
entered_labels (Try slot handler) = handler ∷ []
entered_labels _ = []

-- a call whose weight goes by q
abbrev pub saves : Opcode → Bool
saves (Call callee n Body) = is_none (builtin_called callee)
saves _ = false

-- an instruction that may raise
abbrev pub may_raise : Opcode → Bool
may_raise (FuncInfo owner name arity) = true
may_raise (Call callee n Body) = true
may_raise Send = true
may_raise (Bif builtin fail live arguments to) = nat_eq fail 0
may_raise (GetList from head tail) = true
may_raise (Get piece from to) = true
may_raise (SetTupleElement value tuple place) = true
may_raise (PutMap update fail from to pairs) = nat_eq fail 0
may_raise (WaitTimeout label timeout) = true
may_raise (TryCase slot) = true
may_raise (Unmatches reason value) = true
may_raise IfEnd = true
may_raise (Raise trace reason) = true
may_raise RawRaise = true
may_raise _ = false

abbrev pub waits : Opcode → Bool
waits (Wait label) = true
waits (WaitTimeout label timeout) = true
waits _ = false

abbrev pub waits_so_long : Opcode → Bool
waits_so_long (WaitTimeout label timeout) = true
waits_so_long _ = false

abbrev pub one_if : Bool → ℕ
one_if b = if b then 1 else 0

-- an instruction in its place: the state before it, if it is reached, and the labels before it but that of `func_info`
pub record Place : Type 0 where
  pub opcode : Opcode
  pub before : Option State
  pub labels : List ℕ

abbrev pub is_handled : Place → Bool
is_handled p = may_raise p.opcode && option_map_or has_any_tag p.before false

-- the labels of a branch that stand at or before it
abbrev pub branches_back : Place → List ℕ
branches_back p = filter (is_in p.labels) (branch_labels p.opcode)

-- how often the instruction has to go on at an entry: at each label back, at a handler, and after a wait
abbrev pub reentries : Place → ℕ
reentries p = length (branches_back p) + one_if (is_handled p && not (saves p.opcode)) + one_if (waits p.opcode)

abbrev pub slots_before : Place → ℕ
slots_before p = if_reached defined_slots p.before

-- in a function with a tag of more than one label, 8 for each undefined y register whenever what the frame holds is saved
abbrev pub wide_charge : Bool → Place → ℕ
wide_charge wide p =
    if wide then 8 * if_reached undefined_ys p.before * (reentries p + one_if (is_handled p && saves p.opcode)) else 0

abbrev pub charge : Bool → Place → ℕ
charge wide p =
    reentries p * (32 + 8 * slots_before p)
    + (if waits_so_long p.opcode then 32 + 12 * slots_before p else 0)
    + wide_charge wide p

abbrev pub weight_at : Bool → Place → ℕ
weight_at wide p = own_weight p.opcode (if_reached defined_ys p.before) + charge wide p

-- The function.

-- code with the state before each instruction, and the labels before it
abbrev pub places_from : Assignment → List ℕ → Option State → List Opcode → List Place
places_from at labels before [] = []
places_from at labels before (o ∷ code) =
    record { opcode = o; before = before; labels = labels }
    ∷ places_from at (with_label labels (defined_by o)) (next_state at o before) code

-- a function begins with the label of its `func_info`
abbrev pub places_of : Assignment → List Opcode → List Place
places_of at [] = []
places_of at (info ∷ code) = record { opcode = info; before = None; labels = [] } ∷ places_from at [] (next_state at info None) code

-- the labels at which the function is entered again
abbrev pub entry_labels : Assignment → List Opcode → List ℕ
entry_labels at code = flat_map entered_labels code ++ flat_map branches_back (places_of at code)

abbrev pub entry_weight : Assignment → List ℕ → ℕ → ℕ
entry_weight at entries label = if is_in entries label then 32 + 12 * if_reached defined_slots (at label) else 0

-- some state has a tag of more than one label
abbrev pub is_wide : Assignment → List Opcode → Bool
is_wide at code = list_any (λ label. option_map_or has_wide_tag (at label) false) (defined_in code)

abbrev pub whole_weight : Assignment → FunctionCode → ℕ
whole_weight at f =
    64 + 12 * f.arity
    + sum (map (weight_at (is_wide at f.code)) (places_of at f.code))
    + sum (map (entry_weight at (entry_labels at f.code)) (defined_in f.code))

-- a number of 64 bits stays at its end
abbrev pub saturated : ℕ → ℕ
saturated n = min n (2 ^ 64 - 1)

abbrev pub weight : Assignment → FunctionCode → ℕ
weight at f = saturated (whole_weight at f)
