-- Where control goes from an instruction, and what the slots then hold (OTP 24, `genop.tab`), a clause for each kind of
-- instruction. Reading a source takes a term; writing gives one.
use Rattle.std.specs.Prelude.{ℕ, zero, suc, ◌+◌, Bool, true, false, nat_eq, nat_lt, nat_le, ◌&&◌, ◌||◌, if◌then◌else◌, List, [], ◌∷◌, map, Option, None, Some, is_some, is_none, option_map, option_and_then, unwrap_or, encode_utf8_all}
use Rattle.std.specs.List.{list_all}
use Rattle.std.specs.Option.{option_map_or}
use Rattle.genop_table.specs.Builtins.{builtin_number, does_return}
use Rattle.beam_code.specs.declared.kind.Kind.{Kind}
use Rattle.beam_code.specs.declared.kind.Kind.TheVariants as k
use Rattle.beam_code.specs.declared.operand.Reg.{Reg}
use Rattle.beam_code.specs.declared.operand.Reg.TheVariants.{X, Y}
use Rattle.beam_code.specs.declared.operand.Src.{Src}
use Rattle.beam_code.specs.declared.operand.Src.TheVariants as source
use Rattle.beam_code.specs.declared.operand.TheConstants.{LAST_REGISTER}
use Rattle.beam_code.specs.declared.slot_state.TheConstants.{MOST_SLOTS}
use Rattle.beam_code.specs.Opcode.{Opcode, Callee, External, Fun, Apply, Body, Only, Last, Reserve, Bind, Use, Clear, Label, Line, Comment, FuncInfo, Move, Swap, Allocate, TestHeap, Deallocate, Trim, InitYregs, Call, Return, MakeFun2, MakeFun3, Send, Bif, PutList, PutTuple2, GetList, Get, SetTupleElement, PutMap, GetMapElements, Jump, SelectVal, SelectTupleArity, Test, TestArity, IsTaggedTuple, HasMapFields, LoopRec, RemoveMessage, Timeout, LoopRecEnd, Wait, WaitTimeout, RecvMarker, Try, TryEnd, TryCase, CatchEnd, Unmatches, IfEnd, Raise, RawRaise, BuildStacktrace}
use Rattle.beam_code.specs.Slots.{State, size, has_slot, changed, with_x, with_y, with_xs, nothing, arguments}

-- a label that control goes to, with the state in which it does
abbrev pub Way : Type 0
Way = ℕ × State

-- the state before the next instruction, where control falls through; the labels that the instruction goes to; and those
-- of the handlers of what it raises
pub record Flow : Type 0 where
  pub next : Option State
  pub goes : List Way
  pub raised : List Way

-- What slots hold.

abbrev pub is_term : Kind → Bool
is_term k.Term = true
is_term _ = false

abbrev pub is_optional : Kind → Bool
is_optional k.Term = true
is_optional k.OptTerm = true
is_optional _ = false

abbrev pub is_tag : Kind → Bool
is_tag (k.Tag labels) = true
is_tag _ = false

abbrev pub is_trace : Kind → Bool
is_trace k.Trace = true
is_trace _ = false

abbrev pub is_marker : Kind → Bool
is_marker k.Marker = true
is_marker _ = false

-- what `move` and `swap` take
abbrev pub is_moved : Kind → Bool
is_moved kind = is_term kind || is_trace kind || is_marker kind

-- the kind of a register, Undefined where the frame does not have it
abbrev pub kind_in : State → Reg → Kind
kind_in s (X n) = s.xs n
kind_in s (Y n) = if has_slot s n then s.ys n else k.Undefined

abbrev pub kind_of : State → Src → Kind
kind_of s (source.Reg r) = kind_in s r
kind_of s _ = k.Term

abbrev pub holds : State → Reg → Bool
holds s r = is_term (kind_in s r)

abbrev pub reads : State → Src → Bool
reads s from = is_term (kind_of s from)

abbrev pub reads_all : State → List Src → Bool
reads_all s sources = list_all (reads s) sources

abbrev pub reads_pairs : State → List (Src × Src) → Bool
reads_pairs s pairs = list_all (λ p. reads s p.0 && reads s p.1) pairs

-- the first n x registers hold terms
abbrev pub are_terms : State → ℕ → Bool
are_terms s zero = true
are_terms s (suc n) = are_terms s n && is_term (s.xs n)

-- a frame of that size
abbrev pub is_frame : Option ℕ → ℕ → Bool
is_frame None n = false
is_frame (Some size) n = nat_eq size n

-- What they hold afterwards.

-- an x register that there is, and a slot that the frame has
abbrev pub writes : Reg → Kind → State → Option State
writes (X n) kind s = if nat_le n LAST_REGISTER then Some (with_x n kind s) else None
writes (Y n) kind s = if has_slot s n then Some (with_y n kind s) else None

abbrev pub writes_terms : List Reg → State → Option State
writes_terms [] s = Some s
writes_terms (r ∷ rs) s = option_and_then (writes_terms rs) (writes r k.Term s)

-- the x registers from n on undefined
abbrev pub live : ℕ → State → State
live n s = with_xs (λ m. if nat_lt m n then s.xs m else k.Undefined) s

abbrev pub live_if : Option ℕ → State → State
live_if None s = s
live_if (Some n) s = live n s

-- a term in x0, every other x undefined
abbrev pub after_call : State → State
after_call s = with_xs (changed nothing 0 k.Term) s

abbrev pub cleared : State → State
cleared s = with_xs nothing s

-- a frame of that size with nothing in it
abbrev pub framed : ℕ → State → State
framed n s = record { frame = Some n; xs = s.xs; ys = nothing }

abbrev pub unframed : State → State
unframed s = record { frame = None; xs = s.xs; ys = nothing }

-- the first n slots of the frame gone, m left
abbrev pub trimmed : ℕ → ℕ → State → State
trimmed n m s = record { frame = Some m; xs = s.xs; ys = λ i. s.ys (n + i) }

-- What is raised.

-- a term or null in x0, every other x undefined
abbrev pub caught : State → State
caught s = with_xs (changed nothing 0 k.OptTerm) s

abbrev pub tag_labels : Kind → Option (List ℕ)
tag_labels (k.Tag labels) = Some labels
tag_labels _ = None

-- the labels of the lowest tag among that many y registers from a number on
abbrev pub lowest_tag : (ℕ → Kind) → ℕ → ℕ → List ℕ
lowest_tag ys at zero = []
lowest_tag ys at (suc left) = unwrap_or (tag_labels (ys at)) (lowest_tag ys (at + 1) left)

abbrev pub handlers : State → List ℕ
handlers s = lowest_tag s.ys 0 (size s)

abbrev pub all_ways : State → List ℕ → List Way
all_ways s labels = map (λ label. (label, s)) labels

abbrev pub raised_from : State → List Way
raised_from s = all_ways (caught s) (handlers s)

-- Where control goes.

-- it leaves the function
abbrev pub leaves : Flow
leaves = record { next = None; goes = []; raised = [] }

-- it falls through in that state
abbrev pub on : State → Flow
on s = record { next = Some s; goes = []; raised = [] }

-- it also may go to those labels in that state
abbrev pub going : List ℕ → State → Flow → Flow
going labels s f = record { next = f.next; goes = all_ways s labels; raised = f.raised }

-- it also may raise in that state
abbrev pub raising : State → Flow → Flow
raising s f = record { next = f.next; goes = f.goes; raised = raised_from s }

-- a failure goes to the label, and raises where that is 0
abbrev pub failing : ℕ → State → Flow → Flow
failing label s f = if nat_eq label 0 then raising s f else going (label ∷ []) s f

abbrev pub when : Bool → Flow → Option Flow
when b f = if b then Some f else None

-- it falls through, where the write can be done
abbrev pub onward : (Flow → Flow) → Bool → Option State → Option Flow
onward further b after = if b then option_map (λ t. further (on t)) after else None

abbrev pub plain : Flow → Flow
plain f = f

-- Calls.

-- how many x registers a call of that many arguments reads
abbrev pub read_by : Callee → ℕ → ℕ
read_by Fun n = n + 1
read_by Apply n = n + 2
read_by _ n = n

abbrev pub builtin_called : Callee → Option ℕ
builtin_called (External owner name arity) = builtin_number (encode_utf8_all owner) (encode_utf8_all name) arity
builtin_called _ = None

-- what is called may come back
abbrev pub comes_back : Callee → Bool
comes_back callee = option_map_or does_return (builtin_called callee) true

-- a call that comes back behind the instruction
abbrev pub call : Callee → ℕ → State → Option Flow
call callee n s =
    when (are_terms s (read_by callee n) && (is_some s.frame || is_some (builtin_called callee)))
    (raising s (if comes_back callee then on (after_call s) else leaves))

-- Tags.

abbrev pub has_tag : State → ℕ → Bool
has_tag s n = is_tag (kind_in s (Y n))

-- class, reason and trace of the exception
abbrev pub exception : ℕ → Kind
exception = changed (changed (changed nothing 0 k.Term) 1 k.Term) 2 k.Trace

abbrev pub try_case : State → Flow
try_case s = raising s (on (with_xs exception s))

-- Each instruction.
unfoldable pub flow : Opcode → State → Option Flow
flow (Label label) s = Some (on s)
flow Line s = Some (on s)
flow Comment s = Some (on s)
flow (FuncInfo owner name arity) s = Some (raising s leaves)
flow (Move from to) s = onward plain (is_moved (kind_of s from)) (writes to (kind_of s from) s)
flow (Swap one other) s =
    onward plain (is_moved (kind_in s one) && is_moved (kind_in s other))
    (option_and_then (writes other (kind_in s one)) (writes one (kind_in s other) s))
flow (Allocate n m) s = when (is_none s.frame && nat_le n MOST_SLOTS) (on (framed n (live m s)))
flow (TestHeap m) s = Some (on (live m s))
flow (Deallocate n) s = when (is_frame s.frame n) (on (unframed s))
flow (Trim n m) s = when (is_frame s.frame (n + m)) (on (trimmed n m s))
flow (InitYregs registers) s = onward plain true (writes_terms registers s)
flow (Call callee n Body) s = call callee n s
flow (Call callee n Only) s = when (are_terms s (read_by callee n) && is_none s.frame) leaves
flow (Call callee n (Last size)) s = when (are_terms s (read_by callee n) && is_frame s.frame size) leaves
flow Return s = when (is_none s.frame && is_term (s.xs 0)) leaves
flow (MakeFun2 entry free) s = when (are_terms s free) (on (after_call s))
flow (MakeFun3 entry to free) s = onward plain (reads_all s free) (writes to k.Term s)
flow Send s = when (are_terms s 2) (raising s (on (after_call s)))
flow (Bif builtin fail m arguments to) s = onward (failing fail (live_if m s)) (reads_all s arguments) (writes to k.Term (live_if m s))
flow (PutList head tail to) s = onward plain (reads s head && reads s tail) (writes to k.Term s)
flow (PutTuple2 to elements) s = onward plain (reads_all s elements) (writes to k.Term s)
flow (GetList from head tail) s = onward (raising s) (holds s from) (writes_terms (head ∷ tail ∷ []) s)
flow (Get piece from to) s = onward (raising s) (holds s from) (writes to k.Term s)
flow (SetTupleElement value tuple place) s = onward (raising s) (reads s value && holds s tuple) (writes tuple k.Term s)
flow (PutMap update fail from to pairs) s = onward (failing fail s) (reads s from && reads_pairs s pairs) (writes to k.Term s)
flow (GetMapElements fail from gets) s =
    onward (going (fail ∷ []) s) (reads s from && reads_all s (map (λ g. g.0) gets)) (writes_terms (map (λ g. g.1) gets) s)
flow (Jump label) s = Some (going (label ∷ []) s leaves)
flow (SelectVal value fail cases) s = when (reads s value) (going (fail ∷ map (λ c. c.1) cases) s leaves)
flow (SelectTupleArity tuple fail cases) s = when (reads s tuple) (going (fail ∷ map (λ c. c.1) cases) s leaves)
flow (Test test fail arguments) s = when (reads_all s arguments) (going (fail ∷ []) s (on s))
flow (TestArity tuple fail size) s = when (reads s tuple) (going (fail ∷ []) s (on s))
flow (IsTaggedTuple tuple fail size tag) s = when (reads s tuple) (going (fail ∷ []) s (on s))
flow (HasMapFields fail from keys) s = when (reads s from && reads_all s keys) (going (fail ∷ []) s (on s))
flow (LoopRec fail to) s = onward (going (fail ∷ []) s) true (writes to k.Term s)
flow RemoveMessage s = Some (on s)
flow Timeout s = Some (on s)
flow (LoopRecEnd label) s = Some (going (label ∷ []) s leaves)
flow (Wait label) s = Some (going (label ∷ []) (cleared s) leaves)
flow (WaitTimeout label timeout) s = when (reads s timeout) (raising s (going (label ∷ []) (cleared s) (on (cleared s))))
flow (RecvMarker (Reserve to)) s = onward plain true (writes to k.Marker s)
flow (RecvMarker (Bind marker reference)) s = when (is_marker (kind_in s marker) && holds s reference) (on s)
flow (RecvMarker (Use reference)) s = when (holds s reference) (on s)
flow (RecvMarker (Clear reference)) s = when (holds s reference) (on s)
flow (Try slot handler) s = onward plain true (writes (Y slot) (k.Tag (handler ∷ [])) s)
flow (TryEnd slot) s = when (has_tag s slot) (on (with_y slot k.Undefined s))
flow (TryCase slot) s = when (has_tag s slot && is_optional (s.xs 0)) (try_case (with_y slot k.Undefined s))
flow (CatchEnd slot) s = when (has_tag s slot && is_optional (s.xs 0)) (on (after_call (with_y slot k.Undefined s)))
flow (Unmatches reason value) s = when (reads s value) (raising s leaves)
flow IfEnd s = Some (raising s leaves)
flow (Raise trace reason) s = when (is_trace (kind_in s trace) && reads s reason) (raising s leaves)
flow RawRaise s = when (are_terms s 2 && is_trace (s.xs 2)) (raising s (on (with_x 0 k.Term s)))
flow BuildStacktrace s = when (is_trace (s.xs 0)) (on (with_x 0 k.Term s))
