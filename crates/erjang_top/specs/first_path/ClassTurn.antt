-- What class code does: one instruction of a method (JVMS SE 7, chapter 6), a method's run to its answer, and one
-- turn of a process. It knows a byte offset and a table of instructions.
use Rattle.std.specs.Prelude.{ℕ, zero, suc, ℤ, pos, negsuc, ◌+◌, ◌-◌, ◌*◌, Bool, true, false, nat_eq, nat_lt, nat_le, ◌&&◌, if◌then◌else◌, List, [], ◌∷◌, ◌++◌, length, replicate, map, codes, slice_get, slice_set, unwrap_or, Option, None, Some}
use Rattle.std.specs.Option.{option_and_then, option_map}
use Rattle.std.specs.Str.{bytes_eq}
use Rattle.ej_term.specs.declared.class.Class3.{Class3}
use Rattle.ej_term.specs.declared.class.Class3.TheVariants.{Error, Exit, Throw}
use Rattle.ej_term.specs.Atoms.{is_plain}
use Rattle.ej_term.specs.Term.{Term, Atom, Nil}
use Rattle.ej_term.specs.Term as term
use Rattle.ej_term.specs.TermPrint.{print_atom}
use Rattle.asm_terms.specs.Quotes.{quoted}
use Rattle.erjang_top.specs.first_path.World.{Begin, Call, Event, Raise, Answer, Fault}
use Rattle.erjang_top.specs.first_path.Run.{Outcome, Runs, Waits, Ended, Turned, Code}
use Rattle.erjang_top.specs.first_path.Turn.{list_of, end_reason}
use Rattle.erjang_top.specs.first_path.ClassFile.{Op, IConst, SIPush, LdcW, Ldc2W, ALoad, AStore, Invoke, IReturn, Method, Class, op_bytes}
use Rattle.erjang_top.specs.first_path.ClassProfile.{Callee, callee_at, class_at, string_at, long_at}
use Rattle.erjang_top.specs.first_path.Linking.{text_at, is_runtime, is_own}
use Rattle.erjang_top.specs.Mangle.{class_name, method_name}
use Rattle.erjang_top.specs.first_path.Typing.{signature_of}

-- what a local or a place of the operand stack holds; a Long takes two places, its own and a Top behind it
pub data Value : Type 0 where
  Top : Value
  Int : (n : ℤ) → Value
  Long : (n : ℤ) → Value
  Null : Value
  OfTerm : (t : Term) → Value
  -- a string, by the bytes of its entry
  OfText : (text : List ℕ) → Value
  Proc : Value

-- a method of a class that a process is to enter, with the values that it finds there
pub record Goes : Type 0 where
  pub class : Class
  pub method : Method
  pub entry : ℕ
  pub entered : List Value

-- a saved frame: where it goes on, and the entry of its handler, if it has one
pub record Saved : Type 0 where
  pub goes : Goes
  pub handler : Option ℕ

-- what a process holds beside the method that runs: the entered values, the result, the pending exception, the target
-- of a call, and the saved frames, the latest first; and what its turn has shown so far. What no runtime method so far
-- writes stays as it began.
pub record Held : Type 0 where
  pub entered : List Value
  pub result : Option Term
  pub pending : Option (Class3 × Term)
  pub target : Option Goes
  pub frames : List Saved
  pub shown : List Event

abbrev pub nothing_held : List Value → Held
nothing_held entered = record { entered = entered; result = None; pending = None; target = None; frames = []; shown = [] }

-- a method that runs
pub record Activation : Type 0 where
  pub class : Class
  pub method : Method
  pub offset : ℕ
  pub locals : List Value
  -- its top first
  pub stack : List Value

abbrev pub term_or_null : Value → Value
term_or_null (OfTerm t) = OfTerm t
term_or_null _ = Null

-- the entered value at a place from 0, where there is a term, and else null
abbrev pub term_at : List Value → ℤ → Value
term_at values (pos n) = term_or_null (unwrap_or (slice_get values n) Null)
term_at values (negsuc n) = Null

-- what a runtime method made of its arguments: a fault, or what the process holds then and a value, if it gives one
pub data Called : Type 0 where
  Faulted : Called
  Gave : (held : Held) (value : Option Value) → Called

-- take: the entered value at a place
abbrev pub take : List Value → Held → Called
take (Proc ∷ Int at ∷ []) held = Gave held (Some (term_at held.entered at))
take _ held = Faulted

-- give: sets the result; null is a fault
abbrev pub give : List Value → Held → Called
give (Proc ∷ OfTerm t ∷ []) held = Gave (record held { result = Some t }) None
give _ held = Faulted

-- by its number
abbrev pub class_of : ℤ → Option Class3
class_of (pos n) = if nat_eq n 0 then Some Error else if nat_eq n 1 then Some Exit else if nat_eq n 2 then Some Throw else None
class_of (negsuc n) = None

abbrev pub raised : ℕ → Term → Held → Option Class3 → Called
raised me reason held None = Faulted
raised me reason held (Some class) = Gave (record held { pending = Some (class, reason); shown = held.shown ++ Raise me class reason ∷ [] }) None

-- raise: an exception of the class of that number is pending, and is seen
abbrev pub raise : ℕ → List Value → Held → Called
raise me (Proc ∷ Int class ∷ OfTerm reason ∷ []) held = raised me reason held (class_of class)
raise me _ held = Faulted

-- integer: that integer
abbrev pub integer : List Value → Held → Called
integer (Long n ∷ Top ∷ []) held = Gave held (Some (OfTerm (term.Int n)))
integer _ held = Faulted

-- what stands between quotes, with nothing behind them
abbrev pub whole : Option (List ℕ × List ℕ) → Option (List ℕ)
whole (Some (name, [])) = Some name
whole _ = None

-- the atom that a text spells between single quotes
abbrev pub quoted_atom : List ℕ → Option (List ℕ)
quoted_atom [] = None
quoted_atom (c ∷ cs) = if nat_eq c 39 then whole (quoted 39 cs) else None

-- the atom of that name, where the text is its print
abbrev pub printed_as : List ℕ → List ℕ → Option Term
printed_as text name = if bytes_eq (print_atom name) text then Some (Atom name) else None

-- the term with that canonical print, of atoms and nil; no other print is read so far
abbrev pub term_printed : List ℕ → Option Term
term_printed text =
    if is_plain text then Some (Atom text)
    else if bytes_eq text (codes "[]") then Some Nil
    else option_and_then (printed_as text) (quoted_atom text)

abbrev pub literal : Held → Option Term → Called
literal held None = Faulted
literal held (Some t) = Gave held (Some (OfTerm t))

-- lit: the term with that canonical print
abbrev pub lit : List Value → Held → Called
lit (OfText text ∷ []) held = literal held (term_printed text)
lit _ held = Faulted

-- the runtime method of a name, in that process
abbrev pub called : ℕ → List ℕ → List Value → Held → Called
called me name args held =
    if bytes_eq name (codes "take") then take args held
    else if bytes_eq name (codes "give") then give args held
    else if bytes_eq name (codes "raise") then raise me args held
    else if bytes_eq name (codes "integer") then integer args held
    else if bytes_eq name (codes "lit") then lit args held
    else Faulted

-- how many values a method takes, by its descriptor
abbrev pub count_of : List ℕ → ℕ
count_of descriptor = unwrap_or (option_map (λ signature. length signature.takes) (signature_of descriptor)) 0

-- so many values from the top of a stack, the deepest first, and the stack below them
abbrev pub split_stack : ℕ → List Value → Option (List Value × List Value)
split_stack zero stack = Some ([], stack)
split_stack (suc n) [] = None
split_stack (suc n) (v ∷ stack) = option_map (λ p. (p.0 ++ v ∷ [], p.1)) (split_stack n stack)

-- the instruction at an offset
abbrev pub op_at : List (ℕ × Op) → ℕ → Option Op
op_at [] offset = None
op_at (p ∷ code) offset = if nat_eq p.0 offset then Some p.1 else op_at code offset

-- a method that is entered: the process, the entry number, and locals that hold nothing
abbrev pub activation : Class → Method → ℕ → Activation
activation c m entry = record { class = c; method = m; offset = 0; locals = Proc ∷ Int (pos entry) ∷ replicate (m.max_locals - 2) Top; stack = [] }

abbrev pub is_reference : Value → Bool
is_reference Null = true
is_reference (OfTerm t) = true
is_reference (OfText text) = true
is_reference Proc = true
is_reference _ = false

-- on to the next instruction, with this stack
abbrev pub on_with : Activation → Op → List Value → Activation
on_with a op stack = record a { offset = a.offset + length (op_bytes op); stack = stack }

abbrev pub pushed : Option Value → List Value → List Value
pushed None stack = stack
pushed (Some v) stack = v ∷ stack

-- what one instruction comes to
pub data Stepped : Type 0 where
  -- the next instruction
  On : (a : Activation) (held : Held) → Stepped
  -- a method of the same class is entered, with its entry number, and the caller waits
  Enters : (method : Method) (entry : ℕ) (caller : Activation) → Stepped
  -- the method answers
  Answers : (status : ℤ) → Stepped
  -- no row: an operand is missing or of the wrong kind, or a runtime method is at fault
  Faults : Stepped

abbrev pub after_call : Activation → Op → List Value → Called → Stepped
after_call a op stack Faulted = Faults
after_call a op stack (Gave held value) = On (on_with a op (pushed value stack)) held

-- the method of that name in a class
abbrev pub method_of : Class → List ℕ → List Method → Option Method
method_of c name [] = None
method_of c name (m ∷ ms) = if bytes_eq (text_at c m.name) name then Some m else method_of c name ms

abbrev pub entered_own : Activation → Op → List Value × List Value → Option Method → Stepped
entered_own a op (Proc ∷ Int (pos entry) ∷ [], stack) (Some m) = Enters m entry (on_with a op stack)
entered_own a op _ _ = Faults

abbrev pub invoked : ℕ → Activation → Op → Held → Callee → List Value × List Value → Stepped
invoked me a op held callee values =
    if is_runtime callee then after_call a op values.1 (called me callee.name values.0 held)
    else if is_own a.class callee then entered_own a op values (method_of a.class callee.name a.class.methods)
    else Faults

abbrev pub or_fault : Option Stepped → Stepped
or_fault s = unwrap_or s Faults

abbrev pub loaded_local : Activation → Op → Held → Value → Stepped
loaded_local a op held v = if is_reference v then On (on_with a op (v ∷ a.stack)) held else Faults

abbrev pub stored_local : Activation → Op → Held → ℕ → List Value → Stepped
stored_local a op held local [] = Faults
stored_local a op held local (v ∷ stack) =
    if is_reference v && nat_lt local (length a.locals) then On (record (on_with a op stack) { locals = slice_set a.locals local v }) held else Faults

abbrev pub answered : List Value → Stepped
answered (Int status ∷ stack) = Answers status
answered _ = Faults

abbrev pub perform : ℕ → Activation → Held → Op → Stepped
perform me a held (IConst value) = On (on_with a (IConst value) (Int (pos value) ∷ a.stack)) held
perform me a held (SIPush value) = On (on_with a (SIPush value) (Int value ∷ a.stack)) held
perform me a held (LdcW index) = or_fault (option_map (λ text. On (on_with a (LdcW index) (OfText text ∷ a.stack)) held) (string_at a.class.pool index))
perform me a held (Ldc2W index) = or_fault (option_map (λ n. On (on_with a (Ldc2W index) (Top ∷ Long n ∷ a.stack)) held) (long_at a.class.pool index))
perform me a held (ALoad width local) = or_fault (option_map (loaded_local a (ALoad width local) held) (slice_get a.locals local))
perform me a held (AStore width local) = stored_local a (AStore width local) held local a.stack
perform me a held (Invoke index) =
    or_fault (option_and_then (λ callee. option_map (invoked me a (Invoke index) held callee) (split_stack (count_of callee.descriptor) a.stack)) (callee_at a.class.pool index))
perform me a held IReturn = answered a.stack

abbrev pub step : ℕ → Activation → Held → Stepped
step me a held = or_fault (option_map (perform me a held) (op_at a.method.code a.offset))

-- what a method's run comes to: its status, what the process then holds and how many instructions are left, or a fault
-- with what it held
pub data Ran : Type 0 where
  Status : (status : ℤ) (held : Held) (left : ℕ) → Ran
  Failed : (held : Held) → Ran

-- a turn has at most this many methods on its call stack
abbrev pub most_methods : ℕ
most_methods = 1024

-- what comes of a step, where `on` runs on with the instructions that are left
abbrev pub go : (Activation → List Activation → Held → Ran) → ℕ → List Activation → Held → Stepped → Ran
go on left callers held (On a held') = on a callers held'
go on left callers held (Enters method entry caller) =
    if nat_le (length callers + 2) most_methods then on (activation caller.class method entry) (caller ∷ callers) held else Failed held
go on left [] held (Answers status) = Status status held left
go on left (c ∷ callers) held (Answers status) = on (record c { stack = Int status ∷ c.stack }) callers held
go on left callers held Faults = Failed held

-- runs a method to its answer, with so many instructions left; one more than that is a fault
abbrev pub run_method : ℕ → ℕ → Activation → List Activation → Held → Ran
run_method me zero a callers held = Failed held
run_method me (suc left) a callers held = go (run_method me left) left callers held (step me a held)

-- a process: how it is to begin, or where it goes on and what it holds
pub data State : Type 0 where
  Begun : (how : Begin) → State
  At : (goes : Goes) (held : Held) → State

abbrev pub ended : List Event → Term → State → Turned State
ended events reason state = record { events = events; outcome = Ended reason; state = state }

-- code that is at fault ends its process
abbrev pub fault : ℕ → State → Held → Turned State
fault me state held = ended (held.shown ++ Fault me ∷ []) (Atom (codes "fault")) state

abbrev pub stays : Outcome → Goes → Held → Turned State
stays outcome goes held = record { events = held.shown; outcome = outcome; state = At goes (record held { shown = [] }) }

-- how a turn goes on after a transfer, from where and with what the process holds
abbrev pub Onward : Type 0
Onward = Goes → Held → Turned State

-- a transfer to the latest frame, which is taken off; with none the code is at fault
abbrev pub to_frame : ℕ → Onward → State → Held → List Saved → Turned State
to_frame me on before held [] = fault me before held
to_frame me on before held (f ∷ frames) = on f.goes (record held { frames = frames })

-- status 0: the result is returned, to the latest frame or as the process's own
abbrev pub on_returned : ℕ → Onward → State → Held → Option Term → List Saved → Turned State
on_returned me on before held None frames = fault me before held
on_returned me on before held (Some value) [] = ended (held.shown ++ Answer me value ∷ []) (Atom (codes "normal")) before
on_returned me on before held (Some value) (f ∷ frames) = to_frame me on before held (f ∷ frames)

-- status 1: the target is entered
abbrev pub on_called : ℕ → Onward → State → Held → Option Goes → Turned State
on_called me on before held None = fault me before held
on_called me on before held (Some target) = on target held

-- status 2: the latest frame is taken off, and the process waits there
abbrev pub on_waiting : ℕ → State → Held → List Saved → Turned State
on_waiting me before held [] = fault me before held
on_waiting me before held (f ∷ frames) = stays Waits f.goes (record held { frames = frames })

-- the frame's handler is entered, if it has one, and else what comes of the frames behind it
abbrev pub handled : Onward → Held → Saved → List Saved → Turned State → Option ℕ → Turned State
handled on held f frames further None = further
handled on held f frames further (Some entry) = on (record f.goes { entry = entry }) (record held { frames = frames })

-- status 4: frames are dropped to the first that has a handler, and with none the process ends by the exception
abbrev pub unwound : Onward → State → Held → Class3 × Term → List Saved → Turned State
unwound on before held exception [] = ended held.shown (end_reason exception.0 exception.1) before
unwound on before held exception (f ∷ frames) = handled on held f frames (unwound on before held exception frames) f.handler

abbrev pub on_raised : ℕ → Onward → State → Held → Option (Class3 × Term) → Turned State
on_raised me on before held None = fault me before held
on_raised me on before held (Some exception) = unwound on before held exception held.frames

-- what a status decides
abbrev pub by_status : ℕ → Onward → State → Held → ℤ → Turned State
by_status me on before held (negsuc n) = fault me before held
by_status me on before held (pos n) =
    if nat_eq n 0 then on_returned me on before held held.result held.frames
    else if nat_eq n 1 then on_called me on before held held.target
    else if nat_eq n 2 then on_waiting me before held held.frames
    else if nat_eq n 3 then to_frame me on before held held.frames
    else if nat_eq n 4 then on_raised me on before held held.pending
    else fault me before held

-- what comes of a method's run, where `on` goes on after a transfer with the instructions that are left
abbrev pub after_run : ℕ → (ℕ → Onward) → State → Ran → Turned State
after_run me on before (Status status held left) = by_status me (on left) before held status
after_run me on before (Failed held) = fault me before held

-- So many transfers: a method is entered where the process goes on, with so many instructions left, and its status
-- decides. After the last transfer the turn is over.
abbrev pub enter : ℕ → ℕ → ℕ → Goes → Held → Turned State
enter zero me left goes held = stays Runs goes held
enter (suc transfers) me left goes held =
    after_run me (λ left' goes' held'. enter transfers me left' goes' held') (At goes held)
    (run_method me left (activation goes.class goes.method goes.entry) [] (record held { entered = goes.entered }))

-- a turn of N transfers performs at most (N + 1) times this many instructions
abbrev pub instructions_each : ℕ
instructions_each = 131072

-- the class of a module's name
abbrev pub loaded : List ℕ → List Class → Option Class
loaded owner [] = None
loaded owner (c ∷ cs) = if bytes_eq (unwrap_or (class_at c.pool c.this) []) (class_name owner) then Some c else loaded owner cs

-- its public method for a function's name and arity
abbrev pub exported : Class → List ℕ → List Method → Option Method
exported c name [] = None
exported c name (m ∷ ms) = if bytes_eq (text_at c m.name) name && nat_eq m.flags 0x0009 then Some m else exported c name ms

-- where an external call enters: a class and its public method, at entry 0 with the arguments
abbrev pub resolved : List Class → List ℕ → List ℕ → List Term → Option Goes
resolved cs owner name args =
    option_and_then (λ c. option_map (λ m. record { class = c; method = m; entry = 0; entered = map (λ t. OfTerm t) args }) (exported c (method_name name (length args)) c.methods)) (loaded owner cs)

abbrev pub uncaught : ℕ → State → List ℕ → Turned State
uncaught me before reason = ended (Raise me Error (Atom reason) ∷ []) (end_reason Error (Atom reason)) before

-- a first turn performs the call that the process is to begin with; builtins and funs come with their methods
abbrev pub begin_at : ℕ → ℕ → State → Option Goes → Turned State
begin_at me transfers before None = uncaught me before (codes "undef")
begin_at me transfers before (Some goes) = enter transfers me ((transfers + 1) * instructions_each) goes (nothing_held goes.entered)

abbrev pub first_turn : List Class → ℕ → ℕ → Begin → Turned State
first_turn cs me transfers (Call (Atom owner) (Atom name) args) =
    unwrap_or (option_map (λ ts. begin_at me transfers (Begun (Call (Atom owner) (Atom name) args)) (resolved cs owner name ts)) (list_of args))
    (uncaught me (Begun (Call (Atom owner) (Atom name) args)) (codes "badarg"))
first_turn cs me transfers how = uncaught me (Begun how) (codes "badarg")

abbrev pub turn : List Class → ℕ → ℕ → State → Turned State
turn cs me transfers (Begun how) = first_turn cs me transfers how
turn cs me transfers (At goes held) = enter transfers me ((transfers + 1) * instructions_each) goes held

-- how many frames are saved
abbrev pub depth : State → ℕ
depth (Begun how) = 0
depth (At goes held) = length held.frames

-- the class code of some classes
abbrev pub jvm : List Class → Code State
jvm cs = record { begin = λ how. Begun how; turn = turn cs; depth = depth }
