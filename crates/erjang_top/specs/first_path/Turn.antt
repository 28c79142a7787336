-- What BEAM code does: one instruction, one turn, and how a process begins (OTP 24, `genop.tab`; Erlang Reference
-- Manual, "Errors and Error Handling" and "Processes"). It knows the instructions as one flat list, in which labels are
-- searched.
use Rattle.std.specs.Prelude.{ℕ, zero, suc, ◌+◌, ◌-◌, ◌*◌, Bool, false, nat_eq, if◌then◌else◌, List, [], ◌∷◌, length, map, sum, codes, slice_get, unwrap_or, Option, None, Some}
use Rattle.std.specs.Option.{option_and_then, option_map}
use Rattle.std.specs.List.{flat_map}
use Rattle.std.specs.Str.{bytes_eq}
use Rattle.ej_term.specs.declared.class.Class3.{Class3}
use Rattle.ej_term.specs.declared.class.Class3.TheVariants.{Error, Exit, Throw}
use Rattle.ej_term.specs.Term.{Term, Int, Atom, Nil, Cons, tuple}
use Rattle.erjang_top.specs.first_path.World.{Begin, Call, Raise, Answer}
use Rattle.erjang_top.specs.first_path.Run.{Outcome, Runs, Waits, Ended, Turned, Code}
use Rattle.beam_code.specs.declared.module.Function.{Function}
use Rattle.beam_code.specs.declared.module.Module.{Module}
use Rattle.beam_code.specs.Keys.{is_among, key_of, same_key}
use Rattle.erjang_top.specs.first_path.LabelRules.{opcodes}
use Rattle.erjang_top.specs.first_path.Opcode.{Value, Integer, Source, X, Of, Opcode, Label, Line, Comment, FuncInfo, Move, Return, Unknown}
use Rattle.erjang_top.specs.first_path.Opcode as code

-- the instructions of a module, one function after the other
abbrev pub instructions : Module → List Opcode
instructions m = flat_map opcodes m.functions

abbrev pub is_label : ℕ → Opcode → Bool
is_label n (Label k) = nat_eq n k
is_label n _ = false

-- the place of a label, counted from this number on
abbrev pub place_of : ℕ → ℕ → List Opcode → Option ℕ
place_of n at [] = None
place_of n at (i ∷ code) = if is_label n i then Some at else place_of n (at + 1) code

-- the y registers of a frame, by their numbers
abbrev pub Frame : Type 0
Frame = List (Option Term)

-- a caller that waits for a return: where it goes on, and its frame
pub record Caller : Type 0 where
  pub owner : Module
  pub place : ℕ
  pub frame : Option Frame

-- a process within a function: the module whose code it is in, the place of its next instruction, the x registers, the
-- frame or none, and the callers, the latest first
pub record Machine : Type 0 where
  pub owner : Module
  pub place : ℕ
  pub xs : ℕ → Option Term
  pub frame : Option Frame
  pub callers : List Caller

-- what one instruction comes to
pub data Next : Type 0 where
  -- the next place, with no transfer
  Goes : (m : Machine) → Next
  -- a transfer: here a return to a caller
  Transfers : (m : Machine) → Next
  Raises : (class : Class3) (reason : Term) → Next
  -- the process's first function returned
  Returns : (value : Term) → Next
  -- no row holds: accepted modules never come to this
  Stuck : Next

abbrev pub next_place : Machine → Machine
next_place m = record m { place = m.place + 1 }

-- x0 alone
abbrev pub only_x0 : Term → ℕ → Option Term
only_x0 value n = if nat_eq n 0 then Some value else None

abbrev pub return_to : List Caller → Term → Next
return_to [] value = Returns value
return_to (c ∷ callers) value = Transfers (record { owner = c.owner; place = c.place; xs = only_x0 value; frame = c.frame; callers = callers })

abbrev pub answer : List Caller → Option Term → Next
answer callers None = Stuck
answer callers (Some value) = return_to callers value

-- the term that an instruction has in it
abbrev pub term_of : Value → Term
term_of (Integer number) = Int number
term_of (code.Atom name) = Atom name
term_of code.Nil = Nil

-- what a source holds
abbrev pub read : Machine → Source → Option Term
read m (X n) = m.xs n
read m (Of value) = Some (term_of value)

abbrev pub write : Machine → ℕ → Option Term → Next
write m to None = Stuck
write m to (Some value) = Goes (record (next_place m) { xs = λ n. if nat_eq n to then Some value else m.xs n })

abbrev pub act : Option Opcode → Machine → Next
act (Some (Label n)) m = Goes (next_place m)
act (Some Line) m = Goes (next_place m)
act (Some Comment) m = Goes (next_place m)
act (Some (FuncInfo owner name arity)) m = Raises Error (Atom (codes "function_clause"))
act (Some (Move from to)) m = write m to (read m from)
act (Some Return) m = answer m.callers (m.xs 0)
act (Some Unknown) m = Stuck
act None m = Stuck

abbrev pub step : Machine → Next
step m = act (slice_get (instructions m.owner) m.place) m

-- a process: how it is to begin, or where it is
pub data State : Type 0 where
  Begun : (how : Begin) → State
  At : (m : Machine) → State

-- the reason with which an exception ends a process that does not catch it
abbrev pub end_reason : Class3 → Term → Term
end_reason Error reason = tuple (reason ∷ Nil ∷ [])
end_reason Throw value = tuple (tuple (Atom (codes "nocatch") ∷ value ∷ []) ∷ Nil ∷ [])
end_reason Exit reason = reason

-- an exception that nothing catches: there are no tags so far
abbrev pub uncaught : ℕ → State → Class3 → Term → Turned State
uncaught me state class reason = record { events = Raise me class reason ∷ []; outcome = Ended (end_reason class reason); state = state }

abbrev pub returned : ℕ → State → Term → Turned State
returned me state value = record { events = Answer me value ∷ []; outcome = Ended (Atom (codes "normal")); state = state }

-- a turn that goes on, waits or has no row, with no events
abbrev pub stays : Outcome → Machine → Turned State
stays outcome m = record { events = []; outcome = outcome; state = At m }

-- what a turn makes of a step, where `on` goes on from a machine with so many transfers left
abbrev pub go : (ℕ → Machine → Turned State) → ℕ → ℕ → Machine → Next → Turned State
go on me left m (Goes next) = on left next
go on me left m (Transfers next) = if nat_eq left 1 then stays Runs next else on (left - 1) next
go on me left m (Raises class reason) = uncaught me (At m) class reason
go on me left m (Returns value) = returned me (At m) value
go on me left m Stuck = stays Waits m

-- at most so many steps, with so many transfers left, until the process ends, waits or has made the last transfer
abbrev pub walk : ℕ → ℕ → ℕ → Machine → Turned State
walk zero me left m = stays Waits m
walk (suc steps) me left m = go (walk steps me) me left m (step m)

-- Between two transfers a turn goes forward in its function, so it makes no more steps than there are instructions,
-- and one more for each transfer.
abbrev pub most_steps : List Module → ℕ → ℕ
most_steps ms transfers = (transfers + 1) * (sum (map (λ m. length (instructions m)) ms) + 2)

-- the terms of a proper list
abbrev pub list_of : Term → Option (List Term)
list_of Nil = Some []
list_of (Cons head tail) = option_map (λ ts. head ∷ ts) (list_of tail)
list_of _ = None

-- where a call of an exported function enters: at its entry label, with the arguments in the first x registers
abbrev pub machine_at : Module → List Term → ℕ → Machine
machine_at m args place = record { owner = m; place = place; xs = λ n. slice_get args n; frame = None; callers = [] }

abbrev pub entry_of : List ℕ × ℕ → List Function → Option ℕ
entry_of key [] = None
entry_of key (f ∷ fs) = if same_key key (key_of f) then Some f.entry else entry_of key fs

-- the function of that name with as many arguments, where the module exports it
abbrev pub enters : Module → List ℕ → List Term → Option Machine
enters m name args =
    if is_among m.exports (name, length args)
    then option_map (machine_at m args) (option_and_then (λ entry. place_of entry 0 (instructions m)) (entry_of (name, length args) m.functions))
    else None

-- the loaded module of that name
abbrev pub loaded : List ℕ → List Module → Option Module
loaded name [] = None
loaded name (m ∷ ms) = if bytes_eq m.name name then Some m else loaded name ms

-- an external call: a function that is loaded and exported is entered, and else `undef` is raised. The builtins, and
-- the modules that have them, come with their table.
abbrev pub resolved : List Module → List ℕ → List ℕ → List Term → Option Machine
resolved ms owner name args = option_and_then (λ m. enters m name args) (loaded owner ms)

abbrev pub enter : List Module → ℕ → ℕ → State → Option Machine → Turned State
enter ms me transfers before None = uncaught me before Error (Atom (codes "undef"))
enter ms me transfers before (Some m) = walk (most_steps ms transfers) me transfers m

abbrev pub bad_call : ℕ → State → Turned State
bad_call me before = uncaught me before Error (Atom (codes "badarg"))

-- a first turn performs the call that the process is to begin with; funs come with their instructions
abbrev pub first_turn : List Module → ℕ → ℕ → Begin → Turned State
first_turn ms me transfers (Call (Atom owner) (Atom name) args) =
    unwrap_or (option_map (λ ts. enter ms me transfers (Begun (Call (Atom owner) (Atom name) args)) (resolved ms owner name ts)) (list_of args))
    (bad_call me (Begun (Call (Atom owner) (Atom name) args)))
first_turn ms me transfers how = bad_call me (Begun how)

abbrev pub turn : List Module → ℕ → ℕ → State → Turned State
turn ms me transfers (Begun how) = first_turn ms me transfers how
turn ms me transfers (At m) = walk (most_steps ms transfers) me transfers m

abbrev pub depth : State → ℕ
depth (Begun how) = 0
depth (At m) = length m.callers

-- the BEAM code of some modules
abbrev pub beam : List Module → Code State
beam ms = record { begin = λ how. Begun how; turn = turn ms; depth = depth }
