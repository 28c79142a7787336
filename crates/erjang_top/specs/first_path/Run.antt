-- Runs of a code, choice by choice.
use Rattle.std.specs.Prelude.{ℕ, ◌+◌, ◌^◌, Bool, true, false, nat_lt, if◌then◌else◌, List, [], ◌∷◌, ◌++◌, length, slice_get, slice_set, Option, None, Some}
use Rattle.ej_term.specs.Term.{Term, Atom, list}
use Rattle.erjang_top.specs.first_path.World.{Begin, Call, Choice, Start, Run, Event, Exit, Turn, Idle, Ready}
use Rattle.erjang_top.specs.first_path.World as event

-- how a turn left its process: it goes on, it waits for a message, or it ended with a reason
pub data Outcome : Type 0 where
  Runs : Outcome
  Waits : Outcome
  Ended : (reason : Term) → Outcome

-- what a turn did: its events in order, its outcome, and the state after it
pub record Turned (S : Type 0) : Type 0 where
  pub events : List Event
  pub outcome : Outcome
  pub state : S

-- what a machine brings: how a process begins, what a turn of so many transfers does as that process, and how many
-- callers wait for a return
pub record Code (S : Type 0) : Type 0 where
  pub begin : Begin → S
  pub turn : (me transfers : ℕ) → S → Turned S
  pub depth : S → ℕ

pub data Status : Type 0 where
  Running : Status
  Waiting : Status
  Done : Status

pub record Process (S : Type 0) : Type 0 where
  pub status : Status
  pub state : S

-- the processes by their numbers, from 0
pub record World (S : Type 0) : Type 0 where
  pub processes : List (Process S)

-- no process number reaches this
abbrev pub last_pid : ℕ
last_pid = 2 ^ 62

abbrev pub is_ready : Status → Bool
is_ready Running = true
is_ready Waiting = false
is_ready Done = false

-- the ready processes among those from a number on
abbrev pub ready_from : {S : Type 0} → ℕ → List (Process S) → List ℕ
ready_from pid [] = []
ready_from pid (p ∷ ps) = if is_ready p.status then pid ∷ ready_from (pid + 1) ps else ready_from (pid + 1) ps

abbrev pub status_after : Outcome → Status
status_after Runs = Running
status_after Waits = Waiting
status_after (Ended reason) = Done

-- what is seen of a process's end
abbrev pub end_events : ℕ → Outcome → List Event
end_events pid (Ended reason) = Exit pid reason ∷ []
end_events pid _ = []

-- how deep a process is after a turn; one that ended has no callers
abbrev pub depth_after : {S : Type 0} → Code S → Outcome → S → ℕ
depth_after code (Ended reason) state = 0
depth_after code _ state = code.depth state

-- the events of a choice, and the world after it
pub record Chosen (S : Type 0) : Type 0 where
  pub events : List Event
  pub world : World S

-- a turn of a process
abbrev pub ran : {S : Type 0} → Code S → World S → ℕ → Turned S → Chosen S
ran code w pid t = record {
  events = t.events ++ end_events pid t.outcome ++ Turn pid (depth_after code t.outcome t.state) ∷ [];
  world = record { processes = slice_set w.processes pid (record { status = status_after t.outcome; state = t.state }) };
}

abbrev pub nothing : {S : Type 0} → World S → Chosen S
nothing w = record { events = Idle ∷ []; world = w }

abbrev pub run_process : {S : Type 0} → Code S → World S → ℕ → ℕ → Option (Process S) → Chosen S
run_process code w pid transfers None = nothing w
run_process code w pid transfers (Some p) = if is_ready p.status then ran code w pid (code.turn pid transfers p.state) else nothing w

-- the process that a start makes
abbrev pub started : {S : Type 0} → Code S → World S → Begin → Chosen S
started code w how =
    if nat_lt (length w.processes) last_pid
    then record { events = event.Start (length w.processes) how ∷ []; world = record { processes = w.processes ++ record { status = Running; state = code.begin how } ∷ [] } }
    else nothing w

abbrev pub choose : {S : Type 0} → Code S → World S → Choice → Chosen S
choose code w (Start module' name args) = started code w (Call (Atom module') (Atom name) (list args))
choose code w (Run pid transfers) = run_process code w pid transfers (slice_get w.processes pid)

-- the events of the choices from a world on, each choice closed by the ready processes
abbrev pub run_from : {S : Type 0} → Code S → World S → List Choice → List Event
run_from code w [] = []
run_from code w (c ∷ cs) =
    let r = choose code w c in r.events ++ Ready (ready_from 0 r.world.processes) ∷ run_from code r.world cs

abbrev pub empty_world : {S : Type 0} → World S
empty_world = record { processes = [] }

-- the events of a script, from the empty world
abbrev pub run : {S : Type 0} → Code S → List Choice → List Event
run code script = run_from code empty_world script
