-- What a script chooses, and what is seen of it. The kinds of choices and events that a single process does not
-- meet come with signals.
use Rattle.std.specs.Prelude.{ℕ, List}
use Rattle.ej_term.specs.declared.class.Class3.{Class3}
use Rattle.ej_term.specs.Term.{Term}

-- how a process begins: by the external call of a module's function with a list of arguments, or by the call of a fun
pub data Begin : Type 0 where
  Call : (module' name args : Term) → Begin
  Fun : (function : Term) → Begin

pub data Choice : Type 0 where
  -- makes the next process, which begins by that call
  Start : (module' name : List ℕ) (args : List Term) → Choice
  -- one turn of at most so many transfers, where the process is ready
  Run : (pid transfers : ℕ) → Choice

pub data Event : Type 0 where
  -- a process began
  Start : (pid : ℕ) (how : Begin) → Event
  -- an exception was raised, caught or not
  Raise : (pid : ℕ) (class : Class3) (reason : Term) → Event
  -- its first function returned that term
  Answer : (pid : ℕ) (value : Term) → Event
  -- it ended with that reason
  Exit : (pid : ℕ) (reason : Term) → Event
  -- its code is at fault; a class machine's alone
  Fault : (pid : ℕ) → Event
  -- closes each run choice that performed a turn: how many callers wait for a return
  Turn : (pid depth : ℕ) → Event
  -- there was nothing to do
  Idle : Event
  -- closes each choice: the ready processes in order
  Ready : (pids : List ℕ) → Event
