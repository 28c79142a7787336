-- A code as a running system keeps it: the state of a process is given back when the process ends.
use Rattle.std.specs.Prelude.{ℕ, [], Option, None, Some}
use Rattle.ej_world.specs.Choices.{View, Outcome, Waits, Ends, Turned, Code}
use Rattle.ej_world.specs.Lawful.{States}

-- what is kept of a state behind a turn
abbrev pub left : {S : Type 0} → Outcome → S → Option S
left (Ends reason) s = None
left _ s = Some s

abbrev pub freed_after : {S : Type 0} → Turned S → Turned (Option S)
freed_after t = record { events = t.events; outcome = t.outcome; view = t.view; state = left t.outcome t.state }

-- a process without a state does nothing
abbrev pub freed_turn : {S : Type 0} → Code S → (transfers : ℕ) → View → Option S → Turned (Option S)
freed_turn code transfers v None = record { events = []; outcome = Waits; view = v; state = None }
freed_turn code transfers v (Some s) = freed_after (code.turn transfers v s)

abbrev pub freed_depth : {S : Type 0} → Code S → Option S → ℕ
freed_depth code None = 0
freed_depth code (Some s) = code.depth s

abbrev pub freed : {S : Type 0} → Code S → Code (Option S)
freed code = record { begin = λ how. Some (code.begin how); turn = freed_turn code; depth = freed_depth code }

-- a process that has not ended has its state
abbrev pub IsFreed : {S : Type 0} → States S → States (Option S)
IsFreed IsState status None = ⊥
IsFreed IsState status (Some s) = IsState status s
