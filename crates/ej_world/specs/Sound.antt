-- What holds of each system that a run of a lawful code comes to.
use Rattle.std.specs.Prelude.{◌≡◌, ℕ, ◌+◌, ◌<◌, ◌≤◌, ◌⊎◌, false, List, [], ◌∷◌, length, Option, None, Some}
use Rattle.ej_world.specs.Choices.{System, holds}
use Rattle.ej_world.specs.Lawful.{RisingBelow, States, Kept}
use Rattle.ej_world.specs.World.{Process, Queue, next_pid, limit}

-- the deadline of a timer is at most 4294967295 past the last time of the clock
abbrev pub IsTimer : Option ℕ → Type 0
IsTimer None = Unit {0}
IsTimer (Some deadline) = deadline ≤ limit + 4294967295

-- a process of that number, where all numbers of processes are below the bound
pub record SoundProcess (bound number : ℕ) (p : Process) : Type 0 where
  pub links : RisingBelow bound p.links
  pub not_itself : holds p.links number ≡ false
  pub save : p.save ≤ length p.messages
  pub timer : IsTimer p.timer

-- processes, the first of which has that number, and their states
abbrev pub SoundAll : {S : Type 0} → States S → (bound number : ℕ) → List Process → List S → Type 0
SoundAll IsState bound number [] [] = Unit {0}
SoundAll IsState bound number (p ∷ ps) (s ∷ states) = SoundProcess bound number p × Kept IsState p.status s × SoundAll IsState bound (number + 1) ps states
SoundAll IsState bound number _ _ = ⊥

-- signals are on their way between processes alone
abbrev pub SoundQueue : (bound : ℕ) → Queue → Type 0
SoundQueue bound queue = (from to : ℕ) → (queue from to ≡ []) ⊎ ((from < bound) × (to < bound))

pub record Sound {S : Type 0} (IsState : States S) (r : System S) : Type 0 where
  pub clock : r.world.clock ≤ limit
  pub pids : next_pid r.world ≤ limit
  pub refs : r.world.next_ref ≤ limit
  pub processes : SoundAll IsState (next_pid r.world) 0 r.world.processes r.states
  pub queue : SoundQueue (next_pid r.world) r.world.queue
