-- The signal that an event puts on its way.
use Rattle.std.specs.Prelude.{◌≡◌, ℕ, Option, None, Some}
use Rattle.ej_world.specs.declared.event.Event.{Event}
use Rattle.ej_world.specs.World as world
use Rattle.ej_world.specs.World.{Queue, with_signal}
use Rattle.term_heap.specs.declared.cell.TermId.{TermId}
use Rattle.term_heap.specs.declared.heap.Heap.{Heap}
use Rattle.proc_sched.specs.declared.signal.Signal.{Signal}
use Rattle.proc_sched.specs.Seen.{event_of}
use Rattle.proc_sched.specs.Stands.{signal_of, HoldsSignal}

-- the signal goes behind those of its pair, or there is none
abbrev pub Sends : Heap → Event TermId → Option ((ℕ × ℕ) × Signal) → Type 0
Sends heap e None = (queue : Queue) → with_signal (event_of heap e) queue ≡ queue
Sends heap e (Some ((from, to), s)) = HoldsSignal heap s × ((queue : Queue) → with_signal (event_of heap e) queue ≡ world.put from to (signal_of heap s) queue)
