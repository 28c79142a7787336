-- What the delivery of a signal does (Erlang Reference Manual, "Processes", "Receiving Exit Signals").
use Rattle.std.specs.Prelude.{ℕ, Bool, true, false, nat_eq, not, ◌&&◌, if◌then◌else◌, List, [], ◌∷◌, codes, slice_get, Option, None, Some}
use Rattle.std.specs.List.{filter, list_any}
use Rattle.std.specs.Str.{bytes_eq}
use Rattle.ej_term.specs.Term.{Term, Atom, Pid, tuple}
use Rattle.ej_world.specs.World.{Signal, Message, Link, Exit, Process, World, Queue, Change, is_live, taken, with_process, with_links, with_message, ends}
use Rattle.ej_world.specs.declared.event.Event.TheVariants as event

abbrev pub is_atom : List ℕ → Term → Bool
is_atom name (Atom other) = bytes_eq other name
is_atom name _ = false

-- the message that a process gets which traps exits
abbrev pub exit_message : (node from : ℕ) → (reason : Term) → Term
exit_message node from reason = tuple (Atom (codes "EXIT") ∷ Pid node from ∷ reason ∷ [])

abbrev pub dropped : World → (from to : ℕ) → Change
dropped w from to = record { events = event.Dropped from to ∷ []; world = w }

-- a message goes to the end of the mailbox of a process
abbrev pub appended : World → (from to : ℕ) → Process → Term → Change
appended w from to q message = record { events = event.Deliver from to message ∷ []; world = with_process w to (with_message q message) }

-- a signal ends the process
abbrev pub hit : World → (from to : ℕ) → Process → (reason : Term) → Change
hit w from to q reason =
    let ended = ends w to q reason in record { events = event.Hit from to reason ∷ ended.events; world = ended.world }

-- an exit signal to a live process: the first rule that applies
abbrev pub exits : World → (from to : ℕ) → Process → (by_exit : Bool) → (reason : Term) → Change
exits w from to q by_exit reason =
    if by_exit && is_atom (codes "kill") reason then hit w from to q (Atom (codes "killed"))
    else if q.trapping then appended w from to q (exit_message w.node from reason)
    else if is_atom (codes "normal") reason && not (nat_eq from to) then dropped w from to
    else hit w from to q reason

abbrev pub is_linked : Process → ℕ → Bool
is_linked q number = list_any (nat_eq number) q.links

abbrev pub without_link : Process → ℕ → Process
without_link q number = with_links q (filter (λ n. not (nat_eq number n)) q.links)

-- an exit signal by the link counts where the link stands, and takes it away
abbrev pub breaks : World → (from to : ℕ) → Process → (reason : Term) → Change
breaks w from to q reason = exits (with_process w to q) from to q false reason

abbrev pub to_live : World → (from to : ℕ) → Process → Signal → Change
to_live w from to q (Message message) = appended w from to q message
to_live w from to q (Link reason) = if is_linked q from then breaks w from to (without_link q from) reason else dropped w from to
to_live w from to q (Exit reason) = exits w from to q true reason

-- a signal to a process that ended is dropped
abbrev pub to_process : World → (from to : ℕ) → Signal → Option Process → Option Change
to_process w from to signal None = None
to_process w from to signal (Some q) = Some (if is_live q then to_live w from to q signal else dropped w from to)

abbrev pub with_queue : World → Queue → World
with_queue w queue = record { node = w.node; next_ref = w.next_ref; clock = w.clock; processes = w.processes; queue = queue }

abbrev pub first_of : World → (from to : ℕ) → List Signal → Option Change
first_of w from to [] = None
first_of w from to (signal ∷ rest) = to_process (with_queue w (taken from to rest w.queue)) from to signal (slice_get w.processes to)

-- the first signal from one process to another is delivered; none where there is no such
abbrev pub deliver : World → (from to : ℕ) → Option Change
deliver w from to = first_of w from to (w.queue from to)
