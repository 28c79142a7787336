-- Worlds of processes that send each other signals (Erlang Reference Manual, "Processes").
use Rattle.std.specs.Prelude.{ℕ, ◌+◌, ◌^◌, Bool, true, false, nat_eq, nat_lt, nat_le, ◌&&◌, ◌||◌, if◌then◌else◌, List, [], ◌∷◌, ◌++◌, length, map, slice_set, Option, None, Some}
use Rattle.ej_term.specs.Term.{Term}
use Rattle.ej_world.specs.declared.event.Event.{Event}
use Rattle.ej_world.specs.declared.event.Event.TheVariants as event

-- ---- what a world is

-- what is on its way from one process to another
pub data Signal : Type 0 where
  Message : (message : Term) → Signal
  -- an exit signal by the link, and one by `exit/2`
  Link : (reason : Term) → Signal
  Exit : (reason : Term) → Signal

pub data Status : Type 0 where
  Running : Status
  Waiting : Status
  Ended : Status

pub record Process : Type 0 where
  pub status : Status
  pub messages : List Term
  -- the place in the mailbox at which a receive goes on
  pub save : ℕ
  -- the processes that it is linked to, by rising numbers
  pub links : List ℕ
  -- it traps exits
  pub trapping : Bool
  -- the deadline of its timer, if it has one
  pub timer : Option ℕ

abbrev pub Queue : Type 0
Queue = (from to : ℕ) → List Signal

-- times are in milliseconds
pub record World : Type 0 where
  pub node : ℕ
  pub next_ref : ℕ
  pub clock : ℕ
  -- the processes by their numbers, from 0
  pub processes : List Process
  -- the signals of each pair that are not delivered
  pub queue : Queue

abbrev pub next_pid : World → ℕ
next_pid w = length w.processes

-- no number of a process or a reference reaches this, and the clock does not pass it
abbrev pub limit : ℕ
limit = 2 ^ 62

abbrev pub empty : World
empty = record { node = 0; next_ref = 0; clock = 0; processes = []; queue = λ from to. [] }

abbrev pub fresh : Process
fresh = record { status = Running; messages = []; save = 0; links = []; trapping = false; timer = None }

-- ---- live and ready processes

abbrev pub has_not_ended : Status → Bool
has_not_ended Ended = false
has_not_ended _ = true

abbrev pub is_live : Process → Bool
is_live p = has_not_ended p.status

-- the clock is at or past the deadline
abbrev pub is_due : (clock : ℕ) → Option ℕ → Bool
is_due clock None = false
is_due clock (Some deadline) = nat_le deadline clock

-- a message lies at the save place, or the timer is due
abbrev pub is_woken : (clock : ℕ) → Process → Bool
is_woken clock p = nat_lt p.save (length p.messages) || is_due clock p.timer

abbrev pub is_ready_in : (clock : ℕ) → Process → Status → Bool
is_ready_in clock p Running = true
is_ready_in clock p Waiting = is_woken clock p
is_ready_in clock p Ended = false

abbrev pub is_ready : (clock : ℕ) → Process → Bool
is_ready clock p = is_ready_in clock p p.status

-- the numbers of those that pass, the first of which has that number
abbrev pub numbers_from : ℕ → (Process → Bool) → List Process → List ℕ
numbers_from number test [] = []
numbers_from number test (p ∷ ps) = if test p then number ∷ numbers_from (number + 1) test ps else numbers_from (number + 1) test ps

abbrev pub live : World → List ℕ
live w = numbers_from 0 is_live w.processes

abbrev pub ready : World → List ℕ
ready w = numbers_from 0 (is_ready w.clock) w.processes

-- ---- signals

-- the signal goes behind those of its pair
abbrev pub put : (from to : ℕ) → Signal → Queue → Queue
put from to signal queue p q = if nat_eq p from && nat_eq q to then queue p q ++ signal ∷ [] else queue p q

-- the first of a pair is taken away
abbrev pub taken : (from to : ℕ) → List Signal → Queue → Queue
taken from to rest queue p q = if nat_eq p from && nat_eq q to then rest else queue p q

-- what an event puts on its way
abbrev pub with_signal : Event Term → Queue → Queue
with_signal (event.Send from to message) queue = put from to (Message message) queue
with_signal (event.Signal from to reason) queue = put from to (Exit reason) queue
with_signal (event.Broken from to reason) queue = put from to (Link reason) queue
with_signal _ queue = queue

abbrev pub with_signals : List (Event Term) → Queue → Queue
with_signals [] queue = queue
with_signals (e ∷ events) queue = with_signals events (with_signal e queue)

-- ---- changes of a world

-- what is seen of a change, and the world after it
pub record Change : Type 0 where
  pub events : List (Event Term)
  pub world : World

-- the signals of these events go on their way
abbrev pub sending : List (Event Term) → World → World
sending events w = record { node = w.node; next_ref = w.next_ref; clock = w.clock; processes = w.processes; queue = with_signals events w.queue }

abbrev pub with_process : World → ℕ → Process → World
with_process w number p = record { node = w.node; next_ref = w.next_ref; clock = w.clock; processes = slice_set w.processes number p; queue = w.queue }

abbrev pub with_status : Process → Status → Process
with_status p status = record { status = status; messages = p.messages; save = p.save; links = p.links; trapping = p.trapping; timer = p.timer }

abbrev pub with_links : Process → List ℕ → Process
with_links p links = record { status = p.status; messages = p.messages; save = p.save; links = links; trapping = p.trapping; timer = p.timer }

abbrev pub with_message : Process → Term → Process
with_message p message = record { status = p.status; messages = p.messages ++ message ∷ []; save = p.save; links = p.links; trapping = p.trapping; timer = p.timer }

-- what is seen of the end of a process: each that it is linked to is sent an exit signal by the link
abbrev pub end_events : (number : ℕ) → (reason : Term) → (links : List ℕ) → List (Event Term)
end_events number reason links = event.Exit number reason ∷ map (λ other. event.Broken number other reason) links

-- the process of that number, as it stands then, ends
abbrev pub ends : World → ℕ → Process → (reason : Term) → Change
ends w number p reason =
    record {
      events = end_events number reason p.links;
      world = sending (end_events number reason p.links) (with_process w number (with_status p Ended));
    }
