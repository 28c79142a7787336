-- What each choice of a script does, over any code.
use Rattle.std.specs.Prelude.{ℕ, ◌+◌, min, Bool, true, false, nat_eq, nat_lt, if◌then◌else◌, List, [], ◌∷◌, ◌++◌, map, slice_get, slice_set, Option, None, Some, option_map, option_and_then}
use Rattle.std.specs.List.{flat_map, list_any}
use Rattle.ej_term.specs.Term.{Term}
use Rattle.ej_world.specs.declared.effect.Begin.{Begin}
use Rattle.ej_world.specs.declared.event.Event.{Event}
use Rattle.ej_world.specs.declared.event.Event.TheVariants as event
use Rattle.ej_world.specs.Delivery.{deliver}
use Rattle.ej_world.specs.World.{Status, Running, Waiting, Ended, Process, World, Change, next_pid, limit, fresh, is_live, is_ready, live, ready, sending, with_process, with_links, with_message, end_events}

-- ---- what a code brings

-- what a process sees of the world in a turn; lists of processes are of rising numbers
pub record View : Type 0 where
  pub me : ℕ
  pub clock : ℕ
  pub next_pid : ℕ
  pub next_ref : ℕ
  pub trapping : Bool
  pub timer : Option ℕ
  pub messages : List Term
  pub save : ℕ
  pub links : List ℕ
  pub live : List ℕ

-- how a turn leaves its process
pub data Outcome : Type 0 where
  Runs : Outcome
  Waits : Outcome
  Ends : (reason : Term) → Outcome

-- what a turn does: what is seen of it, how it leaves the process, what the process has made of its view, and its state
pub record Turned (S : Type 0) : Type 0 where
  pub events : List (Event Term)
  pub outcome : Outcome
  pub view : View
  pub state : S

-- the state of a process that begins, a turn of so many transfers, and how many callers wait for a return
pub record Code (S : Type 0) : Type 0 where
  pub begin : Begin Term → S
  pub turn : (transfers : ℕ) → View → S → Turned S
  pub depth : S → ℕ

-- a world, with the state of each process
pub record System (S : Type 0) : Type 0 where
  pub world : World
  pub states : List S

-- ---- a turn in the world

abbrev pub view_of : World → (number : ℕ) → Process → View
view_of w number p =
    record {
      me = number;
      clock = w.clock;
      next_pid = next_pid w;
      next_ref = w.next_ref;
      trapping = p.trapping;
      timer = p.timer;
      messages = p.messages;
      save = p.save;
      links = p.links;
      live = live w;
    }

-- how the processes begin that a turn made
abbrev pub spawned_by : Event Term → List (Begin Term)
spawned_by (event.Spawn from made how) = how ∷ []
spawned_by _ = []

abbrev pub spawned : List (Event Term) → List (Begin Term)
spawned events = flat_map spawned_by events

abbrev pub holds : List ℕ → ℕ → Bool
holds numbers n = list_any (nat_eq n) numbers

-- a number at its place among rising ones
abbrev pub with_number : ℕ → List ℕ → List ℕ
with_number n [] = n ∷ []
with_number n (m ∷ ms) = if nat_lt n m then n ∷ m ∷ ms else if nat_eq n m then m ∷ ms else m ∷ with_number n ms

abbrev pub without_number : ℕ → List ℕ → List ℕ
without_number n [] = []
without_number n (m ∷ ms) = if nat_eq n m then without_number n ms else m ∷ without_number n ms

-- the other side of a link, which was and is there
abbrev pub linked_back : (me : ℕ) → (was is : Bool) → Process → Process
linked_back me false true p = with_links p (with_number me p.links)
linked_back me true false p = with_links p (without_number me p.links)
linked_back me _ _ p = p

-- each other side of a link that changed, in processes the first of which has that number
abbrev pub agreeing : (me : ℕ) → (old new : List ℕ) → ℕ → List Process → List Process
agreeing me old new number [] = []
agreeing me old new number (p ∷ ps) = linked_back me (holds old number) (holds new number) p ∷ agreeing me old new (number + 1) ps

abbrev pub status_after : Outcome → Status
status_after Runs = Running
status_after Waits = Waiting
status_after (Ends reason) = Ended

-- the process as its turn leaves it
abbrev pub process_after : Outcome → View → Process
process_after outcome v =
    record { status = status_after outcome; messages = v.messages; save = v.save; links = v.links; trapping = v.trapping; timer = v.timer }

abbrev pub ending : (me : ℕ) → (links : List ℕ) → Outcome → List (Event Term)
ending me links (Ends reason) = end_events me reason links
ending me links _ = []

-- a process that ended has no callers
abbrev pub depth_after : {S : Type 0} → Code S → Outcome → S → ℕ
depth_after code (Ends reason) state = 0
depth_after code _ state = code.depth state

-- what is seen of a change, and what runs after it
pub record Happened (S : Type 0) : Type 0 where
  pub events : List (Event Term)
  pub system : System S

-- the processes after a turn: those that it made are behind the others
abbrev pub processes_after : {S : Type 0} → World → (me : ℕ) → Process → Turned S → List Process
processes_after w me p t =
    agreeing me p.links t.view.links 0 (slice_set w.processes me (process_after t.outcome t.view) ++ map (λ how. fresh) (spawned t.events))

abbrev pub world_after : {S : Type 0} → World → (me : ℕ) → Process → Turned S → World
world_after w me p t =
    sending (t.events ++ ending me t.view.links t.outcome)
    (record { node = w.node; next_ref = t.view.next_ref; clock = w.clock; processes = processes_after w me p t; queue = w.queue })

abbrev pub turned : {S : Type 0} → Code S → System S → (me : ℕ) → Process → Turned S → Happened S
turned code r me p t =
    record {
      events = t.events ++ (ending me t.view.links t.outcome ++ event.Turn me (depth_after code t.outcome t.state) ∷ []);
      system = record { world = world_after r.world me p t; states = slice_set r.states me t.state ++ map code.begin (spawned t.events) };
    }

-- ---- choices

-- closed by the ready processes
abbrev pub closed : {S : Type 0} → Happened S → Happened S
closed h = record { events = h.events ++ event.Ready (ready h.system.world) ∷ []; system = h.system }

abbrev pub nothing : {S : Type 0} → System S → Happened S
nothing r = record { events = event.Idle ∷ []; system = r }

abbrev pub or_nothing : {S : Type 0} → System S → Option (Happened S) → Happened S
or_nothing r None = nothing r
or_nothing r (Some h) = h

-- a change of the world alone
abbrev pub of_change : {S : Type 0} → List S → Change → Happened S
of_change states c = record { events = c.events; system = record { world = c.world; states = states } }

-- the next process begins; none where there is no number for it
abbrev pub start : {S : Type 0} → Code S → System S → Begin Term → Option (Happened S)
start code r how =
    if nat_lt (next_pid r.world) limit
    then Some (record {
      events = event.Start (next_pid r.world) how ∷ [];
      system = record {
        world = record { node = r.world.node; next_ref = r.world.next_ref; clock = r.world.clock; processes = r.world.processes ++ fresh ∷ []; queue = r.world.queue };
        states = r.states ++ code.begin how ∷ [];
      };
    })
    else None

abbrev pub turn_of : {S : Type 0} → Code S → System S → (transfers me : ℕ) → Process → Option S → Option (Happened S)
turn_of code r transfers me p None = None
turn_of code r transfers me p (Some state) = Some (turned code r me p (code.turn transfers (view_of r.world me p) state))

abbrev pub run_ready : {S : Type 0} → Code S → System S → (transfers me : ℕ) → Option Process → Option (Happened S)
run_ready code r transfers me None = None
run_ready code r transfers me (Some p) = if is_ready r.world.clock p then turn_of code r transfers me p (slice_get r.states me) else None

-- a turn of so many transfers of a process that is ready
abbrev pub run_process : {S : Type 0} → Code S → System S → (transfers me : ℕ) → Option (Happened S)
run_process code r transfers me = run_ready code r transfers me (slice_get r.world.processes me)

abbrev pub delivered : {S : Type 0} → System S → (from to : ℕ) → Option (Happened S)
delivered r from to = option_map (of_change r.states) (deliver r.world from to)

abbrev pub at_clock : {S : Type 0} → System S → (clock : ℕ) → Happened S
at_clock r clock =
    record {
      events = event.Clock clock ∷ [];
      system = record { world = record { node = r.world.node; next_ref = r.world.next_ref; clock = clock; processes = r.world.processes; queue = r.world.queue }; states = r.states };
    }

-- the clock stays at its limit
abbrev pub advanced : {S : Type 0} → System S → (ms : ℕ) → Happened S
advanced r ms = at_clock r (min (r.world.clock + ms) limit)

abbrev pub input_to : {S : Type 0} → System S → (number : ℕ) → Term → Process → Option (Happened S)
input_to r number message p =
    if is_live p
    then Some (record { events = event.Input number message ∷ []; system = record { world = with_process r.world number (with_message p message); states = r.states } })
    else None

-- a message is put into the mailbox of a live process
abbrev pub put_in : {S : Type 0} → System S → (number : ℕ) → Term → Option (Happened S)
put_in r number message = option_and_then (input_to r number message) (slice_get r.world.processes number)
