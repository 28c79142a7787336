-- What a running system stands for, and what each call makes of it.
use Rattle.std.specs.Prelude.{◌≡◌, ℕ, ◌+◌, Bool, true, false, List, [], ◌∷◌, ◌++◌, drop, map, slice_get, slice_set, Option, None, Some, option_map, Result, Ok, Err}
use Rattle.std.specs.List.{All, list_any}
use Rattle.ej_term.specs.declared.asm_term.AsmTerm.{AsmTerm}
use Rattle.ej_term.specs.AsmValue.{value, every, has_opaque}
use Rattle.ej_term.specs.Term.{Term, Atom, list}
use Rattle.ej_world.specs.Auto as auto
use Rattle.ej_world.specs.declared.choice.Choice.{Choice}
use Rattle.ej_world.specs.declared.effect.Begin.{Begin}
use Rattle.ej_world.specs.declared.effect.Begin.TheVariants as begin
use Rattle.ej_world.specs.declared.event.Event.{Event}
use Rattle.ej_world.specs.declared.event.Event.TheVariants as event
use Rattle.ej_world.specs.Choices as world
use Rattle.ej_world.specs.Choices.{Turned, Code, System, Happened, view_of, spawned, depth_after}
use Rattle.ej_world.specs.Lawful.{States, made, MayGiveAll}
use Rattle.ej_world.specs.Runs as run
use Rattle.ej_world.specs.Sound.{Sound}
use Rattle.ej_world.specs.World.{World, Process, Change, Status, Running, Waiting, fresh, next_pid, ready, ends}
use Rattle.term_heap.specs.declared.cell.TermId.{TermId}
use Rattle.term_heap.specs.declared.heap.Heap.{Heap}
use Rattle.term_heap.specs.View.{Keeps}
use Rattle.proc_sched.specs.declared.fault.ChoiceFault.{ChoiceFault}
use Rattle.proc_sched.specs.declared.fault.ChoiceFault.TheVariants as fault
use Rattle.proc_sched.specs.declared.node.Node.{Node}
use Rattle.proc_sched.specs.declared.rounds.Stepped.{Stepped}
use Rattle.proc_sched.specs.declared.rounds.Stepped.TheVariants as stepped
use Rattle.proc_sched.specs.declared.view.Outcome.{Outcome}
use Rattle.proc_sched.specs.Calls.{Held, Meant}
use Rattle.proc_sched.specs.Choose.{chosen, is_opaque}
use Rattle.proc_sched.specs.Freed.{left, freed, IsFreed}
use Rattle.proc_sched.specs.Nodes.{with_next, live_at, shows, DoesTo}
use Rattle.proc_sched.specs.Seen.{begin_of, events_of, outcome_of, HoldsOutcome}
use Rattle.proc_sched.specs.Stands.{IsNodeBut, world_of, seen_of}

-- ---- systems

-- a node, with the states of its processes, of those that have not ended
pub record Kept (State : Type 0) : Type 0 where
  pub node : Node
  pub states : List (Option State)

abbrev pub kept : {State : Type 0} → Node → List (Option State) → Kept State
kept node states = record { node = node; states = states }

abbrev pub meant : {State S : Type 0} → Meant State S → Kept State → List (Option S)
meant means k = map (option_map (means k.node.heap)) k.states

abbrev pub system_of : {State S : Type 0} → Meant State S → Kept State → System (Option S)
system_of means k = record { world = world_of k.node; states = meant means k }

abbrev pub HoldsState : {State : Type 0} → Held State → Heap → Option State → Type 0
HoldsState Holds' heap None = Unit {0}
HoldsState Holds' heap (Some state) = Holds' heap state

-- what is kept is as it is said of a node, but for processes to come, and each state is one of the heap
pub record IsKept {State : Type 0} (Holds' : Held State) (coming : List ℕ) (k : Kept State) : Type 0 where
  pub is_node : IsNodeBut None coming k.node
  pub states' : All (HoldsState Holds' k.node.heap) k.states

pub record IsSystem {State S : Type 0} (Holds' : Held State) (means : Meant State S) (IsState : States S) (k : Kept State) : Type 0 where
  pub is_kept : IsKept Holds' [] k
  pub sound : Sound (IsFreed IsState) (system_of means k)

-- ---- what happens

-- the system is the one behind what happens, and its events are appended
pub record Becomes {State S : Type 0} (Holds' : Held State) (means : Meant State S) (IsState : States S) (old new : Kept State) (h : Happened (Option S)) : Type 0 where
  pub is : IsSystem Holds' means IsState new
  pub system : system_of means new ≡ h.system
  pub events : seen_of new.node ≡ seen_of old.node ++ h.events
  pub keeps : Keeps old.node.heap new.node.heap

-- what happens is there
abbrev pub BecomesSome : {State S : Type 0} → Held State → Meant State S → States S → (old new : Kept State) → Option (Happened (Option S)) → Type 0
BecomesSome Holds' means IsState old new None = ⊥
BecomesSome Holds' means IsState old new (Some h) = Becomes Holds' means IsState old new h

-- nothing happens
abbrev pub still : {S : Type 0} → System S → Happened S
still r = record { events = []; system = r }

-- something happens exactly where the answer says so
abbrev pub BecomesIf : {State S : Type 0} → Held State → Meant State S → States S → Bool → (old new : Kept State) → Option (Happened (Option S)) → Type 0
BecomesIf Holds' means IsState true old new o = BecomesSome Holds' means IsState old new o
BecomesIf Holds' means IsState false old new None = Becomes Holds' means IsState old new (still (system_of means old))
BecomesIf Holds' means IsState false old new (Some h) = ⊥

abbrev pub shows_ready : {S : Type 0} → System S → Happened S
shows_ready r = record { events = event.Ready (ready r.world) ∷ []; system = r }

-- ---- processes that begin

-- the next process is there with the state with which it begins, which was to come
pub record Adds {State S : Type 0} (Holds' : Held State) (means : Meant State S) (code : Code S) (how : Begin TermId) (old new : Kept State) : Type 0 where
  pub is : (coming : List ℕ) → IsKept Holds' (next_pid (world_of old.node) ∷ coming) old → IsKept Holds' coming new
  pub world : world_of new.node ≡ with_next (world_of old.node)
  pub states' : meant means new ≡ meant means old ++ Some (code.begin (begin_of old.node.heap how)) ∷ []
  pub events : new.node.events ≡ old.node.events
  pub keeps : Keeps old.node.heap new.node.heap

abbrev pub with_fresh : List (Begin Term) → World → World
with_fresh hows w = record { node = w.node; next_ref = w.next_ref; clock = w.clock; processes = w.processes ++ map (λ how. fresh) hows; queue = w.queue }

-- each process that the events from a place on made is there
pub record Spawns {State S : Type 0} (Holds' : Held State) (means : Meant State S) (code : Code S) (hows : List (Begin Term)) (old new : Kept State) : Type 0 where
  pub is : IsKept Holds' [] new
  pub world : world_of new.node ≡ with_fresh hows (world_of old.node)
  pub states' : meant means new ≡ meant means old ++ map (freed code).begin hows
  pub events : new.node.events ≡ old.node.events
  pub keeps : Keeps old.node.heap new.node.heap

abbrev pub spawned_from : (first : ℕ) → Node → List (Begin Term)
spawned_from first node = spawned (events_of node.heap (drop first node.events.items))

-- the events from a place on made just the processes to come
pub record MaySpawn {State : Type 0} (Holds' : Held State) (first : ℕ) (old : Kept State) : Type 0 where
  pub me : ℕ
  pub live : List ℕ
  pub given : MayGiveAll me (next_pid (world_of old.node)) live (events_of old.node.heap (drop first old.node.events.items))
  pub is : IsKept Holds' (made (events_of old.node.heap (drop first old.node.events.items))) old

-- ---- turns

-- a process that its turn ended still runs, and is made to end later
abbrev pub status_behind : world.Outcome → Status
status_behind world.Waits = Waiting
status_behind _ = Running

abbrev pub process_behind : world.Outcome → world.View → Process
process_behind outcome v =
    record { status = status_behind outcome; messages = v.messages; save = v.save; links = v.links; trapping = v.trapping; timer = v.timer }

abbrev pub world_behind : {S : Type 0} → Turned S → (number : ℕ) → World → World
world_behind t number w =
    record { node = w.node; next_ref = t.view.next_ref; clock = w.clock; processes = slice_set w.processes number (process_behind t.outcome t.view); queue = w.queue }

-- the process of that number is as the turn left it, and the events of the turn are appended
pub record IsBehind {State S : Type 0} (Holds' : Held State) (means : Meant State S) (t : Turned S) (number : ℕ) (old new : Kept State) (o : Outcome) : Type 0 where
  pub added : List (Event TermId)
  pub appends : new.node.events.items ≡ old.node.events.items ++ added
  pub events : events_of new.node.heap added ≡ t.events
  pub outcome : outcome_of new.node.heap o ≡ t.outcome
  pub reason : HoldsOutcome new.node.heap o
  pub is : IsKept Holds' (made t.events) new
  pub world : world_of new.node ≡ world_behind t number (world_of old.node)
  pub states' : meant means new ≡ slice_set (meant means old) number (left t.outcome t.state)
  pub keeps : Keeps old.node.heap new.node.heap

abbrev pub GoesBehind : {State S : Type 0} → Held State → Meant State S → Code S → (transfers number : ℕ) → (old new : Kept State) → Outcome → Type 0
GoesBehind {State} {S} Holds' means code transfers number old new o =
    (p : Process) (s : S) → slice_get (world_of old.node).processes number ≡ Some p → slice_get (meant means old) number ≡ Some (Some s)
    → IsBehind Holds' means (code.turn transfers (view_of (world_of old.node) number p) s) number old new o

-- the process of the event at a place is there, if it made one, and those of the events behind it are to come
pub record SpawnsAt {State S : Type 0} (Holds' : Held State) (means : Meant State S) (code : Code S) (at : ℕ) (old new : Kept State) : Type 0 where
  pub hows : List (Begin Term)
  pub from : spawned_from at old.node ≡ hows ++ spawned_from (at + 1) new.node
  pub may : MaySpawn Holds' (at + 1) new
  pub world : world_of new.node ≡ with_fresh hows (world_of old.node)
  pub states' : meant means new ≡ meant means old ++ map (freed code).begin hows
  pub events : new.node.events ≡ old.node.events
  pub keeps : Keeps old.node.heap new.node.heap

-- the process has a state, and that is how many callers wait in it
abbrev pub HasState : {State S : Type 0} → Meant State S → (number : ℕ) → Kept State → Type 0
HasState {State} {S} means number k = (s : S) × (slice_get (meant means k) number ≡ Some (Some s))

abbrev pub IsDepth : {State S : Type 0} → Meant State S → Code S → (number : ℕ) → Kept State → (depth : ℕ) → Type 0
IsDepth {State} {S} means code number k depth = (s : S) → slice_get (meant means k) number ≡ Some (Some s) → depth ≡ code.depth s

-- the process is there as a turn left it, and is still live
pub record MayFinish {State S : Type 0} (means : Meant State S) (number : ℕ) (k : Kept State) (o : Outcome) : Type 0 where
  pub reason : HoldsOutcome k.node.heap o
  pub live : live_at (slice_get (world_of k.node).processes number) ≡ true
  pub state' : S
  pub has : slice_get (meant means k) number ≡ Some (left (outcome_of k.node.heap o) state')

-- the process ends, if its turn ended it
abbrev pub finished : World → (number : ℕ) → Process → world.Outcome → Change
finished w number q (world.Ends reason) = ends w number q reason
finished w number q _ = shows [] w

pub record Finishes {State S : Type 0} (means : Meant State S) (code : Code S) (number : ℕ) (old new : Kept State) (o : Outcome) (depth : ℕ) : Type 0 where
  pub does : DoesTo number old.node new.node (λ q. finished (world_of old.node) number q (outcome_of old.node.heap o))
  pub states' : new.states ≡ old.states
  pub depth' : (s : Option S) → slice_get (meant means old) number ≡ Some s → depth ≡ depth_after (freed code) (outcome_of old.node.heap o) s

-- ---- rounds

-- a turn or an advance is made, with the process that ran last, exactly where there is one
abbrev pub DoesStep : {State S : Type 0} → Held State → Meant State S → States S → (old new : Kept State) → Option (auto.Step (Option S)) → Stepped → Type 0
DoesStep Holds' means IsState old new None stepped.Nothing = new ≡ old
DoesStep Holds' means IsState old new (Some s) (stepped.Happened ran) = Becomes Holds' means IsState old new (world.closed s.happened) × (s.ran ≡ ran)
DoesStep Holds' means IsState old new _ _ = ⊥

-- ---- choices

-- what each script would show from here on
abbrev pub shows_of : {State S : Type 0} → Meant State S → Code S → Kept State → List run.Choice → List (Event Term)
shows_of means code k = run.run_from (freed code) (system_of means k)

-- what a choice does where these terms are what its terms stand for, or that an opaque token is in them
abbrev pub Loaded : {State S : Type 0} → Held State → Meant State S → States S → {A : Type 0} → (opaque : Bool) → (terms : Option A) → (A → Happened (Option S)) → (old new : Kept State) → Result (Unit {0}) ChoiceFault → Type 0
Loaded Holds' means IsState {A} opaque terms change old new (Ok _) = (what : A) × (terms ≡ Some what) × Becomes Holds' means IsState old new (change what)
Loaded Holds' means IsState opaque terms change old new (Err fault.Opaque) = (opaque ≡ true) × (new ≡ old)
Loaded Holds' means IsState opaque terms change old new (Err fault.NoMemory) = Unit {0}

abbrev pub Starts : {State S : Type 0} → Held State → Meant State S → States S → Code S → (module' name : List ℕ) → List AsmTerm → (old new : Kept State) → Result (Unit {0}) ChoiceFault → Type 0
Starts Holds' means IsState code module' name args old new =
    Loaded Holds' means IsState (list_any has_opaque args) (every (map value args))
    (λ parts. let r = system_of means old in world.closed (world.or_nothing r (world.start (freed code) r (begin.Call (Atom module') (Atom name) (list parts))))) old new

abbrev pub Inputs : {State S : Type 0} → Held State → Meant State S → States S → (number : ℕ) → AsmTerm → (old new : Kept State) → Result (Unit {0}) ChoiceFault → Type 0
Inputs Holds' means IsState number term old new =
    Loaded Holds' means IsState (has_opaque term) (value term)
    (λ message. let r = system_of means old in world.closed (world.or_nothing r (world.put_in r number message))) old new

-- what a choice answers: what it does, or that an opaque token is in it, and then nothing changes
abbrev pub Makes : {State S : Type 0} → Held State → Meant State S → States S → Code S → Choice → (old new : Kept State) → Result (Unit {0}) ChoiceFault → Type 0
Makes Holds' means IsState code c old new (Ok _) =
    (what : run.Choice) × (chosen c ≡ Some what) × Becomes Holds' means IsState old new (run.choose (freed code) (system_of means old) what)
Makes Holds' means IsState code c old new (Err fault.Opaque) = (is_opaque c ≡ true) × (new ≡ old)
Makes Holds' means IsState code c old new (Err fault.NoMemory) = Unit {0}
