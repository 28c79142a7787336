-- The choice `auto`: rounds of deliveries, and of a turn or an advance of the clock behind them.
use Rattle.std.specs.Prelude.{ℕ, zero, suc, ◌+◌, min, Bool, true, nat_lt, nat_le, if◌then◌else◌, List, [], ◌∷◌, ◌++◌, length, map, Option, None, Some, option_map, option_and_then}
use Rattle.std.specs.List.{flat_map, find}
use Rattle.std.specs.Option.{option_map_or}
use Rattle.ej_term.specs.Term.{Term}
use Rattle.ej_world.specs.declared.event.Event.{Event}
use Rattle.ej_world.specs.Choices.{Code, System, Happened, closed, nothing, delivered, run_process, at_clock}
use Rattle.ej_world.specs.World.{Status, Waiting, Process, World, next_pid, limit, is_live, ready}

-- ---- deliveries

-- the numbers below
abbrev pub below : ℕ → List ℕ
below zero = []
below (suc n) = below n ++ n ∷ []

-- the pairs of numbers below, the least first
abbrev pub pairs : ℕ → List (ℕ × ℕ)
pairs n = flat_map (λ from. map (λ to. (from, to)) (below n)) (below n)

abbrev pub has_signal : World → ℕ × ℕ → Bool
has_signal w p = nat_lt 0 (length (w.queue p.0 p.1))

-- the least pair that has a signal
abbrev pub first_pair : World → Option (ℕ × ℕ)
first_pair w = find (has_signal w) (pairs (next_pid w))

abbrev pub total : List ℕ → ℕ
total [] = 0
total (n ∷ ns) = n + total ns

abbrev pub links_of_live : Process → ℕ
links_of_live p = if is_live p then length p.links else 0

-- how many signals there are, and how many the ends of live processes can send
abbrev pub signals : World → ℕ
signals w = total (map (λ (p : ℕ × ℕ). length (w.queue p.0 p.1)) (pairs (next_pid w))) + total (map links_of_live w.processes)

-- events, and what happens behind them
abbrev pub behind : {S : Type 0} → List (Event Term) → Happened S → Happened S
behind events h = record { events = events ++ h.events; system = h.system }

abbrev pub deliver_next : {S : Type 0} → (rest : System S → Happened S) → System S → Option (Happened S) → Happened S
deliver_next rest r None = record { events = []; system = r }
deliver_next rest r (Some h) = behind (closed h).events (rest h.system)

-- so many deliveries, as long as there is a signal
abbrev pub deliveries : {S : Type 0} → (most : ℕ) → System S → Happened S
deliveries zero r = record { events = []; system = r }
deliveries (suc n) r = deliver_next (deliveries n) r (option_and_then (λ (p : ℕ × ℕ). delivered r p.0 p.1) (first_pair r.world))

-- all signals are delivered
abbrev pub all_delivered : {S : Type 0} → System S → Happened S
all_delivered r = deliveries (signals r.world) r

-- ---- a turn, or an advance

-- no process, or none above the last
abbrev pub above : Option ℕ → ℕ → Bool
above None n = true
above (Some last) n = nat_lt last n

abbrev pub or_else : {A : Type 0} → Option A → Option A → Option A
or_else None other = other
or_else (Some x) other = Some x

-- the least ready process above the one that ran last, else the least
abbrev pub next_ready : (last : Option ℕ) → List ℕ → Option ℕ
next_ready last numbers = or_else (find (above last) numbers) (find (above None) numbers)

abbrev pub as_list : Option ℕ → List ℕ
as_list None = []
as_list (Some n) = n ∷ []

abbrev pub deadline_in : Status → Process → List ℕ
deadline_in Waiting p = as_list p.timer
deadline_in _ p = []

-- the deadlines of the processes that wait
abbrev pub deadlines : World → List ℕ
deadlines w = flat_map (λ (p : Process). deadline_in p.status p) w.processes

abbrev pub least : List ℕ → Option ℕ
least [] = None
least (n ∷ ns) = Some (option_map_or (min n) (least ns) n)

-- the earliest deadline that the clock can come to
abbrev pub to_come : Option ℕ → Option ℕ
to_come None = None
to_come (Some deadline) = if nat_le deadline limit then Some deadline else None

-- what a turn or an advance does, and which process ran, if one did
pub record Step (S : Type 0) : Type 0 where
  pub happened : Happened S
  pub ran : Option ℕ

abbrev pub stepped : {S : Type 0} → Option ℕ → Happened S → Step S
stepped ran h = record { happened = h; ran = ran }

abbrev pub or_advance : {S : Type 0} → (last : Option ℕ) → System S → Option ℕ → Option (Step S)
or_advance last r None = None
or_advance last r (Some deadline) = Some (stepped last (at_clock r deadline))

-- a turn of 2000 transfers of the next ready process, or else an advance to the earliest deadline; none where there is
-- neither
abbrev pub step_to : {S : Type 0} → Code S → (last : Option ℕ) → System S → Option ℕ → Option (Step S)
step_to code last r None = or_advance last r (to_come (least (deadlines r.world)))
step_to code last r (Some number) = option_map (stepped (Some number)) (run_process code r 2000 number)

abbrev pub step : {S : Type 0} → Code S → (last : Option ℕ) → System S → Option (Step S)
step code last r = step_to code last r (next_ready last (ready r.world))

-- ---- rounds

abbrev pub step_behind : {S : Type 0} → (rest : Option ℕ → System S → Happened S) → System S → Option (Step S) → Happened S
step_behind rest r None = record { events = []; system = r }
step_behind rest r (Some s) = behind (closed s.happened).events (rest s.ran s.happened.system)

-- so many rounds, the process that ran last among them known
abbrev pub rounds : {S : Type 0} → Code S → (most : ℕ) → (last : Option ℕ) → System S → Happened S
rounds code zero last r = record { events = []; system = r }
rounds code (suc n) last r =
    behind (all_delivered r).events (step_behind (rounds code n) (all_delivered r).system (step code last (all_delivered r).system))

-- where nothing at all is found there is nothing to do
abbrev pub or_idle : {S : Type 0} → System S → Happened S → List (Event Term) → Happened S
or_idle r h [] = closed (nothing r)
or_idle r h (e ∷ events) = h

abbrev pub auto : {S : Type 0} → Code S → (most : ℕ) → System S → Happened S
auto code most r = let h = rounds code most None r in or_idle r h h.events
