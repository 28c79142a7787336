-- What is asked of the turns of a code, on each view that a world gives it.
use Rattle.std.specs.Prelude.{◌≡◌, ℕ, ◌+◌, ◌<◌, ◌≤◌, ◌⊎◌, true, false, List, [], ◌∷◌, ◌++◌, codes, length, Option, None, Some}
use Rattle.std.specs.List.{AllByRecursion, flat_map}
use Rattle.ej_term.specs.Term.{Term, Atom, list}
use Rattle.ej_world.specs.declared.effect.Begin.{Begin}
use Rattle.ej_world.specs.declared.effect.Begin.TheVariants as begin
use Rattle.ej_world.specs.declared.event.Event.{Event}
use Rattle.ej_world.specs.declared.event.Event.TheVariants as event
use Rattle.ej_world.specs.Agree.{may_turn}
use Rattle.ej_world.specs.Choices.{View, Turned, Code, holds, status_after}
use Rattle.ej_world.specs.Runs.{Choice, Start, Run}
use Rattle.ej_world.specs.World.{Status, Running, Waiting, Ended, limit}

-- ---- views

-- rising numbers, from the least on and below the bound
abbrev pub Within : (least bound : ℕ) → List ℕ → Type 0
Within least bound [] = Unit {0}
Within least bound (n ∷ ns) = (least ≤ n) × (n < bound) × Within (n + 1) bound ns

abbrev pub RisingBelow : (bound : ℕ) → List ℕ → Type 0
RisingBelow bound ns = Within 0 bound ns

-- a view with which a process may be asked for a turn
pub record MeetsView (v : View) : Type 0 where
  pub me : holds v.live v.me ≡ true
  pub live : RisingBelow v.next_pid v.live
  pub links : RisingBelow v.next_pid v.links
  pub not_itself : holds v.links v.me ≡ false
  pub clock : v.clock ≤ limit
  pub next_pid : v.next_pid ≤ limit
  pub next_ref : v.next_ref ≤ limit
  pub save : v.save ≤ length v.messages

-- ---- events

-- a call is of two atoms, with a proper list of at most 255 elements
abbrev pub IsBegin : Begin Term → Type 0
IsBegin (begin.Call (Atom module') (Atom name) args) = (parts : List Term) × (args ≡ list parts) × (length parts ≤ 255)
IsBegin (begin.Call module' name args) = ⊥
IsBegin (begin.Fun f) = Unit {0}

-- an event that a turn of a process may give where these are the next number and the live processes
abbrev pub MayGive : (me next : ℕ) → (live : List ℕ) → Event Term → Type 0
MayGive me next live (event.Spawn p q how) = (p ≡ me) × (q ≡ next) × IsBegin how
MayGive me next live (event.Send p q message) = (p ≡ me) × (q < next)
MayGive me next live (event.Signal p q reason) = (p ≡ me) × (q < next)
-- from a process that ended
MayGive me next live (event.Broken q p reason) = (p ≡ me) × (q < next) × (holds live q ≡ false) × (reason ≡ Atom (codes "noproc"))
MayGive me next live (event.Lost p message) = p ≡ me
MayGive me next live (event.Recv p message) = p ≡ me
MayGive me next live (event.Print p term) = p ≡ me
MayGive me next live (event.Raise p class reason) = p ≡ me
MayGive me next live (event.Answer p value) = p ≡ me
MayGive me next live (event.Fault p) = p ≡ me
MayGive me next live _ = ⊥

-- the number of the process that an event makes
abbrev pub made_by : Event Term → List ℕ
made_by (event.Spawn p q how) = q ∷ []
made_by _ = []

abbrev pub made : List (Event Term) → List ℕ
made events = flat_map made_by events

-- a process that an event makes has a number, and is live
abbrev pub next_after : ℕ → Event Term → ℕ
next_after next (event.Spawn p q how) = next + 1
next_after next _ = next

abbrev pub live_after : List ℕ → Event Term → List ℕ
live_after live (event.Spawn p q how) = live ++ q ∷ []
live_after live _ = live

-- events one after the other
abbrev pub MayGiveAll : (me next : ℕ) → (live : List ℕ) → List (Event Term) → Type 0
MayGiveAll me next live [] = Unit {0}
MayGiveAll me next live (e ∷ events) = MayGive me next live e × MayGiveAll me (next_after next e) (live_after live e) events

-- ---- mailboxes and timers

-- the message that an event takes out of the mailbox
abbrev pub received_by : Event Term → List Term
received_by (event.Recv p message) = message ∷ []
received_by _ = []

abbrev pub received : List (Event Term) → List Term
received events = flat_map received_by events

-- one message is taken away, and the others stay in their order
pub record Loses (message : Term) (before after : List Term) : Type 0 where
  pub front : List Term
  pub back : List Term
  pub was : before ≡ front ++ message ∷ back
  pub is : after ≡ front ++ back

-- these messages are taken away, one after the other
abbrev pub LosesAll : List Term → (before after : List Term) → Type 0
LosesAll [] before after = after ≡ before
LosesAll (m ∷ messages) before after = (between : List Term) × Loses m before between × LosesAll messages between after

-- a timer stays, ends, or is set to at most 4294967295 milliseconds from now
abbrev pub TimerAfter : (clock : ℕ) → (before after : Option ℕ) → Type 0
TimerAfter clock before None = Unit {0}
TimerAfter clock before (Some deadline) = (before ≡ Some deadline) ⊎ (deadline ≤ clock + 4294967295)

-- ---- turns

-- which states a process of that status may have
abbrev pub States : Type 0 → Type 1
States S = Status → S → Type 0

-- states of a process that ended are not looked at
abbrev pub Kept : {S : Type 0} → States S → States S
Kept IsState Ended s = Unit {0}
Kept IsState Running s = IsState Running s
Kept IsState Waiting s = IsState Waiting s

-- what a turn makes of that view
pub record LawfulTurn {S : Type 0} (IsState : States S) (v : View) (t : Turned S) : Type 0 where
  pub me : t.view.me ≡ v.me
  pub clock : t.view.clock ≡ v.clock
  pub events : MayGiveAll v.me v.next_pid v.live t.events
  -- the next number and the live processes grow by those that it made
  pub next_pid : t.view.next_pid ≡ v.next_pid + length (made t.events)
  pub live : t.view.live ≡ v.live ++ made t.events
  pub next_ref : v.next_ref ≤ t.view.next_ref
  pub pids_end : t.view.next_pid ≤ limit
  pub refs_end : t.view.next_ref ≤ limit
  pub links : RisingBelow t.view.next_pid t.view.links
  pub not_itself : holds t.view.links v.me ≡ false
  pub messages : LosesAll (received t.events) v.messages t.view.messages
  pub save : t.view.save ≤ length t.view.messages
  pub timer : TimerAfter v.clock v.timer t.view.timer
  -- and of the state, unless the process ended
  pub state : Kept IsState (status_after t.outcome) t.state

-- a process begins with such a state, and each turn of one that runs, or waits and is woken, is lawful
pub record Lawful {S : Type 0} (code : Code S) (IsState : States S) : Type 0 where
  pub begins : (how : Begin Term) → IsBegin how → IsState Running (code.begin how)
  pub turns : (transfers : ℕ) (v : View) (status : Status) (s : S) → 1 ≤ transfers → MeetsView v → may_turn status v ≡ true → IsState status s
      → LawfulTurn IsState v (code.turn transfers v s)

-- ---- scripts

-- a start has at most 255 arguments, and a turn at least one transfer
abbrev pub IsAsked : Choice → Type 0
IsAsked (Start module' name args) = length args ≤ 255
IsAsked (Run number transfers) = 1 ≤ transfers
IsAsked _ = Unit {0}

abbrev pub AreAsked : List Choice → Type 0
AreAsked script = AllByRecursion IsAsked script
