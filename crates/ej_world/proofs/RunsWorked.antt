-- Runs worked by hand.
use Rattle.std.specs.Prelude.{◌≡◌, ℕ, ◌+◌, pos, Bool, true, false, nat_lt, if◌then◌else◌, List, [], ◌∷◌, ◌++◌, ◌^◌, codes, length, map, slice_get, unwrap_or, Option, None, Some}
use Rattle.std.proofs.Common.{refl, ap, arith}
use Rattle.std.proofs.lemmas.Bool.{cond-false, le-ltb}
use Rattle.std.specs.Str.{bytes_eq}
use Rattle.ej_term.specs.declared.class.Class3.TheVariants as class
use Rattle.ej_term.specs.Term.{Term, Int, Atom, Pid, Reference, Cons, Nil, list, tuple}
use Rattle.ej_world.specs.declared.effect.Begin.{Begin}
use Rattle.ej_world.specs.declared.effect.Begin.TheVariants as begin
use Rattle.ej_world.specs.declared.event.Event.{Event}
use Rattle.ej_world.specs.declared.event.Event.TheVariants as e
use Rattle.ej_world.specs.Choices.{View, Outcome, Runs, Waits, Ends, Turned, Code, System, closed, or_nothing}
use Rattle.ej_world.specs.Runs.{Choice, Start, Run, Deliver, Advance, Input, Auto, choose, run}
use Rattle.ej_world.specs.World.{next_pid, limit, ready}

-- a code for which a process is what it does in its next turn
data Act : Type 0 where
  Rest : Act
  -- sends that number to process 0, and ends
  Sends : ℕ → Act
  -- raises and ends
  Fails : Act
  -- links to process 0 and waits; takes one message, unlinks and waits
  Links : Act
  Unlinks : Act
  -- traps exits besides
  Traps : Act
  -- waits until its timer is due, and ends
  Sleeps : Act
  -- makes a process that is linked to it, and ends
  Makes : Act

abbrev boom : Term
boom = Atom (codes "boom")

abbrev normal : Term
normal = Atom (codes "normal")

-- a process begins by a function of its act's name, or of any with the number that it sends
abbrev act_named : List ℕ → Term → Act
act_named name (Cons (Int (pos n)) Nil) = Sends n
act_named name args =
    if bytes_eq name (codes "fails") then Fails
    else if bytes_eq name (codes "links") then Links
    else if bytes_eq name (codes "traps") then Traps
    else if bytes_eq name (codes "sleeps") then Sleeps
    else if bytes_eq name (codes "makes") then Makes
    else Rest

abbrev act_of : Begin Term → Act
act_of (begin.Call m (Atom name) args) = act_named name args
act_of _ = Rest

abbrev does : List (Event Term) → Outcome → View → Act → Turned Act
does events outcome view act = record { events = events; outcome = outcome; view = view; state = act }

-- the view with these links and this flag, timer and mailbox
abbrev set : View → List ℕ → Bool → Option ℕ → List Term → View
set v links trapping timer messages =
    record { me = v.me; clock = v.clock; next_pid = v.next_pid; next_ref = v.next_ref; trapping = trapping; timer = timer; messages = messages; save = 0; links = links; live = v.live }

abbrev after_take : View → List Term → Turned Act
after_take v [] = does [] Waits v Unlinks
after_take v (m ∷ ms) = does (e.Recv v.me m ∷ []) Waits (set v [] v.trapping v.timer ms) Rest

abbrev turn : View → Act → Turned Act
turn v Rest = does [] Runs v Rest
turn v (Sends n) = does (e.Send v.me 0 (Int (pos n)) ∷ e.Answer v.me (Int (pos n)) ∷ []) (Ends normal) v Rest
turn v Fails = does (e.Raise v.me class.Exit boom ∷ []) (Ends boom) v Rest
turn v Links = does [] Waits (set v (0 ∷ []) false None v.messages) Unlinks
turn v Unlinks = after_take v v.messages
turn v Traps = does [] Waits (set v (0 ∷ []) true None v.messages) Rest
turn v Sleeps = does [] Waits (set v [] false (Some 5000) v.messages) (Sends 7)
turn v Makes = does (e.Spawn v.me v.next_pid (begin.Fun boom) ∷ []) (Ends boom) (set v (v.next_pid ∷ []) false None v.messages) Rest

abbrev acts : Code Act
acts = record { begin = act_of; turn = λ n v s. turn v s; depth = λ s. 0 }

abbrev how : List ℕ → List Term → Begin Term
how name args = begin.Call (Atom (codes "m")) (Atom name) (list args)

abbrev started : ℕ → List ℕ → List Term → Event Term
started number name args = e.Start number (how name args)

-- two send to one: what is delivered comes in any order of the pairs, and in its order within one
sends : run acts (Start (codes "m") (codes "rest") [] ∷ Start (codes "m") (codes "sends") (Int (pos 1) ∷ []) ∷ Start (codes "m") (codes "sends") (Int (pos 3) ∷ []) ∷ Run 1 1 ∷ Run 2 1 ∷ Deliver 2 0 ∷ Deliver 1 0 ∷ Deliver 1 0 ∷ [])
    ≡ started 0 (codes "rest") [] ∷ e.Ready (0 ∷ [])
    ∷ started 1 (codes "sends") (Int (pos 1) ∷ []) ∷ e.Ready (0 ∷ 1 ∷ [])
    ∷ started 2 (codes "sends") (Int (pos 3) ∷ []) ∷ e.Ready (0 ∷ 1 ∷ 2 ∷ [])
    ∷ e.Send 1 0 (Int (pos 1)) ∷ e.Answer 1 (Int (pos 1)) ∷ e.Exit 1 normal ∷ e.Turn 1 0 ∷ e.Ready (0 ∷ 2 ∷ [])
    ∷ e.Send 2 0 (Int (pos 3)) ∷ e.Answer 2 (Int (pos 3)) ∷ e.Exit 2 normal ∷ e.Turn 2 0 ∷ e.Ready (0 ∷ [])
    ∷ e.Deliver 2 0 (Int (pos 3)) ∷ e.Ready (0 ∷ [])
    ∷ e.Deliver 1 0 (Int (pos 1)) ∷ e.Ready (0 ∷ [])
    ∷ e.Idle ∷ e.Ready (0 ∷ []) ∷ []
sends = refl

abbrev two : List ℕ → List Choice
two name = Start (codes "m") (codes "fails") [] ∷ Start (codes "m") name [] ∷ []

abbrev two_started : List ℕ → List (Event Term)
two_started name = started 0 (codes "fails") [] ∷ e.Ready (0 ∷ []) ∷ started 1 name [] ∷ e.Ready (0 ∷ 1 ∷ []) ∷ []

-- a process ends, and takes another with it that is linked to it
breaks : run acts (two (codes "links") ++ (Run 1 9 ∷ Run 0 1 ∷ Deliver 0 1 ∷ []))
    ≡ two_started (codes "links") ++ (e.Turn 1 0 ∷ e.Ready (0 ∷ [])
    ∷ e.Raise 0 class.Exit boom ∷ e.Exit 0 boom ∷ e.Broken 0 1 boom ∷ e.Turn 0 0 ∷ e.Ready []
    ∷ e.Hit 0 1 boom ∷ e.Exit 1 boom ∷ e.Ready [] ∷ [])
breaks = refl

-- where the link is gone when the signal comes, it is dropped
unlinks : run acts (two (codes "links") ++ (Run 1 9 ∷ Run 0 1 ∷ Input 1 boom ∷ Run 1 9 ∷ Deliver 0 1 ∷ []))
    ≡ two_started (codes "links") ++ (e.Turn 1 0 ∷ e.Ready (0 ∷ [])
    ∷ e.Raise 0 class.Exit boom ∷ e.Exit 0 boom ∷ e.Broken 0 1 boom ∷ e.Turn 0 0 ∷ e.Ready []
    ∷ e.Input 1 boom ∷ e.Ready (1 ∷ []) ∷ e.Recv 1 boom ∷ e.Turn 1 0 ∷ e.Ready []
    ∷ e.Dropped 0 1 ∷ e.Ready [] ∷ [])
unlinks = refl

-- a process that traps exits gets a message
traps : run acts (two (codes "traps") ++ (Run 1 9 ∷ Run 0 1 ∷ Deliver 0 1 ∷ []))
    ≡ two_started (codes "traps") ++ (e.Turn 1 0 ∷ e.Ready (0 ∷ [])
    ∷ e.Raise 0 class.Exit boom ∷ e.Exit 0 boom ∷ e.Broken 0 1 boom ∷ e.Turn 0 0 ∷ e.Ready []
    ∷ e.Deliver 0 1 (tuple (Atom (codes "EXIT") ∷ Pid 0 0 ∷ boom ∷ [])) ∷ e.Ready (1 ∷ []) ∷ [])
traps = refl

-- a timer: not due, then due; the clock stays at its limit
sleeps : run acts (Start (codes "m") (codes "sleeps") [] ∷ Run 0 1 ∷ Advance 4999 ∷ Advance 1 ∷ Run 0 1 ∷ Deliver 0 0 ∷ Advance (2 ^ 62) ∷ [])
    ≡ started 0 (codes "sleeps") [] ∷ e.Ready (0 ∷ []) ∷ e.Turn 0 0 ∷ e.Ready []
    ∷ e.Clock 4999 ∷ e.Ready [] ∷ e.Clock 5000 ∷ e.Ready (0 ∷ [])
    ∷ e.Send 0 0 (Int (pos 7)) ∷ e.Answer 0 (Int (pos 7)) ∷ e.Exit 0 normal ∷ e.Turn 0 0 ∷ e.Ready []
    ∷ e.Dropped 0 0 ∷ e.Ready [] ∷ e.Clock (2 ^ 62) ∷ e.Ready [] ∷ []
sleeps = refl

-- `auto`: a turn, an advance to the deadline, a turn, and the delivery; with nothing to do it is idle
rounds : run acts (Start (codes "m") (codes "sleeps") [] ∷ Auto 9 ∷ Auto 1 ∷ [])
    ≡ started 0 (codes "sleeps") [] ∷ e.Ready (0 ∷ []) ∷ e.Turn 0 0 ∷ e.Ready [] ∷ e.Clock 5000 ∷ e.Ready (0 ∷ [])
    ∷ e.Send 0 0 (Int (pos 7)) ∷ e.Answer 0 (Int (pos 7)) ∷ e.Exit 0 normal ∷ e.Turn 0 0 ∷ e.Ready [] ∷ e.Dropped 0 0 ∷ e.Ready []
    ∷ e.Idle ∷ e.Ready [] ∷ []
rounds = refl

-- a process that is made with a link ends with the one that made it, once the signal comes
makes : run acts (Start (codes "m") (codes "makes") [] ∷ Run 0 1 ∷ Deliver 0 1 ∷ [])
    ≡ started 0 (codes "makes") [] ∷ e.Ready (0 ∷ [])
    ∷ e.Spawn 0 1 (begin.Fun boom) ∷ e.Exit 0 boom ∷ e.Broken 0 1 boom ∷ e.Turn 0 0 ∷ e.Ready (1 ∷ [])
    ∷ e.Hit 0 1 boom ∷ e.Exit 1 boom ∷ e.Ready [] ∷ []
makes = refl

-- ---- a code by a table: a process is what it does in its turns to come, and then it runs on

record Did : Type 0 where
  events : List (Event Term)
  outcome : Outcome
  view : View

abbrev Deeds : Type 0
Deeds = List (View → Did)

abbrev says : List (Event Term) → Outcome → View → Did
says events outcome v = record { events = events; outcome = outcome; view = v }

abbrev links : List ℕ → Outcome → View → Did
links numbers outcome v = record { events = []; outcome = outcome; view = record v { links = numbers } }

abbrev sleeps_until : ℕ → View → Did
sleeps_until deadline v = record { events = []; outcome = Waits; view = record v { timer = Some deadline } }

-- it takes all messages
abbrev takes : View → Did
takes v = record { events = map (e.Recv v.me) v.messages; outcome = Waits; view = record v { messages = []; save = 0 } }

-- it prints what it sees
abbrev number : ℕ → Term
number n = Int (pos n)

abbrev numbers : List ℕ → Term
numbers ns = list (map number ns)

abbrev sees : View → Did
sees v = says (e.Print v.me (tuple (number v.me ∷ number v.clock ∷ number v.next_pid ∷ number v.next_ref ∷ numbers v.links ∷ numbers v.live ∷ [])) ∷ []) Runs v

abbrev after : Did → Deeds → Turned Deeds
after did rest = record { events = did.events; outcome = did.outcome; view = did.view; state = rest }

abbrev next : View → Deeds → Turned Deeds
next v [] = after (says [] Runs v) []
next v (deed ∷ deeds) = after (deed v) deeds

-- the place in the table is the one argument, or the fun
abbrev begun : List Deeds → Begin Term → Deeds
begun table (begin.Call m name (Cons (Int (pos n)) Nil)) = unwrap_or (slice_get table n) []
begun table (begin.Fun (Int (pos n))) = unwrap_or (slice_get table n) []
begun table _ = []

-- as deep as deeds are left
abbrev doing : List Deeds → Code Deeds
doing table = record { begin = begun table; turn = λ transfers v deeds. next v deeds; depth = λ deeds. length deeds }

-- the process of that number begins at that place of the table
abbrev begins : ℕ → Choice
begins n = Start (codes "m") (codes "f") (number n ∷ [])

abbrev began : ℕ → Event Term
began n = started n (codes "f") (number n ∷ [])

abbrev one_begins : List Choice
one_begins = begins 0 ∷ []

abbrev one_began : List (Event Term)
one_began = began 0 ∷ e.Ready (0 ∷ []) ∷ []

abbrev two_begin : List Choice
two_begin = begins 0 ∷ begins 1 ∷ []

abbrev two_began : List (Event Term)
two_began = one_began ++ (began 1 ∷ e.Ready (0 ∷ 1 ∷ []) ∷ [])

abbrev three_begin : List Choice
three_begin = begins 0 ∷ begins 1 ∷ begins 2 ∷ []

abbrev three_began : List (Event Term)
three_began = two_began ++ (began 2 ∷ e.Ready (0 ∷ 1 ∷ 2 ∷ []) ∷ [])

abbrev kill : Term
kill = Atom (codes "kill")

abbrev killed : Term
killed = Atom (codes "killed")

abbrev noproc : Term
noproc = Atom (codes "noproc")

abbrev exit_from_1 : Term → Term
exit_from_1 reason = tuple (Atom (codes "EXIT") ∷ Pid 0 1 ∷ reason ∷ [])

-- ---- events of turns

-- a turn gives its events as they are; a process that ended is no more deep
gives : run (doing ((says (e.Print 0 boom ∷ e.Lost 0 normal ∷ e.Raise 0 class.Throw boom ∷ []) Runs ∷ says (e.Fault 0 ∷ []) (Ends (Atom (codes "fault"))) ∷ says [] Runs ∷ []) ∷ [])) (one_begins ++ (Run 0 1 ∷ Run 0 1 ∷ Run 0 1 ∷ []))
    ≡ one_began ++ (e.Print 0 boom ∷ e.Lost 0 normal ∷ e.Raise 0 class.Throw boom ∷ e.Turn 0 2 ∷ e.Ready (0 ∷ [])
    ∷ e.Fault 0 ∷ e.Exit 0 (Atom (codes "fault")) ∷ e.Turn 0 0 ∷ e.Ready []
    ∷ e.Idle ∷ e.Ready [] ∷ [])
gives = refl

-- what a process sees
views : run (doing ((says [] (Ends normal) ∷ []) ∷ (links (2 ∷ []) Runs ∷ sees ∷ []) ∷ (sees ∷ []) ∷ [])) (three_begin ++ (Run 1 1 ∷ Run 0 1 ∷ Advance 7 ∷ Run 1 1 ∷ Run 2 1 ∷ []))
    ≡ three_began ++ (e.Turn 1 1 ∷ e.Ready (0 ∷ 1 ∷ 2 ∷ []) ∷ e.Exit 0 normal ∷ e.Turn 0 0 ∷ e.Ready (1 ∷ 2 ∷ []) ∷ e.Clock 7 ∷ e.Ready (1 ∷ 2 ∷ [])
    ∷ e.Print 1 (tuple (number 1 ∷ number 7 ∷ number 3 ∷ number 0 ∷ numbers (2 ∷ []) ∷ numbers (1 ∷ 2 ∷ []) ∷ [])) ∷ e.Turn 1 0 ∷ e.Ready (1 ∷ 2 ∷ [])
    ∷ e.Print 2 (tuple (number 2 ∷ number 7 ∷ number 3 ∷ number 0 ∷ numbers (1 ∷ []) ∷ numbers (1 ∷ 2 ∷ []) ∷ [])) ∷ e.Turn 2 0 ∷ e.Ready (1 ∷ 2 ∷ []) ∷ [])
views = refl

abbrev makes_two : View → Did
makes_two v = record {
  events = e.Spawn v.me v.next_pid (begin.Fun (number 0)) ∷ e.Spawn v.me (v.next_pid + 1) (how (codes "f") (number 1 ∷ [])) ∷ [];
  outcome = Waits;
  view = record v { links = (v.next_pid + 1) ∷ [] };
}

-- two processes are made in one turn, in order, the second with a link
spawns : run (doing ((makes_two ∷ []) ∷ (sees ∷ []) ∷ [])) (one_begins ++ (Run 0 1 ∷ Run 1 1 ∷ Run 2 1 ∷ []))
    ≡ one_began ++ (e.Spawn 0 1 (begin.Fun (number 0)) ∷ e.Spawn 0 2 (how (codes "f") (number 1 ∷ [])) ∷ e.Turn 0 0 ∷ e.Ready (1 ∷ 2 ∷ [])
    ∷ e.Spawn 1 3 (begin.Fun (number 0)) ∷ e.Spawn 1 4 (how (codes "f") (number 1 ∷ [])) ∷ e.Turn 1 0 ∷ e.Ready (2 ∷ 3 ∷ 4 ∷ [])
    ∷ e.Print 2 (tuple (number 2 ∷ number 0 ∷ number 5 ∷ number 0 ∷ numbers (0 ∷ []) ∷ numbers (0 ∷ 1 ∷ 2 ∷ 3 ∷ 4 ∷ []) ∷ [])) ∷ e.Turn 2 0 ∷ e.Ready (2 ∷ 3 ∷ 4 ∷ []) ∷ [])
spawns = refl

-- ---- exit signals by `exit/2`

-- process 0 traps exits or does not; process 1 sends it such a signal, which is delivered
abbrev ByExit : (trapping : Bool) → (reason : Term) → List (Event Term) → Type 0
ByExit trapping reason last =
    run (doing (((λ v. record { events = []; outcome = Waits; view = record v { trapping = trapping } }) ∷ []) ∷ (says (e.Signal 1 0 reason ∷ []) Waits ∷ []) ∷ [])) (two_begin ++ (Run 0 1 ∷ Run 1 1 ∷ Deliver 1 0 ∷ []))
    ≡ two_began ++ (e.Turn 0 0 ∷ e.Ready (1 ∷ []) ∷ e.Signal 1 0 reason ∷ e.Turn 1 0 ∷ e.Ready [] ∷ last)

exits : ByExit false boom (e.Hit 1 0 boom ∷ e.Exit 0 boom ∷ e.Ready [] ∷ [])
exits = refl

exits_normal : ByExit false normal (e.Dropped 1 0 ∷ e.Ready [] ∷ [])
exits_normal = refl

exits_kill : ByExit false kill (e.Hit 1 0 killed ∷ e.Exit 0 killed ∷ e.Ready [] ∷ [])
exits_kill = refl

exits_trapped : ByExit true boom (e.Deliver 1 0 (exit_from_1 boom) ∷ e.Ready (0 ∷ []) ∷ [])
exits_trapped = refl

exits_normal_trapped : ByExit true normal (e.Deliver 1 0 (exit_from_1 normal) ∷ e.Ready (0 ∷ []) ∷ [])
exits_normal_trapped = refl

-- a process that traps exits is killed all the same
exits_kill_trapped : ByExit true kill (e.Hit 1 0 killed ∷ e.Exit 0 killed ∷ e.Ready [] ∷ [])
exits_kill_trapped = refl

-- by a signal of its own `normal` ends a process
exits_itself : run (doing ((says (e.Signal 0 0 normal ∷ []) Runs ∷ []) ∷ [])) (one_begins ++ (Run 0 1 ∷ Deliver 0 0 ∷ []))
    ≡ one_began ++ (e.Signal 0 0 normal ∷ e.Turn 0 0 ∷ e.Ready (0 ∷ []) ∷ e.Hit 0 0 normal ∷ e.Exit 0 normal ∷ e.Ready [] ∷ [])
exits_itself = refl

-- ---- exit signals by the link

-- process 0, which traps exits or does not, links to process 1; that ends
abbrev ByLink : (trapping : Bool) → (reason : Term) → List (Event Term) → Type 0
ByLink trapping reason last =
    run (doing (((λ v. record { events = []; outcome = Waits; view = record v { trapping = trapping; links = 1 ∷ [] } }) ∷ []) ∷ (says [] (Ends reason) ∷ []) ∷ [])) (two_begin ++ (Run 0 1 ∷ Run 1 1 ∷ Deliver 1 0 ∷ []))
    ≡ two_began ++ (e.Turn 0 0 ∷ e.Ready (1 ∷ []) ∷ e.Exit 1 reason ∷ e.Broken 1 0 reason ∷ e.Turn 1 0 ∷ e.Ready [] ∷ last)

link_ends : ByLink false boom (e.Hit 1 0 boom ∷ e.Exit 0 boom ∷ e.Ready [] ∷ [])
link_ends = refl

link_ends_normal : ByLink false normal (e.Dropped 1 0 ∷ e.Ready [] ∷ [])
link_ends_normal = refl

-- by the link `kill` is a reason like others
link_ends_kill : ByLink false kill (e.Hit 1 0 kill ∷ e.Exit 0 kill ∷ e.Ready [] ∷ [])
link_ends_kill = refl

link_ends_kill_trapped : ByLink true kill (e.Deliver 1 0 (exit_from_1 kill) ∷ e.Ready (0 ∷ []) ∷ [])
link_ends_kill_trapped = refl

link_ends_normal_trapped : ByLink true normal (e.Deliver 1 0 (exit_from_1 normal) ∷ e.Ready (0 ∷ []) ∷ [])
link_ends_normal_trapped = refl

-- a signal `normal` that is dropped has taken the link away
link_is_gone : run (doing ((links (1 ∷ []) Waits ∷ says [] (Ends boom) ∷ []) ∷ (says [] (Ends normal) ∷ []) ∷ [])) (two_begin ++ (Run 0 1 ∷ Run 1 1 ∷ Deliver 1 0 ∷ Input 0 boom ∷ Run 0 1 ∷ []))
    ≡ two_began ++ (e.Turn 0 1 ∷ e.Ready (1 ∷ []) ∷ e.Exit 1 normal ∷ e.Broken 1 0 normal ∷ e.Turn 1 0 ∷ e.Ready [] ∷ e.Dropped 1 0 ∷ e.Ready []
    ∷ e.Input 0 boom ∷ e.Ready (0 ∷ []) ∷ e.Exit 0 boom ∷ e.Turn 0 0 ∷ e.Ready [] ∷ [])
link_is_gone = refl

-- an unlink while the signal is on its way: the process runs on, and its own end is told to no one
unlinked : run (doing ((links (1 ∷ []) Runs ∷ links [] Runs ∷ says [] (Ends boom) ∷ []) ∷ (says [] (Ends boom) ∷ []) ∷ [])) (two_begin ++ (Run 0 1 ∷ Run 1 1 ∷ Run 0 1 ∷ Deliver 1 0 ∷ Run 0 1 ∷ []))
    ≡ two_began ++ (e.Turn 0 2 ∷ e.Ready (0 ∷ 1 ∷ []) ∷ e.Exit 1 boom ∷ e.Broken 1 0 boom ∷ e.Turn 1 0 ∷ e.Ready (0 ∷ []) ∷ e.Turn 0 1 ∷ e.Ready (0 ∷ [])
    ∷ e.Dropped 1 0 ∷ e.Ready (0 ∷ []) ∷ e.Exit 0 boom ∷ e.Turn 0 0 ∷ e.Ready [] ∷ [])
unlinked = refl

-- an unlink by the other side
unlinked_back : run (doing ((links (1 ∷ []) Runs ∷ says [] (Ends boom) ∷ []) ∷ (links [] Waits ∷ []) ∷ [])) (two_begin ++ (Run 0 1 ∷ Run 1 1 ∷ Run 0 1 ∷ []))
    ≡ two_began ++ (e.Turn 0 1 ∷ e.Ready (0 ∷ 1 ∷ []) ∷ e.Turn 1 0 ∷ e.Ready (0 ∷ []) ∷ e.Exit 0 boom ∷ e.Turn 0 0 ∷ e.Ready [] ∷ [])
unlinked_back = refl

-- linked processes are told by rising numbers, whichever linked first
links_in_order : run (doing ((says [] (Ends boom) ∷ []) ∷ (links (0 ∷ []) Waits ∷ []) ∷ (links (0 ∷ []) Waits ∷ []) ∷ [])) (three_begin ++ (Run 2 1 ∷ Run 1 1 ∷ Run 0 1 ∷ []))
    ≡ three_began ++ (e.Turn 2 0 ∷ e.Ready (0 ∷ 1 ∷ []) ∷ e.Turn 1 0 ∷ e.Ready (0 ∷ []) ∷ e.Exit 0 boom ∷ e.Broken 0 1 boom ∷ e.Broken 0 2 boom ∷ e.Turn 0 0 ∷ e.Ready [] ∷ [])
links_in_order = refl

-- two that are linked end before either hears of it
both_end : run (doing ((links (1 ∷ []) Runs ∷ says [] (Ends boom) ∷ []) ∷ (says [] (Ends normal) ∷ []) ∷ [])) (two_begin ++ (Run 0 1 ∷ Run 1 1 ∷ Run 0 1 ∷ Deliver 1 0 ∷ Deliver 0 1 ∷ []))
    ≡ two_began ++ (e.Turn 0 1 ∷ e.Ready (0 ∷ 1 ∷ []) ∷ e.Exit 1 normal ∷ e.Broken 1 0 normal ∷ e.Turn 1 0 ∷ e.Ready (0 ∷ [])
    ∷ e.Exit 0 boom ∷ e.Broken 0 1 boom ∷ e.Turn 0 0 ∷ e.Ready [] ∷ e.Dropped 1 0 ∷ e.Ready [] ∷ e.Dropped 0 1 ∷ e.Ready [] ∷ [])
both_end = refl

-- a link to a process that ended
links_to_ended : run (doing ((says [] (Ends boom) ∷ []) ∷ ((λ v. record { events = e.Broken 0 1 noproc ∷ []; outcome = Waits; view = record v { links = 0 ∷ [] } }) ∷ []) ∷ [])) (two_begin ++ (Run 0 1 ∷ Run 1 1 ∷ Deliver 0 1 ∷ []))
    ≡ two_began ++ (e.Exit 0 boom ∷ e.Turn 0 0 ∷ e.Ready (1 ∷ []) ∷ e.Broken 0 1 noproc ∷ e.Turn 1 0 ∷ e.Ready [] ∷ e.Hit 0 1 noproc ∷ e.Exit 1 noproc ∷ e.Ready [] ∷ [])
links_to_ended = refl

-- ---- messages

-- a message to a process that ended is dropped, and an input to it, or to none, is idle
late : run (doing ((says [] (Ends normal) ∷ []) ∷ (says (e.Send 1 0 boom ∷ []) Waits ∷ []) ∷ [])) (two_begin ++ (Run 0 1 ∷ Run 1 1 ∷ Deliver 1 0 ∷ Input 0 boom ∷ Input 2 boom ∷ Deliver 1 0 ∷ Run 1 1 ∷ Run 2 1 ∷ []))
    ≡ two_began ++ (e.Exit 0 normal ∷ e.Turn 0 0 ∷ e.Ready (1 ∷ []) ∷ e.Send 1 0 boom ∷ e.Turn 1 0 ∷ e.Ready [] ∷ e.Dropped 1 0 ∷ e.Ready []
    ∷ e.Idle ∷ e.Ready [] ∷ e.Idle ∷ e.Ready [] ∷ e.Idle ∷ e.Ready [] ∷ e.Idle ∷ e.Ready [] ∷ e.Idle ∷ e.Ready [] ∷ [])
late = refl

-- messages stand in the mailbox in the order in which they came
mailbox : run (doing (((λ v. record { events = []; outcome = Waits; view = record v { trapping = true } }) ∷ takes ∷ []) ∷ (says (e.Signal 1 0 boom ∷ e.Send 1 0 (number 3) ∷ []) Waits ∷ []) ∷ []))
    (two_begin ++ (Run 0 1 ∷ Run 1 1 ∷ Input 0 (number 1) ∷ Deliver 1 0 ∷ Input 0 (number 2) ∷ Deliver 1 0 ∷ Run 0 1 ∷ []))
    ≡ two_began ++ (e.Turn 0 1 ∷ e.Ready (1 ∷ []) ∷ e.Signal 1 0 boom ∷ e.Send 1 0 (number 3) ∷ e.Turn 1 0 ∷ e.Ready []
    ∷ e.Input 0 (number 1) ∷ e.Ready (0 ∷ []) ∷ e.Deliver 1 0 (exit_from_1 boom) ∷ e.Ready (0 ∷ []) ∷ e.Input 0 (number 2) ∷ e.Ready (0 ∷ []) ∷ e.Deliver 1 0 (number 3) ∷ e.Ready (0 ∷ [])
    ∷ e.Recv 0 (number 1) ∷ e.Recv 0 (exit_from_1 boom) ∷ e.Recv 0 (number 2) ∷ e.Recv 0 (number 3) ∷ e.Turn 0 0 ∷ e.Ready [] ∷ [])
mailbox = refl

-- a message before the save place does not wake a process
saves : run (doing (((λ v. record { events = []; outcome = Waits; view = record v { save = length v.messages } }) ∷ []) ∷ [])) (one_begins ++ (Input 0 boom ∷ Run 0 1 ∷ Run 0 1 ∷ Input 0 normal ∷ []))
    ≡ one_began ++ (e.Input 0 boom ∷ e.Ready (0 ∷ []) ∷ e.Turn 0 0 ∷ e.Ready [] ∷ e.Idle ∷ e.Ready [] ∷ e.Input 0 normal ∷ e.Ready (0 ∷ []) ∷ [])
saves = refl

-- ---- the ends of numbers

-- the clock stays at its last time; a timer for that time is due then, and one past it never
last_time : run (doing ((sleeps_until 4611686018427387904 ∷ []) ∷ (sleeps_until 4611686018427387905 ∷ []) ∷ [])) (two_begin ++ (Run 0 1 ∷ Run 1 1 ∷ Advance 4611686018427387903 ∷ Advance 5 ∷ Advance 1 ∷ []))
    ≡ two_began ++ (e.Turn 0 0 ∷ e.Ready (1 ∷ []) ∷ e.Turn 1 0 ∷ e.Ready []
    ∷ e.Clock 4611686018427387903 ∷ e.Ready [] ∷ e.Clock 4611686018427387904 ∷ e.Ready (0 ∷ []) ∷ e.Clock 4611686018427387904 ∷ e.Ready (0 ∷ []) ∷ [])
last_time = refl

-- `auto` comes to the one, and not to the other
auto_to_last_time : run (doing ((sleeps_until 4611686018427387904 ∷ []) ∷ [])) (one_begins ++ (Run 0 1 ∷ Auto 1 ∷ []))
    ≡ one_began ++ (e.Turn 0 0 ∷ e.Ready [] ∷ e.Clock 4611686018427387904 ∷ e.Ready (0 ∷ []) ∷ [])
auto_to_last_time = refl

auto_past_last_time : run (doing ((sleeps_until 4611686018427387905 ∷ []) ∷ [])) (one_begins ++ (Run 0 1 ∷ Auto 1 ∷ []))
    ≡ one_began ++ (e.Turn 0 0 ∷ e.Ready [] ∷ e.Idle ∷ e.Ready [] ∷ [])
auto_past_last_time = refl

-- the next reference number is what the turn before left
last_reference : run (doing (((λ v. record { events = []; outcome = Runs; view = record v { next_ref = 4611686018427387904 } }) ∷ (λ v. says (e.Print 0 (Reference 0 v.next_ref) ∷ []) Runs v) ∷ []) ∷ [])) (one_begins ++ (Run 0 1 ∷ Run 0 1 ∷ []))
    ≡ one_began ++ (e.Turn 0 1 ∷ e.Ready (0 ∷ []) ∷ e.Print 0 (Reference 0 4611686018427387904) ∷ e.Turn 0 0 ∷ e.Ready (0 ∷ []) ∷ [])
last_reference = refl

-- where all numbers of processes are used up, a start is idle
no_number : {S : Type 0} (code : Code S) (r : System S) (module' name : List ℕ) (args : List Term) → next_pid r.world ≡ 4611686018427387904
    → (choose code r (Start module' name args)).events ≡ e.Idle ∷ e.Ready (ready r.world) ∷ []
no_number code r module' name args full = ap (λ o. (closed (or_nothing r o)).events) (cond-false (nat_lt (next_pid r.world) limit) (Some _) None (le-ltb (next_pid r.world) limit (omega arith)))

-- ---- `auto`

-- turns go round, and start afresh with each `auto`
auto_turns : run (doing ([] ∷ (says [] Waits ∷ []) ∷ [] ∷ [])) (three_begin ++ (Auto 5 ∷ Auto 1 ∷ []))
    ≡ three_began ++ (e.Turn 0 0 ∷ e.Ready (0 ∷ 1 ∷ 2 ∷ []) ∷ e.Turn 1 0 ∷ e.Ready (0 ∷ 2 ∷ []) ∷ e.Turn 2 0 ∷ e.Ready (0 ∷ 2 ∷ []) ∷ e.Turn 0 0 ∷ e.Ready (0 ∷ 2 ∷ []) ∷ e.Turn 2 0 ∷ e.Ready (0 ∷ 2 ∷ [])
    ∷ e.Turn 0 0 ∷ e.Ready (0 ∷ 2 ∷ []) ∷ [])
auto_turns = refl

-- deliveries come before a turn, the least pair first
auto_delivers : run (doing ((says (e.Send 0 2 boom ∷ e.Send 0 1 boom ∷ []) Waits ∷ []) ∷ (says (e.Send 1 0 boom ∷ []) Waits ∷ []) ∷ (says [] Waits ∷ []) ∷ [])) (three_begin ++ (Run 0 1 ∷ Run 1 1 ∷ Run 2 1 ∷ Auto 1 ∷ []))
    ≡ three_began ++ (e.Send 0 2 boom ∷ e.Send 0 1 boom ∷ e.Turn 0 0 ∷ e.Ready (1 ∷ 2 ∷ []) ∷ e.Send 1 0 boom ∷ e.Turn 1 0 ∷ e.Ready (2 ∷ []) ∷ e.Turn 2 0 ∷ e.Ready []
    ∷ e.Deliver 0 1 boom ∷ e.Ready (1 ∷ []) ∷ e.Deliver 0 2 boom ∷ e.Ready (1 ∷ 2 ∷ []) ∷ e.Deliver 1 0 boom ∷ e.Ready (0 ∷ 1 ∷ 2 ∷ []) ∷ e.Turn 0 0 ∷ e.Ready (0 ∷ 1 ∷ 2 ∷ []) ∷ [])
auto_delivers = refl

-- what deliveries send is delivered too
auto_breaks : run (doing ((says [] (Ends boom) ∷ []) ∷ (links (0 ∷ 2 ∷ []) Waits ∷ []) ∷ (says [] Waits ∷ []) ∷ [])) (three_begin ++ (Run 1 1 ∷ Run 2 1 ∷ Run 0 1 ∷ Auto 1 ∷ []))
    ≡ three_began ++ (e.Turn 1 0 ∷ e.Ready (0 ∷ 2 ∷ []) ∷ e.Turn 2 0 ∷ e.Ready (0 ∷ []) ∷ e.Exit 0 boom ∷ e.Broken 0 1 boom ∷ e.Turn 0 0 ∷ e.Ready []
    ∷ e.Hit 0 1 boom ∷ e.Exit 1 boom ∷ e.Broken 1 2 boom ∷ e.Ready [] ∷ e.Hit 1 2 boom ∷ e.Exit 2 boom ∷ e.Ready [] ∷ [])
auto_breaks = refl

-- the earliest deadline of those that wait; a round is one advance or one turn
auto_advances : run (doing ((sleeps_until 20 ∷ []) ∷ (sleeps_until 10 ∷ []) ∷ ((λ v. record { events = []; outcome = Ends normal; view = record v { timer = Some 5 } }) ∷ []) ∷ [])) (three_begin ++ (Run 0 1 ∷ Run 1 1 ∷ Run 2 1 ∷ Auto 1 ∷ Auto 2 ∷ []))
    ≡ three_began ++ (e.Turn 0 0 ∷ e.Ready (1 ∷ 2 ∷ []) ∷ e.Turn 1 0 ∷ e.Ready (2 ∷ []) ∷ e.Exit 2 normal ∷ e.Turn 2 0 ∷ e.Ready []
    ∷ e.Clock 10 ∷ e.Ready (1 ∷ []) ∷ e.Turn 1 0 ∷ e.Ready (1 ∷ []) ∷ e.Turn 1 0 ∷ e.Ready (1 ∷ []) ∷ [])
auto_advances = refl

-- an advance leaves the turn to the process above the one that ran last
auto_goes_on : run (doing ((sleeps_until 10 ∷ []) ∷ (sleeps_until 10 ∷ []) ∷ [])) (two_begin ++ (Run 1 1 ∷ Auto 3 ∷ []))
    ≡ two_began ++ (e.Turn 1 0 ∷ e.Ready (0 ∷ []) ∷ e.Turn 0 0 ∷ e.Ready [] ∷ e.Clock 10 ∷ e.Ready (0 ∷ 1 ∷ []) ∷ e.Turn 1 0 ∷ e.Ready (0 ∷ 1 ∷ []) ∷ [])
auto_goes_on = refl

-- a code that prints how many transfers a turn may make
abbrev counting : Code (Unit {0})
counting = record { begin = λ how. tt; turn = λ transfers v state. record { events = e.Print v.me (number transfers) ∷ []; outcome = Runs; view = v; state = state }; depth = λ state. 0 }

auto_transfers : run counting (one_begins ++ (Run 0 5 ∷ Auto 1 ∷ []))
    ≡ one_began ++ (e.Print 0 (number 5) ∷ e.Turn 0 0 ∷ e.Ready (0 ∷ []) ∷ e.Print 0 (number 2000) ∷ e.Turn 0 0 ∷ e.Ready (0 ∷ []) ∷ [])
auto_transfers = refl

-- a delivery that is dropped is something to do
auto_drops : run (doing ((says (e.Send 0 1 boom ∷ []) (Ends normal) ∷ []) ∷ (says [] (Ends normal) ∷ []) ∷ [])) (two_begin ++ (Run 1 1 ∷ Run 0 1 ∷ Auto 7 ∷ Auto 7 ∷ []))
    ≡ two_began ++ (e.Exit 1 normal ∷ e.Turn 1 0 ∷ e.Ready (0 ∷ []) ∷ e.Send 0 1 boom ∷ e.Exit 0 normal ∷ e.Turn 0 0 ∷ e.Ready []
    ∷ e.Dropped 0 1 ∷ e.Ready [] ∷ e.Idle ∷ e.Ready [] ∷ [])
auto_drops = refl

-- nothing has begun
idles : run (doing []) (Run 0 1 ∷ Deliver 0 0 ∷ Input 0 boom ∷ Auto 1 ∷ Advance 1 ∷ []) ≡ e.Idle ∷ e.Ready [] ∷ e.Idle ∷ e.Ready [] ∷ e.Idle ∷ e.Ready [] ∷ e.Idle ∷ e.Ready [] ∷ e.Clock 1 ∷ e.Ready [] ∷ []
idles = refl
