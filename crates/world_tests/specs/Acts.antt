-- A code that does what stands in a table: each process is at a row (Erlang Reference Manual, "Processes").
use Rattle.std.specs.Prelude.{ℕ, suc, ◌+◌, min, Bool, true, false, not, nat_eq, nat_lt, ◌&&◌, if◌then◌else◌, List, [], ◌∷◌, ◌++◌, length, take, drop, slice_get, codes, pos, Option, None, Some}
use Rattle.ej_term.specs.Term.{Term, Int, Atom, Cons}
use Rattle.ej_term.specs.declared.class.Class3.TheVariants as class
use Rattle.ej_world.specs.declared.effect.Begin.{Begin}
use Rattle.ej_world.specs.declared.effect.Begin.TheVariants as begin
use Rattle.ej_world.specs.declared.event.Event.{Event}
use Rattle.ej_world.specs.declared.event.Event.TheVariants as event
use Rattle.ej_world.specs.Choices.{View, Outcome, Runs, Waits, Ends, Turned, Code, holds, with_number, without_number}
use Rattle.ej_world.specs.Lawful.{States}
use Rattle.ej_world.specs.World.{limit}
use Rattle.world_tests.specs.declared.acts.Act.{Act}
use Rattle.world_tests.specs.declared.acts.Act.TheVariants as act
use Rattle.world_tests.specs.declared.acts.Reason.{Reason}
use Rattle.world_tests.specs.declared.acts.Reason.TheVariants as reason

-- ---- beginnings

-- an integer from 0 names a row, and else it is the first
abbrev pub row_of : Term → ℕ
row_of (Int (pos n)) = n
row_of _ = 0

-- the first argument
abbrev pub first_row : Term → ℕ
first_row (Cons head tail) = row_of head
first_row _ = 0

abbrev pub begin_row : Begin Term → ℕ
begin_row (begin.Call module' name args) = first_row args
begin_row (begin.Fun f) = row_of f

-- ---- acts

abbrev pub reason_of : Reason → Term
reason_of reason.Normal = Atom (codes "normal")
reason_of reason.Kill = Atom (codes "kill")
reason_of reason.Boom = Atom (codes "boom")
reason_of reason.Seven = Int (pos 7)

-- what is seen of an act, how it leaves the process, and what it makes of the view
pub record Done : Type 0 where
  pub events : List (Event Term)
  pub outcome : Outcome
  pub view : View

abbrev pub done : List (Event Term) → Outcome → View → Done
done events outcome v = record { events = events; outcome = outcome; view = v }

-- the view stays as it is
abbrev pub seen : Event Term → View → Done
seen e v = done (e ∷ []) Runs v

-- the longest time for which a timer can be set
abbrev pub longest : ℕ
longest = 4294967295

-- the message at the save place is removed from the mailbox, if there is one, and the next receive begins at the oldest
abbrev pub removed : (me : ℕ) → Option Term → List (Event Term)
removed me None = []
removed me (Some message) = event.Recv me message ∷ []

abbrev pub receive : View → Done
receive v =
    done (removed v.me (slice_get v.messages v.save)) Runs (record v { messages = take v.save v.messages ++ drop (suc v.save) v.messages; save = 0; timer = None })

-- the next message is looked at
abbrev pub pass : View → Done
pass v = done [] Waits (record v { save = (if nat_lt v.save (length v.messages) then v.save + 1 else v.save) })

-- a message to a process, or to none
abbrev pub send : (to : ℕ) → Term → View → Done
send to message v = seen (if nat_lt to v.next_pid then event.Send v.me to message else event.Lost v.me message) v

abbrev pub exit : (to : ℕ) → Term → View → Done
exit to why v = seen (if nat_lt to v.next_pid then event.Signal v.me to why else event.Lost v.me why) v

-- another process, that it is not linked to yet
abbrev pub may_link : (other : ℕ) → View → Bool
may_link other v = not (nat_eq other v.me) && (nat_lt other v.next_pid && not (holds v.links other))

-- a link to a process that ended breaks at once
abbrev pub broken : (live : Bool) → (other me : ℕ) → List (Event Term)
broken true other me = []
broken false other me = event.Broken other me (Atom (codes "noproc")) ∷ []

abbrev pub link : (other : ℕ) → View → Done
link other v =
    if may_link other v then done (broken (holds v.live other) other v.me) Runs (record v { links = with_number other v.links }) else done [] Runs v

abbrev pub with_link : (linked : Bool) → ℕ → List ℕ → List ℕ
with_link true made links = links ++ made ∷ []
with_link false made links = links

-- a process is made where there is a number for it
abbrev pub spawn : (row : Term) → (linked : Bool) → View → Done
spawn row linked v =
    if nat_lt v.next_pid limit
    then done (event.Spawn v.me v.next_pid (begin.Fun row) ∷ []) Runs
    (record v { next_pid = v.next_pid + 1; live = v.live ++ v.next_pid ∷ []; links = with_link linked v.next_pid v.links })
    else done [] Runs v

abbrev pub sleep : (ms : ℕ) → View → Done
sleep ms v = done [] Waits (record v { timer = Some (v.clock + min ms longest) })

abbrev pub unlink : (other : ℕ) → View → Done
unlink other v = done [] Runs (record v { links = without_number other v.links })

abbrev pub trap : View → Done
trap v = done [] Runs (record v { trapping = true })

abbrev pub print : Term → View → Done
print t v = seen (event.Print v.me t) v

abbrev pub raise : (why : Term) → View → Done
raise why v = seen (event.Raise v.me class.Exit why) v

abbrev pub answer : Term → View → Done
answer t v = seen (event.Answer v.me t) v

abbrev pub doing : Act → View → Done
doing act.Rest v = done [] Runs v
doing act.Wait v = done [] Waits v
doing (act.Sleep ms) v = sleep ms v
doing act.Receive v = receive v
doing act.Pass v = pass v
doing (act.Send to n) v = send to (Int n) v
doing (act.Exit to why) v = exit to (reason_of why) v
doing (act.Link other) v = link other v
doing (act.Unlink other) v = unlink other v
doing act.Trap v = trap v
doing (act.Spawn row linked) v = spawn (Int row) linked v
doing (act.Print n) v = print (Int n) v
doing (act.Raise why) v = raise (reason_of why) v
doing (act.Answer n) v = answer (Int n) v
doing act.Fault v = seen (event.Fault v.me) v
doing (act.End why) v = done [] (Ends (reason_of why)) v

-- ---- the code

-- a turn does one act, and goes on at that row
abbrev pub turned : Done → (row : ℕ) → Turned ℕ
turned d row = record { events = d.events; outcome = d.outcome; view = d.view; state = row }

-- behind the last row a process rests
abbrev pub turn_at : Option Act → (row : ℕ) → View → Turned ℕ
turn_at None row v = turned (done [] Runs v) row
turn_at (Some a) row v = turned (doing a v) (row + 1)

abbrev pub acts : List Act → Code ℕ
acts rows =
    record {
      begin = begin_row;
      turn = λ transfers v row. turn_at (slice_get rows row) row v;
      depth = λ row. row;
    }

abbrev pub any_row : States ℕ
any_row status row = Unit {0}
