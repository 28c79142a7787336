-- The code of a table is lawful.
use Rattle.std.proofs.Common.{◌≡◌, ℕ, zero, suc, ◌+◌, ◌<◌, ◌≤◌, min, Bool, true, false, not, nat_eq, nat_lt, ◌&&◌, List, [], ◌∷◌, ◌++◌, length, take, drop, Option, None, Some, inl, inr, refl, sym, ap, ◌∙◌, subst, arith}
use Rattle.std.specs.Prelude.{if◌then◌else◌, slice_get}
use Rattle.std.proofs.lemmas.Bool.{ltb-true, eq-eqb, and_parts, ne_eqb}
use Rattle.std.proofs.lemmas.List.{append-nil}
use Rattle.ej_term.specs.Term.{Term, Int}
use Rattle.ej_world.specs.declared.effect.Begin.TheVariants as begin
use Rattle.ej_world.specs.declared.event.Event.{Event}
use Rattle.ej_world.specs.declared.event.Event.TheVariants as event
use Rattle.ej_world.specs.Choices.{View, Outcome, Runs, Waits, Ends, status_after, holds, with_number, without_number}
use Rattle.ej_world.specs.Lawful.{RisingBelow, MeetsView, MayGiveAll, made, received, LosesAll, TimerAfter, Kept, LawfulTurn, Lawful}
use Rattle.ej_world.specs.World.{limit}
use Rattle.ej_world.proofs.LawfulLaw.{held_below, within_last, lacks_last}
use Rattle.ej_world.proofs.Numbers.{within-grows, within-with, within-without, lacks-with, lacks-without}
use Rattle.term_heap.specs.declared.heap.Heap.{Heap}
use Rattle.term_heap.specs.View.{Keeps}
use Rattle.proc_sched.specs.Calls.{Stays}
use Rattle.world_tests.specs.declared.acts.Act.{Act}
use Rattle.world_tests.specs.declared.acts.Act.TheVariants as act
use Rattle.world_tests.specs.Acts.{done, seen, longest, removed, may_link, broken, with_link, doing, turned, turn_at, acts, any_row, reason_of}

-- the element at a place, with what is before and behind it
splits-at : (ms : List Term) (place : ℕ) (m : Term) → slice_get ms place ≡ Some m → ms ≡ take place ms ++ m ∷ drop (suc place) ms
splits-at [] place m e = absurd cc
splits-at (n ∷ ms) zero m e = let same : n ≡ m = cc in ap (λ k. k ∷ ms) same
splits-at (n ∷ ms) (suc k) m e = ap (λ ms. n ∷ ms) (splits-at ms k m e)

none-at : (ms : List Term) (place : ℕ) → slice_get ms place ≡ None → take place ms ++ drop (suc place) ms ≡ ms
none-at [] zero e = refl
none-at [] (suc k) e = refl
none-at (n ∷ ms) zero e = absurd cc
none-at (n ∷ ms) (suc k) e = ap (λ ms. n ∷ ms) (none-at ms k e)

is-false : (b : Bool) → not b ≡ true → b ≡ false
is-false true e = absurd cc
is-false false e = refl

-- any row will do
any-state : (o : Outcome) (row : ℕ) → Kept any_row (status_after o) row
any-state Runs row = tt
any-state Waits row = tt
any-state (Ends reason) row = tt

module _ (v : View) (meets : MeetsView v) (row : ℕ) where
  same-timer : (o : Option ℕ) → v.timer ≡ o → TimerAfter v.clock v.timer o
  same-timer None e = tt
  same-timer (Some deadline) e = inl e

  -- a turn that makes no process
  makes-none : (events : List (Event Term)) (o : Outcome) (messages : List Term) (save : ℕ) (links : List ℕ) (trapping : Bool) (timer : Option ℕ)
      → MayGiveAll v.me v.next_pid v.live events → made events ≡ [] → LosesAll (received events) v.messages messages → save ≤ length messages
      → RisingBelow v.next_pid links → holds links v.me ≡ false → TimerAfter v.clock v.timer timer
      → LawfulTurn any_row v (turned (done events o (record v { messages = messages; save = save; links = links; trapping = trapping; timer = timer })) row)
  makes-none events o messages save links trapping timer may none loses le rising lacks after = record {
    me = refl;
    clock = refl;
    events = may;
    next_pid = omega (arith, ap length none);
    live = sym (ap (λ ns. v.live ++ ns) none ∙ append-nil v.live);
    next_ref = omega arith;
    pids_end = meets.next_pid;
    refs_end = meets.next_ref;
    links = rising;
    not_itself = lacks;
    messages = loses;
    save = le;
    timer = after;
    state = any-state o row;
  }

  -- the view stays
  stays : (events : List (Event Term)) (o : Outcome) → MayGiveAll v.me v.next_pid v.live events → made events ≡ [] → received events ≡ [] → LawfulTurn any_row v (turned (done events o v) row)
  stays events o may none no_message =
      makes-none events o v.messages v.save v.links v.trapping v.timer may none (subst (λ ms. LosesAll ms v.messages v.messages) (sym no_message) refl) meets.save meets.links meets.not_itself (same-timer v.timer refl)

  links-change : (events : List (Event Term)) (links : List ℕ) → MayGiveAll v.me v.next_pid v.live events → made events ≡ [] → received events ≡ [] → RisingBelow v.next_pid links → holds links v.me ≡ false
      → LawfulTurn any_row v (turned (done events Runs (record v { links = links })) row)
  links-change events links may none no_message rising lacks =
      makes-none events Runs v.messages v.save links v.trapping v.timer may none (subst (λ ms. LosesAll ms v.messages v.messages) (sym no_message) refl) meets.save rising lacks (same-timer v.timer refl)

  sets-timer : (ms : ℕ) → LawfulTurn any_row v (turned (doing (act.Sleep ms) v) row)
  sets-timer ms = makes-none [] Waits v.messages v.save v.links v.trapping (Some (v.clock + min ms longest)) tt refl refl meets.save meets.links meets.not_itself (inr (omega arith))

  receives : (o : Option Term) → slice_get v.messages v.save ≡ o
      → LawfulTurn any_row v (turned (done (removed v.me o) Runs (record v { messages = take v.save v.messages ++ drop (suc v.save) v.messages; save = 0; timer = None })) row)
  receives None e = makes-none [] Runs (take v.save v.messages ++ drop (suc v.save) v.messages) 0 v.links v.trapping None tt refl (none-at v.messages v.save e) (omega arith) meets.links meets.not_itself tt
  receives (Some m) e =
      makes-none (event.Recv v.me m ∷ []) Runs (take v.save v.messages ++ drop (suc v.save) v.messages) 0 v.links v.trapping None (refl, tt) refl
      (_, record { front = take v.save v.messages; back = drop (suc v.save) v.messages; was = splits-at v.messages v.save m e; is = refl }, refl) (omega arith) meets.links meets.not_itself tt

  passes : (b : Bool) → nat_lt v.save (length v.messages) ≡ b → LawfulTurn any_row v (turned (done [] Waits (record v { save = (if b then v.save + 1 else v.save) })) row)
  passes true e = makes-none [] Waits v.messages (v.save + 1) v.links v.trapping v.timer tt refl refl (omega (arith, ltb-true v.save (length v.messages) e)) meets.links meets.not_itself (same-timer v.timer refl)
  passes false e = stays [] Waits tt refl refl

  sends : (to : ℕ) (message : Term) (b : Bool) → nat_lt to v.next_pid ≡ b → LawfulTurn any_row v (turned (seen (if b then event.Send v.me to message else event.Lost v.me message) v) row)
  sends to message true e = stays (event.Send v.me to message ∷ []) Runs ((refl, ltb-true to v.next_pid e), tt) refl refl
  sends to message false e = stays (event.Lost v.me message ∷ []) Runs (refl, tt) refl refl

  exits : (to : ℕ) (why : Term) (b : Bool) → nat_lt to v.next_pid ≡ b → LawfulTurn any_row v (turned (seen (if b then event.Signal v.me to why else event.Lost v.me why) v) row)
  exits to why true e = stays (event.Signal v.me to why ∷ []) Runs ((refl, ltb-true to v.next_pid e), tt) refl refl
  exits to why false e = stays (event.Lost v.me why ∷ []) Runs (refl, tt) refl refl

  links-to : (other : ℕ) (b live : Bool) → may_link other v ≡ b → holds v.live other ≡ live
      → LawfulTurn any_row v (turned (if b then done (broken live other v.me) Runs (record v { links = with_number other v.links }) else done [] Runs v) row)
  links-to other false live e is = stays [] Runs tt refl refl
  links-to other true live e is = by live is
    where
      parts : (not (nat_eq other v.me) ≡ true) × ((nat_lt other v.next_pid && not (holds v.links other)) ≡ true)
      parts = and_parts (not (nat_eq other v.me)) (nat_lt other v.next_pid && not (holds v.links other)) e

      more : (nat_lt other v.next_pid ≡ true) × (not (holds v.links other) ≡ true)
      more = and_parts (nat_lt other v.next_pid) (not (holds v.links other)) parts.1

      apart : nat_eq other v.me ≡ false
      apart = is-false (nat_eq other v.me) parts.0

      below : other < v.next_pid
      below = ltb-true other v.next_pid more.0

      other-one : nat_eq other v.me ≡ true → ⊥
      other-one e = by-apart (sym e ∙ apart)
        where
          by-apart : true ≡ false → ⊥
          by-apart e = cc

      rising : RisingBelow v.next_pid (with_number other v.links)
      rising = within-with other 0 v.next_pid v.links (omega arith) below meets.links

      lacks : holds (with_number other v.links) v.me ≡ false
      lacks = lacks-with other v.links v.me (ne_eqb v.me other (λ e. other-one (eq-eqb other v.me (sym e)))) meets.not_itself

      by : (live : Bool) → holds v.live other ≡ live → LawfulTurn any_row v (turned (done (broken live other v.me) Runs (record v { links = with_number other v.links })) row)
      by true is = links-change [] (with_number other v.links) tt refl refl rising lacks
      by false is = links-change (broken false other v.me) (with_number other v.links) ((refl, below, is, refl), tt) refl refl rising lacks

  spawns : (how : Term) (linked b : Bool) → nat_lt v.next_pid limit ≡ b
      → LawfulTurn any_row v (turned (if b then done (event.Spawn v.me v.next_pid (begin.Fun how) ∷ []) Runs
      (record v { next_pid = v.next_pid + 1; live = v.live ++ v.next_pid ∷ []; links = with_link linked v.next_pid v.links }) else done [] Runs v) row)
  spawns how linked false e = stays [] Runs tt refl refl
  spawns how linked true e = record {
    me = refl;
    clock = refl;
    events = ((refl, refl, tt), tt);
    next_pid = refl;
    live = refl;
    next_ref = omega arith;
    pids_end = omega (arith, ltb-true v.next_pid limit e);
    refs_end = meets.next_ref;
    links = links linked;
    not_itself = not_itself linked;
    messages = refl;
    save = meets.save;
    timer = same-timer v.timer refl;
    state = tt;
  }
    where
      below : v.me < v.next_pid
      below = held_below 0 v.next_pid v.me v.live meets.live meets.me

      links : (b : Bool) → RisingBelow (v.next_pid + 1) (with_link b v.next_pid v.links)
      links true = within_last 0 v.next_pid v.links (omega arith) meets.links
      links false = within-grows 0 v.next_pid (v.next_pid + 1) v.links (omega arith) meets.links

      not_itself : (b : Bool) → holds (with_link b v.next_pid v.links) v.me ≡ false
      not_itself true = lacks_last v.links v.me v.next_pid meets.not_itself (ne_eqb v.me v.next_pid (λ e. omega (arith, below, e)))
      not_itself false = meets.not_itself

  act-is-lawful : (a : Act) → LawfulTurn any_row v (turned (doing a v) row)
  act-is-lawful act.Rest = stays [] Runs tt refl refl
  act-is-lawful act.Wait = stays [] Waits tt refl refl
  act-is-lawful (act.Sleep ms) = sets-timer ms
  act-is-lawful act.Receive = receives (slice_get v.messages v.save) refl
  act-is-lawful act.Pass = passes (nat_lt v.save (length v.messages)) refl
  act-is-lawful (act.Send to n) = sends to (Int n) (nat_lt to v.next_pid) refl
  act-is-lawful (act.Exit to why) = exits to (reason_of why) (nat_lt to v.next_pid) refl
  act-is-lawful (act.Link other) = links-to other (may_link other v) (holds v.live other) refl refl
  act-is-lawful (act.Unlink other) = links-change [] (without_number other v.links) tt refl refl (within-without other 0 v.next_pid v.links meets.links) (lacks-without other v.links v.me meets.not_itself)
  act-is-lawful act.Trap = makes-none [] Runs v.messages v.save v.links true v.timer tt refl refl meets.save meets.links meets.not_itself (same-timer v.timer refl)
  act-is-lawful (act.Spawn first linked) = spawns (Int first) linked (nat_lt v.next_pid limit) refl
  act-is-lawful (act.Print n) = stays (event.Print v.me (Int n) ∷ []) Runs (refl, tt) refl refl
  act-is-lawful (act.Raise why) = stays _ Runs (refl, tt) refl refl
  act-is-lawful (act.Answer n) = stays (event.Answer v.me (Int n) ∷ []) Runs (refl, tt) refl refl
  act-is-lawful act.Fault = stays (event.Fault v.me ∷ []) Runs (refl, tt) refl refl
  act-is-lawful (act.End why) = stays [] (Ends (reason_of why)) tt refl refl

turn-is-lawful : (v : View) → MeetsView v → (row : ℕ) (o : Option Act) → LawfulTurn any_row v (turn_at o row v)
turn-is-lawful v meets row None = stays v meets row [] Runs tt refl refl
turn-is-lawful v meets row (Some a) = act-is-lawful v meets (row + 1) a

pub acts-are-lawful : (rows : List Act) → Lawful (acts rows) any_row
acts-are-lawful rows = record {
  begins = λ how is. tt;
  turns = λ transfers v status row some meets may is. turn-is-lawful v meets row (slice_get rows row);
}

pub rows-stay : (old new : Heap) (row : ℕ) → Keeps old new → Unit {0} → Stays (λ heap row. Unit {0}) (λ heap row. row) old new row
rows-stay old new row keeps is = record { held = tt; is = refl }
