-- A code that is lawful: in each turn a process takes all messages, sends one to itself, makes a process that is linked to
-- it where there is a number for it, makes a reference where there is one, and waits until a timer is due.
use Rattle.std.proofs.Common.{◌≡◌, ℕ, ◌+◌, ◌<◌, ◌≤◌, Bool, true, false, nat_lt, List, [], ◌∷◌, ◌++◌, length, map, None, Some, inl, inr, refl, sym, ap, ◌∙◌, subst, arith}
use Rattle.std.proofs.lemmas.Bool.{ltb-true, ne_eqb}
use Rattle.std.proofs.lemmas.List.{append-nil}
use Rattle.std.proofs.lemmas.Option.{same_Some}
use Rattle.std.specs.Prelude.{pos, codes}
use Rattle.ej_term.specs.Term.{Term, Int, Atom, Nil, list}
use Rattle.ej_world.specs.declared.effect.Begin.TheVariants as begin
use Rattle.ej_world.specs.declared.event.Event.{Event}
use Rattle.ej_world.specs.declared.event.Event.TheVariants as event
use Rattle.ej_world.specs.Choices.{View, Waits, Turned, Code, holds}
use Rattle.ej_world.specs.Lawful.{RisingBelow, MeetsView, MayGive, MayGiveAll, made, received, LosesAll, TimerAfter, States, LawfulTurn, Lawful}
use Rattle.ej_world.specs.World.{limit}
use Rattle.ej_world.proofs.LawfulLaw.{loses_each, held_below, within_last, lacks_last}

abbrev with_spawn : (room : Bool) → View → List (Event Term)
with_spawn true v = event.Spawn v.me v.next_pid (begin.Fun Nil) ∷ []
with_spawn false v = []

abbrev next_number : (room : Bool) → ℕ → ℕ
next_number true n = n + 1
next_number false n = n

abbrev one_more : (room : Bool) → ℕ → List ℕ → List ℕ
one_more true n ns = ns ++ n ∷ []
one_more false n ns = ns

-- where there is a number for a process, and one for a reference
abbrev busy_turn : (pid ref : Bool) → View → Turned (Unit {0})
busy_turn pid ref v = record {
  events = map (event.Recv v.me) v.messages ++ event.Send v.me v.me Nil ∷ with_spawn pid v;
  outcome = Waits;
  view = record v {
    next_pid = next_number pid v.next_pid;
    next_ref = next_number ref v.next_ref;
    timer = Some (v.clock + 1000);
    messages = [];
    save = 0;
    links = one_more pid v.next_pid v.links;
    live = one_more pid v.next_pid v.live;
  };
  state = tt;
}

abbrev busy : Code (Unit {0})
busy = record { begin = λ how. tt; turn = λ transfers v s. busy_turn (nat_lt v.next_pid limit) (nat_lt v.next_ref limit) v; depth = λ s. 0 }

abbrev any : States (Unit {0})
any status s = Unit {0}

takes-first : (me next : ℕ) (live : List ℕ) (ms : List Term) (events : List (Event Term)) → MayGiveAll me next live events → MayGiveAll me next live (map (event.Recv me) ms ++ events)
takes-first me next live [] events may = may
takes-first me next live (m ∷ ms) events may = (refl, takes-first me next live ms events may)

takes-make-none : (me : ℕ) (ms : List Term) (events : List (Event Term)) → made (map (event.Recv me) ms ++ events) ≡ made events
takes-make-none me [] events = refl
takes-make-none me (m ∷ ms) events = takes-make-none me ms events

takes-all : (me : ℕ) (ms : List Term) (events : List (Event Term)) → received (map (event.Recv me) ms ++ events) ≡ ms ++ received events
takes-all me [] events = refl
takes-all me (m ∷ ms) events = ap (λ ms. m ∷ ms) (takes-all me ms events)

spawn-is-lawful : (pid ref : Bool) (v : View) → MeetsView v → nat_lt v.next_pid limit ≡ pid → nat_lt v.next_ref limit ≡ ref → LawfulTurn any v (busy_turn pid ref v)
spawn-is-lawful pid ref v meets room more = record {
  me = refl;
  clock = refl;
  events = takes-first v.me v.next_pid v.live v.messages _ ((refl, below), spawns pid);
  next_pid = numbers pid ∙ sym (ap (λ ns. v.next_pid + length ns) (takes-make-none v.me v.messages (event.Send v.me v.me Nil ∷ with_spawn pid v)));
  live = lives pid ∙ sym (ap (λ ns. v.live ++ ns) (takes-make-none v.me v.messages (event.Send v.me v.me Nil ∷ with_spawn pid v)));
  next_ref = rises ref v.next_ref;
  pids_end = ends pid v.next_pid meets.next_pid room;
  refs_end = ends ref v.next_ref meets.next_ref more;
  links = links pid;
  not_itself = not_itself pid;
  messages = subst (λ ms. LosesAll ms v.messages []) (sym (takes-all v.me v.messages (event.Send v.me v.me Nil ∷ with_spawn pid v) ∙ ap (λ ms. v.messages ++ ms) (none pid) ∙ append-nil v.messages)) (loses_each v.messages);
  save = omega arith;
  timer = inr (omega arith);
  state = tt;
}
  where
    below : v.me < v.next_pid
    below = held_below 0 v.next_pid v.me v.live meets.live meets.me

    spawns : (pid : Bool) → MayGiveAll v.me v.next_pid v.live (with_spawn pid v)
    spawns true = ((refl, refl, tt), tt)
    spawns false = tt

    numbers : (pid : Bool) → next_number pid v.next_pid ≡ v.next_pid + length (made (with_spawn pid v))
    numbers true = refl
    numbers false = omega arith

    lives : (pid : Bool) → one_more pid v.next_pid v.live ≡ v.live ++ made (with_spawn pid v)
    lives true = refl
    lives false = sym (append-nil v.live)

    rises : (b : Bool) (n : ℕ) → n ≤ next_number b n
    rises true n = omega arith
    rises false n = omega arith

    ends : (b : Bool) (n : ℕ) → n ≤ limit → nat_lt n limit ≡ b → next_number b n ≤ limit
    ends true n le less = omega (arith, ltb-true n limit less)
    ends false n le less = le

    links : (pid : Bool) → RisingBelow (next_number pid v.next_pid) (one_more pid v.next_pid v.links)
    links true = within_last 0 v.next_pid v.links (omega arith) meets.links
    links false = meets.links

    not_itself : (pid : Bool) → holds (one_more pid v.next_pid v.links) v.me ≡ false
    not_itself true = lacks_last v.links v.me v.next_pid meets.not_itself (ne_eqb v.me v.next_pid (λ e. omega (arith, below, e)))
    not_itself false = meets.not_itself

    none : (pid : Bool) → received (with_spawn pid v) ≡ []
    none true = refl
    none false = refl

busy_is_lawful : Lawful busy any
busy_is_lawful = record {
  begins = λ how is. tt;
  turns = λ transfers v status s some meets may is. spawn-is-lawful (nat_lt v.next_pid limit) (nat_lt v.next_ref limit) v meets refl refl;
}

-- ---- events of process 1, where 2 is the next number

-- a process that is made has a number from then on
makes : MayGiveAll 1 2 (1 ∷ []) (event.Spawn 1 2 (begin.Call (Atom (codes "m")) (Atom (codes "f")) (list (Nil ∷ []))) ∷ event.Send 1 2 Nil ∷ event.Spawn 1 3 (begin.Fun Nil) ∷ event.Signal 1 3 Nil ∷ [])
makes = ((refl, refl, (Nil ∷ [], refl, omega arith)), ((refl, omega arith), ((refl, refl, tt), ((refl, omega arith), tt))))

makes-not-another : MayGive 1 2 (1 ∷ []) (event.Spawn 1 3 (begin.Fun Nil)) → ⊥
makes-not-another may = omega (arith, may.1)

calls-no-number : MayGive 1 2 (1 ∷ []) (event.Spawn 1 2 (begin.Call (Atom (codes "m")) (Int (pos 1)) Nil)) → ⊥
calls-no-number may = may.2

calls-with-a-list : MayGive 1 2 (1 ∷ []) (event.Spawn 1 2 (begin.Call (Atom (codes "m")) (Atom (codes "f")) (Atom (codes "a")))) → ⊥
calls-with-a-list may = no-list may.2.0 may.2.1
  where
    no-list : (parts : List Term) → Atom (codes "a") ≡ list parts → ⊥
    no-list [] e = absurd cc
    no-list (t ∷ parts) e = absurd cc

sends-to-none : MayGive 1 2 (1 ∷ []) (event.Send 1 2 Nil) → ⊥
sends-to-none may = omega (arith, may.1)

sends-for-another : MayGive 1 2 (0 ∷ 1 ∷ []) (event.Send 0 1 Nil) → ⊥
sends-for-another may = omega (arith, may.0)

-- a link to a process that ended, and to one that is live
links-to-ended : MayGive 1 2 (1 ∷ []) (event.Broken 0 1 (Atom (codes "noproc")))
links-to-ended = (refl, omega arith, refl, refl)

links-to-live : MayGive 1 2 (0 ∷ 1 ∷ []) (event.Broken 0 1 (Atom (codes "noproc"))) → ⊥
links-to-live may = let e = may.2 in absurd cc

tells-noproc : MayGive 1 2 (1 ∷ []) (event.Broken 0 1 (Atom (codes "boom"))) → ⊥
tells-noproc may = let e = may.3 in absurd cc

-- ---- mailboxes

-- of equal messages either may go
loses-first : LosesAll (Nil ∷ []) (Nil ∷ Atom (codes "a") ∷ Nil ∷ []) (Atom (codes "a") ∷ Nil ∷ [])
loses-first = (_, record { front = []; back = Atom (codes "a") ∷ Nil ∷ []; was = refl; is = refl }, refl)

loses-last : LosesAll (Nil ∷ []) (Nil ∷ Atom (codes "a") ∷ Nil ∷ []) (Nil ∷ Atom (codes "a") ∷ [])
loses-last = (_, record { front = Nil ∷ Atom (codes "a") ∷ []; back = []; was = refl; is = refl }, refl)

-- a timer is at most 4294967295 past the clock, or was there before
sets : TimerAfter 7 None (Some 4294967302)
sets = inr (omega arith)

sets-too-late : TimerAfter 7 (Some 4294967304) (Some 4294967303) → ⊥
sets-too-late (inl e) = omega (arith, same_Some {A = ℕ} 4294967304 4294967303 e)
sets-too-late (inr le) = omega arith
