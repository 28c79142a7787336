-- The delivery of a signal keeps a system sound.
use Rattle.std.proofs.Common.{◌≡◌, ℕ, zero, suc, ◌<◌, ◌≤◌, Bool, true, false, not, nat_eq, ◌&&◌, ◌⊎◌, inl, inr, List, [], ◌∷◌, codes, Option, None, Some, refl, sym, subst, arith}
use Rattle.std.specs.Prelude.{slice_get, slice_set}
use Rattle.std.specs.List.{AllByRecursion}
use Rattle.std.proofs.lemmas.Bool.{cond_both}
use Rattle.std.proofs.lemmas.List.{length-set}
use Rattle.std.proofs.lemmas.Option.{slice_get_within}
use Rattle.ej_term.specs.Term.{Term, Atom}
use Rattle.ej_world.specs.declared.event.Event.{Event}
use Rattle.ej_world.specs.Delivery.{is_atom, exit_message, appended, hit, exits, is_linked, without_link, to_live, to_process, with_queue, first_of, deliver}
use Rattle.ej_world.specs.Lawful.{States}
use Rattle.ej_world.specs.Sound.{SoundProcess, SoundAll, SoundQueue, Sound}
use Rattle.ej_world.specs.World.{Signal, Message, Link, Exit, Ended, Process, World, Change, next_pid, limit, is_live, taken, with_process, with_status, with_message, end_events, sending}
use Rattle.ej_world.proofs.Laters.{Later}
use Rattle.ej_world.proofs.SoundParts.{status-sound, message-sound, unlinked-sound, queue-changes, Between, queue-sends, ends-between, all-later, all-found}

pub get_set : {A : Type 0} → (xs : List A) (k : ℕ) (x y : A) → slice_get xs k ≡ Some x → slice_get (slice_set xs k y) k ≡ Some y
get_set [] k x y e = absurd cc
get_set (z ∷ xs) zero x y e = refl
get_set (z ∷ xs) (suc k) x y e = get_set xs k x y e

module _ {S : Type 0} (IsState : States S) (ss : List S) where
  abbrev pub SoundWith : World → Type 0
  SoundWith w = Sound IsState (record { world = w; states = ss })

  abbrev SoundAfter : Change → Type 0
  SoundAfter c = SoundWith c.world

  pub set-sound : (w : World) (k : ℕ) (p q : Process) → slice_get w.processes k ≡ Some p → SoundProcess (next_pid w) k q → Later p.status q.status → SoundWith w → SoundWith (with_process w k q)
  set-sound w k p q at one later sound =
      let as_many = sym (length-set w.processes k q) in
      record {
        clock = sound.clock;
        pids = subst (λ n. n ≤ limit) as_many sound.pids;
        refs = sound.refs;
        processes = subst (λ n. SoundAll IsState n 0 (slice_set w.processes k q) ss) as_many (all-later IsState (next_pid w) 0 k k w.processes ss p q at (omega arith) one later sound.processes);
        queue = subst (λ n. SoundQueue n w.queue) as_many sound.queue;
      }

  sends-sound : (w : World) (events : List (Event Term)) → AllByRecursion (Between (next_pid w)) events → SoundWith w → SoundWith (sending events w)
  sends-sound w events lt sound = record { clock = sound.clock; pids = sound.pids; refs = sound.refs; processes = sound.processes; queue = queue-sends (next_pid w) events w.queue lt sound.queue }

  -- both ends of a queue that has a signal are processes
  taken-sound : (w : World) (from to : ℕ) (signal : Signal) (rest : List Signal) → w.queue from to ≡ signal ∷ rest → SoundWith w → SoundWith (with_queue w (taken from to rest w.queue))
  taken-sound w from to signal rest waits sound = by (sound.queue from to)
    where
      by : (w.queue from to ≡ []) ⊎ ((from < next_pid w) × (to < next_pid w)) → SoundWith (with_queue w (taken from to rest w.queue))
      by (inl none) = absurd cc
      by (inr lt) = record { clock = sound.clock; pids = sound.pids; refs = sound.refs; processes = sound.processes; queue = queue-changes (next_pid w) from to rest w.queue lt.0 lt.1 sound.queue }

  -- ---- the rules, for a process as it stands

  module _ (w : World) (from to : ℕ) (q : Process) (at : slice_get w.processes to ≡ Some q) (sound : SoundWith w) where
    one : SoundProcess (next_pid w) to q
    one = all-found IsState (next_pid w) 0 to to w.processes ss q at (omega arith) sound.processes

    appended-sound : (message : Term) → SoundAfter (appended w from to q message)
    appended-sound message = set-sound w to q (with_message q message) at (message-sound (next_pid w) to q message one) (inl refl) sound

    hit-sound : (reason : Term) → SoundAfter (hit w from to q reason)
    hit-sound reason =
        let lt : to < next_pid w = slice_get_within w.processes to q at in
        sends-sound (with_process w to (with_status q Ended)) (end_events to reason q.links)
        (subst (λ n. AllByRecursion (Between n) (end_events to reason q.links)) (sym (length-set w.processes to (with_status q Ended))) (tt, ends-between (next_pid w) 0 to reason q.links lt one.links))
        (set-sound w to q (with_status q Ended) at (status-sound (next_pid w) to q Ended one) (inr refl) sound)

    exits-sound : (by_exit : Bool) (reason : Term) → SoundAfter (exits w from to q by_exit reason)
    exits-sound by_exit reason =
        cond_both (by_exit && is_atom (codes "kill") reason) _ _ SoundAfter (λ e. hit-sound (Atom (codes "killed")))
        (λ e. cond_both q.trapping _ _ SoundAfter (λ e. appended-sound (exit_message w.node from reason))
        (λ e. cond_both (is_atom (codes "normal") reason && not (nat_eq from to)) _ _ SoundAfter (λ e. sound) (λ e. hit-sound reason)))

    unlinks-sound : SoundWith (with_process w to (without_link q from))
    unlinks-sound = set-sound w to q (without_link q from) at (unlinked-sound (next_pid w) to from q one) (inl refl) sound

  live-sound : (w : World) (from to : ℕ) (q : Process) (signal : Signal) → slice_get w.processes to ≡ Some q → SoundWith w → SoundAfter (to_live w from to q signal)
  live-sound w from to q (Message message) at sound = appended-sound w from to q at sound message
  live-sound w from to q (Exit reason) at sound = exits-sound w from to q at sound true reason
  live-sound w from to q (Link reason) at sound =
      cond_both (is_linked q from) _ _ SoundAfter
      (λ e. exits-sound (with_process w to (without_link q from)) from to (without_link q from) (get_set w.processes to q (without_link q from) at) (unlinks-sound w from to q at sound) false reason)
      (λ e. sound)

  abbrev pub SoundEach : Option Change → Type 0
  SoundEach None = Unit {0}
  SoundEach (Some c) = SoundAfter c

  process-sound : (w : World) (from to : ℕ) (signal : Signal) (o : Option Process) → slice_get w.processes to ≡ o → SoundWith w → SoundEach (to_process w from to signal o)
  process-sound w from to signal None at sound = tt
  process-sound w from to signal (Some q) at sound = cond_both (is_live q) _ _ SoundAfter (λ e. live-sound w from to q signal at sound) (λ e. sound)

  first-sound : (w : World) (from to : ℕ) (signals : List Signal) → w.queue from to ≡ signals → SoundWith w → SoundEach (first_of w from to signals)
  first-sound w from to [] waits sound = tt
  first-sound w from to (signal ∷ rest) waits sound =
      process-sound (with_queue w (taken from to rest w.queue)) from to signal (slice_get w.processes to) refl (taken-sound w from to signal rest waits sound)

  pub deliver-sound : (w : World) (from to : ℕ) → SoundWith w → SoundEach (deliver w from to)
  deliver-sound w from to sound = first-sound w from to (w.queue from to) refl sound
