-- What keeps processes and queues sound.
use Rattle.std.proofs.Common.{◌≡◌, ℕ, zero, suc, ◌+◌, ◌<◌, ◌≤◌, Bool, true, false, not, nat_eq, ◌&&◌, ◌⊎◌, inl, inr, List, [], ◌∷◌, ◌++◌, length, map, Some, refl, sym, subst, arith}
use Rattle.std.specs.Prelude.{slice_get, slice_set}
use Rattle.std.specs.List.{AllByRecursion}
use Rattle.std.proofs.lemmas.Bool.{eqb-true, and_parts, cond_both, false_from_ne_true}
use Rattle.std.proofs.lemmas.List.{length-append}
use Rattle.ej_term.specs.Term.{Term}
use Rattle.ej_world.specs.declared.event.Event.{Event}
use Rattle.ej_world.specs.declared.event.Event.TheVariants as event
use Rattle.ej_world.specs.Choices.{holds, linked_back, agreeing}
use Rattle.ej_world.specs.Delivery.{without_link}
use Rattle.ej_world.specs.Lawful.{Within, RisingBelow, States, Kept}
use Rattle.ej_world.specs.Sound.{SoundProcess, SoundAll, SoundQueue}
use Rattle.ej_world.specs.World.{Signal, Message, Link, Exit, Status, Process, Queue, fresh, put, taken, with_signal, with_signals, with_status, with_links, with_message}
use Rattle.ej_world.proofs.Laters.{Later}
use Rattle.ej_world.proofs.Numbers.{within-grows, within-filter, within-with, within-without, lacks-filter, lacks-with, lacks-without}

-- ---- processes

pub fresh-sound : (bound number : ℕ) → SoundProcess bound number fresh
fresh-sound bound number = record { links = tt; not_itself = refl; save = omega arith; timer = tt }

pub process-grows : (bound other number : ℕ) (p : Process) → bound ≤ other → SoundProcess bound number p → SoundProcess other number p
process-grows bound other number p le sound = record { links = within-grows 0 bound other p.links le sound.links; not_itself = sound.not_itself; save = sound.save; timer = sound.timer }

pub status-sound : (bound number : ℕ) (p : Process) (status : Status) → SoundProcess bound number p → SoundProcess bound number (with_status p status)
status-sound bound number p status sound = record { links = sound.links; not_itself = sound.not_itself; save = sound.save; timer = sound.timer }

pub message-sound : (bound number : ℕ) (p : Process) (message : Term) → SoundProcess bound number p → SoundProcess bound number (with_message p message)
message-sound bound number p message sound = record {
  links = sound.links;
  not_itself = sound.not_itself;
  save = omega (arith, sound.save, length-append p.messages (message ∷ []));
  timer = sound.timer;
}

pub links-sound : (bound number : ℕ) (p : Process) (links : List ℕ) → RisingBelow bound links → holds links number ≡ false → SoundProcess bound number p → SoundProcess bound number (with_links p links)
links-sound bound number p links rise other sound = record { links = rise; not_itself = other; save = sound.save; timer = sound.timer }

pub unlinked-sound : (bound number from : ℕ) (p : Process) → SoundProcess bound number p → SoundProcess bound number (without_link p from)
unlinked-sound bound number from p sound =
    links-sound bound number p _ (within-filter (λ n. not (nat_eq from n)) 0 bound p.links sound.links) (lacks-filter (λ n. not (nat_eq from n)) p.links number sound.not_itself) sound

-- the other side of a link
pub linked-sound : (bound me number : ℕ) (was is : Bool) (p : Process) → me < bound → (is ≡ true → nat_eq number me ≡ false) → SoundProcess bound number p
    → SoundProcess bound number (linked_back me was is p)
linked-sound bound me number true true p lt other sound = sound
linked-sound bound me number false false p lt other sound = sound
linked-sound bound me number false true p lt other sound =
    links-sound bound number p _ (within-with me 0 bound p.links (omega arith) lt sound.links) (lacks-with me p.links number (other refl) sound.not_itself) sound
linked-sound bound me number true false p lt other sound =
    links-sound bound number p _ (within-without me 0 bound p.links sound.links) (lacks-without me p.links number sound.not_itself) sound

pub linked-status : (me : ℕ) (was is : Bool) (p : Process) → (linked_back me was is p).status ≡ p.status
linked-status me true true p = refl
linked-status me true false p = refl
linked-status me false true p = refl
linked-status me false false p = refl

-- what the numbers hold is not what they do not hold
pub other-number : (ns : List ℕ) (me n : ℕ) → holds ns me ≡ false → holds ns n ≡ true → nat_eq n me ≡ false
other-number ns me n lacks has = false_from_ne_true (nat_eq n me) (λ e. contrary (subst (λ k. holds ns k ≡ true) (eqb-true n me e) has))
  where
    contrary : holds ns me ≡ true → ⊥
    contrary e = absurd cc

-- ---- queues

pub queue-grows : (bound other : ℕ) (queue : Queue) → bound ≤ other → SoundQueue bound queue → SoundQueue other queue
queue-grows bound other queue le sound from to = by (sound from to)
  where
    by : (queue from to ≡ []) ⊎ ((from < bound) × (to < bound)) → (queue from to ≡ []) ⊎ ((from < other) × (to < other))
    by (inl none) = inl none
    by (inr lt) = inr (omega (arith, lt.0), omega (arith, lt.1))

-- the queue of one pair is another
pub queue-changes : (bound from to : ℕ) (signals : List Signal) (queue : Queue) → from < bound → to < bound → SoundQueue bound queue → SoundQueue bound (taken from to signals queue)
queue-changes bound from to signals queue one other sound p q =
    cond_both (nat_eq p from && nat_eq q to) signals (queue p q) (λ signals. (signals ≡ []) ⊎ ((p < bound) × (q < bound)))
    (λ e. let both = and_parts (nat_eq p from) (nat_eq q to) e in inr (omega (arith, eqb-true p from both.0), omega (arith, eqb-true q to both.1)))
    (λ e. sound p q)

pub queue-put : (bound from to : ℕ) (signal : Signal) (queue : Queue) → from < bound → to < bound → SoundQueue bound queue → SoundQueue bound (put from to signal queue)
queue-put bound from to signal queue one other sound p q =
    cond_both (nat_eq p from && nat_eq q to) (queue p q ++ signal ∷ []) (queue p q) (λ signals. (signals ≡ []) ⊎ ((p < bound) × (q < bound)))
    (λ e. let both = and_parts (nat_eq p from) (nat_eq q to) e in inr (omega (arith, eqb-true p from both.0), omega (arith, eqb-true q to both.1)))
    (λ e. sound p q)

-- an event sends only between numbers below
abbrev pub Between : (bound : ℕ) → Event Term → Type 0
Between bound (event.Send p q message) = (p < bound) × (q < bound)
Between bound (event.Signal p q reason) = (p < bound) × (q < bound)
Between bound (event.Broken p q reason) = (p < bound) × (q < bound)
Between bound _ = Unit {0}

pub queue-one : (bound : ℕ) (e : Event Term) (queue : Queue) → Between bound e → SoundQueue bound queue → SoundQueue bound (with_signal e queue)
queue-one bound (event.Send p q message) queue lt sound = queue-put bound p q (Message message) queue lt.0 lt.1 sound
queue-one bound (event.Signal p q reason) queue lt sound = queue-put bound p q (Exit reason) queue lt.0 lt.1 sound
queue-one bound (event.Broken p q reason) queue lt sound = queue-put bound p q (Link reason) queue lt.0 lt.1 sound
queue-one bound _ queue lt sound = sound

pub queue-sends : (bound : ℕ) (events : List (Event Term)) (queue : Queue) → AllByRecursion (Between bound) events → SoundQueue bound queue → SoundQueue bound (with_signals events queue)
queue-sends bound [] queue lt sound = sound
queue-sends bound (e ∷ events) queue lt sound = queue-sends bound events (with_signal e queue) lt.1 (queue-one bound e queue lt.0 sound)

pub all-between : (bound : ℕ) (es fs : List (Event Term)) → AllByRecursion (Between bound) es → AllByRecursion (Between bound) fs → AllByRecursion (Between bound) (es ++ fs)
all-between bound [] fs one other = other
all-between bound (e ∷ es) fs one other = (one.0, all-between bound es fs one.1 other)

pub ends-between : (bound least number : ℕ) (reason : Term) (links : List ℕ) → number < bound → Within least bound links
    → AllByRecursion (Between bound) (map (λ other. event.Broken number other reason) links)
ends-between bound least number reason [] lt rise = tt
ends-between bound least number reason (n ∷ links) lt rise = ((lt, rise.1), ends-between bound (n + 1) number reason links lt rise.2)

-- ---- processes with their states

module _ {S : Type 0} (IsState : States S) where
  pub kept-later : (one other : Status) (s : S) → Later one other → Kept IsState one s → Kept IsState other s
  kept-later one other s (inl e) kept = subst (λ status. Kept IsState status s) (sym e) kept
  kept-later one other s (inr e) kept = subst (λ status. Kept IsState status s) (sym e) tt

  pub all-grow : (bound other number : ℕ) (ps : List Process) (ss : List S) → bound ≤ other → SoundAll IsState bound number ps ss → SoundAll IsState other number ps ss
  all-grow bound other number [] [] le sound = tt
  all-grow bound other number [] (s ∷ ss) le sound = absurd sound
  all-grow bound other number (p ∷ ps) [] le sound = absurd sound
  all-grow bound other number (p ∷ ps) (s ∷ ss) le sound = (process-grows bound other number p le sound.0, sound.1, all-grow bound other (number + 1) ps ss le sound.2)

  pub all-more : (bound number next : ℕ) (ps : List Process) (ss : List S) (qs : List Process) (us : List S) → next ≡ number + length ps
      → SoundAll IsState bound number ps ss → SoundAll IsState bound next qs us → SoundAll IsState bound number (ps ++ qs) (ss ++ us)
  all-more bound number next [] [] qs us is sound more = let same : next ≡ number = omega arith in subst (λ n. SoundAll IsState bound n qs us) same more
  all-more bound number next [] (s ∷ ss) qs us is sound more = absurd sound
  all-more bound number next (p ∷ ps) [] qs us is sound more = absurd sound
  all-more bound number next (p ∷ ps) (s ∷ ss) qs us is sound more = (sound.0, sound.1, all-more bound (number + 1) next ps ss qs us (omega arith) sound.2 more)

  pub all-set : (bound number k n : ℕ) (ps : List Process) (ss : List S) (q : Process) (u : S) → n ≡ number + k → SoundProcess bound n q → Kept IsState q.status u
      → SoundAll IsState bound number ps ss → SoundAll IsState bound number (slice_set ps k q) (slice_set ss k u)
  all-set bound number k n [] [] q u is one kept sound = tt
  all-set bound number k n [] (s ∷ ss) q u is one kept sound = absurd sound
  all-set bound number k n (p ∷ ps) [] q u is one kept sound = absurd sound
  all-set bound number zero n (p ∷ ps) (s ∷ ss) q u is one kept sound =
      let same : n ≡ number = omega arith in (subst (λ n. SoundProcess bound n q) same one, kept, sound.2)
  all-set bound number (suc k) n (p ∷ ps) (s ∷ ss) q u is one kept sound = (sound.0, sound.1, all-set bound (number + 1) k n ps ss q u (omega arith) one kept sound.2)

  -- a process that goes on, or ends
  pub all-later : (bound number k n : ℕ) (ps : List Process) (ss : List S) (p q : Process) → slice_get ps k ≡ Some p → n ≡ number + k → SoundProcess bound n q → Later p.status q.status
      → SoundAll IsState bound number ps ss → SoundAll IsState bound number (slice_set ps k q) ss
  all-later bound number k n [] [] p q at is one later sound = tt
  all-later bound number k n [] (s ∷ ss) p q at is one later sound = absurd sound
  all-later bound number k n (x ∷ ps) [] p q at is one later sound = absurd sound
  all-later bound number zero n (x ∷ ps) (s ∷ ss) p q at is one later sound =
      let same : n ≡ number = omega arith in
      let found : p ≡ x = cc in
      (subst (λ n. SoundProcess bound n q) same one, kept-later x.status q.status s (subst (λ p. Later p.status q.status) found later) sound.1, sound.2)
  all-later bound number (suc k) n (x ∷ ps) (s ∷ ss) p q at is one later sound = (sound.0, sound.1, all-later bound (number + 1) k n ps ss p q at (omega arith) one later sound.2)

  pub all-found : (bound number k n : ℕ) (ps : List Process) (ss : List S) (p : Process) → slice_get ps k ≡ Some p → n ≡ number + k → SoundAll IsState bound number ps ss → SoundProcess bound n p
  all-found bound number k n [] [] p at is sound = absurd cc
  all-found bound number k n [] (s ∷ ss) p at is sound = absurd sound
  all-found bound number k n (x ∷ ps) [] p at is sound = absurd sound
  all-found bound number zero n (x ∷ ps) (s ∷ ss) p at is sound =
      let same : number ≡ n = omega arith in
      let found : x ≡ p = cc in
      subst (λ n. SoundProcess bound n p) same (subst (λ p. SoundProcess bound number p) found sound.0)
  all-found bound number (suc k) n (x ∷ ps) (s ∷ ss) p at is sound = all-found bound (number + 1) k n ps ss p at (omega arith) sound.2

  pub state-found : (bound number k : ℕ) (ps : List Process) (ss : List S) (p : Process) (u : S) → slice_get ps k ≡ Some p → slice_get ss k ≡ Some u → SoundAll IsState bound number ps ss
      → Kept IsState p.status u
  state-found bound number k [] [] p u at has sound = absurd cc
  state-found bound number k [] (s ∷ ss) p u at has sound = absurd sound
  state-found bound number k (x ∷ ps) [] p u at has sound = absurd sound
  state-found bound number zero (x ∷ ps) (s ∷ ss) p u at has sound =
      let found : x ≡ p = cc in
      let this : s ≡ u = cc in
      subst (λ u. Kept IsState p.status u) this (subst (λ p. Kept IsState p.status s) found sound.1)
  state-found bound number (suc k) (x ∷ ps) (s ∷ ss) p u at has sound = state-found bound (number + 1) k ps ss p u at has sound.2

  pub all-linked : (bound number me : ℕ) (old new : List ℕ) (ps : List Process) (ss : List S) → me < bound → holds new me ≡ false → SoundAll IsState bound number ps ss
      → SoundAll IsState bound number (agreeing me old new number ps) ss
  all-linked bound number me old new [] [] lt lacks sound = tt
  all-linked bound number me old new [] (s ∷ ss) lt lacks sound = absurd sound
  all-linked bound number me old new (p ∷ ps) [] lt lacks sound = absurd sound
  all-linked bound number me old new (p ∷ ps) (s ∷ ss) lt lacks sound = (
    linked-sound bound me number (holds old number) (holds new number) p lt (λ has. other-number new me number lacks has) sound.0,
    subst (λ status. Kept IsState status s) (sym (linked-status me (holds old number) (holds new number) p)) sound.1,
    all-linked bound (number + 1) me old new ps ss lt lacks sound.2,
  )
