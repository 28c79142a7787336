-- The delivery of a signal leaves each process its status, or ends it.
use Rattle.std.proofs.Common.{◌≡◌, ℕ, zero, suc, Bool, true, false, not, nat_eq, ◌&&◌, ◌⊎◌, inl, inr, List, [], ◌∷◌, codes, Option, None, Some, refl, sym, ap, subst}
use Rattle.std.specs.Prelude.{slice_get, slice_set, if◌then◌else◌}
use Rattle.ej_term.specs.Term.{Term, Atom}
use Rattle.ej_world.specs.Delivery.{is_atom, hit, exits, is_linked, without_link, breaks, to_live, to_process, with_queue, first_of, deliver, exit_message}
use Rattle.ej_world.specs.World.{Signal, Message, Link, Exit, Status, Ended, Process, World, Change, is_live, taken, with_process, with_status, with_message}

abbrev pub Later : Status → Status → Type 0
Later one other = (other ≡ one) ⊎ (other ≡ Ended)

abbrev pub Laters : List Process → List Process → Type 0
Laters [] [] = Unit {0}
Laters (p ∷ ps) (q ∷ qs) = Later p.status q.status × Laters ps qs
Laters _ _ = ⊥

pub laters-same : (ps : List Process) → Laters ps ps
laters-same [] = tt
laters-same (p ∷ ps) = (inl refl, laters-same ps)

pub laters-set : (ps : List Process) (n : ℕ) (p q : Process) → slice_get ps n ≡ Some p → Later p.status q.status → Laters ps (slice_set ps n q)
laters-set [] n p q e l = tt
laters-set (x ∷ ps) zero p q e l = (subst (λ o. LaterThan o q.status) (sym e) l, laters-same ps)
  where
    LaterThan : Option Process → Status → Type 0
    LaterThan None status = ⊥
    LaterThan (Some p) status = Later p.status status
laters-set (x ∷ ps) (suc n) p q e l = (inl refl, laters-set ps n p q e l)

set-twice : (ps : List Process) (n : ℕ) (p q : Process) → slice_set (slice_set ps n p) n q ≡ slice_set ps n q
set-twice [] n p q = refl
set-twice (x ∷ ps) zero p q = refl
set-twice (x ∷ ps) (suc n) p q = ap (λ rest. x ∷ rest) (set-twice ps n p q)

abbrev pub After : List Process → Change → Type 0
After ps c = Laters ps c.world.processes

pick : (ps : List Process) (b : Bool) (x y : Change) → After ps x → After ps y → After ps (if b then x else y)
pick ps true x y h k = h
pick ps false x y h k = k

exits-later : (ps : List Process) (w : World) (from to : ℕ) (q : Process) (by_exit : Bool) (reason : Term)
    → ((other : Process) → Later q.status other.status → Laters ps (slice_set w.processes to other)) → Laters ps w.processes → After ps (exits w from to q by_exit reason)
exits-later ps w from to q by_exit reason set same =
    pick ps (by_exit && is_atom (codes "kill") reason) _ _ (ended (Atom (codes "killed")))
    (pick ps q.trapping _ _ (set (with_message q (exit_message w.node from reason)) (inl refl))
    (pick ps (is_atom (codes "normal") reason && not (nat_eq from to)) _ _ same (ended reason)))
  where
    ended : (reason : Term) → After ps (hit w from to q reason)
    ended reason = set (with_status q Ended) (inr refl)

live-later : (w : World) (from to : ℕ) (q : Process) (signal : Signal) → slice_get w.processes to ≡ Some q → After w.processes (to_live w from to q signal)
live-later w from to q (Message message) e = laters-set w.processes to q (with_message q message) e (inl refl)
live-later w from to q (Exit reason) e =
    exits-later w.processes w from to q true reason (λ other l. laters-set w.processes to q other e l) (laters-same w.processes)
live-later w from to q (Link reason) e = pick w.processes (is_linked q from) _ _ broken (laters-same w.processes)
  where
    broken : After w.processes (breaks w from to (without_link q from) reason)
    broken = exits-later w.processes (with_process w to (without_link q from)) from to (without_link q from) false reason
        (λ other l. subst (λ qs. Laters w.processes qs) (sym (set-twice w.processes to (without_link q from) other)) (laters-set w.processes to q other e l))
        (laters-set w.processes to q (without_link q from) e (inl refl))

abbrev pub AfterEach : List Process → Option Change → Type 0
AfterEach ps None = Unit {0}
AfterEach ps (Some c) = After ps c

process-later : (w : World) (from to : ℕ) (signal : Signal) (o : Option Process) → slice_get w.processes to ≡ o → AfterEach w.processes (to_process w from to signal o)
process-later w from to signal None e = tt
process-later w from to signal (Some q) e = pick w.processes (is_live q) _ _ (live-later w from to q signal e) (laters-same w.processes)

first-later : (w : World) (from to : ℕ) (signals : List Signal) → AfterEach w.processes (first_of w from to signals)
first-later w from to [] = tt
first-later w from to (signal ∷ rest) = process-later (with_queue w (taken from to rest w.queue)) from to signal (slice_get w.processes to) refl

pub deliver-later : (w : World) (from to : ℕ) → AfterEach w.processes (deliver w from to)
deliver-later w from to = first-later w from to (w.queue from to)
