-- Codes that agree have the same runs.
use Rattle.std.proofs.Common.{◌≡◌, ℕ, zero, suc, ◌+◌, ◌<◌, Bool, true, false, nat_lt, List, [], ◌∷◌, ◌++◌, length, Option, None, Some, refl, ap, ◌∙◌, subst}
use Rattle.std.specs.Prelude.{slice_get, slice_set, if◌then◌else◌}
use Rattle.erjang_top.specs.first_path.World.{Begin, Call, Choice, Start, Run, Event, Turn, Ready}
use Rattle.erjang_top.specs.first_path.World as event
use Rattle.erjang_top.specs.first_path.Run.{Outcome, Runs, Waits, Ended, Turned, Code, Status, Running, Waiting, Done, Process, World, last_pid, is_ready, ready_from, status_after, end_events, depth_after, Chosen, ran, nothing, run_process, started, choose, run_from, empty_world, run}
use Rattle.erjang_top.specs.first_path.Agree.{Keeps, SameTurn, Agree, IsChoice, IsScript}

-- a process that has ended has no state that matters
abbrev KeepsState : {S T : Type 0} → (S → T → Type 0) → Status → S → T → Type 0
KeepsState Related Done s t = Unit {0}
KeepsState Related Running s t = Related s t
KeepsState Related Waiting s t = Related s t

record SameProcess {S T : Type 0} (Related : S → T → Type 0) (p : Process S) (q : Process T) : Type 0 where
  status : p.status ≡ q.status
  states : KeepsState Related p.status p.state q.state

abbrev SameProcesses : {S T : Type 0} → (S → T → Type 0) → List (Process S) → List (Process T) → Type 0
SameProcesses Related [] [] = Unit {0}
SameProcesses Related (p ∷ ps) (q ∷ qs) = SameProcess Related p q × SameProcesses Related ps qs
SameProcesses Related _ _ = ⊥

module _ {S T : Type 0} (Related : S → T → Type 0) where
  same-length : (ps : List (Process S)) (qs : List (Process T)) → SameProcesses Related ps qs → length ps ≡ length qs
  same-length [] [] same = refl
  same-length [] (q ∷ qs) same = absurd same
  same-length (p ∷ ps) [] same = absurd same
  same-length (p ∷ ps) (q ∷ qs) same = ap suc (same-length ps qs same.1)

  same-ready : (pid : ℕ) (ps : List (Process S)) (qs : List (Process T)) → SameProcesses Related ps qs → ready_from pid ps ≡ ready_from pid qs
  same-ready pid [] [] same = refl
  same-ready pid [] (q ∷ qs) same = absurd same
  same-ready pid (p ∷ ps) [] same = absurd same
  same-ready pid (p ∷ ps) (q ∷ qs) same =
      ap (λ rest. if is_ready p.status then pid ∷ rest else rest) (same-ready (pid + 1) ps qs same.1)
      ∙ ap (λ s. if is_ready s then pid ∷ ready_from (pid + 1) qs else ready_from (pid + 1) qs) same.0.status

  same-push : (ps : List (Process S)) (qs : List (Process T)) (p : Process S) (q : Process T) → SameProcesses Related ps qs → SameProcess Related p q → SameProcesses Related (ps ++ p ∷ []) (qs ++ q ∷ [])
  same-push [] [] p q same new = (new, tt)
  same-push [] (q' ∷ qs) p q same new = absurd same
  same-push (p' ∷ ps) [] p q same new = absurd same
  same-push (p' ∷ ps) (q' ∷ qs) p q same new = (same.0, same-push ps qs p q same.1 new)

  same-set : (ps : List (Process S)) (qs : List (Process T)) (pid : ℕ) (p : Process S) (q : Process T) → SameProcesses Related ps qs → SameProcess Related p q → SameProcesses Related (slice_set ps pid p) (slice_set qs pid q)
  same-set [] [] pid p q same new = tt
  same-set [] (q' ∷ qs) pid p q same new = absurd same
  same-set (p' ∷ ps) [] pid p q same new = absurd same
  same-set (p' ∷ ps) (q' ∷ qs) zero p q same new = (new, same.1)
  same-set (p' ∷ ps) (q' ∷ qs) (suc pid) p q same new = (same.0, same-set ps qs pid p q same.1 new)

  -- what both find under a number
  Found : Option (Process S) → Option (Process T) → Type 0
  Found None None = Unit {0}
  Found (Some p) (Some q) = SameProcess Related p q
  Found None (Some q) = ⊥
  Found (Some p) None = ⊥

  found : (ps : List (Process S)) (qs : List (Process T)) (pid : ℕ) → SameProcesses Related ps qs → Found (slice_get ps pid) (slice_get qs pid)
  unfolding Found
  found [] [] pid same = tt
  found [] (q ∷ qs) pid same = absurd same
  found (p ∷ ps) [] pid same = absurd same
  found (p ∷ ps) (q ∷ qs) zero same = same.0
  found (p ∷ ps) (q ∷ qs) (suc pid) same = found ps qs pid same.1

  -- a choice gave the same events, and left the processes the same
  record SameChosen (a : Chosen S) (b : Chosen T) : Type 0 where
    events : a.events ≡ b.events
    world : SameProcesses Related a.world.processes b.world.processes

  module _ (Asked : Begin → Type 0) (a : Code S) (b : Code T) (agree : Agree a b Related Asked) where
    same-depth : (o : Outcome) (s : S) (t : T) → Keeps Related o s t → depth_after a o s ≡ depth_after b o t
    same-depth Runs s t keeps = agree.depths s t keeps
    same-depth Waits s t keeps = agree.depths s t keeps
    same-depth (Ended reason) s t keeps = refl

    kept : (o : Outcome) (s : S) (t : T) → Keeps Related o s t → KeepsState Related (status_after o) s t
    kept Runs s t keeps = keeps
    kept Waits s t keeps = keeps
    kept (Ended reason) s t keeps = tt

    same-ran : (w : World S) (v : World T) (pid : ℕ) (x : Turned S) (y : Turned T) → SameProcesses Related w.processes v.processes → SameTurn Related x y → SameChosen (ran a w pid x) (ran b v pid y)
    same-ran w v pid x y same turn = record {
      events =
          ap (λ es. es ++ end_events pid x.outcome ++ Turn pid (depth_after a x.outcome x.state) ∷ []) turn.events
          ∙ ap (λ d. y.events ++ end_events pid x.outcome ++ Turn pid d ∷ []) (same-depth x.outcome x.state y.state turn.states)
          ∙ ap (λ o. y.events ++ end_events pid o ++ Turn pid (depth_after b o y.state) ∷ []) turn.outcome;
      world = same-set w.processes v.processes pid _ _ same (record { status = ap status_after turn.outcome; states = kept x.outcome x.state y.state turn.states });
    }

    ready-related : (status : Status) (s : S) (t : T) → is_ready status ≡ true → KeepsState Related status s t → Related s t
    ready-related Running s t ready keeps = keeps
    ready-related Waiting s t ready keeps = keeps
    ready-related Done s t ready keeps = absurd (cc)

    same-run : (w : World S) (v : World T) (pid transfers : ℕ) (o : Option (Process S)) (r : Option (Process T)) → 0 < transfers → SameProcesses Related w.processes v.processes → Found o r → SameChosen (run_process a w pid transfers o) (run_process b v pid transfers r)
    unfolding Found
    same-run w v pid transfers None None some same at = record { events = refl; world = same }
    same-run w v pid transfers None (Some q) some same at = absurd at
    same-run w v pid transfers (Some p) None some same at = absurd at
    same-run w v pid transfers (Some p) (Some q) some same at =
        subst (λ s. SameChosen (if is_ready p.status then ran a w pid (a.turn pid transfers p.state) else nothing w) (if is_ready s then ran b v pid (b.turn pid transfers q.state) else nothing v)) at.status (go (is_ready p.status) refl)
      where
        go : (ready : Bool) → is_ready p.status ≡ ready → SameChosen (if ready then ran a w pid (a.turn pid transfers p.state) else nothing w) (if ready then ran b v pid (b.turn pid transfers q.state) else nothing v)
        go true e = same-ran w v pid _ _ same (agree.turns pid transfers p.state q.state some (ready-related p.status p.state q.state e at.states))
        go false e = record { events = refl; world = same }

    same-started : (w : World S) (v : World T) (how : Begin) → Asked how → SameProcesses Related w.processes v.processes → SameChosen (started a w how) (started b v how)
    same-started w v how asked same =
        subst (λ n. SameChosen (started a w how) (if nat_lt n last_pid then record { events = event.Start n how ∷ []; world = record { processes = v.processes ++ record { status = Running; state = b.begin how } ∷ [] } } else nothing v)) (same-length w.processes v.processes same) (go (nat_lt (length w.processes) last_pid))
      where
        go : (room : Bool) → SameChosen (if room then record { events = event.Start (length w.processes) how ∷ []; world = record { processes = w.processes ++ record { status = Running; state = a.begin how } ∷ [] } } else nothing w)
            (if room then record { events = event.Start (length w.processes) how ∷ []; world = record { processes = v.processes ++ record { status = Running; state = b.begin how } ∷ [] } } else nothing v)
        go true = record { events = refl; world = same-push w.processes v.processes _ _ same (record { status = refl; states = agree.begins how asked }) }
        go false = record { events = refl; world = same }

    same-choice : (w : World S) (v : World T) (c : Choice) → IsChoice Asked c → SameProcesses Related w.processes v.processes → SameChosen (choose a w c) (choose b v c)
    same-choice w v (Start module' name args) is same = same-started w v _ is.1 same
    same-choice w v (Run pid transfers) is same = same-run w v pid transfers _ _ is.0 same (found w.processes v.processes pid same)

    same-runs : (script : List Choice) (w : World S) (v : World T) → IsScript Asked script → SameProcesses Related w.processes v.processes → run_from a w script ≡ run_from b v script
    same-runs [] w v is same = refl
    same-runs (c ∷ cs) w v is same =
        let chosen = same-choice w v c is.0 same in
        ap (λ es. es ++ Ready (ready_from 0 (choose a w c).world.processes) ∷ run_from a (choose a w c).world cs) chosen.events
        ∙ ap (λ pids. (choose b v c).events ++ Ready pids ∷ run_from a (choose a w c).world cs) (same-ready 0 _ _ chosen.world)
        ∙ ap (λ es. (choose b v c).events ++ Ready (ready_from 0 (choose b v c).world.processes) ∷ es) (same-runs cs (choose a w c).world (choose b v c).world is.1 chosen.world)

    -- codes that agree have the same run of every script
    pub run_same : (script : List Choice) → IsScript Asked script → run a script ≡ run b script
    run_same script is = same-runs script empty_world empty_world is tt
