-- A code whose states are given back is lawful where the code is, and has the same runs.
use Rattle.std.proofs.Common.{◌≡◌, ℕ, ◌≤◌, true, List, [], ◌∷◌, Option, None, Some, refl, sym, ap, subst}
use Rattle.std.specs.List.{AllByRecursion}
use Rattle.ej_term.specs.Term.{Term}
use Rattle.ej_world.specs.declared.effect.Begin.{Begin}
use Rattle.ej_world.specs.Agree.{Relation, Keeps, may_turn, SameTurn, Agree, IsChoice, IsScript}
use Rattle.ej_world.specs.Choices.{View, Outcome, Runs, Waits, Ends, Turned, Code, spawned, status_after}
use Rattle.ej_world.specs.Lawful.{States, MeetsView, Kept, LawfulTurn, Lawful}
use Rattle.ej_world.specs.Runs.{Choice, run}
use Rattle.ej_world.specs.Runs.{Start, Run, Deliver, Advance, Input, Auto}
use Rattle.ej_world.specs.World.{Status}
use Rattle.ej_world.proofs.RunLaw.{run_same}
use Rattle.proc_sched.specs.Freed.{left, freed_after, freed, IsFreed}

module _ {S : Type 0} (code : Code S) where
  -- ---- lawful

  module _ (IsState : States S) where
    pub kept-left : (o : Outcome) (s : S) → Kept IsState (status_after o) s → Kept (IsFreed IsState) (status_after o) (left o s)
    kept-left Runs s kept = kept
    kept-left Waits s kept = kept
    kept-left (Ends reason) s kept = tt

    pub freed-turn : (v : View) (t : Turned S) → LawfulTurn IsState v t → LawfulTurn (IsFreed IsState) v (freed_after t)
    freed-turn v t turn = record {
      me = turn.me;
      clock = turn.clock;
      events = turn.events;
      next_pid = turn.next_pid;
      live = turn.live;
      next_ref = turn.next_ref;
      pids_end = turn.pids_end;
      refs_end = turn.refs_end;
      links = turn.links;
      not_itself = turn.not_itself;
      messages = turn.messages;
      save = turn.save;
      timer = turn.timer;
      state = kept-left t.outcome t.state turn.state;
    }

    pub freed-lawful : Lawful code IsState → Lawful (freed code) (IsFreed IsState)
    freed-lawful lawful = record { begins = lawful.begins; turns = turns }
      where
        turns : (transfers : ℕ) (v : View) (status : Status) (o : Option S) → 1 ≤ transfers → MeetsView v → may_turn status v ≡ true → IsFreed IsState status o
            → LawfulTurn (IsFreed IsState) v ((freed code).turn transfers v o)
        turns transfers v status None some meets may is = absurd is
        turns transfers v status (Some s) some meets may is = freed-turn v (code.turn transfers v s) (lawful.turns transfers v status s some meets may is)

  -- ---- the same runs

  abbrev Same : Relation (Option S) S
  Same status o s = o ≡ Some s

  abbrev Any : Begin Term → Type 0
  Any how = Unit {0}

  any-all : (hows : List (Begin Term)) → AllByRecursion Any hows
  any-all [] = tt
  any-all (how ∷ hows) = (tt, any-all hows)

  left-same : (o : Outcome) (s : S) → Keeps Same (status_after o) (left o s) s
  left-same Runs s = refl
  left-same Waits s = refl
  left-same (Ends reason) s = tt

  same-turn : (t : Turned S) → SameTurn Same Any (freed_after t) t
  same-turn t = record { events = refl; outcome = refl; view = refl; asked = any-all (spawned t.events); states = left-same t.outcome t.state }

  agree : Agree (freed code) code Same Any
  agree = record {
    begins = λ how asked. refl;
    turns = λ transfers v status o s may e. subst (λ o. SameTurn Same Any ((freed code).turn transfers v o) (code.turn transfers v s)) (sym e) (same-turn (code.turn transfers v s));
    depths = λ status o s e. ap (freed code).depth e;
  }

  any-choice : (c : Choice) → IsChoice Any c
  any-choice (Start module' name args) = tt
  any-choice (Run number transfers) = tt
  any-choice (Deliver from to) = tt
  any-choice (Advance ms) = tt
  any-choice (Input number message) = tt
  any-choice (Auto most) = tt

  any-script : (script : List Choice) → IsScript Any script
  any-script [] = tt
  any-script (c ∷ cs) = (any-choice c, any-script cs)

  pub freed-run : (script : List Choice) → run (freed code) script ≡ run code script
  freed-run script = run_same Same Any (freed code) code agree script (any-script script)
