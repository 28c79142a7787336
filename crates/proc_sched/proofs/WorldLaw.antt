-- What a choice makes of a system, and of what a world would show.
use Rattle.std.proofs.Common.{◌≡◌, ℕ, Bool, List, [], map, Option, option_map, ap, ◌∙◌}
use Rattle.std.specs.Prelude.{Result, Ok, Err}
use Rattle.std.specs.List.{list_any}
use Rattle.ej_term.specs.declared.asm_term.AsmTerm.{AsmTerm}
use Rattle.ej_term.specs.AsmValue.{value, every, has_opaque}
use Rattle.ej_world.specs.declared.choice.Choice.{Choice}
use Rattle.ej_world.specs.declared.choice.Choice.TheVariants as choice
use Rattle.ej_world.specs.Choices.{Code, System}
use Rattle.ej_world.specs.Lawful.{States}
use Rattle.ej_world.specs.Runs as run
use Rattle.ej_world.specs.Runs.{run_from}
use Rattle.ej_world.specs.World.{empty}
use Rattle.proc_sched.specs.declared.fault.ChoiceFault.{ChoiceFault}
use Rattle.proc_sched.specs.declared.fault.ChoiceFault.TheVariants as fault
use Rattle.proc_sched.specs.Calls.{Held, Meant}
use Rattle.proc_sched.specs.Choose.{chosen, is_opaque}
use Rattle.proc_sched.specs.Freed.{freed}
use Rattle.proc_sched.specs.Systems.{Kept, system_of, shows_of, Loaded, Starts, Inputs, Makes}
use Rattle.proc_sched.proofs.FreedLaw.{freed-run}

module _ {State S : Type 0} (Holds' : Held State) (means : Meant State S) (IsState : States S) (code : Code S) where
  -- what terms that were loaded make is what the choice makes
  loaded-makes : {A : Type 0} (c : Choice) (opaque : Bool) (terms : Option A) (made : A → run.Choice) (old new : Kept State) (r : Result (Unit {0}) ChoiceFault) → chosen c ≡ option_map made terms → is_opaque c ≡ opaque
      → Loaded Holds' means IsState opaque terms (λ what. run.choose (freed code) (system_of means old) (made what)) old new r → Makes Holds' means IsState code c old new r
  loaded-makes c opaque terms made old new (Ok x) is opaque_is loaded = (made loaded.0, is ∙ ap (option_map made) loaded.1, loaded.2)
  loaded-makes c opaque terms made old new (Err fault.Opaque) is opaque_is loaded = (opaque_is ∙ loaded.0, loaded.1)
  loaded-makes c opaque terms made old new (Err fault.NoMemory) is opaque_is loaded = tt

  pub start-makes : (c : Choice) (module' name : List ℕ) (args : List AsmTerm) (old new : Kept State) (r : Result (Unit {0}) ChoiceFault) → c ≡ choice.Start module' name args → Starts Holds' means IsState code module' name args old new r
      → Makes Holds' means IsState code c old new r
  start-makes c module' name args old new r is starts = loaded-makes c (list_any has_opaque args) (every (map value args)) (run.Start module' name) old new r (ap chosen is) (ap is_opaque is) starts

  pub input-makes : (c : Choice) (number : ℕ) (term : AsmTerm) (old new : Kept State) (r : Result (Unit {0}) ChoiceFault) → c ≡ choice.Input number term → Inputs Holds' means IsState number term old new r
      → Makes Holds' means IsState code c old new r
  input-makes c number term old new r is inputs = loaded-makes c (has_opaque term) (value term) (run.Input number) old new r (ap chosen is) (ap is_opaque is) inputs

-- a world with no process shows the runs of its code
pub shows-run : {State S : Type 0} (means : Meant State S) (code : Code S) (k : Kept State) → system_of means k ≡ record { world = empty; states = [] } → shows_of means code k ≡ run.run code
shows-run means code k e = λ i. λ script. (ap (λ (r : System (Option _)). run_from (freed code) r script) e ∙ freed-run code script) i
