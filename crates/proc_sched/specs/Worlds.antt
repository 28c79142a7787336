-- What a running world is seen as.
use Rattle.std.specs.Prelude.{◌≡◌, false}
use Rattle.ej_world.specs.Choices.{Code}
use Rattle.ej_world.specs.Lawful.{States}
use Rattle.proc_sched.specs.declared.world.World.{World}
use Rattle.proc_sched.specs.Calls.{Held, Meant}
use Rattle.proc_sched.specs.Choose.{Seen}
use Rattle.proc_sched.specs.Stands.{seen_of}
use Rattle.proc_sched.specs.Systems.{kept, shows_of, IsSystem}

abbrev pub seen : {P State S : Type 0} → Meant State S → (P → Code S) → World P State → Seen
seen means code w =
    record {
      heap = w.system.node.heap;
      events = seen_of w.system.node;
      shows = shows_of means (code w.code) (kept w.system.node w.system.states.items);
      spent = w.spent;
    }

-- a world that `new` and choices made
abbrev pub IsWorld : {P State S : Type 0} → Held State → Meant State S → (P → States S) → World P State → Type 0
IsWorld Holds' means IsState w = w.spent ≡ false → IsSystem Holds' means (IsState w.code) (kept w.system.node w.system.states.items)
