-- A world that runs a table of acts.
use Rattle.std.specs.Prelude.{ℕ}
use Rattle.proc_sched.specs.declared.world.World.{World}
use Rattle.proc_sched.specs.Worlds.{IsWorld}
use Rattle.world_tests.specs.Acts.{any_row}
use Rattle.world_tests.specs.declared.acts.Acts.{Acts}

-- one that `new` and choices made; a row stands for itself
abbrev pub IsRunning : World Acts ℕ → Type 0
IsRunning w = IsWorld (λ heap row. Unit {0}) (λ heap row. row) (λ rows. any_row) w
