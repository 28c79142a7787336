use Rattle.world_tests.specs.Running.{IsRunning}
use Rattle.world_tests.proofs.runs.compare.Given as goal

abbrev pub invariant-loop-line : goal.invariant-loop-line
invariant-loop-line g l = IsRunning l.running
