use Rattle.std.proofs.Common.{◌≡◌, map, Bor, ℕ}
use Rattle.proc_sched.proofs.node.Node.close.Given as goal

abbrev pub invariant-loop-number : goal.invariant-loop-number
invariant-loop-number l = l.numbers.items ≡ map (λ (b : Bor ℕ). b.now) l.yielded
