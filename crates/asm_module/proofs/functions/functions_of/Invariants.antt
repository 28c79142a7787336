use Rattle.std.proofs.Common.{◌≡◌, ◌+◌, drop, map}
use Rattle.asm_module.specs.Joined.{from_here}
use Rattle.asm_module.specs.Modules.{functions_of}
use Rattle.asm_module.specs.Seen.{key_seen}
use Rattle.asm_module.proofs.functions.functions_of.Given as goal

-- the functions so far, with what is behind them, are those of all forms
abbrev pub invariant-loop-at : goal.invariant-loop-at
invariant-loop-at l = from_here (map key_seen l.keys.keys) l.whole l.last (l.at + 5) (drop l.at l.rest) ≡ functions_of l.forms
