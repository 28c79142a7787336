use Rattle.std.proofs.Common.{◌≡◌, ◌≤◌, drop}
use Rattle.jvm_code.specs.Names.{behind_last, digits_at}
use Rattle.jvm_code.proofs.names.digits_at.Given as goal

-- the place in all is that found in the rest
abbrev pub invariant-loop-at : goal.invariant-loop-at
invariant-loop-at l = record {
  told : behind_last l.at l.found (drop l.at l.text) ≡ digits_at l.text;
  within : l.found ≤ l.at;
}
