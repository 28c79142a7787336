use Rattle.std.proofs.Common.{◌≡◌, ◌++◌, ◌+◌, ◌≤◌, List, drop, length}
use Rattle.jvm_code.specs.declared.types.VType.{VType}
use Rattle.jvm_code.specs.Typing as spec
use Rattle.class_verifier.specs.Seen.{types_seen}
use Rattle.class_verifier.proofs.fits.fit_all.Given as goal

abbrev pub invariant-loop-one : goal.invariant-loop-one
invariant-loop-one l = record {
  rest : (rest : List VType) → spec.all_assignable (types_seen l.types) (spec.places l.wanted ++ rest) ≡ spec.all_assignable (drop l.end (types_seen l.types)) (spec.places (drop l.one-index l.wanted) ++ rest);
  count : l.end + length (spec.places (drop l.one-index l.wanted)) ≡ length (spec.places l.wanted);
  within : l.end ≤ length l.types;
}
