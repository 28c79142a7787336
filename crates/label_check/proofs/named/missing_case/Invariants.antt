use Rattle.std.proofs.Common.{◌≡◌, not, drop, map}
use Rattle.std.specs.List.{find}
use Rattle.label_check.specs.Seen.{seen_scope}
use Rattle.label_check.proofs.named.missing_case.Given as goal

abbrev pub invariant-loop-label : goal.invariant-loop-label
invariant-loop-label l =
    find (λ n. not ((seen_scope l.scope).is_own n)) (map (λ c. c.1) (drop l.label-index l.cases)) ≡ find (λ n. not ((seen_scope l.scope).is_own n)) (map (λ c. c.1) l.cases)
