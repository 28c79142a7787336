use Rattle.std.proofs.Common.{◌≡◌, true, arith}
use Rattle.erjang_top.specs.first_path.SeenValues.{seen_value}
use Rattle.erjang_top.proofs.FirstPath.Appends.{step_all}
use Rattle.erjang_top.specs.first_path.Opcode.{Of}
use Rattle.erjang_top.specs.first_path.Accepted.{is_thin_source}
use Rattle.erjang_top.proofs.FirstPath.PoolSteps.{values-step}
use Rattle.erjang_top.proofs.first_path.emit.pool.push_values.Goals as goal

pub push_value-requires-clause-thin : goal.push_value-requires-clause-thin
push_value-requires-clause-thin c =
    (step_all (λ v. is_thin_source (Of v) ≡ true) seen_value c.as_slice-value-items.result.now c.loop-value.value-index c.value-item.result c.loop-value-test.true c.value-item.is c.loop-value.invariant.rest_thin).here

pub loop-value-preserved : goal.loop-value-preserved
loop-value-preserved c = record {
  at_is = omega (arith, c.loop-value.invariant.at_is);
  rest_thin = (step_all (λ v. is_thin_source (Of v) ≡ true) seen_value c.as_slice-value-items.result.now c.loop-value.value-index c.value-item.result c.loop-value-test.true c.value-item.is c.loop-value.invariant.rest_thin).rest;
  written = values-step c.as_slice-value-items.result.now c.loop-value.value-index c.value-item.result c.loop-value.at _ _ _ c.loop-value-test.true c.value-item.is c.loop-value.invariant.written c.in_ok-push_value.ensures;
}
