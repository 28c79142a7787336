use Rattle.std.proofs.Common.{ℕ, ◌+◌, ◌*◌, ◌≡◌, length, map, sym, ap, subst, ◌∙◌, arith}
use Rattle.std.specs.List.{flat_map}
use Rattle.std.proofs.lemmas.List.{length-map}
use Rattle.beam_code.specs.Code.{function_code}
use Rattle.beam_code.specs.Pool.{HasDifferent, externals_in, numbers_in, values_in}
use Rattle.beam_code.specs.Weights.{saturated}
use Rattle.slot_kinds.specs.Named.{code_in}
use Rattle.slot_kinds.proofs.pool.pool_weight.Goals as goal

four : (base first second third mid more w f v n e : ℕ) → base ≡ saturated (1024 + 6 * f) → first ≡ saturated (0 + 4 * v) → mid ≡ saturated (base + first) → second ≡ saturated (0 + 4 * n) → more ≡ saturated (mid + second)
    → third ≡ saturated (0 + 4 * e) → w ≡ saturated (more + third) → w ≡ saturated (1024 + 6 * f + 4 * v + 4 * n + 4 * e)
four base first second third mid more w f v n e a b c d g h i = omega arith

pub returns : goal.returns
returns c =
    let fs = c.args.module.now.functions in
    record {
      values = c.in_ok-values.values;
      numbers = c.in_ok-numbers.numbers;
      externals = c.in_ok-externals.externals;
      values_differ = subst (λ gs. HasDifferent (flat_map values_in (code_in (map function_code gs))) c.in_ok-values.values) c.as_slice-functions.ensures c.in_ok-values.ensures;
      numbers_differ = subst (λ gs. HasDifferent (flat_map numbers_in (code_in (map function_code gs))) c.in_ok-numbers.numbers) c.as_slice-functions.ensures c.in_ok-numbers.ensures;
      externals_differ = subst (λ gs. HasDifferent (flat_map externals_in (code_in (map function_code gs))) c.in_ok-externals.externals) c.as_slice-functions.ensures c.in_ok-externals.ensures;
      sum =
          four c.line.result c.line-2.result c.line-3.result c.line-4.result c.saturating_add.result c.saturating_add-2.result c.saturating_add-3.result
          (length (map function_code fs)) c.in_ok-values.values c.in_ok-numbers.numbers c.in_ok-externals.externals
          (c.line.ensures ∙ ap (λ n. saturated (1024 + 6 * n)) (ap length c.as_slice-functions.ensures ∙ sym (length-map fs function_code)))
          c.line-2.ensures c.saturating_add.ensures c.line-3.ensures c.saturating_add-2.ensures c.line-4.ensures c.saturating_add-3.ensures;
    }
