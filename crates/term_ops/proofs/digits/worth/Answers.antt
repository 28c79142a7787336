use Rattle.std.proofs.Common.{◌≡◌, ◌+◌, ◌-◌, ◌*◌, ◌^◌, ◌∷◌, List, ℕ, true, drop, min, get_or, subst, arith, suc, ap, sym, ◌∙◌, drop-cons, rules}
use Rattle.std.specs.List.{list_all}
use Rattle.ej_term.specs.Atoms.{is_between}
use Rattle.ej_term.specs.Digits as spec
use Rattle.term_ops.proofs.DigitsCharacters.{worth-next, behind-all}
use Rattle.term_ops.proofs.digits.worth.Goals as goal

pub loop-digit-preserved : goal.loop-digit-preserved
loop-digit-preserved c =
    let next : suc c.loop-digit.digit-index ≡ c.loop-digit.digit-index + 1 = omega arith in
    let d = get_or c.args.digits.now c.loop-digit.digit-index 0 in
    let split : drop c.loop-digit.digit-index c.args.digits.now ≡ d ∷ drop (c.loop-digit.digit-index + 1) c.args.digits.now =
    drop-cons c.args.digits.now c.loop-digit.digit-index 0 c.loop-digit-test.true ∙ ap (λ n. d ∷ drop n c.args.digits.now) next
    in
    let step : c.saturating_add-worth.result ≡ min (min (c.loop-digit.worth * 10) (2 ^ 64 - 1) + (d - 48)) (2 ^ 64 - 1) = search rules in (
      omega arith,
      behind-all (is_between 48 57) d (drop (c.loop-digit.digit-index + 1) c.args.digits.now) (subst (λ (cs : List ℕ). list_all (is_between 48 57) cs ≡ true) split c.loop-digit.invariant.1),
      worth-next (2 ^ 64 - 1) c.loop-digit.worth c.saturating_add-worth.result d (drop (c.loop-digit.digit-index + 1) c.args.digits.now) step
          ∙ ap (λ (cs : List ℕ). min (spec.worth_onto c.loop-digit.worth cs) (2 ^ 64 - 1)) (sym split)
          ∙ c.loop-digit.invariant.2,
    )
