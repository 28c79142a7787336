use Rattle.std.proofs.Common.{subst, sym, ap, ◌∙◌, ◌++◌}
use Rattle.std.specs.Str.Parse.{AllDigits}
use Rattle.asm_terms.specs.Runs.{run}
use Rattle.asm_terms.specs.Numbers.{is_digit}
use Rattle.asm_terms.proofs.DigitLemmas.{run-digits}
use Rattle.asm_terms.proofs.identifier.number_up_to.Goals as goal

pub value_of-requires-clause-digits : goal.value_of-requires-clause-digits
value_of-requires-clause-digits c =
    subst (AllDigits 10) (sym (c.in_ok-push_digits.ensures.spelled ∙ ap (λ x. x ++ run (is_digit 10) c.args.reader.now) c.new-digits.ensures)) (run-digits 10 c.args.reader.now)
