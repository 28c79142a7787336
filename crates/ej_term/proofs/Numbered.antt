-- Looking up by a number from 1.
use Rattle.std.proofs.Common.{◌≡◌, ℕ, ◌≤◌, ◌-◌, zero, suc, slice_get, Option, None, sym, ap, ◌∙◌, arith}
use Rattle.std.proofs.lemmas.Option.{slice_get_past}
use Rattle.ej_term.specs.declared.builtin.Builtin.{Builtin}
use Rattle.ej_term.specs.declared.test.Test.{Test}
use Rattle.ej_term.specs.BuiltinNumbers.{builtins, builtin_numbered}
use Rattle.ej_term.specs.TestNumbers.{tests, test_numbered}

pub past_builtins : (place : ℕ) → 90 ≤ place → None ≡ slice_get builtins place
past_builtins place past = sym (slice_get_past builtins place past)

pub past_tests : (place : ℕ) → 25 ≤ place → None ≡ slice_get tests place
past_tests place past = sym (slice_get_past tests place past)

pub builtin-at : (n place : ℕ) (found : Option Builtin) → 1 ≤ n → place ≡ n - 1 → found ≡ slice_get builtins place → found ≡ builtin_numbered n
builtin-at zero place found some is e = absurd (omega (arith, some))
builtin-at (suc n) place found some is e = let same : place ≡ n = omega (arith, is) in e ∙ ap (slice_get builtins) same

pub test-at : (n place : ℕ) (found : Option Test) → 1 ≤ n → place ≡ n - 1 → found ≡ slice_get tests place → found ≡ test_numbered n
test-at zero place found some is e = absurd (omega (arith, some))
test-at (suc n) place found some is e = let same : place ≡ n = omega (arith, is) in e ∙ ap (slice_get tests) same
