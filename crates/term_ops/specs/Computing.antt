-- What operations on integers come to.
use Rattle.std.specs.Prelude.{ℤ, neg_ℤ, Result, Ok, Err}
use Rattle.ej_term.specs.Term.{Int}
use Rattle.ej_term.specs.Outcome.{Outcome, Value, badarith, system_limit}
use Rattle.ej_term.specs.Arithmetic as arithmetic
use Rattle.term_ops.specs.declared.arithmetic.Fault.{Fault}
use Rattle.term_ops.specs.declared.arithmetic.Fault.TheVariants as f
use Rattle.term_ops.specs.declared.arithmetic.Operation.{Operation}
use Rattle.term_ops.specs.declared.arithmetic.Operation.TheVariants as o
use Rattle.term_ops.specs.declared.arithmetic.Single.{Single}
use Rattle.term_ops.specs.declared.arithmetic.Single.TheVariants as s

-- the integer, or the error that a fault is
abbrev pub outcome_of : Result ℤ Fault → Outcome
outcome_of (Ok n) = Value (Int n)
outcome_of (Err f.BadArith) = badarith
outcome_of (Err f.SystemLimit) = system_limit

-- the functions that the operations are
abbrev pub function_of : Operation → ℤ → ℤ → Outcome
function_of o.Plus = arithmetic.plus
function_of o.Minus = arithmetic.minus
function_of o.Times = arithmetic.times
function_of o.Quotient = arithmetic.quotient
function_of o.Remainder = arithmetic.remainder
function_of o.And = arithmetic.band
function_of o.Or = arithmetic.bor
function_of o.ExclusiveOr = arithmetic.bxor
function_of o.ShiftLeft = arithmetic.bsl
function_of o.ShiftRight = arithmetic.bsr

abbrev pub function_of_one : Single → ℤ → ℤ
function_of_one s.Negation = neg_ℤ
function_of_one s.Identity = arithmetic.same
function_of_one s.Complement = arithmetic.bnot
