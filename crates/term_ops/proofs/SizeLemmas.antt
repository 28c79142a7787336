-- Tests of sizes by what their terms are.
use Rattle.std.proofs.Common.{◌≡◌, ℕ, pos, suc, nat_eq, List, length, Some, refl, sym, ap, ap₂, ◌∙◌}
use Rattle.std.proofs.lemmas.Option.{none-some}
use Rattle.ej_term.specs.Term.{Term, Int, Tuple, Terms, None, More}
use Rattle.ej_term.specs.Order.{size}
use Rattle.ej_term.specs.Outcome.{Value, number}
use Rattle.ej_term.specs.Tuples.{items, tuple_size}
use Rattle.ej_term.specs.Tests.{has_arity}
use Rattle.ej_term.proofs.Options.{unsome}
use Rattle.term_ops.specs.Parts.{tuple_elements, natural_of}

pub size-items : (ts : Terms) → size ts ≡ length (items ts)
size-items None = refl
size-items (More t ts) = ap suc (size-items ts)

pub sized : (t u : Term) (xs : List Term) (n : ℕ) → Some xs ≡ tuple_elements t → Some n ≡ natural_of u → nat_eq (length xs) n ≡ has_arity t u
sized (Tuple parts) (Int (pos k)) xs n e f =
    ap₂ nat_eq (ap length (unsome xs (items parts) e) ∙ sym (size-items parts)) (unsome n k f)
sized (Tuple parts) u xs n e f = absurd (none-some n (sym f))
sized t u xs n e f = absurd (none-some xs (sym e))

-- the size of a tuple of these elements
pub size_is : (t : Term) (xs : List Term) → Some xs ≡ tuple_elements t → tuple_size t ≡ Value (number (length xs))
size_is (Tuple parts) xs e = ap (λ k. Value (number k)) (size-items parts ∙ ap length (sym (unsome xs (items parts) e)))
size_is t xs e = absurd (none-some xs (sym e))
