-- The functions that comparisons and operations on booleans are.
use Rattle.std.specs.Prelude.{Bool, not}
use Rattle.ej_term.specs.Term.{Term}
use Rattle.ej_term.specs.Booleans.{both, either, differ}
use Rattle.ej_term.specs.Tests.{equal, less}
use Rattle.term_ops.specs.declared.booleans.Comparison.{Comparison}
use Rattle.term_ops.specs.declared.booleans.Comparison.TheVariants as c
use Rattle.term_ops.specs.declared.booleans.Junction.{Junction}
use Rattle.term_ops.specs.declared.booleans.Junction.TheVariants as j

abbrev pub comparison_of : Comparison → Term → Term → Bool
comparison_of c.Equal a b = equal a b
comparison_of c.Different a b = not (equal a b)
comparison_of c.AtMost a b = not (less b a)
comparison_of c.Less a b = less a b
comparison_of c.AtLeast a b = not (less a b)
comparison_of c.Greater a b = less b a

abbrev pub function_of : Junction → Bool → Bool → Bool
function_of j.Both = both
function_of j.Either = either
function_of j.Differ = differ
