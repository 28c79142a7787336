-- When two terms of a source are the same: token by token, so that a string is not the list of its characters, and a map
-- with its pairs in another order is another map.
use Rattle.std.specs.Prelude.{Bool, true, false, nat_eq, ◌&&◌, Option, None, Some}
use Rattle.std.specs.Cmp.Lexicographic.{pointwise}
use Rattle.std.specs.Ordering.{int_eq}
use Rattle.std.specs.Str.{bytes_eq}
use Rattle.ej_term.specs.declared.asm_term.AsmTerm.{AsmTerm, fold-AsmTerm, out-AsmTerm}
use Rattle.ej_term.specs.declared.asm_term.AsmTerm.TheOpen as o
use Rattle.ej_term.specs.declared.asm_term.AsmTerm.TheOpen.{AsmTerm-F}

-- whether a term is a certain one
abbrev pub IsIt : Type 0
IsIt = AsmTerm → Bool

abbrev pub same_tail : Option IsIt → Option AsmTerm → Bool
same_tail None None = true
same_tail (Some is_it) (Some tail) = is_it tail
same_tail _ _ = false

abbrev pub same_pair : IsIt × IsIt → AsmTerm × AsmTerm → Bool
same_pair pair other = pair.0 other.0 && pair.1 other.1

-- whether a term is the one of this layer, once that is known of its parts
abbrev pub same_step : AsmTerm-F IsIt → AsmTerm-F AsmTerm → Bool
same_step (o.Int n) (o.Int m) = int_eq n m
same_step (o.Atom name) (o.Atom other) = bytes_eq name other
same_step (o.Str characters) (o.Str others) = bytes_eq characters others
same_step (o.List parts tail) (o.List others other) = pointwise (λ is_it part. is_it part) parts others && same_tail tail other
same_step (o.Tuple parts) (o.Tuple others) = pointwise (λ is_it part. is_it part) parts others
same_step (o.Map pairs) (o.Map others) = pointwise same_pair pairs others
same_step (o.ExtFun owner name arity) (o.ExtFun m f a) = (bytes_eq owner m && bytes_eq name f) && nat_eq arity a
same_step (o.Pid node number) (o.Pid n k) = nat_eq node n && nat_eq number k
same_step (o.Ref node number) (o.Ref n k) = nat_eq node n && nat_eq number k
same_step (o.Opaque spelling) (o.Opaque other) = bytes_eq spelling other
same_step _ _ = false

abbrev pub same_within : AsmTerm-F IsIt → IsIt
same_within layer other = same_step layer (out-AsmTerm other)

abbrev pub same : AsmTerm → AsmTerm → Bool
same = fold-AsmTerm IsIt same_within
