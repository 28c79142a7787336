-- What of a source's term is fed to a hasher: a number for its kind, and what is in it.
use Rattle.std.specs.Prelude.{◌≡◌, ℕ, true, List, ◌++◌, encode_utf8_all, Option, None, Some}
use Rattle.std.specs.Hash as fed
use Rattle.std.specs.Hash.{HashWrites}
use Rattle.std.proofs.Common.{ap}
use Rattle.ej_term.specs.declared.asm_term.AsmTerm.{AsmTerm, fold-AsmTerm}
use Rattle.ej_term.specs.declared.asm_term.AsmTerm.TheOpen as o
use Rattle.ej_term.specs.declared.asm_term.AsmTerm.TheOpen.{AsmTerm-F}
use Rattle.ej_term.specs.Same.{same}
use Rattle.ej_term.specs.SameLaws.{same_means}

abbrev pub text : List ℕ → HashWrites
text characters = fed.str (encode_utf8_all characters)

abbrev pub optional : Option HashWrites → HashWrites
optional None = fed.u8 0
optional (Some writes) = fed.u8 1 ++ writes

abbrev pub fed_step : AsmTerm-F HashWrites → HashWrites
fed_step (o.Int n) = fed.u8 0 ++ fed.i64 n
fed_step (o.Atom name) = fed.u8 1 ++ text name
fed_step (o.Str characters) = fed.u8 2 ++ fed.slice fed.u32 characters
fed_step (o.List parts tail) = fed.u8 3 ++ (fed.slice (λ writes. writes) parts ++ optional tail)
fed_step (o.Tuple parts) = fed.u8 4 ++ fed.slice (λ writes. writes) parts
fed_step (o.Map pairs) = fed.u8 5 ++ fed.slice (λ (pair : HashWrites × HashWrites). pair.0 ++ pair.1) pairs
fed_step (o.ExtFun owner name arity) = fed.u8 6 ++ (text owner ++ (text name ++ fed.u8 arity))
fed_step (o.Pid node number) = fed.u8 7 ++ (fed.u32 node ++ fed.u64 number)
fed_step (o.Ref node number) = fed.u8 8 ++ (fed.u32 node ++ fed.u64 number)
fed_step (o.Opaque spelling) = fed.u8 9 ++ text spelling

abbrev pub fed_term : AsmTerm → HashWrites
fed_term = fold-AsmTerm HashWrites fed_step

abbrev pub fed_tail : Option AsmTerm → HashWrites
fed_tail None = fed.u8 0
fed_tail (Some tail) = fed.u8 1 ++ fed_term tail

abbrev pub fed_pair : AsmTerm × AsmTerm → HashWrites
fed_pair pair = fed_term pair.0 ++ fed_term pair.1

-- what is the same is fed alike
pub fed_alike : (t other : AsmTerm) → same t other ≡ true → fed_term t ≡ fed_term other
fed_alike t other h = ap fed_term (same_means t other h)
