-- What no instruction may hold: a token outside the profile (a float, a binary, an integer of more than 64 bits), a pid
-- or a reference.
use Rattle.std.specs.Prelude.{Bool, true, false, ◌||◌, unwrap_or, Option, option_map}
use Rattle.std.specs.List.{list_any}
use Rattle.ej_term.specs.declared.asm_term.AsmTerm.{AsmTerm, fold-AsmTerm}
use Rattle.ej_term.specs.declared.asm_term.AsmTerm.TheOpen as o
use Rattle.ej_term.specs.declared.asm_term.AsmTerm.TheOpen.{AsmTerm-F}

abbrev pub itself : Bool → Bool
itself b = b

-- whether a term holds it, once that is known of its parts
abbrev pub foreign_step : AsmTerm-F Bool → Bool
foreign_step (o.List parts tail) = list_any itself parts || unwrap_or tail false
foreign_step (o.Tuple parts) = list_any itself parts
foreign_step (o.Map pairs) = list_any (λ (p : Bool × Bool). p.0 || p.1) pairs
foreign_step (o.Pid node number) = true
foreign_step (o.Ref node number) = true
foreign_step (o.Opaque spelling) = true
foreign_step _ = false

-- an opaque token, a pid or a reference is anywhere in the term
abbrev pub holds_foreign : AsmTerm → Bool
holds_foreign = fold-AsmTerm Bool foreign_step

abbrev pub pair_is_foreign : AsmTerm × AsmTerm → Bool
pair_is_foreign pair = holds_foreign pair.0 || holds_foreign pair.1

abbrev pub tail_is_foreign : Option AsmTerm → Bool
tail_is_foreign tail = unwrap_or (option_map holds_foreign tail) false
