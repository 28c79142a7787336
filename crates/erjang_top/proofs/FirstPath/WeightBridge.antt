-- What a function weighs by the first path's definition is no more than its whole weight.
use Rattle.std.proofs.Common.{ℕ, ◌+◌, ◌*◌, ◌≤◌, Bool, List, [], ◌∷◌, map, Option, None, subst, arith}
use Rattle.std.specs.Prelude.{fold, sum}
use Rattle.beam_code.specs.declared.module.Function.{Function}
use Rattle.beam_code.specs.declared.operand.Reg.{Reg}
use Rattle.beam_code.specs.declared.operand.Reg.TheVariants as register
use Rattle.beam_code.specs.declared.operand.Src.{Src}
use Rattle.beam_code.specs.declared.operand.Src.TheVariants as source
use Rattle.beam_code.specs.Code as code
use Rattle.beam_code.specs.Code.{function_code}
use Rattle.beam_code.specs.Good.{Assignment, assignment_of, next_state}
use Rattle.beam_code.specs.Labels.{with_label, defined_by, defined_in}
use Rattle.beam_code.specs.Opcode as c
use Rattle.beam_code.specs.Slots.{State}
use Rattle.beam_code.specs.Weights.{Place, own_weight, if_reached, defined_ys, charge, weight_at, places_from, places_of, is_wide, entry_labels, entry_weight, whole_weight, saturated}
use Rattle.erjang_top.specs.first_path.Opcode.{thin, move_of}
use Rattle.erjang_top.specs.first_path.Weights.{instruction_weight, weight}
use Rattle.erjang_compile.specs.Accepted.{FunctionFits, most_of_function}
use Rattle.erjang_top.proofs.FirstPath.RulesKept.{mapped}

move-weight : (from : Src) (to : Reg) → instruction_weight (move_of from to) ≤ 10
move-weight (source.Reg (register.X n)) (register.X to) = omega arith
move-weight (source.Reg (register.Y n)) (register.X to) = omega arith
move-weight (source.Int n) (register.X to) = omega arith
move-weight (source.Atom name) (register.X to) = omega arith
move-weight source.Nil (register.X to) = omega arith
move-weight (source.Literal t) (register.X to) = omega arith
move-weight from (register.Y to) = omega arith

none : (n : ℕ) → 0 ≤ n
none n = omega arith

own : (o : c.Opcode) (q : ℕ) → instruction_weight (thin o) ≤ own_weight o q
own (c.FuncInfo owner name arity) q = omega arith
own (c.Move from to) q = move-weight from to
own c.Return q = omega arith
own o q = none (own_weight o q)

more : (a b n : ℕ) → a ≤ b → a ≤ b + n
more a b n h = omega arith

at-place : (wide : Bool) (p : Place) → instruction_weight (thin p.opcode) ≤ weight_at wide p
at-place wide p = more (instruction_weight (thin p.opcode)) (own_weight p.opcode (if_reached defined_ys p.before)) (charge wide p) (own p.opcode (if_reached defined_ys p.before))

abbrev sum_from : ℕ → List ℕ → ℕ
sum_from n ns = fold (λ a x. a + x) n ns

both-more : (m n a b : ℕ) → m ≤ n → a ≤ b → m + a ≤ n + b
both-more m n a b h e = omega arith

from-places : (wide : Bool) (at : Assignment) (labels : List ℕ) (before : Option State) (os : List c.Opcode) (m n : ℕ) → m ≤ n
    → sum_from m (map instruction_weight (map thin os)) ≤ sum_from n (map (weight_at wide) (places_from at labels before os))
from-places wide at labels before [] m n h = h
from-places wide at labels before (o ∷ os) m n h =
    let here : Place = record { opcode = o; before = before; labels = labels } in
    from-places wide at (with_label labels (defined_by o)) (next_state at o before) os (m + instruction_weight (thin o)) (n + weight_at wide here)
    (both-more m n (instruction_weight (thin o)) (weight_at wide here) h (at-place wide here))

in-places : (wide : Bool) (at : Assignment) (os : List c.Opcode) → sum (map instruction_weight (map thin os)) ≤ sum (map (weight_at wide) (places_of at os))
in-places wide at [] = omega arith
in-places wide at (info ∷ os) =
    let here : Place = record { opcode = info; before = None; labels = [] } in
    from-places wide at [] (next_state at info None) os (0 + instruction_weight (thin info)) (0 + weight_at wide here)
    (both-more 0 0 (instruction_weight (thin info)) (weight_at wide here) (omega arith) (at-place wide here))

total : (base small whole entries : ℕ) → small ≤ whole → saturated (base + whole + entries) ≤ most_of_function → base + small ≤ most_of_function
total base small whole entries h e = omega arith

-- under any assignment
within : (at : Assignment) (f : Function) → saturated (whole_weight at (function_code f)) ≤ most_of_function → weight f ≤ most_of_function
within at f h =
    let os : List c.Opcode = map code.opcode f.code in
    subst (λ is. 64 + 12 * f.arity + sum (map instruction_weight is) ≤ most_of_function) (mapped f.code)
    (total (64 + 12 * f.arity) (sum (map instruction_weight (map thin os))) (sum (map (weight_at (is_wide at os)) (places_of at os)))
    (sum (map (entry_weight at (entry_labels at os)) (defined_in os))) (in-places (is_wide at os) at os) h)

pub function_fits : (f : Function) → FunctionFits (function_code f) → weight f ≤ most_of_function
function_fits f w = within (assignment_of w.1.slots) f (subst (λ n. n ≤ most_of_function) w.1.sum w.2)
