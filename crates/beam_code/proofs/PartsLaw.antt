-- The parts of a module tell the module.
use Rattle.std.proofs.Common.{◌≡◌, List, [], ◌∷◌, map, ap}
use Rattle.beam_code.specs.declared.instr.Instr.{Instr}
use Rattle.beam_code.specs.declared.module.Function.{Function}
use Rattle.beam_code.specs.declared.module.Module.{Module}
use Rattle.beam_code.specs.Parts.{parts_of, function_parts, module_parts}
use Rattle.beam_code.proofs.SameCode.{same-fields, same-module}

code-told : (xs ys : List Instr) → map parts_of xs ≡ map parts_of ys → xs ≡ ys
code-told [] [] e = λ i. []
code-told [] (y ∷ ys) e = absurd (cc)
code-told (x ∷ xs) [] e = absurd (cc)
code-told (x ∷ xs) (y ∷ ys) e =
    let first : parts_of x ≡ parts_of y = cc in
    let rest : map parts_of xs ≡ map parts_of ys = cc in
    let here = same-fields x.row y.row x.operands y.operands (ap (λ p. p.row) first) (ap (λ p. p.operands) first) x.fits_row y.fits_row in
    let others = code-told xs ys rest in
    λ i. here i ∷ others i

functions-told : (fs gs : List Function) → map function_parts fs ≡ map function_parts gs → fs ≡ gs
functions-told [] [] e = λ i. []
functions-told [] (g ∷ gs) e = absurd (cc)
functions-told (f ∷ fs) [] e = absurd (cc)
functions-told (f ∷ fs) (g ∷ gs) e =
    let first : function_parts f ≡ function_parts g = cc in
    let rest : map function_parts fs ≡ map function_parts gs = cc in
    let name = ap (λ p. p.name) first in
    let arity = ap (λ p. p.arity) first in
    let entry = ap (λ p. p.entry) first in
    let code = code-told f.code g.code (ap (λ p. p.code) first) in
    let others = functions-told fs gs rest in
    λ i. record { name = name i; arity = arity i; entry = entry i; code = code i } ∷ others i

pub same_parts : (m n : Module) → module_parts m ≡ module_parts n → m ≡ n
same_parts m n e = same-module m n (ap (λ p. p.name) e) (ap (λ p. p.exports) e) (functions-told m.functions n.functions (ap (λ p. p.functions) e))
