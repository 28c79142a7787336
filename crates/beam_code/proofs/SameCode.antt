-- What an instruction stands for tells the instruction, and so on up to modules.
use Rattle.std.proofs.Common.{◌≡◌, ℕ, true, List, ap, subst}
use Rattle.std.proofs.Math.Bool.{Bool-set}
use Rattle.beam_code.specs.declared.instr.Instr.{Instr}
use Rattle.beam_code.specs.declared.module.Function.{Function}
use Rattle.beam_code.specs.declared.module.Module.{Module}
use Rattle.beam_code.specs.declared.operand.Operand.{Operand}
use Rattle.beam_code.specs.RowFits.{fits}
use Rattle.beam_code.specs.Keys.{Key, are_distinct, are_exports}

-- an instruction's proof that it fits its row is the only one
pub same-fields : (row row' : ℕ) (os os' : List Operand) → row ≡ row' → os ≡ os' → (d : fits row os ≡ true) (d' : fits row' os' ≡ true)
    → ◌≡◌ {A = Instr} (record { row = row; operands = os; fits_row = d }) (record { row = row'; operands = os'; fits_row = d' })
same-fields row row' os os' e f d =
    subst (λ r. (d' : fits r os' ≡ true) → ◌≡◌ {A = Instr} (record { row = row; operands = os; fits_row = d }) (record { row = r; operands = os'; fits_row = d' })) e
    (subst (λ o. (d' : fits row o ≡ true) → ◌≡◌ {A = Instr} (record { row = row; operands = os; fits_row = d }) (record { row = row; operands = o; fits_row = d' })) f
    (λ d'. ap (λ (x : fits row os ≡ true). let i : Instr = record { row = row; operands = os; fits_row = x } in i) (Bool-set _ _ d d')))

-- modules are told by their names, exports and functions
pub same-module : (m n : Module) → m.name ≡ n.name → m.exports ≡ n.exports → m.functions ≡ n.functions → m ≡ n
same-module m n name exports functions = go m.name n.name m.exports n.exports m.functions n.functions name exports functions m.distinct n.distinct m.exported n.exported
  where
    go : (a b : List ℕ) (es fs : List Key) (gs hs : List Function) → a ≡ b → es ≡ fs → gs ≡ hs
        → (d : are_distinct gs ≡ true) (d' : are_distinct hs ≡ true) (x : are_exports es gs ≡ true) (x' : are_exports fs hs ≡ true)
        → ◌≡◌ {A = Module} (record { name = a; exports = es; functions = gs; distinct = d; exported = x }) (record { name = b; exports = fs; functions = hs; distinct = d'; exported = x' })
    go a b es fs gs hs e f g d d' x =
        subst (λ b. (x' : are_exports fs hs ≡ true) → ◌≡◌ {A = Module} (record { name = a; exports = es; functions = gs; distinct = d; exported = x }) (record { name = b; exports = fs; functions = hs; distinct = d'; exported = x' })) e
        (subst (λ fs. (x' : are_exports fs hs ≡ true) → ◌≡◌ {A = Module} (record { name = a; exports = es; functions = gs; distinct = d; exported = x }) (record { name = a; exports = fs; functions = hs; distinct = d'; exported = x' })) f
        (subst (λ hs. (d' : are_distinct hs ≡ true) (x' : are_exports es hs ≡ true) → ◌≡◌ {A = Module} (record { name = a; exports = es; functions = gs; distinct = d; exported = x }) (record { name = a; exports = es; functions = hs; distinct = d'; exported = x' })) g
        (λ d' x'. λ i. record { name = a; exports = es; functions = gs; distinct = Bool-set _ _ d d' i; exported = Bool-set _ _ x x' i }) d'))
