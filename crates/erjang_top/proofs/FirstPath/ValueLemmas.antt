-- The values of a module in a set, each once.
use Rattle.std.proofs.Common.{◌≡◌, ℕ, ◌+◌, ◌<◌, List, [], ◌∷◌, map, drop, length, get_or, fold, refl, sym, ap, ◌∙◌}
use Rattle.std.specs.List.{filter_map}
use Rattle.std.proofs.lemmas.List.Elements.{filter_map-append}
use Rattle.std.proofs.lemmas.List.Sums.{fold-append}
use Rattle.indexmap.specs.IndexSet.{insert_key}
use Rattle.beam_code.specs.declared.instr.Instr.{Instr}
use Rattle.beam_code.specs.declared.module.Function.{Function}
use Rattle.erjang_top.specs.first_path.Opcode.{opcode}
use Rattle.erjang_top.specs.first_path.LabelRules.{opcodes}
use Rattle.erjang_top.specs.first_path.Opcode as opcode
use Rattle.erjang_top.specs.first_path.Weights.{value_in, same_value, with_value}
use Rattle.erjang_top.specs.declared.first_path.values.Value.{Value}
use Rattle.erjang_top.specs.declared.first_path.values.Value.TheVariants as value
use Rattle.erjang_top.specs.contracts.first_path.values.ValuePartialEq.TheImpl as compares
use Rattle.erjang_top.specs.first_path.SeenValues.{seen_value, values_in}
use Rattle.erjang_top.proofs.FirstPath.Dropped.{dropped}
use Rattle.erjang_top.proofs.FirstPath.SeenSets.{seen-insert}

-- the values of the code are compared as the definition compares them
same : (a b : Value) → compares.ghosts.eq a b ≡ same_value (seen_value a) (seen_value b)
same (value.Integer m) (value.Integer n) = refl
same (value.Integer m) (value.Atom b) = refl
same (value.Integer m) value.Nil = refl
same (value.Atom a) (value.Integer n) = refl
same (value.Atom a) (value.Atom b) = refl
same (value.Atom a) value.Nil = refl
same value.Nil (value.Integer n) = refl
same value.Nil (value.Atom b) = refl
same value.Nil value.Nil = refl

pub value-more : (held new : List Value) (value : Value) → new ≡ insert_key compares.ghosts.eq held value → map seen_value new ≡ with_value (map seen_value held) (seen_value value)
value-more held new value e = ap (map seen_value) e ∙ seen-insert compares.ghosts.eq same_value seen_value same value held

-- the values behind an instruction, where its own were added
pub code-more : (held new : List opcode.Value) (code : List Instr) (i : ℕ) (x : Instr) (whole : List opcode.Value) → i < length code → x ≡ get_or code i x
    → new ≡ fold with_value held (filter_map value_in (opcode x ∷ [])) → fold with_value held (filter_map value_in (map opcode (drop i code))) ≡ whole
    → fold with_value new (filter_map value_in (map opcode (drop (i + 1) code))) ≡ whole
code-more held new code i x whole within is e all =
    ap (λ vs. fold with_value vs (filter_map value_in (map opcode (drop (i + 1) code)))) e
    ∙ sym (fold-append with_value held (filter_map value_in (opcode x ∷ [])) (filter_map value_in (map opcode (drop (i + 1) code))))
    ∙ ap (fold with_value held) (sym (filter_map-append value_in (opcode x ∷ []) (map opcode (drop (i + 1) code))))
    ∙ sym (ap (λ c. fold with_value held (filter_map value_in (map opcode c))) (dropped code i x within is))
    ∙ all

-- and the same of functions
pub functions-more : (held new : List opcode.Value) (fs : List Function) (i : ℕ) (f : Function) (whole : List opcode.Value) → i < length fs → f ≡ get_or fs i f
    → new ≡ fold with_value held (filter_map value_in (opcodes f)) → fold with_value held (values_in (drop i fs)) ≡ whole
    → fold with_value new (values_in (drop (i + 1) fs)) ≡ whole
functions-more held new fs i f whole within is e all =
    ap (λ vs. fold with_value vs (values_in (drop (i + 1) fs))) e
    ∙ sym (fold-append with_value held (filter_map value_in (opcodes f)) (values_in (drop (i + 1) fs)))
    ∙ sym (ap (λ fs. fold with_value held (values_in fs)) (dropped fs i f within is))
    ∙ all
