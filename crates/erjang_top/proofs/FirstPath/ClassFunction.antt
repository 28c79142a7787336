-- What the method of a function comes to, and how many instructions it performs at most.
use Rattle.std.proofs.Common.{◌≡◌, ℕ, zero, suc, ◌+◌, ◌-◌, ◌*◌, ◌<◌, ◌≤◌, max, Bool, true, false, List, [], ◌∷◌, ◌++◌, map, sum, length, length-append, replicate, Some, refl, sym, ap, ◌∙◌, subst, arith}
use Rattle.std.specs.Prelude.{slice_get, if◌then◌else◌, pos}
use Rattle.std.specs.List.{list_any, list_all, AllByRecursion}
use Rattle.std.proofs.lemmas.Bool.{and_parts, ltb-true}
use Rattle.std.proofs.lemmas.List.{length-replicate}
use Rattle.std.proofs.lemmas.List.Sums.{sum_by-cons}
use Rattle.ej_term.specs.Term.{Term}
use Rattle.beam_code.specs.declared.module.Function.{Function}
use Rattle.erjang_top.specs.first_path.LabelRules.{opcodes}
use Rattle.erjang_top.specs.first_path.Opcode.{Source, X, Of, Integer, Atom, Nil, Opcode, Label, Line, Comment, FuncInfo, Move, Return, Unknown}
use Rattle.erjang_top.specs.first_path.Opcode as code
use Rattle.erjang_top.specs.first_path.Accepted.{is_thin_opcode}
use Rattle.erjang_top.specs.first_path.Weights.{instruction_weight, weight, same_value}
use Rattle.erjang_top.specs.first_path.ClassFile.{Op, Method, Class}
use Rattle.erjang_top.specs.first_path.ClassTurn.{Value, Top, Int, OfTerm, Proc, Held, activation, run_method}
use Rattle.erjang_top.specs.first_path.Flow.{arguments, flows}
use Rattle.erjang_top.specs.first_path.ModuleClass.{astore, local_of, index_of, push_source, take_arguments, body_ops, is_entry, behind, body, function_ops, registers, placed}
use Rattle.erjang_top.proofs.FirstPath.ClassArguments.{takes}
use Rattle.erjang_top.proofs.FirstPath.ClassBody.{Kept, finished, runs-body}
use Rattle.erjang_top.proofs.FirstPath.ClassCode.{Comes, Stands, fuel, placed-stands}
use Rattle.erjang_top.proofs.FirstPath.ClassPool.{HasRuntime}
use Rattle.erjang_top.proofs.FirstPath.Ending.{ending, given}
use Rattle.erjang_top.proofs.FirstPath.ModuleValues.{HasValue, IsAmong}

-- ---- how many instructions

take-count : (at count : ℕ) → length (take_arguments at count) ≡ 4 * count
take-count at zero = omega arith
take-count at (suc count) = omega (arith, take-count (at + 1) count)

source-count : (values : List code.Value) (from : Source) → length (push_source values from) ≤ 2
source-count values (X n) = omega arith
source-count values (Of (Integer number)) = omega arith
source-count values (Of (Atom name)) = omega arith
source-count values (Of Nil) = omega arith

weights : List Opcode → ℕ
weights code = sum (map instruction_weight code)

weights-first : (i : Opcode) (code : List Opcode) → weights (i ∷ code) ≡ instruction_weight i + weights code
unfolding weights
weights-first i code = sum_by-cons (λ n. n) (instruction_weight i) (map instruction_weight code)

body-count : (values : List code.Value) (code : List Opcode) → length (body_ops values code) ≤ weights code
body-count values [] = omega arith
body-count values (Label n ∷ code) = omega (arith, weights-first (Label n) code, body-count values code)
body-count values (Line ∷ code) = omega (arith, weights-first Line code, body-count values code)
body-count values (Comment ∷ code) = omega (arith, weights-first Comment code, body-count values code)
body-count values (FuncInfo owner name arity ∷ code) = omega (arith, weights-first (FuncInfo owner name arity) code)
body-count values (Return ∷ code) = omega (arith, weights-first Return code)
body-count values (Unknown ∷ code) = omega (arith, weights-first Unknown code, body-count values code)
body-count values (Move from to ∷ code) =
    let pushed = push_source values from in
    let stored : List Op = astore (local_of to) ∷ [] in
    omega (arith, weights-first (Move from to) code, body-count values code, source-count values from, length-append pushed stored, length-append (pushed ++ stored) (body_ops values code))

behind-weight : (n : ℕ) (code : List Opcode) → weights (behind n code) ≤ weights code
behind-weight n [] = omega arith
behind-weight n (i ∷ code) = by (is_entry n i) (behind-weight n code)
  where
    by : (b : Bool) → weights (behind n code) ≤ weights code → weights (if b then code else behind n code) ≤ weights (i ∷ code)
    by true rest = omega (arith, weights-first i code)
    by false rest = omega (arith, weights-first i code, rest)

-- no more than the function weighs
pub function-count : (values : List code.Value) (f : Function) → length (function_ops values f) ≤ weight f
unfolding weights
function-count values f =
    omega (arith, take-count 0 f.arity, body-count values (body f), behind-weight f.entry (opcodes f), length-append (take_arguments 0 f.arity) (body_ops values (body f)))

-- the instructions behind a label are among all
pub behind-all : (test : Opcode → Bool) (n : ℕ) (code : List Opcode) → list_all test code ≡ true → list_all test (behind n code) ≡ true
behind-all test n [] all = refl
behind-all test n (i ∷ code) all = by (is_entry n i) (behind-all test n code)
  where
    by : (b : Bool) → (list_all test code ≡ true → list_all test (behind n code) ≡ true) → list_all test (if b then code else behind n code) ≡ true
    by true rest = (and_parts (test i) (list_all test code) all).1
    by false rest = rest (and_parts (test i) (list_all test code) all).1

-- ---- its run

given-value : (args : List Term) (n : ℕ) → n < length args → slice_get (map (λ t. OfTerm t) args) n ≡ Some (OfTerm (given args n))
given-value [] n lt = absurd (omega (arith, lt))
given-value (t ∷ args) zero lt = refl
given-value (t ∷ args) (suc n) lt = given-value args n (omega (arith, lt))

module _ (c : Class) (method : Method) (me : ℕ) (values : List code.Value) (runtime : HasRuntime c.pool)
    (entries : (value : code.Value) → list_any (same_value value) values ≡ true → HasValue c.pool (index_of values value) value) where
  pub runs-function : (f : Function) (left : ℕ) (args : List Term) (held : Held) → method.code ≡ placed 0 (function_ops values f) → method.max_locals ≡ 2 + max f.arity (registers (body f))
      → length args ≡ f.arity → held.entered ≡ map (λ t. OfTerm t) args → flows (arguments f.arity) (body f) ≡ true → AllByRecursion (IsAmong values) (body f)
      → list_all is_thin_opcode (body f) ≡ true → run_method me (fuel (function_ops values f) left) (activation c method 0) [] held ≡ finished me held (ending (given args) (body f)) left
  runs-function f left args held code locals count entered flow among thin =
      let first : List Value = Proc ∷ Int (pos 0) ∷ replicate (method.max_locals - 2) Top in
      let long : length first ≡ 2 + max f.arity (registers (body f)) = omega (arith, locals, length-replicate (method.max_locals - 2) Top) in
      let kept : Kept (arguments 0) (given args) first = record { process = refl; terms = λ n lt. absurd (omega (arith, ltb-true n 0 lt)) } in
      let stands : Stands method.code 0 (function_ops values f) = subst (λ ps. Stands ps 0 (function_ops values f)) (sym code) (placed-stands 0 (function_ops values f)) in
      let come : Comes c method me (fuel (function_ops values f) left) 0 first [] held (finished me held (ending (given args) (body f)) left) =
      takes c method me runtime f.arity 0 f.arity (body_ops values (body f)) left 0 first held _ (given args) (omega arith) (omega (arith, long))
      (λ n lt. ap (λ vs. slice_get vs n) entered ∙ given-value args n (omega (arith, lt, count))) kept stands
      (λ at' locals' same kept' stands'. runs-body c method me values runtime entries (body f) left at' locals' held (arguments f.arity) (given args) flow among thin (omega (arith, same, long)) kept' stands') in
      come.is
