-- The code of a function's method names methods that there are.
use Rattle.std.proofs.Common.{◌≡◌, ℕ, zero, suc, ◌+◌, Bool, true, false, nat_le, List, [], ◌∷◌, length, refl}
use Rattle.std.specs.Prelude.{pos, if◌then◌else◌}
use Rattle.std.specs.List.{list_all, AllByRecursion}
use Rattle.std.proofs.lemmas.Bool.{and_from}
use Rattle.beam_code.specs.declared.module.Function.{Function}
use Rattle.beam_code.specs.declared.module.Module.{Module}
use Rattle.erjang_top.specs.first_path.Opcode.{Value, Integer, Atom, Nil, Source, X, Of, Opcode, Label, Line, Comment, FuncInfo, Move, Return, Unknown}
use Rattle.erjang_top.specs.first_path.ClassFile.{Op, IConst, SIPush, op_bytes}
use Rattle.erjang_top.specs.first_path.Linking.{op_linked}
use Rattle.erjang_top.specs.first_path.ModuleClass.{push_number, take_argument, take_arguments, push_value, push_source, move_ops, body_ops, body, function_ops, placed, class_of}
use Rattle.erjang_top.proofs.FirstPath.ThinValues.{all-append}

abbrev IsLinked : Module → Op → Type 0
IsLinked m op = op_linked (class_of m) op ≡ true

abbrev AreLinked : Module → List Op → Type 0
AreLinked m ops = AllByRecursion (IsLinked m) ops

number-linked : (m : Module) (n : ℕ) → IsLinked m (push_number n)
number-linked m n = by (nat_le n 5)
  where
    by : (b : Bool) → op_linked (class_of m) (if b then IConst n else SIPush (pos n)) ≡ true
    by true = refl
    by false = refl

arguments-linked : (m : Module) (at count : ℕ) → AreLinked m (take_arguments at count)
arguments-linked m at zero = tt
arguments-linked m at (suc count) =
    all-append (IsLinked m) (take_argument at) (take_arguments (at + 1) count) (refl, (number-linked m at, (refl, (refl, tt)))) (arguments-linked m (at + 1) count)

value-linked : (m : Module) (values : List Value) (value : Value) → AreLinked m (push_value values value)
value-linked m values (Integer number) = (refl, (refl, tt))
value-linked m values (Atom name) = (refl, (refl, tt))
value-linked m values Nil = (refl, (refl, tt))

source-linked : (m : Module) (values : List Value) (from : Source) → AreLinked m (push_source values from)
source-linked m values (X n) = (refl, tt)
source-linked m values (Of value) = value-linked m values value

body-linked : (m : Module) (values : List Value) (code : List Opcode) → AreLinked m (body_ops values code)
body-linked m values [] = tt
body-linked m values (Label n ∷ code) = body-linked m values code
body-linked m values (Line ∷ code) = body-linked m values code
body-linked m values (Comment ∷ code) = body-linked m values code
body-linked m values (FuncInfo owner name arity ∷ code) = (refl, (refl, (refl, (refl, (refl, (refl, (refl, tt)))))))
body-linked m values (Move from to ∷ code) =
    all-append (IsLinked m) (move_ops values from to) (body_ops values code) (all-append (IsLinked m) (push_source values from) _ (source-linked m values from) (refl, tt)) (body-linked m values code)
body-linked m values (Return ∷ code) = (refl, (refl, (refl, (refl, (refl, tt)))))
body-linked m values (Unknown ∷ code) = body-linked m values code

placed-linked : (m : Module) (at : ℕ) (ops : List Op) → AreLinked m ops → list_all (λ p. op_linked (class_of m) p.1) (placed at ops) ≡ true
placed-linked m at [] all = refl
placed-linked m at (op ∷ ops) all = and_from (op_linked (class_of m) op) _ all.0 (placed-linked m (at + length (op_bytes op)) ops all.1)

pub function-linked : (m : Module) (values : List Value) (f : Function) → list_all (λ p. op_linked (class_of m) p.1) (placed 0 (function_ops values f)) ≡ true
function-linked m values f =
    placed-linked m 0 (function_ops values f) (all-append (IsLinked m) (take_arguments 0 f.arity) (body_ops values (body f)) (arguments-linked m 0 f.arity) (body-linked m values (body f)))
