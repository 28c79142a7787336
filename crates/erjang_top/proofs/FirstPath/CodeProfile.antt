-- The code of a function's method is of the profile.
use Rattle.std.proofs.Common.{T, ◌≡◌, ℕ, zero, suc, ◌+◌, ◌<◌, ◌≤◌, ◌^◌, Bool, true, false, nat_eq, nat_le, nat_lt, lit<, lit≤, List, [], ◌∷◌, ◌++◌, length, refl, sym, ap, ◌∙◌, subst, length-append, arith}
use Rattle.std.specs.Prelude.{pos, if◌then◌else◌, is_some}
use Rattle.std.specs.List.{list_any, AllByRecursion}
use Rattle.std.proofs.Math.Facts.{sfits_lit}
use Rattle.std.proofs.lemmas.Bool.{and_parts, and_from, leb-true, ltb-true, lt-ltb}
use Rattle.std.proofs.lemmas.Bool.Decides.{nat_tests}
use Rattle.beam_code.specs.declared.module.Function.{Function}
use Rattle.beam_code.specs.declared.module.Module.{Module}
use Rattle.erjang_top.specs.first_path.Opcode.{Value, Integer, Atom, Nil, Source, X, Of, Opcode, Label, Line, Comment, FuncInfo, Move, Return, Unknown}
use Rattle.erjang_top.specs.first_path.Accepted.{is_register, is_thin_source, is_thin_opcode}
use Rattle.std.proofs.Math.Nat.{max-le}
use Rattle.std.proofs.lemmas.Grind.{flat_map-append}
use Rattle.erjang_top.specs.first_path.Weights.{same_value}
use Rattle.erjang_top.specs.first_path.ClassFile.{Short, Byte, Wide, Op, IConst, SIPush, op_bytes}
use Rattle.erjang_top.specs.first_path.ClassProfile.{IsLocal, IsOp, has_offsets}
use Rattle.erjang_top.specs.first_path.Flow.{Holding, with_register, arguments, is_held, flows}
use Rattle.erjang_top.specs.first_path.ModuleClass.{constants, pool_of, width_of, aload, astore, local_of, push_number, take_argument, take_arguments, push_value, move_ops, return_ops, raise_ops, body_ops, body, function_ops, registers, placed}
use Rattle.erjang_top.proofs.FirstPath.CodeLength.{ops_bytes}
use Rattle.erjang_top.proofs.FirstPath.ThinValues.{all-append}
use Rattle.erjang_top.proofs.FirstPath.ModuleValues.{IsAmong, value-here}

-- ---- offsets

eq-itself : (n : ℕ) → nat_eq n n ≡ true
eq-itself n = grind (arith, nat_tests)

pub placed-offsets : (at : ℕ) (ops : List Op) → has_offsets at (placed at ops) ≡ true
placed-offsets at [] = refl
placed-offsets at (op ∷ ops) = and_from _ _ (eq-itself at) (placed-offsets (at + length (op_bytes op)) ops)

pub placed-all : (P : Op → Type 0) (at : ℕ) (ops : List Op) → AllByRecursion P ops → AllByRecursion (λ p. P p.1) (placed at ops)
placed-all P at [] all = tt
placed-all P at (op ∷ ops) all = (all.0, placed-all P (at + length (op_bytes op)) ops all.1)

-- ---- operands

local-fits : (local : ℕ) → local < 2 ^ 16 → IsLocal (width_of local) local
local-fits local small = by (nat_le local 3) (nat_lt local 256) refl refl
  where
    by : (a b : Bool) → nat_le local 3 ≡ a → nat_lt local 256 ≡ b → IsLocal (if a then Short else if b then Byte else Wide) local
    by true b e f = leb-true local 3 e
    by false true e f = ltb-true local 256 f
    by false false e f = small

abbrev AreOps : Module → List Op → Type 0
AreOps m ops = AllByRecursion (IsOp (pool_of m)) ops

number-op : (m : Module) (n : ℕ) → n < 2 ^ 15 → IsOp (pool_of m) (push_number n)
number-op m n small = by (nat_le n 5) refl
  where
    by : (a : Bool) → nat_le n 5 ≡ a → IsOp (pool_of m) (if a then IConst n else SIPush (pos n))
    by true e = leb-true n 5 e
    by false e = sfits_lit (subst T (sym (lt-ltb n 32768 small)) tt)

load-op : (m : Module) (local : ℕ) → local < 2 ^ 16 → IsOp (pool_of m) (aload local)
load-op m local small = local-fits local small

store-op : (m : Module) (local : ℕ) → local < 2 ^ 16 → IsOp (pool_of m) (astore local)
store-op m local small = local-fits local small

argument-ops : (m : Module) (at : ℕ) → at < 2 ^ 15 → AreOps m (take_argument at)
argument-ops m at small = (lit≤ tt, (number-op m at small, (refl, (store-op m (local_of at) (omega arith), tt))))

pub arguments-ops : (m : Module) (at count : ℕ) → at + count < 2 ^ 15 → AreOps m (take_arguments at count)
arguments-ops m at zero small = tt
arguments-ops m at (suc count) small =
    all-append (IsOp (pool_of m)) (take_argument at) (take_arguments (at + 1) count) (argument-ops m at (omega arith)) (arguments-ops m (at + 1) count (omega arith))

value-ops : (m : Module) (value : Value) → list_any (same_value value) (constants m) ≡ true → AreOps m (push_value (constants m) value)
value-ops m (Integer number) among = (ap is_some (value-here m (Integer number) among), (refl, tt))
value-ops m (Atom name) among = (ap is_some (value-here m (Atom name) among), (refl, tt))
value-ops m Nil among = (ap is_some (value-here m Nil among), (refl, tt))

move-ops : (m : Module) (from : Source) (to : ℕ) → is_thin_opcode (Move from to) ≡ true → IsAmong (constants m) (Move from to) → AreOps m (move_ops (constants m) from to)
move-ops m (X n) to thin among =
    let p = and_parts (is_register n) (is_register to) thin in
    (load-op m (local_of n) (omega (arith, leb-true n 1023 p.0)), (store-op m (local_of to) (omega (arith, leb-true to 1023 p.1)), tt))
move-ops m (Of value) to thin among =
    let p = and_parts (is_thin_source (Of value)) (is_register to) thin in
    all-append (IsOp (pool_of m)) (push_value (constants m) value) (astore (local_of to) ∷ []) (value-ops m value among) (store-op m (local_of to) (omega (arith, leb-true to 1023 p.1)), tt)

return-ops : (m : Module) → AreOps m return_ops
return-ops m = (lit≤ tt, (lit≤ tt, (refl, (lit≤ tt, (tt, tt)))))

raise-ops : (m : Module) → AreOps m raise_ops
raise-ops m = (lit≤ tt, (lit≤ tt, (refl, (refl, (refl, (lit≤ tt, (tt, tt)))))))

pub body-ops : (m : Module) (code : List Opcode) → AllByRecursion (λ i. is_thin_opcode i ≡ true) code → AllByRecursion (IsAmong (constants m)) code → AreOps m (body_ops (constants m) code)
body-ops m [] thin among = tt
body-ops m (Label n ∷ code) thin among = body-ops m code thin.1 among.1
body-ops m (Line ∷ code) thin among = body-ops m code thin.1 among.1
body-ops m (Comment ∷ code) thin among = body-ops m code thin.1 among.1
body-ops m (FuncInfo owner name arity ∷ code) thin among = raise-ops m
body-ops m (Move from to ∷ code) thin among =
    all-append (IsOp (pool_of m)) (move_ops (constants m) from to) (body_ops (constants m) code) (move-ops m from to thin.0 among.0) (body-ops m code thin.1 among.1)
body-ops m (Return ∷ code) thin among = return-ops m
body-ops m (Unknown ∷ code) thin among = body-ops m code thin.1 among.1

-- ---- sizes

append-some : (a b : List Op) → 0 < length (ops_bytes b) → 0 < length (ops_bytes (a ++ b))
append-some a b h =
    let e = ap length (flat_map-append op_bytes a b) ∙ length-append (ops_bytes a) (ops_bytes b) in
    omega (arith, e, h)

pub body-some : (values : List Value) (holding : Holding) (code : List Opcode) → flows holding code ≡ true → 0 < length (ops_bytes (body_ops values code))
body-some values holding [] h = absurd cc
body-some values holding (Label n ∷ code) h = body-some values holding code h
body-some values holding (Line ∷ code) h = body-some values holding code h
body-some values holding (Comment ∷ code) h = body-some values holding code h
body-some values holding (FuncInfo owner name arity ∷ code) h = lit< tt
body-some values holding (Move from to ∷ code) h =
    append-some (move_ops values from to) (body_ops values code) (body-some values (with_register to holding) code (and_parts (is_held holding from) (flows (with_register to holding) code) h).1)
body-some values holding (Return ∷ code) h = lit< tt
body-some values holding (Unknown ∷ code) h = absurd cc

pub registers-few : (code : List Opcode) → AllByRecursion (λ i. is_thin_opcode i ≡ true) code → registers code ≤ 1024
registers-few [] thin = lit≤ tt
registers-few (Label n ∷ code) thin = registers-few code thin.1
registers-few (Line ∷ code) thin = registers-few code thin.1
registers-few (Comment ∷ code) thin = registers-few code thin.1
registers-few (FuncInfo owner name arity ∷ code) thin = registers-few code thin.1
registers-few (Move from to ∷ code) thin =
    let p = and_parts (is_thin_source from) (is_register to) thin.0 in
    let small : to + 1 ≤ 1024 = omega (arith, leb-true to 1023 p.1) in
    max-le small (registers-few code thin.1)
registers-few (Return ∷ code) thin = registers-few code thin.1
registers-few (Unknown ∷ code) thin = registers-few code thin.1

pub function-some : (values : List Value) (f : Function) → flows (arguments f.arity) (body f) ≡ true → 0 < length (ops_bytes (function_ops values f))
function-some values f h = append-some (take_arguments 0 f.arity) (body_ops values (body f)) (body-some values (arguments f.arity) (body f) h)

pub function-ops : (m : Module) (f : Function) → f.arity ≤ 255 → AllByRecursion (λ i. is_thin_opcode i ≡ true) (body f) → AllByRecursion (IsAmong (constants m)) (body f) → AreOps m (function_ops (constants m) f)
function-ops m f small thin among =
    all-append (IsOp (pool_of m)) (take_arguments 0 f.arity) (body_ops (constants m) (body f)) (arguments-ops m 0 f.arity (omega arith)) (body-ops m (body f) thin among)
