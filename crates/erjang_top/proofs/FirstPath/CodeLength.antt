-- The code of a function's method is within the function's weight.
use Rattle.std.proofs.Common.{◌≡◌, ℕ, zero, suc, ◌+◌, ◌*◌, ◌≤◌, Bool, true, false, nat_le, nat_lt, List, [], ◌∷◌, ◌++◌, length, map, sum, refl, ap, ◌∙◌, length-append, arith, lit≤}
use Rattle.std.specs.Prelude.{pos, if◌then◌else◌}
use Rattle.std.specs.List.{flat_map}
use Rattle.std.proofs.lemmas.Grind.{flat_map-append}
use Rattle.std.proofs.lemmas.List.Sums.{sum_by-cons}
use Rattle.beam_code.specs.declared.module.Function.{Function}
use Rattle.beam_code.specs.declared.module.Module.{Module}
use Rattle.erjang_top.specs.first_path.LabelRules.{opcodes}
use Rattle.erjang_top.specs.first_path.Opcode.{Value, Integer, Atom, Nil, Source, X, Of, Opcode, Label, Line, Comment, FuncInfo, Move, Return, Unknown}
use Rattle.erjang_top.specs.first_path.Weights.{instruction_weight, weight}
use Rattle.erjang_top.specs.first_path.ClassFile.{Short, Byte, Wide, Op, IConst, SIPush, Invoke, local_bytes, op_bytes, code_bytes}
use Rattle.erjang_top.specs.first_path.ModuleClass.{width_of, aload, astore, local_of, push_number, take_argument, take_arguments, push_value, push_source, move_ops, body_ops, is_entry, behind, body, function_ops, placed, method_of}

-- the bytes of instructions
abbrev pub ops_bytes : List Op → List ℕ
ops_bytes ops = flat_map op_bytes ops

pub placed-bytes : (at : ℕ) (ops : List Op) → flat_map (λ p. op_bytes p.1) (placed at ops) ≡ ops_bytes ops
placed-bytes at [] = refl
placed-bytes at (op ∷ ops) = ap (λ (bs : List ℕ). op_bytes op ++ bs) (placed-bytes (at + length (op_bytes op)) ops)

abbrev size : List Op → ℕ
size ops = length (ops_bytes ops)

size-append : (a b : List Op) → size (a ++ b) ≡ size a + size b
size-append a b = ap length (flat_map-append op_bytes a b) ∙ length-append (ops_bytes a) (ops_bytes b)

size-cons : (op : Op) (ops : List Op) → size (op ∷ ops) ≡ length (op_bytes op) + size ops
size-cons op ops = length-append (op_bytes op) (ops_bytes ops)

local-length : (first opcode local : ℕ) → length (local_bytes first opcode (width_of local) local) ≤ 4
local-length first opcode local = by (nat_le local 3) (nat_lt local 256)
  where
    by : (a b : Bool) → length (local_bytes first opcode (if a then Short else if b then Byte else Wide) local) ≤ 4
    by true b = lit≤ tt
    by false true = lit≤ tt
    by false false = lit≤ tt

number-length : (n : ℕ) → length (op_bytes (push_number n)) ≤ 3
number-length n = by (nat_le n 5)
  where
    by : (a : Bool) → length (op_bytes (if a then IConst n else SIPush (pos n))) ≤ 3
    by true = lit≤ tt
    by false = lit≤ tt

argument-size : (at : ℕ) → size (take_argument at) ≤ 12
argument-size at =
    let a = size-cons (aload 0) (push_number at ∷ Invoke 12 ∷ astore (local_of at) ∷ []) in
    let b = size-cons (push_number at) (Invoke 12 ∷ astore (local_of at) ∷ []) in
    let c = size-cons (Invoke 12) (astore (local_of at) ∷ []) in
    let d = size-cons (astore (local_of at)) [] in
    omega (arith, a, b, c, d, number-length at, local-length 75 58 (local_of at))

arguments-size : (at count : ℕ) → size (take_arguments at count) ≤ 12 * count
arguments-size at zero = lit≤ tt
arguments-size at (suc count) =
    let a = size-append (take_argument at) (take_arguments (at + 1) count) in
    omega (arith, a, argument-size at, arguments-size (at + 1) count)

value-size : (values : List Value) (value : Value) → size (push_value values value) ≤ 6
value-size values (Integer number) = lit≤ tt
value-size values (Atom name) = lit≤ tt
value-size values Nil = lit≤ tt

source-size : (values : List Value) (from : Source) → size (push_source values from) ≤ 6
source-size values (X n) = let a = size-cons (aload (local_of n)) [] in omega (arith, a, local-length 42 25 (local_of n))
source-size values (Of value) = value-size values value

move-size : (values : List Value) (from : Source) (to : ℕ) → size (move_ops values from to) ≤ 10
move-size values from to =
    let a = size-append (push_source values from) (astore (local_of to) ∷ []) in
    let b = size-cons (astore (local_of to)) [] in
    omega (arith, a, b, source-size values from, local-length 75 58 (local_of to))

abbrev total : List Opcode → ℕ
total code = sum (map instruction_weight code)

total-cons : (i : Opcode) (code : List Opcode) → total (i ∷ code) ≡ instruction_weight i + total code
total-cons i code = sum_by-cons (λ (n : ℕ). n) (instruction_weight i) (map instruction_weight code)

body-size : (values : List Value) (code : List Opcode) → size (body_ops values code) ≤ total code
body-size values [] = lit≤ tt
body-size values (Label n ∷ code) = omega (arith, total-cons (Label n) code, body-size values code)
body-size values (Line ∷ code) = omega (arith, total-cons Line code, body-size values code)
body-size values (Comment ∷ code) = omega (arith, total-cons Comment code, body-size values code)
body-size values (FuncInfo owner name arity ∷ code) = let short : 13 ≤ total (FuncInfo owner name arity ∷ code) = omega (arith, total-cons (FuncInfo owner name arity) code) in short
body-size values (Move from to ∷ code) =
    let a = size-append (move_ops values from to) (body_ops values code) in
    omega (arith, a, move-size values from to, body-size values code, total-cons (Move from to) code)
body-size values (Return ∷ code) = let short : 7 ≤ total (Return ∷ code) = omega (arith, total-cons Return code) in short
body-size values (Unknown ∷ code) = omega (arith, total-cons Unknown code, body-size values code)

behind-total : (entry : ℕ) (code : List Opcode) → total (behind entry code) ≤ total code
behind-total entry [] = lit≤ tt
behind-total entry (i ∷ code) = let h = by (behind-total entry code) (is_entry entry i) in omega (arith, h, total-cons i code)
  where
    by : total (behind entry code) ≤ total code → (b : Bool) → total (if b then code else behind entry code) ≤ instruction_weight i + total code
    by later true = omega arith
    by later false = omega (arith, later)

pub code-within : (m : Module) (values : List Value) (name : ℕ) (f : Function) → length (code_bytes (method_of m values name f)) ≤ weight f
code-within m values name f =
    let bytes = ap length (placed-bytes 0 (function_ops values f)) in
    let a = size-append (take_arguments 0 f.arity) (body_ops values (body f)) in
    omega (arith, bytes, a, arguments-size 0 f.arity, body-size values (body f), behind-total f.entry (opcodes f))
