-- The code of a function's method is typed.
use Rattle.std.proofs.Common.{◌≡◌, ℕ, zero, suc, ◌+◌, ◌-◌, ◌<◌, ◌≤◌, max, Bool, true, false, ◌&&◌, nat_eq, nat_le, nat_lt, List, [], ◌∷◌, ◌++◌, length, codes, Option, None, Some, refl, sym, ap, ◌∙◌, subst, arith, append_assoc}
use Rattle.std.specs.Prelude.{pos, slice_get, slice_set, if◌then◌else◌, unwrap_or}
use Rattle.std.specs.Option.{option_and_then, option_map}
use Rattle.std.specs.List.{list_any, AllByRecursion}
use Rattle.std.proofs.Math.Nat.{le-max_left, le-max_right}
use Rattle.std.proofs.lemmas.Bool.{and_parts, and_from, lt-ltb, ltb-true, le-leb}
use Rattle.std.proofs.lemmas.Bool.Decides.{nat_tests}
use Rattle.std.proofs.lemmas.List.{length-set, length-replicate}
use Rattle.beam_code.specs.declared.module.Function.{Function}
use Rattle.beam_code.specs.declared.module.Module.{Module}
use Rattle.erjang_top.specs.first_path.Opcode.{Value, Integer, Atom, Nil, Source, X, Of, Opcode, Label, Line, Comment, FuncInfo, Move, Return, Unknown}
use Rattle.erjang_top.specs.first_path.Weights.{same_value}
use Rattle.erjang_top.specs.first_path.ClassFile.{Op, IConst, SIPush, LdcW, Ldc2W, Invoke, IReturn, op_bytes}
use Rattle.erjang_top.specs.first_path.Flow.{Holding, with_register, arguments, is_held, flows}
use Rattle.erjang_top.specs.first_path.ModuleClass.{constants, pool_of, index_of, aload, astore, local_of, push_number, take_argument, take_arguments, push_value, move_ops, return_ops, raise_ops, body_ops, body, registers, placed, method_of}
use Rattle.erjang_top.specs.first_path.Typing.{VType, Top, Integer, Object, Frame, with_stack, leaves, within, code_typed, first_frame, method_typed}
use Rattle.erjang_top.specs.first_path.Typing as types
use Rattle.erjang_top.proofs.FirstPath.Places.{get-written, get-other}
use Rattle.erjang_top.proofs.FirstPath.ModuleValues.{IsAmong, value-here}

abbrev process : VType
process = Object (codes "erl/Proc")

abbrev term : VType
term = Object (codes "erl/Term")

-- the locals: the process, and a term for each register that holds one
record AreLocals (count : ℕ) (holding : Holding) (locals : List VType) : Type 0 where
  count_is : length locals ≡ count
  process_is : slice_get locals 0 ≡ Some process
  terms : (n : ℕ) → holding n ≡ true → slice_get locals (local_of n) ≡ Some term

local-set : (count : ℕ) (holding : Holding) (locals : List VType) (to : ℕ) → local_of to < count → AreLocals count holding locals → AreLocals count (with_register to holding) (slice_set locals (local_of to) term)
local-set count holding locals to small are = record {
  count_is = length-set locals (local_of to) term ∙ are.count_is;
  process_is = get-other locals (local_of to) 0 term (λ e. omega (arith, e)) ∙ are.process_is;
  terms = λ n. at n (nat_eq n to) refl;
}
  where
    same : (n : ℕ) → nat_eq n to ≡ true → n ≡ to
    same n e = grind (arith, nat_tests)

    unequal : (n : ℕ) → nat_eq n to ≡ false → local_of to ≡ local_of n → ⊥
    unequal n e f = let other : n ≡ to → ⊥ = λ g. different n g e in other (omega (arith, f))
      where
        different : (n : ℕ) → n ≡ to → nat_eq n to ≡ false → ⊥
        different n g e = grind (arith, nat_tests)

    at : (n : ℕ) (b : Bool) → nat_eq n to ≡ b → (if b then true else holding n) ≡ true → slice_get (slice_set locals (local_of to) term) (local_of n) ≡ Some term
    at n true e h = ap (λ k. slice_get (slice_set locals (local_of to) term) (local_of k)) (same n e) ∙ get-written locals (local_of to) term (omega (arith, are.count_is, small))
    at n false e h = get-other locals (local_of to) (local_of n) term (λ g. unequal n e (sym g)) ∙ are.terms n h

-- instructions that are typed from a frame on, wherever they stand
abbrev AreTyped : Module → Frame → List Op → Type 0
AreTyped m f ops = (at : ℕ) → code_typed (pool_of m) 3 [] (Some f) (placed at ops) ≡ true

-- one that goes on to the next
goes-on : (m : Module) (f g : Frame) (op : Op) (ops : List Op) → leaves (pool_of m) op f ≡ Some (Some g) → nat_le (length g.stack) 3 ≡ true → AreTyped m g ops → AreTyped m f (op ∷ ops)
goes-on m f g op ops e low rest at =
    ap (λ (o : Option (Option Frame)). unwrap_or (option_map (λ after. within 3 after && code_typed (pool_of m) 3 [] after (placed (at + length (op_bytes op)) ops)) o) false) e
    ∙ and_from (nat_le (length g.stack) 3) _ low (rest (at + length (op_bytes op)))

-- one that ends the method
ends : (m : Module) (f : Frame) (op : Op) → leaves (pool_of m) op f ≡ Some None → AreTyped m f (op ∷ [])
ends m f op e at = ap (λ (o : Option (Option Frame)). unwrap_or (option_map (λ after. within 3 after && code_typed (pool_of m) 3 [] after (placed (at + length (op_bytes op)) [])) o) false) e

abbrev frame : List VType → List VType → Frame
frame locals stack = record { locals = locals; stack = stack }

-- a reference is pushed
loads : (m : Module) (locals stack : List VType) (local : ℕ) (class : List ℕ) → slice_get locals local ≡ Some (Object class) → leaves (pool_of m) (aload local) (frame locals stack) ≡ Some (Some (frame locals (Object class ∷ stack)))
loads m locals stack local class e = ap (λ (o : Option VType). option_and_then (λ t. if types.is_reference t then Some (Some (frame locals (t ∷ stack))) else None) o) e

-- a term is stored
stores : (m : Module) (locals stack : List VType) (local : ℕ) → local < length locals → leaves (pool_of m) (astore local) (frame locals (term ∷ stack)) ≡ Some (Some (frame (slice_set locals local term) stack))
stores m locals stack local small = rw (lt-ltb local (length locals) small) refl

-- ---- moves

abbrev ThenTyped : Module → ℕ → Holding → List Op → Type 0
ThenTyped m count holding ops = (locals : List VType) → AreLocals count holding locals → AreTyped m (frame locals []) ops

stored-typed : (m : Module) (count : ℕ) (holding : Holding) (locals : List VType) (to : ℕ) (ops : List Op) → AreLocals count holding locals → local_of to < count → ThenTyped m count (with_register to holding) ops
    → AreTyped m (frame locals (term ∷ [])) (astore (local_of to) ∷ ops)
stored-typed m count holding locals to ops are small rest =
    goes-on m (frame locals (term ∷ [])) (frame (slice_set locals (local_of to) term) []) (astore (local_of to)) ops
    (stores m locals [] (local_of to) (omega (arith, are.count_is, small))) refl
    (rest (slice_set locals (local_of to) term) (local-set count holding locals to small are))

value-typed : (m : Module) (locals : List VType) (value : Value) (ops : List Op) → list_any (same_value value) (constants m) ≡ true → AreTyped m (frame locals (term ∷ [])) ops
    → AreTyped m (frame locals []) (push_value (constants m) value ++ ops)
value-typed m locals (Integer number) ops among rest =
    goes-on m (frame locals []) (frame locals (Top ∷ types.Long ∷ [])) (Ldc2W (index_of (constants m) (Integer number))) (Invoke 24 ∷ ops)
    (ap (option_map (λ value. Some (frame locals (Top ∷ types.Long ∷ [])))) (value-here m (Integer number) among)) refl
    (goes-on m (frame locals (Top ∷ types.Long ∷ [])) (frame locals (term ∷ [])) (Invoke 24) ops refl refl rest)
value-typed m locals (Atom name) ops among rest =
    goes-on m (frame locals []) (frame locals (Object (codes "java/lang/String") ∷ [])) (LdcW (index_of (constants m) (Atom name))) (Invoke 28 ∷ ops)
    (ap (option_map (λ text. Some (frame locals (Object (codes "java/lang/String") ∷ [])))) (value-here m (Atom name) among)) refl
    (goes-on m (frame locals (Object (codes "java/lang/String") ∷ [])) (frame locals (term ∷ [])) (Invoke 28) ops refl refl rest)
value-typed m locals Nil ops among rest =
    goes-on m (frame locals []) (frame locals (Object (codes "java/lang/String") ∷ [])) (LdcW (index_of (constants m) Nil)) (Invoke 28 ∷ ops)
    (ap (option_map (λ text. Some (frame locals (Object (codes "java/lang/String") ∷ [])))) (value-here m Nil among)) refl
    (goes-on m (frame locals (Object (codes "java/lang/String") ∷ [])) (frame locals (term ∷ [])) (Invoke 28) ops refl refl rest)

move-typed : (m : Module) (count : ℕ) (holding : Holding) (locals : List VType) (from : Source) (to : ℕ) (ops : List Op) → AreLocals count holding locals → is_held holding from ≡ true
    → IsAmong (constants m) (Move from to) → local_of to < count → ThenTyped m count (with_register to holding) ops → AreTyped m (frame locals []) (move_ops (constants m) from to ++ ops)
move-typed m count holding locals (X n) to ops are held among small rest =
    goes-on m (frame locals []) (frame locals (term ∷ [])) (aload (local_of n)) (astore (local_of to) ∷ ops) (loads m locals [] (local_of n) (codes "erl/Term") (are.terms n held)) refl
    (stored-typed m count holding locals to ops are small rest)
move-typed m count holding locals (Of value) to ops are held among small rest =
    subst (λ all. AreTyped m (frame locals []) all) (sym (append_assoc (push_value (constants m) value) (astore (local_of to) ∷ []) ops))
    (value-typed m locals value (astore (local_of to) ∷ ops) among (stored-typed m count holding locals to ops are small rest))

-- ---- what ends a method

return-typed : (m : Module) (locals : List VType) → slice_get locals 0 ≡ Some process → slice_get locals 2 ≡ Some term → AreTyped m (frame locals []) return_ops
return-typed m locals p t =
    goes-on m (frame locals []) (frame locals (process ∷ [])) (aload 0) (aload 2 ∷ Invoke 16 ∷ IConst 0 ∷ IReturn ∷ []) (loads m locals [] 0 (codes "erl/Proc") p) refl
    (goes-on m (frame locals (process ∷ [])) (frame locals (term ∷ process ∷ [])) (aload 2) (Invoke 16 ∷ IConst 0 ∷ IReturn ∷ []) (loads m locals (process ∷ []) 2 (codes "erl/Term") t) refl
    (goes-on m (frame locals (term ∷ process ∷ [])) (frame locals []) (Invoke 16) (IConst 0 ∷ IReturn ∷ []) refl refl
    (goes-on m (frame locals []) (frame locals (Integer ∷ [])) (IConst 0) (IReturn ∷ []) refl refl
    (ends m (frame locals (Integer ∷ [])) IReturn refl))))

raise-typed : (m : Module) (locals : List VType) → slice_get locals 0 ≡ Some process → AreTyped m (frame locals []) raise_ops
raise-typed m locals p =
    goes-on m (frame locals []) (frame locals (process ∷ [])) (aload 0) (IConst 0 ∷ LdcW 29 ∷ Invoke 28 ∷ Invoke 20 ∷ IConst 4 ∷ IReturn ∷ []) (loads m locals [] 0 (codes "erl/Proc") p) refl
    (goes-on m (frame locals (process ∷ [])) (frame locals (Integer ∷ process ∷ [])) (IConst 0) (LdcW 29 ∷ Invoke 28 ∷ Invoke 20 ∷ IConst 4 ∷ IReturn ∷ []) refl refl
    (goes-on m (frame locals (Integer ∷ process ∷ [])) (frame locals (Object (codes "java/lang/String") ∷ Integer ∷ process ∷ [])) (LdcW 29) (Invoke 28 ∷ Invoke 20 ∷ IConst 4 ∷ IReturn ∷ []) refl refl
    (goes-on m (frame locals (Object (codes "java/lang/String") ∷ Integer ∷ process ∷ [])) (frame locals (term ∷ Integer ∷ process ∷ [])) (Invoke 28) (Invoke 20 ∷ IConst 4 ∷ IReturn ∷ []) refl refl
    (goes-on m (frame locals (term ∷ Integer ∷ process ∷ [])) (frame locals []) (Invoke 20) (IConst 4 ∷ IReturn ∷ []) refl refl
    (goes-on m (frame locals []) (frame locals (Integer ∷ [])) (IConst 4) (IReturn ∷ []) refl refl
    (ends m (frame locals (Integer ∷ [])) IReturn refl))))))

body-typed : (m : Module) (count : ℕ) (holding : Holding) (code : List Opcode) → flows holding code ≡ true → AllByRecursion (IsAmong (constants m)) code → 2 + registers code ≤ count
    → ThenTyped m count holding (body_ops (constants m) code)
body-typed m count holding [] h among few locals are = absurd cc
body-typed m count holding (Label n ∷ code) h among few locals are = body-typed m count holding code h among.1 few locals are
body-typed m count holding (Line ∷ code) h among few locals are = body-typed m count holding code h among.1 few locals are
body-typed m count holding (Comment ∷ code) h among few locals are = body-typed m count holding code h among.1 few locals are
body-typed m count holding (FuncInfo owner name arity ∷ code) h among few locals are = raise-typed m locals are.process_is
body-typed m count holding (Move from to ∷ code) h among few locals are =
    let p = and_parts (is_held holding from) (flows (with_register to holding) code) h in
    move-typed m count holding locals from to (body_ops (constants m) code) are p.0 among.0 (omega (arith, few, le-max_left (to + 1) (registers code)))
    (body-typed m count (with_register to holding) code p.1 among.1 (omega (arith, few, le-max_right (to + 1) (registers code))))
body-typed m count holding (Return ∷ code) h among few locals are = return-typed m locals are.process_is (are.terms 0 h)
body-typed m count holding (Unknown ∷ code) h among few locals are = absurd cc

-- ---- arguments

weaker : (count : ℕ) (holding fewer : Holding) (locals : List VType) → ((n : ℕ) → fewer n ≡ true → holding n ≡ true) → AreLocals count holding locals → AreLocals count fewer locals
weaker count holding fewer locals within are = record { count_is = are.count_is; process_is = are.process_is; terms = λ n h. are.terms n (within n h) }

one-more : (at n : ℕ) → arguments (at + 1) n ≡ true → with_register at (arguments at) n ≡ true
one-more at n h = by (nat_eq n at) refl
  where
    below : nat_eq n at ≡ false → nat_lt n at ≡ true
    below e = grind (arith, nat_tests)

    by : (b : Bool) → nat_eq n at ≡ b → (if b then true else nat_lt n at) ≡ true
    by true e = refl
    by false e = below e

number-leaves : (m : Module) (n : ℕ) (locals stack : List VType) → leaves (pool_of m) (push_number n) (frame locals stack) ≡ Some (Some (frame locals (Integer ∷ stack)))
number-leaves m n locals stack = by (nat_le n 5)
  where
    by : (b : Bool) → leaves (pool_of m) (if b then IConst n else SIPush (pos n)) (frame locals stack) ≡ Some (Some (frame locals (Integer ∷ stack)))
    by true = refl
    by false = refl

argument-typed : (m : Module) (count at : ℕ) (locals : List VType) (ops : List Op) → AreLocals count (arguments at) locals → local_of at < count → ThenTyped m count (arguments (at + 1)) ops
    → AreTyped m (frame locals []) (take_argument at ++ ops)
argument-typed m count at locals ops are small rest =
    goes-on m (frame locals []) (frame locals (process ∷ [])) (aload 0) (push_number at ∷ Invoke 12 ∷ astore (local_of at) ∷ ops) (loads m locals [] 0 (codes "erl/Proc") are.process_is) refl
    (goes-on m (frame locals (process ∷ [])) (frame locals (Integer ∷ process ∷ [])) (push_number at) (Invoke 12 ∷ astore (local_of at) ∷ ops) (number-leaves m at locals (process ∷ [])) refl
    (goes-on m (frame locals (Integer ∷ process ∷ [])) (frame locals (term ∷ [])) (Invoke 12) (astore (local_of at) ∷ ops) refl refl
    (stored-typed m count (arguments at) locals at ops are small (λ ls these. rest ls (weaker count (with_register at (arguments at)) (arguments (at + 1)) ls (one-more at) these)))))

arguments-typed : (m : Module) (count at more arity : ℕ) (locals : List VType) (ops : List Op) → at + more ≡ arity → AreLocals count (arguments at) locals → 2 + arity ≤ count → ThenTyped m count (arguments arity) ops
    → AreTyped m (frame locals []) (take_arguments at more ++ ops)
arguments-typed m count at zero arity locals ops e are few rest = rest locals (subst (λ k. AreLocals count (arguments k) locals) (omega (arith, e)) are)
arguments-typed m count at (suc more) arity locals ops e are few rest =
    subst (λ all. AreTyped m (frame locals []) all) (sym (append_assoc (take_argument at) (take_arguments (at + 1) more) ops))
    (argument-typed m count at locals (take_arguments (at + 1) more ++ ops) are (omega (arith, e, few)) (λ ls these. arguments-typed m count (at + 1) more arity ls ops (omega (arith, e)) these few rest))

first-locals : (count : ℕ) → 2 ≤ count → AreLocals count (arguments 0) (first_frame count).locals
first-locals count h = record {
  count_is = let l = length-replicate (count - 2) Top in omega (arith, l, h);
  process_is = refl;
  terms = λ n e. absurd (none n e);
}
  where
    none : (n : ℕ) → nat_lt n 0 ≡ true → ⊥
    none n e = absurd (omega (arith, ltb-true n 0 e))

pub method-typed : (m : Module) (name : ℕ) (f : Function) → flows (arguments f.arity) (body f) ≡ true → AllByRecursion (IsAmong (constants m)) (body f) → method_typed (pool_of m) (method_of m (constants m) name f) ≡ true
method-typed m name f h among =
    let count = 2 + max f.arity (registers (body f)) in
    let left = le-max_left f.arity (registers (body f)) in
    let right = le-max_right f.arity (registers (body f)) in
    let some : 2 ≤ count = omega arith in
    and_from (nat_le 2 count) _ (le-leb 2 count some)
    (arguments-typed m count 0 f.arity f.arity (first_frame count).locals (body_ops (constants m) (body f)) (omega arith) (first-locals count some) (omega (arith, left))
    (body-typed m count (arguments f.arity) (body f) h among (omega (arith, right))) 0)
