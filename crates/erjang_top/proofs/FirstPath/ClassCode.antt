-- Class code that goes from front to back: where its instructions stand, and what one of them comes to.
use Rattle.std.proofs.Common.{◌≡◌, ℕ, suc, ℤ, ◌+◌, ◌<◌, true, false, nat_eq, if◌then◌else◌, List, [], ◌∷◌, length, Option, Some, refl, ap, ◌∙◌, arith}
use Rattle.std.specs.Prelude.{slice_get, slice_set, pos}
use Rattle.std.specs.Option.{option_map, option_and_then}
use Rattle.std.proofs.lemmas.Bool.{ne_eqb, eq-eqb, lt-ltb}
use Rattle.ej_term.specs.Term.{Term}
use Rattle.erjang_top.specs.first_path.ClassFile.{Short, Byte, Wide, Width, Op, IConst, SIPush, LdcW, Ldc2W, ALoad, AStore, Invoke, IReturn, Method, Class, op_bytes}
use Rattle.erjang_top.specs.first_path.ClassProfile.{Callee, callee_at, string_at, long_at}
use Rattle.erjang_top.specs.first_path.ClassTurn.{Value, Top, Int, Long, OfTerm, OfText, Held, Activation, Gave, called, count_of, split_stack, op_at, is_reference, on_with, pushed, Stepped, On, Faults, method_of, entered_own, after_call, invoked, or_fault, loaded_local, perform, Ran, Status, go, run_method}
use Rattle.erjang_top.specs.first_path.Linking.{is_runtime, is_own}
use Rattle.erjang_top.specs.first_path.ModuleClass.{placed}

-- these instructions stand at this offset, one behind the other
abbrev pub Stands : List (ℕ × Op) → ℕ → List Op → Type 0
Stands code at [] = Unit {0}
Stands code at (op ∷ ops) = (op_at code at ≡ Some op) × Stands code (at + length (op_bytes op)) ops

some-bytes : (op : Op) → 0 < length (op_bytes op)
some-bytes (IConst value) = omega arith
some-bytes (SIPush value) = omega arith
some-bytes (LdcW index) = omega arith
some-bytes (Ldc2W index) = omega arith
some-bytes (ALoad Short local) = omega arith
some-bytes (ALoad Byte local) = omega arith
some-bytes (ALoad Wide local) = omega arith
some-bytes (AStore Short local) = omega arith
some-bytes (AStore Byte local) = omega arith
some-bytes (AStore Wide local) = omega arith
some-bytes (Invoke index) = omega arith
some-bytes IReturn = omega arith

-- an instruction before them is none of them
skips : (p : ℕ × Op) (code : List (ℕ × Op)) (at : ℕ) (ops : List Op) → p.0 < at → Stands code at ops → Stands (p ∷ code) at ops
skips p code at [] lt s = tt
skips p code at (op ∷ ops) lt s =
    let other : nat_eq p.0 at ≡ false = ne_eqb p.0 at (λ e. omega (arith, lt, e)) in
    (ap (λ b. if b then Some p.1 else op_at code at) other ∙ s.0, skips p code (at + length (op_bytes op)) ops (omega (arith, lt)) s.1)

-- instructions that are placed from an offset on stand there
pub placed-stands : (at : ℕ) (ops : List Op) → Stands (placed at ops) at ops
placed-stands at [] = tt
placed-stands at (op ∷ ops) =
    let next : ℕ = at + length (op_bytes op) in
    (ap (λ b. if b then Some op else op_at (placed next ops) at) (eq-eqb at at refl), skips (at, op) (placed next ops) next ops (omega (arith, some-bytes op)) (placed-stands next ops))

-- so many instructions and one for each of these
abbrev pub fuel : List Op → ℕ → ℕ
fuel [] left = left
fuel (op ∷ ops) left = suc (fuel ops left)

pub fuel-is : (ops : List Op) (left : ℕ) → fuel ops left ≡ length ops + left
fuel-is [] left = omega arith
fuel-is (op ∷ ops) left = omega (arith, fuel-is ops left)

module _ (c : Class) (method : Method) (me : ℕ) where
  -- the method at an offset, with these locals and this stack
  abbrev pub there : ℕ → List Value → List Value → Activation
  there at locals stack = record { class = c; method = method; offset = at; locals = locals; stack = stack }

  -- with so many instructions it runs from there to this
  pub record Comes (left at : ℕ) (locals stack : List Value) (held : Held) (ran : Ran) : Type 0 where
    pub is : run_method me left (there at locals stack) [] held ≡ ran

  -- one step on
  pub one : (left at : ℕ) (op : Op) (locals stack locals' stack' : List Value) (held held' : Held) (ran : Ran) → op_at method.code at ≡ Some op
      → perform me (there at locals stack) held op ≡ On (there (at + length (op_bytes op)) locals' stack') held'
      → Comes left (at + length (op_bytes op)) locals' stack' held' ran → Comes (suc left) at locals stack held ran
  one left at op locals stack locals' stack' held held' ran e f further = record {
    is = ap (λ o. go (run_method me left) left [] held (or_fault (option_map (perform me (there at locals stack) held) o))) e
        ∙ ap (go (run_method me left) left [] held) f ∙ further.is;
  }

  pub loads : {left at : ℕ} {width : Width} {local : ℕ} {locals stack : List Value} {held : Held} {ran : Ran} {v : Value} → op_at method.code at ≡ Some (ALoad width local)
      → slice_get locals local ≡ Some v → is_reference v ≡ true
      → Comes left (at + length (op_bytes (ALoad width local))) locals (v ∷ stack) held ran → Comes (suc left) at locals stack held ran
  loads {left} {at} {width} {local} {locals} {stack} {held} {ran} {v} e found reference =
      let a : Activation = there at locals stack in
      one left at (ALoad width local) locals stack locals (v ∷ stack) held held ran e
      (ap (λ o. or_fault (option_map (loaded_local a (ALoad width local) held) o)) found
      ∙ ap (λ b. if b then On (on_with a (ALoad width local) (v ∷ stack)) held else Faults) reference)

  pub stores : {left at : ℕ} {width : Width} {local : ℕ} {locals stack : List Value} {held : Held} {ran : Ran} {t : Term} → op_at method.code at ≡ Some (AStore width local)
      → local < length locals
      → Comes left (at + length (op_bytes (AStore width local))) (slice_set locals local (OfTerm t)) stack held ran → Comes (suc left) at locals (OfTerm t ∷ stack) held ran
  stores {left} {at} {width} {local} {locals} {stack} {held} {ran} {t} e within =
      let a : Activation = there at locals (OfTerm t ∷ stack) in
      one left at (AStore width local) locals (OfTerm t ∷ stack) (slice_set locals local (OfTerm t)) stack held held ran e
      (ap (λ b. if b then On (record (on_with a (AStore width local) stack) { locals = slice_set locals local (OfTerm t) }) held else Faults) (lt-ltb local (length locals) within))

  -- what comes of a method that is none of the runtime's
  abbrev otherwise : Activation → ℕ → Callee → List Value → List Value → Stepped
  otherwise a index callee args rest = if is_own a.class callee then entered_own a (Invoke index) (args, rest) (method_of a.class callee.name a.class.methods) else Faults

  pub calls : {left at index : ℕ} {locals stack args rest : List Value} {held held' : Held} {ran : Ran} {callee : Callee} (value : Option Value) → op_at method.code at ≡ Some (Invoke index)
      → callee_at c.pool index ≡ Some callee → split_stack (count_of callee.descriptor) stack ≡ Some (args, rest) → is_runtime callee ≡ true → called me callee.name args held ≡ Gave held' value
      → Comes left (at + length (op_bytes (Invoke index))) locals (pushed value rest) held' ran → Comes (suc left) at locals stack held ran
  calls {left} {at} {index} {locals} {stack} {args} {rest} {held} {held'} {ran} {callee} value e found taken runtime gave =
      let a : Activation = there at locals stack in
      one left at (Invoke index) locals stack locals (pushed value rest) held held' ran e
      (ap (λ o. or_fault (option_and_then (λ k. option_map (invoked me a (Invoke index) held k) (split_stack (count_of k.descriptor) stack)) o)) found
      ∙ ap (λ o. or_fault (option_map (invoked me a (Invoke index) held callee) o)) taken
      ∙ ap (λ b. if b then after_call a (Invoke index) rest (called me callee.name args held) else otherwise a index callee args rest) runtime
      ∙ ap (after_call a (Invoke index) rest) gave)

  pub pushes-text : {left at index : ℕ} {locals stack : List Value} {held : Held} {ran : Ran} {text : List ℕ} → op_at method.code at ≡ Some (LdcW index)
      → string_at c.pool index ≡ Some text
      → Comes left (at + length (op_bytes (LdcW index))) locals (OfText text ∷ stack) held ran → Comes (suc left) at locals stack held ran
  pushes-text {left} {at} {index} {locals} {stack} {held} {ran} {text} e found =
      let a : Activation = there at locals stack in
      one left at (LdcW index) locals stack locals (OfText text ∷ stack) held held ran e
      (ap (λ o. or_fault (option_map (λ s. On (on_with a (LdcW index) (OfText s ∷ stack)) held) o)) found)

  pub pushes-long : {left at index : ℕ} {locals stack : List Value} {held : Held} {ran : Ran} {n : ℤ} → op_at method.code at ≡ Some (Ldc2W index)
      → long_at c.pool index ≡ Some n
      → Comes left (at + length (op_bytes (Ldc2W index))) locals (Top ∷ Long n ∷ stack) held ran → Comes (suc left) at locals stack held ran
  pushes-long {left} {at} {index} {locals} {stack} {held} {ran} {n} e found =
      let a : Activation = there at locals stack in
      one left at (Ldc2W index) locals stack locals (Top ∷ Long n ∷ stack) held held ran e
      (ap (λ o. or_fault (option_map (λ k. On (on_with a (Ldc2W index) (Top ∷ Long k ∷ stack)) held) o)) found)

  pub pushes-int : {left at value : ℕ} {locals stack : List Value} {held : Held} {ran : Ran} → op_at method.code at ≡ Some (IConst value)
      → Comes left (at + length (op_bytes (IConst value))) locals (Int (pos value) ∷ stack) held ran → Comes (suc left) at locals stack held ran
  pushes-int {left} {at} {value} {locals} {stack} {held} {ran} e = one left at (IConst value) locals stack locals (Int (pos value) ∷ stack) held held ran e refl

  pub pushes-short : {left at : ℕ} {value : ℤ} {locals stack : List Value} {held : Held} {ran : Ran} → op_at method.code at ≡ Some (SIPush value)
      → Comes left (at + length (op_bytes (SIPush value))) locals (Int value ∷ stack) held ran → Comes (suc left) at locals stack held ran
  pushes-short {left} {at} {value} {locals} {stack} {held} {ran} e = one left at (SIPush value) locals stack locals (Int value ∷ stack) held held ran e refl

  pub answers : {left at : ℕ} {locals stack : List Value} {held : Held} {status : ℤ} → op_at method.code at ≡ Some IReturn → Comes (suc left) at locals (Int status ∷ stack) held (Status status held left)
  answers {left} {at} {locals} {stack} {held} {status} e = record {
    is = ap (λ o. go (run_method me left) left [] held (or_fault (option_map (perform me (there at locals (Int status ∷ stack)) held) o))) e;
  }
