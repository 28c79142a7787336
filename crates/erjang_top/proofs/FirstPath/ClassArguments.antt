-- How a method begins: each argument goes into the local of its register.
use Rattle.std.proofs.Common.{◌≡◌, ℕ, zero, suc, ◌+◌, ◌<◌, ◌≤◌, Bool, true, false, nat_eq, nat_le, List, [], ◌∷◌, ◌++◌, length, Some, refl, sym, ap, ◌∙◌, subst, length-set, arith}
use Rattle.std.specs.Prelude.{slice_get, slice_set, unwrap_or, if◌then◌else◌, pos}
use Rattle.std.proofs.lemmas.Bool.{ltb-true, lt-ltb, eqb-true, eqb-false}
use Rattle.erjang_top.specs.first_path.ClassFile.{Op, IConst, SIPush, Method, Class, op_bytes}
use Rattle.erjang_top.specs.first_path.ClassTurn.{Value, Int, Null, OfTerm, Proc, Held, Gave, term_or_null, take, op_at, Ran}
use Rattle.erjang_top.specs.first_path.Flow.{arguments}
use Rattle.erjang_top.specs.first_path.ModuleClass.{local_of, push_number, take_arguments}
use Rattle.erjang_top.proofs.FirstPath.ClassBody.{Kept}
use Rattle.erjang_top.proofs.FirstPath.ClassCode.{Stands, fuel}
use Rattle.erjang_top.proofs.FirstPath.ClassCode as run
use Rattle.erjang_top.proofs.FirstPath.ClassPool.{HasRuntime}
use Rattle.erjang_top.proofs.FirstPath.Ending.{Registers}
use Rattle.erjang_top.proofs.FirstPath.Places.{get-written, get-other}

-- one argument more is in its local
kept-argument : (k : ℕ) (regs : Registers) (locals : List Value) → local_of k < length locals → Kept (arguments k) regs locals
    → Kept (arguments (k + 1)) regs (slice_set locals (local_of k) (OfTerm (regs k)))
kept-argument k regs locals within kept = record {
  process = get-other locals (local_of k) 0 (OfTerm (regs k)) (λ e. omega (arith, e)) ∙ kept.process;
  terms = λ n lt. at n (nat_eq n k) refl (ltb-true n (k + 1) lt);
}
  where
    at : (n : ℕ) (b : Bool) → nat_eq n k ≡ b → n < k + 1 → slice_get (slice_set locals (local_of k) (OfTerm (regs k))) (local_of n) ≡ Some (OfTerm (regs n))
    at n true e lt =
        let same : n ≡ k = eqb-true n k e in
        ap (slice_get (slice_set locals (local_of k) (OfTerm (regs k)))) (ap local_of same) ∙ get-written locals (local_of k) (OfTerm (regs k)) within ∙ ap (λ j. Some (OfTerm (regs j))) (sym same)
    at n false e lt =
        let other : n ≡ k → ⊥ = eqb-false n k e in
        let below : n < k = omega (arith, lt, other) in
        get-other locals (local_of k) (local_of n) (OfTerm (regs k)) (λ same. other (omega (arith, same))) ∙ kept.terms n (lt-ltb n k below)

module _ (c : Class) (method : Method) (me : ℕ) (runtime : HasRuntime c.pool) where
  abbrev Comes : ℕ → ℕ → List Value → List Value → Held → Ran → Type 0
  Comes = run.Comes c method me

  -- a place's number is pushed
  pushes-number : (k left at : ℕ) (locals stack : List Value) (held : Held) (ran : Ran) → op_at method.code at ≡ Some (push_number k)
      → Comes left (at + length (op_bytes (push_number k))) locals (Int (pos k) ∷ stack) held ran → Comes (suc left) at locals stack held ran
  pushes-number k left at locals stack held ran = by (nat_le k 5)
    where
      by : (b : Bool) → op_at method.code at ≡ Some (if b then IConst k else SIPush (pos k))
          → Comes left (at + length (op_bytes (if b then IConst k else SIPush (pos k)))) locals (Int (pos k) ∷ stack) held ran → Comes (suc left) at locals stack held ran
      by true e = run.pushes-int c method me e
      by false e = run.pushes-short c method me e

  -- so many arguments are taken from a place on, and what is behind goes on from there
  pub takes : (count k total : ℕ) (ops : List Op) (left at : ℕ) (locals : List Value) (held : Held) (ran : Ran) (regs : Registers) → total ≡ k + count → total + 2 ≤ length locals
      → ((n : ℕ) → n < total → slice_get held.entered n ≡ Some (OfTerm (regs n))) → Kept (arguments k) regs locals → Stands method.code at (take_arguments k count ++ ops)
      → ((at' : ℕ) (locals' : List Value) → length locals' ≡ length locals → Kept (arguments total) regs locals' → Stands method.code at' ops → Comes (fuel ops left) at' locals' [] held ran)
      → Comes (fuel (take_arguments k count ++ ops) left) at locals [] held ran
  takes zero k total ops left at locals held ran regs sum room given kept s further =
      let same : k ≡ total = omega (arith, sum) in
      further at locals refl (subst (λ n. Kept (arguments n) regs locals) same kept) s
  takes (suc count) k total ops left at locals held ran regs sum room given kept s further =
      let within : local_of k < length locals = omega (arith, sum, room) in
      let locals' : List Value = slice_set locals (local_of k) (OfTerm (regs k)) in
      let same : length locals' ≡ length locals = length-set locals (local_of k) (OfTerm (regs k)) in
      let below : k < total = omega (arith, sum) in
      let argument : take (Proc ∷ Int (pos k) ∷ []) held ≡ Gave held (Some (OfTerm (regs k))) = ap (λ o. Gave held (Some (term_or_null (unwrap_or o Null)))) (given k below) in
      run.loads c method me s.0 kept.process refl
      (pushes-number k _ _ _ _ _ _ s.1.0
      (run.calls c method me (Some (OfTerm (regs k))) s.1.1.0 runtime.take refl refl argument
      (run.stores c method me s.1.1.1.0 within
      (takes count (k + 1) total ops left _ locals' held ran regs (omega (arith, sum)) (omega (arith, room, same)) given (kept-argument k regs locals within kept) s.1.1.1.1
      (λ at' locals'' long. further at' locals'' (long ∙ same))))))
