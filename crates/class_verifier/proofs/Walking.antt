-- The first fault of a method's code, while it is gone through.
use Rattle.std.proofs.Common.{◌≡◌, ℕ, ◌-◌, ◌≤◌, ℤ, Bool, true, false, not, nat_eq, nat_le, ◌&&◌, is_some, List, [], ◌∷◌, drop, length, map, Option, None, Some, Err, option_and_then, refl, sym, ap, ◌∙◌, arith}
use Rattle.std.proofs.lemmas.Bool.{true≢false}
use Rattle.std.proofs.lemmas.Bool.Decides.{nat_tests}
use Rattle.std.proofs.lemmas.List.{length-drop}
use Rattle.std.specs.Prelude.{if◌then◌else◌}
use Rattle.std.specs.List.{list_all}
use Rattle.jvm_code.specs.declared.class.Class.{Class}
use Rattle.jvm_code.specs.declared.class.Method.{Method}
use Rattle.jvm_code.specs.declared.class.Op.{Op}
use Rattle.jvm_code.specs.declared.types.Frame.{Frame}
use Rattle.jvm_code.specs.Instruction.{Instruction, is_linked, resolve, target}
use Rattle.jvm_code.specs.Typing as typing
use Rattle.jvm_code.specs.Typing.{State}
use Rattle.jvm_code.specs.Verification as verification
use Rattle.jvm_code.specs.Verification.{CodeFault, NotTyped, NotLinked, fault_from, is_sound, if_sound, typed, reaches, is_empty, listed, at_frame, next}
use Rattle.class_verifier.specs.OpParts.{offsets, goes_on}
use Rattle.class_verifier.specs.Steps as steps
use Rattle.class_verifier.specs.Steps.{Stepped, before}
use Rattle.class_verifier.specs.Told.{TellsFault, come}
use Rattle.class_verifier.specs.declared.code_fault.CodeFault.{CodeFault as CodeFaultOf}
use Rattle.class_verifier.specs.declared.code_fault.CodeFault.TheVariants as fault
use Rattle.class_verifier.specs.declared.scope.Scope.{Scope}
use Rattle.class_verifier.proofs.OpParts.{parts_of}

-- what is sound of an instruction is sound of it resolved
pub sound : (class : Class) (m : Method) (frames : List (ℕ × Frame)) (is_last : Bool) (pc : ℕ) (op : Op) (s : State) (i : Instruction ℤ) → resolve class pc op ≡ Some i
    → (nat_le (length s.stack) m.max_stack && (list_all (reaches m frames s) (map (target pc) (offsets op)) && not (goes_on op && is_last))) ≡ is_sound m frames is_last i s
sound class m frames is_last pc op s i e =
    let parts = parts_of class pc op i e in
    ap (λ ts. nat_le (length s.stack) m.max_stack && (list_all (reaches m frames s) ts && not (goes_on op && is_last))) (sym parts.targets)
    ∙ ap (λ b. nat_le (length s.stack) m.max_stack && (list_all (reaches m frames s) (typing.targets i) && not (b && is_last))) (sym parts.on)

-- ---- one instruction

abbrev pub if_some : Bool → State → Option State
if_some ok s = if ok then Some s else None

module _ (class : Class) (m : Method) (frames : List (ℕ × Frame)) (is_last : Bool) (pc : ℕ) (op : Op) (s new : State) (ok : Bool) where
  by_instruction : (r : Option (Instruction ℤ)) → resolve class pc op ≡ r → option_and_then (typing.after s) r ≡ Some new
      → ok ≡ (nat_le (length new.stack) m.max_stack && (list_all (reaches m frames new) (map (target pc) (offsets op)) && not (goes_on op && is_last)))
      → typed m frames is_last r (Some s) ≡ if_some ok new
  by_instruction None e behind fit = absurd cc
  by_instruction (Some i) e behind fit =
      ap (option_and_then (if_sound m frames is_last i)) behind ∙ sym (ap (λ b. if_some b new) (fit ∙ sound class m frames is_last pc op new i e))

  -- an instruction whose state before and behind is known is fit where it is sound
  pub typed_step : (start : Option State) → start ≡ Some s → option_and_then (typing.after s) (resolve class pc op) ≡ Some new
      → ok ≡ (nat_le (length new.stack) m.max_stack && (list_all (reaches m frames new) (map (target pc) (offsets op)) && not (goes_on op && is_last)))
      → typed m frames is_last (resolve class pc op) start ≡ if_some ok new
  typed_step start is behind fit = ap (typed m frames is_last (resolve class pc op)) is ∙ by_instruction (resolve class pc op) refl behind fit

-- ---- the walk

-- code is at its end where none is left
pub at_end : (code : List (ℕ × Op)) (n : ℕ) → n ≤ length code → is_empty (drop n code) ≡ nat_eq n (length code)
at_end code n h = by (drop n code) (length-drop n code)
  where
    by : (left : List (ℕ × Op)) → length left ≡ length code - n → is_empty left ≡ nat_eq n (length code)
    by [] e = grind (arith, nat_tests)
    by (i ∷ left) e = grind (arith, nat_tests)

module _ (scope : Scope) (comes is_last : Bool) (s new : State) (pc : ℕ) (op : Op) (left more : List (ℕ × Op)) (first : Option CodeFault) (e : more ≡ (pc, op) ∷ left)
    (last : is_last ≡ is_empty left) where
  abbrev from : List (ℕ × Op) → Option State → Option CodeFault
  from = fault_from scope.class.now scope.method.now scope.frames

  abbrev by_link : Bool → Option CodeFault → Option CodeFault
  by_link linked rest = if linked then rest else Some (NotLinked pc)

  abbrev rest : State → Option CodeFault
  rest s = from left (next (resolve scope.class.now pc op) s)

  abbrev typed_here : Option State
  typed_here = steps.behind scope is_last pc op (before scope comes pc s)

  here : (linked : Bool) (behind : Option State) → is_linked scope.class.now op ≡ linked → typed_here ≡ behind → from more (come comes s) ≡ first
      → by_link linked (verification.behind pc rest behind) ≡ first
  here linked behind is typed all =
      sym (ap (λ l. by_link l (verification.behind pc rest behind)) is)
      ∙ ap (λ b. by_link (is_linked scope.class.now op) (verification.behind pc rest b)) (sym typed)
      ∙ ap (λ l. by_link (is_linked scope.class.now op) (verification.behind pc rest (steps.behind scope l pc op (before scope comes pc s)))) last
      ∙ ap (λ code. from code (come comes s)) (sym e)
      ∙ all

  -- what is wrong with an instruction is wrong first
  pub walked_stop : (fault : CodeFaultOf) → Stepped scope pc op typed_here (Err fault) new → from more (come comes s) ≡ first → TellsFault fault first
  walked_stop (fault.NotTyped offset) (linked, none, at) all = sym (here true None linked none all) ∙ ap (λ n. Some (NotTyped n)) (sym at)
  walked_stop (fault.NotLinked offset) (linked, at) all = sym (here false typed_here linked refl all) ∙ ap (λ n. Some (NotLinked n)) (sym at)
  walked_stop fault.NoMemory told all = tt

  goes : (r : Option (Instruction ℤ)) → resolve scope.class.now pc op ≡ r → is_some (steps.behind scope is_last pc op (before scope comes pc s)) ≡ true → next r new ≡ come (goes_on op) new
  goes None is some = absurd (true≢false (sym some ∙ ap (λ r. is_some (typed scope.method.now scope.frames is_last r (before scope comes pc s))) is))
  goes (Some i) is some = ap (λ b. if b then Some new else None) ((parts_of scope.class.now pc op i is).on)

  -- behind an instruction that is fit, what is wrong first is what is wrong with the rest
  pub walked_more : is_linked scope.class.now op ≡ true → typed_here ≡ Some new → from more (come comes s) ≡ first → from left (come (goes_on op) new) ≡ first
  walked_more linked is all = ap (from left) (sym (goes (resolve scope.class.now pc op) refl (ap is_some is))) ∙ here true (Some new) linked is all
