-- Writing a text in pieces.
use Rattle.std.proofs.Common.{◌≡◌, ℕ, ◌+◌, ◌<◌, ◌≤◌, inl, inr, List, [], ◌∷◌, ◌++◌, codes, length, take, drop, String, string_bytes, Option, None, Some, Result, Ok, Err, IfOk, IsErrAnd, refl, sym, ap, subst, ◌∙◌, append_assoc, length-append, arith}
use Rattle.std.specs.Fmt.{decimal}
use Rattle.std.specs.Option.{option_map}
use Rattle.std.proofs.lemmas.List.{take-append-drop, take-append-le}
use Rattle.std.proofs.Math.Seq.{take-append_seam, take-append-add}
use Rattle.ej_outside.specs.Sink.{SinkState, Takes, Refuses}
use Rattle.ej_outside.specs.declared.fault.Failed as failed
use Rattle.erjang_top.specs.Answers.{Refusal, NotBuilt, TookAll, TookFront, Says, cause_text}
use Rattle.erjang_top.specs.Work.{WritesAll, SaysRefusal, RefusesFor}

-- what was appended twice was appended at once
append_twice : (o : Option (List ℕ)) (a b : List ℕ) → option_map (λ (taken : List ℕ). taken ++ b) (option_map (λ (taken : List ℕ). taken ++ a) o) ≡ option_map (λ (taken : List ℕ). taken ++ (a ++ b)) o
append_twice None a b = refl
append_twice (Some taken) a b = ap Some (append_assoc taken a b)

-- a sink that took one text took another after it
joined : (x y z : Option (List ℕ)) (a b : List ℕ) → y ≡ option_map (λ (taken : List ℕ). taken ++ a) x → z ≡ option_map (λ (taken : List ℕ). taken ++ b) y → z ≡ option_map (λ (taken : List ℕ). taken ++ (a ++ b)) x
joined x y z a b p q = q ∙ ap (option_map (λ (taken : List ℕ). taken ++ b)) p ∙ append_twice x a b

pub took_both : (s t u : SinkState) (a b : List ℕ) → TookAll s a t → TookAll t b u → TookAll s (a ++ b) u
took_both s t u a b p q = (joined s.took t.took u.took a b p.0 q.0, q.1 ∙ p.1)

-- it failed in the first of two texts
pub took_first_front : (s t : SinkState) (a b : List ℕ) → TookFront s a t → TookFront s (a ++ b) t
took_first_front s t a b p =
    let within : p.0 ≤ length a = omega (arith, p.1) in (
      p.0,
      omega (arith, length-append a b, p.1),
      p.2 ∙ ap (λ (front : List ℕ). option_map (λ (taken : List ℕ). taken ++ front) s.took) (sym (take-append-le p.0 a b within)),
      p.3,
    )

-- it took the first of two texts and failed in the second
pub took_second_front : (s t u : SinkState) (a b : List ℕ) → TookAll s a t → TookFront t b u → TookFront s (a ++ b) u
took_second_front s t u a b p q =
    let rises = q.3 in (
      length a + q.0,
      omega (arith, length-append a b, q.1),
      joined s.took t.took u.took a (take q.0 b) p.0 q.2 ∙ ap (λ (front : List ℕ). option_map (λ (taken : List ℕ). taken ++ front) s.took) (sym (take-append-add a b q.0)),
      rw p.1 at rises,
    )

-- the rest of a text is written after its front
pub writes_rest : (s t u : SinkState) (a b : List ℕ) (r : Result (Unit {0}) failed.Failed) → TookAll s a t → WritesAll t b r u → WritesAll s (a ++ b) r u
writes_rest s t u a b (Ok done) p q = took_both s t u a b p q
writes_rest s t u a b (Err fault) p q = took_second_front s t u a b p q

-- one more write of a rest
pub took_more : (s t u : SinkState) (front rest : List ℕ) (count : ℕ) → TookAll s front t → Takes t rest count u → TookAll s (front ++ take count rest) u
took_more s t u front rest count p q = (joined s.took t.took u.took front (take count rest) p.0 q.took, q.faults ∙ p.1)

pub rest_is : (front rest whole : List ℕ) (count : ℕ) → front ++ rest ≡ whole → (front ++ take count rest) ++ drop count rest ≡ whole
rest_is front rest whole count e = append_assoc front (take count rest) (drop count rest) ∙ ap (λ (l : List ℕ). front ++ l) (take-append-drop count rest) ∙ e

-- a write of a rest failed
pub took_till : (s t u : SinkState) (front rest whole : List ℕ) → 0 < length rest → front ++ rest ≡ whole → TookAll s front t → Refuses t u → TookFront s whole u
took_till s t u front rest whole some e p q =
    let rises = q.faults in
    let fit : length front + length rest ≡ length whole = sym (length-append front rest) ∙ ap length e in (
      length front,
      omega (arith, fit),
      q.took ∙ p.0 ∙ ap (λ (l : List ℕ). option_map (λ (taken : List ℕ). taken ++ l) s.took) (sym (take-append_seam front rest) ∙ ap (take (length front)) e),
      rw p.1 at rises,
    )

-- a fault that is passed on
pub fault_passed_on : (s u : SinkState) (text : List ℕ) (r : Result (Unit {0}) failed.Failed) (fault : failed.Failed)
    → IsErrAnd r (λ e. e ≡ fault) → TookFront s text u → WritesAll s text r u
fault_passed_on s u text (Ok done) fault e p = absurd e
fault_passed_on s u text (Err other) fault e p = p

-- a line that took memory about a refused file
pub said_refused : {Z E : Type 0} (file : List ℕ) (cause : Refusal) (r : Result (String Z) E) (status : ℕ) (old new : SinkState)
    → IfOk r (λ said. string_bytes said ≡ cause_text cause ++ 10 ∷ []) → SaysRefusal file r status old new → RefusesFor (record { file = file; cause = cause }) status old new
said_refused file cause (Ok said) status old new e p = inl (subst (λ (text : List ℕ). Says 1 (file ++ text) status old new) e p)
said_refused file cause (Err none) status old new e p = inr p

-- the line about an instruction that is not compiled so far
ends : (func index : List ℕ) (said : List ℕ) → (codes ": function " ++ (func ++ (codes ", instruction " ++ (index ++ said)))) ++ 10 ∷ []
    ≡ codes ": function " ++ (func ++ (codes ", instruction " ++ (index ++ (said ++ 10 ∷ []))))
ends func index said =
    ap (λ (l : List ℕ). codes ": function " ++ l) (append_assoc func (codes ", instruction " ++ (index ++ said)) (10 ∷ [])
    ∙ ap (λ (l : List ℕ). func ++ (codes ", instruction " ++ l)) (append_assoc index said (10 ∷ [])))

line_ends : (func index : ℕ) → cause_text (NotBuilt func index) ++ 10 ∷ []
    ≡ codes ": function " ++ (decimal func ++ (codes ", instruction " ++ (decimal index ++ codes ": not built\n")))
line_ends func index = ends (decimal func) (decimal index) (codes ": not built")

pub ends_line : {Z E : Type 0} (r : Result (String Z) E) (func index : ℕ)
    → IfOk r (λ said. string_bytes said ≡ codes ": function " ++ (decimal func ++ (codes ", instruction " ++ (decimal index ++ codes ": not built\n"))))
    → IfOk r (λ said. string_bytes said ≡ cause_text (NotBuilt func index) ++ 10 ∷ [])
ends_line (Ok said) func index e = e ∙ sym (line_ends func index)
ends_line (Err none) func index e = tt
