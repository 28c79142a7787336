-- A class has one verdict.
use Rattle.std.proofs.Common.{◌≡◌, ℕ, suc, List, [], ◌∷◌, Option, None, Some, unwrap_or, inl, inr, sym, ap, ◌∙◌}
use Rattle.std.specs.List.{AllByRecursion}
use Rattle.jvm_code.specs.declared.class.Class.{Class}
use Rattle.jvm_code.specs.declared.class.Method.{Method}
use Rattle.jvm_code.specs.declared.types.Frame.{Frame}
use Rattle.jvm_code.specs.Verification.{BadMap, CodeFault, Fault, FirstFault, FirstOf, HasCodeFault, HasFrames, InCode, IsFaultOf, IsSoundMethod, IsVerified, code_fault}
use Rattle.class_verifier.proofs.Placed.{one_listed}

one_frames : (class : Class) (m : Method) (one other : List (ℕ × Frame)) → HasFrames class m one → HasFrames class m other → one ≡ other
one_frames class m one other h k = one_listed class.pool m.maps one other h.are k.are

same_faults : (class : Class) (m : Method) (one other : List (ℕ × Frame)) → HasFrames class m one → HasFrames class m other → code_fault class m one ≡ code_fault class m other
same_faults class m one other h k = ap (code_fault class m) (one_frames class m one other h k)

-- a method at which nothing is wrong has no fault
not_faulty : (class : Class) (m : Method) (at : ℕ) (fault : Fault) → IsSoundMethod class m → IsFaultOf class m at fault → ⊥
not_faulty class m at (BadMap method) sound (is, none) = none sound.frames sound.has
not_faulty class m at (InCode method fault) sound (is, faulty) = absurd (none_some (sym sound.fine ∙ same_faults class m sound.frames faulty.frames sound.has faulty.has ∙ faulty.found))
  where
    none_some : (Path (Option CodeFault) None (Some fault)) → ⊥
    none_some e = cc

same_code : (class : Class) (m : Method) (one other : CodeFault) → HasCodeFault class m one → HasCodeFault class m other → one ≡ other
same_code class m one other h k = ap (λ o. unwrap_or o one) (sym h.found ∙ same_faults class m h.frames k.frames h.has k.has ∙ k.found)

-- a method has one fault
one_fault : (class : Class) (m : Method) (at : ℕ) (one other : Fault) → IsFaultOf class m at one → IsFaultOf class m at other → one ≡ other
one_fault class m at (BadMap a) (BadMap b) (p, none) (q, none') = ap BadMap (p ∙ sym q)
one_fault class m at (BadMap a) (InCode b other) (p, none) (q, faulty) = absurd (none faulty.frames faulty.has)
one_fault class m at (InCode a one) (BadMap b) (p, faulty) (q, none) = absurd (none faulty.frames faulty.has)
one_fault class m at (InCode a one) (InCode b other) (p, h) (q, k) = ap (λ n. InCode n one) (p ∙ sym q) ∙ ap (InCode b) (same_code class m one other h k)

none_first : (class : Class) (methods : List Method) (at : ℕ) (fault : Fault) → AllByRecursion (IsSoundMethod class) methods → FirstOf class methods at fault → ⊥
none_first class [] at fault all first = first
none_first class (m ∷ methods) at fault (sound, all) (inl faulty) = not_faulty class m at fault sound faulty
none_first class (m ∷ methods) at fault (sound, all) (inr (_, first)) = none_first class methods (suc at) fault all first

one_first : (class : Class) (methods : List Method) (at : ℕ) (one other : Fault) → FirstOf class methods at one → FirstOf class methods at other → one ≡ other
one_first class [] at one other h k = absurd h
one_first class (m ∷ methods) at one other (inl h) (inl k) = one_fault class m at one other h k
one_first class (m ∷ methods) at one other (inl h) (inr (sound, k)) = absurd (not_faulty class m at one sound h)
one_first class (m ∷ methods) at one other (inr (sound, h)) (inl k) = absurd (not_faulty class m at other sound k)
one_first class (m ∷ methods) at one other (inr (_, h)) (inr (_, k)) = one_first class methods (suc at) one other h k

pub not_both : (class : Class) (fault : Fault) → IsVerified class → FirstFault class fault → ⊥
not_both class fault = none_first class class.methods 0 fault

pub one_fault_first : (class : Class) (one other : Fault) → FirstFault class one → FirstFault class other → one ≡ other
one_fault_first class one other = one_first class class.methods 0 one other
