-- A class is verified, or one thing is wrong with it first, and not both.
use Rattle.std.proofs.Common.{◌≡◌, ℕ, suc, inl, inr, List, [], ◌∷◌, Option, None, Some, MatchOption, sym, ap, ap₂, ◌∙◌}
use Rattle.std.specs.List.{AllByRecursion}
use Rattle.jvm_code.specs.declared.class.Class.{Class}
use Rattle.jvm_code.specs.declared.class.Method.{Method}
use Rattle.jvm_code.specs.declared.types.Frame.{Frame}
use Rattle.jvm_code.specs.StackMaps.{AreFrames}
use Rattle.jvm_code.specs.Verification.{HasFrames, CodeFault, code_fault, IsSoundMethod, IsVerified, Fault, BadMap, InCode, HasCodeFault, IsFaultOf, FirstOf, FirstFault}
use Rattle.stack_maps.proofs.FramesLaw.{one_list}

-- a method has one list of frames at most
one_frames : (class : Class) (m : Method) (a b : List (ℕ × Frame)) → HasFrames class m a → HasFrames class m b → a ≡ b
one_frames class m a b p q = go m.maps p.are q.are where
  go : (maps : Option (ℕ × List ℕ)) → MatchOption maps (a ≡ []) (λ maps. AreFrames class.pool maps.1 a) → MatchOption maps (b ≡ []) (λ maps. AreFrames class.pool maps.1 b) → a ≡ b
  go None p q = p ∙ sym q
  go (Some maps) p q = one_list class.pool maps.1 a b p q

some_code : (a b : CodeFault) → ◌≡◌ {A = Option CodeFault} (Some a) (Some b) → a ≡ b
some_code a b e = cc

some_no_code : {G : Type 0} (a : CodeFault) → ◌≡◌ {A = Option CodeFault} (Some a) None → G
some_no_code a e = absurd (cc)

one_code_fault : (class : Class) (m : Method) (a b : CodeFault) → HasCodeFault class m a → HasCodeFault class m b → a ≡ b
one_code_fault class m a b p q =
    some_code a b (sym p.found ∙ ap (code_fault class m) (one_frames class m p.frames q.frames p.has q.has) ∙ q.found)

-- of one method
one_of_method : (class : Class) (m : Method) (at : ℕ) (a b : Fault) → IsFaultOf class m at a → IsFaultOf class m at b → a ≡ b
one_of_method class m at (BadMap x) (BadMap y) p q = ap (λ (n : ℕ). BadMap n) (p.0 ∙ sym q.0)
one_of_method class m at (BadMap x) (InCode y f) p q = absurd (p.1 q.1.frames q.1.has)
one_of_method class m at (InCode x f) (BadMap y) p q = absurd (q.1 p.1.frames p.1.has)
one_of_method class m at (InCode x f) (InCode y g) p q =
    ap₂ (λ (n : ℕ) (c : CodeFault). InCode n c) (p.0 ∙ sym q.0) (one_code_fault class m f g p.1 q.1)

not_sound : {G : Type 0} (class : Class) (m : Method) (at : ℕ) (a : Fault) → IsFaultOf class m at a → IsSoundMethod class m → G
not_sound class m at (BadMap x) p s = absurd (p.1 s.frames s.has)
not_sound class m at (InCode x f) p s =
    some_no_code f (sym p.1.found ∙ ap (code_fault class m) (one_frames class m p.1.frames s.frames p.1.has s.has) ∙ s.fine)

-- of the methods
one_of_methods : (class : Class) (ms : List Method) (at : ℕ) (a b : Fault) → FirstOf class ms at a → FirstOf class ms at b → a ≡ b
one_of_methods class [] at a b p q = absurd p
one_of_methods class (m ∷ ms) at a b (inl p) (inl q) = one_of_method class m at a b p q
one_of_methods class (m ∷ ms) at a b (inl p) (inr q) = not_sound class m at a p q.0
one_of_methods class (m ∷ ms) at a b (inr p) (inl q) = not_sound class m at b q p.0
one_of_methods class (m ∷ ms) at a b (inr p) (inr q) = one_of_methods class ms (suc at) a b p.1 q.1

none_of_methods : {G : Type 0} (class : Class) (ms : List Method) (at : ℕ) (a : Fault) → FirstOf class ms at a → AllByRecursion (IsSoundMethod class) ms → G
none_of_methods class [] at a p s = absurd p
none_of_methods class (m ∷ ms) at a (inl p) s = not_sound class m at a p s.0
none_of_methods class (m ∷ ms) at a (inr p) s = none_of_methods class ms (suc at) a p.1 s.1

pub one_fault : (class : Class) (a b : Fault) → FirstFault class a → FirstFault class b → a ≡ b
one_fault class a b p q = one_of_methods class class.methods 0 a b p q

pub not_verified : {G : Type 0} (class : Class) (a : Fault) → FirstFault class a → IsVerified class → G
not_verified class a p s = none_of_methods class class.methods 0 a p s
