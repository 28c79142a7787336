-- Bytes that are spelled are those of the class, where any are.
use Rattle.std.proofs.Common.{◌≡◌, ℕ, Bool, true, false, List, sym, ◌∙◌, subst}
use Rattle.std.specs.Bool.{Decides}
use Rattle.jvm_code.specs.declared.class.Class.{Class}
use Rattle.jvm_code.specs.ReadClass.{ClassOf}
use Rattle.jvm_code.specs.Spelling.{class_bytes}
use Rattle.jvm_code.proofs.ClassLaw.{spelled}

-- bytes that are spelled but are not those of the class: none are
pub none_has : (bytes : List ℕ) (class : Class) (same : Bool) → bytes ≡ class_bytes class → Decides same (ClassOf bytes class) → same ≡ false → (other : List ℕ) → ClassOf other class → ⊥
none_has bytes class same s d f other h = let t : Path Bool false true = sym f ∙ d.1 (subst (λ bs. ClassOf bs class) (spelled other class h ∙ sym s) h) in absurd cc
