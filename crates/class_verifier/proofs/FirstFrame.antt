-- The frame that stands before the first of each method, as it is made.
use Rattle.std.proofs.Common.{◌≡◌, ℕ, List, [], ◌∷◌, ◌++◌, codes, ap, ◌∙◌}
use Rattle.jvm_code.specs.declared.types.Frame.{Frame}
use Rattle.jvm_code.specs.declared.types.VType.{VType}
use Rattle.jvm_code.specs.declared.types.VType.TheVariants as v
use Rattle.jvm_code.specs.StackMaps.{first}

pub first_is : (empty one two stack : List VType) (text : List ℕ) → empty ≡ [] → one ≡ empty ++ v.Class text ∷ [] → two ≡ one ++ v.Integer ∷ [] → stack ≡ [] → text ≡ codes "erl/Proc"
    → Path Frame (record { locals = two; stack = stack }) first
first_is empty one two stack text e o t s n = framed two stack (t ∙ ap (λ l. l ++ v.Integer ∷ []) (o ∙ ap (λ l. l ++ v.Class text ∷ []) e ∙ ap (λ t. v.Class t ∷ []) n)) s
  where
    framed : (locals stack : List VType) → locals ≡ first.locals → stack ≡ [] → Path Frame (record { locals = locals; stack = stack }) first
    framed locals stack l s = ap (λ l. record { locals = l; stack = stack }) l ∙ ap (λ s. record { locals = first.locals; stack = s }) s
