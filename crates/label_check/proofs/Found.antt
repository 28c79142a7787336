-- The first label that is missing, while labels are gone through.
use Rattle.std.proofs.Common.{◌≡◌, Bool, true, false, cond, List, ◌∷◌, Option, None, Some, sym, ap, ◌∙◌}
use Rattle.std.specs.List.{find, flat_map}
use Rattle.std.specs.Option.{option_or}
use Rattle.std.proofs.lemmas.List.Folds.{find-append}

module _ {X : Type 0} (p : X → Bool) (x : X) (left more : List X) (first : Option X) (e : more ≡ x ∷ left) (all : find p more ≡ first) where
  pub found-stop : p x ≡ true → Some x ≡ first
  found-stop h = ap (λ b. cond b (Some x) (find p left)) (sym h) ∙ ap (find p) (sym e) ∙ all

  pub found-more : p x ≡ false → find p left ≡ first
  found-more h = ap (λ b. cond b (Some x) (find p left)) (sym h) ∙ ap (find p) (sym e) ∙ all

-- list after list
module _ {X A : Type 0} (p : X → Bool) (parts : A → List X) (a : A) (left more : List A) (first : Option X) (e : more ≡ a ∷ left) (all : find p (flat_map parts more) ≡ first) where
  here : option_or (find p (parts a)) (find p (flat_map parts left)) ≡ first
  here = sym (find-append p (parts a) (flat_map parts left)) ∙ ap (λ list. find p (flat_map parts list)) (sym e) ∙ all

  pub firsts-stop : (x : X) → Some x ≡ find p (parts a) → Some x ≡ first
  firsts-stop x is = ap (λ o. option_or o (find p (flat_map parts left))) is ∙ here

  pub firsts-more : None ≡ find p (parts a) → find p (flat_map parts left) ≡ first
  firsts-more is = ap (λ o. option_or o (find p (flat_map parts left))) is ∙ here
