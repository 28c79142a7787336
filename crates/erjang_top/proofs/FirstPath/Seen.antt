-- A set of the writer's own keys, seen as the definition's.
use Rattle.std.proofs.Common.{◌≡◌, Bool, true, false, cond, List, [], ◌∷◌, ◌++◌, map, refl, ap, ◌∙◌}
use Rattle.std.specs.List.{list_any, position_or_len}

map-append : {X Y : Type 0} (f : X → Y) (xs ys : List X) → map f (xs ++ ys) ≡ map f xs ++ map f ys
map-append f [] ys = refl
map-append f (x ∷ xs) ys = ap (λ (t : List _). f x ∷ t) (map-append f xs ys)

map-cond : {X Y : Type 0} (f : X → Y) (b : Bool) (xs ys : List X) → map f (cond b xs ys) ≡ cond b (map f xs) (map f ys)
map-cond f true xs ys = refl
map-cond f false xs ys = refl

-- tests of the keys that agree with tests of what they are seen as
pub record Agrees {X Y : Type 0} (eq : X → X → Bool) (same : Y → Y → Bool) (seen : X → Y) : Type 0 where
  pub agree : (u v : X) → eq u v ≡ same (seen u) (seen v)

module _ {X Y : Type 0} {eq : X → X → Bool} {same : Y → Y → Bool} {seen : X → Y} (a : Agrees eq same seen) where
  pub any-seen : (x : X) (keys : List X) → list_any (eq x) keys ≡ list_any (same (seen x)) (map seen keys)
  any-seen x [] = refl
  any-seen x (key ∷ keys) = cc (a.agree x key, any-seen x keys)

  pub position-seen : (x : X) (keys : List X) → position_or_len (eq x) keys ≡ position_or_len (same (seen x)) (map seen keys)
  position-seen x [] = refl
  position-seen x (key ∷ keys) = cc (a.agree x key, position-seen x keys)

  -- a key is inserted as what it is seen as is added
  pub insert-seen : (x : X) (old new : List X) → new ≡ cond (list_any (eq x) old) old (old ++ x ∷ [])
      → map seen new ≡ cond (list_any (same (seen x)) (map seen old)) (map seen old) (map seen old ++ seen x ∷ [])
  insert-seen x old new e =
      let all = map seen old in
      ap (map seen) e
      ∙ map-cond seen (list_any (eq x) old) old (old ++ x ∷ [])
      ∙ ap (λ (more : List Y). cond (list_any (eq x) old) all more) (map-append seen old (x ∷ []))
      ∙ ap (λ (b : Bool). cond b all (all ++ seen x ∷ [])) (any-seen x old)
