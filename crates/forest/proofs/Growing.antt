-- What the nodes of a forest stand for, as nodes are added.
use Rattle.std.proofs.Common.{◌≡◌, ℕ, ◌+◌, ◌<◌, ◌^◌, true, List, [], ◌∷◌, ◌++◌, length, drop, slice_get, Some, refl, sym, ap, ap₂, subst, ◌∙◌, zero, suc, arith}
use Rattle.std.proofs.lemmas.Option.{none-some, same_Some}
use Rattle.std.proofs.lemmas.Bool.{and_parts, and_from, ltb-true, lt-ltb, eqb-true, eq-eqb}
use Rattle.std.proofs.lemmas.List.{append-nil, append_assoc, length-append}
use Rattle.std.proofs.Math.ListN.{get_or-append}
use Rattle.std.proofs.Math.Seq.{drop-append_seam, get_or-append_seam}
use Rattle.forest.specs.declared.node.Node.{Node}
use Rattle.forest.specs.Lists.{list_at, items, grown, fits, sound, Extends}

module _ {X : Type 0} where
  pub extends-by : (xs ys zs : List X) → zs ≡ xs ++ ys → Extends xs zs
  extends-by xs ys zs e = e ∙ ap (◌++◌ xs) (sym (ap (drop (length xs)) e ∙ drop-append_seam xs ys))

  pub extends-itself : (xs : List X) → Extends xs xs
  extends-itself xs = extends-by xs [] xs (sym (append-nil xs))

  pub extends-then : (xs ys zs : List X) → Extends xs ys → Extends ys zs → Extends xs zs
  extends-then xs ys zs d e = extends-by xs (drop (length xs) ys ++ drop (length ys) zs) zs (e ∙ ap (λ ws. ws ++ drop (length ys) zs) d ∙ append_assoc xs (drop (length xs) ys) (drop (length ys) zs))

  pub length-extends : (xs ys : List X) → Extends xs ys → length ys ≡ length xs + length (drop (length xs) ys)
  length-extends xs ys e = ap length e ∙ length-append xs (drop (length xs) ys)

module _ {T : Type 0} where
  pub list_at-more : (xs ys : List (List T)) (n : ℕ) → n < length xs → list_at (xs ++ ys) n ≡ list_at xs n
  list_at-more xs ys n lt = get_or-append xs ys [] n lt

  pub list_at-extends : (xs ys : List (List T)) (n : ℕ) → Extends xs ys → n < length xs → list_at ys n ≡ list_at xs n
  list_at-extends xs ys n e lt = ap (λ (zs : List (List T)). list_at zs n) e ∙ list_at-more xs (drop (length xs) ys) n lt

  pub items-more : (xs ys : List (List T)) (node : Node T) → node.left < length xs → node.right < length xs → items (xs ++ ys) node ≡ items xs node
  items-more xs ys node l r = ap₂ (λ (front back : List T). front ++ node.item ∷ back) (list_at-more xs ys node.left l) (list_at-more xs ys node.right r)

  -- what `fits` says
  pub record Fits (lists : List (List T)) (node : Node T) : Type 0 where
    pub left : node.left < length lists
    pub right : node.right < length lists
    pub len : node.len ≡ length (items lists node)
    pub bound : node.len < 2 ^ 31

  pub fits-says : (lists : List (List T)) (node : Node T) → fits lists node ≡ true → Fits lists node
  fits-says lists node e =
      let a = and_parts _ _ e in
      let b = and_parts _ _ a.0 in
      let d = and_parts _ _ b.0 in
      record { left = ltb-true _ _ d.0; right = ltb-true _ _ d.1; len = eqb-true _ _ b.1; bound = ltb-true _ _ a.1 }

  pub fits-from : (lists : List (List T)) (node : Node T) → Fits lists node → fits lists node ≡ true
  fits-from lists node f = and_from _ _ (and_from _ _ (and_from _ _ (lt-ltb _ _ f.left) (lt-ltb _ _ f.right)) (eq-eqb _ _ f.len)) (lt-ltb _ _ f.bound)

  -- the first lists stay, and there is one more for each node
  pub grown-from : (xs : List (List T)) (nodes : List (Node T)) → (ys : List (List T)) × (grown xs nodes ≡ xs ++ ys) × (length ys ≡ length nodes)
  grown-from xs [] = ([], sym (append-nil xs), refl)
  grown-from xs (node ∷ nodes) =
      let r = grown-from (xs ++ items xs node ∷ []) nodes in
      (items xs node ∷ r.0, r.1 ∙ append_assoc xs (items xs node ∷ []) r.0, ap suc r.2)

  pub length-grown : (xs : List (List T)) (nodes : List (Node T)) → length (grown xs nodes) ≡ length xs + length nodes
  length-grown xs nodes = let r = grown-from xs nodes in ap length r.1 ∙ length-append xs r.0 ∙ ap (◌+◌ (length xs)) r.2

  -- a node behind the others
  pub grown-push : (xs : List (List T)) (nodes : List (Node T)) (node : Node T) → grown xs (nodes ++ node ∷ []) ≡ grown xs nodes ++ items (grown xs nodes) node ∷ []
  grown-push xs [] node = refl
  grown-push xs (first ∷ nodes) node = grown-push (xs ++ items xs first ∷ []) nodes node

  pub sound-push : (xs : List (List T)) (nodes : List (Node T)) (node : Node T) → sound xs nodes ≡ true → fits (grown xs nodes) node ≡ true → sound xs (nodes ++ node ∷ []) ≡ true
  sound-push xs [] node s f = and_from (fits xs node) true f refl
  sound-push xs (first ∷ nodes) node s f =
      let p = and_parts (fits xs first) (sound (xs ++ items xs first ∷ []) nodes) s in
      and_from _ _ p.0 (sound-push (xs ++ items xs first ∷ []) nodes node p.1 f)

  -- the list at a node's place is the node's, which fits all lists
  pub node-at : (xs : List (List T)) (nodes : List (Node T)) (place : ℕ) (node : Node T) → sound xs nodes ≡ true → slice_get nodes place ≡ Some node
      → (list_at (grown xs nodes) (length xs + place) ≡ items (grown xs nodes) node) × Fits (grown xs nodes) node
  node-at xs [] place node s g = absurd (none-some node g)
  node-at xs (first ∷ nodes) zero node s g =
      let p = and_parts (fits xs first) (sound (xs ++ items xs first ∷ []) nodes) s in
      let r = grown-from (xs ++ items xs first ∷ []) nodes in
      let f = fits-says xs first p.0 in
      let whole : grown (xs ++ items xs first ∷ []) nodes ≡ xs ++ items xs first ∷ r.0 = r.1 ∙ append_assoc xs (items xs first ∷ []) r.0 in
      let same : items (xs ++ items xs first ∷ r.0) first ≡ items xs first = items-more xs (items xs first ∷ r.0) first f.left f.right in
      let long : length (xs ++ items xs first ∷ r.0) ≡ length xs + length (items xs first ∷ r.0) = length-append xs (items xs first ∷ r.0) in
      subst (λ (n : Node T). (list_at (grown (xs ++ items xs first ∷ []) nodes) (length xs + zero) ≡ items (grown (xs ++ items xs first ∷ []) nodes) n) × Fits (grown (xs ++ items xs first ∷ []) nodes) n)
      (same_Some first node g)
      (subst (λ (zs : List (List T)). (list_at zs (length xs + zero) ≡ items zs first) × Fits zs first) (sym whole) (
        ap (list_at (xs ++ items xs first ∷ r.0)) {y = length xs} (omega arith) ∙ get_or-append_seam xs (items xs first) r.0 [] ∙ sym same,
        record { left = omega (arith, f.left, long); right = omega (arith, f.right, long); len = f.len ∙ ap length (sym same); bound = f.bound },
      ))
  node-at xs (first ∷ nodes) (suc place) node s g =
      let p = and_parts (fits xs first) (sound (xs ++ items xs first ∷ []) nodes) s in
      let r = node-at (xs ++ items xs first ∷ []) nodes place node p.1 g in
      let n : length xs + suc place ≡ length (xs ++ items xs first ∷ []) + place = omega (arith, length-append xs (items xs first ∷ [])) in
      (ap (list_at (grown (xs ++ items xs first ∷ []) nodes)) n ∙ r.0, r.1)
