-- Nodes by the numbers of their lists, and the adding of one.
use Rattle.std.proofs.Common.{◌≡◌, ℕ, ◌+◌, ◌<◌, ◌^◌, Bool, true, false, if◌then◌else◌, List, [], ◌∷◌, ◌++◌, length, slice_get, Some, refl, sym, ap, ap₂, subst, ◌∙◌, zero, suc, arith}
use Rattle.std.proofs.lemmas.List.{append-nil, length-append}
use Rattle.std.proofs.Math.Seq.{get_or-append_seam}
use Rattle.forest.specs.declared.node.Node.{Node}
use Rattle.forest.specs.Lists.{list_at, items, grown, sound, Extends}
use Rattle.forest.proofs.Growing.{extends-by, Fits, fits-from, grown-from, length-grown, grown-push, sound-push, node-at}

module _ {T : Type 0} where
  abbrev pub lists : List (Node T) → List (List T)
  lists nodes = grown ([] ∷ []) nodes

  abbrev pub Sound : List (Node T) → Type 0
  Sound nodes = sound ([] ∷ []) nodes ≡ true

  pub length-lists : (nodes : List (Node T)) → length (lists nodes) ≡ suc (length nodes)
  length-lists nodes = omega (arith, length-grown ([] ∷ []) nodes)

  pub empty-list : (nodes : List (Node T)) (number : ℕ) → number ≡ 0 → list_at (lists nodes) number ≡ []
  empty-list nodes number zero-is = let r = grown-from ([] ∷ []) nodes in ap₂ (λ (zs : List (List T)) n. list_at zs n) r.1 zero-is

  -- a node's list
  pub node-of : (nodes : List (Node T)) (number place : ℕ) (node : Node T) → Sound nodes → number ≡ suc place → slice_get nodes place ≡ Some node
      → (list_at (lists nodes) number ≡ items (lists nodes) node) × Fits (lists nodes) node
  node-of nodes number place node s at g =
      let r = node-at ([] ∷ []) nodes place node s g in
      (ap (list_at (lists nodes)) {y = 1 + place} (omega (arith, at)) ∙ r.0, r.1)

  pub length-items : (xs : List (List T)) (node : Node T) → length (items xs node) ≡ length (list_at xs node.left) + suc (length (list_at xs node.right))
  length-items xs node = length-append (list_at xs node.left) (node.item ∷ list_at xs node.right)

  -- each list is short
  pub list-fits : (nodes : List (Node T)) (number : ℕ) → Sound nodes → number < length (lists nodes) → length (list_at (lists nodes) number) < 2 ^ 31
  list-fits nodes zero s lt = subst (λ (xs : List T). length xs < 2 ^ 31) (sym (empty-list nodes zero refl)) (omega arith)
  list-fits nodes (suc place) s lt =
      let within : place < length nodes = omega (arith, lt, length-lists nodes) in
      first nodes place within s (node_at nodes place within)
    where
      node_at : (ns : List (Node T)) (p : ℕ) → p < length ns → (node : Node T) × (slice_get ns p ≡ Some node)
      node_at [] p lt = absurd (omega (arith, lt))
      node_at (n ∷ ns) zero lt = (n, refl)
      node_at (n ∷ ns) (suc p) lt = node_at ns p (omega (arith, lt))

      first : (nodes : List (Node T)) (place : ℕ) → place < length nodes → Sound nodes → (node : Node T) × (slice_get nodes place ≡ Some node) → length (list_at (lists nodes) (suc place)) < 2 ^ 31
      first nodes place within s (node, g) =
          let r = node-of nodes (suc place) place node s refl g in
          subst (λ n. n < 2 ^ 31) (r.1.len ∙ ap length (sym r.0)) r.1.bound

  -- one more node
  pub pushed-lists : (nodes news : List (Node T)) (node : Node T) → news ≡ nodes ++ node ∷ [] → lists news ≡ lists nodes ++ items (lists nodes) node ∷ []
  pushed-lists nodes news node e = ap lists e ∙ grown-push ([] ∷ []) nodes node

  pub pushed-sound : (b : Bool) (nodes news : List (Node T)) (node : Node T) → Sound nodes → Fits (lists nodes) node → news ≡ (if b then nodes ++ node ∷ [] else nodes) → Sound news
  pushed-sound true nodes news node s f e = ap (sound ([] ∷ [])) e ∙ sound-push ([] ∷ []) nodes node s (fits-from (lists nodes) node f)
  pushed-sound false nodes news node s f e = ap (sound ([] ∷ [])) e ∙ s

  pub pushed-few : (b : Bool) (nodes news : List (Node T)) (node : Node T) → suc (length nodes) < 2 ^ 31 → news ≡ (if b then nodes ++ node ∷ [] else nodes) → length news < 2 ^ 31
  pushed-few true nodes news node few e = omega (arith, few, ap length e ∙ length-append nodes (node ∷ []))
  pushed-few false nodes news node few e = omega (arith, few, ap length e)

  pub pushed-keeps : (b : Bool) (nodes news : List (Node T)) (node : Node T) → news ≡ (if b then nodes ++ node ∷ [] else nodes) → Extends (lists nodes) (lists news)
  pushed-keeps true nodes news node e = extends-by (lists nodes) (items (lists nodes) node ∷ []) (lists news) (pushed-lists nodes news node e)
  pushed-keeps false nodes news node e = extends-by (lists nodes) [] (lists news) (ap lists e ∙ sym (append-nil (lists nodes)))

  pub pushed-held : (nodes news : List (Node T)) (node : Node T) (number : ℕ) → news ≡ nodes ++ node ∷ [] → number ≡ suc (length nodes) → number < length (lists news)
  pushed-held nodes news node number e at = omega (arith, at, length-lists news, ap length e ∙ length-append nodes (node ∷ []))

  pub pushed-list : (nodes news : List (Node T)) (node : Node T) (number : ℕ) → news ≡ nodes ++ node ∷ [] → number ≡ suc (length nodes) → list_at (lists news) number ≡ items (lists nodes) node
  pushed-list nodes news node number e at =
      ap₂ (λ (zs : List (List T)) n. list_at zs n) (pushed-lists nodes news node e) (at ∙ sym (length-lists nodes))
      ∙ get_or-append_seam (lists nodes) (items (lists nodes) node) [] []
