-- The tops of lists.
use Rattle.std.proofs.Common.{◌≡◌, ◌+◌, ◌<◌, ◌^◌, ◌∷◌, ◌++◌, length, sym, ap, ap₂, subst, ◌∙◌, arith}
use Rattle.std.proofs.lemmas.List.{length-append}
use Rattle.forest.specs.declared.node.Node.{Node}
use Rattle.forest.specs.declared.tree.Tree.{Tree}
use Rattle.forest.specs.declared.tree.Top.{Top}
use Rattle.forest.specs.declared.forest.Forest.{Forest}
use Rattle.forest.specs.Lists.{list_at, items}
use Rattle.forest.specs.View.{lists_in, list_of, Holds, IsTopOf}
use Rattle.forest.proofs.Growing.{Fits}
use Rattle.forest.proofs.Placing.{list-fits, length-lists}

module _ {T : Type 0} where
  pub top-of : (forest : Forest T) (tree : Tree) (node : Node T) (left right : Tree) → list_of forest tree ≡ items (lists_in forest) node → Fits (lists_in forest) node → left.number ≡ node.left → right.number ≡ node.right
      → IsTopOf forest tree (record { left = left; item = node.item; right = right })
  top-of forest tree node left right is f l r =
      let whole : list_of forest tree ≡ list_of forest left ++ node.item ∷ list_of forest right =
      is ∙ sym (ap₂ (λ m n. list_at (lists_in forest) m ++ node.item ∷ list_at (lists_in forest) n) l r) in
      record {
        items = whole;
        left = subst (λ n. n < length (lists_in forest)) (sym l) f.left;
        right = subst (λ n. n < length (lists_in forest)) (sym r) f.right;
        lengths = omega (arith, ap length whole ∙ length-append (list_of forest left) (node.item ∷ list_of forest right));
      }

  -- a list that is held is short, and so is its number
  pub held-list-fits : (forest : Forest T) (tree : Tree) → Holds forest tree → length (list_of forest tree) < 2 ^ 31
  held-list-fits forest tree h = list-fits forest.nodes.items tree.number forest.grows h

  pub held-number-fits : (forest : Forest T) (tree : Tree) → Holds forest tree → tree.number < 2 ^ 31
  held-number-fits forest tree h = omega (arith, forest.few, h, length-lists forest.nodes.items)

  -- the node of a top
  pub made-fits : (forest : Forest T) (top : Top T) (node : Node T) → node.left ≡ top.left.number → node.right ≡ top.right.number
      → node.len ≡ length (list_of forest top.left) + length (list_of forest top.right) + 1 → node.len < 2 ^ 31 → Holds forest top.left × Holds forest top.right
      → Fits (lists_in forest) node
  made-fits forest top node l r n short held = record {
    left = subst (λ m. m < length (lists_in forest)) (sym l) held.0;
    right = subst (λ m. m < length (lists_in forest)) (sym r) held.1;
    len =
        let a : length (list_at (lists_in forest) node.left) ≡ length (list_of forest top.left) = ap (λ m. length (list_at (lists_in forest) m)) l in
        let b : length (list_at (lists_in forest) node.right) ≡ length (list_of forest top.right) = ap (λ m. length (list_at (lists_in forest) m)) r in
        omega (arith, n, a, b, length-append (list_at (lists_in forest) node.left) (node.item ∷ list_at (lists_in forest) node.right));
    bound = short;
  }
