-- What a forest that grew says of the lists that it had.
use Rattle.std.proofs.Common.{◌≡◌, [], arith}
use Rattle.forest.specs.declared.tree.Tree.{Tree}
use Rattle.forest.specs.declared.forest.Forest.{Forest}
use Rattle.forest.specs.View.{lists_in, list_of, Holds, Keeps}
use Rattle.forest.proofs.Growing.{list_at-extends, length-extends}
use Rattle.forest.proofs.Placing.{empty-list, length-lists}

module _ {T : Type 0} where
  -- a list that was held stays
  pub kept : (old new : Forest T) (tree : Tree) → Keeps old new → Holds old tree → list_of new tree ≡ list_of old tree
  kept old new tree k h = list_at-extends (lists_in old) (lists_in new) tree.number k h

  pub held : (old new : Forest T) (tree : Tree) → Keeps old new → Holds old tree → Holds new tree
  held old new tree k h = omega (arith, h, length-extends (lists_in old) (lists_in new) k)

  -- the empty list
  pub empty : (forest : Forest T) (tree : Tree) → tree.number ≡ 0 → list_of forest tree ≡ []
  empty forest tree e = empty-list forest.nodes.items tree.number e

  pub empty-held : (forest : Forest T) (tree : Tree) → tree.number ≡ 0 → Holds forest tree
  empty-held forest tree e = omega (arith, e, length-lists forest.nodes.items)
