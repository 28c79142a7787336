-- A forest as the lists that its numbers stand for.
use Rattle.std.specs.Prelude.{◌≡◌, ◌+◌, ◌<◌, List, [], ◌∷◌, ◌++◌, length}
use Rattle.forest.specs.Lists.{list_at, grown, Extends}
use Rattle.forest.specs.declared.tree.Tree.{Tree}
use Rattle.forest.specs.declared.tree.Top.{Top}
use Rattle.forest.specs.declared.forest.Forest.{Forest}

module _ {T : Type 0} where
  -- the lists by their numbers, the empty one first
  abbrev pub lists_in : Forest T → List (List T)
  lists_in forest = grown ([] ∷ []) forest.nodes.items

  -- the list that a number of the forest stands for
  abbrev pub list_of : Forest T → Tree → List T
  list_of forest tree = list_at (lists_in forest) tree.number

  -- the number is one of the forest
  abbrev pub Holds : Forest T → Tree → Type 0
  Holds forest tree = tree.number < length (lists_in forest)

  -- each earlier number keeps its list
  abbrev pub Keeps : Forest T → Forest T → Type 0
  Keeps old new = Extends (lists_in old) (lists_in new)

  -- both lists beside an item are ones of the forest
  abbrev pub HoldsTop : Forest T → Top T → Type 0
  HoldsTop forest top = Holds forest top.left × Holds forest top.right

  -- the items of the list before, the item, and those of the list behind
  abbrev pub items_of : Forest T → Top T → List T
  items_of forest top = list_of forest top.left ++ top.item ∷ list_of forest top.right

  -- the list is that of these items, and both lists beside the item, which are shorter, are ones of the forest
  pub record IsTopOf (forest : Forest T) (tree : Tree) (top : Top T) : Type 0 where
    pub items : list_of forest tree ≡ items_of forest top
    pub left : Holds forest top.left
    pub right : Holds forest top.right
    pub lengths : length (list_of forest top.left) + length (list_of forest top.right) + 1 ≡ length (list_of forest tree)
