-- The lists that the nodes of a forest stand for.
use Rattle.std.specs.Prelude.{◌≡◌, ℕ, ◌^◌, Bool, true, ◌&&◌, ◌==◌, nat_lt, List, [], ◌∷◌, ◌++◌, length, drop, slice_index_or}
use Rattle.forest.specs.declared.node.Node.{Node}

-- the list of that number
abbrev pub list_at : {T : Type 0} → List (List T) → ℕ → List T
list_at lists number = slice_index_or lists number []

-- the items of a node's left list, its own, and those of its right list
abbrev pub items : {T : Type 0} → List (List T) → Node T → List T
items lists node = list_at lists node.left ++ node.item ∷ list_at lists node.right

-- the lists, and then that of each node, which is made of the lists before it
abbrev pub grown : {T : Type 0} → List (List T) → List (Node T) → List (List T)
grown lists [] = lists
grown lists (node ∷ nodes) = grown (lists ++ items lists node ∷ []) nodes

-- the node names lists that are there, and has the length of its own, which is less than 2^31
abbrev pub fits : {T : Type 0} → List (List T) → Node T → Bool
fits lists node = nat_lt node.left (length lists) && nat_lt node.right (length lists) && node.len == length (items lists node) && nat_lt node.len (2 ^ 31)

-- each node fits the lists before it
abbrev pub sound : {T : Type 0} → List (List T) → List (Node T) → Bool
sound lists [] = true
sound lists (node ∷ nodes) = fits lists node && sound (lists ++ items lists node ∷ []) nodes

-- the first list, and then what may be more
abbrev pub Extends : {X : Type 0} → List X → List X → Type 0
Extends old new = new ≡ old ++ drop (length old) new
