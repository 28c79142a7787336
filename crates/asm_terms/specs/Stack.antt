-- A stack as the list of its items from the top down.
use Rattle.std.specs.Prelude.{List, [], ◌∷◌, Option, None, Some}

-- the top item and the stack below it
abbrev pub popped : {A : Type 0} → List A → Option (A × List A)
popped [] = None
popped (top ∷ below) = Some (top, below)
