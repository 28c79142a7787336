-- What is found in the code's table, and in the definition's.
use Rattle.std.proofs.Common.{refl, sym, ap, ◌∙◌, ◌≡◌, Bool, true, false, List, [], ◌∷◌, map, None, Some}
use Rattle.std.specs.List.{find}
use Rattle.std.specs.Option.{option_map}

find_mapped : {X Y : Type 0} (f : X → Y) (test : Y → Bool) (xs : List X) → find test (map f xs) ≡ option_map f (find (λ x. test (f x)) xs)
find_mapped f test [] = refl
find_mapped f test (x ∷ xs) = by (test (f x)) refl (find_mapped f test xs)
  where
    by : (b : Bool) → test (f x) ≡ b → find test (map f xs) ≡ option_map f (find (λ y. test (f y)) xs)
        → find test (map f (x ∷ xs)) ≡ option_map f (find (λ y. test (f y)) (x ∷ xs))
    by true e later = rw e refl
    by false e later = rw e later

-- rows that stand for a table
module _ {R S : Type 0} (seen : R → S) (test : S → Bool) (rows : List R) (table : List S) (is : map seen rows ≡ table) where
  pub found : (row : R) → Some row ≡ find (λ r. test (seen r)) rows → Some (seen row) ≡ find test table
  found row e = ap (option_map seen) e ∙ sym (find_mapped seen test rows) ∙ ap (find test) is

  pub missing : None ≡ find (λ r. test (seen r)) rows → None ≡ find test table
  missing e = ap (option_map seen) e ∙ sym (find_mapped seen test rows) ∙ ap (find test) is
