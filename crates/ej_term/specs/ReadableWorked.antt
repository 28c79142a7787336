-- Worked terms: how deep a readable one may be, and how long its names.
use Rattle.std.specs.Prelude.{◌≡◌, ℕ, zero, suc, true, false, replicate, codes}
use Rattle.ej_term.specs.Term.{Term, Atom, Pid, Fun, Nil, Cons, None, list}
use Rattle.ej_term.specs.Readable.{is_readable}

-- the empty list in so many lists
abbrev pub nested : ℕ → Term
nested zero = Nil
nested (suc n) = Cons (nested n) Nil

pub record ReadableRows : Type 0 where
  pub deepest : is_readable (nested 255) ≡ true
  pub too_deep : is_readable (nested 256) ≡ false
  -- the elements of a list are all in one bracket
  pub long_list : is_readable (list (replicate 300 Nil)) ≡ true
  pub longest_name : is_readable (Atom (replicate 255 97)) ≡ true
  pub long_name : is_readable (Atom (replicate 256 97)) ≡ false
  pub largest_number : is_readable (Pid 0 4611686018427387904) ≡ true
  pub large_number : is_readable (Pid 0 4611686018427387905) ≡ false
  pub local_fun : is_readable (Fun true (codes "m") (codes "f") 0 None) ≡ false
