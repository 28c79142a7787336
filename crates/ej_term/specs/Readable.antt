-- Which terms have a print that is read back.
use Rattle.std.specs.Prelude.{ℕ, suc, ◌^◌, Bool, true, not, ◌&&◌, nat_le, nat_lt, List, length}
use Rattle.ej_term.specs.Term.{Term, Atom, Reference, Fun, Pid, Tuple, Map, Nil, Cons, Terms, None, More, Pairs, Empty, Pair}
use Rattle.ej_term.specs.WellFormed.{everywhere}

abbrev mutual
  -- where so many brackets are open already, at most 256 of `{`, `[` and `#{` are open at any place of a term's print
  pub is_shallow : (opened : ℕ) → Term → Bool
  is_shallow opened (Fun true owner name arity environment) = nat_lt opened 256 && are_shallow (suc opened) environment
  is_shallow opened (Tuple parts) = nat_lt opened 256 && are_shallow (suc opened) parts
  is_shallow opened (Map pairs) = nat_lt opened 256 && are_shallow_pairs (suc opened) pairs
  is_shallow opened Nil = nat_lt opened 256
  is_shallow opened (Cons head tail) = nat_lt opened 256 && (is_shallow (suc opened) head && is_shallow_tail (suc opened) tail)
  is_shallow opened _ = true

  pub are_shallow : (opened : ℕ) → Terms → Bool
  are_shallow opened None = true
  are_shallow opened (More first rest) = is_shallow opened first && are_shallow opened rest

  pub are_shallow_pairs : (opened : ℕ) → Pairs → Bool
  are_shallow_pairs opened Empty = true
  are_shallow_pairs opened (Pair key value rest) = is_shallow opened key && (is_shallow opened value && are_shallow_pairs opened rest)

  -- of what stands behind an element of a list, in that list's bracket
  pub is_shallow_tail : (opened : ℕ) → Term → Bool
  is_shallow_tail opened (Fun true owner name arity environment) = nat_lt opened 256 && are_shallow (suc opened) environment
  is_shallow_tail opened (Tuple parts) = nat_lt opened 256 && are_shallow (suc opened) parts
  is_shallow_tail opened (Map pairs) = nat_lt opened 256 && are_shallow_pairs (suc opened) pairs
  is_shallow_tail opened (Cons head tail) = is_shallow opened head && is_shallow_tail opened tail
  is_shallow_tail opened _ = true

-- a name of 255 characters at most
abbrev pub is_short : List ℕ → Bool
is_short name = nat_le (length name) 255

-- no local fun, short names, and numbers up to 2^62
abbrev pub is_sayable : Term → Bool
is_sayable (Atom name) = is_short name
is_sayable (Reference node number) = nat_le number (2 ^ 62)
is_sayable (Fun local owner name arity environment) = not local && (is_short owner && is_short name)
is_sayable (Pid node number) = nat_le number (2 ^ 62)
is_sayable _ = true

-- a term whose print is read
abbrev pub is_readable : Term → Bool
is_readable term = is_shallow 0 term && everywhere is_sayable term
