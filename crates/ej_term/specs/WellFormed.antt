-- Which terms there are: those of the profile, by the ranges of what they hold.
use Rattle.std.specs.Prelude.{◌^◌, Bool, true, false, ◌&&◌, ◌||◌, nat_le, nat_lt}
use Rattle.std.specs.Str.{all_scalars}
use Rattle.ej_term.specs.Term.{Term, Int, Atom, Reference, Fun, Pid, Tuple, Map, Nil, Cons, Terms, None, More, Pairs, Empty, Pair, has_64_bits}
use Rattle.ej_term.specs.Maps.{rises}

abbrev mutual
  -- a term and each term in it pass a test
  pub everywhere : (Term → Bool) → Term → Bool
  everywhere test (Int n) = test (Int n)
  everywhere test (Atom name) = test (Atom name)
  everywhere test (Reference node number) = test (Reference node number)
  everywhere test (Fun local owner name arity environment) = test (Fun local owner name arity environment) && in_each test environment
  everywhere test (Pid node number) = test (Pid node number)
  everywhere test (Tuple parts) = test (Tuple parts) && in_each test parts
  everywhere test (Map pairs) = test (Map pairs) && in_each_pair test pairs
  everywhere test Nil = test Nil
  everywhere test (Cons head tail) = test (Cons head tail) && (everywhere test head && everywhere test tail)

  pub in_each : (Term → Bool) → Terms → Bool
  in_each test None = true
  in_each test (More first rest) = everywhere test first && in_each test rest

  pub in_each_pair : (Term → Bool) → Pairs → Bool
  in_each_pair test Empty = true
  in_each_pair test (Pair key value rest) = everywhere test key && (everywhere test value && in_each_pair test rest)

abbrev pub is_empty : Terms → Bool
is_empty None = true
is_empty (More first rest) = false

-- what each term's own numbers, characters and parts are: integers of 64 bits, characters that are Unicode scalar
-- values, nodes of 32 bits, arities of 8 bits, keys that rise, and no free variables of an external fun
abbrev pub is_in_range : Term → Bool
is_in_range (Int n) = has_64_bits n
is_in_range (Atom name) = all_scalars name
is_in_range (Reference node number) = nat_lt node (2 ^ 32)
is_in_range (Fun local owner name arity environment) = all_scalars owner && (all_scalars name && (nat_le arity 255 && (local || is_empty environment)))
is_in_range (Pid node number) = nat_lt node (2 ^ 32)
is_in_range (Map pairs) = rises pairs
is_in_range _ = true

-- a term of the profile
abbrev pub is_well_formed : Term → Bool
is_well_formed = everywhere is_in_range
