-- Erlang terms (Erlang Reference Manual, "Data Types"), without floats, bit strings and ports.
use Rattle.std.specs.Prelude.{ℕ, ℤ, pos, negsuc, ◌^◌, Bool, nat_lt, List, [], ◌∷◌}

mutual
  pub data Term : Type 0 where
    Int : (n : ℤ) → Term
    Atom : (name : List ℕ) → Term
    Reference : (node number : ℕ) → Term
    -- local or external, with the module's name, the function's, its arity, and the values of its free variables
    Fun : (local : Bool) (owner name : List ℕ) (arity : ℕ) (environment : Terms) → Term
    Pid : (node number : ℕ) → Term
    Tuple : (parts : Terms) → Term
    -- by rising keys, each once
    Map : (pairs : Pairs) → Term
    Nil : Term
    Cons : (head tail : Term) → Term

  pub data Terms : Type 0 where
    None : Terms
    More : (first : Term) (rest : Terms) → Terms

  -- keys with their values
  pub data Pairs : Type 0 where
    Empty : Pairs
    Pair : (key value : Term) (rest : Pairs) → Pairs

abbrev pub terms : List Term → Terms
terms [] = None
terms (t ∷ ts) = More t (terms ts)

abbrev pub tuple : List Term → Term
tuple parts = Tuple (terms parts)

-- the proper list of these terms
abbrev pub list : List Term → Term
list [] = Nil
list (t ∷ ts) = Cons t (list ts)

abbrev pub atom : List ℕ → Term
atom name = Atom name

-- an integer has 64 bits with its sign
abbrev pub has_64_bits : ℤ → Bool
has_64_bits (pos n) = nat_lt n (2 ^ 63)
has_64_bits (negsuc n) = nat_lt n (2 ^ 63)
