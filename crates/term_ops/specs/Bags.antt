-- Terms with how many times each stands in a list.
use Rattle.std.specs.Prelude.{◌≡◌, ℕ, suc, ◌-◌, ◌<◌, ◌≤◌, Bool, true, false, if◌then◌else◌, nat_eq, List, [], ◌∷◌, length, get_or}
use Rattle.ej_term.specs.Term.{Term, Nil}
use Rattle.ej_term.specs.Tests.{equal}

-- how many of these terms are equal to one
abbrev pub how_many : List Term → Term → ℕ
how_many [] term = 0
how_many (first ∷ rest) term = if equal first term then suc (how_many rest term) else how_many rest term

-- how many of a term there are, by the terms and the count of each
abbrev pub held : List Term → List ℕ → Term → ℕ
held (key ∷ keys) (count ∷ counts) term = if equal key term then count else held keys counts term
held _ _ term = 0

-- one more of a term
abbrev pub more : (Term → ℕ) → Term → Term → ℕ
more bag taken term = if equal taken term then suc (bag term) else bag term

-- one less of a term
abbrev pub less : (Term → ℕ) → Term → Term → ℕ
less bag taken term = if equal taken term then bag term - 1 else bag term

-- the terms from first to last, without those that can be taken out of a bag
abbrev pub sifted : List Term → (Term → ℕ) → List Term
sifted [] bag = []
sifted (first ∷ rest) bag = if nat_eq (bag first) 0 then first ∷ sifted rest bag else sifted rest (less bag first)

-- a term was taken out of a bag, or there was none of it
abbrev pub Taken : (old new : Term → ℕ) → Term → Bool → Type 0
Taken old new taken true = (nat_eq (old taken) 0 ≡ false) × ((term : Term) → new term ≡ less old taken term)
Taken old new taken false = (nat_eq (old taken) 0 ≡ true) × ((term : Term) → new term ≡ old term)

-- the term stands among these
pub record Among (term : Term) (terms : List Term) : Type 0 where
  pub place : ℕ
  pub within : place < length terms
  pub is : get_or terms place Nil ≡ term

-- each count is at most this
abbrev pub UpTo : ℕ → List ℕ → Type 0
UpTo most counts = (place : ℕ) → get_or counts place 0 ≤ most
