-- The place of a term among others that rise.
use Rattle.std.specs.Prelude.{◌≡◌, ℕ, ◌<◌, ◌≤◌, List, length, get_or, Result, Ok, Err}
use Rattle.std.specs.declared.cmp.Ordering.{Ordering}
use Rattle.std.specs.declared.cmp.Ordering.TheVariants.{Less, Equal, Greater}
use Rattle.ej_term.specs.Term.{Term, Nil}
use Rattle.ej_term.specs.Order.{compare}

-- the term at a place
abbrev pub at : List Term → ℕ → Term
at terms place = get_or terms place Nil

-- each term goes before those behind it
abbrev pub Ascending : List Term → Type 0
Ascending terms = (i j : ℕ) → i < j → j < length terms → compare (at terms i) (at terms j) ≡ Less

-- the key goes in this order with each of the terms from one place up to another
abbrev pub Goes : Ordering → Term → List Term → ℕ → ℕ → Type 0
Goes order key terms first end = (i : ℕ) → first ≤ i → i < end → compare key (at terms i) ≡ order

-- the place of the key, or else the place before which it is to go, where all terms in front go before the key
pub record Found (key : Term) (terms : List Term) (place : ℕ) : Type 0 where
  pub within : place < length terms
  pub equal : compare key (at terms place) ≡ Equal
  pub before : Goes Greater key terms 0 place

pub record Missing (key : Term) (terms : List Term) (place : ℕ) : Type 0 where
  pub within : place ≤ length terms
  pub before : Goes Greater key terms 0 place
  pub behind : Goes Less key terms place (length terms)

abbrev pub IsPlace : Term → List Term → Result ℕ ℕ → Type 0
IsPlace key terms (Ok place) = Found key terms place
IsPlace key terms (Err place) = Missing key terms place
