-- A place in the bytes of a class: its offset, and the bytes from there on.
use Rattle.std.specs.Prelude.{ℕ, List}

pub record Place : Type 0 where
  pub at : ℕ
  pub rest : List ℕ
