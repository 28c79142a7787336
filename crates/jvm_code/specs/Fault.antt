-- What is wrong with the bytes of a class, and at which byte.
use Rattle.std.specs.Prelude.{ℕ}

pub data Fault : Type 0 where
  -- the bytes end there, or the format is broken
  NotClass : (offset : ℕ) → Fault
  -- the profile forbids what stands there
  OutsideProfile : (offset : ℕ) → Fault
