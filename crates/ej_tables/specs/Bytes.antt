-- A cursor over bytes, and the big-endian numbers that it takes.
use Rattle.std.specs.Prelude.{◌≡◌, ℕ, ◌+◌, ◌<◌, ◌≤◌, List, length, take, drop, slice_index, Option, None, Some}
use Rattle.byteorder.specs.Endian.{big_number, big_bytes}

-- each number is below 256
abbrev pub AreBytes : List ℕ → Type 0
AreBytes xs = (k : ℕ) → slice_index xs k < 256

-- bytes, and how many of them are taken already
pub record Unread : Type 0 where
  pub bytes : List ℕ
  pub place : ℕ

-- the bytes that are not taken yet
abbrev pub rest : Unread → List ℕ
rest cursor = drop cursor.place cursor.bytes

-- that many bytes were there, and the place moved behind them
pub record Moved (count : ℕ) (old new : Unread) : Type 0 where
  pub enough : old.place + count ≤ length old.bytes
  pub moved : new ≡ record { bytes = old.bytes; place = old.place + count }

-- fewer than that many bytes are left, and nothing changed
pub record Stayed (count : ℕ) (old new : Unread) : Type 0 where
  pub short : length old.bytes < old.place + count
  pub stayed : new ≡ old

-- the next bytes, or none where fewer are left
abbrev pub TakesBytes : {A : Type 0} → (A → List ℕ) → ℕ → Unread → Option A → Unread → Type 0
TakesBytes seen count old None new = Stayed count old new
TakesBytes seen count old (Some piece) new = Moved count old new × (seen piece ≡ take count (rest old))

-- the number of the next bytes, which are exactly its bytes; or none where fewer are left
abbrev pub Takes : ℕ → Unread → Option ℕ → Unread → Type 0
Takes count old None new = Stayed count old new
Takes count old (Some x) new = Moved count old new × (x ≡ big_number count (rest old)) × (big_bytes count x ≡ take count (rest old))
