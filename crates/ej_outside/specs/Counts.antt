-- How a count of faults, misses or longs may go over one call. Counts are 64 bits wide, and one that has
-- reached its end stays there.
use Rattle.std.specs.Prelude.{◌≡◌, ℕ, ◌+◌, ◌-◌, ◌^◌, ◌<◌, ◌≤◌, ◌⊎◌, ◌==◌, if◌then◌else◌}

-- the count is as it was
abbrev pub Same : ℕ → ℕ → Type 0
Same old new = new ≡ old

-- the count did not fall, and it rose or stands at its end
abbrev pub Rises : ℕ → ℕ → Type 0
Rises old new = (old ≤ new) × ((old < new) ⊎ (new ≡ 2 ^ 64 - 1))

-- one more than the count, or the count at its end
abbrev pub raised : ℕ → ℕ
raised n = (if n == 2 ^ 64 - 1 then n else n + 1)
