-- A pool as the list of its entries by index (JVMS SE 7, 4.4), and what is asked of it.
use Rattle.std.specs.Prelude.{◌≡◌, ℕ, ◌+◌, ◌<◌, ◌≤◌, Bool, true, false, if◌then◌else◌, List, [], ◌∷◌, ◌++◌, length, Option, None, Some, Result, Ok, Err}
use Rattle.jvm_code.specs.declared.class.Constant.{Constant}
use Rattle.jvm_code.specs.declared.class.Constant.TheVariants.{Gap, Long}
use Rattle.jvm_code.specs.ConstantKey.{same_constant}
use Rattle.constant_pool.specs.declared.pool.PoolFault.{PoolFault}
use Rattle.constant_pool.specs.declared.pool.PoolFault.TheVariants.{PoolFull, NoMemory}

-- what stands at an entry's indices: itself, and a gap behind a Long (4.4.5)
abbrev pub indices : Constant → List Constant
indices (Long value) = Long value ∷ Gap ∷ []
indices entry = entry ∷ []

-- the first index of an entry that equals this one, in entries from that index on
abbrev pub place_from : (at : ℕ) → Constant → List Constant → Option ℕ
place_from at entry [] = None
place_from at entry (e ∷ es) = if same_constant entry e then Some at else place_from (at + 1) entry es

abbrev pub place_of : Constant → List Constant → Option ℕ
place_of entry pool = place_from 0 entry pool

-- its index where it has one, and else the next, at which it is added; no index is above 65,534
abbrev pub IndexedAt : Option ℕ → List Constant → Constant → ℕ → List Constant → Type 0
IndexedAt (Some place) old entry index new = (index ≡ place) × (new ≡ old)
IndexedAt None old entry index new = (index ≡ length old) × (new ≡ old ++ indices entry) × (length old + length (indices entry) ≤ 65535)

-- what `index_of` owes
abbrev pub Indexes : List Constant → Constant → Result ℕ PoolFault → List Constant → Type 0
Indexes old entry (Ok index) new = IndexedAt (place_of entry old) old entry index new
Indexes old entry (Err PoolFull) new = (place_of entry old ≡ None) × (65535 < length old + length (indices entry)) × (new ≡ old)
Indexes old entry (Err NoMemory) new = new ≡ old

-- ---- how the pool is kept: entries with their indices

abbrev pub listed : List (Constant × ℕ) → List Constant
listed [] = []
listed (p ∷ ps) = indices p.0 ++ listed ps

abbrev pub pool_of : List (Constant × ℕ) → List Constant
pool_of places = Gap ∷ listed places

abbrev pub is_gap : Constant → Bool
is_gap Gap = true
is_gap _ = false

-- entries of which none is a gap, each with its index, from that one on
abbrev pub AreNumbered : ℕ → List (Constant × ℕ) → Type 0
AreNumbered at [] = Unit {0}
AreNumbered at (p ∷ ps) = (p.1 ≡ at) × (is_gap p.0 ≡ false) × AreNumbered (at + length (indices p.0)) ps

pub record IsPool (places : List (Constant × ℕ)) (next : ℕ) : Type 0 where
  pub numbered : AreNumbered 1 places
  pub next_is : next ≡ length (pool_of places)

-- the index behind an entry at that one, where no index is above 65,534
abbrev pub Behind : ℕ → Constant → Result ℕ PoolFault → Type 0
Behind index entry (Ok next) = next ≡ index + length (indices entry)
Behind index entry (Err PoolFull) = 65535 < index + length (indices entry)
Behind index entry (Err NoMemory) = ⊥
