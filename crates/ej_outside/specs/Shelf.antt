-- A shelf of named files: what it stands for, and what each call on one answers and leaves.
use Rattle.std.specs.Prelude.{◌≡◌, ℕ, ◌<◌, ◌≤◌, ◌⊎◌, List, length, take, Option, None, Some, IsSomeAnd, IfSome, option_map, Result, Ok, Err}
use Rattle.std.specs.Ordering.{nat_cmp}
use Rattle.std.specs.Cmp.Lexicographic.{slice_cmp}
use Rattle.std.specs.FinMap as files
use Rattle.ej_outside.specs.declared.shelf.Got.{Got}
use Rattle.ej_outside.specs.declared.shelf.Got.TheVariants.{Bytes, Absent, Longer}
use Rattle.ej_outside.specs.declared.shelf.ShelfFault.{ShelfFault}
use Rattle.ej_outside.specs.declared.shelf.ShelfFault.TheVariants.{Failed, NoMemory}
use Rattle.ej_outside.specs.declared.fault.Failed as failed
use Rattle.ej_outside.specs.Counts.{Same, Rises}

-- the bytes of each file that is there, by the bytes of its name
abbrev pub Files : Type 0
Files = files.FinMap (slice_cmp nat_cmp) (List ℕ)

-- a shelf: what it holds, where it tells that, and how often each answer other than its good one has come
pub record ShelfState : Type 0 where
  pub held : Option Files
  pub read_faults : ℕ
  pub put_faults : ℕ
  pub misses : ℕ
  pub longs : ℕ

-- a read: the contents stay, those that are told are as said, and each count goes as said
pub record GetsWith (old new : ShelfState) (Told : Files → Type 0) (Reads Misses Longs : ℕ → ℕ → Type 0) : Type 0 where
  pub contents : new.held ≡ old.held
  pub told : IfSome old.held Told
  pub read_faults : Reads old.read_faults new.read_faults
  pub put_faults : Same old.put_faults new.put_faults
  pub misses : Misses old.misses new.misses
  pub longs : Longs old.longs new.longs

-- `get` of a name, of which at most so many bytes are wanted
abbrev pub Gets : ShelfState → List ℕ → ℕ → Result Got ShelfFault → ShelfState → Type 0
Gets old name limit (Ok (Bytes v)) new = GetsWith old new (λ held. (files.get held name ≡ Some v.items) × (length v.items ≤ limit)) Same Same Same
Gets old name limit (Ok Absent) new = GetsWith old new (λ held. files.get held name ≡ None) Same Rises Same
Gets old name limit (Ok Longer) new = GetsWith old new (λ held. IsSomeAnd (files.get held name) (λ bytes. limit < length bytes)) Same Same Rises
Gets old name limit (Err Failed) new = GetsWith old new (λ held. Unit {0}) Rises Same Same
Gets old name limit (Err NoMemory) new = GetsWith old new (λ held. Unit {0}) Same Same Same

-- what is told of the contents is that these bytes stand under the name, and else it is as it was
abbrev pub Replaces : Option Files → List ℕ → List ℕ → Option Files → Type 0
Replaces old name bytes new = new ≡ option_map (λ held. files.insert held name bytes) old

-- the contents are as they were, or have a front of the bytes under the name
abbrev pub MayReplace : Option Files → List ℕ → List ℕ → Option Files → Type 0
MayReplace old name bytes new = (new ≡ old) ⊎ ((n : ℕ) × (n ≤ length bytes) × Replaces old name (take n bytes) new)

-- a write: each count but that of the put faults stays
pub record PutsWith (old new : ShelfState) (Held : Option Files → Option Files → Type 0) (Puts : ℕ → ℕ → Type 0) : Type 0 where
  pub contents : Held old.held new.held
  pub read_faults : Same old.read_faults new.read_faults
  pub put_faults : Puts old.put_faults new.put_faults
  pub misses : Same old.misses new.misses
  pub longs : Same old.longs new.longs

-- `put` of the bytes under a name
abbrev pub Puts : ShelfState → List ℕ → List ℕ → Result (Unit {0}) failed.Failed → ShelfState → Type 0
Puts old name bytes (Ok done) new = PutsWith old new (λ was is. Replaces was name bytes is) Same
Puts old name bytes (Err fault) new = PutsWith old new (λ was is. MayReplace was name bytes is) Rises
