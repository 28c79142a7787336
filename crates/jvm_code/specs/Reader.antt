-- Readers of bytes: each gives what it read with the offset and the bytes behind it, or the first fault with its offset.
use Rattle.std.specs.Prelude.{ℕ, zero, suc, ◌+◌, nat_eq, nat_le, Bool, true, false, if◌then◌else◌, ℤ, List, [], ◌∷◌, length, take, drop, Result, Ok, Err}
use Rattle.std.specs.Int.{cast_signed, w8, w16, w32, w64}
use Rattle.byteorder.specs.Endian.{big_number}
use Rattle.jvm_code.specs.Fault.{Fault, NotClass, OutsideProfile}

abbrev pub Got : Type 0 → Type 0
Got A = Result (A × ℕ × List ℕ) Fault

-- from an offset, and the bytes that stand there
abbrev pub Reader : Type 0 → Type 0
Reader A = ℕ → List ℕ → Got A

-- nothing is read
abbrev pub done : {A : Type 0} → A → Reader A
done x at bs = Ok (x, at, bs)

abbrev pub broken : {A : Type 0} → Reader A
broken at bs = Err (NotClass at)

abbrev pub outside : {A : Type 0} → Reader A
outside at bs = Err (OutsideProfile at)

abbrev pub go_on : {A B : Type 0} → Got A → (A → Reader B) → Got B
go_on (Ok p) f = f p.0 p.1 p.2
go_on (Err e) f = Err e

-- one after the other
abbrev pub then_read : {A B : Type 0} → Reader A → (A → Reader B) → Reader B
then_read r f at bs = go_on (r at bs) f

-- what is made of what is read
abbrev pub read_as : {A B : Type 0} → (A → B) → Reader A → Reader B
read_as make r = then_read r (λ x. done (make x))

-- the same fault, at another offset
abbrev pub fault_at : ℕ → Fault → Fault
fault_at at (NotClass _) = NotClass at
fault_at at (OutsideProfile _) = OutsideProfile at

abbrev pub got_at : {A : Type 0} → ℕ → Got A → Got A
got_at at (Ok p) = Ok p
got_at at (Err e) = Err (fault_at at e)

-- what is one to a reader of faults: each is found at its first byte
abbrev pub item : {A : Type 0} → Reader A → Reader A
item r at bs = got_at at (r at bs)

-- so many bytes
abbrev pub bytes : ℕ → Reader (List ℕ)
bytes n at bs = if nat_le n (length bs) then Ok (take n bs, at + n, drop n bs) else Err (NotClass at)

-- a number of so many bytes, the highest first
abbrev pub number : ℕ → Reader ℕ
number n at bs = if nat_le n (length bs) then Ok (big_number n bs, at + n, drop n bs) else Err (NotClass at)

abbrev pub u1 : Reader ℕ
u1 = number 1

abbrev pub u2 : Reader ℕ
u2 = number 2

abbrev pub u4 : Reader ℕ
u4 = number 4

-- the same as signed numbers
abbrev pub s1 : Reader ℤ
s1 = read_as (cast_signed w8) (number 1)

abbrev pub s2 : Reader ℤ
s2 = read_as (cast_signed w16) (number 2)

abbrev pub s4 : Reader ℤ
s4 = read_as (cast_signed w32) (number 4)

abbrev pub s8 : Reader ℤ
s8 = read_as (cast_signed w64) (number 8)

-- what a value is in its field
pub data Verdict : Type 0 where
  Fine : Verdict
  Broken : Verdict
  Forbidden : Verdict

abbrev pub settled : {A : Type 0} → Verdict → ℕ → A × ℕ × List ℕ → Got A
settled Fine at p = Ok p
settled Broken at p = Err (NotClass at)
settled Forbidden at p = Err (OutsideProfile at)

abbrev pub judged : {A : Type 0} → (A → Verdict) → ℕ → Got A → Got A
judged judge at (Ok p) = settled (judge p.0) at p
judged judge at (Err e) = Err e

-- a field whose value may be wrong, which is found at its first byte
abbrev pub field : {A : Type 0} → Reader A → (A → Verdict) → Reader A
field r judge at bs = judged judge at (r at bs)

abbrev pub broken_unless : Bool → Verdict
broken_unless true = Fine
broken_unless false = Broken

abbrev pub forbidden_unless : Bool → Verdict
forbidden_unless true = Fine
forbidden_unless false = Forbidden

-- a number of four bytes, and then what takes that many; where it takes another number of bytes, the first is wrong
abbrev pub sized_as : {A : Type 0} → (at n from : ℕ) → Got A → Got A
sized_as at n from (Ok p) = if nat_eq p.1 (from + n) then Ok p else Err (NotClass at)
sized_as at n from (Err e) = Err e

abbrev pub sized : {A : Type 0} → Reader A → Reader A
sized r at bs = go_on (u4 at bs) (λ n from rest. sized_as at n from (r from rest))

-- so many of them
abbrev pub times : {A : Type 0} → ℕ → Reader A → Reader (List A)
times zero r = done []
times (suc n) r = then_read r (λ x. then_read (times n r) (λ xs. done (x ∷ xs)))

-- a zero: another byte is outside the profile
abbrev pub pad_byte : Reader ℕ
pad_byte = field u1 (λ b. forbidden_unless (nat_eq b 0))

abbrev pub padding : ℕ → Reader (Unit {0})
padding zero = done tt
padding (suc n) = then_read pad_byte (λ _. padding n)
