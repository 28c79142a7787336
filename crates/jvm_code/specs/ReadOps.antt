-- Reading instructions (JVMS SE 7, 6.5).
use Rattle.std.specs.Prelude.{ℕ, zero, suc, ◌+◌, ◌-◌, ◌^◌, ℤ, pos, ◌-ℤ◌, nat_abs, Bool, true, false, nat_eq, nat_lt, nat_le, int_lt, int_le, ◌&&◌, if◌then◌else◌, List, [], ◌∷◌, length, take, drop, slice_get, Option, None, Some, Result, Ok, Err}
use Rattle.jvm_code.specs.declared.class.Constant.{Constant}
use Rattle.jvm_code.specs.declared.class.Constant.TheVariants as c
use Rattle.jvm_code.specs.declared.class.Op.{Op}
use Rattle.jvm_code.specs.declared.class.Op.TheVariants as o
use Rattle.jvm_code.specs.declared.class.Width.TheVariants as w
use Rattle.jvm_code.specs.Fault.{Fault, NotClass}
use Rattle.jvm_code.specs.Padding.{pad}
use Rattle.jvm_code.specs.Reader.{Got, Reader, done, outside, then_read, read_as, fault_at, u1, u2, u4, s1, s2, s4, Verdict, Fine, Broken, Forbidden, field, broken_unless, times, padding}

-- what `ldc` and `ldc_w` load: an Integer or a String; a Class is outside the profile
abbrev pub loadable : Option Constant → Verdict
loadable (Some (c.Integer _)) = Fine
loadable (Some (c.Str _)) = Fine
loadable (Some (c.Class _)) = Forbidden
loadable _ = Broken

-- what `ldc2_w` loads
abbrev pub loadable_wide : Option Constant → Verdict
loadable_wide (Some (c.Long _)) = Fine
loadable_wide _ = Broken

-- what `invokestatic` calls
abbrev pub callable : Option Constant → Verdict
callable (Some (c.Methodref _ _)) = Fine
callable _ = Broken

abbrev pub ldc : List Constant → Reader Op
ldc pool = read_as o.Ldc (field u1 (λ i. loadable (slice_get pool i)))

abbrev pub ldc_w : List Constant → Reader Op
ldc_w pool = read_as o.LdcW (field u2 (λ i. loadable (slice_get pool i)))

abbrev pub ldc2_w : List Constant → Reader Op
ldc2_w pool = read_as o.Ldc2W (field u2 (λ i. loadable_wide (slice_get pool i)))

abbrev pub invoke : List Constant → Reader Op
invoke pool = read_as o.Invoke (field u2 (λ i. callable (slice_get pool i)))

-- a null, an integer, or an entry of the pool is pushed
abbrev pub constant : List Constant → ℕ → Reader Op
constant pool opcode =
    if nat_eq opcode 1 then done o.Null
    else if nat_le 2 opcode && nat_le opcode 8 then done (o.IConst (pos opcode -ℤ pos 3))
    else if nat_eq opcode 16 then read_as o.Bipush s1
    else if nat_eq opcode 17 then read_as o.Sipush s2
    else if nat_eq opcode 18 then ldc pool
    else if nat_eq opcode 19 then ldc_w pool
    else if nat_eq opcode 20 then ldc2_w pool
    else outside

-- a local is loaded
abbrev pub load : ℕ → Reader Op
load opcode =
    if nat_eq opcode 21 then read_as (o.ILoad w.Byte) u1
    else if nat_eq opcode 25 then read_as (o.ALoad w.Byte) u1
    else if nat_le 26 opcode && nat_le opcode 29 then done (o.ILoad w.Short (opcode - 26))
    else if nat_le 42 opcode && nat_le opcode 45 then done (o.ALoad w.Short (opcode - 42))
    else outside

-- a local is stored
abbrev pub store : ℕ → Reader Op
store opcode =
    if nat_eq opcode 54 then read_as (o.IStore w.Byte) u1
    else if nat_eq opcode 58 then read_as (o.AStore w.Byte) u1
    else if nat_le 59 opcode && nat_le opcode 62 then done (o.IStore w.Short (opcode - 59))
    else if nat_le 75 opcode && nat_le opcode 78 then done (o.AStore w.Short (opcode - 75))
    else outside

-- the stack alone is used
abbrev pub simple : ℕ → Reader Op
simple opcode =
    if nat_eq opcode 87 then done o.Pop
    else if nat_eq opcode 89 then done o.Dup
    else if nat_eq opcode 95 then done o.Swap
    else if nat_eq opcode 96 then done o.IAdd
    else if nat_eq opcode 100 then done o.ISub
    else outside

-- a branch on what stands on the stack
abbrev pub branch : ℕ → Reader Op
branch opcode =
    if nat_le 153 opcode && nat_le opcode 158 then read_as (o.If opcode) s2
    else if nat_le 159 opcode && nat_le opcode 164 then read_as (o.IfIcmp opcode) s2
    else if nat_le 165 opcode && nat_le opcode 166 then read_as (o.IfAcmp opcode) s2
    else if nat_eq opcode 167 then read_as o.Goto s2
    else outside

-- the padding of a switch, whose opcode was read, from its offset in the code
abbrev pub padded : Reader (Unit {0})
padded pc bs = padding (pad pc) pc bs

-- the values from the low one to the high one, each with an offset
abbrev pub offsets : (low high : ℤ) → Reader (List ℤ)
offsets low high = times (nat_abs (high -ℤ low) + 1) s4

abbrev pub table_switch : Reader Op
table_switch =
    then_read padded (λ _.
    then_read s4 (λ default.
    then_read s4 (λ low.
    then_read (field s4 (λ high. broken_unless (int_le low high))) (λ high.
    read_as (o.TableSwitch default low) (offsets low high)))))

abbrev pub pair : Reader (ℤ × ℤ)
pair = then_read s4 (λ value. read_as (λ offset. (value, offset)) s4)

-- the value is above the one before, if there is one
abbrev pub is_above : Option ℤ → ℤ → Bool
is_above None value = true
is_above (Some before) value = int_lt before value

abbrev pub rise_above : Option ℤ → List (ℤ × ℤ) → Bool
rise_above before [] = true
rise_above before (p ∷ pairs) = is_above before p.0 && rise_above (Some p.0) pairs

-- each value is above the one before
abbrev pub rises : List (ℤ × ℤ) → Bool
rises pairs = rise_above None pairs

-- a signed count, which is not negative
abbrev pub pair_count : Reader ℕ
pair_count = field u4 (λ n. broken_unless (nat_lt n (2 ^ 31)))

abbrev pub lookup_switch : Reader Op
lookup_switch =
    then_read padded (λ _.
    then_read s4 (λ default.
    then_read pair_count (λ n.
    read_as (o.LookupSwitch default) (field (times n pair) (λ pairs. broken_unless (rises pairs))))))

-- an instruction on a local of two bytes, by the opcode behind `wide`
abbrev pub widened : ℕ → Reader Op
widened opcode =
    if nat_eq opcode 21 then read_as (o.ILoad w.Wide) u2
    else if nat_eq opcode 25 then read_as (o.ALoad w.Wide) u2
    else if nat_eq opcode 54 then read_as (o.IStore w.Wide) u2
    else if nat_eq opcode 58 then read_as (o.AStore w.Wide) u2
    else outside

abbrev pub wide : Reader Op
wide = then_read u1 widened

abbrev pub control : List Constant → ℕ → Reader Op
control pool opcode =
    if nat_eq opcode 170 then table_switch
    else if nat_eq opcode 171 then lookup_switch
    else if nat_eq opcode 172 then done o.IReturn
    else if nat_eq opcode 184 then invoke pool
    else if nat_eq opcode 196 then wide
    else if nat_eq opcode 198 then read_as (o.IfNull true) s2
    else if nat_eq opcode 199 then read_as (o.IfNull false) s2
    else outside

-- what stands behind an opcode
abbrev pub behind : List Constant → ℕ → Reader Op
behind pool opcode =
    if nat_lt opcode 21 then constant pool opcode
    else if nat_lt opcode 54 then load opcode
    else if nat_lt opcode 87 then store opcode
    else if nat_lt opcode 153 then simple opcode
    else if nat_lt opcode 170 then branch opcode
    else control pool opcode

-- an instruction, from its offset in the code
abbrev pub op : List Constant → Reader Op
op pool = then_read u1 (behind pool)

abbrev pub onto : ℕ × Op → Result (List (ℕ × Op)) Fault → Result (List (ℕ × Op)) Fault
onto p (Ok code) = Ok (p ∷ code)
onto p (Err e) = Err e

abbrev pub and_more : (start pc : ℕ) → Got Op → (ℕ → List ℕ → Result (List (ℕ × Op)) Fault) → Result (List (ℕ × Op)) Fault
and_more start pc (Ok p) more = onto (pc, p.0) (more p.1 p.2)
and_more start pc (Err e) more = Err (fault_at (start + pc) e)

-- the instructions of code that begins at the offset start; what is wrong in one is found at its opcode. Each takes a byte
-- at least, so fuel for each byte is enough
abbrev pub ops : (fuel : ℕ) → List Constant → (start pc : ℕ) → List ℕ → Result (List (ℕ × Op)) Fault
ops fuel pool start pc [] = Ok []
ops zero pool start pc (b ∷ bs) = Err (NotClass (start + pc))
ops (suc fuel) pool start pc (b ∷ bs) = and_more start pc (op pool pc (b ∷ bs)) (ops fuel pool start)

-- code whose bytes end is wrong where an instruction should begin
abbrev pub closed : (n at : ℕ) → List ℕ → Result (List (ℕ × Op)) Fault → Got (List (ℕ × Op))
closed n at bs (Ok code) = if nat_le n (length bs) then Ok (code, at + n, drop n bs) else Err (NotClass (at + length bs))
closed n at bs (Err e) = Err e

-- the code of so many bytes (4.7.3)
abbrev pub code : List Constant → ℕ → Reader (List (ℕ × Op))
code pool n at bs = closed n at bs (ops (length (take n bs)) pool at 0 (take n bs))
