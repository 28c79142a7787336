-- Reading frames: what stands at the front of bytes, with the bytes behind it. That what is read is what the bytes stand
-- for, by the definition of their forms, is a law.
use Rattle.std.specs.Prelude.{ℕ, zero, suc, ◌-◌, nat_eq, nat_le, nat_lt, if◌then◌else◌, List, [], ◌∷◌, ◌++◌, length, take, drop, slice_get, Option, None, Some}
use Rattle.std.specs.Option.{option_map, option_and_then}
use Rattle.byteorder.specs.Endian.{big_number}
use Rattle.jvm_code.specs.declared.class.Constant.{Constant}
use Rattle.jvm_code.specs.declared.types.Frame.{Frame}
use Rattle.jvm_code.specs.declared.types.VType.{VType}
use Rattle.jvm_code.specs.declared.types.VType.TheVariants as v
use Rattle.jvm_code.specs.Entries.{class_at}
use Rattle.jvm_code.specs.StackMaps as maps
use Rattle.stack_maps.specs.declared.frame.MapFrame.{MapFrame}
use Rattle.stack_maps.specs.Texts.{text_of}

abbrev pub Got : Type 0 → Type 0
Got A = Option (A × List ℕ)

abbrev pub Reader : Type 0 → Type 0
Reader A = List ℕ → Got A

abbrev pub done : {A : Type 0} → A → Reader A
done x bs = Some (x, bs)

abbrev pub bad : {A : Type 0} → Reader A
bad bs = None

abbrev pub go_on : {A B : Type 0} → Got A → (A → Reader B) → Got B
go_on None f = None
go_on (Some p) f = f p.0 p.1

abbrev pub then_read : {A B : Type 0} → Reader A → (A → Reader B) → Reader B
then_read r f bs = go_on (r bs) f

abbrev pub if_some : {A : Type 0} → Option A → Reader A
if_some None = bad
if_some (Some x) = done x

-- a number of so many bytes, the highest first
abbrev pub number : ℕ → Reader ℕ
number n bs = if nat_le n (length bs) then Some (big_number n bs, drop n bs) else None

abbrev pub u1 : Reader ℕ
u1 = number 1

abbrev pub u2 : Reader ℕ
u2 = number 2

abbrev pub times : {A : Type 0} → ℕ → Reader A → Reader (List A)
times zero r = done []
times (suc n) r = then_read r (λ x. then_read (times n r) (λ xs. done (x ∷ xs)))

-- the type of the class at an index
abbrev pub class_type : List Constant → ℕ → Option VType
class_type pool index = option_map v.Class (option_and_then text_of (class_at pool index))

abbrev pub object : List Constant → Reader VType
object pool = then_read u2 (λ index. if_some (class_type pool index))

abbrev pub tagged : List Constant → ℕ → Reader VType
tagged pool tag =
    if nat_eq tag 0 then done v.Top
    else if nat_eq tag 1 then done v.Integer
    else if nat_eq tag 4 then done v.Long
    else if nat_eq tag 5 then done v.Null
    else if nat_eq tag 7 then object pool
    else bad

abbrev pub vtype : List Constant → Reader VType
vtype pool = then_read u1 (tagged pool)

abbrev pub vtypes : List Constant → ℕ → Reader (List VType)
vtypes pool count = times count (vtype pool)

-- a count of types, and the types
abbrev pub counted : List Constant → Reader (List VType)
counted pool = then_read u2 (vtypes pool)

-- a delta, and the frame there
abbrev pub same : List VType → ℕ → Reader (ℕ × Frame)
same locals delta = done (delta, record { locals = locals; stack = [] })

abbrev pub one : List Constant → List VType → ℕ → Reader (ℕ × Frame)
one pool locals delta = then_read (vtypes pool 1) (λ stack. done (delta, record { locals = locals; stack = stack }))

abbrev pub chop : List VType → ℕ → ℕ → Reader (ℕ × Frame)
chop locals count delta = if nat_le count (length locals) then done (delta, record { locals = take (length locals - count) locals; stack = [] }) else bad

abbrev pub append : List Constant → List VType → ℕ → ℕ → Reader (ℕ × Frame)
append pool locals count delta = then_read (vtypes pool count) (λ more. done (delta, record { locals = locals ++ more; stack = [] }))

abbrev pub full : List Constant → ℕ → Reader (ℕ × Frame)
full pool delta = then_read (counted pool) (λ locals. then_read (counted pool) (λ stack. done (delta, record { locals = locals; stack = stack })))

-- what stands behind a tag from 247 on and its delta
abbrev pub wide : List Constant → List VType → ℕ → ℕ → Reader (ℕ × Frame)
wide pool locals tag delta =
    if nat_eq tag 247 then one pool locals delta
    else if nat_lt tag 251 then chop locals (251 - tag) delta
    else if nat_eq tag 251 then same locals delta
    else if nat_lt tag 255 then append pool locals (tag - 251) delta
    else full pool delta

-- what stands behind a tag
abbrev pub form : List Constant → List VType → ℕ → Reader (ℕ × Frame)
form pool locals tag =
    if nat_lt tag 64 then same locals tag
    else if nat_lt tag 128 then one pool locals (tag - 64)
    else if nat_lt tag 247 then bad
    else then_read u2 (wide pool locals tag)

abbrev pub seen : MapFrame → ℕ × Frame
seen frame = (frame.offset, frame.frame)

abbrev pub locals_before : Option MapFrame → List VType
locals_before before = (maps.frame_before (option_map seen before)).locals

-- the frame at its offset, if it has 16 bits
abbrev pub at_offset : ℕ → Frame → Option MapFrame
at_offset offset frame = if nat_le offset 65535 then Some (record { offset = offset; frame = frame }) else None

abbrev pub placed : Option MapFrame → ℕ × Frame → Reader MapFrame
placed before p = if_some (at_offset (maps.offset_after (option_map seen before) p.0) p.1)

-- a tag, and what stands behind it
abbrev pub shape : List Constant → List VType → Reader (ℕ × Frame)
shape pool locals = then_read u1 (form pool locals)

-- a frame behind another, if there is one
abbrev pub map_frame : List Constant → Option MapFrame → Reader MapFrame
map_frame pool before = then_read (shape pool (locals_before before)) (placed before)

abbrev pub map_frames : List Constant → ℕ → Option MapFrame → Reader (List MapFrame)
map_frames pool zero before = done []
map_frames pool (suc n) before = then_read (map_frame pool before) (λ p. then_read (map_frames pool n (Some p)) (λ ps. done (p ∷ ps)))

abbrev pub last : List MapFrame → Option MapFrame
last frames = slice_get frames (length frames - 1)

-- all of the bytes
abbrev pub whole : {A : Type 0} → Got A → Option A
whole None = None
whole (Some (x, [])) = Some x
whole (Some (x, (b ∷ bs))) = None

-- the frames of the bytes
abbrev pub frames : List Constant → List ℕ → Option (List MapFrame)
frames pool bytes = whole (then_read u2 (λ count. map_frames pool count None) bytes)
