-- Reading the constant pool (JVMS SE 7, 4.4).
use Rattle.std.specs.Prelude.{ℕ, zero, suc, ◌+◌, Bool, true, false, nat_eq, not, ◌&&◌, if◌then◌else◌, List, [], ◌∷◌, length, slice_get, Option, None, Some, Ok, Err}
use Rattle.std.specs.List.{list_any}
use Rattle.jvm_code.specs.declared.class.Constant.{Constant}
use Rattle.jvm_code.specs.declared.class.Constant.TheVariants as c
use Rattle.jvm_code.specs.Fault.{NotClass}
use Rattle.jvm_code.specs.ModifiedUtf8.{is_modified_utf8}
use Rattle.jvm_code.specs.Reader.{Got, Reader, done, broken, outside, then_read, read_as, item, bytes, u1, u2, s4, s8, field, broken_unless}

-- the tags that there are but the profile does not have: Float, Double, Fieldref, InterfaceMethodref, MethodHandle,
-- MethodType and InvokeDynamic
abbrev pub is_other_tag : ℕ → Bool
is_other_tag tag = list_any (nat_eq tag) (4 ∷ 6 ∷ 9 ∷ 11 ∷ 15 ∷ 16 ∷ 18 ∷ [])

-- a text behind its tag: a length, and so many bytes of modified UTF-8
abbrev pub modified_text : Reader Constant
modified_text = then_read u2 (λ n. read_as c.Utf8 (field (bytes n) (λ bs. broken_unless (is_modified_utf8 bs))))

-- a Long takes two indices, of which the second is one of the pool
abbrev pub long : (left : ℕ) → Reader Constant
long zero = broken
long (suc n) = read_as c.Long s8

-- a method of a class
abbrev pub methodref : Reader Constant
methodref = then_read u2 (λ class. read_as (c.Methodref class) u2)

abbrev pub name_and_type : Reader Constant
name_and_type = then_read u2 (λ name. read_as (c.NameAndType name) u2)

-- a tag that the profile does not have, or that is none
abbrev pub other : (tag : ℕ) → Reader Constant
other tag = if is_other_tag tag then outside else broken

-- what stands behind a tag, where so many indices are left behind this one
abbrev pub constant : (left tag : ℕ) → Reader Constant
constant left tag =
    if nat_eq tag 1 then modified_text
    else if nat_eq tag 3 then read_as c.Integer s4
    else if nat_eq tag 5 then long left
    else if nat_eq tag 7 then read_as c.Class u2
    else if nat_eq tag 8 then read_as c.Str u2
    else if nat_eq tag 10 then methodref
    else if nat_eq tag 12 then name_and_type
    else other tag

-- an entry; what is wrong in it is found at its tag
abbrev pub entry : (left : ℕ) → Reader Constant
entry left = item (then_read u1 (constant left))

abbrev pub is_long : Constant → Bool
is_long (c.Long _) = true
is_long _ = false

-- what stands at an index: a gap where one is due
abbrev pub next_entry : (due : Bool) → (left : ℕ) → Reader Constant
next_entry true left = done c.Gap
next_entry false left = entry left

-- what stands at so many indices; a gap is due behind a Long
abbrev pub entries : (due : Bool) → ℕ → Reader (List Constant)
entries due zero = done []
entries due (suc n) = then_read (next_entry due n) (λ e. read_as (λ es. e ∷ es) (entries (is_long e) n))

-- how many bytes an entry takes
abbrev pub entry_size : Constant → ℕ
entry_size c.Gap = 0
entry_size (c.Utf8 content) = 3 + length content
entry_size (c.Integer _) = 5
entry_size (c.Long _) = 9
entry_size (c.Class _) = 3
entry_size (c.Str _) = 3
entry_size (c.Methodref _ _) = 5
entry_size (c.NameAndType _ _) = 5

-- the kinds of entries that others name
abbrev pub is_utf8 : Option Constant → Bool
is_utf8 (Some (c.Utf8 _)) = true
is_utf8 _ = false

abbrev pub is_class : Option Constant → Bool
is_class (Some (c.Class _)) = true
is_class _ = false

abbrev pub is_name_and_type : Option Constant → Bool
is_name_and_type (Some (c.NameAndType _ _)) = true
is_name_and_type _ = false

-- the indices in an entry are of entries of the right kinds
abbrev pub refers : List Constant → Constant → Bool
refers pool (c.Class name) = is_utf8 (slice_get pool name)
refers pool (c.Str text) = is_utf8 (slice_get pool text)
refers pool (c.Methodref class called) = is_class (slice_get pool class) && is_name_and_type (slice_get pool called)
refers pool (c.NameAndType name descriptor) = is_utf8 (slice_get pool name) && is_utf8 (slice_get pool descriptor)
refers pool _ = true

-- the offset of the first of these entries whose indices are not, from the offset of the first entry on
abbrev pub first_wrong : List Constant → (at : ℕ) → List Constant → Option ℕ
first_wrong pool at [] = None
first_wrong pool at (e ∷ es) = if refers pool e then first_wrong pool (at + entry_size e) es else Some at

abbrev pub unless_wrong : Option ℕ → List Constant × ℕ × List ℕ → Got (List Constant)
unless_wrong None p = Ok p
unless_wrong (Some at) p = Err (NotClass at)

abbrev pub referred : ℕ → Got (List Constant) → Got (List Constant)
referred at (Ok p) = unless_wrong (first_wrong p.0 at p.0) p
referred at (Err e) = Err e

-- a pool of so many indices, of which the first is a gap; its references are looked at behind all its entries
abbrev pub indexed : ℕ → Reader (List Constant)
indexed n at bs = referred at (entries true n at bs)

-- the count of indices, and the pool
abbrev pub constant_pool : Reader (List Constant)
constant_pool = then_read (field u2 (λ n. broken_unless (not (nat_eq n 0)))) indexed
