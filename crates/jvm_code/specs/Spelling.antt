-- How a class is spelled: its bytes, field by field (JVMS SE 7, 4.1 to 4.7 and 6.5).
use Rattle.std.specs.Prelude.{ℕ, ℤ, pos, ◌+◌, ◌+ℤ◌, ◌-ℤ◌, true, false, List, [], ◌∷◌, ◌++◌, length, replicate, Option, None, Some}
use Rattle.std.specs.Int.{cast_unsigned, w8, w16, w32, w64}
use Rattle.std.specs.List.{flat_map}
use Rattle.byteorder.specs.Endian.{big_bytes}
use Rattle.jvm_code.specs.declared.class.Class.{Class}
use Rattle.jvm_code.specs.declared.class.Constant.{Constant}
use Rattle.jvm_code.specs.declared.class.Constant.TheVariants as c
use Rattle.jvm_code.specs.declared.class.Method.{Method}
use Rattle.jvm_code.specs.declared.class.Op.{Op}
use Rattle.jvm_code.specs.declared.class.Op.TheVariants as o
use Rattle.jvm_code.specs.declared.class.Width.{Width}
use Rattle.jvm_code.specs.declared.class.Width.TheVariants as w
use Rattle.jvm_code.specs.Padding.{pad}

abbrev pub u1 : ℕ → List ℕ
u1 n = big_bytes 1 n

abbrev pub u2 : ℕ → List ℕ
u2 n = big_bytes 2 n

abbrev pub u4 : ℕ → List ℕ
u4 n = big_bytes 4 n

-- a signed number in two's complement
abbrev pub s1 : ℤ → List ℕ
s1 n = big_bytes 1 (cast_unsigned w8 n)

abbrev pub s2 : ℤ → List ℕ
s2 n = big_bytes 2 (cast_unsigned w16 n)

abbrev pub s4 : ℤ → List ℕ
s4 n = big_bytes 4 (cast_unsigned w32 n)

abbrev pub s8 : ℤ → List ℕ
s8 n = big_bytes 8 (cast_unsigned w64 n)

-- bytes with their count before them
abbrev pub counted : List ℕ → List ℕ
counted bytes = u4 (length bytes) ++ bytes

-- a tag, and what stands behind it (4.4)
abbrev pub constant_bytes : Constant → List ℕ
constant_bytes c.Gap = []
constant_bytes (c.Utf8 bytes) = 1 ∷ (u2 (length bytes) ++ bytes)
constant_bytes (c.Integer value) = 3 ∷ s4 value
constant_bytes (c.Long value) = 5 ∷ s8 value
constant_bytes (c.Class name) = 7 ∷ u2 name
constant_bytes (c.Str text) = 8 ∷ u2 text
constant_bytes (c.Methodref class name_and_type) = 10 ∷ (u2 class ++ u2 name_and_type)
constant_bytes (c.NameAndType name descriptor) = 12 ∷ (u2 name ++ u2 descriptor)

-- an instruction on a local: the first of the opcodes that have the local in them, or the opcode with an operand
abbrev pub local_bytes : (first opcode : ℕ) → Width → ℕ → List ℕ
local_bytes first opcode w.Short local = u1 (first + local)
local_bytes first opcode w.Byte local = u1 opcode ++ u1 local
local_bytes first opcode w.Wide local = u1 196 ++ u1 opcode ++ u2 local

abbrev pub pair_bytes : ℤ × ℤ → List ℕ
pair_bytes pair = s4 pair.0 ++ s4 pair.1

-- the high value of so many from the low one on
abbrev pub high_of : ℤ → List ℤ → ℤ
high_of low offsets = (low +ℤ pos (length offsets)) -ℤ pos 1

-- an instruction that stands at an offset in its code (6.5)
abbrev pub op_bytes : (pc : ℕ) → Op → List ℕ
op_bytes pc o.Null = u1 1
op_bytes pc (o.IConst value) = u1 (3 + cast_unsigned w8 value)
op_bytes pc (o.Bipush value) = u1 16 ++ s1 value
op_bytes pc (o.Sipush value) = u1 17 ++ s2 value
op_bytes pc (o.Ldc index) = u1 18 ++ u1 index
op_bytes pc (o.LdcW index) = u1 19 ++ u2 index
op_bytes pc (o.Ldc2W index) = u1 20 ++ u2 index
op_bytes pc (o.ILoad width local) = local_bytes 26 21 width local
op_bytes pc (o.ALoad width local) = local_bytes 42 25 width local
op_bytes pc (o.IStore width local) = local_bytes 59 54 width local
op_bytes pc (o.AStore width local) = local_bytes 75 58 width local
op_bytes pc o.Pop = u1 87
op_bytes pc o.Dup = u1 89
op_bytes pc o.Swap = u1 95
op_bytes pc o.IAdd = u1 96
op_bytes pc o.ISub = u1 100
op_bytes pc (o.If opcode offset) = u1 opcode ++ s2 offset
op_bytes pc (o.IfIcmp opcode offset) = u1 opcode ++ s2 offset
op_bytes pc (o.IfAcmp opcode offset) = u1 opcode ++ s2 offset
op_bytes pc (o.IfNull true offset) = u1 198 ++ s2 offset
op_bytes pc (o.IfNull false offset) = u1 199 ++ s2 offset
op_bytes pc (o.Goto offset) = u1 167 ++ s2 offset
op_bytes pc (o.TableSwitch default low offsets) =
    u1 170 ++ (replicate (pad (pc + 1)) 0 ++ (s4 default ++ (s4 low ++ (s4 (high_of low offsets) ++ flat_map s4 offsets))))
op_bytes pc (o.LookupSwitch default pairs) =
    u1 171 ++ (replicate (pad (pc + 1)) 0 ++ (s4 default ++ (u4 (length pairs) ++ flat_map pair_bytes pairs)))
op_bytes pc o.IReturn = u1 172
op_bytes pc (o.Invoke index) = u1 184 ++ u2 index

-- the instructions, each at its offset (4.7.3)
abbrev pub code_bytes : List (ℕ × Op) → List ℕ
code_bytes code = flat_map (λ (p : ℕ × Op). op_bytes p.0 p.1) code

-- the attributes of the code: none, or one `StackMapTable` (4.7.4)
abbrev pub maps_bytes : Option (ℕ × List ℕ) → List ℕ
maps_bytes None = u2 0
maps_bytes (Some (name, content)) = u2 1 ++ (u2 name ++ counted content)

-- the content of the attribute `Code` (4.7.3), with an empty exception table
abbrev pub code_content : Method → List ℕ
code_content m = u2 m.max_stack ++ (u2 m.max_locals ++ (counted (code_bytes m.code) ++ (u2 0 ++ maps_bytes m.maps)))

-- a method (4.6) with its one attribute
abbrev pub method_bytes : Method → List ℕ
method_bytes m = u2 m.flags ++ (u2 m.name ++ (u2 m.descriptor ++ (u2 1 ++ (u2 m.code_name ++ counted (code_content m)))))

-- a class file of version 50.0 (4.1), with no interfaces, fields or attributes of the class
abbrev pub class_bytes : Class → List ℕ
class_bytes class =
    u4 0xCAFEBABE ++ (u2 0 ++ (u2 50
    ++ (u2 (length class.pool) ++ (flat_map constant_bytes class.pool
    ++ (u2 class.flags ++ (u2 class.this ++ (u2 class.above ++ (u2 0 ++ (u2 0
    ++ (u2 (length class.methods) ++ (flat_map method_bytes class.methods
    ++ u2 0)))))))))))
