-- When two instructions, two methods and two classes are the same: part by part.
use Rattle.std.specs.Prelude.{ℕ, ℤ, pos, nat_eq, Bool, true, false, ◌&&◌, List, [], Option, None, Some}
use Rattle.std.specs.Cmp.Lexicographic.{pointwise}
use Rattle.std.specs.Ordering.{int_eq}
use Rattle.std.specs.Str.{bytes_eq}
use Rattle.jvm_code.specs.declared.class.Class.{Class}
use Rattle.jvm_code.specs.declared.class.Method.{Method}
use Rattle.jvm_code.specs.declared.class.Op.{Op}
use Rattle.jvm_code.specs.declared.class.Op.TheVariants as o
use Rattle.jvm_code.specs.declared.class.Width.{Width}
use Rattle.jvm_code.specs.declared.class.Width.TheVariants as w
use Rattle.jvm_code.specs.ConstantKey.{same_constant}

abbrev pub width_number : Width → ℕ
width_number w.Short = 0
width_number w.Byte = 1
width_number w.Wide = 2

abbrev pub bit : Bool → ℕ
bit false = 0
bit true = 1

-- the first opcode of an instruction's family, and its numbers but for those in a switch's table
abbrev pub numbers : Op → ℕ × ℤ × ℤ
numbers o.Null = (1, pos 0, pos 0)
numbers (o.IConst value) = (3, value, pos 0)
numbers (o.Bipush value) = (16, value, pos 0)
numbers (o.Sipush value) = (17, value, pos 0)
numbers (o.Ldc index) = (18, pos index, pos 0)
numbers (o.LdcW index) = (19, pos index, pos 0)
numbers (o.Ldc2W index) = (20, pos index, pos 0)
numbers (o.ILoad width local) = (21, pos (width_number width), pos local)
numbers (o.ALoad width local) = (25, pos (width_number width), pos local)
numbers (o.IStore width local) = (54, pos (width_number width), pos local)
numbers (o.AStore width local) = (58, pos (width_number width), pos local)
numbers o.Pop = (87, pos 0, pos 0)
numbers o.Dup = (89, pos 0, pos 0)
numbers o.Swap = (95, pos 0, pos 0)
numbers o.IAdd = (96, pos 0, pos 0)
numbers o.ISub = (100, pos 0, pos 0)
numbers (o.If opcode offset) = (153, pos opcode, offset)
numbers (o.IfIcmp opcode offset) = (159, pos opcode, offset)
numbers (o.IfAcmp opcode offset) = (165, pos opcode, offset)
numbers (o.IfNull null offset) = (198, pos (bit null), offset)
numbers (o.Goto offset) = (167, offset, pos 0)
numbers (o.TableSwitch default low offsets) = (170, default, low)
numbers (o.LookupSwitch default pairs) = (171, default, pos 0)
numbers o.IReturn = (172, pos 0, pos 0)
numbers (o.Invoke index) = (184, pos index, pos 0)

-- the table of a `tableswitch`
abbrev pub offsets : Op → List ℤ
offsets (o.TableSwitch default low table) = table
offsets _ = []

-- the table of a `lookupswitch`
abbrev pub pairs : Op → List (ℤ × ℤ)
pairs (o.LookupSwitch default table) = table
pairs _ = []

abbrev pub same_numbers : ℕ × ℤ × ℤ → ℕ × ℤ × ℤ → Bool
same_numbers x y = (nat_eq x.0 y.0 && int_eq x.1 y.1) && int_eq x.2 y.2

abbrev pub same_pair : ℤ × ℤ → ℤ × ℤ → Bool
same_pair x y = int_eq x.0 y.0 && int_eq x.1 y.1

abbrev pub same_op : Op → Op → Bool
same_op one other = (same_numbers (numbers one) (numbers other) && pointwise int_eq (offsets one) (offsets other)) && pointwise same_pair (pairs one) (pairs other)

-- an instruction with its offset
abbrev pub same_placed : ℕ × Op → ℕ × Op → Bool
same_placed x y = nat_eq x.0 y.0 && same_op x.1 y.1

abbrev pub same_maps : Option (ℕ × List ℕ) → Option (ℕ × List ℕ) → Bool
same_maps None None = true
same_maps (Some x) (Some y) = nat_eq x.0 y.0 && bytes_eq x.1 y.1
same_maps _ _ = false

-- the indices of a method, and its limits
abbrev pub same_head : Method → Method → Bool
same_head one other =
    ((((nat_eq one.flags other.flags && nat_eq one.name other.name) && nat_eq one.descriptor other.descriptor) && nat_eq one.code_name other.code_name)
    && nat_eq one.max_stack other.max_stack) && nat_eq one.max_locals other.max_locals

abbrev pub same_method : Method → Method → Bool
same_method one other = (same_head one other && pointwise same_placed one.code other.code) && same_maps one.maps other.maps

abbrev pub same_class : Class → Class → Bool
same_class one other =
    (((nat_eq one.flags other.flags && pointwise same_constant one.pool other.pool) && nat_eq one.this other.this) && nat_eq one.above other.above)
    && pointwise same_method one.methods other.methods
