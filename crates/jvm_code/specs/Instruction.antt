-- Instructions with what they name in the pool resolved (JVMS SE 7, 5.1 and 6.5), and their targets of any kind.
use Rattle.std.specs.Prelude.{ℕ, ℤ, pos, ◌+ℤ◌, Bool, true, false, ◌&&◌, if◌then◌else◌, List, map, codes, slice_get, Option, None, Some, is_some, option_map, option_and_then}
use Rattle.std.specs.List.{list_any}
use Rattle.std.specs.Option.{option_map_or}
use Rattle.std.specs.Str.{bytes_eq}
use Rattle.jvm_code.specs.declared.class.Class.{Class}
use Rattle.jvm_code.specs.declared.class.Constant.{Constant}
use Rattle.jvm_code.specs.declared.class.Constant.TheVariants as c
use Rattle.jvm_code.specs.declared.class.Method.{Method}
use Rattle.jvm_code.specs.declared.class.Op.{Op}
use Rattle.jvm_code.specs.declared.class.Op.TheVariants as o
use Rattle.jvm_code.specs.Entries.{utf8_at, class_at, name_and_type_at}
use Rattle.jvm_code.specs.Runtime.{number_by}
use Rattle.jvm_code.specs.Signature.{descriptor, own}

-- what `invokestatic` calls
pub data Callee : Type 0 where
  -- the runtime method of that number
  Runtime : (number : ℕ) → Callee
  -- the method of the class that has that name
  Own : (name : List ℕ) → Callee

pub data Instruction (T : Type 0) : Type 0 where
  Null : Instruction T
  Int : (value : ℤ) → Instruction T
  -- a string, by its bytes in modified UTF-8
  Str : (text : List ℕ) → Instruction T
  Long : (value : ℤ) → Instruction T
  LoadInt : (local : ℕ) → Instruction T
  LoadReference : (local : ℕ) → Instruction T
  StoreInt : (local : ℕ) → Instruction T
  StoreReference : (local : ℕ) → Instruction T
  Pop : Instruction T
  Dup : Instruction T
  Swap : Instruction T
  Add : Instruction T
  Subtract : Instruction T
  -- branches by their opcodes: on one integer, on two, on two references
  If : (opcode : ℕ) (to : T) → Instruction T
  IfCompare : (opcode : ℕ) (to : T) → Instruction T
  IfSame : (opcode : ℕ) (to : T) → Instruction T
  -- where the reference is null, or where it is not
  IfNull : (null : Bool) (to : T) → Instruction T
  Goto : (to : T) → Instruction T
  -- the default, the low value, and the targets of the values from the low one on
  Table : (default : T) (low : ℤ) (targets : List T) → Instruction T
  Lookup : (default : T) (pairs : List (ℤ × T)) → Instruction T
  Return : Instruction T
  Invoke : (callee : Callee) → Instruction T

-- ---- what stands in the pool

-- a method, by the names of its class and itself and its descriptor
pub record Named : Type 0 where
  pub class : List ℕ
  pub name : List ℕ
  pub descriptor : List ℕ

abbrev pub named : List ℕ → List ℕ × List ℕ → Named
named class (name, descriptor) = record { class = class; name = name; descriptor = descriptor }

abbrev pub method_in : List Constant → Constant → Option Named
method_in pool (c.Methodref class described) =
    option_and_then (λ owner. option_map (named owner) (name_and_type_at pool described)) (class_at pool class)
method_in pool _ = None

abbrev pub method_at : List Constant → ℕ → Option Named
method_at pool index = option_and_then (method_in pool) (slice_get pool index)

-- an integer or a string, as `ldc` loads it
abbrev pub loaded : {T : Type 0} → List Constant → Constant → Option (Instruction T)
loaded pool (c.Integer value) = Some (Int value)
loaded pool (c.Str text) = option_map Str (utf8_at pool text)
loaded pool _ = None

abbrev pub loaded_at : {T : Type 0} → List Constant → ℕ → Option (Instruction T)
loaded_at pool index = option_and_then (loaded pool) (slice_get pool index)

abbrev pub loaded_wide : {T : Type 0} → Constant → Option (Instruction T)
loaded_wide (c.Long value) = Some (Long value)
loaded_wide _ = None

-- ---- what is called

-- the text at that index is this one
abbrev pub spells : List Constant → ℕ → List ℕ → Bool
spells pool index text = option_map_or (λ bytes. bytes_eq bytes text) (utf8_at pool index) false

-- the class has a method of that name
abbrev pub has_method : Class → List ℕ → Bool
has_method class name = list_any (λ (m : Method). spells class.pool m.name name) class.methods

-- the class has that name
abbrev pub is_named : Class → List ℕ → Bool
is_named class name = option_map_or (λ own. bytes_eq own name) (class_at class.pool class.this) false

-- it is a method of the class, each of which has the one descriptor
abbrev pub is_own : Class → Named → Bool
is_own class m = is_named class m.class && (bytes_eq m.descriptor (descriptor own) && has_method class m.name)

-- a runtime method, or a method of the class; none where it is neither
abbrev pub callee : Class → Named → Option Callee
callee class m =
    if bytes_eq m.class (codes "erl/Rt") then option_map Runtime (number_by m.name m.descriptor)
    else if is_own class m then Some (Own m.name)
    else None

abbrev pub callee_at : Class → ℕ → Option Callee
callee_at class index = option_and_then (callee class) (method_at class.pool index)

-- an instruction that calls names a method that there is
abbrev pub is_linked : Class → Op → Bool
is_linked class (o.Invoke index) = is_some (callee_at class index)
is_linked class _ = true

-- ---- instructions

-- the target of a branch that stands at that offset
abbrev pub target : ℕ → ℤ → ℤ
target pc offset = pos pc +ℤ offset

-- an instruction of the class that stands at an offset in its code; none where what it names in the pool is no entry of its
-- kind, or a method that there is not
abbrev pub resolve : Class → ℕ → Op → Option (Instruction ℤ)
resolve class pc o.Null = Some Null
resolve class pc (o.IConst value) = Some (Int value)
resolve class pc (o.Bipush value) = Some (Int value)
resolve class pc (o.Sipush value) = Some (Int value)
resolve class pc (o.Ldc index) = loaded_at class.pool index
resolve class pc (o.LdcW index) = loaded_at class.pool index
resolve class pc (o.Ldc2W index) = option_and_then loaded_wide (slice_get class.pool index)
resolve class pc (o.ILoad width local) = Some (LoadInt local)
resolve class pc (o.ALoad width local) = Some (LoadReference local)
resolve class pc (o.IStore width local) = Some (StoreInt local)
resolve class pc (o.AStore width local) = Some (StoreReference local)
resolve class pc o.Pop = Some Pop
resolve class pc o.Dup = Some Dup
resolve class pc o.Swap = Some Swap
resolve class pc o.IAdd = Some Add
resolve class pc o.ISub = Some Subtract
resolve class pc (o.If opcode offset) = Some (If opcode (target pc offset))
resolve class pc (o.IfIcmp opcode offset) = Some (IfCompare opcode (target pc offset))
resolve class pc (o.IfAcmp opcode offset) = Some (IfSame opcode (target pc offset))
resolve class pc (o.IfNull null offset) = Some (IfNull null (target pc offset))
resolve class pc (o.Goto offset) = Some (Goto (target pc offset))
resolve class pc (o.TableSwitch default low offsets) = Some (Table (target pc default) low (map (target pc) offsets))
resolve class pc (o.LookupSwitch default pairs) = Some (Lookup (target pc default) (map (λ (p : ℤ × ℤ). (p.0, target pc p.1)) pairs))
resolve class pc o.IReturn = Some Return
resolve class pc (o.Invoke index) = option_map Invoke (callee_at class index)
