-- Which classes there are: numbers that fit their fields, indices of entries of the right kind (JVMS SE 7,
-- 4.4 to 4.7), and what this project's profile leaves of class files.
use Rattle.std.specs.Prelude.{◌≡◌, ◌≢◌, ℕ, ℤ, ◌+◌, ◌/◌, ◌%◌, ◌^◌, ◌<◌, ◌≤◌, ◌⊎◌, Bool, true, false, not, nat_eq, nat_lt, ◌&&◌, if◌then◌else◌, List, [], ◌∷◌, length, map, codes, slice_get, Option, None, Some, IsSome, FitsSigned, MatchOption, unwrap_or, bit_and}
use Rattle.std.specs.Int.{w16, w64}
use Rattle.std.specs.List.{flat_map, AllByRecursion, IsDistinct}
use Rattle.std.specs.Str.{bytes_eq, all_scalars}
use Rattle.std.specs.Option.{option_and_then}
use Rattle.erjang_top.specs.first_path.ClassFile.{Constant, Gap, Utf8, Long, ClassEntry, StringEntry, Methodref, NameAndType, Width, Short, Byte, Wide, Op, IConst, SIPush, LdcW, Ldc2W, ALoad, AStore, Invoke, IReturn, Method, Class, op_bytes, code_bytes, code_content, class_bytes}
use Rattle.erjang_top.specs.Mangle.{class_name, method_name}

-- a UTF-16 unit in modified UTF-8 (4.4.7): 0 takes two bytes, and a surrogate three like every unit from 2,048 on
abbrev pub modified_utf8 : ℕ → List ℕ
modified_utf8 u =
    if nat_eq u 0 then 192 ∷ 128 ∷ []
    else if nat_lt u 128 then u ∷ []
    else if nat_lt u 2048 then (192 + u / 64) ∷ (128 + u % 64) ∷ []
    else (224 + u / 4096) ∷ (128 + u / 64 % 64) ∷ (128 + u % 64) ∷ []

abbrev pub IsModifiedUtf8 : List ℕ → Type 0
IsModifiedUtf8 bytes = (units : List ℕ) × AllByRecursion (λ u. u < 2 ^ 16) units × (bytes ≡ flat_map modified_utf8 units)

-- what stands at an index of the pool, where it is an entry of that kind
abbrev pub utf8_in : Constant → Option (List ℕ)
utf8_in (Utf8 bytes) = Some bytes
utf8_in _ = None

abbrev pub utf8_at : List Constant → ℕ → Option (List ℕ)
utf8_at pool index = option_and_then utf8_in (slice_get pool index)

abbrev pub class_in : List Constant → Constant → Option (List ℕ)
class_in pool (ClassEntry name) = utf8_at pool name
class_in pool _ = None

-- the name of the class
abbrev pub class_at : List Constant → ℕ → Option (List ℕ)
class_at pool index = option_and_then (class_in pool) (slice_get pool index)

abbrev pub string_in : List Constant → Constant → Option (List ℕ)
string_in pool (StringEntry text) = utf8_at pool text
string_in pool _ = None

-- the text of the string
abbrev pub string_at : List Constant → ℕ → Option (List ℕ)
string_at pool index = option_and_then (string_in pool) (slice_get pool index)

abbrev pub long_in : Constant → Option ℤ
long_in (Long value) = Some value
long_in _ = None

abbrev pub long_at : List Constant → ℕ → Option ℤ
long_at pool index = option_and_then long_in (slice_get pool index)

abbrev pub both : Option (List ℕ) → Option (List ℕ) → Option (List ℕ × List ℕ)
both (Some a) (Some b) = Some (a, b)
both _ _ = None

abbrev pub name_and_type_in : List Constant → Constant → Option (List ℕ × List ℕ)
name_and_type_in pool (NameAndType name descriptor) = both (utf8_at pool name) (utf8_at pool descriptor)
name_and_type_in pool _ = None

-- the name and the descriptor
abbrev pub name_and_type_at : List Constant → ℕ → Option (List ℕ × List ℕ)
name_and_type_at pool index = option_and_then (name_and_type_in pool) (slice_get pool index)

-- a method that an instruction names: its class, name and descriptor
pub record Callee : Type 0 where
  pub class : List ℕ
  pub name : List ℕ
  pub descriptor : List ℕ

abbrev pub callee_of : Option (List ℕ) → Option (List ℕ × List ℕ) → Option Callee
callee_of (Some class) (Some n) = Some (record { class = class; name = n.0; descriptor = n.1 })
callee_of _ _ = None

abbrev pub callee_in : List Constant → Constant → Option Callee
callee_in pool (Methodref class name_and_type) = callee_of (class_at pool class) (name_and_type_at pool name_and_type)
callee_in pool _ = None

abbrev pub callee_at : List Constant → ℕ → Option Callee
callee_at pool index = option_and_then (callee_in pool) (slice_get pool index)

-- an entry whose value fits it, or that names entries of the right kind
abbrev pub IsEntry : List Constant → Constant → Type 0
IsEntry pool Gap = Unit {0}
IsEntry pool (Utf8 bytes) = (length bytes < 2 ^ 16) × IsModifiedUtf8 bytes
IsEntry pool (Long value) = FitsSigned w64 value
IsEntry pool (StringEntry text) = IsSome (utf8_at pool text)
IsEntry pool (ClassEntry name) = IsSome (utf8_at pool name)
IsEntry pool (Methodref class name_and_type) = IsSome (class_at pool class) × IsSome (name_and_type_at pool name_and_type)
IsEntry pool (NameAndType name descriptor) = IsSome (utf8_at pool name) × IsSome (utf8_at pool descriptor)

abbrev pub is_gap : Constant → Bool
is_gap Gap = true
is_gap _ = false

-- an entry that takes two indices (4.4.5)
abbrev pub is_long : Constant → Bool
is_long (Long value) = true
is_long _ = false

-- gaps stand where they are due and nowhere else; one is due at first, or not
abbrev pub has_gaps : Bool → List Constant → Bool
has_gaps due [] = not due
has_gaps true (c ∷ entries) = is_gap c && has_gaps false entries
has_gaps false (c ∷ entries) = not (is_gap c) && has_gaps (is_long c) entries

-- a gap at index 0 and entries from 1 on, with a count of two bytes
pub record IsPool (pool : List Constant) : Type 0 where
  pub count : length pool < 2 ^ 16
  pub gaps : has_gaps true pool ≡ true
  pub entries : AllByRecursion (IsEntry pool) pool

-- the class of a module whose name is not empty
abbrev pub IsClassName : List ℕ → Type 0
IsClassName text = (module' : List ℕ) × (module' ≢ []) × (all_scalars module' ≡ true) × (text ≡ class_name module')

-- the method of a function
abbrev pub IsMethodName : List ℕ → Type 0
IsMethodName text = (name : List ℕ) × (arity : ℕ) × (arity < 256) × (all_scalars name ≡ true) × (text ≡ method_name name arity)

-- from the process and the entry number to a status
abbrev pub method_descriptor : List ℕ
method_descriptor = codes "(Lerl/Proc;I)I"

-- a local whose index fits
abbrev pub IsLocal : Width → ℕ → Type 0
IsLocal Short local = local ≤ 3
IsLocal Byte local = local < 2 ^ 8
IsLocal Wide local = local < 2 ^ 16

-- an instruction whose operands fit it
abbrev pub IsOp : List Constant → Op → Type 0
IsOp pool (IConst value) = value ≤ 5
IsOp pool (SIPush value) = FitsSigned w16 value
IsOp pool (LdcW index) = IsSome (string_at pool index)
IsOp pool (Ldc2W index) = IsSome (long_at pool index)
IsOp pool (ALoad width local) = IsLocal width local
IsOp pool (AStore width local) = IsLocal width local
IsOp pool (Invoke index) = IsSome (callee_at pool index)
IsOp pool IReturn = Unit {0}

-- each instruction's offset is where the bytes before it end
abbrev pub has_offsets : ℕ → List (ℕ × Op) → Bool
has_offsets at [] = true
has_offsets at (p ∷ code) = nat_eq p.0 at && has_offsets (at + length (op_bytes p.1)) code

-- the text at an index is this one
abbrev pub Reads : List Constant → ℕ → List ℕ → Type 0
Reads pool index text = utf8_at pool index ≡ Some text

-- public or private, static, with at most one map
pub record IsMethod (pool : List Constant) (m : Method) : Type 0 where
  pub flags : (m.flags ≡ 0x0009) ⊎ (m.flags ≡ 0x000A)
  pub name : (text : List ℕ) × IsMethodName text × Reads pool m.name text
  pub descriptor : Reads pool m.descriptor method_descriptor
  pub code_name : Reads pool m.code_name (codes "Code")
  pub max_stack : m.max_stack < 2 ^ 16
  pub max_locals : m.max_locals < 2 ^ 16
  pub some_code : 0 < length (code_bytes m)
  pub code_length : length (code_bytes m) < 2 ^ 16
  pub offsets : has_offsets 0 m.code ≡ true
  pub ops : AllByRecursion (λ p. IsOp pool p.1) m.code
  pub maps : MatchOption m.maps (Unit {0}) (λ maps. Reads pool maps.0 (codes "StackMapTable"))
  pub content : length (code_content m) < 2 ^ 32

-- a class of the profile
pub record InProfile (c : Class) : Type 0 where
  pub pool : IsPool c.pool
  -- no flags but public, final and super
  pub flags : bit_and c.flags 0x0031 ≡ c.flags
  pub this : (text : List ℕ) × IsClassName text × (class_at c.pool c.this ≡ Some text)
  pub above : class_at c.pool c.above ≡ Some (codes "java/lang/Object")
  pub method_count : length c.methods < 2 ^ 16
  pub methods : AllByRecursion (IsMethod c.pool) c.methods
  -- no two of one name; all have one descriptor
  pub distinct : IsDistinct bytes_eq (map (λ m. unwrap_or (utf8_at c.pool m.name) []) c.methods)

-- the bytes are those of the class, and it is one of the profile
pub record ClassOf (bytes : List ℕ) (c : Class) : Type 0 where
  pub spelled : bytes ≡ class_bytes c
  pub profile : InProfile c
