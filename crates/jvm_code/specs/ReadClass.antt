-- Reading a class (JVMS SE 7, chapter 4), in the profile of version 50.0: the class that bytes stand for, or the first
-- field that fails, at its first byte.
use Rattle.std.specs.Prelude.{◌≡◌, ℕ, zero, suc, Bool, false, nat_eq, nat_le, nat_lt, not, ◌&&◌, ◌||◌, if◌then◌else◌, bit_and, List, [], ◌∷◌, ◌++◌, codes, Option, None, Some, unwrap_or, Result, Ok, Err}
use Rattle.std.specs.List.{list_any}
use Rattle.std.specs.Str.{bytes_eq}
use Rattle.ej_tables.specs.Bytes.{AreBytes}
use Rattle.jvm_code.specs.declared.class.Class.{Class}
use Rattle.jvm_code.specs.declared.class.Constant.{Constant}
use Rattle.jvm_code.specs.declared.class.Method.{Method}
use Rattle.jvm_code.specs.declared.class.Op.{Op}
use Rattle.jvm_code.specs.Entries.{utf8_at, class_at}
use Rattle.jvm_code.specs.Fault.{Fault, NotClass}
use Rattle.jvm_code.specs.Names.{is_class_name, is_method_name}
use Rattle.jvm_code.specs.ReadPool.{constant_pool}
use Rattle.jvm_code.specs.ReadOps.{code}
use Rattle.jvm_code.specs.Reader.{Got, Reader, done, then_read, read_as, bytes, u2, u4, Verdict, Broken, Forbidden, field, broken_unless, forbidden_unless, sized}

-- a text that has to be there, and to pass a test of the profile
abbrev pub text_that : (List ℕ → Bool) → Option (List ℕ) → Verdict
text_that test None = Broken
text_that test (Some text) = forbidden_unless (test text)

-- a text that has to be this one; one that is not there is outside the profile too
abbrev pub is_text : List ℕ → Option (List ℕ) → Bool
is_text wanted None = false
is_text wanted (Some text) = bytes_eq text wanted

-- a count of what the profile has none of
abbrev pub none : Reader ℕ
none = field u2 (λ n. forbidden_unless (nat_eq n 0))

-- ---- the attribute `Code` (4.7.3)

-- the length of the code in bytes
abbrev pub code_length : Reader ℕ
code_length = field u4 (λ n. broken_unless (nat_lt 0 n && nat_le n 65535))

-- the instructions, behind their length
abbrev pub instructions : List Constant → Reader (List (ℕ × Op))
instructions pool = then_read code_length (code pool)

abbrev pub map_name : List Constant → Reader ℕ
map_name pool = field u2 (λ i. forbidden_unless (is_text (codes "StackMapTable") (utf8_at pool i)))

-- a `StackMapTable` (4.7.4), by its name's index, with its content as bytes
abbrev pub map : List Constant → Reader (Option (ℕ × List ℕ))
map pool =
    then_read (map_name pool) (λ name.
    read_as (λ content. Some (name, content)) (then_read u4 bytes))

abbrev pub counted_maps : List Constant → ℕ → Reader (Option (ℕ × List ℕ))
counted_maps pool zero = done None
counted_maps pool (suc n) = map pool

-- how many attributes the code has: at most one
abbrev pub map_count : Reader ℕ
map_count = field u2 (λ n. forbidden_unless (nat_le n 1))

abbrev pub maps : List Constant → Reader (Option (ℕ × List ℕ))
maps pool = then_read map_count (counted_maps pool)

pub record Content : Type 0 where
  pub max_stack : ℕ
  pub max_locals : ℕ
  pub code : List (ℕ × Op)
  pub maps : Option (ℕ × List ℕ)

-- the content of the attribute, with no exception table
abbrev pub content : List Constant → Reader Content
content pool =
    then_read u2 (λ stack.
    then_read u2 (λ locals.
    then_read (instructions pool) (λ code.
    then_read none (λ _.
    read_as (λ maps. record { max_stack = stack; max_locals = locals; code = code; maps = maps }) (maps pool)))))

-- ---- methods (4.6)

-- the name of a method
abbrev pub name_of : List Constant → ℕ → List ℕ
name_of pool index = unwrap_or (utf8_at pool index) []

-- from the process and the entry number to a status
abbrev pub method_descriptor : List ℕ
method_descriptor = codes "(Lerl/Proc;I)I"

abbrev pub descriptor_that : (taken : Bool) → Option (List ℕ) → Verdict
descriptor_that taken None = Broken
descriptor_that taken (Some text) = if bytes_eq text method_descriptor then broken_unless (not taken) else Forbidden

-- all methods have one descriptor, so no two have one name
abbrev pub is_taken : List Constant → (before : List (List ℕ)) → ℕ → Bool
is_taken pool before name = list_any (bytes_eq (name_of pool name)) before

-- static, and public or private
abbrev pub method_flags : Reader ℕ
method_flags = field u2 (λ n. forbidden_unless (nat_eq n 0x0009 || nat_eq n 0x000A))

abbrev pub attribute_count : Reader ℕ
attribute_count = field u2 (λ n. forbidden_unless (nat_eq n 1))

abbrev pub code_name : List Constant → Reader ℕ
code_name pool = field u2 (λ i. text_that (λ text. bytes_eq text (codes "Code")) (utf8_at pool i))

-- the one attribute of a method, by its name's index, with its length
abbrev pub attribute : List Constant → Reader (ℕ × Content)
attribute pool =
    then_read attribute_count (λ _.
    then_read (code_name pool) (λ name.
    read_as (λ content. (name, content)) (sized (content pool))))

abbrev pub method_of : (flags name described : ℕ) → ℕ × Content → Method
method_of flags name described (named, parts) = record {
  flags = flags;
  name = name;
  descriptor = described;
  code_name = named;
  max_stack = parts.max_stack;
  max_locals = parts.max_locals;
  code = parts.code;
  maps = parts.maps;
}

abbrev pub method_name : List Constant → (flags : ℕ) → Reader ℕ
method_name pool flags = field u2 (λ i. text_that (is_method_name flags) (utf8_at pool i))

abbrev pub descriptor : List Constant → (taken : Bool) → Reader ℕ
descriptor pool taken = field u2 (λ i. descriptor_that taken (utf8_at pool i))

-- a method behind those of these names
abbrev pub method : List Constant → (before : List (List ℕ)) → Reader Method
method pool before =
    then_read method_flags (λ flags.
    then_read (method_name pool flags) (λ name.
    then_read (descriptor pool (is_taken pool before name)) (λ d.
    read_as (method_of flags name d) (attribute pool))))

abbrev pub methods : List Constant → (before : List (List ℕ)) → ℕ → Reader (List Method)
methods pool before zero = done []
methods pool before (suc n) = then_read (method pool before) (λ m. read_as (λ ms. m ∷ ms) (methods pool (before ++ name_of pool m.name ∷ []) n))

-- ---- the class (4.1)

abbrev pub magic : Reader ℕ
magic = field u4 (λ n. broken_unless (nat_eq n 0xCAFEBABE))

abbrev pub major : Reader ℕ
major = field u2 (λ n. forbidden_unless (nat_eq n 50))

-- the minor and the major version
abbrev pub version : Reader ℕ
version = then_read none (λ _. major)

-- no flags but public, final and super
abbrev pub class_flags : Reader ℕ
class_flags = field u2 (λ n. forbidden_unless (nat_eq (bit_and n 0x0031) n))

abbrev pub this : List Constant → Reader ℕ
this pool = field u2 (λ i. text_that is_class_name (class_at pool i))

abbrev pub is_object : List ℕ → Bool
is_object text = bytes_eq text (codes "java/lang/Object")

abbrev pub above : List Constant → Reader ℕ
above pool = field u2 (λ i. text_that is_object (class_at pool i))

abbrev pub class_of : List Constant → (flags this above : ℕ) → List Method → Class
class_of pool flags this above methods = record { flags = flags; pool = pool; this = this; above = above; methods = methods }

-- the methods, with no interfaces and no fields before them and no attributes of the class behind them
abbrev pub members : List Constant → Reader (List Method)
members pool =
    then_read none (λ _.
    then_read none (λ _.
    then_read u2 (λ n.
    then_read (methods pool [] n) (λ methods.
    read_as (λ _. methods) none))))

-- the class with this pool
abbrev pub class_with : List Constant → Reader Class
class_with pool =
    then_read class_flags (λ flags.
    then_read (this pool) (λ this.
    then_read (above pool) (λ above.
    read_as (class_of pool flags this above) (members pool))))

abbrev pub class_file : Reader Class
class_file = then_read magic (λ _. then_read version (λ _. then_read constant_pool class_with))

-- no byte follows
abbrev pub ended : Got Class → Result Class Fault
ended (Ok (class, at, [])) = Ok class
ended (Ok (class, at, _ ∷ _)) = Err (NotClass at)
ended (Err e) = Err e

-- the class of the bytes, or their first fault
abbrev pub read_class : List ℕ → Result Class Fault
read_class bytes = ended (class_file 0 bytes)

-- the bytes are those of the class
abbrev pub ClassOf : List ℕ → Class → Type 0
ClassOf bytes class = AreBytes bytes × (read_class bytes ≡ Ok class)

-- the class is one of the profile: some bytes have it
abbrev pub IsProfile : Class → Type 0
IsProfile class = (bytes : List ℕ) × ClassOf bytes class
