-- A class and its bytes (JVMS SE 7, 4.1 to 4.7), for the entries, attributes and instructions that are
-- written so far.
use Rattle.std.specs.Prelude.{ℕ, ℤ, ◌+◌, List, [], ◌∷◌, ◌++◌, length, Option, None, Some}
use Rattle.std.specs.Int.{to_be_bytes, cast_unsigned, w16, w32, w64}
use Rattle.std.specs.List.{flat_map}

-- an entry of the constant pool (4.4); index 0 and the index behind a Long are gaps, which have no bytes
pub data Constant : Type 0 where
  Gap : Constant
  Utf8 : (bytes : List ℕ) → Constant
  Long : (value : ℤ) → Constant
  ClassEntry : (name : ℕ) → Constant
  StringEntry : (text : ℕ) → Constant
  Methodref : (class name_and_type : ℕ) → Constant
  NameAndType : (name descriptor : ℕ) → Constant

-- how an instruction has its local's index: in the opcode, or in operands of one byte or, behind `wide`, two
pub data Width : Type 0 where
  Short : Width
  Byte : Width
  Wide : Width

-- an instruction (chapter 6)
pub data Op : Type 0 where
  IConst : (value : ℕ) → Op
  SIPush : (value : ℤ) → Op
  -- `ldc_w` of a String
  LdcW : (index : ℕ) → Op
  -- `ldc2_w` of a Long
  Ldc2W : (index : ℕ) → Op
  ALoad : (width : Width) (local : ℕ) → Op
  AStore : (width : Width) (local : ℕ) → Op
  Invoke : (index : ℕ) → Op
  IReturn : Op

-- a method with its one attribute, `Code`: each instruction has its offset in bytes before it, and `maps` is
-- the name and the content of a `StackMapTable`, where it has one
pub record Method : Type 0 where
  pub flags : ℕ
  pub name : ℕ
  pub descriptor : ℕ
  pub code_name : ℕ
  pub max_stack : ℕ
  pub max_locals : ℕ
  pub code : List (ℕ × Op)
  pub maps : Option (ℕ × List ℕ)

-- a class; `pool` has its entries by index, `this` and `above` are the indices of its own name's entry and its
-- superclass's
pub record Class : Type 0 where
  pub flags : ℕ
  pub pool : List Constant
  pub this : ℕ
  pub above : ℕ
  pub methods : List Method

abbrev pub u2 : ℕ → List ℕ
u2 n = to_be_bytes w16 n

abbrev pub u4 : ℕ → List ℕ
u4 n = to_be_bytes w32 n

-- bytes with their count before them
abbrev pub counted : List ℕ → List ℕ
counted bytes = u4 (length bytes) ++ bytes

abbrev pub constant_bytes : Constant → List ℕ
constant_bytes Gap = []
constant_bytes (Utf8 bytes) = 1 ∷ (u2 (length bytes) ++ bytes)
constant_bytes (Long value) = 5 ∷ to_be_bytes w64 (cast_unsigned w64 value)
constant_bytes (ClassEntry name) = 7 ∷ u2 name
constant_bytes (StringEntry text) = 8 ∷ u2 text
constant_bytes (Methodref class name_and_type) = 10 ∷ (u2 class ++ u2 name_and_type)
constant_bytes (NameAndType name descriptor) = 12 ∷ (u2 name ++ u2 descriptor)

-- an instruction on a local: the first of the opcodes that have the local in them, or the opcode with an operand
abbrev pub local_bytes : ℕ → ℕ → Width → ℕ → List ℕ
local_bytes first opcode Short local = (first + local) ∷ []
local_bytes first opcode Byte local = opcode ∷ local ∷ []
local_bytes first opcode Wide local = 196 ∷ opcode ∷ u2 local

abbrev pub op_bytes : Op → List ℕ
op_bytes (IConst value) = (3 + value) ∷ []
op_bytes (SIPush value) = 17 ∷ to_be_bytes w16 (cast_unsigned w16 value)
op_bytes (LdcW index) = 19 ∷ u2 index
op_bytes (Ldc2W index) = 20 ∷ u2 index
op_bytes (ALoad width local) = local_bytes 42 25 width local
op_bytes (AStore width local) = local_bytes 75 58 width local
op_bytes (Invoke index) = 184 ∷ u2 index
op_bytes IReturn = 172 ∷ []

-- the code array (4.7.3)
abbrev pub code_bytes : Method → List ℕ
code_bytes m = flat_map (λ p. op_bytes p.1) m.code

-- the attributes of the code: none, or one `StackMapTable` (4.7.4)
abbrev pub maps_bytes : Option (ℕ × List ℕ) → List ℕ
maps_bytes None = u2 0
maps_bytes (Some maps) = u2 1 ++ u2 maps.0 ++ counted maps.1

-- the content of the attribute `Code` (4.7.3), with an empty exception table
abbrev pub code_content : Method → List ℕ
code_content m = u2 m.max_stack ++ u2 m.max_locals ++ counted (code_bytes m) ++ u2 0 ++ maps_bytes m.maps

-- a method (4.6) with its one attribute
abbrev pub method_bytes : Method → List ℕ
method_bytes m = u2 m.flags ++ u2 m.name ++ u2 m.descriptor ++ u2 1 ++ u2 m.code_name ++ counted (code_content m)

-- a class file of version 50.0 (4.1), with no interfaces, fields or attributes of the class
abbrev pub class_bytes : Class → List ℕ
class_bytes c =
    u4 0xCAFEBABE ++ u2 0 ++ u2 50
    ++ u2 (length c.pool) ++ flat_map constant_bytes c.pool
    ++ u2 c.flags ++ u2 c.this ++ u2 c.above ++ u2 0 ++ u2 0
    ++ u2 (length c.methods) ++ flat_map method_bytes c.methods
    ++ u2 0
