-- The writer's own types, as the entries, instructions and methods of the definition.
use Rattle.std.specs.Prelude.{◌≡◌, ℕ, ◌≤◌, ◌<◌, ◌^◌, ◌+◌, true, max, List, ◌++◌, length, None}
use Rattle.std.specs.List.{AllByRecursion}
use Rattle.erjang_top.specs.first_path.Opcode.{Value}
use Rattle.beam_code.specs.declared.module.Function.{Function}
use Rattle.beam_code.specs.declared.module.Module.{Module}
use Rattle.erjang_top.specs.first_path.Accepted.{is_thin_module}
use Rattle.erjang_top.specs.declared.first_path.emit.constant.Constant as written_constant
use Rattle.erjang_top.specs.declared.first_path.emit.constant.Constant.TheVariants as entry
use Rattle.erjang_top.specs.declared.first_path.emit.method.Method as written_method
use Rattle.erjang_top.specs.declared.first_path.emit.op.Op as written_op
use Rattle.erjang_top.specs.declared.first_path.emit.op.Op.TheVariants as instruction
use Rattle.erjang_top.specs.first_path.ClassFile.{Constant, Utf8, Long, ClassEntry, StringEntry, Methodref, NameAndType, Op, IConst, SIPush, LdcW, Ldc2W, Invoke, IReturn, Method, u2, counted, code_content}
use Rattle.erjang_top.specs.first_path.ModuleClass.{aload, astore, body, constants, first_name, function_ops, methods_of, placed, pool_of, registers}

abbrev pub constant : written_constant.Constant → Constant
constant (entry.Utf8 bytes) = Utf8 bytes.now
constant (entry.Long value) = Long value
constant (entry.Class name) = ClassEntry name
constant (entry.String text) = StringEntry text
constant (entry.Methodref class name_and_type) = Methodref class name_and_type
constant (entry.NameAndType name descriptor) = NameAndType name descriptor

-- the bytes have a count of two bytes
abbrev pub fits : written_constant.Constant → Type 0
fits (entry.Utf8 bytes) = length bytes.now < 2 ^ 16
fits _ = Unit {0}

abbrev pub op : written_op.Op → Op
op (instruction.IConst value) = IConst value
op (instruction.SIPush value) = SIPush value
op (instruction.LdcW index) = LdcW index
op (instruction.Ldc2W index) = Ldc2W index
op (instruction.ALoad local) = aload local
op (instruction.AStore local) = astore local
op (instruction.InvokeStatic method) = Invoke method
op instruction.IReturn = IReturn

-- the number is one that an opcode has in it
abbrev pub op_fits : written_op.Op → Type 0
op_fits (instruction.IConst value) = value ≤ 5
op_fits _ = Unit {0}

-- the content of a method's attribute `Code`, with no exception table and no attributes
abbrev pub content : written_method.Method → List ℕ
content m = u2 m.max_stack ++ u2 m.max_locals ++ counted m.code.items ++ u2 0 ++ u2 0

-- the bytes of a method
abbrev pub spelled : written_method.Method → List ℕ
spelled m = u2 m.flags ++ u2 m.name ++ u2 m.descriptor ++ u2 1 ++ u2 m.code_name ++ counted (content m)

-- a function's method with these flags, whose name is at this index
abbrev pub method_with : ℕ → List Value → ℕ → Function → Method
method_with flags values name f = record {
  flags = flags;
  name = name;
  descriptor = 5;
  code_name = 6;
  max_stack = 3;
  max_locals = 2 + max f.arity (registers (body f));
  code = placed 0 (function_ops values f);
  maps = None;
}

-- A class that is written: its names and values are plain, and its lists and contents have counts that fit.
pub record ClassFits (m : Module) : Type 0 where
  pub plain : is_thin_module m ≡ true
  pub entry_count : length (pool_of m) < 2 ^ 16
  pub method_count : length m.functions < 2 ^ 16
  pub contents : AllByRecursion (λ method. length (code_content method) < 2 ^ 32) (methods_of m (constants m) (first_name (constants m)) m.functions)
