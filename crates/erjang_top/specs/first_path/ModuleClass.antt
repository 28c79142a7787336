-- The class that a module is compiled to.
use Rattle.std.specs.Prelude.{ℕ, zero, suc, pos, Bool, false, ◌+◌, ◌*◌, nat_eq, nat_lt, nat_le, max, if◌then◌else◌, List, [], ◌∷◌, ◌++◌, length, map, codes, None}
use Rattle.std.specs.List.{position_or_len}
use Rattle.ej_term.specs.TermPrint.{print_atom}
use Rattle.beam_code.specs.declared.module.Function.{Function}
use Rattle.beam_code.specs.declared.module.Module.{Module}
use Rattle.erjang_top.specs.first_path.LabelRules.{opcodes}
use Rattle.erjang_top.specs.first_path.Opcode.{Value, Integer, Atom, Nil, Source, X, Of, Opcode, Label, FuncInfo, Move, Return}
use Rattle.erjang_top.specs.first_path.Weights.{values_of, same_value, distinct}
use Rattle.erjang_top.specs.first_path.ClassFile.{Constant, Gap, Utf8, Long, ClassEntry, StringEntry, Methodref, NameAndType, Width, Short, Byte, Wide, Op, IConst, SIPush, LdcW, Ldc2W, ALoad, AStore, Invoke, IReturn, Method, Class, op_bytes}
use Rattle.erjang_top.specs.first_path.ClassProfile.{method_descriptor}
use Rattle.erjang_top.specs.first_path.Emitted.{method_flags}
use Rattle.erjang_top.specs.Mangle.{class_name, method_name}

-- ---- the constant pool

-- The entries 0 to 30, with the name of the class: the class, its superclass, a method's descriptor and attribute,
-- the runtime methods take, give, raise, integer and lit, and the atom that `func_info` raises.
abbrev pub fixed_entries : List ℕ → List Constant
fixed_entries class =
    Gap
    ∷ Utf8 class
    ∷ ClassEntry 1
    ∷ Utf8 (codes "java/lang/Object")
    ∷ ClassEntry 3
    ∷ Utf8 method_descriptor
    ∷ Utf8 (codes "Code")
    ∷ Utf8 (codes "erl/Rt")
    ∷ ClassEntry 7
    ∷ Utf8 (codes "take")
    ∷ Utf8 (codes "(Lerl/Proc;I)Lerl/Term;")
    ∷ NameAndType 9 10
    ∷ Methodref 8 11
    ∷ Utf8 (codes "give")
    ∷ Utf8 (codes "(Lerl/Proc;Lerl/Term;)V")
    ∷ NameAndType 13 14
    ∷ Methodref 8 15
    ∷ Utf8 (codes "raise")
    ∷ Utf8 (codes "(Lerl/Proc;ILerl/Term;)V")
    ∷ NameAndType 17 18
    ∷ Methodref 8 19
    ∷ Utf8 (codes "integer")
    ∷ Utf8 (codes "(J)Lerl/Term;")
    ∷ NameAndType 21 22
    ∷ Methodref 8 23
    ∷ Utf8 (codes "lit")
    ∷ Utf8 (codes "(Ljava/lang/String;)Lerl/Term;")
    ∷ NameAndType 25 26
    ∷ Methodref 8 27
    ∷ StringEntry 30
    ∷ Utf8 (codes "function_clause")
    ∷ []

-- the index of the first value's entries, behind the fixed ones
abbrev pub first_value : ℕ
first_value = 31

-- a value's two entries, from this index on; an atom and nil have their canonical prints
abbrev pub value_entries : ℕ → Value → List Constant
value_entries at (Integer number) = Long number ∷ Gap ∷ []
value_entries at (Atom name) = StringEntry (at + 1) ∷ Utf8 (print_atom name) ∷ []
value_entries at Nil = StringEntry (at + 1) ∷ Utf8 (codes "[]") ∷ []

abbrev pub values_entries : ℕ → List Value → List Constant
values_entries at [] = []
values_entries at (value ∷ values) = value_entries at value ++ values_entries (at + 2) values

abbrev pub name_entry : Function → Constant
name_entry f = Utf8 (method_name f.name f.arity)

-- the values that the module's moves have in them, each once
abbrev pub constants : Module → List Value
constants m = distinct (values_of m)

abbrev pub pool_of : Module → List Constant
pool_of m = fixed_entries (class_name m.name) ++ values_entries first_value (constants m) ++ map name_entry m.functions

-- the index of the first method's name, behind the values
abbrev pub first_name : List Value → ℕ
first_name values = first_value + 2 * length values

-- ---- the code

abbrev pub width_of : ℕ → Width
width_of local = if nat_le local 3 then Short else if nat_lt local 256 then Byte else Wide

abbrev pub aload : ℕ → Op
aload local = ALoad (width_of local) local

abbrev pub astore : ℕ → Op
astore local = AStore (width_of local) local

-- the local of an x register: behind the process and the entry number
abbrev pub local_of : ℕ → ℕ
local_of register = register + 2

abbrev pub push_number : ℕ → Op
push_number n = if nat_le n 5 then IConst n else SIPush (pos n)

-- the entered value at a place goes to its register
abbrev pub take_argument : ℕ → List Op
take_argument at = aload 0 ∷ push_number at ∷ Invoke 12 ∷ astore (local_of at) ∷ []

-- so many from a place on
abbrev pub take_arguments : ℕ → ℕ → List Op
take_arguments at zero = []
take_arguments at (suc count) = take_argument at ++ take_arguments (at + 1) count

-- the index of a value's entry
abbrev pub index_of : List Value → Value → ℕ
index_of values value = first_value + 2 * position_or_len (same_value value) values

-- pushes the term of a value
abbrev pub push_value : List Value → Value → List Op
push_value values (Integer number) = Ldc2W (index_of values (Integer number)) ∷ Invoke 24 ∷ []
push_value values value = LdcW (index_of values value) ∷ Invoke 28 ∷ []

abbrev pub push_source : List Value → Source → List Op
push_source values (X register) = aload (local_of register) ∷ []
push_source values (Of value) = push_value values value

abbrev pub move_ops : List Value → Source → ℕ → List Op
move_ops values from to = push_source values from ++ astore (local_of to) ∷ []

-- gives x0 as the result, and answers status 0
abbrev pub return_ops : List Op
return_ops = aload 0 ∷ aload 2 ∷ Invoke 16 ∷ IConst 0 ∷ IReturn ∷ []

-- raises an error function_clause, and answers status 4
abbrev pub raise_ops : List Op
raise_ops = aload 0 ∷ IConst 0 ∷ LdcW 29 ∷ Invoke 28 ∷ Invoke 20 ∷ IConst 4 ∷ IReturn ∷ []

-- the instructions up to the first that does not go on; no more are reached
abbrev pub body_ops : List Value → List Opcode → List Op
body_ops values [] = []
body_ops values (Move from to ∷ code) = move_ops values from to ++ body_ops values code
body_ops values (FuncInfo owner name arity ∷ code) = raise_ops
body_ops values (Return ∷ code) = return_ops
body_ops values (_ ∷ code) = body_ops values code

abbrev pub is_entry : ℕ → Opcode → Bool
is_entry entry (Label n) = nat_eq n entry
is_entry entry _ = false

-- the instructions behind the entry label
abbrev pub behind : ℕ → List Opcode → List Opcode
behind entry [] = []
behind entry (i ∷ code) = if is_entry entry i then code else behind entry code

abbrev pub body : Function → List Opcode
body f = behind f.entry (opcodes f)

abbrev pub function_ops : List Value → Function → List Op
function_ops values f = take_arguments 0 f.arity ++ body_ops values (body f)

-- how many registers the moves among some instructions write at most
abbrev pub registers : List Opcode → ℕ
registers [] = 0
registers (Move from to ∷ code) = max (to + 1) (registers code)
registers (_ ∷ code) = registers code

-- instructions with their offsets, of which the first is this one
abbrev pub placed : ℕ → List Op → List (ℕ × Op)
placed at [] = []
placed at (op ∷ ops) = (at, op) ∷ placed (at + length (op_bytes op)) ops

-- ---- the class

-- a function's method, whose name is at this index
abbrev pub method_of : Module → List Value → ℕ → Function → Method
method_of m values name f = record {
  flags = method_flags m f;
  name = name;
  descriptor = 5;
  code_name = 6;
  max_stack = 3;
  max_locals = 2 + max f.arity (registers (body f));
  code = placed 0 (function_ops values f);
  maps = None;
}

-- the methods of functions, whose names are from this index on
abbrev pub methods_of : Module → List Value → ℕ → List Function → List Method
methods_of m values name [] = []
methods_of m values name (f ∷ fs) = method_of m values name f ∷ methods_of m values (name + 1) fs

-- a public class of the module's class name
abbrev pub class_of : Module → Class
class_of m = record {
  flags = 0x0021;
  pool = pool_of m;
  this = 2;
  above = 4;
  methods = methods_of m (constants m) (first_name (constants m)) m.functions;
}
