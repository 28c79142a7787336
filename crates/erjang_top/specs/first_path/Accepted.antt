-- Which modules are compiled: those of the instructions that are read so far that meet every rule.
use Rattle.std.specs.Prelude.{◌≡◌, ℕ, ℤ, pos, negsuc, Bool, true, false, nat_lt, nat_le, ◌&&◌, List, length}
use Rattle.std.specs.List.{list_all, AllByRecursion}
use Rattle.std.specs.Str.{all_scalars}
use Rattle.beam_code.specs.declared.module.Function.{Function}
use Rattle.beam_code.specs.declared.module.Module.{Module}
use Rattle.erjang_top.specs.first_path.LabelRules.{opcodes}
use Rattle.beam_code.specs.Code.{module_code}
use Rattle.beam_code.specs.Labels.{KeepsLabelRules}
use Rattle.erjang_top.specs.first_path.Opcode.{Source, X, Of, Integer, Atom, Opcode, Label, Line, Comment, FuncInfo, Move, Return, Unknown}
use Rattle.erjang_top.specs.first_path.Slots.{WellSlotted}
use Rattle.erjang_top.specs.first_path.Weights.{fits}

-- the name of an atom: at most 255 characters
abbrev pub is_atom_name : List ℕ → Bool
is_atom_name name = all_scalars name && nat_le (length name) 255

-- a label or a count of four bytes
abbrev pub is_count : ℕ → Bool
is_count n = nat_le n 4294967295

-- a register's number
abbrev pub is_register : ℕ → Bool
is_register n = nat_le n 1023

-- an integer of 64 bits
abbrev pub is_integer : ℤ → Bool
is_integer (pos n) = nat_lt n 9223372036854775808
is_integer (negsuc n) = nat_lt n 9223372036854775808

abbrev pub is_thin_source : Source → Bool
is_thin_source (X n) = is_register n
is_thin_source (Of (Integer number)) = is_integer number
is_thin_source (Of (Atom name)) = is_atom_name name
is_thin_source (Of _) = true

-- an instruction that is read so far, whose names and numbers are in range
abbrev pub is_thin_opcode : Opcode → Bool
is_thin_opcode (Label n) = is_count n
is_thin_opcode (FuncInfo owner name arity) = is_atom_name owner && is_atom_name name && is_count arity
is_thin_opcode (Move from to) = is_thin_source from && is_register to
is_thin_opcode Line = true
is_thin_opcode Comment = true
is_thin_opcode Return = true
is_thin_opcode Unknown = false

-- a function of such instructions, with at most 255 arguments
abbrev pub is_thin_function : Function → Bool
is_thin_function f = is_atom_name f.name && nat_le f.arity 255 && is_count f.entry && list_all is_thin_opcode (opcodes f)

-- a module of such functions, whose name is not empty
abbrev pub is_thin_module : Module → Bool
is_thin_module m = is_atom_name m.name && nat_lt 0 (length m.name) && list_all is_thin_function m.functions

-- A module that is compiled: it meets every rule.
pub record Accepted (m : Module) : Type 0 where
  pub plain : is_thin_module m ≡ true
  -- no label rule is broken
  pub label_rules : KeepsLabelRules (module_code m)
  pub slots : AllByRecursion WellSlotted m.functions
  pub sizes : fits m ≡ true
