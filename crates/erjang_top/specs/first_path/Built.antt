-- The first instruction of a module that the first path does not compile.
use Rattle.std.specs.Prelude.{◌≡◌, ℕ, Bool, true, List, take, Some, slice_get}
use Rattle.std.specs.List.{list_all}
use Rattle.beam_code.specs.declared.module.Function.{Function}
use Rattle.beam_code.specs.declared.module.Module.{Module}
use Rattle.erjang_top.specs.first_path.LabelRules.{opcodes}
use Rattle.erjang_top.specs.first_path.Opcode.{Opcode, Unknown, is_known}

-- a function of instructions that are read so far
abbrev pub knows : Function → Bool
knows f = list_all is_known (opcodes f)

-- each instruction of each function is one that is read so far
abbrev pub AllBuilt : Module → Type 0
AllBuilt m = list_all knows m.functions ≡ true

-- of a function's instructions the first that is not read so far is the one of that index
pub record FirstUnknown (code : List Opcode) (index : ℕ) : Type 0 where
  pub before : list_all is_known (take index code) ≡ true
  pub is_unknown : slice_get code index ≡ Some Unknown

-- in the order of the file the first instruction that is not read so far is that one of that function, both counted
-- from 0
pub record FirstUnbuilt (m : Module) (func index : ℕ) : Type 0 where
  pub before : list_all knows (take func m.functions) ≡ true
  pub function : Function
  pub is_there : slice_get m.functions func ≡ Some function
  pub first : FirstUnknown (opcodes function) index

-- where each is read so far, none is the first that is not
abbrev pub NoneUnbuilt : Type 0
NoneUnbuilt = (m : Module) (func index : ℕ) → AllBuilt m → FirstUnbuilt m func index → ⊥

-- where not each is, one is the first that is not
abbrev pub SomeUnbuilt : Type 0
SomeUnbuilt = (m : Module) → (AllBuilt m → ⊥) → (func : ℕ) × (index : ℕ) × FirstUnbuilt m func index

-- and only one
abbrev pub OneUnbuilt : Type 0
OneUnbuilt = (m : Module) (func index other_func other_index : ℕ) → FirstUnbuilt m func index → FirstUnbuilt m other_func other_index
    → (func ≡ other_func) × (index ≡ other_index)
