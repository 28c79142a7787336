-- What the functions of a module name.
use Rattle.std.specs.Prelude.{◌↔◌, ◌⊎◌, List}
use Rattle.std.specs.List.{filter, flat_map}
use Rattle.beam_code.specs.Code.{FunctionCode}
use Rattle.beam_code.specs.declared.operand.Src.{Src}
use Rattle.beam_code.specs.Opcode.{Opcode}
use Rattle.beam_code.specs.Pool.{IsAmong, is_value}

-- the code of functions
abbrev pub code_in : List FunctionCode → List Opcode
code_in functions = flat_map (λ (f : FunctionCode). f.code) functions

-- those that are no register
abbrev pub values : List Src → List Src
values = filter is_value

-- a list has what it had, and others
abbrev pub Gains : {K : Type 0} → List K → List K → List K → Type 0
Gains {K} old new more = (e : K) → IsAmong e new ↔ (IsAmong e old ⊎ IsAmong e more)
