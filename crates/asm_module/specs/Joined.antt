-- The functions that are read so far, with what is read behind them.
use Rattle.std.specs.Prelude.{ℕ, List, ◌∷◌, ◌++◌, map, length, Result, Ok}
use Rattle.ej_term.specs.declared.asm_term.AsmTerm.{AsmTerm}
use Rattle.beam_code.specs.declared.module.Function.{Function}
use Rattle.beam_code.specs.Keys.{Key}
use Rattle.beam_code.specs.Parts.{Instruction, FunctionParts, function_parts}
use Rattle.asm_module.specs.declared.fault.FormFault.{FormFault}
use Rattle.asm_module.specs.Modules.{Rest, rest_of, ◌>>=◌}

abbrev pub with_code : FunctionParts → List Instruction → FunctionParts
with_code f code = record f { code = f.code ++ code }

-- the functions that are whole, the last with the rest of its code, and those behind it
abbrev pub joined : List FunctionParts → FunctionParts → Result Rest FormFault → Result (List FunctionParts) FormFault
joined whole last r = r >>= λ rest. Ok (whole ++ with_code last rest.code ∷ rest.functions)

-- the same of what the forms from that number on give
unfoldable pub from_here : List Key → List Function → Function → ℕ → List AsmTerm → Result (List FunctionParts) FormFault
from_here keys whole last form forms = joined (map function_parts whole) (function_parts last) (rest_of keys form (length whole) (length last.code) forms)
