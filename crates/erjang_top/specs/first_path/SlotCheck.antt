-- Which x registers hold a term, front to back from the entry label: nothing branches so far.
use Rattle.std.specs.Prelude.{ℕ, Bool, true, false, nat_eq, if◌then◌else◌, List, [], ◌∷◌, Option, None, Some}
use Rattle.std.specs.Option.{option_map_or}
use Rattle.beam_code.specs.declared.module.Function.{Function}
use Rattle.erjang_top.specs.first_path.LabelRules.{opcodes}
use Rattle.erjang_top.specs.first_path.Opcode.{Opcode, Label}
use Rattle.erjang_top.specs.first_path.Flow.{arguments, flows}

abbrev pub defines_label : ℕ → Opcode → Bool
defines_label label (Label n) = nat_eq n label
defines_label label _ = false

-- the code behind the first place where a label is defined
abbrev pub behind : ℕ → List Opcode → Option (List Opcode)
behind label [] = None
behind label (i ∷ code) = if defines_label label i then Some code else behind label code

-- a call of the function reads no register that does not hold a term, and ends well
abbrev pub passes : Function → Bool
passes f = option_map_or (flows (arguments f.arity)) (behind f.entry (opcodes f)) true
