-- The values of a set as the code's values.
use Rattle.std.specs.Prelude.{List, Option, None, Some}
use Rattle.std.specs.List.{filter_map, flat_map}
use Rattle.beam_code.specs.declared.module.Function.{Function}
use Rattle.erjang_top.specs.first_path.LabelRules.{opcodes}
use Rattle.erjang_top.specs.first_path.Opcode as opcode
use Rattle.erjang_top.specs.first_path.Weights.{value_in}
use Rattle.erjang_top.specs.declared.first_path.values.Value.{Value}
use Rattle.erjang_top.specs.declared.first_path.values.Value.TheVariants as value

abbrev pub seen_value : Value → opcode.Value
seen_value (value.Integer number) = opcode.Integer number
seen_value (value.Atom name) = opcode.Atom name.now
seen_value value.Nil = opcode.Nil

-- the value that a source is, where it is no register
abbrev pub value_from : opcode.Source → Option opcode.Value
value_from (opcode.X n) = None
value_from (opcode.Of value) = Some value

-- the source operands of functions that are no registers, in their order
abbrev pub values_in : List Function → List opcode.Value
values_in functions = flat_map (λ f. filter_map value_in (opcodes f)) functions
