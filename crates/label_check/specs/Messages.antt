-- What is said of a break of a label rule.
use Rattle.std.specs.Prelude.{ℕ, List, ◌++◌, codes}
use Rattle.std.specs.Fmt.{decimal}
use Rattle.beam_code.specs.Places.{instruction_text}
use Rattle.label_check.specs.declared.fault.LabelFault.{LabelFault}
use Rattle.label_check.specs.declared.fault.LabelFault.TheVariants as fault

abbrev pub message : LabelFault → List ℕ
message (fault.Twice label) = codes "label " ++ decimal label ++ codes ": defined twice"
message (fault.Missing func index label) = instruction_text func index (codes ": label " ++ (decimal label ++ codes " missing"))
message (fault.BadEntry func) = codes "function " ++ decimal func ++ codes ": bad entry"
message (fault.BadArity func index) = instruction_text func index (codes ": bad arity")
message fault.NoMemory = codes "out of memory"
