-- What is said of the fault of a source.
use Rattle.std.specs.Prelude.{ℕ, List, ◌++◌, codes}
use Rattle.std.specs.Fmt.{decimal}
use Rattle.asm_terms.specs.Messages.{message as text_message}
use Rattle.asm_module.specs.Messages.{message as form_message}
use Rattle.label_check.specs.Messages.{message as label_message}
use Rattle.beam_code.specs.Places.{instruction_text}
use Rattle.erjang_compile.specs.declared.fault.Large.{Large}
use Rattle.erjang_compile.specs.declared.fault.Large.TheVariants as large
use Rattle.erjang_compile.specs.declared.fault.SourceFault.{SourceFault}
use Rattle.erjang_compile.specs.declared.fault.SourceFault.TheVariants as fault

-- of what is too large
abbrev pub large_message : Large → List ℕ
large_message (large.Function func weight) = codes "function " ++ (decimal func ++ (codes ": weight " ++ (decimal weight ++ codes " above 32767")))
large_message (large.Pool weight) = codes "pool weight " ++ decimal weight ++ codes " above 65534"
large_message (large.Literal func index bytes) = instruction_text func index (codes ": literal of " ++ (decimal bytes ++ codes " bytes above 65535"))

abbrev pub message : SourceFault → List ℕ
message (fault.Text f) = text_message f
message (fault.Form f) = form_message f
message (fault.Label f) = label_message f
message (fault.NotSlotted func) = codes "function " ++ decimal func ++ codes ": undefined slot"
message (fault.TooLarge size) = large_message size
message fault.NoMemory = codes "out of memory"
