-- What is said of a fault of forms.
use Rattle.std.specs.Prelude.{ℕ, List, ◌++◌, codes, encode_utf8_all}
use Rattle.std.specs.Fmt.{decimal}
use Rattle.beam_code.specs.Places.{instruction_text}
use Rattle.asm_module.specs.declared.fault.FormFault.{FormFault}
use Rattle.asm_module.specs.declared.fault.FormFault.TheVariants as fault

abbrev pub message : FormFault → List ℕ
message (fault.BadForm form) = codes "form " ++ decimal form ++ codes ": bad form"
message (fault.OutsideProfile func index name) = instruction_text func index (codes ": " ++ (encode_utf8_all name ++ codes " outside the profile"))
message (fault.BadInstruction func index) = instruction_text func index (codes ": bad instruction")
message fault.NoMemory = codes "out of memory"
