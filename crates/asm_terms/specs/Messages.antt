-- What is said of a fault of a text.
use Rattle.std.specs.Prelude.{ℕ, List, ◌++◌, codes}
use Rattle.std.specs.Fmt.{decimal}
use Rattle.asm_terms.specs.declared.fault.TextFault.{TextFault}
use Rattle.asm_terms.specs.declared.fault.TextFault.TheVariants as fault

abbrev pub message : TextFault → List ℕ
message (fault.BadText form) = codes "form " ++ decimal form ++ codes ": bad text"
message (fault.TooDeep form) = codes "form " ++ decimal form ++ codes ": too deep"
message fault.NoMemory = codes "out of memory"
