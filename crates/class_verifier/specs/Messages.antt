-- What is said of a class that is not verified.
use Rattle.std.specs.Prelude.{ℕ, List, ◌++◌, codes}
use Rattle.std.specs.Fmt.{decimal}
use Rattle.class_verifier.specs.declared.fault.VerifyFault.{VerifyFault}
use Rattle.class_verifier.specs.declared.fault.VerifyFault.TheVariants as fault

-- a text behind the method and the offset that it is of
abbrev pub place_text : (method offset : ℕ) → List ℕ → List ℕ
place_text method offset said = codes "method " ++ (decimal method ++ (codes ", offset " ++ (decimal offset ++ said)))

abbrev pub message : VerifyFault → List ℕ
message (fault.BadMap method) = codes "method " ++ (decimal method ++ codes ": bad stack map")
message (fault.NotTyped method offset) = place_text method offset (codes ": not typed")
message (fault.NotLinked method offset) = place_text method offset (codes ": not linked")
message fault.NoMemory = codes "out of memory"
