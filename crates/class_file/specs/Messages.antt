-- What is said of bytes that are no class of the profile.
use Rattle.std.specs.Prelude.{ℕ, List, ◌++◌, codes}
use Rattle.std.specs.Fmt.{decimal}
use Rattle.class_file.specs.declared.fault.ClassFault.{ClassFault}
use Rattle.class_file.specs.declared.fault.ClassFault.TheVariants as fault

abbrev pub message : ClassFault → List ℕ
message (fault.NotClass offset) = codes "byte " ++ (decimal offset ++ codes ": no class file")
message (fault.OutsideProfile offset) = codes "byte " ++ (decimal offset ++ codes ": outside the profile")
message fault.NoMemory = codes "out of memory"
