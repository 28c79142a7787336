-- A fault at another offset.
use Rattle.std.specs.Prelude.{ℕ}
use Rattle.class_file.specs.declared.fault.ClassFault.{ClassFault}
use Rattle.class_file.specs.declared.fault.ClassFault.TheVariants.{NotClass, OutsideProfile, NoMemory}

abbrev pub moved_to : ℕ → ClassFault → ClassFault
moved_to offset (NotClass _) = NotClass offset
moved_to offset (OutsideProfile _) = OutsideProfile offset
moved_to offset NoMemory = NoMemory
