-- A class that is read from bytes is that of the bytes.
use Rattle.std.proofs.Common.{ℕ, List, Result, Ok, Err}
use Rattle.std.specs.Prelude.{IfOk}
use Rattle.ej_tables.specs.Bytes.{AreBytes}
use Rattle.jvm_code.specs.declared.class.Class.{Class}
use Rattle.jvm_code.specs.ReadClass.{ClassOf, read_class}
use Rattle.class_file.specs.Gave.{Given}
use Rattle.class_file.specs.declared.fault.ClassFault.{ClassFault}

pub given_class : (bytes : List ℕ) (result : Result Class ClassFault) → AreBytes bytes → Given (λ c. c) (read_class bytes) result → IfOk result (λ class. ClassOf bytes class)
given_class bytes (Ok class) are read = (are, read)
given_class bytes (Err fault) are read = tt
