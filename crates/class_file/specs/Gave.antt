-- What a call owes to the reader that it is the code of.
use Rattle.std.specs.Prelude.{◌≡◌, Result, Ok, Err}
use Rattle.jvm_code.specs.Fault.{Fault}
use Rattle.jvm_code.specs.Fault as spec
use Rattle.jvm_code.specs.Reader.{Got}
use Rattle.class_file.specs.declared.fault.ClassFault.{ClassFault}
use Rattle.class_file.specs.declared.fault.ClassFault.TheVariants.{NotClass, OutsideProfile, NoMemory}
use Rattle.class_file.specs.Place.{Place}

-- the call's fault is the reader's; a want of memory is free
abbrev pub Failed : {B : Type 0} → Result B Fault → ClassFault → Type 0
Failed got (NotClass offset) = got ≡ Err (spec.NotClass offset)
Failed got (OutsideProfile offset) = got ≡ Err (spec.OutsideProfile offset)
Failed got NoMemory = Unit {0}

-- what is given is what is read, and the place is behind it
abbrev pub Gave : {A B : Type 0} → (A → B) → Got B → Result A ClassFault → Place → Type 0
Gave seen got (Ok x) new = got ≡ Ok (seen x, new.at, new.rest)
Gave seen got (Err fault) new = Failed got fault

-- the same of what is read whole
abbrev pub Given : {A B : Type 0} → (A → B) → Result B Fault → Result A ClassFault → Type 0
Given seen got (Ok x) = got ≡ Ok (seen x)
Given seen got (Err fault) = Failed got fault
