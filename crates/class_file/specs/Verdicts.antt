-- The code's verdicts, and the faults that they are.
use Rattle.std.specs.Prelude.{◌≡◌, ℕ, Result, Ok, Err}
use Rattle.jvm_code.specs.Reader.{Verdict, Fine, Broken, Forbidden}
use Rattle.class_file.specs.declared.fault.ClassFault.{ClassFault}
use Rattle.class_file.specs.declared.fault.ClassFault.TheVariants.{NotClass, OutsideProfile}
use Rattle.class_file.specs.declared.verdict.Verdict as code
use Rattle.class_file.specs.declared.verdict.Verdict.TheVariants as v

abbrev pub verdict_of : code.Verdict → Verdict
verdict_of v.Fine = Fine
verdict_of v.Broken = Broken
verdict_of v.Forbidden = Forbidden

abbrev pub Settles : Verdict → ℕ → Result (Unit {0}) ClassFault → Type 0
Settles Fine offset result = result ≡ Ok tt
Settles Broken offset result = result ≡ Err (NotClass offset)
Settles Forbidden offset result = result ≡ Err (OutsideProfile offset)
