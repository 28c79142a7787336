-- Faults of a load, as those of a choice.
use Rattle.std.specs.Prelude.{◌≡◌}
use Rattle.term_heap.specs.declared.load.LoadFault.{LoadFault}
use Rattle.term_heap.specs.declared.load.LoadFault.TheVariants as load
use Rattle.proc_sched.specs.declared.fault.ChoiceFault.{ChoiceFault}
use Rattle.proc_sched.specs.declared.fault.ChoiceFault.TheVariants as choice

abbrev pub IsSame : LoadFault → ChoiceFault → Type 0
IsSame load.Opaque fault = fault ≡ choice.Opaque
IsSame load.NoMemory fault = fault ≡ choice.NoMemory
