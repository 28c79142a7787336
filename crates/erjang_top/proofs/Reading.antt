-- What reading a source tells of its bytes.
use Rattle.std.proofs.Common.{◌≡◌, ℕ, suc, ◌<◌, true, nat_lt, slice_index, List, [], ◌∷◌, Result, Ok, Err, refl, sym, subst}
use Rattle.std.specs.Result.{IsErrAnd}
use Rattle.std.proofs.lemmas.Bool.{and_from, lt-ltb}
use Rattle.beam_code.specs.declared.module.Module.{Module}
use Rattle.erjang_compile.specs.declared.fault.SourceFault.{SourceFault}
use Rattle.erjang_compile.specs.declared.fault.SourceFault.TheVariants as source_fault
use Rattle.erjang_compile.specs.Faults.{Refuses}
use Rattle.erjang_top.specs.declared.fault.Fault.{Fault}
use Rattle.erjang_top.specs.Sources.{IsSource}
use Rattle.erjang_top.specs.first_path.Accepted.{Accepted}
use Rattle.erjang_top.specs.first_path.Ranges.{are_bytes}
use Rattle.erjang_top.specs.Work.{HasFault, ReadsSource, fault_of_source}
use Rattle.erjang_top.proofs.FirstPath.Bridge.{bridges}

first_fault : (bytes : List ℕ) (fault : SourceFault) → Refuses true bytes fault → HasFault bytes (fault_of_source fault)
first_fault bytes (source_fault.Text f) h = h
first_fault bytes (source_fault.Form f) h = h
first_fault bytes (source_fault.Label f) h = h
first_fault bytes (source_fault.NotSlotted func) h = h
first_fault bytes (source_fault.TooLarge size) h = h
first_fault bytes source_fault.NoMemory h = tt

-- a fault of the source that is passed on
pub refused : (bytes : List ℕ) (fault : SourceFault) (result : Result Module Fault) → Refuses true bytes fault → IsErrAnd result (λ e. e ≡ fault_of_source fault) → ReadsSource bytes result
refused bytes fault (Ok m) h e = absurd e
refused bytes fault (Err f) h e = subst (HasFault bytes) (sym e) (first_fault bytes fault h)

-- bytes are each below 256
each_byte : (bytes : List ℕ) → ((k : ℕ) → slice_index bytes k < 256) → are_bytes bytes ≡ true
each_byte [] h = refl
each_byte (b ∷ bytes) h = and_from (nat_lt b 256) (are_bytes bytes) (lt-ltb b 256 (h 0)) (each_byte bytes (λ k. h (suc k)))

-- a module that is read and built
pub is_compiled : (bytes : List ℕ) (m : Module) → ((k : ℕ) → slice_index bytes k < 256) → IsSource bytes m → IsSource bytes m × Accepted m
is_compiled bytes m are s = (s, bridges bytes m (each_byte bytes are) s)
