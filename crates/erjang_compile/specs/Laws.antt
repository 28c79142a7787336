-- Bytes are the source of one module at most, or have one first fault.
use Rattle.std.specs.Prelude.{◌≡◌, ℕ, Bool, List}
use Rattle.beam_code.specs.declared.module.Module.{Module}
use Rattle.erjang_compile.specs.declared.fault.SourceFault.{SourceFault}
use Rattle.erjang_compile.specs.Faults.{Passes, HasFault}

-- with sizes looked at or not, bytes pass as the source of one module at most, or one thing is wrong with them first, and
-- not both
pub record OneAnswer (sizes : Bool) (bytes : List ℕ) : Type 0 where
  pub same_module : (m n : Module) → Passes sizes bytes m → Passes sizes bytes n → m ≡ n
  pub not_both : (m : Module) (fault : SourceFault) → Passes sizes bytes m → HasFault sizes bytes fault → ⊥
  pub same_fault : (fault other : SourceFault) → HasFault sizes bytes fault → HasFault sizes bytes other → fault ≡ other
