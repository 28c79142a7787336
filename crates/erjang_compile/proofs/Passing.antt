-- What the steps of `accept` tell of the bytes.
use Rattle.std.proofs.Common.{◌≡◌, List, ℕ, Bool, true, false, Result, Ok, Err, Option, None, Some, sym, subst}
use Rattle.std.specs.Prelude.{IfErr}
use Rattle.std.specs.Result.{IsErrAnd}
use Rattle.std.proofs.lemmas.Bool.{true≢false}
use Rattle.beam_code.specs.declared.module.Module.{Module}
use Rattle.beam_code.specs.declared.slot_state.SlotMap.{SlotMap}
use Rattle.beam_code.specs.Code.{module_code}
use Rattle.erjang_compile.specs.declared.fault.Large.{Large}
use Rattle.erjang_compile.specs.declared.fault.SourceFault.{SourceFault}
use Rattle.erjang_compile.specs.declared.fault.SourceFault.TheVariants as fault
use Rattle.erjang_compile.specs.Accepted.{AreMaps, KeepsRules, Read}
use Rattle.erjang_compile.specs.Answers.{Answers, IsFirst, IsUnslotted, TellsLarge}
use Rattle.erjang_compile.specs.Faults.{Passes, Refuses}
use Rattle.erjang_compile.proofs.Mapped.{all-slotted}

-- a fault that is passed on
passed-on : {A : Type 0} (sizes : Bool) (bytes : List ℕ) (r : Result A SourceFault) (f : SourceFault) → IsErrAnd r (λ e. e ≡ f) → Refuses sizes bytes f → IfErr r (Refuses sizes bytes)
passed-on sizes bytes (Ok x) f e p = absurd e
passed-on sizes bytes (Err told) f e p = subst (Refuses sizes bytes) (sym e) p

-- of text, forms and labels
first-refuses : (sizes : Bool) (bytes : List ℕ) (f : SourceFault) → Answers {A = Module} (KeepsRules bytes) (IsFirst bytes) (Err f) → Refuses sizes bytes f
first-refuses sizes bytes (fault.Text e) p = p sizes
first-refuses sizes bytes (fault.Form e) p = p sizes
first-refuses sizes bytes (fault.Label e) p = p sizes
first-refuses sizes bytes (fault.NotSlotted func) p = p sizes
first-refuses sizes bytes (fault.TooLarge size) p = p sizes
first-refuses sizes bytes fault.NoMemory p = tt

pub early : {A : Type 0} (sizes : Bool) (bytes : List ℕ) (r : Result A SourceFault) (f : SourceFault) → IsErrAnd r (λ e. e ≡ f)
    → Answers {A = Module} (KeepsRules bytes) (IsFirst bytes) (Err f) → IfErr r (Refuses sizes bytes)
early sizes bytes r f e p = passed-on sizes bytes r f e (first-refuses sizes bytes f p)

-- of slots
slots-refuse : (sizes : Bool) (bytes : List ℕ) (m : Module) (f : SourceFault) → KeepsRules bytes m
    → Answers {A = List SlotMap} (AreMaps (module_code m)) (IsUnslotted (module_code m)) (Err f) → Refuses sizes bytes f
slots-refuse sizes bytes m (fault.Text e) rules p = absurd p
slots-refuse sizes bytes m (fault.Form e) rules p = absurd p
slots-refuse sizes bytes m (fault.Label e) rules p = absurd p
slots-refuse sizes bytes m (fault.NotSlotted func) rules p = record { read = m; rules = rules; first = p }
slots-refuse sizes bytes m (fault.TooLarge size) rules p = absurd p
slots-refuse sizes bytes m fault.NoMemory rules p = tt

pub unslotted : {A : Type 0} (sizes : Bool) (bytes : List ℕ) (m : Module) (r : Result A SourceFault) (f : SourceFault) → KeepsRules bytes m → IsErrAnd r (λ e. e ≡ f)
    → Answers {A = List SlotMap} (AreMaps (module_code m)) (IsUnslotted (module_code m)) (Err f) → IfErr r (Refuses sizes bytes)
unslotted sizes bytes m r f rules e p = passed-on sizes bytes r f e (slots-refuse sizes bytes m f rules p)

-- what has slot maps is read
pub read-so : (bytes : List ℕ) (m : Module) (maps : List SlotMap) → KeepsRules bytes m → AreMaps (module_code m) maps → Read bytes m
read-so bytes m maps rules p = record { rules = rules; slotted = all-slotted (module_code m).functions maps p }

-- of sizes
pub large-so : (sizes : Bool) (bytes : List ℕ) (m : Module) (maps : List SlotMap) (told : Option Large) (x : Large) → sizes ≡ true → KeepsRules bytes m → AreMaps (module_code m) maps
    → TellsLarge (module_code m) told → told ≡ Some x → Refuses sizes bytes (fault.TooLarge x)
large-so sizes bytes m maps told x e rules p tells is =
    (e, record { read = m; is_read = read-so bytes m maps rules p; first = subst (TellsLarge (module_code m)) is tells })

pub passes-unsized : (sizes : Bool) (bytes : List ℕ) (m : Module) (maps : List SlotMap) → sizes ≡ false → KeepsRules bytes m → AreMaps (module_code m) maps → Passes sizes bytes m
passes-unsized true bytes m maps e rules p = absurd (true≢false e)
passes-unsized false bytes m maps e rules p = read-so bytes m maps rules p

pub passes-sized : (sizes : Bool) (bytes : List ℕ) (m : Module) (maps : List SlotMap) (told : Option Large) → sizes ≡ true → KeepsRules bytes m → AreMaps (module_code m) maps
    → TellsLarge (module_code m) told → told ≡ None → Passes sizes bytes m
passes-sized true bytes m maps told e rules p tells is = record { read = read-so bytes m maps rules p; fits = subst (TellsLarge (module_code m)) is tells }
passes-sized false bytes m maps told e rules p tells is = absurd (true≢false (sym e))
