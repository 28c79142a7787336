-- What is wrong first with bytes that are not accepted.
use Rattle.std.specs.Prelude.{◌≡◌, ℕ, ◌<◌, Bool, true, false, List, length, Some, IsSomeAnd}
use Rattle.std.specs.List.{All, AllWithin}
use Rattle.ej_term.specs.declared.asm_term.AsmTerm.{AsmTerm}
use Rattle.asm_terms.specs.declared.fault.TextFault.{TextFault}
use Rattle.asm_terms.specs.declared.fault.TextFault.TheVariants as text_fault
use Rattle.asm_terms.specs.Forms as text
use Rattle.asm_terms.specs.Forms.{AreForms}
use Rattle.asm_module.specs.declared.fault.FormFault.{FormFault}
use Rattle.asm_module.specs.declared.fault.FormFault.TheVariants as form_fault
use Rattle.asm_module.specs.Modules as modules
use Rattle.asm_module.specs.Modules.{Stands}
use Rattle.label_check.specs.Told.{break_of}
use Rattle.beam_code.specs.declared.module.Module.{Module}
use Rattle.beam_code.specs.Code.{ModuleCode, function_at, module_code}
use Rattle.beam_code.specs.Good.{NoneGood}
use Rattle.beam_code.specs.Labels.{Break, first_break}
use Rattle.beam_code.specs.Pool.{PoolWeight}
use Rattle.erjang_compile.specs.declared.fault.Large.{Large}
use Rattle.erjang_compile.specs.declared.fault.Large.TheVariants as large
use Rattle.erjang_compile.specs.declared.fault.SourceFault.{SourceFault}
use Rattle.erjang_compile.specs.declared.fault.SourceFault.TheVariants as fault
use Rattle.erjang_compile.specs.Accepted.{KeepsRules, WellSlotted, Read, Accepted, Weighs, FunctionFits, PoolFits, first_long, most_of_function, most_of_pool}

-- the bytes are no forms, and this is the first fault in them; a want of memory is none
abbrev pub HasTextFault : List ℕ → TextFault → Type 0
HasTextFault bytes (text_fault.BadText form) = text.FirstFault bytes form text.BadText
HasTextFault bytes (text_fault.TooDeep form) = text.FirstFault bytes form text.TooDeep
HasTextFault bytes text_fault.NoMemory = ⊥

-- the bytes are forms, and this is the first fault in them
pub record FirstFormFault (bytes : List ℕ) (fault : FormFault) : Type 0 where
  pub forms : List AsmTerm
  pub are_forms : AreForms bytes forms
  pub first : modules.FirstFault forms fault

abbrev pub HasFormFault : List ℕ → FormFault → Type 0
HasFormFault bytes form_fault.NoMemory = ⊥
HasFormFault bytes f = FirstFormFault bytes f

-- the bytes are the forms of a module, and this is the first break of a label rule in it
pub record HasBreak (bytes : List ℕ) (broken : Break) : Type 0 where
  pub forms : List AsmTerm
  pub are_forms : AreForms bytes forms
  pub read : Module
  pub stands : Stands forms read
  pub first : first_break (module_code read) ≡ Some broken

-- no assignment is good for the function of that number, from 0, and each before it is well slotted
pub record FirstUnslotted (m : ModuleCode) (func : ℕ) : Type 0 where
  pub in_range : func < length m.functions
  pub before : AllWithin WellSlotted m.functions 0 func
  pub none : NoneGood (function_at m func)

-- the bytes are the forms of a module that keeps the label rules, and this function is the first that is not well slotted
pub record HasUnslotted (bytes : List ℕ) (func : ℕ) : Type 0 where
  pub read : Module
  pub rules : KeepsRules bytes read
  pub first : FirstUnslotted (module_code read) func

-- the function of that number weighs so much, which is too much, and each before it fits
pub record FirstHeavy (m : ModuleCode) (func weight : ℕ) : Type 0 where
  pub in_range : func < length m.functions
  pub before : AllWithin FunctionFits m.functions 0 func
  pub weighs : Weighs (function_at m func) weight
  pub heavy : most_of_function < weight

-- each function fits, and the constants weigh so much, which is too much
pub record HeavyPool (m : ModuleCode) (weight : ℕ) : Type 0 where
  pub functions : All FunctionFits m.functions
  pub weighs : PoolWeight m weight
  pub heavy : most_of_pool < weight

-- each function and the constants fit, and the first literal that is too long is one of that instruction, with so many bytes
pub record FirstLong (m : ModuleCode) (func index bytes : ℕ) : Type 0 where
  pub functions : All FunctionFits m.functions
  pub pool : PoolFits m
  pub long : first_long m ≡ Some (record { func = func; index = index; bytes = bytes })

-- what is too large first
abbrev pub IsTooLarge : ModuleCode → Large → Type 0
IsTooLarge m (large.Function func weight) = FirstHeavy m func weight
IsTooLarge m (large.Pool weight) = HeavyPool m weight
IsTooLarge m (large.Literal func index bytes) = FirstLong m func index bytes

-- the bytes are read, and this is what is too large first of the module
pub record HasLarge (bytes : List ℕ) (size : Large) : Type 0 where
  pub read : Module
  pub is_read : Read bytes read
  pub first : IsTooLarge (module_code read) size

-- bytes pass as the source of a module where they are read and, if sizes are looked at, accepted
abbrev pub Passes : Bool → List ℕ → Module → Type 0
Passes true bytes m = Accepted bytes m
Passes false bytes m = Read bytes m

-- what is wrong first: with the text, the forms, the labels, the slots or, if they are looked at, the sizes; a want of
-- memory is nothing that is wrong
abbrev pub HasFault : Bool → List ℕ → SourceFault → Type 0
HasFault sizes bytes (fault.Text f) = HasTextFault bytes f
HasFault sizes bytes (fault.Form f) = HasFormFault bytes f
HasFault sizes bytes (fault.Label f) = IsSomeAnd (break_of f) (HasBreak bytes)
HasFault sizes bytes (fault.NotSlotted func) = HasUnslotted bytes func
HasFault sizes bytes (fault.TooLarge size) = (sizes ≡ true) × HasLarge bytes size
HasFault sizes bytes fault.NoMemory = ⊥

-- what a refusal tells: the first fault; where memory was wanting, nothing of the bytes
abbrev pub Refuses : Bool → List ℕ → SourceFault → Type 0
Refuses sizes bytes fault.NoMemory = Unit {0}
Refuses sizes bytes f = HasFault sizes bytes f
