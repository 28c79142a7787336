-- Bytes are the source of one module at most, or have one first fault.
use Rattle.std.proofs.Common.{◌≡◌, ◌<◌, ℕ, Bool, true, false, List, Option, None, Some, sym, ap, ap₂, subst, ◌∙◌, inl, inr, arith}
use Rattle.std.specs.Prelude.{◌⊎◌}
use Rattle.std.specs.List.{All}
use Rattle.beam_code.specs.declared.module.Module.{Module}
use Rattle.beam_code.specs.Code.{ModuleCode, module_code, function_at, no_function}
use Rattle.erjang_compile.specs.declared.fault.Large.{Large}
use Rattle.erjang_compile.specs.declared.fault.Large.TheVariants as large
use Rattle.erjang_compile.specs.declared.fault.SourceFault.{SourceFault}
use Rattle.erjang_compile.specs.declared.fault.SourceFault.TheVariants as fault
use Rattle.erjang_compile.specs.Accepted.{KeepsRules, Read, WellSlotted, Weighs, FunctionFits, PoolFits, Fits, Literal}
use Rattle.erjang_compile.specs.Faults.{FirstUnslotted, HasUnslotted, FirstHeavy, HeavyPool, FirstLong, IsTooLarge, HasLarge, Passes, HasFault}
use Rattle.erjang_compile.specs.Laws.{OneAnswer}
use Rattle.erjang_compile.proofs.OneCount.{one_pool_weight}
use Rattle.erjang_compile.proofs.OneWeight.{one_weight}
use Rattle.erjang_compile.proofs.OneSource.{of_rules, of_break, same_module, same_text_fault, no_forms, form_first, same_form_fault, no_module, label_first, same_label_fault, no_break}

compared : (m n : ℕ) → (m < n) ⊎ ((m ≡ n) ⊎ (n < m))
compared m n = grind arith

-- Slots.

same-unslotted : (m : ModuleCode) (a b : ℕ) → FirstUnslotted m a → FirstUnslotted m b → a ≡ b
same-unslotted m a b p q = by (compared a b)
  where
    clash : (x y : ℕ) → FirstUnslotted m x → FirstUnslotted m y → x < y → ⊥
    clash x y r s l = let good = s.before x no_function (omega arith) l in r.none good.0 good.1

    by : (a < b) ⊎ ((a ≡ b) ⊎ (b < a)) → a ≡ b
    by (inl l) = absurd (clash a b p q l)
    by (inr (inl e)) = e
    by (inr (inr l)) = absurd (clash b a q p l)

not-slotted : {G : Type 0} (m : ModuleCode) (a : ℕ) → FirstUnslotted m a → All WellSlotted m.functions → G
not-slotted m a p all = let good = all a no_function p.in_range in absurd (p.none good.0 good.1)

-- Sizes.

too-heavy : {G : Type 0} (m : ModuleCode) (func w : ℕ) → FirstHeavy m func w → FunctionFits (function_at m func) → G
too-heavy m func w p fits = absurd (omega (arith, p.heavy, one_weight (function_at m func) w fits.0 p.weighs fits.1, fits.2))

same-heavy : (m : ModuleCode) (a b v w : ℕ) → FirstHeavy m a v → FirstHeavy m b w → (a ≡ b) × (v ≡ w)
same-heavy m a b v w p q = by (compared a b)
  where
    by : (a < b) ⊎ ((a ≡ b) ⊎ (b < a)) → (a ≡ b) × (v ≡ w)
    by (inl l) = too-heavy m a v p (q.before a no_function (omega arith) l)
    by (inr (inl e)) = (e, one_weight (function_at m b) v w (subst (λ n. Weighs (function_at m n) v) e p.weighs) q.weighs)
    by (inr (inr l)) = too-heavy m b w q (p.before b no_function (omega arith) l)

not-heavy : {G : Type 0} (m : ModuleCode) (func w : ℕ) → FirstHeavy m func w → All FunctionFits m.functions → G
not-heavy m func w p all = too-heavy m func w p (all func no_function p.in_range)

not-heavy-pool : {G : Type 0} (m : ModuleCode) (w : ℕ) → HeavyPool m w → PoolFits m → G
not-heavy-pool m w p fits = absurd (omega (arith, p.heavy, one_pool_weight m w fits.0 p.weighs fits.1, fits.2))

some-literal : (x y : Literal) → ◌≡◌ {A = Option Literal} (Some x) (Some y) → x ≡ y
some-literal x y e = cc

no-literal : {G : Type 0} (x : Literal) → ◌≡◌ {A = Option Literal} None (Some x) → G
no-literal x e = absurd (cc)

abbrev literal_large : Literal → Large
literal_large l = large.Literal l.func l.index l.bytes

same-long : (m : ModuleCode) (f i n g j k : ℕ) → FirstLong m f i n → FirstLong m g j k → large.Literal f i n ≡ large.Literal g j k
same-long m f i n g j k p q = ap literal_large (some-literal _ _ (sym p.long ∙ q.long))

same-large : (m : ModuleCode) (x y : Large) → IsTooLarge m x → IsTooLarge m y → x ≡ y
same-large m (large.Function f v) (large.Function g w) p q = let same = same-heavy m f g v w p q in ap₂ large.Function same.0 same.1
same-large m (large.Function f v) (large.Pool w) p q = not-heavy m f v p q.functions
same-large m (large.Function f v) (large.Literal g j k) p q = not-heavy m f v p q.functions
same-large m (large.Pool v) (large.Function g w) p q = not-heavy m g w q p.functions
same-large m (large.Pool v) (large.Pool w) p q = ap large.Pool (one_pool_weight m v w p.weighs q.weighs)
same-large m (large.Pool v) (large.Literal g j k) p q = not-heavy-pool m v p q.pool
same-large m (large.Literal f i n) (large.Function g w) p q = not-heavy m g w q p.functions
same-large m (large.Literal f i n) (large.Pool w) p q = not-heavy-pool m w q p.pool
same-large m (large.Literal f i n) (large.Literal g j k) p q = same-long m f i n g j k p q

not-large : {G : Type 0} (m : ModuleCode) (x : Large) → IsTooLarge m x → Fits m → G
not-large m (large.Function f w) p fits = not-heavy m f w p fits.functions
not-large m (large.Pool w) p fits = not-heavy-pool m w p fits.pool
not-large m (large.Literal f i n) p fits = no-literal _ (sym fits.literals ∙ p.long)

-- Of bytes.

same-rules : (bytes : List ℕ) (m n : Module) → KeepsRules bytes m → KeepsRules bytes n → m ≡ n
same-rules bytes m n p q = same_module bytes m n (of_rules bytes m p) (of_rules bytes n q)

unslotted-same : (bytes : List ℕ) (a b : ℕ) → HasUnslotted bytes a → HasUnslotted bytes b → a ≡ b
unslotted-same bytes a b p q =
    same-unslotted (module_code q.read) a b (subst (λ m. FirstUnslotted (module_code m) a) (same-rules bytes p.read q.read p.rules q.rules) p.first) q.first

unslotted-or-read : {G : Type 0} (bytes : List ℕ) (a : ℕ) (m : Module) → HasUnslotted bytes a → Read bytes m → G
unslotted-or-read bytes a m p q =
    not-slotted (module_code m) a (subst (λ n. FirstUnslotted (module_code n) a) (same-rules bytes p.read m p.rules q.rules) p.first) q.slotted

large-same : (bytes : List ℕ) (x y : Large) → HasLarge bytes x → HasLarge bytes y → x ≡ y
large-same bytes x y p q =
    same-large (module_code q.read) x y (subst (λ m. IsTooLarge (module_code m) x) (same-rules bytes p.read q.read p.is_read.rules q.is_read.rules) p.first) q.first

large-or-fits : {G : Type 0} (bytes : List ℕ) (x : Large) (m : Module) → HasLarge bytes x → Read bytes m → Fits (module_code m) → G
large-or-fits bytes x m p q fits =
    not-large (module_code m) x (subst (λ n. IsTooLarge (module_code n) x) (same-rules bytes p.read m p.is_read.rules q.rules) p.first) fits

read-of : (sizes : Bool) (bytes : List ℕ) (m : Module) → Passes sizes bytes m → Read bytes m
read-of true bytes m p = p.read
read-of false bytes m p = p

-- what passes with sizes looked at fits
fits-of : (sizes : Bool) (bytes : List ℕ) (m : Module) → sizes ≡ true → Passes sizes bytes m → Fits (module_code m)
fits-of true bytes m e p = p.fits
fits-of false bytes m e p = absurd (cc)

-- what reads as a module that keeps the rules has no fault of text, forms or labels
rules-or-early : {G : Type 0} (sizes : Bool) (bytes : List ℕ) (m : Module) (f : SourceFault) → KeepsRules bytes m → HasFault sizes bytes f
    → ((func : ℕ) → HasUnslotted bytes func → G) → ((size : Large) → sizes ≡ true → HasLarge bytes size → G) → G
rules-or-early sizes bytes m (fault.Text f) r p slots large = no_forms bytes f r.forms p r.are_forms
rules-or-early sizes bytes m (fault.Form f) r p slots large = no_module bytes f m p (of_rules bytes m r)
rules-or-early sizes bytes m (fault.Label f) r p slots large = let l = label_first bytes f p in no_break bytes l.broken m l.first r
rules-or-early sizes bytes m (fault.NotSlotted func) r p slots large = slots func p
rules-or-early sizes bytes m (fault.TooLarge size) r p slots large = large size p.0 p.1
rules-or-early sizes bytes m fault.NoMemory r p slots large = absurd p

not-both : (sizes : Bool) (bytes : List ℕ) (m : Module) (f : SourceFault) → Passes sizes bytes m → HasFault sizes bytes f → ⊥
not-both sizes bytes m f passes p =
    let read = read-of sizes bytes m passes in
    rules-or-early sizes bytes m f read.rules p (λ func u. unslotted-or-read bytes func m u read)
    (λ size e l. large-or-fits bytes size m l read (fits-of sizes bytes m e passes))

-- a fault of text, forms and labels is one, and none of the later ones
same-fault : (sizes : Bool) (bytes : List ℕ) (e f : SourceFault) → HasFault sizes bytes e → HasFault sizes bytes f → e ≡ f
same-fault sizes bytes (fault.Text e) (fault.Text f) p q = ap fault.Text (same_text_fault bytes e f p q)
same-fault sizes bytes (fault.Text e) (fault.Form f) p q = let first = form_first bytes f q in no_forms bytes e first.forms p first.are_forms
same-fault sizes bytes (fault.Text e) (fault.Label f) p q = let l = label_first bytes f q in no_forms bytes e l.first.forms p l.first.are_forms
same-fault sizes bytes (fault.Text e) (fault.NotSlotted func) p q = no_forms bytes e q.rules.forms p q.rules.are_forms
same-fault sizes bytes (fault.Text e) (fault.TooLarge size) p q = no_forms bytes e q.1.is_read.rules.forms p q.1.is_read.rules.are_forms
same-fault sizes bytes (fault.Form e) (fault.Text f) p q = let first = form_first bytes e p in no_forms bytes f first.forms q first.are_forms
same-fault sizes bytes (fault.Form e) (fault.Form f) p q = ap fault.Form (same_form_fault bytes e f p q)
same-fault sizes bytes (fault.Form e) (fault.Label f) p q = let l = label_first bytes f q in no_module bytes e l.first.read p (of_break bytes l.broken l.first)
same-fault sizes bytes (fault.Form e) (fault.NotSlotted func) p q = no_module bytes e q.read p (of_rules bytes q.read q.rules)
same-fault sizes bytes (fault.Form e) (fault.TooLarge size) p q = no_module bytes e q.1.read p (of_rules bytes q.1.read q.1.is_read.rules)
same-fault sizes bytes (fault.Label e) (fault.Text f) p q = let l = label_first bytes e p in no_forms bytes f l.first.forms q l.first.are_forms
same-fault sizes bytes (fault.Label e) (fault.Form f) p q = let l = label_first bytes e p in no_module bytes f l.first.read q (of_break bytes l.broken l.first)
same-fault sizes bytes (fault.Label e) (fault.Label f) p q = ap fault.Label (same_label_fault bytes e f (label_first bytes e p) (label_first bytes f q))
same-fault sizes bytes (fault.Label e) (fault.NotSlotted func) p q = let l = label_first bytes e p in no_break bytes l.broken q.read l.first q.rules
same-fault sizes bytes (fault.Label e) (fault.TooLarge size) p q = let l = label_first bytes e p in no_break bytes l.broken q.1.read l.first q.1.is_read.rules
same-fault sizes bytes (fault.NotSlotted func) (fault.Text f) p q = no_forms bytes f p.rules.forms q p.rules.are_forms
same-fault sizes bytes (fault.NotSlotted func) (fault.Form f) p q = no_module bytes f p.read q (of_rules bytes p.read p.rules)
same-fault sizes bytes (fault.NotSlotted func) (fault.Label f) p q = let l = label_first bytes f q in no_break bytes l.broken p.read l.first p.rules
same-fault sizes bytes (fault.NotSlotted func) (fault.NotSlotted other) p q = ap fault.NotSlotted (unslotted-same bytes func other p q)
same-fault sizes bytes (fault.NotSlotted func) (fault.TooLarge size) p q = unslotted-or-read bytes func q.1.read p q.1.is_read
same-fault sizes bytes (fault.TooLarge size) (fault.Text f) p q = no_forms bytes f p.1.is_read.rules.forms q p.1.is_read.rules.are_forms
same-fault sizes bytes (fault.TooLarge size) (fault.Form f) p q = no_module bytes f p.1.read q (of_rules bytes p.1.read p.1.is_read.rules)
same-fault sizes bytes (fault.TooLarge size) (fault.Label f) p q = let l = label_first bytes f q in no_break bytes l.broken p.1.read l.first p.1.is_read.rules
same-fault sizes bytes (fault.TooLarge size) (fault.NotSlotted func) p q = unslotted-or-read bytes func p.1.read q p.1.is_read
same-fault sizes bytes (fault.TooLarge size) (fault.TooLarge other) p q = ap fault.TooLarge (large-same bytes size other p.1 q.1)
same-fault sizes bytes fault.NoMemory f p q = absurd p
same-fault sizes bytes e fault.NoMemory p q = absurd q

pub law : (sizes : Bool) (bytes : List ℕ) → OneAnswer sizes bytes
law sizes bytes = record {
  same_module = λ m n p q. same-rules bytes m n (read-of sizes bytes m p).rules (read-of sizes bytes n q).rules;
  not_both = not-both sizes bytes;
  same_fault = same-fault sizes bytes;
}
