-- What holds of the bytes of an accepted module's class.
use Rattle.std.proofs.Common.{◌≡◌, ℕ, suc, ◌+◌, ◌<◌, ◌≤◌, ◌^◌, ◌⊎◌, inl, inr, max, cond, true, false, nat_le, lit<, List, [], ◌∷◌, ◌++◌, length, map, None, Some, refl, sym, ap, ◌∙◌, subst, append_assoc, length-append, arith}
use Rattle.std.specs.Prelude.{slice_get, unwrap_or, Result, Ok, Err, IfOk}
use Rattle.std.specs.Option.{option_and_then}
use Rattle.std.specs.List.{list_all, AllByRecursion, AllZip, IsDistinct}
use Rattle.std.specs.Str.{bytes_eq}
use Rattle.std.proofs.Math.Nat.{max-le}
use Rattle.std.proofs.lemmas.Bool.{and_parts, and_from, leb-true}
use Rattle.beam_code.specs.declared.module.Function.{Function}
use Rattle.beam_code.specs.declared.module.Module.{Module}
use Rattle.beam_code.specs.Keys.{key_of, is_among}
use Rattle.erjang_top.proofs.FirstPath.AcceptedRules.{accepted_rules}
use Rattle.erjang_top.specs.first_path.LabelRules.{opcodes, begins_well, no_label_twice, labels_of}
use Rattle.erjang_top.specs.first_path.Slots.{WellSlotted}
use Rattle.erjang_top.specs.first_path.Accepted.{is_thin_opcode, Accepted}
use Rattle.erjang_top.specs.first_path.Weights.{weight, pool_weight}
use Rattle.erjang_top.specs.first_path.ClassFile.{Constant, code_bytes, counted, maps_bytes, u2, class_bytes}
use Rattle.erjang_top.specs.first_path.ClassProfile.{utf8_in, utf8_at, IsMethod, InProfile, ClassOf}
use Rattle.erjang_top.specs.first_path.Emitted.{method_flags, method_head, head_in, Emitted}
use Rattle.erjang_top.specs.first_path.Flow.{arguments, flows}
use Rattle.erjang_top.specs.first_path.Linking.{op_linked}
use Rattle.erjang_top.specs.Mangle.{class_name, method_name}
use Rattle.erjang_top.specs.first_path.ModuleClass.{fixed_entries, first_value, values_entries, name_entry, constants, pool_of, first_name, function_ops, registers, body, method_of, methods_of, class_of}
use Rattle.erjang_top.specs.first_path.Runs.{RunsAs}
use Rattle.erjang_top.specs.first_path.Typing.{method_typed}
use Rattle.erjang_top.proofs.FirstPath.ClassLaw.{only_class}
use Rattle.erjang_top.proofs.FirstPath.CodeLength.{placed-bytes, code-within}
use Rattle.erjang_top.proofs.FirstPath.CodeLinked.{function-linked}
use Rattle.erjang_top.proofs.FirstPath.CodeProfile.{placed-offsets, placed-all, function-some, function-ops, registers-few}
use Rattle.erjang_top.proofs.FirstPath.CodeTyped.{method-typed}
use Rattle.erjang_top.proofs.FirstPath.Flows.{slotted-flows}
use Rattle.erjang_top.proofs.FirstPath.NameLaw as names
use Rattle.erjang_top.proofs.FirstPath.NameLaw.{methods_distinct}
use Rattle.erjang_top.proofs.FirstPath.PoolProfile.{values-length, pool-within, pool-profile}
use Rattle.erjang_top.proofs.FirstPath.ThinValues.{IsThinFunction, thin-module, behind-all}
use Rattle.erjang_top.proofs.FirstPath.ModuleValues.{IsAmong, values-among, get-behind}

-- ---- the functions

-- what is known of each function
pub record IsReady (m : Module) (f : Function) : Type 0 where
  pub thin : IsThinFunction f
  pub body_thin : AllByRecursion (λ i. is_thin_opcode i ≡ true) (body f)
  pub among : AllByRecursion (IsAmong (constants m)) (body f)
  pub flow : flows (arguments f.arity) (body f) ≡ true
  pub light : weight f ≤ 32767

ready : (m : Module) (fs : List Function) → AllByRecursion IsThinFunction fs → AllByRecursion (λ f. AllByRecursion (IsAmong (constants m)) (body f)) fs
    → list_all (begins_well m.name) fs ≡ true → AllByRecursion WellSlotted fs → list_all (λ f. nat_le (weight f) 32767) fs ≡ true → AllByRecursion (IsReady m) fs
ready m [] thin among begins slots light = tt
ready m (f ∷ fs) thin among begins slots light =
    let b = and_parts (begins_well m.name f) (list_all (begins_well m.name) fs) begins in
    let l = and_parts (nat_le (weight f) 32767) (list_all (λ g. nat_le (weight g) 32767) fs) light in
    let here : IsReady m f = record {
      thin = thin.0;
      body_thin = behind-all (λ i. is_thin_opcode i ≡ true) f.entry (opcodes f) thin.0.code;
      among = among.0;
      flow = slotted-flows m.name f b.0 slots.0;
      light = leb-true (weight f) 32767 l.0;
    } in
    (here, ready m fs thin.1 among.1 b.1 slots.1 l.1)

pub all-ready : (m : Module) → Accepted m → AllByRecursion (IsReady m) m.functions
all-ready m a =
    ready m m.functions (thin-module m a.plain).functions (values-among m)
    (and_parts (list_all (begins_well m.name) m.functions) (no_label_twice (labels_of m)) (accepted_rules m a)).0 a.slots
    (and_parts (list_all (λ f. nat_le (weight f) 32767) m.functions) (nat_le (pool_weight m) 65534) a.sizes).0

-- ---- the names of their methods

-- the names of functions' methods stand in the pool from an index on
pub AreNames : List Constant → ℕ → List Function → Type 0
AreNames pool at [] = Unit {0}
AreNames pool at (f ∷ fs) = (utf8_at pool at ≡ Some (method_name f.name f.arity)) × AreNames pool (at + 1) fs

names-there : (pool front : List Constant) (at : ℕ) (fs : List Function) → pool ≡ front ++ map name_entry fs → at ≡ length front → AreNames pool at fs
unfolding AreNames
names-there pool front at [] e l = tt
names-there pool front at (f ∷ fs) e l =
    let place : at ≡ length front + 0 = omega (arith, l) in (
      ap (option_and_then utf8_in) (ap (slice_get pool) place ∙ ap (λ (es : List Constant). slice_get es (length front + 0)) e ∙ get-behind front (name_entry f ∷ map name_entry fs) 0),
      names-there pool (front ++ name_entry f ∷ []) (at + 1) fs (e ∙ sym (append_assoc front (name_entry f ∷ []) (map name_entry fs))) (omega (arith, l, length-append front (name_entry f ∷ []))),
    )

pub pool-names : (m : Module) → AreNames (pool_of m) (first_name (constants m)) m.functions
pool-names m =
    let fixed = fixed_entries (class_name m.name) in
    let values = values_entries first_value (constants m) in
    let l = length-append fixed values in
    let v = values-length first_value (constants m) in
    names-there (pool_of m) (fixed ++ values) (first_name (constants m)) m.functions (sym (append_assoc fixed values (map name_entry m.functions))) (omega (arith, l, v))

pair-of : {A B : Type 0} (a c : A) (b d : B) → a ≡ c → b ≡ d → ◌≡◌ {A = A × B} (a, b) (c, d)
pair-of a c b d e f = λ i. (e i, f i)

cons-same : {A : Type 0} (x y : A) (xs ys : List A) → x ≡ y → xs ≡ ys → x ∷ xs ≡ y ∷ ys
cons-same x y xs ys e f = λ i. e i ∷ f i

heads : (m : Module) (at : ℕ) (fs : List Function) → AreNames (pool_of m) at fs → map (head_in (class_of m)) (methods_of m (constants m) at fs) ≡ map (method_head m) fs
unfolding AreNames
heads m at [] there = refl
heads m at (f ∷ fs) there = cons-same _ _ _ _ (pair-of (method_flags m f) (method_flags m f) _ _ refl there.0) (heads m (at + 1) fs there.1)

method-names : (m : Module) (at : ℕ) (fs : List Function) → AreNames (pool_of m) at fs
    → map (λ k. unwrap_or (utf8_at (pool_of m) k.name) []) (methods_of m (constants m) at fs) ≡ map names.method_of (map key_of fs)
unfolding AreNames
method-names m at [] there = refl
method-names m at (f ∷ fs) there = cons-same _ _ _ _ (ap (λ o. unwrap_or o []) there.0) (method-names m (at + 1) fs there.1)

small-keys : (m : Module) (fs : List Function) → AllByRecursion (IsReady m) fs → AllByRecursion (λ k. k.1 < 256) (map key_of fs)
small-keys m [] all = tt
small-keys m (f ∷ fs) all = (omega (arith, all.0.thin.arity), small-keys m fs all.1)

-- ---- the methods

abbrev IsMethodFlags : ℕ → Type 0
IsMethodFlags flags = (flags ≡ 0x0009) ⊎ (flags ≡ 0x000A)

flags-of-method : (m : Module) (f : Function) → IsMethodFlags (method_flags m f)
flags-of-method m f = elim (is_among m.exports (key_of f)) as (λ b. IsMethodFlags (cond b 0x0009 0x000A)) [ true ↦ inl refl | false ↦ inr refl ]

content-short : (locals : ℕ) (code : List ℕ) → length code ≤ 32767 → length (u2 3 ++ u2 locals ++ counted code ++ u2 0 ++ maps_bytes None) < 2 ^ 32
content-short locals code short =
    let last = length-append (code ++ u2 0) (maps_bytes None) in
    let front = length-append code (u2 0) in
    omega (arith, last, front, short)

method-profile : (m : Module) (at : ℕ) (f : Function) → IsReady m f → utf8_at (pool_of m) at ≡ Some (method_name f.name f.arity) → IsMethod (pool_of m) (method_of m (constants m) at f)
method-profile m at f r named =
    let ops = function_ops (constants m) f in
    let bytes = ap length (placed-bytes 0 ops) in
    let within = code-within m (constants m) at f in
    let few : max f.arity (registers (body f)) ≤ 1024 = max-le (omega (arith, r.thin.arity)) (registers-few (body f) r.body_thin) in
    let some = function-some (constants m) f r.flow in
    record {
      flags = flags-of-method m f;
      name = (method_name f.name f.arity, (f.name, f.arity, omega (arith, r.thin.arity), r.thin.name.scalars, refl), named);
      descriptor = refl;
      code_name = refl;
      max_stack = lit< tt;
      max_locals = omega (arith, few);
      some_code = omega (arith, bytes, some);
      code_length = omega (arith, within, r.light);
      offsets = placed-offsets 0 ops;
      ops = placed-all _ 0 ops (function-ops m f r.thin.arity r.body_thin r.among);
      maps = tt;
      content = content-short (method_of m (constants m) at f).max_locals (code_bytes (method_of m (constants m) at f)) (omega (arith, within, r.light));
    }

methods-profile : (m : Module) (at : ℕ) (fs : List Function) → AllByRecursion (IsReady m) fs → AreNames (pool_of m) at fs → AllByRecursion (IsMethod (pool_of m)) (methods_of m (constants m) at fs)
unfolding AreNames
methods-profile m at [] all there = tt
methods-profile m at (f ∷ fs) all there = (method-profile m at f all.0 there.0, methods-profile m (at + 1) fs all.1 there.1)

methods-count : (m : Module) (at : ℕ) (fs : List Function) → length (methods_of m (constants m) at fs) ≡ length fs
methods-count m at [] = refl
methods-count m at (f ∷ fs) = ap suc (methods-count m (at + 1) fs)

methods-within : (m : Module) (at : ℕ) (fs : List Function) → AllZip (λ f method. length (code_bytes method) ≤ weight f) fs (methods_of m (constants m) at fs)
methods-within m at [] = tt
methods-within m at (f ∷ fs) = (code-within m (constants m) at f, methods-within m (at + 1) fs)

methods-typed : (m : Module) (at : ℕ) (fs : List Function) → AllByRecursion (IsReady m) fs → list_all (method_typed (pool_of m)) (methods_of m (constants m) at fs) ≡ true
methods-typed m at [] all = refl
methods-typed m at (f ∷ fs) all = and_from _ _ (method-typed m at f all.0.flow all.0.among) (methods-typed m (at + 1) fs all.1)

methods-linked : (m : Module) (at : ℕ) (fs : List Function) → list_all (λ k. list_all (λ p. op_linked (class_of m) p.1) k.code) (methods_of m (constants m) at fs) ≡ true
methods-linked m at [] = refl
methods-linked m at (f ∷ fs) = and_from _ _ (function-linked m (constants m) f) (methods-linked m (at + 1) fs)

-- ---- the class

pub in-profile : (m : Module) → Accepted m → InProfile (class_of m)
in-profile m a =
    let t = thin-module m a.plain in
    let fs = m.functions in
    let at = first_name (constants m) in
    let all = all-ready m a in
    let there = pool-names m in
    let pool = pool-profile m t a.sizes in
    record {
      pool = pool;
      flags = refl;
      this = (class_name m.name, (m.name, t.inhabited, t.name.scalars, refl), refl);
      above = refl;
      method_count =
          let c = methods-count m at fs in
          let w = leb-true (pool_weight m) 65534 (and_parts (list_all (λ f. nat_le (weight f) 32767) m.functions) (nat_le (pool_weight m) 65534) a.sizes).1 in
          omega (arith, c, w);
      methods = methods-profile m at fs all there;
      distinct = subst (λ (ns : List (List ℕ)). IsDistinct bytes_eq ns) (sym (method-names m at fs there)) (methods_distinct (map key_of fs) (small-keys m fs all) m.distinct);
    }

-- the bytes of an accepted module's class are what it is compiled to
pub emitted : (m : Module) (bytes : List ℕ) → Accepted m → bytes ≡ class_bytes (class_of m) → RunsAs m (class_of m) → Emitted m bytes
emitted m bytes a spelled runs =
    let at = first_name (constants m) in
    let is : ClassOf bytes (class_of m) = record { spelled = spelled; profile = in-profile m a } in
    record {
      class = class_of m;
      is = is;
      only = λ other of. only_class bytes other (class_of m) of is;
      name = refl;
      methods = heads m at m.functions (pool-names m);
      is_typed = methods-typed m at m.functions (all-ready m a);
      is_linked = methods-linked m at m.functions;
      code_within = methods-within m at m.functions;
      pool_within = pool-within m;
      runs = runs;
    }

pub if-ok : {T E : Type 0} (P Q : T → Type 0) (r : Result T E) → ((x : T) → P x → Q x) → IfOk r P → IfOk r Q
if-ok P Q (Ok x) f h = f x h
if-ok P Q (Err e) f h = tt
