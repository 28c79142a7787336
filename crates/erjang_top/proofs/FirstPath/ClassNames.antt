-- Where a call enters a module's class: at the public method of the function's name and arity.
use Rattle.std.proofs.Common.{◌≡◌, ℕ, ◌+◌, ◌*◌, ◌<◌, Bool, true, false, ◌&&◌, nat_eq, nat_le, List, [], ◌∷◌, ◌++◌, map, length, length-append, None, Some, refl, sym, ap, ◌∙◌, subst, append_assoc, arith}
use Rattle.std.specs.Prelude.{slice_get, unwrap_or, if◌then◌else◌}
use Rattle.std.specs.Bool.{Decides}
use Rattle.std.specs.List.{list_any, list_all}
use Rattle.std.specs.Option.{option_and_then}
use Rattle.std.specs.Str.{bytes_eq}
use Rattle.std.proofs.lemmas.Bool.{and_parts, or_parts, and_from, eqb-true, eq-eqb, leb-true}
use Rattle.std.proofs.lemmas.Bool.Decides.{same_from_decides}
use Rattle.std.proofs.lemmas.Slice.Eq.{bytes_eq-Decides}
use Rattle.beam_code.specs.declared.module.Function.{Function}
use Rattle.beam_code.specs.declared.module.Module.{Module}
use Rattle.beam_code.specs.Keys.{same_key, key_of, is_among}
use Rattle.erjang_top.specs.first_path.LabelRules.{opcodes}
use Rattle.erjang_top.specs.first_path.Opcode as code
use Rattle.erjang_top.specs.first_path.Accepted.{is_atom_name, is_count, is_thin_opcode, is_thin_function}
use Rattle.erjang_top.specs.first_path.ClassFile.{Constant, Class}
use Rattle.erjang_top.specs.first_path.ClassProfile.{utf8_in, utf8_at}
use Rattle.erjang_top.specs.first_path.ClassTurn.{exported}
use Rattle.erjang_top.specs.first_path.Emitted.{method_flags}
use Rattle.erjang_top.specs.first_path.Linking.{text_at}
use Rattle.erjang_top.specs.Mangle.{class_name, method_name}
use Rattle.erjang_top.specs.first_path.ModuleClass.{first_value, values_entries, fixed_entries, name_entry, constants, pool_of, first_name, method_of, methods_of}
use Rattle.erjang_top.proofs.FirstPath.Found.{Found, same-keys}
use Rattle.erjang_top.proofs.FirstPath.NameLaw.{class_name_tells, method_name_tells}
use Rattle.erjang_top.proofs.FirstPath.ModuleValues.{get-behind}

-- a class is found where its module is
pub class-test : (a b : List ℕ) → bytes_eq (class_name a) (class_name b) ≡ bytes_eq a b
class-test a b =
    let names = bytes_eq-Decides (class_name a) (class_name b) in
    let here : Decides (bytes_eq (class_name a) (class_name b)) (a ≡ b) = (λ e. class_name_tells a b (names.0 e), λ e. names.1 (ap class_name e)) in
    same_from_decides _ _ here (bytes_eq-Decides a b)

-- a method is found where its function is
method-test : (f g : List ℕ) (a b : ℕ) → a < 256 → b < 256 → bytes_eq (method_name f a) (method_name g b) ≡ same_key (g, b) (f, a)
method-test f g a b small small' =
    let names = bytes_eq-Decides (method_name f a) (method_name g b) in
    let by_name : Decides (bytes_eq (method_name f a) (method_name g b)) ((g ≡ f) × (b ≡ a)) = (
      λ e. let p = method_name_tells f g a b small small' (names.0 e) in (sym p.0, sym p.1),
      λ p. names.1 (ap (λ n. method_name n a) (sym p.0) ∙ ap (method_name g) (sym p.1)),
    ) in
    let by_key : Decides (same_key (g, b) (f, a)) ((g ≡ f) × (b ≡ a)) = (
      λ e. let p = and_parts (bytes_eq g f) (nat_eq b a) e in ((bytes_eq-Decides g f).0 p.0, eqb-true b a p.1),
      λ p. and_from (bytes_eq g f) (nat_eq b a) ((bytes_eq-Decides g f).1 p.0) (eq-eqb b a p.1),
    ) in
    same_from_decides _ _ by_name by_key

-- ---- the names of methods

-- the pool has the names of these functions' methods from this index on
abbrev pub Named : List Constant → ℕ → List Function → Type 0
Named pool at [] = Unit {0}
Named pool at (f ∷ fs) = (utf8_at pool at ≡ Some (method_name f.name f.arity)) × Named pool (at + 1) fs

named : (pool front : List Constant) (at : ℕ) (fs : List Function) → pool ≡ front ++ map name_entry fs → at ≡ length front → Named pool at fs
named pool front at [] is long = tt
named pool front at (f ∷ fs) is long =
    let first : at ≡ length front + 0 = omega (arith, long) in
    let here : slice_get pool at ≡ Some (name_entry f) = ap (λ p. slice_get p at) is ∙ ap (slice_get (front ++ name_entry f ∷ map name_entry fs)) first ∙ get-behind front (name_entry f ∷ map name_entry fs) 0 in (
      ap (option_and_then utf8_in) here,
      named pool (front ++ name_entry f ∷ []) (at + 1) fs (is ∙ sym (append_assoc front (name_entry f ∷ []) (map name_entry fs))) (omega (arith, long, length-append front (name_entry f ∷ []))),
    )

value-count : (at : ℕ) (values : List code.Value) → length (values_entries at values) ≡ 2 * length values
value-count at [] = omega arith
value-count at (code.Integer number ∷ values) = omega (arith, value-count (at + 2) values)
value-count at (code.Atom name ∷ values) = omega (arith, value-count (at + 2) values)
value-count at (code.Nil ∷ values) = omega (arith, value-count (at + 2) values)

-- so the pool of a module's class has all of them
pub names-here : (m : Module) → Named (pool_of m) (first_name (constants m)) m.functions
names-here m =
    let values = constants m in
    let front : List Constant = fixed_entries (class_name m.name) ++ values_entries first_value values in
    let long : first_name values ≡ length front = omega (arith, value-count first_value values) in
    named (pool_of m) front (first_name values) m.functions refl long

-- ---- the method that is entered

flag-test : (b : Bool) → nat_eq (if b then 9 else 10) 9 ≡ b
flag-test true = refl
flag-test false = refl

public-test : (m : Module) (c : Class) (f : Function) (at : ℕ) (name : List ℕ) (arity : ℕ) → utf8_at c.pool at ≡ Some (method_name f.name f.arity) → f.arity < 256 → arity < 256
    → (bytes_eq (text_at c at) (method_name name arity) && nat_eq (method_flags m f) 9) ≡ (same_key (name, arity) (key_of f) && is_among m.exports (key_of f))
public-test m c f at name arity here small small' =
    ap (λ o. bytes_eq (unwrap_or o []) (method_name name arity) && nat_eq (method_flags m f) 9) here
    ∙ ap (λ b. b && nat_eq (method_flags m f) 9) (method-test f.name name f.arity arity small small')
    ∙ ap (λ b. same_key (name, arity) (key_of f) && b) (flag-test (is_among m.exports (key_of f)))

few-arguments : (f : Function) → is_thin_function f ≡ true → f.arity < 256
few-arguments f thin =
    let p = and_parts (is_atom_name f.name && nat_le f.arity 255 && is_count f.entry) (list_all is_thin_opcode (opcodes f)) thin in
    let q = and_parts (is_atom_name f.name && nat_le f.arity 255) (is_count f.entry) p.0 in
    let few = leb-true f.arity 255 (and_parts (is_atom_name f.name) (nat_le f.arity 255) q.0).1 in
    omega (arith, few)

-- no method is public for what the module does not export
pub none-exported : (m : Module) (c : Class) (values : List code.Value) (at : ℕ) (fs : List Function) (name : List ℕ) (arity : ℕ) → Named c.pool at fs → list_all is_thin_function fs ≡ true → arity < 256
    → is_among m.exports (name, arity) ≡ false → exported c (method_name name arity) (methods_of m values at fs) ≡ None
none-exported m c values at [] name arity names thin small private = refl
none-exported m c values at (f ∷ fs) name arity names thin small private =
    let p = and_parts (is_thin_function f) (list_all is_thin_function fs) thin in
    let rest = none-exported m c values (at + 1) fs name arity names.1 p.1 small private in
    ap (λ b. if b then Some (method_of m values at f) else exported c (method_name name arity) (methods_of m values (at + 1) fs))
    (public-test m c f at name arity names.0 (few-arguments f p.0) small ∙ other (same_key (name, arity) (key_of f)) refl) ∙ rest
  where
    other : (b : Bool) → same_key (name, arity) (key_of f) ≡ b → (b && is_among m.exports (key_of f)) ≡ false
    other true same = ap (is_among m.exports) (sym (same-keys (name, arity) (key_of f) same)) ∙ private
    other false same = refl

-- a method of the function is entered
pub record Entered (m : Module) (c : Class) (values : List code.Value) (at : ℕ) (fs : List Function) (name : List ℕ) (arity : ℕ) (f : Function) : Type 0 where
  pub index : ℕ
  pub is : exported c (method_name name arity) (methods_of m values at fs) ≡ Some (method_of m values index f)

first-exported : (m : Module) (c : Class) (values : List code.Value) (at : ℕ) (before : List Function) (f : Function) (after : List Function) (name : List ℕ) (arity : ℕ)
    → Named c.pool at (before ++ f ∷ after) → list_all is_thin_function (before ++ f ∷ after) ≡ true → arity < 256 → is_among m.exports (name, arity) ≡ true
    → list_any (λ g. same_key (name, arity) (key_of g)) before ≡ false → same_key (name, arity) (key_of f) ≡ true → Entered m c values at (before ++ f ∷ after) name arity f
first-exported m c values at [] f after name arity names thin small public' others here =
    let p = and_parts (is_thin_function f) (list_all is_thin_function after) thin in
    let among : is_among m.exports (key_of f) ≡ true = ap (is_among m.exports) (sym (same-keys (name, arity) (key_of f) here)) ∙ public' in
    let test = public-test m c f at name arity names.0 (few-arguments f p.0) small ∙ and_from (same_key (name, arity) (key_of f)) (is_among m.exports (key_of f)) here among in
    record { index = at; is = ap (λ b. if b then Some (method_of m values at f) else exported c (method_name name arity) (methods_of m values (at + 1) after)) test }
first-exported m c values at (g ∷ before) f after name arity names thin small public' others here =
    let fs : List Function = before ++ f ∷ after in
    let p = and_parts (is_thin_function g) (list_all is_thin_function fs) thin in
    let q = or_parts (same_key (name, arity) (key_of g)) (list_any (λ h. same_key (name, arity) (key_of h)) before) others in
    let rest = first-exported m c values (at + 1) before f after name arity names.1 p.1 small public' q.1 here in
    let test = public-test m c g at name arity names.0 (few-arguments g p.0) small ∙ ap (λ b. b && is_among m.exports (key_of g)) q.0 in
    record { index = rest.index; is = ap (λ b. if b then Some (method_of m values at g) else exported c (method_name name arity) (methods_of m values (at + 1) fs)) test ∙ rest.is }

pub found-exported : (m : Module) (c : Class) (values : List code.Value) (at : ℕ) (fs : List Function) (name : List ℕ) (arity : ℕ) (f : Found (name, arity) fs)
    → Named c.pool at fs → list_all is_thin_function fs ≡ true → arity < 256 → is_among m.exports (name, arity) ≡ true → Entered m c values at fs name arity f.function
found-exported m c values at fs name arity f names thin small public' =
    let split : f.before ++ f.function ∷ f.after ≡ fs = sym f.is in
    subst (λ gs. Entered m c values at gs name arity f.function) split
    (first-exported m c values at f.before f.function f.after name arity (subst (Named c.pool at) f.is names) (ap (list_all is_thin_function) split ∙ thin) small public' f.others f.here)
