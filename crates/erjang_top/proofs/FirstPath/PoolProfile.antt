-- The constant pool of a module's class is one of the profile.
use Rattle.std.proofs.Common.{◌≡◌, ℕ, ◌+◌, ◌*◌, ◌<◌, ◌≤◌, ◌^◌, true, false, nat_le, lit<, List, [], ◌∷◌, ◌++◌, length, map, codes, Some, refl, sym, ap, ◌∙◌, append_assoc, length-append, arith}
use Rattle.std.specs.Prelude.{slice_get, is_some, IsSome}
use Rattle.std.specs.List.{list_all, AllByRecursion}
use Rattle.std.specs.Option.{option_and_then}
use Rattle.std.proofs.lemmas.Bool.{and_parts, leb-true}
use Rattle.std.proofs.lemmas.List.{length-map}
use Rattle.ej_term.specs.TermPrint.{print_atom}
use Rattle.beam_code.specs.declared.module.Function.{Function}
use Rattle.beam_code.specs.declared.module.Module.{Module}
use Rattle.erjang_top.specs.first_path.Opcode.{Value, Integer, Atom, Nil}
use Rattle.erjang_top.specs.first_path.Weights.{weight, pool_weight, fits}
use Rattle.erjang_top.specs.first_path.ClassFile.{Constant, Gap, Utf8, Long, StringEntry}
use Rattle.erjang_top.specs.first_path.ClassProfile.{utf8_in, utf8_at, has_gaps, IsEntry, IsPool}
use Rattle.erjang_top.specs.Mangle.{class_name, method_name}
use Rattle.erjang_top.specs.first_path.ModuleClass.{fixed_entries, first_value, value_entries, values_entries, name_entry, constants, pool_of}
use Rattle.erjang_top.proofs.FirstPath.NameText.{IsNameText, class_name_text, method_name_text, utf8_entry, spelled_entry}
use Rattle.erjang_top.proofs.FirstPath.AtomText.{atom_entry}
use Rattle.erjang_top.proofs.FirstPath.ThinValues.{IsThinValue, IsThinFunction, IsThinModule, all-append, integer-fits}
use Rattle.erjang_top.proofs.FirstPath.ModuleValues.{get-behind}

-- ---- how many there are

value-length : (at : ℕ) (value : Value) → length (value_entries at value) ≡ 2
value-length at (Integer number) = refl
value-length at (Atom name) = refl
value-length at Nil = refl

pub values-length : (at : ℕ) (values : List Value) → length (values_entries at values) ≡ 2 * length values
values-length at [] = refl
values-length at (value ∷ values) =
    omega (arith, length-append (value_entries at value) (values_entries (at + 2) values), value-length at value, values-length (at + 2) values)

pub pool-length : (m : Module) → length (pool_of m) ≡ 31 + 2 * length (constants m) + length m.functions
pool-length m =
    let others = length-append (values_entries first_value (constants m)) (map name_entry m.functions) in
    let values = values-length first_value (constants m) in
    let names = length-map m.functions name_entry in
    omega (arith, others, values, names)

pub pool-within : (m : Module) → length (pool_of m) ≤ pool_weight m
pool-within m = omega (arith, pool-length m)

pub pool-short : (m : Module) → fits m ≡ true → length (pool_of m) < 2 ^ 16
pool-short m h =
    let a = leb-true (pool_weight m) 65534 (and_parts (list_all (λ f. nat_le (weight f) 32767) m.functions) (nat_le (pool_weight m) 65534) h).1 in
    omega (arith, a, pool-within m)

-- ---- its gaps

names-gaps : (fs : List Function) → has_gaps false (map name_entry fs) ≡ true
names-gaps [] = refl
names-gaps (f ∷ fs) = names-gaps fs

values-gaps : (at : ℕ) (values : List Value) (rest : List Constant) → has_gaps false rest ≡ true → has_gaps false (values_entries at values ++ rest) ≡ true
values-gaps at [] rest h = h
values-gaps at (Integer number ∷ values) rest h = values-gaps (at + 2) values rest h
values-gaps at (Atom name ∷ values) rest h = values-gaps (at + 2) values rest h
values-gaps at (Nil ∷ values) rest h = values-gaps (at + 2) values rest h

pool-gaps : (m : Module) → has_gaps true (pool_of m) ≡ true
pool-gaps m = values-gaps first_value (constants m) (map name_entry m.functions) (names-gaps m.functions)

-- ---- its entries

-- the text of the entry behind a string's
text-behind : (pool front rest : List Constant) (at : ℕ) (text : List ℕ) → pool ≡ front ++ (StringEntry (at + 1) ∷ Utf8 text ∷ rest) → at ≡ length front → IsSome (utf8_at pool (at + 1))
text-behind pool front rest at text e l =
    let place : at + 1 ≡ length front + 1 = omega (arith, l) in
    let found : slice_get pool (at + 1) ≡ Some (Utf8 text) = ap (slice_get pool) place ∙ ap (λ (es : List Constant). slice_get es (length front + 1)) e ∙ get-behind front (StringEntry (at + 1) ∷ Utf8 text ∷ rest) 1 in
    ap is_some (ap (option_and_then utf8_in) found)

values-entries : (pool front : List Constant) (at : ℕ) (values : List Value) (rest : List Constant) → pool ≡ front ++ (values_entries at values ++ rest) → at ≡ length front
    → AllByRecursion IsThinValue values → AllByRecursion (IsEntry pool) (values_entries at values)
values-entries pool front at [] rest e l all = tt
values-entries pool front at (Integer number ∷ values) rest e l all =
    (integer-fits number all.0, (tt, values-entries pool (front ++ (Long number ∷ Gap ∷ [])) (at + 2) values rest (e ∙ sym (append_assoc front (Long number ∷ Gap ∷ []) (values_entries (at + 2) values ++ rest))) (omega (arith, l, length-append front (Long number ∷ Gap ∷ []))) all.1))
values-entries pool front at (Atom name ∷ values) rest e l all = (
  text-behind pool front (values_entries (at + 2) values ++ rest) at (print_atom name) e l,
  (
    atom_entry pool name all.0,
    values-entries pool (front ++ (StringEntry (at + 1) ∷ Utf8 (print_atom name) ∷ [])) (at + 2) values rest (e ∙ sym (append_assoc front (StringEntry (at + 1) ∷ Utf8 (print_atom name) ∷ []) (values_entries (at + 2) values ++ rest))) (omega (arith, l, length-append front (StringEntry (at + 1) ∷ Utf8 (print_atom name) ∷ []))) all.1,
  ),
)
values-entries pool front at (Nil ∷ values) rest e l all = (
  text-behind pool front (values_entries (at + 2) values ++ rest) at (codes "[]") e l,
  (
    spelled_entry pool (codes "[]") refl (lit< tt),
    values-entries pool (front ++ (StringEntry (at + 1) ∷ Utf8 (codes "[]") ∷ [])) (at + 2) values rest (e ∙ sym (append_assoc front (StringEntry (at + 1) ∷ Utf8 (codes "[]") ∷ []) (values_entries (at + 2) values ++ rest))) (omega (arith, l, length-append front (StringEntry (at + 1) ∷ Utf8 (codes "[]") ∷ []))) all.1,
  ),
)

names-entries : (pool : List Constant) (fs : List Function) → AllByRecursion IsThinFunction fs → AllByRecursion (IsEntry pool) (map name_entry fs)
names-entries pool [] all = tt
names-entries pool (f ∷ fs) all = (utf8_entry pool 3065 (method_name f.name f.arity) (lit< tt) (method_name_text f.name f.arity all.0.name (omega (arith, all.0.arity))), names-entries pool fs all.1)

fixed-entries : (m : Module) → IsNameText m.name → AllByRecursion (IsEntry (pool_of m)) (fixed_entries (class_name m.name))
fixed-entries m t =
    let pool = pool_of m in
    (tt, (utf8_entry pool 3066 (class_name m.name) (lit< tt) (class_name_text m.name t), (refl, (spelled_entry pool _ refl (lit< tt), (refl, (spelled_entry pool _ refl (lit< tt), (spelled_entry pool _ refl (lit< tt), (spelled_entry pool _ refl (lit< tt), (refl, (spelled_entry pool _ refl (lit< tt), (spelled_entry pool _ refl (lit< tt), ((refl, refl), ((refl, refl), (spelled_entry pool _ refl (lit< tt), (spelled_entry pool _ refl (lit< tt), ((refl, refl), ((refl, refl), (spelled_entry pool _ refl (lit< tt), (spelled_entry pool _ refl (lit< tt), ((refl, refl), ((refl, refl), (spelled_entry pool _ refl (lit< tt), (spelled_entry pool _ refl (lit< tt), ((refl, refl), ((refl, refl), (spelled_entry pool _ refl (lit< tt), (spelled_entry pool _ refl (lit< tt), ((refl, refl), ((refl, refl), (refl, (spelled_entry pool _ refl (lit< tt), tt)))))))))))))))))))))))))))))))

pub pool-profile : (m : Module) → IsThinModule m → fits m ≡ true → IsPool (pool_of m)
pool-profile m t h = record {
  count = pool-short m h;
  gaps = pool-gaps m;
  entries =
      all-append (IsEntry (pool_of m)) (fixed_entries (class_name m.name)) _ (fixed-entries m t.name)
      (all-append (IsEntry (pool_of m)) (values_entries first_value (constants m)) _
      (values-entries (pool_of m) (fixed_entries (class_name m.name)) first_value (constants m) (map name_entry m.functions) refl refl t.values)
      (names-entries (pool_of m) m.functions t.functions));
}
