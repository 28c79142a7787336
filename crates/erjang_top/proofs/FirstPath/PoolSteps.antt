-- The entries of the pool, one after the other.
use Rattle.std.proofs.Common.{◌≡◌, ℕ, ◌+◌, ◌*◌, ◌<◌, ◌^◌, true, Result, List, [], ◌∷◌, ◌++◌, length, get_or, drop, map, refl, sym, ap, ◌∙◌, subst, append_assoc, arith, length-append}
use Rattle.std.proofs.lemmas.List.{length-map}
use Rattle.std.specs.List.{flat_map}
use Rattle.std.specs.Result.{OnOk}
use Rattle.ej_term.specs.TermPrint.{print_atom}
use Rattle.beam_code.specs.declared.module.Function.{Function}
use Rattle.beam_code.specs.declared.module.Module.{Module}
use Rattle.erjang_top.specs.first_path.Opcode as code
use Rattle.erjang_top.specs.first_path.Opcode.{Of}
use Rattle.erjang_top.specs.first_path.Accepted.{is_thin_source, is_atom_name}
use Rattle.erjang_top.specs.first_path.ClassFile.{u2, Utf8, StringEntry, constant_bytes}
use Rattle.erjang_top.specs.Mangle.{class_name}
use Rattle.erjang_top.specs.first_path.ModuleClass.{first_value, fixed_entries, value_entries, values_entries, name_entry, constants, first_name, pool_of}
use Rattle.std.specs.Borrow.{Bor}
use Rattle.erjang_top.specs.declared.first_path.values.Value.{Value}
use Rattle.erjang_top.specs.declared.first_path.values.Value.TheVariants as value
use Rattle.erjang_top.specs.first_path.SeenValues.{seen_value}
use Rattle.erjang_top.proofs.FirstPath.Appends.{flat_map-append, item-rest, piece, adds, on_ok}

pub atom_plain : (v : Value) (n : Bor (List ℕ)) → v ≡ value.Atom n → is_thin_source (Of (seen_value v)) ≡ true → is_atom_name n.now ≡ true
atom_plain v n e h = ap (λ (w : Value). is_thin_source (Of (seen_value w))) (sym e) ∙ h

-- an atom's entries, with its text
pub atom_entries : (at : ℕ) (v : Value) (n : Bor (List ℕ)) (bytes : List ℕ) → v ≡ value.Atom n → bytes ≡ print_atom n.now
    → flat_map constant_bytes (StringEntry (at + 1) ∷ Utf8 bytes ∷ []) ≡ flat_map constant_bytes (value_entries at (seen_value v))
atom_entries at v n bytes e f =
    ap (λ (t : List ℕ). flat_map constant_bytes (StringEntry (at + 1) ∷ Utf8 t ∷ [])) f ∙ ap (λ (w : Value). flat_map constant_bytes (value_entries at (seen_value w))) (sym e)

-- one more value's entries are written
pub values-step : (xs : List Value) (i : ℕ) (x : Value) (at : ℕ) (start out new : List ℕ) → i < length xs → x ≡ get_or xs i x
    → out ++ flat_map constant_bytes (values_entries at (map seen_value (drop i xs))) ≡ start → new ≡ out ++ flat_map constant_bytes (value_entries at (seen_value x))
    → new ++ flat_map constant_bytes (values_entries (at + 2) (map seen_value (drop (i + 1) xs))) ≡ start
values-step xs i x at start out new lt is h n =
    let first = value_entries at (seen_value x) in
    let rest = values_entries (at + 2) (map seen_value (drop (i + 1) xs)) in
    let entries : values_entries at (map seen_value (drop i xs)) ≡ first ++ rest = ap (λ (ys : List Value). values_entries at (map seen_value ys)) (item-rest xs i x lt is) in
    let bytes = ap (flat_map constant_bytes) entries ∙ flat_map-append constant_bytes first rest in
    piece start out new (flat_map constant_bytes first) (flat_map constant_bytes rest) (ap (λ (t : List ℕ). out ++ t) (sym bytes) ∙ h) n

-- ---- the count

two-entries : (at : ℕ) (v : code.Value) → length (value_entries at v) ≡ 2
two-entries at (code.Integer number) = refl
two-entries at (code.Atom text) = refl
two-entries at code.Nil = refl

values-length : (at : ℕ) (values : List code.Value) → length (values_entries at values) ≡ 2 * length values
values-length at [] = refl
values-length at (v ∷ values) = omega (arith, length-append (value_entries at v) (values_entries (at + 2) values), two-entries at v, values-length (at + 2) values)

pub pool-length : (m : Module) → length (pool_of m) ≡ first_name (constants m) + length m.functions
pool-length m =
    let values = values_entries first_value (constants m) in
    let names = map name_entry m.functions in
    let a = length-append (fixed_entries (class_name m.name) ++ values) names in
    let b = length-append (fixed_entries (class_name m.name)) values in
    let c = values-length first_value (constants m) in
    let d : length names ≡ length m.functions = length-map m.functions name_entry in
    let e : length (fixed_entries (class_name m.name)) ≡ 31 = refl in
    omega arith

pub values-fit : (m : Module) (keys : List Value) → length (pool_of m) < 2 ^ 16 → map seen_value keys ≡ constants m → first_value + 2 * length keys < 2 ^ 16
values-fit m keys lt e =
    let a : length (map seen_value keys) ≡ length keys = length-map keys seen_value in
    omega (arith, pool-length m, a, ap length e)

-- ---- the whole

-- the entries are written in three parts
pub pool-bytes : (m : Module) → flat_map constant_bytes (pool_of m)
    ≡ (flat_map constant_bytes (fixed_entries (class_name m.name)) ++ flat_map constant_bytes (values_entries first_value (constants m))) ++ flat_map constant_bytes (map name_entry m.functions)
pool-bytes m =
    let fixed = fixed_entries (class_name m.name) in
    let values = values_entries first_value (constants m) in
    let names = map name_entry m.functions in
    ap (flat_map constant_bytes) (sym (append_assoc fixed values names))
    ∙ flat_map-append constant_bytes (fixed ++ values) names
    ∙ ap (λ (t : List ℕ). t ++ flat_map constant_bytes names) (flat_map-append constant_bytes fixed values)

-- the pool is written, with its count before it
pub pool-written : {T E : Type 0} (m : Module) (r : Result T E) (old one two three new : List ℕ) (keys : List Value) (functions : List Function) (class : List ℕ) (count : ℕ)
    → count ≡ first_name (constants m) + length m.functions → map seen_value keys ≡ constants m → functions ≡ m.functions → class ≡ class_name m.name
    → one ≡ old ++ u2 count → two ≡ one ++ flat_map constant_bytes (fixed_entries class) → three ≡ two ++ flat_map constant_bytes (values_entries first_value (map seen_value keys))
    → OnOk r (new ≡ three ++ flat_map constant_bytes (map name_entry functions))
    → OnOk r (new ≡ old ++ u2 (length (pool_of m)) ++ flat_map constant_bytes (pool_of m))
pool-written m r old one two three new keys functions class count n values fs name a b c d =
    let count_is : u2 count ≡ u2 (length (pool_of m)) = ap u2 (n ∙ sym (pool-length m)) in
    let A = u2 (length (pool_of m)) in
    let B = flat_map constant_bytes (fixed_entries (class_name m.name)) in
    let C = flat_map constant_bytes (values_entries first_value (constants m)) in
    let D = flat_map constant_bytes (map name_entry m.functions) in
    let a' : one ≡ old ++ A = a ∙ ap (λ (t : List ℕ). old ++ t) count_is in
    let b' : two ≡ one ++ B = b ∙ ap (λ (t : List ℕ). one ++ flat_map constant_bytes (fixed_entries t)) name in
    let c' : three ≡ two ++ C = c ∙ ap (λ (vs : List code.Value). two ++ flat_map constant_bytes (values_entries first_value vs)) values in
    let d' : OnOk r (new ≡ three ++ D) = subst (λ (gs : List Function). OnOk r (new ≡ three ++ flat_map constant_bytes (map name_entry gs))) fs d in
    on_ok r (λ e. adds one _ new _ _ (adds one two three B C b' c') e ∙ ap (λ (t : List ℕ). t ++ ((B ++ C) ++ D)) a' ∙ ap (λ (t : List ℕ). (old ++ A) ++ t) (sym (pool-bytes m))) d'
