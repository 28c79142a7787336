-- A text passes as the name of a class exactly where a module has it.
use Rattle.std.proofs.Common.{◌≡◌, ℕ, ◌/◌, ◌%◌, ◌<◌, ◌≤◌, nat_lt, Bool, true, false, ◌&&◌, cond, List, [], ◌∷◌, ◌++◌, length, take, drop, codes, Option, None, Some, encode_utf8_all, flat_map, refl, sym, ap, ◌∙◌, length-append, length-drop, arith}
use Rattle.std.proofs.lemmas.Bool.{and_parts, ltb-true}
use Rattle.std.proofs.lemmas.Bool.Decides.{nat_tests}
use Rattle.std.proofs.lemmas.List.{take-append-drop}
use Rattle.std.proofs.lemmas.Slice.Eq.{bytes_eq-Decides}
use Rattle.std.proofs.lemmas.Str.{IsUtf8-from_is_utf8, is_utf8-from_IsUtf8, length-le-encodes}
use Rattle.std.specs.Str.{all_scalars}
use Rattle.jvm_code.specs.Names.{are_utf8, is_kept, upper_digit, mangle_byte, mangle, class_name, unmangle, is_mangled, is_class_name}
use Rattle.jvm_code.specs.NamesLaw.{NameOf, ModuleOf}
use Rattle.jvm_code.proofs.MangleLaw.{unmangled, text_told}
use Rattle.jvm_code.proofs.Utf8Bytes.{text_bytes}

pub name_told : (text : List ℕ) → is_mangled text ≡ true → NameOf text
name_told text e = go (unmangle text) refl e
  where
    go : (o : Option (List ℕ)) → unmangle text ≡ o → are_utf8 o ≡ true → NameOf text
    go None u e = absurd cc
    go (Some bs) u e = let t = IsUtf8-from_is_utf8 bs e in record { name = t.0; scalar = t.1.0; is = text_told text bs u ∙ ap (flat_map mangle_byte) (sym t.1.1) }

pub class_told : (text : List ℕ) → is_class_name text ≡ true → ModuleOf text
class_told text e =
    let p = and_parts _ _ e in
    let q = and_parts _ _ p.0 in
    let long : 6 < length text = ltb-true 6 (length text) q.0 in
    let n = name_told (drop 6 text) p.1 in
    record {
      name = n.name;
      scalar = n.scalar;
      some = some n.name (omega (arith, long, length-drop 6 text, ap length n.is));
      is = sym (take-append-drop 6 text) ∙ ap (λ front. front ++ drop 6 text) ((bytes_eq-Decides (take 6 text) (codes "erl/m/")).0 q.1) ∙ ap (λ m. codes "erl/m/" ++ m) n.is;
    }
  where
    some : (name : List ℕ) → 0 < length (mangle name) → 0 < length name
    some [] l = absurd (omega (arith, l))
    some (c ∷ cs) l = omega arith

pub name_spelled : (name : List ℕ) → all_scalars name ≡ true → is_mangled (mangle name) ≡ true
name_spelled name s =
    ap are_utf8 (unmangled (encode_utf8_all name) (text_bytes name s)) ∙ is_utf8-from_IsUtf8 (encode_utf8_all name) (name, (s, refl))

mangled_some : (b : ℕ) → 0 < length (mangle_byte b)
mangled_some b = go (is_kept b)
  where
    go : (c : Bool) → 0 < length (cond c (b ∷ []) (36 ∷ upper_digit (b / 16) ∷ upper_digit (b % 16) ∷ []))
    go true = omega arith
    go false = omega arith

mangled_length : (bs : List ℕ) → length bs ≤ length (flat_map mangle_byte bs)
mangled_length [] = omega arith
mangled_length (b ∷ bs) = omega (arith, mangled_some b, mangled_length bs, length-append (mangle_byte b) (flat_map mangle_byte bs))

test : (m n : ℕ) → m < n → nat_lt m n ≡ true
test m n l = grind (arith, nat_tests)

pub class_spelled : (name : List ℕ) → all_scalars name ≡ true → 0 < length name → is_class_name (class_name name) ≡ true
class_spelled name s l =
    let some : 0 < length (mangle name) = omega (arith, l, length-le-encodes name, mangled_length (encode_utf8_all name)) in
    go (mangle name) some (name_spelled name s)
  where
    go : (text : List ℕ) → 0 < length text → is_mangled text ≡ true → is_class_name (codes "erl/m/" ++ text) ≡ true
    go [] l e = absurd (omega (arith, l))
    go (x ∷ xs) l e =
        let n = length (codes "erl/m/" ++ x ∷ xs) in
        let long : nat_lt 6 n ≡ true = test 6 n (omega arith) in ap (λ c. (c && true) && is_mangled (x ∷ xs)) long ∙ e
