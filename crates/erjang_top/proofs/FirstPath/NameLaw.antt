-- The name of a class tells its module, and the name of a method its function's name and arity.
use Rattle.std.proofs.Common.{◌≡◌, ℕ, ◌+◌, ◌-◌, ◌*◌, ◌/◌, ◌%◌, ◌<◌, inl, inr, Bool, true, false, not, nat_eq, nat_lt, if◌then◌else◌, List, [], ◌∷◌, ◌++◌, None, codes, encode_utf8_all, map, refl, sym, ap, subst, ◌∙◌, append_assoc, arith}
use Rattle.std.specs.List.{list_all, AllByRecursion, IsDistinct}
use Rattle.std.specs.Str.{bytes_eq}
use Rattle.std.proofs.lemmas.Map.Keys.{IsDistinct-cons, IsDistinct-from_apart}
use Rattle.std.proofs.lemmas.Slice.Eq.{bytes_eq-Decides}
use Rattle.beam_code.specs.Keys.{Key, same_key, is_among, no_key_twice}
use Rattle.std.specs.Fmt.{digits, decimal}
use Rattle.std.proofs.lemmas.Bool.{and_parts, and_from, or_parts, not-true, both_ways, false_from_ne_true, cases_lt, lt-ltb, le-ltb, ne_eqb, eq-eqb, agree_below_at}
use Rattle.std.proofs.lemmas.Fmt.{decimal_injective}
use Rattle.std.proofs.lemmas.List.{append_cancel_left, append_cancel_right}
use Rattle.std.proofs.lemmas.Nat.{div-add-mod'}
use Rattle.std.proofs.lemmas.Str.{encodes_same}
use Rattle.erjang_top.specs.Mangle.{is_kept, upper_digit, mangle_byte, mangle, class_name, method_name}
use Rattle.erjang_top.proofs.FirstPath.Spelling.{Reader, took, flat_map_same}

-- ---- mangled bytes

abbrev digit_of : ℕ → ℕ
digit_of c = if nat_lt c 58 then c - 48 else c - 55

abbrev escaped : Reader ℕ
escaped [] = None
escaped (h ∷ []) = None
escaped (h ∷ l ∷ rest) = took (digit_of h * 16 + digit_of l) rest

abbrev read_mangled : Reader ℕ
read_mangled [] = None
read_mangled (c ∷ rest) = if nat_eq c 36 then escaped rest else took c rest

digit_back : (d : ℕ) → digit_of (upper_digit d) ≡ d
digit_back d =
    elim (cases_lt d 10) [
      | inl low ↦ rw (lt-ltb d 10 low, lt-ltb (48 + d) 58 (omega arith)) (omega arith)
      | inr high ↦ rw (le-ltb d 10 high, le-ltb (55 + d) 58 (omega arith)) (omega arith)
    ]

kept_is_no_escape : (b : ℕ) → is_kept b ≡ true → b ≡ 36 → ⊥
kept_is_no_escape b h e = let none : is_kept 36 ≡ true = subst (λ (c : ℕ). is_kept c ≡ true) e h in cc

mangled_back : (b : ℕ) (k : Bool) (rest : List ℕ) → is_kept b ≡ k → read_mangled ((if k then b ∷ [] else 36 ∷ upper_digit (b / 16) ∷ upper_digit (b % 16) ∷ []) ++ rest) ≡ took b rest
mangled_back b true rest h = rw (ne_eqb b 36 (kept_is_no_escape b h)) refl
mangled_back b false rest h = rw (digit_back (b / 16), digit_back (b % 16)) (ap (λ (n : ℕ). took n rest) (div-add-mod' b 16))

abbrev Any : ℕ → Type 0
Any b = Unit {0}

any_bytes : (bytes : List ℕ) → AllByRecursion Any bytes
any_bytes [] = tt
any_bytes (b ∷ bytes) = (tt, any_bytes bytes)

pub mangle_tells : (f g : List ℕ) → mangle f ≡ mangle g → f ≡ g
mangle_tells f g e =
    encodes_same f g (flat_map_same Any mangle_byte read_mangled (λ b rest h. mangled_back b (is_kept b) rest refl) refl (encode_utf8_all f) (encode_utf8_all g) (any_bytes _) (any_bytes _) e)

pub class_name_tells : (m n : List ℕ) → class_name m ≡ class_name n → m ≡ n
class_name_tells m n e = mangle_tells m n (append_cancel_left (codes "erl/m/") (mangle m) (mangle n) e)

-- ---- the last `_`

abbrev is_no_mark : ℕ → Bool
is_no_mark c = not (nat_eq c 95)

no_mark_in : (xs ys : List ℕ) → list_all is_no_mark (xs ++ 95 ∷ ys) ≡ true → ⊥
no_mark_in [] ys h = cc
no_mark_in (x ∷ xs) ys h = no_mark_in xs ys (and_parts (is_no_mark x) (list_all is_no_mark (xs ++ 95 ∷ ys)) h).1

same_sides : (xs ys ds es : List ℕ) → list_all is_no_mark ds ≡ true → list_all is_no_mark es ≡ true → xs ++ 95 ∷ ds ≡ ys ++ 95 ∷ es → (xs ≡ ys) × (ds ≡ es)
same_sides [] [] ds es f g e = (refl, cc)
same_sides [] (y ∷ ys) ds es f g e = let inside : ds ≡ ys ++ 95 ∷ es = cc in absurd (no_mark_in ys es (subst (λ (t : List ℕ). list_all is_no_mark t ≡ true) inside f))
same_sides (x ∷ xs) [] ds es f g e = let inside : es ≡ xs ++ 95 ∷ ds = cc in absurd (no_mark_in xs ds (subst (λ (t : List ℕ). list_all is_no_mark t ≡ true) inside g))
same_sides (x ∷ xs) (y ∷ ys) ds es f g e =
    let here : x ≡ y = cc in
    let rest = same_sides xs ys ds es f g cc in
    (cc (here, rest.0), rest.1)

decimal_no_mark : (n : ℕ) → n < 256 → list_all is_no_mark (decimal n) ≡ true
unfolding digits
decimal_no_mark n lt = agree_below_at (λ k. list_all is_no_mark (decimal k)) (λ k. true) 256 n refl lt

pub method_name_tells : (f g : List ℕ) (a b : ℕ) → a < 256 → b < 256 → method_name f a ≡ method_name g b → (f ≡ g) × (a ≡ b)
method_name_tells f g a b lt lt' e =
    let cut = λ (name : List ℕ) (n : ℕ). append_assoc (mangle name) (codes "__") (decimal n) ∙ sym (append_assoc (mangle name) (codes "_") (95 ∷ decimal n)) in
    let p = same_sides (mangle f ++ codes "_") (mangle g ++ codes "_") (decimal a) (decimal b) (decimal_no_mark a lt) (decimal_no_mark b lt') (sym (cut f a) ∙ e ∙ cut g b) in
    (mangle_tells f g (append_cancel_right (mangle f) (mangle g) (codes "_") p.0), decimal_injective a b (omega arith) (omega arith) p.1)

-- ---- the methods of a module

abbrev pub method_of : Key → List ℕ
method_of key = method_name key.0 key.1

other_method : (key other : Key) → key.1 < 256 → other.1 < 256 → same_key key other ≡ false → bytes_eq (method_of key) (method_of other) ≡ false
other_method key other lt lt' h =
    false_from_ne_true _ (λ same.
    let p = method_name_tells key.0 other.0 key.1 other.1 lt lt' ((bytes_eq-Decides (method_of key) (method_of other)).0 same) in
    both_ways (same_key key other) h (and_from _ _ ((bytes_eq-Decides key.0 other.0).1 p.0) (eq-eqb key.1 other.1 p.1)))

other_methods : (key : Key) (keys : List Key) → key.1 < 256 → AllByRecursion (λ k. k.1 < 256) keys → is_among keys key ≡ false
    → AllByRecursion (λ name. bytes_eq (method_of key) name ≡ false) (map method_of keys)
other_methods key [] lt f h = tt
other_methods key (k ∷ keys) lt f h =
    let p = or_parts (same_key key k) (is_among keys key) h in
    (other_method key k lt f.0 p.0, other_methods key keys lt f.1 p.1)

-- functions that differ in name or arity have methods of different names
pub methods_distinct : (keys : List Key) → AllByRecursion (λ k. k.1 < 256) keys → no_key_twice keys ≡ true → IsDistinct bytes_eq (map method_of keys)
methods_distinct [] f h = IsDistinct-from_apart bytes_eq [] (λ i j d lt k. absurd (omega arith))
methods_distinct (key ∷ keys) f h =
    let p = and_parts (not (is_among keys key)) (no_key_twice keys) h in
    IsDistinct-cons bytes_eq (method_of key) (map method_of keys) (other_methods key keys f.0 f.1 (not-true (is_among keys key) p.0)) (methods_distinct keys f.1 p.1)
