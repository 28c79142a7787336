-- Types that stand for others, place by place.
use Rattle.std.proofs.Common.{◌≡◌, ℕ, zero, suc, ◌<◌, ◌≤◌, ◌+◌, ◌-◌, max, Bool, true, false, nat_eq, ◌&&◌, List, [], ◌∷◌, ◌++◌, length, get_or, drop, reverse, replicate, refl, sym, subst, ap, ◌∙◌, arith, length-drop}
use Rattle.std.specs.Prelude.{if◌then◌else◌}
use Rattle.std.proofs.Math.Dec.{eqb-suc-zero, eqb-zero-suc, eqb-suc-suc}
use Rattle.std.proofs.lemmas.Bool.{eq-eqb, eqb-true}
use Rattle.std.proofs.lemmas.List.{append-nil, drop_all, drop_more, get_or-map, get_or_default, length-map, reverse-append}
use Rattle.jvm_code.proofs.SignedEq.{same_bool}
use Rattle.jvm_code.specs.Types.{assignable}
use Rattle.jvm_code.specs.declared.types.VType.{VType}
use Rattle.jvm_code.specs.declared.types.VType.TheVariants as v
use Rattle.jvm_code.specs.Typing.{all_assignable, filled, is_long, places_of}
use Rattle.class_verifier.specs.declared.types.TypeRef.{TypeRef}
use Rattle.class_verifier.specs.Seen.{type_seen, types_seen, stack_seen}

-- ---- one type at a place

-- the place behind a Long
abbrev half : VType → List VType
half t = if is_long t then v.Top ∷ [] else []

places-of : (t : VType) → places_of t ≡ t ∷ half t
places-of v.Top = refl
places-of v.Integer = refl
places-of v.Long = refl
places-of v.Null = refl
places-of (v.Class name) = refl

-- the types from a place on may stand for a type and others
abbrev stands : List TypeRef → ℕ → VType → List VType → Bool
stands types place wanted rest = all_assignable (drop place (types_seen types)) (places_of wanted ++ rest)

pub past-end : (types : List TypeRef) (place : ℕ) (wanted : VType) (rest : List VType) → length types ≤ place → stands types place wanted rest ≡ false
past-end types place wanted rest h =
    ap (λ left. all_assignable left (places_of wanted ++ rest)) (drop_all place (types_seen types) (subst (λ n. n ≤ place) (sym (length-map types type_seen)) h))
    ∙ ap (λ ps. all_assignable [] (ps ++ rest)) (places-of wanted)

at-place : (types : List TypeRef) (place : ℕ) (t : TypeRef) (wanted : VType) (rest : List VType) → place < length types → t ≡ get_or types place t
    → all_assignable (drop place (types_seen types)) (wanted ∷ rest) ≡ assignable (type_seen t) wanted && all_assignable (drop (place + 1) (types_seen types)) rest
at-place types place t wanted rest below is =
    ap (λ left. all_assignable left (wanted ∷ rest)) (drop_more (types_seen types) place (type_seen t) (subst (λ n. place < n) (sym (length-map types type_seen)) below))
    ∙ ap (λ u. assignable u wanted && all_assignable (drop (place + 1) (types_seen types)) rest) (get_or-map type_seen types place t (type_seen t) below ∙ ap type_seen (sym is))

stands-if : (types : List TypeRef) (place : ℕ) (t : TypeRef) (wanted : VType) (rest : List VType) → place < length types → t ≡ get_or types place t
    → stands types place wanted rest ≡ assignable (type_seen t) wanted && all_assignable (drop (place + 1) (types_seen types)) (half wanted ++ rest)
stands-if types place t wanted rest below is =
    ap (λ ps. all_assignable (drop place (types_seen types)) (ps ++ rest)) (places-of wanted) ∙ at-place types place t wanted (half wanted ++ rest) below is

pub not-fit : (types : List TypeRef) (place : ℕ) (t : TypeRef) (wanted : VType) (rest : List VType) → place < length types → t ≡ get_or types place t
    → assignable (type_seen t) wanted ≡ false → stands types place wanted rest ≡ false
not-fit types place t wanted rest below is unfit =
    stands-if types place t wanted rest below is ∙ ap (λ b. b && all_assignable (drop (place + 1) (types_seen types)) (half wanted ++ rest)) unfit

pub fit-single : (types : List TypeRef) (place : ℕ) (t : TypeRef) (wanted : VType) (rest : List VType) → place < length types → t ≡ get_or types place t
    → assignable (type_seen t) wanted ≡ true → is_long wanted ≡ false → stands types place wanted rest ≡ all_assignable (drop (place + 1) (types_seen types)) rest
fit-single types place t wanted rest below is fits single =
    stands-if types place t wanted rest below is
    ∙ ap (λ b. b && all_assignable (drop (place + 1) (types_seen types)) (half wanted ++ rest)) fits
    ∙ ap (λ b. all_assignable (drop (place + 1) (types_seen types)) ((if b then v.Top ∷ [] else []) ++ rest)) single

-- of a Long the place behind is left
fit-long : (types : List TypeRef) (place : ℕ) (t : TypeRef) (wanted : VType) (rest : List VType) → place < length types → t ≡ get_or types place t
    → assignable (type_seen t) wanted ≡ true → is_long wanted ≡ true → stands types place wanted rest ≡ all_assignable (drop (place + 1) (types_seen types)) (v.Top ∷ rest)
fit-long types place t wanted rest below is fits long =
    stands-if types place t wanted rest below is
    ∙ ap (λ b. b && all_assignable (drop (place + 1) (types_seen types)) (half wanted ++ rest)) fits
    ∙ ap (λ b. all_assignable (drop (place + 1) (types_seen types)) ((if b then v.Top ∷ [] else []) ++ rest)) long

pub fit-no-half : (types : List TypeRef) (place : ℕ) (t : TypeRef) (wanted : VType) (rest : List VType) → place < length types → t ≡ get_or types place t
    → assignable (type_seen t) wanted ≡ true → is_long wanted ≡ true → length types ≤ place + 1 → stands types place wanted rest ≡ false
fit-no-half types place t wanted rest below is fits long end =
    fit-long types place t wanted rest below is fits long ∙ past-end types (place + 1) v.Top rest end

pub fit-both : (types : List TypeRef) (place : ℕ) (t : TypeRef) (wanted : VType) (rest : List VType) → place < length types → t ≡ get_or types place t
    → assignable (type_seen t) wanted ≡ true → is_long wanted ≡ true → place + 1 < length types
    → stands types place wanted rest ≡ all_assignable (drop (place + 2) (types_seen types)) rest
fit-both types place t wanted rest below is fits long behind =
    fit-long types place t wanted rest below is fits long
    ∙ at-place types (place + 1) (get_or types (place + 1) t) v.Top rest behind (get_or_default types (place + 1) t (get_or types (place + 1) t) behind)
    ∙ ap (λ n. all_assignable (drop n (types_seen types)) rest) next
  where
    next : (place + 1) + 1 ≡ place + 2
    next = omega arith

-- ---- types from the end

and-false : (b : Bool) → b && false ≡ false
and-false true = refl
and-false false = refl

and-assoc : (a b c : Bool) → a && b && c ≡ a && (b && c)
and-assoc true b c = refl
and-assoc false b c = refl

and-swap : (a b : Bool) → a && b ≡ b && a
and-swap true true = refl
and-swap true false = refl
and-swap false true = refl
and-swap false false = refl

none-of-some : (types : List VType) (t : VType) → all_assignable [] (types ++ t ∷ []) ≡ false
none-of-some [] t = refl
none-of-some (s ∷ types) t = refl

some-of-none : (types : List VType) (t : VType) → all_assignable (types ++ t ∷ []) [] ≡ false
some-of-none [] t = refl
some-of-none (s ∷ types) t = refl

pub assignable-push : (types others : List VType) (t u : VType) → all_assignable (types ++ t ∷ []) (others ++ u ∷ []) ≡ all_assignable types others && assignable t u
assignable-push [] [] t u = and-swap (assignable t u) true
assignable-push [] (o ∷ others) t u = ap (λ b. assignable t o && b) (none-of-some others u) ∙ and-false (assignable t o)
assignable-push (s ∷ types) [] t u = ap (λ b. assignable s u && b) (some-of-none types t) ∙ and-false (assignable s u)
assignable-push (s ∷ types) (o ∷ others) t u = ap (λ b. assignable s o && b) (assignable-push types others t u) ∙ sym (and-assoc (assignable s o) (all_assignable types others) (assignable t u))

turned : (t : VType) (types : List VType) → reverse (t ∷ types) ≡ reverse types ++ t ∷ []
turned t types = reverse-append (t ∷ []) types

pub assignable-reverse : (types others : List VType) → all_assignable (reverse types) (reverse others) ≡ all_assignable types others
assignable-reverse [] [] = refl
assignable-reverse [] (o ∷ others) = ap (all_assignable []) (turned o others) ∙ none-of-some (reverse others) o
assignable-reverse (s ∷ types) [] = ap (λ ts. all_assignable ts []) (turned s types) ∙ some-of-none (reverse types) s
assignable-reverse (s ∷ types) (o ∷ others) =
    ap (λ ts. all_assignable ts (reverse (o ∷ others))) (turned s types)
    ∙ ap (all_assignable (reverse types ++ s ∷ [])) (turned o others)
    ∙ assignable-push (reverse types) (reverse others) s o
    ∙ ap (λ b. b && assignable s o) (assignable-reverse types others)
    ∙ and-swap (all_assignable types others) (assignable s o)

-- ---- what stands for Top

assignable-tops : (types : List VType) (count : ℕ) → all_assignable types (replicate count v.Top) ≡ nat_eq (length types) count
assignable-tops [] zero = refl
assignable-tops [] (suc count) = sym (eqb-zero-suc count)
assignable-tops (t ∷ types) zero = sym (eqb-suc-zero (length types))
assignable-tops (t ∷ types) (suc count) = assignable-tops types count ∙ sym (eqb-suc-suc (length types) count)

-- ---- lists that are gone through

-- the types behind the last that was looked at stand for Tops where there are as many
pub filled-fit : (types : List TypeRef) (wanted : List VType) (end count most : ℕ) → end ≡ length wanted → end ≤ length types
    → most ≡ max end count
    → ((rest : List VType) → all_assignable (types_seen types) (wanted ++ rest) ≡ all_assignable (drop end (types_seen types)) rest)
    → nat_eq (length types) most ≡ all_assignable (types_seen types) (filled count wanted)
filled-fit types wanted end count most is within top fit = sym (
    fit (replicate (count - length wanted) v.Top)
    ∙ assignable-tops (drop end (types_seen types)) (count - length wanted)
    ∙ ap (λ n. nat_eq n (count - length wanted)) (length-drop end (types_seen types) ∙ ap (λ n. n - end) (length-map types type_seen))
    ∙ same_bool (nat_eq (length types - end) (count - length wanted)) (nat_eq (length types) most)
    (λ h. eq-eqb (length types) most (let e = eqb-true (length types - end) (count - length wanted) h in omega arith))
    (λ h. eq-eqb (length types - end) (count - length wanted) (let e = eqb-true (length types) most h in omega arith)))

-- a stack fits where as many were looked at
pub stack-fit : (types : List TypeRef) (wanted : List VType) (end : ℕ) → end ≤ length types
    → ((rest : List VType) → all_assignable (types_seen types) (wanted ++ rest) ≡ all_assignable (drop end (types_seen types)) rest)
    → nat_eq (length types) end ≡ all_assignable (stack_seen types) (reverse wanted)
stack-fit types wanted end within fit = sym (
    assignable-reverse (types_seen types) wanted
    ∙ ap (all_assignable (types_seen types)) (sym (append-nil wanted))
    ∙ fit []
    ∙ assignable-tops (drop end (types_seen types)) 0
    ∙ ap (λ n. nat_eq n 0) (length-drop end (types_seen types) ∙ ap (λ n. n - end) (length-map types type_seen))
    ∙ same_bool (nat_eq (length types - end) 0) (nat_eq (length types) end)
    (λ h. eq-eqb (length types) end (let e = eqb-true (length types - end) 0 h in omega arith))
    (λ h. eq-eqb (length types - end) 0 (let e = eqb-true (length types) end h in omega arith)))

pub stack-no-fit : (types : List TypeRef) (wanted : List VType) → ((rest : List VType) → all_assignable (types_seen types) (wanted ++ rest) ≡ false)
    → false ≡ all_assignable (stack_seen types) (reverse wanted)
stack-no-fit types wanted fit = sym (assignable-reverse (types_seen types) wanted ∙ ap (all_assignable (types_seen types)) (sym (append-nil wanted)) ∙ fit [])
