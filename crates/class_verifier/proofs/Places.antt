-- The places of types put one behind another, and taken from a stack.
use Rattle.std.proofs.Common.{◌≡◌, ℕ, ◌<◌, ◌+◌, ◌-◌, suc, Bool, true, false, List, [], ◌∷◌, ◌++◌, length, get_or, take, reverse, replicate, refl, sym, ap, ◌∙◌, arith, append_assoc, Option, None}
use Rattle.std.specs.Prelude.{if◌then◌else◌, option_and_then}
use Rattle.std.proofs.lemmas.List.{append-nil, length_push, reverse-append, take_more}
use Rattle.jvm_code.specs.Types.{assignable}
use Rattle.jvm_code.specs.declared.types.VType.{VType}
use Rattle.jvm_code.specs.declared.types.VType.TheVariants as v
use Rattle.jvm_code.specs.Typing.{filled, places, places_of, taken}

pub places-push : (types : List VType) (t : VType) → places (types ++ t ∷ []) ≡ places types ++ places_of t
places-push [] t = append-nil (places_of t)
places-push (s ∷ types) t = ap (λ rest. places_of s ++ rest) (places-push types t) ∙ sym (append_assoc (places_of s) (places types) (places_of t))

-- ---- locals filled with Top

-- with one Top more there is one less to fill
pub filled-more : (count : ℕ) (types : List VType) → length types < count → filled count (types ++ v.Top ∷ []) ≡ filled count types
filled-more count types below =
    ap (λ n. (types ++ v.Top ∷ []) ++ replicate (count - n) v.Top) (length_push types v.Top)
    ∙ append_assoc types (v.Top ∷ []) (replicate (count - (length types + 1)) v.Top)
    ∙ ap (λ n. types ++ replicate n v.Top) fewer
  where
    fewer : suc (count - (length types + 1)) ≡ count - length types
    fewer = omega arith

-- ---- values taken from a stack

taken-if : (test : Bool) (all : Option (List VType)) (others : List VType) (one : Option (List VType)) → all ≡ option_and_then (taken others) one
    → (if test then all else None) ≡ option_and_then (taken others) (if test then one else None)
taken-if true all others one e = e
taken-if false all others one e = refl

pub taken-append : (wanted others stack : List VType) → taken (wanted ++ others) stack ≡ option_and_then (taken others) (taken wanted stack)
taken-append [] others stack = refl
taken-append (t ∷ wanted) others [] = refl
taken-append (t ∷ wanted) others (s ∷ stack) = taken-if (assignable s t) (taken (wanted ++ others) stack) others (taken wanted stack) (taken-append wanted others stack)

-- the last of the types is taken first
pub taken-last : (wanted : List VType) (at : ℕ) (t : VType) (stack : List VType) → at < length wanted → t ≡ get_or wanted at t
    → taken (reverse (places (take (at + 1) wanted))) stack ≡ option_and_then (taken (reverse (places (take at wanted)))) (taken (reverse (places_of t)) stack)
taken-last wanted at t stack below is =
    ap (λ types. taken (reverse (places types)) stack) (take_more wanted at t below ∙ ap (λ u. take at wanted ++ u ∷ []) (sym is))
    ∙ ap (λ types. taken (reverse types) stack) (places-push (take at wanted) t)
    ∙ ap (λ types. taken types stack) (reverse-append (places (take at wanted)) (places_of t))
    ∙ taken-append (reverse (places_of t)) (reverse (places (take at wanted))) stack
