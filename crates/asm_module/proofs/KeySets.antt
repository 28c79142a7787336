-- Sets of names and arities.
use Rattle.std.proofs.Common.{◌≡◌, ℕ, Bool, true, false, not, nat_eq, ◌&&◌, ◌||◌, List, [], ◌∷◌, ◌++◌, map, refl, sym, ap, ◌∙◌, arith}
use Rattle.std.specs.Prelude.{if◌then◌else◌}
use Rattle.std.specs.Borrow.{Bor}
use Rattle.std.specs.List.{list_any}
use Rattle.std.specs.Str.{bytes_eq}
use Rattle.std.specs.Cmp.Lexicographic.{nat_list_eq_equiv}
use Rattle.std.specs.Cmp.{nat_eq_equiv}
use Rattle.std.proofs.lemmas.Bool.{and_parts, or_parts}
use Rattle.std.proofs.lemmas.Bool.Decides.{nat_tests}
use Rattle.std.proofs.lemmas.List.Folds.{list_any-append}
use Rattle.std.proofs.lemmas.List.{map-append}
use Rattle.indexmap.specs.IndexSet.{insert_key}
use Rattle.beam_code.specs.Keys.{Key, same_key, is_among, no_key_twice}
use Rattle.asm_module.specs.Seen.{key_seen, is_held}

abbrev pub Held : Type 0
Held = Bor (List ℕ) × ℕ

-- as the set compares them
abbrev pub eq_held : Held → Held → Bool
eq_held a b = same_key (key_seen a) (key_seen b)

-- whether the set has a key
pub has-key : (ks : List Held) (key : Key) → list_any (λ k. same_key key (key_seen k)) ks ≡ is_held ks key
has-key [] key = refl
has-key (k ∷ ks) key = ap (λ b. same_key key (key_seen k) || b) (has-key ks key)

-- what adding a key answers
pub told : (ks : List Held) (k : Held) (r : Bool) → r ≡ not (list_any (eq_held k) ks) → r ≡ not (is_held ks (key_seen k))
told ks k r e = e ∙ ap not (has-key ks (key_seen k))

-- and does
pub put : (ks new : List Held) (k : Held) (r : Bool) → r ≡ not (list_any (eq_held k) ks) → new ≡ insert_key eq_held ks k
    → map key_seen new ≡ (if r then map key_seen ks ++ key_seen k ∷ [] else map key_seen ks)
put ks new k r e f = ap (map key_seen) f ∙ by (list_any (eq_held k) ks) ∙ ap (λ b. if b then map key_seen ks ++ key_seen k ∷ [] else map key_seen ks) (sym e)
  where
    by : (b : Bool) → map key_seen (if b then ks else ks ++ k ∷ []) ≡ (if not b then map key_seen ks ++ key_seen k ∷ [] else map key_seen ks)
    by true = refl
    by false = map-append key_seen ks (k ∷ [])

flip-number : (m n : ℕ) → nat_eq m n ≡ nat_eq n m
flip-number m n = grind (arith, nat_tests)

flip-key : (a b : Key) → same_key a b ≡ same_key b a
flip-key a b i = nat_list_eq_equiv.symm a.0 b.0 i && flip-number a.1 b.1 i

-- one more, which was not there
pub one_more : (xs : List Key) (k : Key) → no_key_twice xs ≡ true → is_among xs k ≡ false → no_key_twice (xs ++ k ∷ []) ≡ true
one_more [] k e h = refl
one_more (x ∷ xs) k e h =
    let p = and_parts (not (is_among xs x)) (no_key_twice xs) e in
    let q = or_parts (same_key k x) (is_among xs k) h in
    by (is_among xs x) refl p.0 (flip-key x k ∙ q.0) (one_more xs k p.1 q.1)
  where
    by : (a : Bool) → is_among xs x ≡ a → not a ≡ true → same_key x k ≡ false → no_key_twice (xs ++ k ∷ []) ≡ true → no_key_twice (x ∷ xs ++ k ∷ []) ≡ true
    by true ea na apart rest = absurd (cc)
    by false ea na apart rest = rw (list_any-append (same_key x) xs (k ∷ []), ea, apart, rest) refl

-- equal keys are among the same
same-congr : (q k x : Key) → same_key q k ≡ true → same_key q x ≡ same_key k x
same-congr q k x e =
    let p = and_parts (bytes_eq q.0 k.0) (nat_eq q.1 k.1) e in
    λ i. nat_list_eq_equiv.congr q.0 k.0 x.0 p.0 i && nat_eq_equiv.congr q.1 k.1 x.1 p.1 i

among-congr : (q k : Key) (ks : List Key) → same_key q k ≡ true → is_among ks q ≡ is_among ks k
among-congr q k [] e = refl
among-congr q k (x ∷ xs) e = let first = same-congr q k x e in let rest = among-congr q k xs e in λ i. first i || rest i

-- whether a key is among those and one more, where the one more was put into the set
pub among-insert : (ks : List Key) (k q : Key) (r : Bool) → r ≡ not (is_among ks k) → is_among (if r then ks ++ k ∷ [] else ks) q ≡ (is_among ks q || same_key q k)
among-insert ks k q r told = ap (λ b. is_among (if b then ks ++ k ∷ [] else ks) q) told ∙ by (is_among ks k) refl
  where
    or-false : (a : Bool) → (a || false) ≡ a
    or-false true = refl
    or-false false = refl

    absorbed : (b : Bool) → is_among ks k ≡ true → same_key q k ≡ b → is_among ks q ≡ (is_among ks q || b)
    absorbed false h e = sym (or-false (is_among ks q))
    absorbed true h e = among-congr q k ks e ∙ h ∙ sym (ap (λ a. a || true) (among-congr q k ks e ∙ h))

    by : (b : Bool) → is_among ks k ≡ b → is_among (if not b then ks ++ k ∷ [] else ks) q ≡ (is_among ks q || same_key q k)
    by true h = absorbed (same_key q k) h refl
    by false h = list_any-append (same_key q) ks (k ∷ []) ∙ ap (λ a. is_among ks q || a) (or-false (same_key q k))

pub or-none : (a : Bool) → (a || false) ≡ a
or-none true = refl
or-none false = refl

or-assoc : (a b c : Bool) → (a || b || c) ≡ (a || (b || c))
or-assoc true b c = refl
or-assoc false b c = refl

-- a form's key goes over from those that are left
pub form-held : (ks new : List Key) (k : Key) (behind : List Key) (r : Bool) (q : Key) → r ≡ not (is_among ks k) → new ≡ (if r then ks ++ k ∷ [] else ks)
    → (is_among new q || is_among behind q) ≡ (is_among ks q || is_among (k ∷ behind) q)
form-held ks new k behind r q told put =
    ap (λ ys. is_among ys q || is_among behind q) put
    ∙ ap (λ a. a || is_among behind q) (among-insert ks k q r told)
    ∙ or-assoc (is_among ks q) (same_key q k) (is_among behind q)
