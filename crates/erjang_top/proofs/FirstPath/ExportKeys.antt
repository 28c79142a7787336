-- The keys of the writer's set of exports are the module's exports.
use Rattle.std.proofs.Common.{◌≡◌, ℕ, ◌+◌, ◌<◌, Bool, true, false, cond, nat_eq, ◌||◌, List, [], ◌∷◌, ◌++◌, length, get_or, drop, map, refl, ap, sym, ◌∙◌, arith}
use Rattle.std.specs.List.{list_any}
use Rattle.std.specs.Str.{bytes_eq}
use Rattle.std.specs.Cmp.Lexicographic.{bytes_decides}
use Rattle.std.proofs.lemmas.Bool.{and_parts}
use Rattle.std.proofs.lemmas.Bool.Decides.{nat_tests}
use Rattle.std.proofs.lemmas.List.{drop_more}
use Rattle.std.proofs.lemmas.List.Folds.{list_any-append}
use Rattle.beam_code.specs.Keys.{Key, same_key, is_among}
use Rattle.erjang_top.specs.declared.first_path.emit.exports.Key as written
use Rattle.erjang_top.specs.contracts.first_path.emit.exports.KeyPartialEq.TheImpl as impl
use Rattle.erjang_top.specs.first_path.SeenExports.{seen_key}
use Rattle.erjang_top.proofs.FirstPath.Seen.{Agrees, insert-seen}

-- the writer's test is the definition's
pub keys_agree : Agrees (impl.eq-value).it same_key seen_key
keys_agree = record { agree = λ u v. refl }

same_number : (m n : ℕ) → nat_eq m n ≡ true → m ≡ n
same_number m n h = grind (arith, nat_tests)

-- the same key is equal to the same keys
same-as : (a b : Key) → same_key a b ≡ true → a ≡ b
same-as a b h =
    let p = and_parts (bytes_eq a.0 b.0) (nat_eq a.1 b.1) h in
    let name = (bytes_decides a.0 b.0).0 p.0 in
    let arity = same_number a.1 b.1 p.1 in
    λ i. (name i, arity i)

or_none : (b : Bool) → (b || false) ≡ b
or_none true = refl
or_none false = refl

any-append : (p : Key → Bool) (xs : List Key) (x : Key) → list_any p (xs ++ x ∷ []) ≡ (list_any p xs || p x)
any-append p xs x = list_any-append p xs (x ∷ []) ∙ ap (λ b. list_any p xs || b) (or_none (p x))

-- a key that is among them already adds nothing
adds-nothing : (old : List Key) (x key : Key) (s : Bool) → same_key key x ≡ s → is_among old x ≡ true → is_among old key ≡ (is_among old key || s)
adds-nothing old x key true e h =
    let here : is_among old key ≡ true = ap (is_among old) (same-as key x e) ∙ h in
    here ∙ ap (λ b. b || true) (sym here)
adds-nothing old x key false e h = sym (or_none (is_among old key))

among-inserted : (old : List Key) (x key : Key) (b : Bool) → is_among old x ≡ b → is_among (cond b old (old ++ x ∷ [])) key ≡ (is_among old key || same_key key x)
among-inserted old x key true e = adds-nothing old x key (same_key key x) refl e
among-inserted old x key false e = any-append (same_key key) old x

or_assoc : (a b c : Bool) → ((a || b) || c) ≡ (a || (b || c))
or_assoc true b c = refl
or_assoc false b c = refl

-- one more export is in the set
pub one-more : (exports : List Key) (at : ℕ) (x : Key) (all : Bool) (w : written.Key) (old new : List written.Key) (key : Key)
    → at < length exports → x ≡ get_or exports at x → seen_key w ≡ x → new ≡ cond (list_any ((impl.eq-value).it w) old) old (old ++ w ∷ [])
    → (is_among (map seen_key old) key || is_among (drop at exports) key) ≡ all
    → (is_among (map seen_key new) key || is_among (drop (at + 1) exports) key) ≡ all
one-more exports at x all w old new key lt is e f h =
    let before = map seen_key old in
    let rest = is_among (drop (at + 1) exports) key in
    let item : drop at exports ≡ x ∷ drop (at + 1) exports = drop_more exports at x lt ∙ ap (λ (y : Key). y ∷ drop (at + 1) exports) (sym is) in
    let added : is_among (map seen_key new) key ≡ (is_among before key || same_key key (seen_key w)) =
    ap (λ (ks : List Key). is_among ks key) (insert-seen keys_agree w old new f) ∙ among-inserted before (seen_key w) key (is_among before (seen_key w)) refl in
    ap (λ (b : Bool). b || rest) added
    ∙ or_assoc (is_among before key) (same_key key (seen_key w)) rest
    ∙ ap (λ (k : Key). is_among before key || (same_key key k || rest)) e
    ∙ ap (λ (ks : List Key). is_among before key || is_among ks key) (sym item)
    ∙ h

-- the test of a key finds it where it is among what the keys are seen as
pub contained : (k : Key) (keys : List written.Key) → list_any (λ w. same_key k (seen_key w)) keys ≡ is_among (map seen_key keys) k
contained k [] = refl
contained k (w ∷ keys) = ap (λ b. same_key k (seen_key w) || b) (contained k keys)
