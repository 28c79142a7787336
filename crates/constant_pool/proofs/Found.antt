-- An entry is found at its index.
use Rattle.std.proofs.Common.{◌≡◌, ℕ, ◌+◌, ◌<◌, ◌^◌, Bool, true, false, cond, List, [], ◌∷◌, ◌++◌, length, Option, None, Some, refl, sym, ap, ◌∙◌, subst, arith, length-append, append_assoc, append-nil}
use Rattle.std.specs.Map.{lookup}
use Rattle.jvm_code.specs.declared.class.Constant.{Constant}
use Rattle.jvm_code.specs.declared.class.Constant.TheVariants as c
use Rattle.jvm_code.specs.ConstantKey.{same_constant}
use Rattle.indexmap.specs.IndexMap.{IndexMap, insert_entry}
use Rattle.indexmap.proofs.CallerLemmas.{insert_entry-new}
use Rattle.constant_pool.specs.Pool.{IndexedAt, indices, place_from, place_of, listed, pool_of, is_gap, AreNumbered, IsPool}

no_gap : (e : Constant) → is_gap e ≡ false → same_constant e c.Gap ≡ false
no_gap (c.Utf8 _) h = refl
no_gap (c.Integer _) h = refl
no_gap (c.Long _) h = refl
no_gap (c.Class _) h = refl
no_gap (c.Str _) h = refl
no_gap (c.Methodref _ _) h = refl
no_gap (c.NameAndType _ _) h = refl
no_gap c.Gap h = absurd cc

pub found_gap : (e : Constant) (ps : List (Constant × ℕ)) → is_gap e ≡ true → place_of e (pool_of ps) ≡ Some 0
found_gap (c.Utf8 _) ps h = absurd cc
found_gap (c.Integer _) ps h = absurd cc
found_gap (c.Long _) ps h = absurd cc
found_gap (c.Class _) ps h = absurd cc
found_gap (c.Str _) ps h = absurd cc
found_gap (c.Methodref _ _) ps h = absurd cc
found_gap (c.NameAndType _ _) ps h = absurd cc
found_gap c.Gap ps h = refl

-- past an entry that takes one index, or two
past : (e : Constant) → is_gap e ≡ false → (at : ℕ) (p : Constant) (rest : List Constant)
    → place_from at e (indices p ++ rest) ≡ cond (same_constant e p) (Some at) (place_from (at + length (indices p)) e rest)
past e g at (c.Utf8 _) rest = refl
past e g at (c.Integer _) rest = refl
past e g at (c.Long v) rest = ap (cond (same_constant e (c.Long v)) (Some at))
    (ap (λ b. cond b (Some (at + 1)) (place_from (at + 1 + 1) e rest)) (no_gap e g) ∙ ap (λ n. place_from n e rest) (omega arith))
past e g at (c.Class _) rest = refl
past e g at (c.Str _) rest = refl
past e g at (c.Methodref _ _) rest = refl
past e g at (c.NameAndType _ _) rest = refl
past e g at c.Gap rest = refl

found_from : (e : Constant) → is_gap e ≡ false → (at : ℕ) (ps : List (Constant × ℕ)) → AreNumbered at ps → place_from at e (listed ps) ≡ lookup (same_constant e) ps
found_from e g at [] n = refl
found_from e g at (p ∷ ps) n =
    past e g at p.0 (listed ps) ∙ ap (λ k. cond (same_constant e p.0) (Some k) (place_from (at + length (indices p.0)) e (listed ps))) (sym n.0)
    ∙ ap (cond (same_constant e p.0) (Some p.1)) (found_from e g (at + length (indices p.0)) ps n.2)

pub found : (e : Constant) (ps : List (Constant × ℕ)) → is_gap e ≡ false → AreNumbered 1 ps → place_of e (pool_of ps) ≡ lookup (same_constant e) ps
found e ps g n = ap (λ b. cond b (Some 0) (place_from 1 e (listed ps))) (no_gap e g) ∙ found_from e g 1 ps n

known_gap : (e : Constant) (ps : List (Constant × ℕ)) → place_of e (pool_of ps) ≡ None → is_gap e ≡ false
known_gap e ps h = go (is_gap e) refl
  where
    go : (b : Bool) → is_gap e ≡ b → b ≡ false
    go true g = absurd (let f = sym (found_gap e ps g) ∙ h in cc)
    go false g = refl

pub none_gap : (e : Constant) (ps : List (Constant × ℕ)) → place_of e (pool_of ps) ≡ None → is_gap e ≡ false
none_gap = known_gap

pub none_found : (e : Constant) (ps : List (Constant × ℕ)) → AreNumbered 1 ps → place_of e (pool_of ps) ≡ None → lookup (same_constant e) ps ≡ None
none_found e ps n h = sym (found e ps (known_gap e ps h) n) ∙ h

pub listed_push : (ps : List (Constant × ℕ)) (e : Constant) (n : ℕ) → listed (ps ++ (e, n) ∷ []) ≡ listed ps ++ indices e
listed_push [] e n = append-nil (indices e)
listed_push (p ∷ ps) e n = ap (λ l. indices p.0 ++ l) (listed_push ps e n) ∙ sym (append_assoc (indices p.0) (listed ps) (indices e))

numbered_push : (at : ℕ) (ps : List (Constant × ℕ)) (e : Constant) (n : ℕ) → AreNumbered at ps → is_gap e ≡ false → n ≡ at + length (listed ps) → AreNumbered at (ps ++ (e, n) ∷ [])
numbered_push at [] e n a g h = (omega (arith, h), g, tt)
numbered_push at (p ∷ ps) e n a g h = (a.0, a.1, numbered_push (at + length (indices p.0)) ps e n a.2 g (omega (arith, h, length-append (indices p.0) (listed ps))))

pub pool_push : (ps new : List (Constant × ℕ)) (e : Constant) (next behind : ℕ) → IsPool ps next → new ≡ ps ++ (e, next) ∷ [] → place_of e (pool_of ps) ≡ None
    → behind ≡ next + length (indices e) → (pool_of new ≡ pool_of ps ++ indices e) × IsPool new behind
pool_push ps new e next behind is n h b =
    let one : pool_of new ≡ pool_of ps ++ indices e = ap pool_of n ∙ ap (λ l. c.Gap ∷ l) (listed_push ps e next) in
    let gap = known_gap e ps h in (
      one,
      record {
        numbered = subst (AreNumbered 1) (sym n) (numbered_push 1 ps e next is.numbered gap (omega (arith, is.next_is)));
        next_is = omega (arith, b, is.next_is, ap length one, length-append (pool_of ps) (indices e));
      },
    )

-- a new entry goes last
pub inserted : {S : Type 0} (m : IndexMap Constant ℕ S) (new : List (Constant × ℕ)) (e : Constant) (n : ℕ) → AreNumbered 1 m.entries → place_of e (pool_of m.entries) ≡ None
    → new ≡ insert_entry same_constant m.entries e n → new ≡ m.entries ++ (e, n) ∷ []
inserted m new e n a h i = i ∙ insert_entry-new same_constant m e n (none_found e m.entries a h)

pub indexed_new : (old : List Constant) (ps new : List (Constant × ℕ)) (e : Constant) (next behind : ℕ) → pool_of ps ≡ old → IsPool ps next → new ≡ ps ++ (e, next) ∷ []
    → place_of e old ≡ None → behind ≡ next + length (indices e) → behind < 2 ^ 16 → IndexedAt (place_of e old) old e next (pool_of new)
indexed_new old ps new e next behind v is n h b s =
    let p = pool_push ps new e next behind is n (ap (place_of e) v ∙ h) b in
    subst (λ (o : Option ℕ). IndexedAt o old e next (pool_of new)) (sym h)
    (is.next_is ∙ ap length v, p.0 ∙ ap (λ l. l ++ indices e) v, omega (arith, is.next_is, ap length v, b, s))

-- the last entry is listed, in front of those behind it
pub one_listed : (old new : List (Constant × ℕ)) (e : Constant) (n : ℕ) (behind next all : List Constant) → old ≡ new ++ (e, n) ∷ [] → next ≡ indices e ++ behind → listed old ++ behind ≡ all
    → listed new ++ next ≡ all
one_listed old new e n behind next all o h i =
    ap (λ l. listed new ++ l) h ∙ sym (append_assoc (listed new) (indices e) behind) ∙ ap (λ l. l ++ behind) (sym (listed_push new e n)) ∙ ap (λ ps. listed ps ++ behind) (sym o) ∙ i
