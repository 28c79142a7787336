-- The characters between quotes, one by one: each leaves less text, so the fuel is enough.
use Rattle.std.proofs.Common.{◌≡◌, ◌≢◌, subst, ℕ, zero, suc, ◌≤◌, Bool, true, false, nat_eq, List, [], ◌∷◌, ◌++◌, length, if◌then◌else◌, Option, Some, None, arith, refl, ap, sym, ◌∙◌}
use Rattle.asm_terms.specs.Reading.{with_rest}
use Rattle.asm_terms.specs.Quotes.{quoted_from, quoted_behind, behind_character, quoted_character}
use Rattle.asm_terms.proofs.Shorter.{Within, character-within}

pub same_if : {A : Type 0} (b : Bool) (x : A) {y z : A} → y ≡ z → (if b then x else y) ≡ (if b then x else z)
same_if true x e = refl
same_if false x e = e

differ : (a b : ℕ) → a ≢ b → nat_eq a b ≡ false
differ a b h = grind arith

no_more : (n q : ℕ) (done : List ℕ) → quoted_from n q done [] ≡ None
unfolding quoted_from
no_more zero q done = refl
no_more (suc n) q done = refl

same_behind : (f g : List ℕ → List ℕ → Option (List ℕ × List ℕ)) (most : ℕ) (done : List ℕ) (o : Option (ℕ × List ℕ)) → Within most o
    → ((now rest : List ℕ) → length rest ≤ most → f now rest ≡ g now rest) → behind_character f done o ≡ behind_character g done o
same_behind f g most done None w same = refl
same_behind f g most done (Some (x, rest)) w same = same (done ++ x ∷ []) rest w

enough_fuel : (n m q : ℕ) (done cs : List ℕ) → length cs ≤ n → length cs ≤ m → quoted_from n q done cs ≡ quoted_from m q done cs
unfolding quoted_from
enough_fuel n m q done [] h k = no_more n q done ∙ sym (no_more m q done)
enough_fuel zero m q done (c ∷ cs) h k = absurd (omega (arith, h))
enough_fuel (suc n) zero q done (c ∷ cs) h k = absurd (omega (arith, k))
enough_fuel (suc n) (suc m) q done (c ∷ cs) h k = same_if (nat_eq c q) (Some (done, cs))
    (same_behind (quoted_from n q) (quoted_from m q) (length cs) done (quoted_character c cs) (character-within c cs)
    (λ now rest l. enough_fuel n m q now rest (omega (arith, h, l)) (omega (arith, k, l))))

pub quoted-end : (q : ℕ) (done : List ℕ) → quoted_behind q done [] ≡ None
quoted-end q done = no_more 0 q done

pub quoted-more : (q : ℕ) (done : List ℕ) (c : ℕ) (cs : List ℕ)
    → quoted_behind q done (c ∷ cs) ≡ (if nat_eq c q then Some (done, cs) else behind_character (quoted_behind q) done (quoted_character c cs))
unfolding quoted_from
quoted-more q done c cs = same_if (nat_eq c q) (Some (done, cs))
    (same_behind (quoted_from (length cs) q) (quoted_behind q) (length cs) done (quoted_character c cs) (character-within c cs)
    (λ now rest l. enough_fuel (length cs) (length rest) q now rest l (omega arith)))

pub ruleset quoted_cases = (quoted-end, quoted-more)

-- a character that is read leaves less
pub shrunk : (c x : ℕ) (cs rest : List ℕ) → quoted_character c cs ≡ Some (x, rest) → length rest ≤ length cs
shrunk c x cs rest e = subst (Within (length cs)) e (character-within c cs)

pub quoted-step : (q c x : ℕ) (done now text cs rest : List ℕ) (o : Option ℕ) → text ≡ c ∷ cs → c ≢ q → quoted_character c cs ≡ with_rest o rest → o ≡ Some x
    → now ≡ done ++ x ∷ [] → quoted_behind q now rest ≡ quoted_behind q done text
quoted-step q c x done now text cs rest o e other read some more =
    ap (λ d. quoted_behind q d rest) more
    ∙ sym (ap (λ b. if b then Some (done, cs) else behind_character (quoted_behind q) done (quoted_character c cs)) (differ c q other)
    ∙ ap (behind_character (quoted_behind q) done) (read ∙ ap (λ s. with_rest s rest) some))
    ∙ sym (quoted-more q done c cs) ∙ sym (ap (quoted_behind q done) e)
