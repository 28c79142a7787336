-- The tokens of a form, one by one: each leaves less text, so the fuel is enough.
use Rattle.std.proofs.Common.{◌≡◌, ℕ, zero, suc, ◌≤◌, ◌<◌, true, false, List, [], ◌∷◌, ◌++◌, length, if◌then◌else◌, Option, Some, None, MatchOption, arith, refl, ap, sym, subst, ◌∙◌}
use Rattle.asm_terms.specs.declared.token.Token.{Token}
use Rattle.asm_terms.specs.declared.token.Token.TheVariants as token
use Rattle.asm_terms.specs.Reading.{with_rest}
use Rattle.asm_terms.specs.Blanks.{ends_form}
use Rattle.asm_terms.specs.Tokens.{token_at, skip_blank, joined, joined_string, with_token, is_full_stop, behind_token, tokens_from, tokens_behind, form_tokens}
use Rattle.asm_terms.proofs.Shorter.{Within, either}
use Rattle.asm_terms.proofs.TokensWithin.{token-within, skip-within}
use Rattle.asm_terms.proofs.QuoteLemmas.{same_if}

-- a token behind a last one
pub with_token-last : (tokens : List Token) (last token : Token) → with_token (tokens ++ last ∷ []) token ≡ tokens ++ joined last token
with_token-last [] last token = refl
with_token-last (first ∷ []) last token = refl
with_token-last (first ∷ second ∷ tokens) last token = ap (λ ts. first ∷ ts) (with_token-last (second ∷ tokens) last token)

pub joined-other : (last t : Token) → ((xs : List ℕ) → last ≡ token.Str xs → ⊥) → joined last t ≡ last ∷ t ∷ []
joined-other (token.Str xs) t h = absurd (h xs refl)
joined-other (token.Int n) t h = refl
joined-other (token.Atom x) t h = refl
joined-other (token.Opaque x) t h = refl
joined-other (token.Pid n k) t h = refl
joined-other (token.Ref n k) t h = refl
joined-other token.Fun t h = refl
joined-other token.OpenTuple t h = refl
joined-other token.CloseTuple t h = refl
joined-other token.OpenList t h = refl
joined-other token.CloseList t h = refl
joined-other token.OpenMap t h = refl
joined-other token.Comma t h = refl
joined-other token.Bar t h = refl
joined-other token.Arrow t h = refl
joined-other token.Colon t h = refl
joined-other token.Slash t h = refl
joined-other token.Dot t h = refl

joined_string-other : (xs : List ℕ) (t : Token) → ((ys : List ℕ) → t ≡ token.Str ys → ⊥) → joined_string xs t ≡ token.Str xs ∷ t ∷ []
joined_string-other xs (token.Str ys) h = absurd (h ys refl)
joined_string-other xs (token.Int n) h = refl
joined_string-other xs (token.Atom x) h = refl
joined_string-other xs (token.Opaque x) h = refl
joined_string-other xs (token.Pid n k) h = refl
joined_string-other xs (token.Ref n k) h = refl
joined_string-other xs token.Fun h = refl
joined_string-other xs token.OpenTuple h = refl
joined_string-other xs token.CloseTuple h = refl
joined_string-other xs token.OpenList h = refl
joined_string-other xs token.CloseList h = refl
joined_string-other xs token.OpenMap h = refl
joined_string-other xs token.Comma h = refl
joined_string-other xs token.Bar h = refl
joined_string-other xs token.Arrow h = refl
joined_string-other xs token.Colon h = refl
joined_string-other xs token.Slash h = refl
joined_string-other xs token.Dot h = refl

joined-plain : (last t : Token) → ((ys : List ℕ) → t ≡ token.Str ys → ⊥) → joined last t ≡ last ∷ t ∷ []
joined-plain (token.Str xs) t h = joined_string-other xs t h
joined-plain (token.Int n) t h = refl
joined-plain (token.Atom x) t h = refl
joined-plain (token.Opaque x) t h = refl
joined-plain (token.Pid n k) t h = refl
joined-plain (token.Ref n k) t h = refl
joined-plain token.Fun t h = refl
joined-plain token.OpenTuple t h = refl
joined-plain token.CloseTuple t h = refl
joined-plain token.OpenList t h = refl
joined-plain token.CloseList t h = refl
joined-plain token.OpenMap t h = refl
joined-plain token.Comma t h = refl
joined-plain token.Bar t h = refl
joined-plain token.Arrow t h = refl
joined-plain token.Colon t h = refl
joined-plain token.Slash t h = refl
joined-plain token.Dot t h = refl

-- a token that is no string
pub with_token-plain : (tokens : List Token) (t : Token) → ((ys : List ℕ) → t ≡ token.Str ys → ⊥) → with_token tokens t ≡ tokens ++ t ∷ []
with_token-plain [] t h = refl
with_token-plain (last ∷ []) t h = joined-plain last t h
with_token-plain (first ∷ second ∷ tokens) t h = ap (λ ts. first ∷ ts) (with_token-plain (second ∷ tokens) t h)

pub ruleset token_cases = (with_token-last, with_token-plain, joined-other)

no_more : (n : ℕ) (done : List Token) → tokens_from n done [] ≡ None
unfolding tokens_from
no_more zero done = refl
no_more (suc n) done = refl

same_behind : (f g : List Token → List ℕ → Option (List Token × List ℕ)) (most : ℕ) (done : List Token) (o : Option (Token × List ℕ)) → Within most o
    → ((now : List Token) (rest : List ℕ) → length rest ≤ most → f now rest ≡ g now rest) → behind_token f done o ≡ behind_token g done o
same_behind f g most done None w same = refl
same_behind f g most done (Some (t, rest)) w same = same (with_token done t) (skip_blank rest) (omega (arith, w, skip-within false rest))

enough_fuel : (n m : ℕ) (done : List Token) (cs : List ℕ) → length cs ≤ n → length cs ≤ m → tokens_from n done cs ≡ tokens_from m done cs
unfolding tokens_from
enough_fuel n m done [] h k = no_more n done ∙ sym (no_more m done)
enough_fuel zero m done (c ∷ cs) h k = absurd (omega (arith, h))
enough_fuel (suc n) zero done (c ∷ cs) h k = absurd (omega (arith, k))
enough_fuel (suc n) (suc m) done (c ∷ cs) h k = same_if (is_full_stop (c ∷ cs)) (Some (done, cs))
    (same_behind (tokens_from n) (tokens_from m) (length cs) done (token_at (c ∷ cs)) (token-within c cs)
    (λ now rest l. enough_fuel n m now rest (omega (arith, h, l)) (omega (arith, k, l))))

pub tokens-end : (done : List Token) → tokens_behind done [] ≡ None
tokens-end done = no_more 0 done

pub tokens-more : (done : List Token) (c : ℕ) (cs : List ℕ)
    → tokens_behind done (c ∷ cs) ≡ (if is_full_stop (c ∷ cs) then Some (done, cs) else behind_token tokens_behind done (token_at (c ∷ cs)))
unfolding tokens_from
tokens-more done c cs = same_if (is_full_stop (c ∷ cs)) (Some (done, cs))
    (same_behind (tokens_from (length cs)) tokens_behind (length cs) done (token_at (c ∷ cs)) (token-within c cs)
    (λ now rest l. enough_fuel (length cs) (length rest) now rest l (omega arith)))

pub tokens-stop : (done : List Token) (text rest : List ℕ) → text ≡ 46 ∷ rest → ends_form rest ≡ true → tokens_behind done text ≡ Some (done, rest)
tokens-stop done text rest e stop = ap (tokens_behind done) e ∙ tokens-more done 46 rest
    ∙ ap (λ b. if b then Some (done, rest) else behind_token tokens_behind done (token_at (46 ∷ rest))) stop

going_on : (done : List Token) (text : List ℕ) → is_full_stop text ≡ false → tokens_behind done text ≡ behind_token tokens_behind done (token_at text)
going_on done [] e = tokens-end done
going_on done (c ∷ cs) e = tokens-more done c cs ∙ ap (λ b. if b then Some (done, cs) else behind_token tokens_behind done (token_at (c ∷ cs))) e

pub tokens-none : (done : List Token) (text rest : List ℕ) (o : Option Token) → is_full_stop text ≡ false → token_at text ≡ with_rest o rest → o ≡ None
    → tokens_behind done text ≡ None
tokens-none done text rest o e read none = going_on done text e ∙ ap (behind_token tokens_behind done) (read ∙ ap (λ x. with_rest x rest) none)

pub tokens-step : (done now : List Token) (text rest next : List ℕ) (o : Option Token) (t : Token) → is_full_stop text ≡ false → token_at text ≡ with_rest o rest → o ≡ Some t
    → now ≡ with_token done t → next ≡ skip_blank rest → tokens_behind now next ≡ tokens_behind done text
tokens-step done now text rest next o t e read some more blank =
    ap (λ d. tokens_behind d next) more ∙ ap (tokens_behind (with_token done t)) blank
    ∙ sym (going_on done text e ∙ ap (behind_token tokens_behind done) (read ∙ ap (λ x. with_rest x rest) some))

less : (text rest : List ℕ) (t : Token) → token_at text ≡ Some (t, rest) → length rest < length text
less [] rest t e = grind arith
less (c ∷ cs) rest t e =
    let w : Within (length cs) (Some (t, rest)) = subst (Within (length cs)) e (token-within c cs) in
    omega (arith, w)

pub tokens-less : (text rest next : List ℕ) (o : Option Token) (t : Token) → token_at text ≡ with_rest o rest → o ≡ Some t → next ≡ skip_blank rest → length next < length text
tokens-less text rest next o t read some blank =
    rw blank (omega (arith, skip-within false rest, less text rest t (read ∙ ap (λ x. with_rest x rest) some)))

pub answered : (start first text : List ℕ) (none tokens : List Token) {v : Option (List Token × List ℕ)} → first ≡ skip_blank start → none ≡ []
    → tokens_behind tokens text ≡ tokens_behind none first → tokens_behind tokens text ≡ v → form_tokens start ≡ v
answered start first text none tokens blank empty kept e =
    ap (tokens_behind []) (sym blank) ∙ ap (λ d. tokens_behind d first) (sym empty) ∙ sym kept ∙ e

behind_within : (most least : ℕ) (f : List Token → List ℕ → Option (List Token × List ℕ)) (done : List Token) (o : Option (Token × List ℕ)) → Within least o
    → ((now : List Token) (rest : List ℕ) → length rest ≤ least → Within most (f now rest)) → Within most (behind_token f done o)
behind_within most least f done None w k = tt
behind_within most least f done (Some (t, rest)) w k = k (with_token done t) (skip_blank rest) (omega (arith, w, skip-within false rest))

from_within : (n most : ℕ) (done : List Token) (cs : List ℕ) → length cs ≤ suc most → Within most (tokens_from n done cs)
unfolding tokens_from
from_within zero most done cs h = tt
from_within (suc n) most done [] h = tt
from_within (suc n) most done (c ∷ cs) h = either (Within most) (is_full_stop (c ∷ cs)) (omega (arith, h))
    (behind_within most (length cs) (tokens_from n) done (token_at (c ∷ cs)) (token-within c cs) (λ now rest l. from_within n most now rest (omega (arith, h, l))))

-- a form leaves less text than there was
pub form_leaves : (text rest : List ℕ) (tokens : List Token) → form_tokens text ≡ Some (tokens, rest) → length rest < length text
form_leaves [] rest tokens e = absurd (subst (λ o. MatchOption o (Unit {0}) (λ x. ⊥)) (sym (tokens-end []) ∙ e) tt)
form_leaves (c ∷ cs) rest tokens e =
    let w : Within (length cs) (Some (tokens, rest)) =
    subst (Within (length cs)) e (from_within (length (skip_blank (c ∷ cs))) (length cs) [] (skip_blank (c ∷ cs)) (omega (arith, skip-within false (c ∷ cs)))) in
    omega (arith, w)
