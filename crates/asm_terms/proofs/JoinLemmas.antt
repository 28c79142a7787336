-- Adjacent strings are one, whichever end the tokens are joined from.
use Rattle.std.proofs.Common.{◌≡◌, ◌⊎◌, inl, inr, ℕ, List, [], ◌∷◌, ◌++◌, refl, ap, sym, subst, ◌∙◌}
use Rattle.std.proofs.lemmas.List.{append_assoc, append-nil}
use Rattle.asm_terms.specs.declared.token.Token.{Token}
use Rattle.asm_terms.specs.declared.token.Token.TheVariants as token
use Rattle.asm_terms.specs.Tokens.{with_token, joined}
use Rattle.asm_terms.specs.Splitting.{before, with_joined_strings}
use Rattle.asm_terms.proofs.TokenLemmas.{with_token-plain, joined-other}

abbrev Plain : Token → Type 0
Plain t = (xs : List ℕ) → t ≡ token.Str xs → ⊥

string_or_plain : (t : Token) → ((xs : List ℕ) × (t ≡ token.Str xs)) ⊎ Plain t
string_or_plain (token.Str xs) = inl (xs, refl)
string_or_plain (token.Int n) = inr (λ xs e. cc)
string_or_plain (token.Atom x) = inr (λ xs e. cc)
string_or_plain (token.Opaque x) = inr (λ xs e. cc)
string_or_plain (token.Pid n k) = inr (λ xs e. cc)
string_or_plain (token.Ref n k) = inr (λ xs e. cc)
string_or_plain token.Fun = inr (λ xs e. cc)
string_or_plain token.OpenTuple = inr (λ xs e. cc)
string_or_plain token.CloseTuple = inr (λ xs e. cc)
string_or_plain token.OpenList = inr (λ xs e. cc)
string_or_plain token.CloseList = inr (λ xs e. cc)
string_or_plain token.OpenMap = inr (λ xs e. cc)
string_or_plain token.Comma = inr (λ xs e. cc)
string_or_plain token.Bar = inr (λ xs e. cc)
string_or_plain token.Arrow = inr (λ xs e. cc)
string_or_plain token.Colon = inr (λ xs e. cc)
string_or_plain token.Slash = inr (λ xs e. cc)
string_or_plain token.Dot = inr (λ xs e. cc)

-- a token behind several leaves those before the last
with_token-behind : (first : List Token) (z : Token) (zs : List Token) (t : Token) → with_token (first ++ z ∷ zs) t ≡ first ++ with_token (z ∷ zs) t
with_token-behind [] z zs t = refl
with_token-behind (a ∷ []) z zs t = refl
with_token-behind (a ∷ b ∷ first) z zs t = ap (λ ts. a ∷ ts) (with_token-behind (b ∷ first) z zs t)

abbrev Swaps : Token → Token → Token → Type 0
Swaps u z t = before u (joined z t) ≡ with_token (joined u z) t

swaps_plain : (u z t : Token) → Plain t → Swaps u z t
swaps_plain u z t h = ap (before u) (with_token-plain (z ∷ []) t h) ∙ sym (with_token-plain (joined u z) t h)

swaps_middle : (u z t : Token) → Plain z → Swaps u z t
swaps_middle u z t h =
    ap (before u) (joined-other z t h) ∙ ap (λ ts. ts ++ t ∷ []) (with_token-plain (u ∷ []) z h)
    ∙ sym (ap (λ ts. u ∷ ts) (joined-other z t h)) ∙ sym (ap (λ ts. with_token ts t) (with_token-plain (u ∷ []) z h))

swaps_first : (u : Token) (zs ts : List ℕ) → Plain u → Swaps u (token.Str zs) (token.Str ts)
swaps_first u zs ts h =
    append-nil (joined u (token.Str (zs ++ ts))) ∙ joined-other u (token.Str (zs ++ ts)) h
    ∙ sym (ap (λ us. with_token us (token.Str ts)) (joined-other u (token.Str zs) h))

swaps_strings : (us zs ts : List ℕ) → Swaps (token.Str us) (token.Str zs) (token.Str ts)
swaps_strings us zs ts = ap (λ xs. token.Str xs ∷ []) (sym (append_assoc us zs ts))

swaps : (u z t : Token) → Swaps u z t
swaps u z t = elim (string_or_plain t) [
  | inr plain ↦ swaps_plain u z t plain
  | inl last ↦ elim (string_or_plain z) [
    | inr plain ↦ swaps_middle u z t plain
    | inl middle ↦ subst (Swaps u z) (sym last.1) (subst (λ y. Swaps u y (token.Str last.0)) (sym middle.1) (both u middle.0 last.0))
  ]
]
  where
    both : (v : Token) (zs ts : List ℕ) → Swaps v (token.Str zs) (token.Str ts)
    both v zs ts = elim (string_or_plain v) [
      | inr plain ↦ swaps_first v zs ts plain
      | inl first ↦ subst (λ x. Swaps x (token.Str zs) (token.Str ts)) (sym first.1) (swaps_strings first.0 zs ts)
    ]

-- a token more at the end is the same before and behind
before-with_token : (u : Token) (zs : List Token) (t : Token) → before u (with_token zs t) ≡ with_token (before u zs) t
before-with_token u [] t = append-nil (joined u t)
before-with_token u (z ∷ []) t = swaps u z t ∙ sym (ap (λ ts. with_token ts t) (append-nil (joined u z)))
before-with_token u (z ∷ y ∷ zs) t = sym (with_token-behind (joined u z) y zs t)

joined-more : (tokens : List Token) (t : Token) → with_joined_strings (tokens ++ t ∷ []) ≡ with_token (with_joined_strings tokens) t
joined-more [] t = refl
joined-more (u ∷ tokens) t = ap (before u) (joined-more tokens t) ∙ before-with_token u (with_joined_strings tokens) t

-- these tokens, one by one, behind those that are done
abbrev pub with_tokens : List Token → List Token → List Token
with_tokens done [] = done
with_tokens done (t ∷ tokens) = with_tokens (with_token done t) tokens

pub with_tokens-joined : (first tokens : List Token) → with_tokens (with_joined_strings first) tokens ≡ with_joined_strings (first ++ tokens)
with_tokens-joined first [] = ap with_joined_strings (sym (append-nil first))
with_tokens-joined first (t ∷ tokens) =
    ap (λ done. with_tokens done tokens) (sym (joined-more first t)) ∙ with_tokens-joined (first ++ t ∷ []) tokens
    ∙ ap with_joined_strings (append_assoc first (t ∷ []) tokens)
