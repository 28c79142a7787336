-- What the walk over a text gives is how the text is split.
use Rattle.std.proofs.Common.{◌≡◌, ◌≢◌, ℕ, zero, suc, ◌≤◌, option_map, option_and_then, Bool, true, false, not, nat_eq, nat_le, List, [], ◌∷◌, ◌++◌, length, if◌then◌else◌, Option, Some, None, MatchBool, arith, refl, ap, sym, subst, ◌∙◌}
use Rattle.std.proofs.lemmas.Bool.{eqb-true, eq-eqb, and_parts, leb-true, le-leb, true≢false}
use Rattle.std.proofs.lemmas.List.{append_assoc, append-nil}
use Rattle.std.proofs.lemmas.Option.{none-some}
use Rattle.asm_terms.specs.declared.token.Token.{Token}
use Rattle.asm_terms.specs.declared.token.Token.TheVariants as token
use Rattle.asm_terms.specs.Blanks.{is_blank, skip, skip_blank, ends_form}
use Rattle.asm_terms.specs.Quotes.{quoted_from, quoted_behind, quoted, behind_character, quoted_character}
use Rattle.asm_terms.specs.Tokens.{token_at, atom_of, string_of, with_token, is_full_stop, behind_token, tokens_from, tokens_behind, form_tokens}
use Rattle.asm_terms.specs.Splitting as split
use Rattle.asm_terms.specs.Splitting.{behind_line, IsSpace, AreQuoted, IsToken, AreTokens, HasTokens, HasNoTokens, IsEnd, HasMore, with_joined_strings}
use Rattle.asm_terms.proofs.QuoteLemmas.{quoted-more, quoted-step}
use Rattle.asm_terms.proofs.TokenLemmas.{tokens-stop, tokens-step}
use Rattle.asm_terms.proofs.JoinLemmas.{with_tokens, with_tokens-joined}

value_or : {A : Type 0} → A → Option A → A
value_or default None = default
value_or default (Some x) = x

-- the parts of a pair that was found
pub same_pair : {A B : Type 0} {a c : A} {b d : B} → ◌≡◌ {A = Option (A × B)} (Some (a, b)) (Some (c, d)) → (a ≡ c) × (b ≡ d)
unfolding value_or
same_pair {A} {B} {a} {c} {b} {d} e = let p = ap (value_or (a, b)) e in (ap (λ (q : A × B). q.0) p, ap (λ (q : A × B). q.1) p)

unlike : (a b : ℕ) → nat_eq a b ≡ false → a ≢ b
unlike a b isnt e = true≢false (sym (eq-eqb a b e) ∙ isnt)

-- space and comments
behind_start : Bool → List ℕ → List ℕ
behind_start true cs = behind_line cs
behind_start false cs = cs

abbrev Spaced : Bool → List ℕ → Type 0
Spaced in_comment cs = IsSpace (behind_start in_comment cs) (skip in_comment cs)

line_on : (b : Bool) (cs : List ℕ) → Spaced false cs → Spaced true cs → IsSpace (if b then cs else behind_line cs) (skip (not b) cs)
unfolding behind_start
line_on true cs h k = h
line_on false cs h k = k

blank_on : (c : ℕ) (cs : List ℕ) (b : Bool) → is_blank c ≡ b → nat_eq c 37 ≡ false → Spaced false cs → IsSpace (c ∷ cs) (if b then skip false cs else c ∷ cs)
unfolding behind_start
blank_on c cs true is isnt h = split.blank c cs (skip false cs) is h
blank_on c cs false is isnt h = split.at_token c cs is isnt

space_on : (c : ℕ) (cs : List ℕ) (b : Bool) → nat_eq c 37 ≡ b → Spaced false cs → Spaced true cs
    → IsSpace (c ∷ cs) (if b then skip true cs else if is_blank c then skip false cs else c ∷ cs)
unfolding behind_start
space_on c cs true is h k = subst (λ x. IsSpace (x ∷ cs) (skip true cs)) (sym (eqb-true c 37 is)) (split.comment cs (skip true cs) k)
space_on c cs false isnt h k = blank_on c cs (is_blank c) refl isnt h

spaced : (in_comment : Bool) (cs : List ℕ) → Spaced in_comment cs
unfolding behind_start
spaced true [] = split.at_end
spaced false [] = split.at_end
spaced true (c ∷ cs) = line_on (nat_eq c 10) cs (spaced false cs) (spaced true cs)
spaced false (c ∷ cs) = space_on c cs (nat_eq c 37) refl (spaced false cs) (spaced true cs)

pub space : (text : List ℕ) → IsSpace text (skip_blank text)
unfolding behind_start
space text = spaced false text

line_skipped : (b : Bool) (cs : List ℕ) → skip true cs ≡ skip false (behind_line cs) → skip (not b) cs ≡ skip false (if b then cs else behind_line cs)
line_skipped true cs e = refl
line_skipped false cs e = e

comment_skipped : (cs : List ℕ) → skip true cs ≡ skip false (behind_line cs)
comment_skipped [] = refl
comment_skipped (c ∷ cs) = line_skipped (nat_eq c 10) cs (comment_skipped cs)

blank_is_no_mark : (c : ℕ) → is_blank c ≡ true → nat_eq c 37 ≡ false
blank_is_no_mark c h = grind arith

pub skipped : {text rest : List ℕ} → IsSpace text rest → skip_blank text ≡ rest
skipped split.at_end = refl
skipped (split.at_token c cs isnt other) = rw other (rw isnt refl)
skipped (split.blank c cs rest is d) = rw (blank_is_no_mark c is) (rw is (skipped d))
skipped (split.comment cs rest d) = comment_skipped cs ∙ skipped d

-- whether a text ends, by the walk and by how it is split
pub ended : (text start : List ℕ) (b : Bool) → start ≡ skip_blank text → MatchBool b (start ≡ []) (start ≢ []) → MatchBool b (IsEnd text) (HasMore text)
ended text start true e h = subst (IsSpace text) (sym e ∙ h) (space text)
ended text start false e h = λ d. h (e ∙ skipped d)

-- quotes
abbrev Quotes : ℕ → List ℕ → List ℕ → List ℕ → List ℕ → Type 0
Quotes quote done cs all rest = (characters : List ℕ) × (all ≡ done ++ characters) × AreQuoted quote cs characters rest

quote_behind : (reader : List ℕ → List ℕ → Option (List ℕ × List ℕ)) (quote : ℕ) (done : List ℕ) (c : ℕ) (cs all rest : List ℕ) (o : Option (ℕ × List ℕ))
    → quoted_character c cs ≡ o → nat_eq c quote ≡ false → behind_character reader done o ≡ Some (all, rest)
    → ((now next : List ℕ) → reader now next ≡ Some (all, rest) → Quotes quote now next all rest) → Quotes quote done (c ∷ cs) all rest
quote_behind reader quote done c cs all rest None read isnt e more = absurd (none-some (all, rest) e)
quote_behind reader quote done c cs all rest (Some (x, behind)) read isnt e more =
    let m = more (done ++ x ∷ []) behind e in
    (x ∷ m.0, m.1 ∙ append_assoc done (x ∷ []) m.0, split.character quote c cs x behind m.0 rest (unlike c quote isnt) read m.2)

quote_on : (reader : List ℕ → List ℕ → Option (List ℕ × List ℕ)) (quote : ℕ) (done : List ℕ) (c : ℕ) (cs all rest : List ℕ) (b : Bool) → nat_eq c quote ≡ b
    → (if b then Some (done, cs) else behind_character reader done (quoted_character c cs)) ≡ Some (all, rest)
    → ((now next : List ℕ) → reader now next ≡ Some (all, rest) → Quotes quote now next all rest) → Quotes quote done (c ∷ cs) all rest
quote_on reader quote done c cs all rest true is e more =
    let same = same_pair e in (
      [],
      sym same.0 ∙ sym (append-nil done),
      subst (λ x. AreQuoted quote (x ∷ cs) [] rest) (sym (eqb-true c quote is))
          (subst (λ r. AreQuoted quote (quote ∷ cs) [] r) same.1 (split.closing quote cs)),
    )
quote_on reader quote done c cs all rest false isnt e more = quote_behind reader quote done c cs all rest (quoted_character c cs) refl isnt e more

quotes_from : (n quote : ℕ) (done cs all rest : List ℕ) → quoted_from n quote done cs ≡ Some (all, rest) → Quotes quote done cs all rest
unfolding quoted_from
quotes_from zero quote done cs all rest e = absurd (none-some (all, rest) e)
quotes_from (suc n) quote done [] all rest e = absurd (none-some (all, rest) e)
quotes_from (suc n) quote done (c ∷ cs) all rest e =
    quote_on (quoted_from n quote) quote done c cs all rest (nat_eq c quote) refl e (λ now next f. quotes_from n quote now next all rest f)

are_quoted : (quote : ℕ) (cs characters rest : List ℕ) → quoted quote cs ≡ Some (characters, rest) → AreQuoted quote cs characters rest
are_quoted quote cs characters rest e =
    let q = quotes_from (length cs) quote [] cs characters rest e in
    subst (λ xs. AreQuoted quote cs xs rest) (sym q.1) q.2

quoted_on : {quote : ℕ} {cs characters rest : List ℕ} → AreQuoted quote cs characters rest → (done : List ℕ) → quoted_behind quote done cs ≡ Some (done ++ characters, rest)
quoted_on (split.closing quote rest) done =
    quoted-more quote done quote rest
    ∙ ap (λ b. if b then Some (done, rest) else behind_character (quoted_behind quote) done (quoted_character quote rest)) (eq-eqb quote quote refl)
    ∙ ap (λ xs. Some (xs, rest)) (sym (append-nil done))
quoted_on (split.character quote c cs x behind characters rest other read d) done =
    sym (quoted-step quote c x done (done ++ x ∷ []) (c ∷ cs) cs behind (Some x) refl other read refl refl)
    ∙ quoted_on d (done ++ x ∷ []) ∙ ap (λ xs. Some (xs, rest)) (append_assoc done (x ∷ []) characters)

quoted_is : {quote : ℕ} {cs characters rest : List ℕ} → AreQuoted quote cs characters rest → quoted quote cs ≡ Some (characters, rest)
quoted_is d = quoted_on d []

-- tokens
abbrev atom_if : List ℕ → List ℕ → Bool → Option (Token × List ℕ)
atom_if name rest short = if short then Some (token.Atom name, rest) else None

atom_from : (name rest : List ℕ) (t : Token) (behind : List ℕ) (b : Bool) → nat_le (length name) 255 ≡ b
    → atom_if name rest b ≡ Some (t, behind) → (length name ≤ 255) × (token.Atom name ≡ t) × (rest ≡ behind)
atom_from name rest t behind true short e = let same = same_pair e in (leb-true (length name) 255 short, same.0, same.1)
atom_from name rest t behind false long e = absurd (none-some (t, behind) e)

quoted_atom_from : (cs : List ℕ) (t : Token) (rest : List ℕ) (o : Option (List ℕ × List ℕ)) → quoted 39 cs ≡ o → option_and_then atom_of o ≡ Some (t, rest) → IsToken (39 ∷ cs) t rest
quoted_atom_from cs t rest None read e = absurd (none-some (t, rest) e)
quoted_atom_from cs t rest (Some (name, behind)) read e =
    let a = atom_from name behind t rest (nat_le (length name) 255) refl e in
    subst (λ u. IsToken (39 ∷ cs) u rest) a.1
    (subst (λ r. IsToken (39 ∷ cs) (token.Atom name) r) a.2 (split.quoted_atom cs name behind (are_quoted 39 cs name behind read) a.0))

string_from : (cs : List ℕ) (t : Token) (rest : List ℕ) (o : Option (List ℕ × List ℕ)) → quoted 34 cs ≡ o → option_map string_of o ≡ Some (t, rest) → IsToken (34 ∷ cs) t rest
string_from cs t rest None read e = absurd (none-some (t, rest) e)
string_from cs t rest (Some (characters, behind)) read e =
    let same = same_pair e in
    subst (λ u. IsToken (34 ∷ cs) u rest) same.0
    (subst (λ r. IsToken (34 ∷ cs) (token.Str characters) r) same.1 (split.string cs characters behind (are_quoted 34 cs characters behind read)))

token_on : (c : ℕ) (cs : List ℕ) (t : Token) (rest : List ℕ) (b d : Bool) → nat_eq c 39 ≡ b → nat_eq c 34 ≡ d → token_at (c ∷ cs) ≡ Some (t, rest) → IsToken (c ∷ cs) t rest
token_on c cs t rest true d is isnt e =
    let same = eqb-true c 39 is in
    subst (λ x. IsToken (x ∷ cs) t rest) (sym same) (quoted_atom_from cs t rest (quoted 39 cs) refl (ap (λ x. token_at (x ∷ cs)) (sym same) ∙ e))
token_on c cs t rest false true isnt is e =
    let same = eqb-true c 34 is in
    subst (λ x. IsToken (x ∷ cs) t rest) (sym same) (string_from cs t rest (quoted 34 cs) refl (ap (λ x. token_at (x ∷ cs)) (sym same) ∙ e))
token_on c cs t rest false false isnt other e = split.other c cs t rest (unlike c 39 isnt) (unlike c 34 other) e

pub is_token : (text : List ℕ) (t : Token) (rest : List ℕ) → token_at text ≡ Some (t, rest) → IsToken text t rest
is_token [] t rest e = absurd (none-some (t, rest) e)
is_token (c ∷ cs) t rest e = token_on c cs t rest (nat_eq c 39) (nat_eq c 34) refl refl e

pub token_is : {text : List ℕ} {t : Token} {rest : List ℕ} → IsToken text t rest → token_at text ≡ Some (t, rest)
token_is (split.quoted_atom cs name rest d short) =
    ap (option_and_then atom_of) (quoted_is d) ∙ ap (atom_if name rest) (le-leb (length name) 255 short)
token_is (split.string cs characters rest d) = ap (option_map string_of) (quoted_is d)
token_is (split.other c cs t rest isnt other e) = e

-- forms
abbrev Found : List Token → List ℕ → List Token → List ℕ → Type 0
Found done text all rest = (tokens : List Token) × (all ≡ with_tokens done tokens) × AreTokens text tokens rest

found_behind : (reader : List Token → List ℕ → Option (List Token × List ℕ)) (done : List Token) (text : List ℕ) (all : List Token) (rest : List ℕ) (o : Option (Token × List ℕ))
    → is_full_stop text ≡ false → token_at text ≡ o → behind_token reader done o ≡ Some (all, rest)
    → ((now : List Token) (next : List ℕ) → reader now next ≡ Some (all, rest) → Found now next all rest) → Found done text all rest
found_behind reader done text all rest None stop read e more = absurd (none-some (all, rest) e)
found_behind reader done text all rest (Some (first, behind)) stop read e more =
    let m = more (with_token done first) (skip_blank behind) e in
    (first ∷ m.0, m.1, split.more text first behind (skip_blank behind) m.0 rest stop (is_token text first behind read) (space behind) m.2)

found_on : (reader : List Token → List ℕ → Option (List Token × List ℕ)) (done : List Token) (c : ℕ) (cs : List ℕ) (all : List Token) (rest : List ℕ) (b : Bool)
    → is_full_stop (c ∷ cs) ≡ b → (if b then Some (done, cs) else behind_token reader done (token_at (c ∷ cs))) ≡ Some (all, rest)
    → ((now : List Token) (next : List ℕ) → reader now next ≡ Some (all, rest) → Found now next all rest) → Found done (c ∷ cs) all rest
found_on reader done c cs all rest true is e more =
    let same = same_pair e in
    let stop = and_parts (nat_eq c 46) (ends_form cs) is in (
      [],
      sym same.0,
      subst (λ x. AreTokens (x ∷ cs) [] rest) (sym (eqb-true c 46 stop.0))
          (subst (λ r. AreTokens (46 ∷ cs) [] r) same.1 (split.full_stop cs stop.1)),
    )
found_on reader done c cs all rest false isnt e more = found_behind reader done (c ∷ cs) all rest (token_at (c ∷ cs)) isnt refl e more

found_from : (n : ℕ) (done : List Token) (text : List ℕ) (all : List Token) (rest : List ℕ) → tokens_from n done text ≡ Some (all, rest) → Found done text all rest
unfolding tokens_from
found_from zero done text all rest e = absurd (none-some (all, rest) e)
found_from (suc n) done [] all rest e = absurd (none-some (all, rest) e)
found_from (suc n) done (c ∷ cs) all rest e =
    found_on (tokens_from n) done c cs all rest (is_full_stop (c ∷ cs)) refl e (λ now next f. found_from n now next all rest f)

walked_on : {text : List ℕ} {tokens : List Token} {rest : List ℕ} → AreTokens text tokens rest → (done : List Token) → tokens_behind done text ≡ Some (with_tokens done tokens, rest)
walked_on (split.full_stop rest stop) done = tokens-stop done (46 ∷ rest) rest refl stop
walked_on (split.more text first behind next tokens rest stop is gap d) done =
    sym (tokens-step done (with_token done first) text behind next (Some first) first stop (token_is is) refl refl (sym (skipped gap)))
    ∙ walked_on d (with_token done first)

-- where the walk finds tokens, the text is split into them
pub has_tokens : (text : List ℕ) (tokens : List Token) (rest : List ℕ) → form_tokens text ≡ Some (tokens, rest) → HasTokens text tokens rest
has_tokens text tokens rest e =
    let f = found_from (length (skip_blank text)) [] (skip_blank text) tokens rest e in
    record { start = skip_blank text; space = space text; each = f.0; split = f.2; joins = f.1 ∙ with_tokens-joined [] f.0 }

-- and where it is split, the walk finds them
pub walked : {text : List ℕ} {tokens : List Token} {rest : List ℕ} → HasTokens text tokens rest → form_tokens text ≡ Some (tokens, rest)
walked {text} {tokens} {rest} h =
    ap (tokens_behind []) (skipped h.space) ∙ walked_on h.split [] ∙ ap (λ ts. Some (ts, rest)) (with_tokens-joined [] h.each ∙ sym h.joins)

pub has_none : (text : List ℕ) → form_tokens text ≡ None → HasNoTokens text
has_none text e = λ tokens rest h. none-some (tokens, rest) (sym e ∙ walked h)

-- a text is split in one way at most
pub one_split : (text : List ℕ) (tokens others : List Token) (rest rest' : List ℕ) → HasTokens text tokens rest → HasTokens text others rest' → (tokens ≡ others) × (rest ≡ rest')
one_split text tokens others rest rest' h k = same_pair (sym (walked h) ∙ walked k)
