-- A print is read token by token.
use Rattle.std.proofs.Common.{◌≡◌, ℕ, ◌^◌, Bool, true, false, nat_lt, nat_le, ℤ, pos, List, [], ◌∷◌, ◌++◌, length, codes, Some, refl, sym, ap, ◌∙◌, subst, append_assoc, append-nil, true≢false, arith}
use Rattle.std.specs.Fmt.{decimal, signed_decimal}
use Rattle.std.specs.Str.{all_scalars}
use Rattle.std.proofs.lemmas.Bool.{leb-true, lt-ltb}
use Rattle.ej_term.specs.Term.{Term, Int, Atom, Reference, Fun, Pid, Tuple, Map, Nil, Cons, Terms, None, More, Pairs, Empty, Pair, has_64_bits}
use Rattle.ej_term.specs.TermPrint.{print_atom, print_numbers, print_function, print, print_parts, print_rest, print_pairs, print_more_pairs, print_tail}
use Rattle.asm_terms.specs.Tokens.{token_at, is_full_stop, skip_blank, with_token, tokens_behind, form_tokens}
use Rattle.asm_terms.specs.declared.token.Token.{Token}
use Rattle.asm_terms.specs.declared.token.Token.TheVariants as token
use Rattle.asm_terms.proofs.TokenLemmas.{tokens-step, tokens-stop, with_token-plain}
use Rattle.ej_term.specs.Readable.{is_short}
use Rattle.term_text.proofs.Fronts.{Stops, Begins}
use Rattle.term_text.proofs.Names.{atom-begins}
use Rattle.term_text.proofs.Numbers.{int-begins, pid-begins, reference-begins}
use Rattle.term_text.proofs.Spelled.{function_tokens, tokens, parts_tokens, rest_tokens, pairs_tokens, more_tokens, tail_tokens}
use Rattle.term_text.proofs.Sound.{IsFunction, Sound, AllSound, AllPairsSound}

abbrev is_string : Token → Bool
is_string (token.Str xs) = true
is_string _ = false

no-string : (t : Token) → is_string t ≡ false → (xs : List ℕ) → t ≡ token.Str xs → ⊥
no-string t h xs e = true≢false (sym (ap is_string e) ∙ h)

-- a text is read as these tokens up to its full stop, which a newline follows and ends
record Reads (text : List ℕ) (ts : List Token) : Type 0 where
  solid : skip_blank text ≡ text
  behind : (done : List Token) → tokens_behind done text ≡ Some (done ++ ts, codes "\n")

-- and each token of a print ends before it
record Follows (text : List ℕ) (ts : List Token) : Type 0 where
  stops : Stops text
  reads : Reads text ts

with-one : (done : List Token) (t : Token) → is_string t ≡ false → with_token done t ≡ done ++ t ∷ []
with-one done t h = with_token-plain done t (no-string t h)

-- one token before what is read
one : (text mid next : List ℕ) (t : Token) (ts : List Token) → skip_blank text ≡ text → is_full_stop text ≡ false → token_at text ≡ Some (t, mid) → is_string t ≡ false
    → skip_blank mid ≡ next → Reads next ts → Reads text (t ∷ ts)
one text mid next t ts solid go here plain blank r = record {
  solid = solid;
  behind =
      λ done. sym (tokens-step done (done ++ t ∷ []) text mid next (Some t) t go here refl (sym (with-one done t plain)) (sym blank))
      ∙ r.behind (done ++ t ∷ []) ∙ ap (λ all. Some (all, codes "\n")) (append_assoc done (t ∷ []) ts);
}

-- a piece of text that is one token
piece : (text rest : List ℕ) (t : Token) (ts : List Token) → Begins text t → is_string t ≡ false → Follows rest ts → Reads (text ++ rest) (t ∷ ts)
piece text rest t ts b plain f = one (text ++ rest) rest rest t ts (b.solid rest) (b.goes_on rest) (b.token rest f.stops) plain f.reads.solid f.reads

-- ---- marks

comma : (rest : List ℕ) (ts : List Token) → Reads rest ts → Follows (44 ∷ rest) (token.Comma ∷ ts)
comma rest ts r = record {
  stops = record { no_digit = refl; no_fraction = refl; no_name = refl; no_blank = refl };
  reads = one (44 ∷ rest) rest rest token.Comma ts refl refl refl refl r.solid r;
}

bar : (rest : List ℕ) (ts : List Token) → Reads rest ts → Follows (124 ∷ rest) (token.Bar ∷ ts)
bar rest ts r = record {
  stops = record { no_digit = refl; no_fraction = refl; no_name = refl; no_blank = refl };
  reads = one (124 ∷ rest) rest rest token.Bar ts refl refl refl refl r.solid r;
}

colon : (rest : List ℕ) (ts : List Token) → Reads rest ts → Follows (58 ∷ rest) (token.Colon ∷ ts)
colon rest ts r = record {
  stops = record { no_digit = refl; no_fraction = refl; no_name = refl; no_blank = refl };
  reads = one (58 ∷ rest) rest rest token.Colon ts refl refl refl refl r.solid r;
}

slash : (rest : List ℕ) (ts : List Token) → Reads rest ts → Follows (47 ∷ rest) (token.Slash ∷ ts)
slash rest ts r = record {
  stops = record { no_digit = refl; no_fraction = refl; no_name = refl; no_blank = refl };
  reads = one (47 ∷ rest) rest rest token.Slash ts refl refl refl refl r.solid r;
}

arrow : (rest : List ℕ) (ts : List Token) → Reads rest ts → Follows (61 ∷ 62 ∷ rest) (token.Arrow ∷ ts)
arrow rest ts r = record {
  stops = record { no_digit = refl; no_fraction = refl; no_name = refl; no_blank = refl };
  reads = one (61 ∷ 62 ∷ rest) rest rest token.Arrow ts refl refl refl refl r.solid r;
}

close-brace : (rest : List ℕ) (ts : List Token) → Follows rest ts → Follows (125 ∷ rest) (token.CloseTuple ∷ ts)
close-brace rest ts f = record {
  stops = record { no_digit = refl; no_fraction = refl; no_name = refl; no_blank = refl };
  reads = one (125 ∷ rest) rest rest token.CloseTuple ts refl refl refl refl f.reads.solid f.reads;
}

close-bracket : (rest : List ℕ) (ts : List Token) → Follows rest ts → Follows (93 ∷ rest) (token.CloseList ∷ ts)
close-bracket rest ts f = record {
  stops = record { no_digit = refl; no_fraction = refl; no_name = refl; no_blank = refl };
  reads = one (93 ∷ rest) rest rest token.CloseList ts refl refl refl refl f.reads.solid f.reads;
}

open-brace : (rest : List ℕ) (ts : List Token) → Reads rest ts → Reads (123 ∷ rest) (token.OpenTuple ∷ ts)
open-brace rest ts r = one (123 ∷ rest) rest rest token.OpenTuple ts refl refl refl refl r.solid r

open-bracket : (rest : List ℕ) (ts : List Token) → Reads rest ts → Reads (91 ∷ rest) (token.OpenList ∷ ts)
open-bracket rest ts r = one (91 ∷ rest) rest rest token.OpenList ts refl refl refl refl r.solid r

open-map : (rest : List ℕ) (ts : List Token) → Reads rest ts → Reads (35 ∷ 123 ∷ rest) (token.OpenMap ∷ ts)
open-map rest ts r = one (35 ∷ 123 ∷ rest) rest rest token.OpenMap ts refl refl refl refl r.solid r

word-fun : (rest : List ℕ) (ts : List Token) → Reads rest ts → Reads (102 ∷ 117 ∷ 110 ∷ 32 ∷ rest) (token.Fun ∷ ts)
word-fun rest ts r = one (102 ∷ 117 ∷ 110 ∷ 32 ∷ rest) (32 ∷ rest) rest token.Fun ts refl refl refl refl r.solid r

-- ---- terms

atom-reads : (name rest : List ℕ) (ts : List Token) → all_scalars name ≡ true → is_short name ≡ true → Follows rest ts → Reads (print_atom name ++ rest) (token.Atom name ∷ ts)
atom-reads name rest ts s short f = piece (print_atom name) rest (token.Atom name) ts (atom-begins name s (leb-true (length name) 255 short)) refl f

arity-reads : (arity : ℕ) (rest : List ℕ) (ts : List Token) → nat_le arity 255 ≡ true → Follows rest ts → Reads (decimal arity ++ rest) (token.Int (pos arity) ∷ ts)
arity-reads arity rest ts small f =
    let le = leb-true arity 255 small in
    piece (decimal arity) rest (token.Int (pos arity)) ts (int-begins (pos arity) (lt-ltb arity (2 ^ 63) (omega (arith, le)))) refl f

-- the text of `M:F/A` before a text, in pieces
regrouped : (m f a rest : List ℕ) → (((((m ++ 58 ∷ []) ++ f) ++ 47 ∷ []) ++ a) ++ rest) ≡ m ++ 58 ∷ (f ++ 47 ∷ (a ++ rest))
regrouped m f a rest =
    append_assoc (((m ++ 58 ∷ []) ++ f) ++ 47 ∷ []) a rest ∙ append_assoc ((m ++ 58 ∷ []) ++ f) (47 ∷ []) (a ++ rest)
    ∙ append_assoc (m ++ 58 ∷ []) f (47 ∷ (a ++ rest)) ∙ append_assoc m (58 ∷ []) (f ++ 47 ∷ (a ++ rest))

function-reads : (local : Bool) (owner name : List ℕ) (arity : ℕ) (environment : Terms) (rest : List ℕ) (ts : List Token) → IsFunction local owner name arity environment → Follows rest ts
    → Reads (print_function owner name arity ++ rest) (function_tokens owner name arity ts)
function-reads local owner name arity environment rest ts is f =
    subst (λ text. Reads (102 ∷ 117 ∷ 110 ∷ 32 ∷ text) (function_tokens owner name arity ts)) (sym (regrouped (print_atom owner) (print_atom name) (decimal arity) rest))
    (word-fun _ _
    (atom-reads owner _ _ is.owner_scalars is.owner_short
    (colon _ _
    (atom-reads name _ _ is.name_scalars is.name_short
    (slash _ _
    (arity-reads arity rest ts is.small f))))))

-- between brackets
between : (front rest : List ℕ) (c : ℕ) → (front ++ c ∷ []) ++ rest ≡ front ++ c ∷ rest
between front rest c = append_assoc front (c ∷ []) rest

int-reads : (n : ℤ) (rest : List ℕ) (ts : List Token) → has_64_bits n ≡ true → Follows rest ts → Reads (signed_decimal n ++ rest) (token.Int n ∷ ts)
int-reads n rest ts s f = piece (signed_decimal n) rest (token.Int n) ts (int-begins n s) refl f

reference-reads : (node number : ℕ) (rest : List ℕ) (ts : List Token) → nat_lt node (2 ^ 32) ≡ true → nat_le number (2 ^ 62) ≡ true → Follows rest ts
    → Reads ((codes "#Ref" ++ print_numbers node number) ++ rest) (token.Ref node number ∷ ts)
reference-reads node number rest ts s k f = piece (codes "#Ref" ++ print_numbers node number) rest (token.Ref node number) ts (reference-begins node number s k) refl f

pid-reads : (node number : ℕ) (rest : List ℕ) (ts : List Token) → nat_lt node (2 ^ 32) ≡ true → nat_le number (2 ^ 62) ≡ true → Follows rest ts
    → Reads ((codes "#Pid" ++ print_numbers node number) ++ rest) (token.Pid node number ∷ ts)
pid-reads node number rest ts s k f = piece (codes "#Pid" ++ print_numbers node number) rest (token.Pid node number) ts (pid-begins node number s k) refl f

tuple-reads : (parts rest : List ℕ) (ts : List Token) → Reads (parts ++ 125 ∷ rest) ts → Reads ((codes "{" ++ parts ++ codes "}") ++ rest) (token.OpenTuple ∷ ts)
tuple-reads parts rest ts r = open-brace _ _ (subst (λ text. Reads text ts) (sym (between parts rest 125)) r)

map-reads : (pairs rest : List ℕ) (ts : List Token) → Reads (pairs ++ 125 ∷ rest) ts → Reads ((codes "#{" ++ pairs ++ codes "}") ++ rest) (token.OpenMap ∷ ts)
map-reads pairs rest ts r = open-map _ _ (subst (λ text. Reads text ts) (sym (between pairs rest 125)) r)

-- `K=>V` and what follows
pair-reads : (key value : Term) (others rest : List ℕ) (ts : List Token) → Sound key → Sound value
    → ((rest : List ℕ) (ts : List Token) → Sound key → Follows rest ts → Reads (print key ++ rest) (tokens key ts))
    → ((rest : List ℕ) (ts : List Token) → Sound value → Follows rest ts → Reads (print value ++ rest) (tokens value ts))
    → Follows (others ++ rest) ts → Reads ((print key ++ codes "=>" ++ print value ++ others) ++ rest) (tokens key (token.Arrow ∷ tokens value ts))
pair-reads key value others rest ts k v key_reads value_reads f =
    subst (λ text. Reads text (tokens key (token.Arrow ∷ tokens value ts)))
    (sym (append_assoc ((print key ++ codes "=>") ++ print value) others rest ∙ append_assoc (print key ++ codes "=>") (print value) (others ++ rest)
    ∙ append_assoc (print key) (codes "=>") (print value ++ (others ++ rest))))
    (key_reads _ _ k (arrow _ _ (value_reads (others ++ rest) ts v f)))

mutual
  term-reads : (t : Term) (rest : List ℕ) (ts : List Token) → Sound t → Follows rest ts → Reads (print t ++ rest) (tokens t ts)
  term-reads (Int n) rest ts s f = int-reads n rest ts s f
  term-reads (Atom name) rest ts s f = atom-reads name rest ts s.0 s.1 f
  term-reads (Reference node number) rest ts s f = reference-reads node number rest ts s.0 s.1 f
  term-reads (Fun true owner name arity environment) rest ts s f = absurd (true≢false s.external)
  term-reads (Fun false owner name arity environment) rest ts s f = function-reads false owner name arity environment rest ts s f
  term-reads (Pid node number) rest ts s f = pid-reads node number rest ts s.0 s.1 f
  term-reads (Tuple parts) rest ts s f = tuple-reads (print_parts parts) rest (parts_tokens parts (token.CloseTuple ∷ ts)) (parts-reads parts (125 ∷ rest) (token.CloseTuple ∷ ts) s (close-brace rest ts f))
  term-reads (Map pairs) rest ts s f = map-reads (print_pairs pairs) rest (pairs_tokens pairs (token.CloseTuple ∷ ts)) (pairs-reads pairs (125 ∷ rest) (token.CloseTuple ∷ ts) s.1 (close-brace rest ts f))
  term-reads Nil rest ts s f = let closed = close-bracket rest ts f in open-bracket (93 ∷ rest) (token.CloseList ∷ ts) closed.reads
  term-reads (Cons head tail) rest ts s f =
      open-bracket _ _ (subst (λ text. Reads text (tokens head (tail_tokens tail (token.CloseList ∷ ts))))
      (sym (between (print head ++ print_tail tail) rest 93 ∙ append_assoc (print head) (print_tail tail) (93 ∷ rest)))
      (term-reads head (print_tail tail ++ 93 ∷ rest) (tail_tokens tail (token.CloseList ∷ ts)) s.0
      (tail-reads tail (93 ∷ rest) (token.CloseList ∷ ts) s.1 (close-bracket rest ts f))))

  parts-reads : (parts : Terms) (rest : List ℕ) (ts : List Token) → AllSound parts → Follows rest ts → Reads (print_parts parts ++ rest) (parts_tokens parts ts)
  parts-reads None rest ts s f = f.reads
  parts-reads (More first others) rest ts s f =
      subst (λ text. Reads text (tokens first (rest_tokens others ts))) (sym (append_assoc (print first) (print_rest others) rest))
      (term-reads first (print_rest others ++ rest) (rest_tokens others ts) s.0 (rest-reads others rest ts s.1 f))

  rest-reads : (parts : Terms) (rest : List ℕ) (ts : List Token) → AllSound parts → Follows rest ts → Follows (print_rest parts ++ rest) (rest_tokens parts ts)
  rest-reads None rest ts s f = f
  rest-reads (More first others) rest ts s f =
      comma _ _ (subst (λ text. Reads text (tokens first (rest_tokens others ts))) (sym (append_assoc (print first) (print_rest others) rest))
      (term-reads first (print_rest others ++ rest) (rest_tokens others ts) s.0 (rest-reads others rest ts s.1 f)))

  pairs-reads : (pairs : Pairs) (rest : List ℕ) (ts : List Token) → AllPairsSound pairs → Follows rest ts → Reads (print_pairs pairs ++ rest) (pairs_tokens pairs ts)
  pairs-reads Empty rest ts s f = f.reads
  pairs-reads (Pair key value others) rest ts s f = pair-reads key value (print_more_pairs others) rest (more_tokens others ts) s.0 s.1 (term-reads key) (term-reads value) (more-reads others rest ts s.2 f)

  more-reads : (pairs : Pairs) (rest : List ℕ) (ts : List Token) → AllPairsSound pairs → Follows rest ts → Follows (print_more_pairs pairs ++ rest) (more_tokens pairs ts)
  more-reads Empty rest ts s f = f
  more-reads (Pair key value others) rest ts s f = comma _ _ (pair-reads key value (print_more_pairs others) rest (more_tokens others ts) s.0 s.1 (term-reads key) (term-reads value) (more-reads others rest ts s.2 f))

  tail-reads : (t : Term) (rest : List ℕ) (ts : List Token) → Sound t → Follows rest ts → Follows (print_tail t ++ rest) (tail_tokens t ts)
  tail-reads Nil rest ts s f = f
  tail-reads (Cons head tail) rest ts s f =
      comma _ _ (subst (λ text. Reads text (tokens head (tail_tokens tail ts))) (sym (append_assoc (print head) (print_tail tail) rest))
      (term-reads head (print_tail tail ++ rest) (tail_tokens tail ts) s.0 (tail-reads tail rest ts s.1 f)))
  tail-reads (Int n) rest ts s f = bar _ _ (int-reads n rest ts s f)
  tail-reads (Atom name) rest ts s f = bar _ _ (atom-reads name rest ts s.0 s.1 f)
  tail-reads (Reference node number) rest ts s f = bar _ _ (reference-reads node number rest ts s.0 s.1 f)
  tail-reads (Fun true owner name arity environment) rest ts s f = absurd (true≢false s.external)
  tail-reads (Fun false owner name arity environment) rest ts s f = bar _ _ (function-reads false owner name arity environment rest ts s f)
  tail-reads (Pid node number) rest ts s f = bar _ _ (pid-reads node number rest ts s.0 s.1 f)
  tail-reads (Tuple parts) rest ts s f = bar _ _ (tuple-reads (print_parts parts) rest (parts_tokens parts (token.CloseTuple ∷ ts)) (parts-reads parts (125 ∷ rest) (token.CloseTuple ∷ ts) s (close-brace rest ts f)))
  tail-reads (Map pairs) rest ts s f = bar _ _ (map-reads (print_pairs pairs) rest (pairs_tokens pairs (token.CloseTuple ∷ ts)) (pairs-reads pairs (125 ∷ rest) (token.CloseTuple ∷ ts) s.1 (close-brace rest ts f)))

-- the full stop and the newline
end-reads : Follows (codes ".\n") []
end-reads = record {
  stops = record { no_digit = refl; no_fraction = refl; no_name = refl; no_blank = refl };
  reads = record { solid = refl; behind = λ done. tokens-stop done (codes ".\n") (codes "\n") refl refl ∙ ap (λ all. Some (all, codes "\n")) (sym (append-nil done)) };
}

-- a print and a full stop begin with no space, and have the print's tokens
pub print-solid : (t : Term) → Sound t → skip_blank (print t ++ codes ".\n") ≡ print t ++ codes ".\n"
print-solid t s = let r = term-reads t (codes ".\n") [] s end-reads in r.solid

pub print-tokens : (t : Term) → Sound t → form_tokens (print t ++ codes ".\n") ≡ Some (tokens t [], codes "\n")
print-tokens t s = let r = term-reads t (codes ".\n") [] s end-reads in ap (tokens_behind []) r.solid ∙ r.behind []
