-- The tokens of a print are too deep exactly where the term is.
use Rattle.std.proofs.Common.{◌≡◌, ℕ, suc, ◌+◌, ◌≤◌, Bool, true, false, not, ◌&&◌, ◌||◌, nat_lt, pos, List, [], ◌∷◌, refl, ap, ap₂, ◌∙◌, true≢false, arith}
use Rattle.std.proofs.lemmas.Bool.{ltb-true}
use Rattle.std.proofs.lemmas.Bool.Decides.{nat_tests}
use Rattle.ej_term.specs.Term.{Term, Int, Atom, Reference, Fun, Pid, Tuple, Map, Nil, Cons, Terms, None, More, Pairs, Empty, Pair}
use Rattle.asm_terms.specs.declared.token.Token.{Token}
use Rattle.asm_terms.specs.declared.token.Token.TheVariants as token
use Rattle.asm_terms.specs.Grammar.{opened_by, closed_by, deep_behind, too_deep}
use Rattle.ej_term.specs.Readable.{is_shallow, are_shallow, are_shallow_pairs, is_shallow_tail}
use Rattle.term_text.proofs.Spelled.{function_tokens, tokens, parts_tokens, rest_tokens, pairs_tokens, more_tokens, tail_tokens}
use Rattle.term_text.proofs.Sound.{Sound, AllSound, AllPairsSound}

-- what a token that opens and closes so many tells, before others
abbrev step : (opened closed opens closes : ℕ) → List Token → Bool
step opened closed opens closes ts = nat_lt (closed + closes + 256) (opened + opens) || deep_behind (opened + opens) (closed + closes) ts

abbrev at : (opened closed : ℕ) → List Token → Bool
at opened closed ts = nat_lt (closed + 256) opened || deep_behind opened closed ts

same-test : (o c : ℕ) → nat_lt (suc c + 256) (suc o) ≡ nat_lt (c + 256) o
same-test o c = grind (arith, nat_tests)

-- one more opened and one more closed
shift : (o c : ℕ) (ts : List Token) → deep_behind (suc o) (suc c) ts ≡ deep_behind o c ts
shift o c [] = refl
shift o c (t ∷ ts) =
    let opened : suc o + opened_by t ≡ suc (o + opened_by t) = omega arith in
    let closed : suc c + closed_by t ≡ suc (c + closed_by t) = omega arith in
    ap₂ (λ x y. at x y ts) opened closed ∙ ap₂ ◌||◌ (same-test (o + opened_by t) (c + closed_by t)) (shift (o + opened_by t) (c + closed_by t) ts)

-- with so many open, some place of these tokens is too deep
abbrev deep : ℕ → List Token → Bool
deep opened ts = deep_behind opened 0 ts

within : (o : ℕ) → o ≤ 256 → nat_lt (0 + 256) o ≡ false
within o h = grind (arith, nat_tests)

flat : (o : ℕ) (t : Token) (ts : List Token) → opened_by t ≡ 0 → closed_by t ≡ 0 → o ≤ 256 → deep o (t ∷ ts) ≡ deep o ts
flat o t ts e f h =
    let opened : o + 0 ≡ o = omega arith in
    ap₂ (λ x y. step o 0 x y ts) e f ∙ ap (λ x. at x 0 ts) opened ∙ ap (λ b. b || deep o ts) (within o h)

one-open : (o : ℕ) → nat_lt (0 + 256) (suc o) ≡ not (nat_lt o 256)
one-open o = grind (arith, nat_tests)

opens : (o : ℕ) (t : Token) (ts : List Token) → opened_by t ≡ 1 → closed_by t ≡ 0 → deep o (t ∷ ts) ≡ (not (nat_lt o 256) || deep (suc o) ts)
opens o t ts e f =
    let opened : o + 1 ≡ suc o = omega arith in
    ap₂ (λ x y. step o 0 x y ts) e f ∙ ap (λ x. at x 0 ts) opened ∙ ap (λ b. b || deep (suc o) ts) (one-open o)

one-closed : (o : ℕ) → o ≤ 256 → nat_lt (1 + 256) (suc o) ≡ false
one-closed o h = grind (arith, nat_tests)

closes : (o : ℕ) (t : Token) (ts : List Token) → opened_by t ≡ 0 → closed_by t ≡ 1 → o ≤ 256 → deep (suc o) (t ∷ ts) ≡ deep o ts
closes o t ts e f h =
    let opened : suc o + 0 ≡ suc o = omega arith in
    ap₂ (λ x y. step (suc o) 0 x y ts) e f ∙ ap (λ x. at x 1 ts) opened ∙ ap (λ b. b || deep_behind (suc o) 1 ts) (one-closed o h) ∙ shift o 0 ts

both : (a b c : Bool) → (not a || (not b || c)) ≡ (not (a && b) || c)
both true b c = refl
both false b c = refl

and-true : (a : Bool) → a && true ≡ a
and-true true = refl
and-true false = refl

-- an opening bracket and what is in it, up to its end
bracket : (o : ℕ) (t : Token) (inner ts : List Token) (s : Bool) → opened_by t ≡ 1 → closed_by t ≡ 0 → (suc o ≤ 256 → deep (suc o) inner ≡ (not s || deep o ts))
    → deep o (t ∷ inner) ≡ (not (nat_lt o 256 && s) || deep o ts)
bracket o t inner ts s e f later = opens o t inner e f ∙ by (nat_lt o 256) refl
  where
    by : (b : Bool) → nat_lt o 256 ≡ b → (not b || deep (suc o) inner) ≡ (not (b && s) || deep o ts)
    by true g = let lt = ltb-true o 256 g in later (omega (arith, lt))
    by false g = refl

-- one part, and those behind it
then-more : (o : ℕ) (first mid ts : List Token) (a b : Bool) → deep o first ≡ (not a || deep o mid) → deep o mid ≡ (not b || deep o ts) → deep o first ≡ (not (a && b) || deep o ts)
then-more o first mid ts a b e f = e ∙ ap (λ c. not a || c) f ∙ both a b (deep o ts)

function-deep : (o : ℕ) (owner name : List ℕ) (arity : ℕ) (ts : List Token) → o ≤ 256 → deep o (function_tokens owner name arity ts) ≡ deep o ts
function-deep o owner name arity ts h =
    let arity_left = token.Int (pos arity) ∷ ts in
    let slash_left = token.Slash ∷ arity_left in
    let name_left = token.Atom name ∷ slash_left in
    let colon_left = token.Colon ∷ name_left in
    let owner_left = token.Atom owner ∷ colon_left in
    flat o token.Fun owner_left refl refl h ∙ flat o (token.Atom owner) colon_left refl refl h ∙ flat o token.Colon name_left refl refl h ∙ flat o (token.Atom name) slash_left refl refl h
    ∙ flat o token.Slash arity_left refl refl h ∙ flat o (token.Int (pos arity)) ts refl refl h

-- `K=>V` and the pairs behind it
pair-deep : (o : ℕ) → o ≤ 256 → (key value : Term) (mid ts : List Token) (c : Bool)
    → ((ts : List Token) → deep o (tokens key ts) ≡ (not (is_shallow o key) || deep o ts)) → ((ts : List Token) → deep o (tokens value ts) ≡ (not (is_shallow o value) || deep o ts))
    → deep o mid ≡ (not c || deep o ts) → deep o (tokens key (token.Arrow ∷ tokens value mid)) ≡ (not (is_shallow o key && (is_shallow o value && c)) || deep o ts)
pair-deep o h key value mid ts c keys values e =
    then-more o (tokens key (token.Arrow ∷ tokens value mid)) (token.Arrow ∷ tokens value mid) ts (is_shallow o key) (is_shallow o value && c) (keys (token.Arrow ∷ tokens value mid))
    (flat o token.Arrow (tokens value mid) refl refl h ∙ then-more o (tokens value mid) mid ts (is_shallow o value) c (values mid) e)

mutual
  term-deep : (t : Term) → Sound t → (o : ℕ) → o ≤ 256 → (ts : List Token) → deep o (tokens t ts) ≡ (not (is_shallow o t) || deep o ts)
  term-deep (Int n) s o h ts = flat o (token.Int n) ts refl refl h
  term-deep (Atom name) s o h ts = flat o (token.Atom name) ts refl refl h
  term-deep (Reference node number) s o h ts = flat o (token.Ref node number) ts refl refl h
  term-deep (Fun true owner name arity environment) s o h ts = absurd (true≢false s.external)
  term-deep (Fun false owner name arity environment) s o h ts = function-deep o owner name arity ts h
  term-deep (Pid node number) s o h ts = flat o (token.Pid node number) ts refl refl h
  term-deep (Tuple parts) s o h ts = tuple-deep parts s o h ts
  term-deep (Map pairs) s o h ts = map-deep pairs s.1 o h ts
  term-deep Nil s o h ts =
      bracket o token.OpenList (token.CloseList ∷ ts) ts true refl refl (λ l. closes o token.CloseList ts refl refl h)
      ∙ ap (λ b. not b || deep o ts) (and-true (nat_lt o 256))
  term-deep (Cons head tail) s o h ts =
      bracket o token.OpenList (tokens head (tail_tokens tail (token.CloseList ∷ ts))) ts (is_shallow (suc o) head && is_shallow_tail (suc o) tail) refl refl
      (λ l. then-more (suc o) (tokens head (tail_tokens tail (token.CloseList ∷ ts))) (tail_tokens tail (token.CloseList ∷ ts)) (token.CloseList ∷ ts) (is_shallow (suc o) head) (is_shallow_tail (suc o) tail)
      (term-deep head s.0 (suc o) l (tail_tokens tail (token.CloseList ∷ ts))) (tail-deep tail s.1 (suc o) l (token.CloseList ∷ ts))
      ∙ ap (λ b. not (is_shallow (suc o) head && is_shallow_tail (suc o) tail) || b) (closes o token.CloseList ts refl refl h))

  tuple-deep : (parts : Terms) → AllSound parts → (o : ℕ) → o ≤ 256 → (ts : List Token)
      → deep o (token.OpenTuple ∷ parts_tokens parts (token.CloseTuple ∷ ts)) ≡ (not (nat_lt o 256 && are_shallow (suc o) parts) || deep o ts)
  tuple-deep None s o h ts = bracket o token.OpenTuple (token.CloseTuple ∷ ts) ts true refl refl (λ l. closes o token.CloseTuple ts refl refl h)
  tuple-deep (More first rest) s o h ts =
      bracket o token.OpenTuple (tokens first (rest_tokens rest (token.CloseTuple ∷ ts))) ts (is_shallow (suc o) first && are_shallow (suc o) rest) refl refl
      (λ l. then-more (suc o) (tokens first (rest_tokens rest (token.CloseTuple ∷ ts))) (rest_tokens rest (token.CloseTuple ∷ ts)) (token.CloseTuple ∷ ts) (is_shallow (suc o) first) (are_shallow (suc o) rest)
      (term-deep first s.0 (suc o) l (rest_tokens rest (token.CloseTuple ∷ ts))) (rest-deep rest s.1 (suc o) l (token.CloseTuple ∷ ts))
      ∙ ap (λ b. not (is_shallow (suc o) first && are_shallow (suc o) rest) || b) (closes o token.CloseTuple ts refl refl h))

  rest-deep : (parts : Terms) → AllSound parts → (o : ℕ) → o ≤ 256 → (ts : List Token) → deep o (rest_tokens parts ts) ≡ (not (are_shallow o parts) || deep o ts)
  rest-deep None s o h ts = refl
  rest-deep (More first rest) s o h ts =
      flat o token.Comma (tokens first (rest_tokens rest ts)) refl refl h
      ∙ then-more o (tokens first (rest_tokens rest ts)) (rest_tokens rest ts) ts (is_shallow o first) (are_shallow o rest) (term-deep first s.0 o h (rest_tokens rest ts)) (rest-deep rest s.1 o h ts)

  map-deep : (pairs : Pairs) → AllPairsSound pairs → (o : ℕ) → o ≤ 256 → (ts : List Token)
      → deep o (token.OpenMap ∷ pairs_tokens pairs (token.CloseTuple ∷ ts)) ≡ (not (nat_lt o 256 && are_shallow_pairs (suc o) pairs) || deep o ts)
  map-deep Empty s o h ts = bracket o token.OpenMap (token.CloseTuple ∷ ts) ts true refl refl (λ l. closes o token.CloseTuple ts refl refl h)
  map-deep (Pair key value rest) s o h ts =
      bracket o token.OpenMap (tokens key (token.Arrow ∷ tokens value (more_tokens rest (token.CloseTuple ∷ ts)))) ts
      (is_shallow (suc o) key && (is_shallow (suc o) value && are_shallow_pairs (suc o) rest)) refl refl
      (λ l. pair-deep (suc o) l key value (more_tokens rest (token.CloseTuple ∷ ts)) (token.CloseTuple ∷ ts) (are_shallow_pairs (suc o) rest)
      (term-deep key s.0 (suc o) l) (term-deep value s.1 (suc o) l) (more-deep rest s.2 (suc o) l (token.CloseTuple ∷ ts))
      ∙ ap (λ b. not (is_shallow (suc o) key && (is_shallow (suc o) value && are_shallow_pairs (suc o) rest)) || b) (closes o token.CloseTuple ts refl refl h))

  more-deep : (pairs : Pairs) → AllPairsSound pairs → (o : ℕ) → o ≤ 256 → (ts : List Token) → deep o (more_tokens pairs ts) ≡ (not (are_shallow_pairs o pairs) || deep o ts)
  more-deep Empty s o h ts = refl
  more-deep (Pair key value rest) s o h ts =
      flat o token.Comma (tokens key (token.Arrow ∷ tokens value (more_tokens rest ts))) refl refl h
      ∙ pair-deep o h key value (more_tokens rest ts) ts (are_shallow_pairs o rest) (term-deep key s.0 o h) (term-deep value s.1 o h) (more-deep rest s.2 o h ts)

  tail-deep : (t : Term) → Sound t → (o : ℕ) → o ≤ 256 → (ts : List Token) → deep o (tail_tokens t ts) ≡ (not (is_shallow_tail o t) || deep o ts)
  tail-deep Nil s o h ts = refl
  tail-deep (Cons head tail) s o h ts =
      flat o token.Comma (tokens head (tail_tokens tail ts)) refl refl h
      ∙ then-more o (tokens head (tail_tokens tail ts)) (tail_tokens tail ts) ts (is_shallow o head) (is_shallow_tail o tail) (term-deep head s.0 o h (tail_tokens tail ts)) (tail-deep tail s.1 o h ts)
  tail-deep (Int n) s o h ts = flat o token.Bar (token.Int n ∷ ts) refl refl h ∙ flat o (token.Int n) ts refl refl h
  tail-deep (Atom name) s o h ts = flat o token.Bar (token.Atom name ∷ ts) refl refl h ∙ flat o (token.Atom name) ts refl refl h
  tail-deep (Reference node number) s o h ts = flat o token.Bar (token.Ref node number ∷ ts) refl refl h ∙ flat o (token.Ref node number) ts refl refl h
  tail-deep (Fun true owner name arity environment) s o h ts = absurd (true≢false s.external)
  tail-deep (Fun false owner name arity environment) s o h ts = flat o token.Bar (function_tokens owner name arity ts) refl refl h ∙ function-deep o owner name arity ts h
  tail-deep (Pid node number) s o h ts = flat o token.Bar (token.Pid node number ∷ ts) refl refl h ∙ flat o (token.Pid node number) ts refl refl h
  tail-deep (Tuple parts) s o h ts = flat o token.Bar (token.OpenTuple ∷ parts_tokens parts (token.CloseTuple ∷ ts)) refl refl h ∙ tuple-deep parts s o h ts
  tail-deep (Map pairs) s o h ts = flat o token.Bar (token.OpenMap ∷ pairs_tokens pairs (token.CloseTuple ∷ ts)) refl refl h ∙ map-deep pairs s.1 o h ts

-- the tokens of a print are too deep exactly where the term is not shallow
pub print-depth : (t : Term) → Sound t → too_deep (tokens t []) ≡ not (is_shallow 0 t)
print-depth t s = term-deep t s 0 (omega arith) [] ∙ or-false (not (is_shallow 0 t))
  where
    or-false : (b : Bool) → (b || false) ≡ b
    or-false true = refl
    or-false false = refl
