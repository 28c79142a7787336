-- A print's tokens spell the source's term.
use Rattle.std.proofs.Common.{◌≡◌, ℕ, Bool, List, [], ◌∷◌, Option, Some, ap, subst}
use Rattle.std.proofs.lemmas.Bool.{leb-true}
use Rattle.ej_term.specs.Term.{Term, Int, Atom, Reference, Fun, Pid, Tuple, Map, Nil, Cons, Terms, None, More, Pairs, Empty, Pair}
use Rattle.ej_term.specs.declared.asm_term.AsmTerm.{AsmTerm}
use Rattle.ej_term.specs.declared.asm_term.AsmTerm.TheVariants as source
use Rattle.asm_terms.specs.declared.token.Token.{Token}
use Rattle.asm_terms.specs.declared.token.Token.TheVariants as token
use Rattle.asm_terms.specs.Grammar.{continued_by, continued, IsTerm, int, atom, pid, reference, external, empty_tuple, filled_tuple, empty_list, filled_list, empty_map, filled_map, AreMoreParts, no_part, part, AreMoreElements, no_element, element, bar, AreMorePairs, no_pair, pair}
use Rattle.term_text.proofs.Spelled.{tokens, parts_tokens, rest_tokens, pairs_tokens, more_tokens, tail_tokens, as_source, parts_source, pairs_source, elements_source, tail_source}
use Rattle.term_text.proofs.Sound.{IsFunction, Sound, AllSound, AllPairsSound}

-- a tail that is no list
alone : (ts : List Token) (behind : AsmTerm) (rest : List Token) → continued behind ≡ ([], Some behind) → IsTerm ts behind (token.CloseList ∷ rest) → AreMoreElements (token.Bar ∷ ts) [] (Some behind) rest
alone ts behind rest e is = subst (λ (c : List AsmTerm × Option AsmTerm). AreMoreElements (token.Bar ∷ ts) c.0 c.1 rest) e (bar ts behind rest is)

function-spells : (local : Bool) (owner name : List ℕ) (arity : ℕ) (environment : Terms) (ts : List Token) → IsFunction local owner name arity environment
    → IsTerm (tokens (Fun local owner name arity environment) ts) (source.ExtFun owner name arity) ts
function-spells local owner name arity environment ts is = external owner name arity ts (leb-true arity 255 is.small)

mutual
  pub spells : (t : Term) → Sound t → (ts : List Token) → IsTerm (tokens t ts) (as_source t) ts
  spells (Int n) s ts = int n ts
  spells (Atom name) s ts = atom name ts
  spells (Reference node number) s ts = reference node number ts
  spells (Fun local owner name arity environment) s ts = function-spells local owner name arity environment ts s
  spells (Pid node number) s ts = pid node number ts
  spells (Tuple parts) s ts = tuple-spells parts s ts
  spells (Map pairs) s ts = map-spells pairs s.1 ts
  spells Nil s ts = empty_list ts
  spells (Cons head tail) s ts =
      filled_list (tokens head (tail_tokens tail (token.CloseList ∷ ts))) (as_source head) (tail_tokens tail (token.CloseList ∷ ts)) (elements_source tail) (tail_source tail) ts
      (spells head s.0 (tail_tokens tail (token.CloseList ∷ ts))) (tail-spells tail s.1 ts)

  tuple-spells : (parts : Terms) → AllSound parts → (ts : List Token) → IsTerm (token.OpenTuple ∷ parts_tokens parts (token.CloseTuple ∷ ts)) (source.Tuple (parts_source parts)) ts
  tuple-spells None s ts = empty_tuple ts
  tuple-spells (More first rest) s ts =
      filled_tuple (tokens first (rest_tokens rest (token.CloseTuple ∷ ts))) (as_source first) (rest_tokens rest (token.CloseTuple ∷ ts)) (parts_source rest) ts
      (spells first s.0 (rest_tokens rest (token.CloseTuple ∷ ts))) (rest-spells rest s.1 ts)

  rest-spells : (parts : Terms) → AllSound parts → (ts : List Token) → AreMoreParts (rest_tokens parts (token.CloseTuple ∷ ts)) (parts_source parts) ts
  rest-spells None s ts = no_part ts
  rest-spells (More first rest) s ts =
      part (tokens first (rest_tokens rest (token.CloseTuple ∷ ts))) (as_source first) (rest_tokens rest (token.CloseTuple ∷ ts)) (parts_source rest) ts
      (spells first s.0 (rest_tokens rest (token.CloseTuple ∷ ts))) (rest-spells rest s.1 ts)

  map-spells : (pairs : Pairs) → AllPairsSound pairs → (ts : List Token) → IsTerm (token.OpenMap ∷ pairs_tokens pairs (token.CloseTuple ∷ ts)) (source.Map (pairs_source pairs)) ts
  map-spells Empty s ts = empty_map ts
  map-spells (Pair key value rest) s ts =
      filled_map (tokens key (token.Arrow ∷ tokens value (more_tokens rest (token.CloseTuple ∷ ts)))) (as_source key) (tokens value (more_tokens rest (token.CloseTuple ∷ ts))) (as_source value)
      (more_tokens rest (token.CloseTuple ∷ ts)) (pairs_source rest) ts
      (spells key s.0 (token.Arrow ∷ tokens value (more_tokens rest (token.CloseTuple ∷ ts)))) (spells value s.1 (more_tokens rest (token.CloseTuple ∷ ts))) (more-spells rest s.2 ts)

  more-spells : (pairs : Pairs) → AllPairsSound pairs → (ts : List Token) → AreMorePairs (more_tokens pairs (token.CloseTuple ∷ ts)) (pairs_source pairs) ts
  more-spells Empty s ts = no_pair ts
  more-spells (Pair key value rest) s ts =
      pair (tokens key (token.Arrow ∷ tokens value (more_tokens rest (token.CloseTuple ∷ ts)))) (as_source key) (tokens value (more_tokens rest (token.CloseTuple ∷ ts))) (as_source value)
      (more_tokens rest (token.CloseTuple ∷ ts)) (pairs_source rest) ts
      (spells key s.0 (token.Arrow ∷ tokens value (more_tokens rest (token.CloseTuple ∷ ts)))) (spells value s.1 (more_tokens rest (token.CloseTuple ∷ ts))) (more-spells rest s.2 ts)

  tail-spells : (t : Term) → Sound t → (ts : List Token) → AreMoreElements (tail_tokens t (token.CloseList ∷ ts)) (elements_source t) (tail_source t) ts
  tail-spells Nil s ts = no_element ts
  tail-spells (Cons head tail) s ts =
      element (tokens head (tail_tokens tail (token.CloseList ∷ ts))) (as_source head) (tail_tokens tail (token.CloseList ∷ ts)) (elements_source tail) (tail_source tail) ts
      (spells head s.0 (tail_tokens tail (token.CloseList ∷ ts))) (tail-spells tail s.1 ts)
  tail-spells (Int n) s ts = alone _ (source.Int n) ts (ap (continued_by (source.Int n)) (source.outs-Int n)) (int n (token.CloseList ∷ ts))
  tail-spells (Atom name) s ts = alone _ (source.Atom name) ts (ap (continued_by (source.Atom name)) (source.outs-Atom name)) (atom name (token.CloseList ∷ ts))
  tail-spells (Reference node number) s ts =
      alone _ (source.Ref node number) ts (ap (continued_by (source.Ref node number)) (source.outs-Ref node number)) (reference node number (token.CloseList ∷ ts))
  tail-spells (Fun local owner name arity environment) s ts =
      alone _ (source.ExtFun owner name arity) ts (ap (continued_by (source.ExtFun owner name arity)) (source.outs-ExtFun owner name arity))
      (function-spells local owner name arity environment (token.CloseList ∷ ts) s)
  tail-spells (Pid node number) s ts = alone _ (source.Pid node number) ts (ap (continued_by (source.Pid node number)) (source.outs-Pid node number)) (pid node number (token.CloseList ∷ ts))
  tail-spells (Tuple parts) s ts =
      alone _ (source.Tuple (parts_source parts)) ts (ap (continued_by (source.Tuple (parts_source parts))) (source.outs-Tuple (parts_source parts)))
      (tuple-spells parts s (token.CloseList ∷ ts))
  tail-spells (Map pairs) s ts =
      alone _ (source.Map (pairs_source pairs)) ts (ap (continued_by (source.Map (pairs_source pairs))) (source.outs-Map (pairs_source pairs)))
      (map-spells pairs s.1 (token.CloseList ∷ ts))
