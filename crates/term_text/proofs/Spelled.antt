-- The tokens of a print, and the source's term that they spell.
use Rattle.std.specs.Prelude.{ℕ, pos, List, [], ◌∷◌, Option, Some}
use Rattle.std.specs.Prelude as std
use Rattle.ej_term.specs.Term.{Term, Int, Atom, Reference, Fun, Pid, Tuple, Map, Nil, Cons, Terms, None, More, Pairs, Empty, Pair}
use Rattle.ej_term.specs.declared.asm_term.AsmTerm.{AsmTerm}
use Rattle.ej_term.specs.declared.asm_term.AsmTerm.TheVariants as source
use Rattle.asm_terms.specs.declared.token.Token.{Token}
use Rattle.asm_terms.specs.declared.token.Token.TheVariants as token

abbrev pub function_tokens : List ℕ → List ℕ → ℕ → List Token → List Token
function_tokens owner name arity behind = token.Fun ∷ token.Atom owner ∷ token.Colon ∷ token.Atom name ∷ token.Slash ∷ token.Int (pos arity) ∷ behind

abbrev mutual
  -- a term's tokens, and those behind it
  pub tokens : Term → List Token → List Token
  tokens (Int n) behind = token.Int n ∷ behind
  tokens (Atom name) behind = token.Atom name ∷ behind
  tokens (Reference node number) behind = token.Ref node number ∷ behind
  tokens (Fun local owner name arity environment) behind = function_tokens owner name arity behind
  tokens (Pid node number) behind = token.Pid node number ∷ behind
  tokens (Tuple parts) behind = token.OpenTuple ∷ parts_tokens parts (token.CloseTuple ∷ behind)
  tokens (Map pairs) behind = token.OpenMap ∷ pairs_tokens pairs (token.CloseTuple ∷ behind)
  tokens Nil behind = token.OpenList ∷ token.CloseList ∷ behind
  tokens (Cons head tail) behind = token.OpenList ∷ tokens head (tail_tokens tail (token.CloseList ∷ behind))

  pub parts_tokens : Terms → List Token → List Token
  parts_tokens None behind = behind
  parts_tokens (More first rest) behind = tokens first (rest_tokens rest behind)

  pub rest_tokens : Terms → List Token → List Token
  rest_tokens None behind = behind
  rest_tokens (More first rest) behind = token.Comma ∷ tokens first (rest_tokens rest behind)

  pub pairs_tokens : Pairs → List Token → List Token
  pairs_tokens Empty behind = behind
  pairs_tokens (Pair key value rest) behind = tokens key (token.Arrow ∷ tokens value (more_tokens rest behind))

  pub more_tokens : Pairs → List Token → List Token
  more_tokens Empty behind = behind
  more_tokens (Pair key value rest) behind = token.Comma ∷ tokens key (token.Arrow ∷ tokens value (more_tokens rest behind))

  pub tail_tokens : Term → List Token → List Token
  tail_tokens Nil behind = behind
  tail_tokens (Cons head tail) behind = token.Comma ∷ tokens head (tail_tokens tail behind)
  tail_tokens (Int n) behind = token.Bar ∷ token.Int n ∷ behind
  tail_tokens (Atom name) behind = token.Bar ∷ token.Atom name ∷ behind
  tail_tokens (Reference node number) behind = token.Bar ∷ token.Ref node number ∷ behind
  tail_tokens (Fun local owner name arity environment) behind = token.Bar ∷ function_tokens owner name arity behind
  tail_tokens (Pid node number) behind = token.Bar ∷ token.Pid node number ∷ behind
  tail_tokens (Tuple parts) behind = token.Bar ∷ token.OpenTuple ∷ parts_tokens parts (token.CloseTuple ∷ behind)
  tail_tokens (Map pairs) behind = token.Bar ∷ token.OpenMap ∷ pairs_tokens pairs (token.CloseTuple ∷ behind)

abbrev mutual
  -- a term as a source writes it
  pub as_source : Term → AsmTerm
  as_source (Int n) = source.Int n
  as_source (Atom name) = source.Atom name
  as_source (Reference node number) = source.Ref node number
  as_source (Fun local owner name arity environment) = source.ExtFun owner name arity
  as_source (Pid node number) = source.Pid node number
  as_source (Tuple parts) = source.Tuple (parts_source parts)
  as_source (Map pairs) = source.Map (pairs_source pairs)
  as_source Nil = source.List [] std.None
  as_source (Cons head tail) = source.List (as_source head ∷ elements_source tail) (tail_source tail)

  pub parts_source : Terms → List AsmTerm
  parts_source None = []
  parts_source (More first rest) = as_source first ∷ parts_source rest

  pub pairs_source : Pairs → List (AsmTerm × AsmTerm)
  pairs_source Empty = []
  pairs_source (Pair key value rest) = (as_source key, as_source value) ∷ pairs_source rest

  -- the elements behind a list's first
  pub elements_source : Term → List AsmTerm
  elements_source (Cons head tail) = as_source head ∷ elements_source tail
  elements_source _ = []

  -- a list's improper tail
  pub tail_source : Term → Option AsmTerm
  tail_source Nil = std.None
  tail_source (Cons head tail) = tail_source tail
  tail_source (Int n) = Some (source.Int n)
  tail_source (Atom name) = Some (source.Atom name)
  tail_source (Reference node number) = Some (source.Ref node number)
  tail_source (Fun local owner name arity environment) = Some (source.ExtFun owner name arity)
  tail_source (Pid node number) = Some (source.Pid node number)
  tail_source (Tuple parts) = Some (source.Tuple (parts_source parts))
  tail_source (Map pairs) = Some (source.Map (pairs_source pairs))
