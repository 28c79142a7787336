-- Which terms tokens spell, and how deep they may nest.
use Rattle.std.specs.Prelude.{ℕ, ◌+◌, ◌≤◌, ℤ, pos, nat_lt, Bool, false, ◌||◌, List, [], ◌∷◌, map, Option, None, Some}
use Rattle.ej_term.specs.declared.asm_term.AsmTerm.{AsmTerm, out-AsmTerm}
use Rattle.ej_term.specs.declared.asm_term.AsmTerm.TheOpen as layer
use Rattle.ej_term.specs.declared.asm_term.AsmTerm.TheOpen.{AsmTerm-F}
use Rattle.ej_term.specs.declared.asm_term.AsmTerm.TheVariants as term
use Rattle.asm_terms.specs.declared.token.Token.{Token}
use Rattle.asm_terms.specs.declared.token.Token.TheVariants as token

-- `{`, `[` and `#{` open one more
abbrev pub opened_by : Token → ℕ
opened_by token.OpenTuple = 1
opened_by token.OpenList = 1
opened_by token.OpenMap = 1
opened_by _ = 0

-- `}` and `]` close one more, whichever was opened
abbrev pub closed_by : Token → ℕ
closed_by token.CloseTuple = 1
closed_by token.CloseList = 1
closed_by _ = 0

-- so many were opened and so many closed, and behind one of these tokens more than 256 are open
abbrev pub deep_behind : ℕ → ℕ → List Token → Bool
deep_behind opened closed [] = false
deep_behind opened closed (token ∷ tokens) =
    nat_lt (closed + closed_by token + 256) (opened + opened_by token) || deep_behind (opened + opened_by token) (closed + closed_by token) tokens

-- some prefix of these tokens has more than 256 of `{`, `[` and `#{` more than of `}` and `]`
abbrev pub too_deep : List Token → Bool
too_deep tokens = deep_behind 0 0 tokens

-- a string's integers
abbrev pub characters_as_terms : List ℕ → List AsmTerm
characters_as_terms characters = map (λ c. term.Int (pos c)) characters

-- what a list goes on with behind its bar, elements and a tail: a list's, a string's integers, or no element and
-- that term as the tail
abbrev pub continued_by : AsmTerm → AsmTerm-F AsmTerm → List AsmTerm × Option AsmTerm
continued_by behind (layer.List elements tail) = (elements, tail)
continued_by behind (layer.Str characters) = (characters_as_terms characters, None)
continued_by behind _ = ([], Some behind)

abbrev pub continued : AsmTerm → List AsmTerm × Option AsmTerm
continued behind = continued_by behind (out-AsmTerm behind)

mutual
  -- the first of these tokens spell that term, and the others are left
  pub data IsTerm : List Token → AsmTerm → List Token → Type 0 where
    int : (n : ℤ) (rest : List Token) → IsTerm (token.Int n ∷ rest) (term.Int n) rest
    atom : (name : List ℕ) (rest : List Token) → IsTerm (token.Atom name ∷ rest) (term.Atom name) rest
    string : (characters : List ℕ) (rest : List Token) → IsTerm (token.Str characters ∷ rest) (term.Str characters) rest
    «opaque» : (spelled : List ℕ) (rest : List Token) → IsTerm (token.Opaque spelled ∷ rest) (term.Opaque spelled) rest
    pid : (node number : ℕ) (rest : List Token) → IsTerm (token.Pid node number ∷ rest) (term.Pid node number) rest
    reference : (node number : ℕ) (rest : List Token) → IsTerm (token.Ref node number ∷ rest) (term.Ref node number) rest
    -- `fun M:F/A`
    external : (owner name : List ℕ) (arity : ℕ) (rest : List Token) → arity ≤ 255
        → IsTerm (token.Fun ∷ token.Atom owner ∷ token.Colon ∷ token.Atom name ∷ token.Slash ∷ token.Int (pos arity) ∷ rest) (term.ExtFun owner name arity) rest
    -- `{}`, or terms between commas in braces
    empty_tuple : (rest : List Token) → IsTerm (token.OpenTuple ∷ token.CloseTuple ∷ rest) (term.Tuple []) rest
    filled_tuple : (tokens : List Token) (first : AsmTerm) (middle : List Token) (parts : List AsmTerm) (rest : List Token)
        → IsTerm tokens first middle → AreMoreParts middle parts rest → IsTerm (token.OpenTuple ∷ tokens) (term.Tuple (first ∷ parts)) rest
    -- `[]`, or elements between commas in brackets, and then maybe a bar and a term
    empty_list : (rest : List Token) → IsTerm (token.OpenList ∷ token.CloseList ∷ rest) (term.List [] None) rest
    filled_list : (tokens : List Token) (first : AsmTerm) (middle : List Token) (elements : List AsmTerm) (tail : Option AsmTerm) (rest : List Token)
        → IsTerm tokens first middle → AreMoreElements middle elements tail rest → IsTerm (token.OpenList ∷ tokens) (term.List (first ∷ elements) tail) rest
    -- `#{}`, or pairs `K=>V` between commas
    empty_map : (rest : List Token) → IsTerm (token.OpenMap ∷ token.CloseTuple ∷ rest) (term.Map []) rest
    filled_map : (tokens : List Token) (key : AsmTerm) (behind : List Token) (value : AsmTerm) (middle : List Token) (pairs : List (AsmTerm × AsmTerm)) (rest : List Token)
        → IsTerm tokens key (token.Arrow ∷ behind) → IsTerm behind value middle → AreMorePairs middle pairs rest
        → IsTerm (token.OpenMap ∷ tokens) (term.Map ((key, value) ∷ pairs)) rest

  -- what follows a part of a tuple: more parts, each behind a comma, and `}`
  pub data AreMoreParts : List Token → List AsmTerm → List Token → Type 0 where
    no_part : (rest : List Token) → AreMoreParts (token.CloseTuple ∷ rest) [] rest
    part : (tokens : List Token) (first : AsmTerm) (middle : List Token) (parts : List AsmTerm) (rest : List Token)
        → IsTerm tokens first middle → AreMoreParts middle parts rest → AreMoreParts (token.Comma ∷ tokens) (first ∷ parts) rest

  -- what follows an element of a list: more elements, each behind a comma, and `]`, or at last a bar, a term and `]`
  pub data AreMoreElements : List Token → List AsmTerm → Option AsmTerm → List Token → Type 0 where
    no_element : (rest : List Token) → AreMoreElements (token.CloseList ∷ rest) [] None rest
    element : (tokens : List Token) (first : AsmTerm) (middle : List Token) (elements : List AsmTerm) (tail : Option AsmTerm) (rest : List Token)
        → IsTerm tokens first middle → AreMoreElements middle elements tail rest → AreMoreElements (token.Comma ∷ tokens) (first ∷ elements) tail rest
    bar : (tokens : List Token) (behind : AsmTerm) (rest : List Token)
        → IsTerm tokens behind (token.CloseList ∷ rest) → AreMoreElements (token.Bar ∷ tokens) (continued behind).0 (continued behind).1 rest

  -- what follows a pair of a map: more pairs, each behind a comma, and `}`
  pub data AreMorePairs : List Token → List (AsmTerm × AsmTerm) → List Token → Type 0 where
    no_pair : (rest : List Token) → AreMorePairs (token.CloseTuple ∷ rest) [] rest
    pair : (tokens : List Token) (key : AsmTerm) (behind : List Token) (value : AsmTerm) (middle : List Token) (pairs : List (AsmTerm × AsmTerm)) (rest : List Token)
        → IsTerm tokens key (token.Arrow ∷ behind) → IsTerm behind value middle → AreMorePairs middle pairs rest
        → AreMorePairs (token.Comma ∷ tokens) ((key, value) ∷ pairs) rest
