-- The reading of a term token by token, with what is open on a stack and what came last.
use Rattle.std.specs.Prelude.{ℕ, ℤ, pos, negsuc, nat_le, if◌then◌else◌, List, [], ◌∷◌, ◌++◌, Option, None, Some, option_and_then}
use Rattle.ej_term.specs.declared.asm_term.AsmTerm.{AsmTerm, out-AsmTerm}
use Rattle.ej_term.specs.declared.asm_term.AsmTerm.TheOpen as layer
use Rattle.ej_term.specs.declared.asm_term.AsmTerm.TheOpen.{AsmTerm-F}
use Rattle.ej_term.specs.declared.asm_term.AsmTerm.TheVariants as term
use Rattle.asm_terms.specs.declared.opened.Opened.{Opened}
use Rattle.asm_terms.specs.declared.opened.Opened.TheVariants as opened
use Rattle.asm_terms.specs.declared.opened.Last.{Last}
use Rattle.asm_terms.specs.declared.opened.Last.TheVariants as last
use Rattle.asm_terms.specs.declared.opened.Function.{Function}
use Rattle.asm_terms.specs.declared.opened.Function.TheVariants as function
use Rattle.asm_terms.specs.declared.term_reader.TermReader.{TermReader}
use Rattle.asm_terms.specs.declared.token.Token.{Token}
use Rattle.asm_terms.specs.declared.token.Token.TheVariants as token
use Rattle.asm_terms.specs.Grammar.{characters_as_terms}

abbrev pub at : List Opened → Last → TermReader
at stack last = record { stack = stack; last = last }

abbrev pub start : TermReader
start = at [] last.Mark

-- behind a term
abbrev pub whole : List Opened → AsmTerm → Option TermReader
whole stack t = Some (at stack (last.Term t))

-- behind a token that begins a term, or is one
abbrev pub begun : List Opened → Token → Option TermReader
begun stack (token.Int n) = whole stack (term.Int n)
begun stack (token.Atom name) = whole stack (term.Atom name)
begun stack (token.Str characters) = whole stack (term.Str characters)
begun stack (token.Opaque spelled) = whole stack (term.Opaque spelled)
begun stack (token.Pid node number) = whole stack (term.Pid node number)
begun stack (token.Ref node number) = whole stack (term.Ref node number)
begun stack token.Fun = Some (at stack (last.Fun function.Word))
begun stack token.OpenTuple = Some (at (opened.Tuple [] ∷ stack) last.Bracket)
begun stack token.OpenList = Some (at (opened.List [] ∷ stack) last.Bracket)
begun stack token.OpenMap = Some (at (opened.Key [] ∷ stack) last.Bracket)
begun stack _ = None

-- behind a brace that closes a bracket with nothing, or nothing more, in it
abbrev pub closed_brace : List Opened → Option TermReader
closed_brace (opened.Tuple parts ∷ stack) = whole stack (term.Tuple parts)
closed_brace (opened.Key pairs ∷ stack) = whole stack (term.Map pairs)
closed_brace _ = None

abbrev pub closed_bracket : List Opened → Option TermReader
closed_bracket (opened.List elements ∷ stack) = whole stack (term.List elements None)
closed_bracket _ = None

-- behind what follows an opening bracket
abbrev pub begun_or_closed : List Opened → Token → Option TermReader
begun_or_closed stack token.CloseTuple = closed_brace stack
begun_or_closed stack token.CloseList = closed_bracket stack
begun_or_closed stack token = begun stack token

-- behind what follows a bar: a list there is read as part of the list before it
abbrev pub joined : List Opened → Option TermReader
joined (opened.Tail elements ∷ stack) = Some (at (opened.List elements ∷ opened.Joined ∷ stack) last.Bracket)
joined _ = None

abbrev pub begun_tail : List Opened → Token → Option TermReader
begun_tail stack token.OpenList = joined stack
begun_tail stack token = begun stack token

-- a list of these elements, and behind its bar that term, which is no list
abbrev pub list_before : List AsmTerm → AsmTerm → AsmTerm-F AsmTerm → AsmTerm
list_before elements behind (layer.Str characters) = term.List (elements ++ characters_as_terms characters) None
list_before elements behind _ = term.List elements (Some behind)

-- behind a term and a comma
abbrev pub comma : List Opened → AsmTerm → Option TermReader
comma (opened.Tuple parts ∷ stack) t = Some (at (opened.Tuple (parts ++ t ∷ []) ∷ stack) last.Mark)
comma (opened.List elements ∷ stack) t = Some (at (opened.List (elements ++ t ∷ []) ∷ stack) last.Mark)
comma (opened.Value pairs key ∷ stack) t = Some (at (opened.Key (pairs ++ (key, t) ∷ []) ∷ stack) last.Mark)
comma _ t = None

-- behind a term and `}`
abbrev pub brace : List Opened → AsmTerm → Option TermReader
brace (opened.Tuple parts ∷ stack) t = whole stack (term.Tuple (parts ++ t ∷ []))
brace (opened.Value pairs key ∷ stack) t = whole stack (term.Map (pairs ++ (key, t) ∷ []))
brace _ t = None

-- behind a term and `]`
abbrev pub bracket : List Opened → AsmTerm → Option TermReader
bracket (opened.List elements ∷ stack) t = whole stack (term.List (elements ++ t ∷ []) None)
bracket (opened.Tail elements ∷ stack) t = whole stack (list_before elements t (out-AsmTerm t))
bracket (opened.Joined ∷ stack) t = whole stack t
bracket _ t = None

-- behind a term and `|`
abbrev pub bar : List Opened → AsmTerm → Option TermReader
bar (opened.List elements ∷ stack) t = Some (at (opened.Tail (elements ++ t ∷ []) ∷ stack) last.Bar)
bar _ t = None

-- behind a term and `=>`
abbrev pub arrow : List Opened → AsmTerm → Option TermReader
arrow (opened.Key pairs ∷ stack) t = Some (at (opened.Value pairs t ∷ stack) last.Mark)
arrow _ t = None

-- behind what follows a term
abbrev pub gone_on : List Opened → AsmTerm → Token → Option TermReader
gone_on stack t token.Comma = comma stack t
gone_on stack t token.CloseTuple = brace stack t
gone_on stack t token.CloseList = bracket stack t
gone_on stack t token.Bar = bar stack t
gone_on stack t token.Arrow = arrow stack t
gone_on stack t _ = None

-- an arity, from 0 to 255
abbrev pub arity_of : ℤ → Option ℕ
arity_of (pos n) = if nat_le n 255 then Some n else None
arity_of (negsuc n) = None

-- behind `fun M:F/A`, where A is an arity
abbrev pub external_of : List Opened → List ℕ → List ℕ → Option ℕ → Option TermReader
external_of stack owner name (Some arity) = whole stack (term.ExtFun owner name arity)
external_of stack owner name None = None

-- behind one more token of `fun M:F/A`
abbrev pub external : List Opened → Function → Token → Option TermReader
external stack function.Word (token.Atom owner) = Some (at stack (last.Fun (function.Module owner)))
external stack (function.Module owner) token.Colon = Some (at stack (last.Fun (function.Colon owner)))
external stack (function.Colon owner) (token.Atom name) = Some (at stack (last.Fun (function.Name owner name)))
external stack (function.Name owner name) token.Slash = Some (at stack (last.Fun (function.Slash owner name)))
external stack (function.Slash owner name) (token.Int n) = external_of stack owner name (arity_of n)
external stack _ _ = None

-- behind one more token
abbrev pub step : List Opened → Last → Token → Option TermReader
step stack last.Mark token = begun stack token
step stack last.Bracket token = begun_or_closed stack token
step stack last.Bar token = begun_tail stack token
step stack (last.Term t) token = gone_on stack t token
step stack (last.Fun function) token = external stack function token

-- behind these tokens
abbrev pub run : List Token → TermReader → Option TermReader
run [] reader = Some reader
run (token ∷ tokens) reader = option_and_then (run tokens) (step reader.stack reader.last token)

-- that term, where nothing is open
abbrev pub closed : List Opened → AsmTerm → Option AsmTerm
closed [] t = Some t
closed (_ ∷ _) t = None

-- the term that was read, where nothing is open
abbrev pub finished : List Opened → Last → Option AsmTerm
finished stack (last.Term t) = closed stack t
finished stack _ = None

abbrev pub finish : TermReader → Option AsmTerm
finish reader = finished reader.stack reader.last

-- the term that these tokens spell
abbrev pub term_of : List Token → Option AsmTerm
term_of tokens = option_and_then finish (run tokens start)
