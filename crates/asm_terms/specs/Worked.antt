-- Worked texts: the tokens of their first form, and the text behind it; and the term, or how deep they nest.
use Rattle.std.specs.Prelude.{◌≡◌, pos, negsuc, true, false, replicate, [], ◌∷◌, codes, Some, None}
use Rattle.ej_term.specs.declared.asm_term.AsmTerm.TheVariants as term
use Rattle.asm_terms.specs.declared.token.Token.TheVariants as token
use Rattle.asm_terms.specs.Characters.{characters}
use Rattle.asm_terms.specs.Forms.{IsForm}
use Rattle.asm_terms.specs.Grammar.{too_deep}
use Rattle.asm_terms.specs.Splitting.{behind_line}
use Rattle.asm_terms.specs.Tokens.{form_tokens}

abbrev pub LargestIntegers : Type 0
LargestIntegers =
    form_tokens (codes "9223372036854775807 -9223372036854775808.")
    ≡ Some (token.Int (pos 9223372036854775807) ∷ token.Int (negsuc 9223372036854775807) ∷ [], [])

abbrev pub LargerInteger : Type 0
LargerInteger = form_tokens (codes "-9223372036854775809. a.") ≡ Some (token.Opaque (codes "-9223372036854775809") ∷ [], codes " a.")

abbrev pub Floats : Type 0
Floats = form_tokens (codes "1.5e10 1.5e .") ≡ Some (token.Opaque (codes "1.5e10") ∷ token.Opaque (codes "1.5") ∷ token.Atom (codes "e") ∷ [], [])

abbrev pub NoSign : Type 0
NoSign = form_tokens (codes "- 1.") ≡ None

abbrev pub Escapes : Type 0
Escapes = form_tokens (codes "\"\\n\\7777\\x41\\x{10FFFF}\\q\".") ≡ Some (token.Str (10 ∷ 511 ∷ 55 ∷ 65 ∷ 0x10ffff ∷ 113 ∷ []) ∷ [], [])

abbrev pub NoSurrogate : Type 0
NoSurrogate = form_tokens (codes "'\\x{D800}'.") ≡ None

abbrev pub JoinedStrings : Type 0
JoinedStrings = form_tokens (codes "\"a\"%\"b\"\n\"c\",\"\".") ≡ Some (token.Str (codes "ac") ∷ token.Comma ∷ token.Str [] ∷ [], [])

abbrev pub QuotesInBinary : Type 0
QuotesInBinary = form_tokens (codes "<<\">>\">>.") ≡ Some (token.Opaque (codes "<<\">>\">>") ∷ [], [])

abbrev pub Identifiers : Type 0
Identifiers =
    form_tokens (codes "#Pid<4294967295.0> #Ref<00.4611686018427387904>.")
    ≡ Some (token.Pid 4294967295 0 ∷ token.Ref 0 4611686018427387904 ∷ [], [])

abbrev pub NoPid : Type 0
NoPid = form_tokens (codes "#Pid<4294967296.0>.") ≡ None

abbrev pub FullStop : Type 0
FullStop = form_tokens (codes "fun a.'fun'.%") ≡ Some (token.Fun ∷ token.Atom (codes "a") ∷ token.Dot ∷ token.Atom (codes "fun") ∷ [], codes "%")

abbrev pub NoFullStop : Type 0
NoFullStop = form_tokens (codes "{a%.\n}") ≡ None

-- a comment ends at the character 10, and not at 13
abbrev pub CommentEnd : Type 0
CommentEnd = behind_line (98 ∷ 13 ∷ 99 ∷ 10 ∷ 100 ∷ []) ≡ 100 ∷ []

abbrev pub Utf8 : Type 0
Utf8 = characters (39 ∷ 0xc3 ∷ 0xa9 ∷ 39 ∷ []) ≡ 39 ∷ 0xe9 ∷ 39 ∷ []

abbrev pub Latin1 : Type 0
Latin1 = characters (39 ∷ 0xc3 ∷ 0xa9 ∷ 0xff ∷ 39 ∷ []) ≡ 39 ∷ 0xc3 ∷ 0xa9 ∷ 0xff ∷ 39 ∷ []

abbrev pub ContinuedList : Type 0
ContinuedList =
    IsForm (codes "[1|[2|\"ab\"]]. c")
    (term.List (term.Int (pos 1) ∷ term.Int (pos 2) ∷ term.Int (pos 97) ∷ term.Int (pos 98) ∷ []) None)
    (codes " c")

abbrev pub Deepest : Type 0
Deepest = too_deep (replicate 256 token.OpenList) ≡ false

abbrev pub TooDeep : Type 0
TooDeep = too_deep (replicate 257 token.OpenMap) ≡ true

abbrev pub RoomBeforehand : Type 0
RoomBeforehand = too_deep (token.CloseTuple ∷ replicate 257 token.OpenList) ≡ false
