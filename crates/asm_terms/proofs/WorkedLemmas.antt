-- The worked texts, computed.
use lib.Utf8.{encode}
use Rattle.std.proofs.Common.{refl, pos, List, [], ◌∷◌, codes, None, Some, ap}
use Rattle.ej_term.specs.declared.asm_term.AsmTerm.TheVariants as term
use Rattle.ej_term.specs.declared.asm_term.AsmTerm.TheVariants.{outs-Str}
use Rattle.asm_terms.specs.TermReader.{list_before}
use Rattle.asm_terms.specs.declared.token.Token.{Token}
use Rattle.asm_terms.specs.declared.token.Token.TheVariants as token
use Rattle.asm_terms.proofs.ReadIsSpelled.{read_is_spelled}
use Rattle.asm_terms.proofs.SplitLaw.{has_tokens}
use Rattle.std.specs.Str.{chars, is_utf8}
use Rattle.asm_terms.specs.Quotes.{quoted_from}
use Rattle.asm_terms.specs.Tokens.{tokens_from}
use Rattle.asm_terms.specs.Worked.{LargestIntegers, LargerInteger, Floats, NoSign, Escapes, NoSurrogate, JoinedStrings, QuotesInBinary, Identifiers, NoPid, FullStop, NoFullStop, CommentEnd, Utf8, Latin1, ContinuedList, Deepest, TooDeep, RoomBeforehand}

pub largest_integers : LargestIntegers
unfolding tokens_from quoted_from
largest_integers = refl

pub larger_integer : LargerInteger
unfolding tokens_from quoted_from
larger_integer = refl

pub floats : Floats
unfolding tokens_from quoted_from
floats = refl

pub no_sign : NoSign
unfolding tokens_from quoted_from
no_sign = refl

pub escapes : Escapes
unfolding tokens_from quoted_from
escapes = refl

pub no_surrogate : NoSurrogate
unfolding tokens_from quoted_from
no_surrogate = refl

pub joined_strings : JoinedStrings
unfolding tokens_from quoted_from
joined_strings = refl

pub quotes_in_binary : QuotesInBinary
unfolding tokens_from quoted_from
quotes_in_binary = refl

pub identifiers : Identifiers
unfolding tokens_from quoted_from
identifiers = refl

pub no_pid : NoPid
unfolding tokens_from quoted_from
no_pid = refl

pub full_stop : FullStop
unfolding tokens_from quoted_from
full_stop = refl

pub no_full_stop : NoFullStop
unfolding tokens_from quoted_from
no_full_stop = refl

pub comment_end : CommentEnd
comment_end = refl

pub utf8 : Utf8
unfolding chars is_utf8 encode
utf8 = refl

pub latin1 : Latin1
unfolding chars is_utf8 encode
latin1 = refl

-- the tokens of `[1|[2|"ab"]]`
abbrev list_tokens : List Token
list_tokens =
    token.OpenList ∷ token.Int (pos 1) ∷ token.Bar ∷ token.OpenList ∷ token.Int (pos 2) ∷ token.Bar ∷ token.Str (codes "ab")
    ∷ token.CloseList ∷ token.CloseList ∷ []

pub continued_list : ContinuedList
unfolding tokens_from quoted_from
continued_list = record {
  tokens = list_tokens;
  spelled = has_tokens (codes "[1|[2|\"ab\"]]. c") list_tokens (codes " c") refl;
  shallow = refl;
  is_term =
      read_is_spelled list_tokens
      (term.List (term.Int (pos 1) ∷ term.Int (pos 2) ∷ term.Int (pos 97) ∷ term.Int (pos 98) ∷ []) None)
      (ap (λ l. Some (list_before (term.Int (pos 1) ∷ term.Int (pos 2) ∷ []) (term.Str (codes "ab")) l)) (outs-Str (codes "ab")));
}

pub deepest : Deepest
deepest = refl

pub too_deep : TooDeep
too_deep = refl

pub room_beforehand : RoomBeforehand
room_beforehand = refl
