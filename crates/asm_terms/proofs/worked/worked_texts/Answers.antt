use Rattle.asm_terms.proofs.WorkedLemmas as worked
use Rattle.asm_terms.proofs.worked.worked_texts.Goals as goal

pub returns : goal.returns
returns c = record { largest_integers = worked.largest_integers; larger_integer = worked.larger_integer; floats = worked.floats; no_sign = worked.no_sign; escapes = worked.escapes; no_surrogate = worked.no_surrogate; joined_strings = worked.joined_strings; quotes_in_binary = worked.quotes_in_binary; identifiers = worked.identifiers; no_pid = worked.no_pid; full_stop = worked.full_stop; no_full_stop = worked.no_full_stop; comment_end = worked.comment_end; utf8 = worked.utf8; latin1 = worked.latin1; continued_list = worked.continued_list; deepest = worked.deepest; too_deep = worked.too_deep; room_beforehand = worked.room_beforehand }
