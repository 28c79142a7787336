-- A mailbox as the list of its messages and a save place (Erlang Reference Manual, "Receive"), and what each call does to it.
use Rattle.std.specs.Prelude.{ℕ, suc, ◌+◌, nat_lt, if◌then◌else◌, List, [], ◌∷◌, ◌++◌, length, take, drop, slice_get, Option}
use Rattle.term_heap.specs.declared.cell.TermId.{TermId}

-- the messages, and how many of them, from the oldest on, a receive has passed over
pub record Seen : Type 0 where
  pub messages : List TermId
  pub save : ℕ

abbrev pub empty : Seen
empty = record { messages = []; save = 0 }

-- a message comes in behind all others
abbrev pub pushed : TermId → Seen → Seen
pushed t m = record { messages = m.messages ++ t ∷ []; save = m.save }

-- the message at the save place, if there is one
abbrev pub at_save : Seen → Option TermId
at_save m = slice_get m.messages m.save

-- the save place moves by one where a message is there
abbrev pub advanced : Seen → Seen
advanced m = record { messages = m.messages; save = (if nat_lt m.save (length m.messages) then m.save + 1 else m.save) }

-- the message at the save place, if there is one, is taken out, and the place goes back to the oldest
abbrev pub taken : Seen → Seen
taken m = record { messages = take m.save m.messages ++ drop (suc m.save) m.messages; save = 0 }

-- the save place goes back to the oldest
abbrev pub reset : Seen → Seen
reset m = record { messages = m.messages; save = 0 }
