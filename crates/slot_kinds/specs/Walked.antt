-- The weights of the instructions of a function, as they are summed up from front to back: by a test for the labels that
-- were passed, and by counts of slots.
use Rattle.std.specs.Prelude.{◌≡◌, ℕ, ◌+◌, ◌*◌, Bool, true, false, not, nat_eq, cond, ◌&&◌, ◌||◌, if◌then◌else◌, List, [], ◌∷◌, length, Option, None, Some, option_and_then}
use Rattle.std.specs.List.{filter}
use Rattle.std.specs.Option.{option_map_or}
use Rattle.beam_code.specs.Flow.{Flow}
use Rattle.beam_code.specs.Good.{Assignment, next_state}
use Rattle.beam_code.specs.Labels.{is_in, defined_by}
use Rattle.beam_code.specs.Opcode.{Opcode, Piece, Element, Marking, Reserve}
use Rattle.beam_code.specs.Slots.{State}
use Rattle.beam_code.specs.Weights.{if_reached, defined_slots, defined_ys, undefined_ys, has_any_tag, has_wide_tag, own_weight, branch_labels, entered_labels, saves, may_raise, waits, waits_so_long, one_if}
use Rattle.slot_kinds.specs.declared.counts.Counts.{Counts}

-- the counts of a state, and none where it is not reached
abbrev pub counts_at : Option State → Counts
counts_at before = record {
  slots = if_reached defined_slots before;
  kept = if_reached defined_ys before;
  gaps = if_reached undefined_ys before;
  tagged = option_map_or has_any_tag before false;
}

abbrev pub piece_weight : Piece → ℕ
piece_weight (Element place) = 40
piece_weight _ = 32

abbrev pub marking_weight : Marking → ℕ
marking_weight (Reserve to) = 8
marking_weight _ = 0

abbrev pub handled : Opcode → Counts → Bool
handled o c = may_raise o && c.tagged

-- how often it has to go on at an entry, where it goes back to that many labels
abbrev pub again : Opcode → Counts → ℕ → ℕ
again o c back = back + one_if (handled o c && not (saves o)) + one_if (waits o)

-- how often what the frame holds is saved
abbrev pub saved_again : Opcode → Counts → ℕ → ℕ
saved_again o c back = again o c back + one_if (handled o c && saves o)

abbrev pub wide_part : Bool → Opcode → Counts → ℕ → ℕ
wide_part wide o c back = if wide then 8 * c.gaps * saved_again o c back else 0

abbrev pub waiting_part : Opcode → Counts → ℕ
waiting_part o c = if waits_so_long o then 32 + 12 * c.slots else 0

abbrev pub charged : Bool → Opcode → Counts → ℕ → ℕ
charged wide o c back = again o c back * (32 + 8 * c.slots) + waiting_part o c + wide_part wide o c back

abbrev pub weighed : Bool → Opcode → Counts → ℕ → ℕ
weighed wide o c back = own_weight o c.kept + charged wide o c back

-- a label more
abbrev pub with_seen : (ℕ → Bool) → Option ℕ → ℕ → Bool
with_seen seen None label = seen label
with_seen seen (Some new) label = cond (nat_eq new label) true (seen label)

-- how many labels of a branch were passed
abbrev pub back_count : (ℕ → Bool) → Opcode → ℕ
back_count seen o = length (filter seen (branch_labels o))

-- code weighs this from a state, where these labels were passed
abbrev pub weighed_from : Bool → Assignment → (ℕ → Bool) → Option State → List Opcode → ℕ
weighed_from wide at seen before [] = 0
weighed_from wide at seen before (o ∷ code) =
    weighed wide o (counts_at before) (back_count seen o) + weighed_from wide at (with_seen seen (defined_by o)) (next_state at o before) code

-- an instruction makes that label an entry
abbrev pub makes_entry : (ℕ → Bool) → Opcode → ℕ → Bool
makes_entry seen o label = is_in (entered_labels o) label || is_in (filter seen (branch_labels o)) label

abbrev pub makes_entries : (ℕ → Bool) → List Opcode → ℕ → Bool
makes_entries seen [] label = false
makes_entries seen (o ∷ code) label = makes_entry seen o label || makes_entries (with_seen seen (defined_by o)) code label

-- what an instruction weighs as a label that is an entry
abbrev pub entry_weighed : Assignment → (ℕ → Bool) → ℕ → ℕ
entry_weighed at is_entry label = if is_entry label then 32 + 12 * if_reached defined_slots (at label) else 0

abbrev pub entry_of : Assignment → (ℕ → Bool) → Opcode → ℕ
entry_of at is_entry o = option_map_or (entry_weighed at is_entry) (defined_by o) 0

abbrev pub entries_of : Assignment → (ℕ → Bool) → List Opcode → ℕ
entries_of at is_entry [] = 0
entries_of at is_entry (o ∷ code) = entry_of at is_entry o + entries_of at is_entry code

-- an instruction is a label whose state has a tag of more than one label
abbrev pub is_wide_at : Option State → Bool
is_wide_at state = option_map_or has_wide_tag state false

abbrev pub widens : Assignment → Opcode → Bool
widens at o = option_map_or (λ label. is_wide_at (at label)) (defined_by o) false

-- the state before what comes next, and none where the row does not hold
abbrev pub after : Option Flow → Option State
after row = option_and_then (λ (f : Flow). f.next) row

-- a set has what it had, and the labels
abbrev pub Adds : (ℕ → Bool) → (ℕ → Bool) → List ℕ → Type 0
Adds old new labels = (label : ℕ) → new label ≡ (old label || is_in labels label)
