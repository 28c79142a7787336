-- What the weight of an instruction goes by, of the kinds that a state lists.
use Rattle.std.specs.Prelude.{◌+◌, ◌-◌, Bool, false, not, length, Option, None, Some}
use Rattle.std.specs.List.{count_by, list_any}
use Rattle.beam_code.specs.declared.kind.Kind.{Kind}
use Rattle.beam_code.specs.declared.slot_state.SlotState.{SlotState}
use Rattle.beam_code.specs.Flow.{is_tag}
use Rattle.beam_code.specs.SlotForm.{is_undefined}
use Rattle.slot_kinds.specs.declared.counts.Counts.{Counts}

abbrev pub is_defined : Kind → Bool
is_defined kind = not (is_undefined kind)

abbrev pub counts_in : SlotState → Counts
counts_in s = record {
  slots = count_by is_defined s.xs + count_by is_defined s.ys;
  kept = count_by is_defined s.ys;
  gaps = length s.ys - count_by is_defined s.ys;
  tagged = list_any is_tag s.ys;
}

-- of a state, and none where it is not reached
abbrev pub counts : Option SlotState → Counts
counts None = record { slots = 0; kept = 0; gaps = 0; tagged = false }
counts (Some s) = counts_in s
