-- What a turn borrows of a node.
use Rattle.std.proofs.Common.{◌≡◌, ℕ, List, get_or, Some, ◌∙◌}
use Rattle.std.specs.Prelude.{slice_get}
use Rattle.std.proofs.lemmas.Option.{get_or_from_slice_get}
use Rattle.proc_sched.specs.declared.slot.Slot.{Slot}

-- the slot at a place is the one that is read there
pub slot-there : (slots : List Slot) (n : ℕ) (r s : Slot) → r ≡ get_or slots n r → slice_get slots n ≡ Some s → r ≡ s
slot-there slots n r s read at = read ∙ get_or_from_slice_get slots n s r at
