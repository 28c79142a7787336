-- Which labels tags have: only such as the function defines.
use Rattle.std.specs.Prelude.{◌≡◌, ℕ, Bool, true, List, [], ◌∷◌, Option, None, Some}
use Rattle.beam_code.specs.declared.kind.Kind.{Kind}
use Rattle.beam_code.specs.declared.kind.Kind.TheVariants.{Tag}
use Rattle.beam_code.specs.Labels.{is_in, defined_by, labels_named}
use Rattle.beam_code.specs.Opcode.{Opcode}
use Rattle.beam_code.specs.Slots.{State}

-- each of the labels is known
abbrev pub AreKnown : (ℕ → Bool) → List ℕ → Type 0
AreKnown known labels = (label : ℕ) → is_in labels label ≡ true → known label ≡ true

abbrev pub labels_in : Kind → List ℕ
labels_in (Tag labels) = labels
labels_in kind = []

-- so are those of each tag in the frame
abbrev pub TagsKnown : (ℕ → Bool) → State → Type 0
TagsKnown known s = (slot : ℕ) → AreKnown known (labels_in (s.ys slot))

-- and those of the tags in the state, if there is one
abbrev pub TagsKnownIf : (ℕ → Bool) → Option State → Type 0
TagsKnownIf known before = (s : State) → before ≡ Some s → TagsKnown known s

abbrev pub IsKnownIf : (ℕ → Bool) → Option ℕ → Type 0
IsKnownIf known None = Unit {0}
IsKnownIf known (Some label) = known label ≡ true

-- and those that each instruction defines and names
abbrev pub NamesKnown : (ℕ → Bool) → List Opcode → Type 0
NamesKnown known [] = Unit {0}
NamesKnown known (o ∷ code) = IsKnownIf known (defined_by o) × AreKnown known (labels_named o) × NamesKnown known code
