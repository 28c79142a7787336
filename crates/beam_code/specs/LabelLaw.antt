-- The first break of a label rule is none exactly where a module keeps the label rules.
use Rattle.std.specs.Prelude.{◌≡◌, ◌↔◌, None}
use Rattle.beam_code.specs.Code.{ModuleCode}
use Rattle.beam_code.specs.Labels.{first_break, KeepsLabelRules}

abbrev pub FirstBreakIsNone : Type 0
FirstBreakIsNone = (m : ModuleCode) → first_break m ≡ None ↔ KeepsLabelRules m
