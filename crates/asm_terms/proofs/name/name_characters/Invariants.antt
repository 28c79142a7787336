use Rattle.std.proofs.Common.{◌≡◌, ◌++◌, length}
use Rattle.asm_terms.specs.Runs.{run, behind}
use Rattle.asm_terms.specs.Names.{is_name_character}
use Rattle.asm_terms.proofs.name.name_characters.Given as goal

abbrev pub invariant-loop-c : goal.invariant-loop-c
invariant-loop-c l = record {
  spelled : l.spelled ++ run is_name_character l.reader ≡ run is_name_character l.initial.reader;
  rest : behind is_name_character l.reader ≡ behind is_name_character l.initial.reader;
}

abbrev pub decreases-loop-c : goal.decreases-loop-c
decreases-loop-c l = length l.reader
