use Rattle.std.proofs.Common.{◌≡◌, ◌++◌, drop, None, Bor}
use Rattle.std.specs.List.{flat_map, AllByRecursion}
use Rattle.std.specs.Option.{option_map}
use Rattle.jvm_code.specs.StackMaps.{IsForm, form_bytes}
use Rattle.stack_maps.specs.declared.frame.MapFrame.{MapFrame}
use Rattle.stack_maps.specs.Full.{FitEach, IsWithin, full_forms}
use Rattle.stack_maps.proofs.spelling.push_frames.Given as goal

-- what is written so far, and what is spelled of the rest, are what is spelled of all
abbrev pub invariant-loop-frame : goal.invariant-loop-frame
invariant-loop-frame l = record {
  fit : FitEach l.classes (option_map (λ (f : Bor MapFrame). f.now) l.before) (drop l.frame-index l.frames);
  bytes : l.out.items ++ flat_map form_bytes (full_forms l.classes (option_map (λ (f : Bor MapFrame). f.now) l.before) (drop l.frame-index l.frames)) ≡ l.initial.out.items ++ flat_map form_bytes (full_forms l.classes None l.frames);
  fits : AllByRecursion IsForm (full_forms l.classes (option_map (λ (f : Bor MapFrame). f.now) l.before) (drop l.frame-index l.frames)) → AllByRecursion IsForm (full_forms l.classes None l.frames);
  within : AllByRecursion IsWithin (drop l.frame-index l.frames) → AllByRecursion IsWithin l.frames;
}
