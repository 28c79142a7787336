use Rattle.std.proofs.Common.{◌≡◌, map, drop}
use Rattle.std.specs.List.{list_all}
use Rattle.std.specs.Prelude.{string_bytes}
use Rattle.erjang_top.specs.Words.{is_some_word}
use Rattle.erjang_top.proofs.words.are_files.Given as goal

-- what is said of all words is what is said of those that are left
abbrev pub invariant-loop-file : goal.invariant-loop-file
invariant-loop-file l = list_all is_some_word (map string_bytes l.files) ≡ list_all is_some_word (map string_bytes (drop l.file-index l.files))
