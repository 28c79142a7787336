use Rattle.std.proofs.Common.{map, take}
use Rattle.std.specs.Prelude.{string_bytes}
use Rattle.erjang_top.proofs.Verifying.{Verified}
use Rattle.erjang_top.proofs.classes.verify_each.Given as goal

-- the files so far are verified, and their lines are written
abbrev pub invariant-loop-file : goal.invariant-loop-file
invariant-loop-file g l = Verified (map string_bytes (take l.file-index l.files)) (g.S.Shelf.state l.initial.shelf) (g.S.Shelf.state l.shelf) (g.O.Sink.state l.initial.out) (g.O.Sink.state l.out)
