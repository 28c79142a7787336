use Rattle.std.proofs.Common.{◌≡◌, length, take, map, IfSome}
use Rattle.std.specs.List.{AllZip}
use Rattle.std.specs.Prelude.{string_bytes}
use Rattle.erjang_top.specs.Work.{IsBuilt}
use Rattle.erjang_top.proofs.compile.build_all.Given as goal

-- the files so far are built, and the shelf is as it was
abbrev pub invariant-loop-file : goal.invariant-loop-file
invariant-loop-file g l =
    (g.S.Shelf.state l.shelf ≡ g.S.Shelf.state l.initial.shelf) × (length l.classes.items ≡ l.file-index)
    × IfSome (g.S.Shelf.state l.initial.shelf).held (λ held. AllZip (IsBuilt held l.words.outdir.now) (map string_bytes (take l.file-index l.words.files.now)) l.classes.items)
