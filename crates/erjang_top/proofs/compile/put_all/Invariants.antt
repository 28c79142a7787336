use Rattle.std.proofs.Common.{◌≡◌, take}
use Rattle.std.specs.Option.{option_map}
use Rattle.ej_outside.specs.Counts.{Same}
use Rattle.ej_outside.specs.Shelf.{PutsWith}
use Rattle.erjang_top.specs.Answers.{put_each}
use Rattle.erjang_top.specs.Work.{puts_of}
use Rattle.erjang_top.proofs.compile.put_all.Given as goal

-- the classes so far are put
abbrev pub invariant-loop-class : goal.invariant-loop-class
invariant-loop-class g l =
    PutsWith (g.S.Shelf.state l.initial.shelf) (g.S.Shelf.state l.shelf) (λ was is. is ≡ option_map (put_each (puts_of (take l.class-index l.classes))) was) Same
