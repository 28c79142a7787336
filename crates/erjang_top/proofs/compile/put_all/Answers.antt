use Rattle.std.proofs.Common.{◌≡◌, take, drop, ◌+◌, subst, sym}
use Rattle.std.specs.Option.{option_map}
use Rattle.ej_outside.specs.Counts.{Same}
use Rattle.ej_outside.specs.Shelf.{PutsWith}
use Rattle.erjang_top.specs.Answers.{put_each}
use Rattle.erjang_top.specs.Work.{put_of, puts_of}
use Rattle.erjang_top.proofs.ManyFiles.{front-map, between, puts-next, puts-stop, puts-passed-on}
use Rattle.erjang_top.proofs.compile.put_all.Goals as goal

pub returns-in_err-put : goal.returns-in_err-put
returns-in_err-put g c =
    let put = rw (c.as_str.ensures.value, c.as_slice.ensures.value) at c.in_err-put.ensures in
    puts-passed-on _ _ _ _ _ c.from_residual.ensures.1
    (puts-stop _ (g.S.Shelf.state c.loop-class.shelf) _ _ (puts_of (take c.loop-class.class-index c.args.classes.now)) (puts_of (drop (c.loop-class.class-index + 1) c.args.classes.now)) (put_of c.class-item.result)
    (between put_of c.args.classes.now c.loop-class.class-index c.class-item.result c.loop-class-test.true c.class-item.is) c.loop-class.invariant put)

pub loop-class-preserved : goal.loop-class-preserved
loop-class-preserved g c =
    let put = rw (c.as_str.ensures.value, c.as_slice.ensures.value) at c.in_ok-put.ensures in
    subst (λ ps. PutsWith (g.S.Shelf.state c.args.shelf.now) (g.S.Shelf.state c.put.new.self) (λ was is. is ≡ option_map (put_each ps) was) Same)
    (sym (front-map put_of c.args.classes.now c.loop-class.class-index c.class-item.result c.loop-class-test.true c.class-item.is))
    (puts-next _ (g.S.Shelf.state c.loop-class.shelf) _ (puts_of (take c.loop-class.class-index c.args.classes.now)) (put_of c.class-item.result) c.loop-class.invariant put)
