use Rattle.std.proofs.Common.{[], ◌∷◌, length, map, take, drop, ◌+◌, IfSome, ap, subst, ◌∙◌, length-append, arith}
use Rattle.std.specs.Prelude.{string_bytes}
use Rattle.ej_outside.specs.Shelf.{ShelfState}
use Rattle.erjang_top.specs.Work.{IsBuilt, seen_words}
use Rattle.erjang_top.proofs.ManyFiles.{between, built-step, file-stops, front-map}
use Rattle.erjang_top.proofs.compile.build_all.Goals as goal

pub returns-in-Err : goal.returns-in-Err
returns-in-Err g c =
    let i = c.loop-file.invariant in
    let fails = rw c.as_str.ensures.value at c.in-Err.ensures in
    rw c.as_str-in-Err.ensures.value
    (file-stops (seen_words c.args.words) _ (g.S.Shelf.state c.loop-file.shelf) _
    (map string_bytes (take c.loop-file.file-index c.args.words.files.now)) (map string_bytes (drop (c.loop-file.file-index + 1) c.args.words.files.now))
    (string_bytes c.file-item.result) c.in-Err.fault c.loop-file.classes.items i.0
    (between string_bytes c.args.words.files.now c.loop-file.file-index c.file-item.result c.loop-file-test.true c.file-item.is) i.2 fails)

pub loop-file-preserved : goal.loop-file-preserved
loop-file-preserved g c =
    let i = c.loop-file.invariant in
    let built = rw c.as_str.ensures.value at c.in-Ok.ensures in
    let is = subst (λ (s : ShelfState). IfSome s.held (λ held. IsBuilt held c.args.words.outdir.now (string_bytes c.file-item.result) c.in-Ok.class)) i.0 built.1 in
    let long = ap length c.in-Ok-push.ensures.items ∙ length-append c.loop-file.classes.items (c.in-Ok.class ∷ []) in (
      built.0 ∙ i.0,
      omega (arith, long, i.1),
      built-step _ _ _ _ _ _ _ _ (front-map string_bytes c.args.words.files.now c.loop-file.file-index c.file-item.result c.loop-file-test.true c.file-item.is)
          c.in-Ok-push.ensures.items i.2 is,
    )
