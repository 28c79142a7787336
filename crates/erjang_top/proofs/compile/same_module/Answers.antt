use Rattle.std.proofs.Common.{map, ap}
use Rattle.std.specs.Prelude.{string_bytes}
use Rattle.erjang_top.specs.Work.{modules_of}
use Rattle.erjang_top.specs.declared.compile.ReadyClass.{ReadyClass}
use Rattle.erjang_top.proofs.ManyFiles.{front-map, rest-next, rest, twice-kept, keys-kept}
use Rattle.erjang_top.proofs.compile.same_module.Goals as goal

pub loop-place-preserved : goal.loop-place-preserved
loop-place-preserved c =
    let i = c.loop-place.invariant in
    let within = c.loop-place-test.true in
    let class = c.index-classes-place.result in
    let more = front-map (λ (r : ReadyClass). r.module) c.args.classes.now c.loop-place.place class within c.index-classes-place.is in
    let left = ap modules_of (rest-next c.args.classes.now c.loop-place.place class within c.index-classes-place.is) in
    let file = rest c.args.files.now c.loop-place.place (rw c.requires within) in
    let e = c.in_ok-earlier.ensures in (
      keys-kept _ _ _ _ class.module c.in_ok-clone.field-0 c.in_ok-earlier.is_new e.keys more i.0 c.in_ok-clone.ensures.cases e.added c.if-not-is_new.false,
      twice-kept _ _ _ _ _ _ _ _ (string_bytes file.first) class.module c.in_ok-clone.field-0 c.in_ok-earlier.is_new i.1 (ap (map string_bytes) file.is) left more i.0 c.in_ok-clone.ensures.cases e.added c.if-not-is_new.false,
    )
