use Rattle.std.proofs.Common.{◌<◌, ap, subst, sym, ◌∙◌, length, arith}
use Rattle.std.proofs.lemmas.List.{map_push, length-map}
use Rattle.jvm_code.specs.Typing.{filled}
use Rattle.class_verifier.specs.declared.types.TypeRef.TheVariants as t
use Rattle.class_verifier.specs.Seen.{type_seen, types_seen}
use Rattle.class_verifier.proofs.Places.{filled-more}
use Rattle.class_verifier.proofs.locals.fill.Goals as goal

pub loop-locals-preserved : goal.loop-locals-preserved
loop-locals-preserved c =
    let below : length (types_seen c.loop-locals.locals.items) < c.args.count = subst (λ n. n < c.args.count) (sym (length-map c.loop-locals.locals.items type_seen)) (omega arith) in
    ap (λ types. filled c.args.count (types_seen types)) c.in_ok-push.ensures.items
    ∙ ap (filled c.args.count) (map_push type_seen c.loop-locals.locals.items t.Top)
    ∙ filled-more c.args.count (types_seen c.loop-locals.locals.items) below
    ∙ c.loop-locals.invariant
