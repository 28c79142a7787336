use Rattle.std.proofs.Common.{◌-◌, ◌∙◌, ap, sym, arith}
use Rattle.jvm_code.specs.Typing.{is_long, type_at}
use Rattle.class_verifier.specs.Seen.{types_seen}
use Rattle.class_verifier.proofs.LocalsLaw.{half-cleared}
use Rattle.class_verifier.proofs.locals.clear_half.Goals as goal

pub returns-then-is_long : goal.returns-then-is_long
returns-then-is_long c =
    half-cleared c.args.locals.now.items c.args.at (omega arith)
    (sym (ap (λ types. is_long (type_at (types_seen types) (c.args.at - 1))) c.deref.ensures.value) ∙ sym (ap is_long c.type_at.ensures) ∙ sym c.is_long.ensures ∙ c.if-is_long.true)
