use Rattle.std.proofs.Common.{◌≤◌, ◌∙◌, ap, length, arith}
use Rattle.asm_terms.specs.Reading.{with_rest}
use Rattle.asm_terms.proofs.QuoteLemmas.{quoted-step, shrunk}
use Rattle.asm_terms.proofs.quote.quoted.Goals as goal

pub loop-c-smaller : goal.loop-c-smaller
loop-c-smaller c =
    let less : length c.quoted_character.new.reader ≤ length c.next.new.self =
    shrunk c.in-Some.c c.in-Some-2.x c.next.new.self c.quoted_character.new.reader (c.in_ok-x.ensures ∙ ap (λ o. with_rest o c.quoted_character.new.reader) c.in-Some-2.is) in
    rw c.in-Some.ensures (omega (arith, less))

pub loop-c-preserved : goal.loop-c-preserved
loop-c-preserved c =
    quoted-step c.args.quote c.in-Some.c c.in-Some-2.x c.loop-c.done c.push.new.self c.loop-c.reader c.next.new.self c.quoted_character.new.reader c.in_ok-x.field-0
    c.in-Some.ensures c.if-c-quote.false c.in_ok-x.ensures c.in-Some-2.is c.in_ok-push-in-Some-2.ensures
    ∙ c.loop-c.invariant
