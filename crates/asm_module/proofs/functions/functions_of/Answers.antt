use Rattle.std.proofs.Common.{◌+◌, map, sym, ap, ◌∙◌}
use Rattle.asm_module.specs.Modules.{functions_of}
use Rattle.asm_module.specs.Seen.{key_seen}
use Rattle.asm_module.proofs.FunctionLemmas.{first-begun, next-read, last-whole}
use Rattle.asm_module.proofs.functions.functions_of.Goals as goal

pub loop-at-init : goal.loop-at-init
loop-at-init c =
    first-begun (map key_seen c.new-keys.result.keys) (map key_seen c.begin.new.keys.keys) c.new-whole.result c.in_ok-last.last c.in-Some.first.now c.in-Some.rest.now
    (ap (map key_seen) c.new-keys.ensures.empty) c.in_ok-last.ensures.function c.in_ok-last.ensures.empty c.in_ok-last.ensures.keys c.new-whole.ensures
    ∙ sym (ap functions_of c.in-Some.ensures.cases.0)

pub loop-at-preserved : goal.loop-at-preserved
loop-at-preserved c =
    next-read (map key_seen c.loop-at.keys.keys) (map key_seen c.next_function.new.keys.keys) c.loop-at.whole c.next_function.new.whole c.loop-at.last c.in-Ok.next c.loop-at.at
    c.in-Some.rest.now c.index-rest-at.result (functions_of c.args.forms.now) c.loop-at-test.true c.index-rest-at.is c.in-Ok.ensures.read c.loop-at.invariant

pub returns : goal.returns
returns c =
    last-whole (map key_seen c.loop-at.keys.keys) c.loop-at.whole c.push.new.self c.loop-at.last (c.loop-at.at + 5) c.loop-at.at c.in-Some.rest.now (functions_of c.args.forms.now)
    c.loop-at-test.false c.in_ok-push.ensures.ok c.loop-at.invariant
