use Rattle.std.proofs.Common.{map, drop, ap}
use Rattle.std.specs.List.{flat_map}
use Rattle.beam_code.specs.Code.{function_code}
use Rattle.beam_code.specs.Pool.{numbers_in}
use Rattle.slot_kinds.specs.Named.{code_in}
use Rattle.slot_kinds.proofs.Different.{different-numbers}
use Rattle.slot_kinds.proofs.Left.{left-none}
use Rattle.slot_kinds.proofs.named.number_count.Goals as goal

pub returns : goal.returns
returns c =
    different-numbers c.loop-function.seen.keys (flat_map numbers_in (code_in (map function_code (drop c.loop-function.function-index c.args.functions.now)))) (flat_map numbers_in (code_in (map function_code c.args.functions.now))) c.len.result
    c.len.ensures.unique
    (ap (λ fs. flat_map numbers_in (code_in fs)) (left-none function_code c.args.functions.now c.loop-function.function-index c.loop-function-test.false))
    c.loop-function.invariant
    c.len.ensures.len
