use Rattle.std.proofs.Common.{◌<◌, ◌^◌, subst}
use Rattle.slot_kinds.proofs.JoinLaw.{state-bound}
use Rattle.slot_kinds.proofs.table.copied.Goals as goal

pub returns : goal.returns
returns c = (c.in_ok-copy.ensures, state-bound c.in_ok-copy.copy (subst (λ n. n < 2 ^ 64) c.len-slots.ensures c.len-slots.type_inv))
