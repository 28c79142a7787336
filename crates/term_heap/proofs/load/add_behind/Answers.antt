use Rattle.std.proofs.Common.{◌≡◌, ◌-◌, length, drop, ap, ◌∙◌, arith}
use Rattle.term_heap.specs.Preorder.{inner}
use Rattle.term_heap.proofs.Rebuilding.{replaced}
use Rattle.term_heap.proofs.load.add_behind.Goals as goal

pub returns-clause-terms : goal.returns-clause-terms
returns-clause-terms c =
    let at : c.len.result - c.count_inner.result ≡ length c.args.ids.now.items - length (inner c.args.t.now) = omega arith in
    (replaced c.args.heap.now c.make.new.heap c.args.t.now c.args.ids.now.items c.split_at.result.1.now c.truncate.new.self.items c.push.new.items.items c.in_ok-id.id (c.len.result - c.count_inner.result) c.requires.held c.requires.applied at
    (c.split_at.ensures.back ∙ ap (drop (c.len.result - c.count_inner.result)) c.deref.ensures.value) c.make.ensures.keeps c.in_ok-id.ensures.term c.truncate.ensures.items c.in_ok-push.ensures).1
