use Rattle.std.proofs.Common.{codes}
use Rattle.term_ops.proofs.MapsAnswers.{pair-made}
use Rattle.term_ops.proofs.MapsWords.{ok_stands}
use Rattle.term_ops.proofs.maps.found.Goals as goal

pub returns-clause-term : goal.returns-clause-term
returns-clause-term c = pair-made c.tuple.result c.args.heap.now c.atom.new.self c.tuple.new.self c.in_ok-ok.ok c.args.value (codes "ok") c.atom.ensures.keeps c.requires
    (ok_stands c.atom.new.self c.in_ok-ok.ok c.in_ok-ok.ensures.term) c.tuple.ensures.term
