use Rattle.std.proofs.Common.{length, map, is_some, ap}
use Rattle.ej_term.specs.Term as term
use Rattle.term_heap.specs.View.{terms_in, parts_in}
use Rattle.term_heap.proofs.Made.{term_at, tuple-made, made}
use Rattle.term_heap.proofs.Profiled.{formed-made, formed-ids}
use Rattle.term_heap.proofs.heap.Heap.tuple.Goals as goal

pub push-requires-clause-known : goal.push-requires-clause-known
push-requires-clause-known c = ap is_some (tuple-made (parts_in c.push_parts.new.self) (terms_in c.args.self.now) (terms_in c.push_parts.new.self) c.in_ok-first.first (length c.args.parts.now) c.args.parts.now
    c.push_parts.ensures.terms c.in_ok-first.ensures.parts c.requires)

pub returns-clause-term : goal.returns-clause-term
returns-clause-term c = made c.push.result (terms_in c.push.new.self) _ (term.tuple (map (term_at (terms_in c.args.self.now)) c.args.parts.now)) c.push.ensures.term
    (tuple-made (parts_in c.push_parts.new.self) (terms_in c.args.self.now) (terms_in c.push_parts.new.self) c.in_ok-first.first (length c.args.parts.now) c.args.parts.now
    c.push_parts.ensures.terms c.in_ok-first.ensures.parts c.requires)

pub push-requires-clause-profile : goal.push-requires-clause-profile
push-requires-clause-profile c = formed-made _ (term.tuple (map (term_at (terms_in c.args.self.now)) c.args.parts.now)) (tuple-made (parts_in c.push_parts.new.self) (terms_in c.args.self.now) (terms_in c.push_parts.new.self) c.in_ok-first.first (length c.args.parts.now) c.args.parts.now
    c.push_parts.ensures.terms c.in_ok-first.ensures.parts c.requires)
    (formed-ids (terms_in c.args.self.now) c.args.parts.now c.args.self.now.profile c.requires)
