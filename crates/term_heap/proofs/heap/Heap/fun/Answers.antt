use Rattle.std.proofs.Common.{length, map, is_some, ap, arith}
use Rattle.std.specs.Str.{chars}
use Rattle.std.proofs.lemmas.Str.{scalars-chars}
use Rattle.ej_term.specs.Term as term
use Rattle.term_heap.specs.View.{terms_in, parts_in, texts_in}
use Rattle.term_heap.proofs.Made.{term_at, fun-made, made}
use Rattle.term_heap.proofs.Profiled.{formed-made, formed-fun}
use Rattle.term_heap.proofs.heap.Heap.fun.Goals as goal

pub push-requires-clause-known : goal.push-requires-clause-known
push-requires-clause-known c = ap is_some (fun-made c.args.local c.args.arity (texts_in c.push_text.new.self) (texts_in c.push_text-2.new.self) (texts_in c.push_parts.new.self) (parts_in c.push_parts.new.self)
    (terms_in c.args.self.now) (terms_in c.push_text.new.self) (terms_in c.push_text-2.new.self) (terms_in c.push_parts.new.self)
    c.in_ok-module.module c.in_ok-name.name c.in_ok-first.first (length c.args.env.now) c.args.env.now (chars c.args.module.now) (chars c.args.name.now)
    c.in_ok-module.ensures.text c.push_text-2.ensures.keeps.texts c.in_ok-name.ensures.text c.push_parts.ensures.texts
    c.push_text.ensures.terms c.push_text-2.ensures.terms c.push_parts.ensures.terms c.in_ok-first.ensures.parts c.requires.held)

pub returns-clause-term : goal.returns-clause-term
returns-clause-term c = made c.push.result (terms_in c.push.new.self) _ (term.Fun c.args.local (chars c.args.module.now) (chars c.args.name.now) c.args.arity (term.terms (map (term_at (terms_in c.args.self.now)) c.args.env.now)))
    c.push.ensures.term
    (fun-made c.args.local c.args.arity (texts_in c.push_text.new.self) (texts_in c.push_text-2.new.self) (texts_in c.push_parts.new.self) (parts_in c.push_parts.new.self)
    (terms_in c.args.self.now) (terms_in c.push_text.new.self) (terms_in c.push_text-2.new.self) (terms_in c.push_parts.new.self)
    c.in_ok-module.module c.in_ok-name.name c.in_ok-first.first (length c.args.env.now) c.args.env.now (chars c.args.module.now) (chars c.args.name.now)
    c.in_ok-module.ensures.text c.push_text-2.ensures.keeps.texts c.in_ok-name.ensures.text c.push_parts.ensures.texts
    c.push_text.ensures.terms c.push_text-2.ensures.terms c.push_parts.ensures.terms c.in_ok-first.ensures.parts c.requires.held)

pub push-requires-clause-profile : goal.push-requires-clause-profile
push-requires-clause-profile c = formed-made _ (term.Fun c.args.local (chars c.args.module.now) (chars c.args.name.now) c.args.arity (term.terms (map (term_at (terms_in c.args.self.now)) c.args.env.now))) (fun-made c.args.local c.args.arity (texts_in c.push_text.new.self) (texts_in c.push_text-2.new.self) (texts_in c.push_parts.new.self) (parts_in c.push_parts.new.self)
    (terms_in c.args.self.now) (terms_in c.push_text.new.self) (terms_in c.push_text-2.new.self) (terms_in c.push_parts.new.self)
    c.in_ok-module.module c.in_ok-name.name c.in_ok-first.first (length c.args.env.now) c.args.env.now (chars c.args.module.now) (chars c.args.name.now)
    c.in_ok-module.ensures.text c.push_text-2.ensures.keeps.texts c.in_ok-name.ensures.text c.push_parts.ensures.texts
    c.push_text.ensures.terms c.push_text-2.ensures.terms c.push_parts.ensures.terms c.in_ok-first.ensures.parts c.requires.held)
    (formed-fun c.args.local (chars c.args.module.now) (chars c.args.name.now) c.args.arity (terms_in c.args.self.now) c.args.env.now c.args.self.now.profile c.requires.held (scalars-chars c.args.module.now c.utf8.module) (scalars-chars c.args.name.now c.utf8.name) (omega (arith, c.ranges.arity)) c.requires.external)
