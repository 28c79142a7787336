use Rattle.std.proofs.Common.{◌≡◌, ◌<◌, ◌-◌, length, drop, subst, pos, arith, suc, ap, ◌∙◌}
use Rattle.ej_term.specs.Term.{Int}
use Rattle.ej_term.specs.Digits as spec
use Rattle.term_heap.specs.View.{Stands}
use Rattle.term_heap.proofs.Kept.{stands-held, keeps-then}
use Rattle.term_ops.proofs.DigitsCharacters.{string-next}
use Rattle.term_ops.proofs.digits.string.Goals as goal

pub loop-place-preserved : goal.loop-place-preserved
loop-place-preserved c =
    let within : c.loop-place.place - 1 < length c.args.characters.now = omega arith in
    let next : c.loop-place.place ≡ suc (c.loop-place.place - 1) = omega arith in (
      keeps-then c.args.heap.now c.loop-place.heap c.cons.new.self c.loop-place.invariant.0 (keeps-then c.loop-place.heap c.code_point.new.heap c.cons.new.self c.code_point.ensures.keeps c.cons.ensures.keeps),
      stands-held c.cons.new.self c.in_ok-list-2.list _ c.in_ok-list-2.ensures.term,
      string-next c.loop-place.heap c.code_point.new.heap c.cons.new.self c.args.characters.now (c.loop-place.place - 1) c.index-characters-place.result c.loop-place.list c.in_ok-code.code c.in_ok-list-2.list within c.code_point.ensures.keeps c.loop-place.invariant.1
          (c.loop-place.invariant.2 ∙ ap (λ n. spec.string (drop n c.args.characters.now)) next)
          (subst (λ n. Stands c.code_point.new.heap c.in_ok-code.code (Int (pos n))) c.index-characters-place.is c.in_ok-code.ensures.term) c.in_ok-list-2.ensures.term,
    )
