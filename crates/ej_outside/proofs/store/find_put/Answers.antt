use Rattle.std.proofs.Common.{◌≡◌, Bool, true, false, nat_eq, List, ℕ, take, drop, ap, sym, ◌∙◌}
use Rattle.std.specs.Cmp.Lexicographic.{pointwise}
use Rattle.ej_outside.proofs.Found.{put_here, put_later, total_size_left}
use Rattle.ej_outside.proofs.store.find_put.Goals as goal

-- a test of a value is a test of its equal
same_test : (a n own : List ℕ) (r b : Bool) → a ≡ n → r ≡ pointwise nat_eq a own → r ≡ b → pointwise nat_eq n own ≡ b
same_test a n own r b e t h = ap (λ x. pointwise nat_eq x own) (sym e) ∙ sym t ∙ h

pub returns-then-eq : goal.returns-then-eq
returns-then-eq c =
    let own = c.split_at-in-loop-place.result.0.now in
    let own_is = c.split_at-in-loop-place.ensures.front ∙ ap (take c.in-Some.place.now.name) c.split_at.ensures.back in
    let bytes_is = c.split_at-in-loop-place.ensures.back ∙ ap (drop c.in-Some.place.now.name) c.split_at.ensures.back in
    let tested = same_test c.as_bytes.result.now c.args.name.now own c.eq.result true c.as_bytes.ensures.value c.eq.ensures c.if-eq.true in
    sym (put_here c.args.name.now c.loop-place.rest.now own _ c.in-Some.place.now _ _ c.in-Some.ensures.steps own_is bytes_is tested) ∙ c.loop-place.invariant.same

pub loop-place-preserved : goal.loop-place-preserved
loop-place-preserved c =
    let own = c.split_at-in-loop-place.result.0.now in
    let own_is = c.split_at-in-loop-place.ensures.front ∙ ap (take c.in-Some.place.now.name) c.split_at.ensures.back in
    let tested = same_test c.as_bytes.result.now c.args.name.now own c.eq.result false c.as_bytes.ensures.value c.eq.ensures c.if-eq.false in
    record {
      fits = total_size_left c.loop-place.rest.now _ c.in-Some.place.now _ _ c.in-Some.ensures.steps c.loop-place.invariant.fits c.split_at.ensures.front_len;
      same = put_later c.args.name.now c.loop-place.rest.now own _ c.in-Some.place.now _ _ c.in-Some.ensures.steps own_is c.split_at.ensures.front tested ∙ c.loop-place.invariant.same;
    }
