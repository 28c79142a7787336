use Rattle.std.proofs.Common.{◌≡◌, ℕ, List, length, option_map, Bor, sym, ap, subst, ◌∙◌}
use Rattle.std.proofs.lemmas.List.{length-map}
use Rattle.std.specs.Prelude.{string_bytes}
use Rattle.ej_outside.specs.Counts.{Same}
use Rattle.ej_outside.specs.Shelf.{ShelfState, PutsWith}
use Rattle.erjang_top.specs.Answers.{Refused, put_each}
use Rattle.erjang_top.specs.Work.{PutsSome, puts_of, seen_words, twice_at}
use Rattle.erjang_top.proofs.ManyFiles.{work_passed_on, work_twice, work_done, work_put_failed, no-some}
use Rattle.erjang_top.proofs.compile.compile.Goals as goal

pub returns-in_err-classes : goal.returns-in_err-classes
returns-in_err-classes g c = work_passed_on (seen_words c.args.words) _ _ _ c.in_err-classes.field-0.0 c.from_residual.ensures.1 c.in_err-classes.ensures

pub same_module-requires : goal.same_module-requires
same_module-requires g c = sym (length-map c.args.words.files.now string_bytes) ∙ sym c.in_ok-classes.ensures.1 ∙ ap length (sym c.as_slice.ensures.value)

pub returns-in-Some : goal.returns-in-Some
returns-in-Some g c =
    let twice = rw c.as_slice.ensures.value at c.in_ok-file.ensures in
    subst (λ (s : ShelfState). Refused (seen_words c.args.words) (twice_at c.in-Some.file.now c.in-Some.earlier) (g.S.Shelf.state c.args.shelf.now) s) (sym c.in_ok-classes.ensures.0)
    (work_twice (seen_words c.args.words) _ c.in_ok-classes.classes.items c.in-Some.file.now c.in-Some.earlier c.in_ok-classes.ensures.2
    (sym (ap (option_map (λ (t : Bor (List ℕ) × ℕ). twice_at t.0.now t.1)) c.in-Some.is) ∙ twice))

pub returns-in-Ok : goal.returns-in-Ok
returns-in-Ok g c =
    let once = rw c.as_slice.ensures.value at c.in_ok-file.ensures in
    let puts = rw c.as_slice-2.ensures.value at c.in-Ok.ensures in
    work_done (seen_words c.args.words) _ _ c.in_ok-classes.classes.items c.in_ok-classes.ensures.2
    (ap (option_map (λ (t : Bor (List ℕ) × ℕ). twice_at t.0.now t.1)) (no-some c.in_ok-file.field-0 c.in_default.not-Some) ∙ once)
    (subst (λ (s : ShelfState). PutsWith s (g.S.Shelf.state c.put_all.new.shelf) (λ was is. is ≡ option_map (put_each (puts_of c.in_ok-classes.classes.items)) was) Same) c.in_ok-classes.ensures.0 puts)

pub returns : goal.returns
returns g c =
    let once = rw c.as_slice.ensures.value at c.in_ok-file.ensures in
    let puts = rw c.as_slice-2.ensures.value at c.in-Err.ensures in
    work_put_failed (seen_words c.args.words) _ _ c.in_ok-classes.classes.items c.in_ok-classes.ensures.2
    (ap (option_map (λ (t : Bor (List ℕ) × ℕ). twice_at t.0.now t.1)) (no-some c.in_ok-file.field-0 c.in_default.not-Some) ∙ once)
    (subst (λ (s : ShelfState). PutsSome (puts_of c.in_ok-classes.classes.items) s (g.S.Shelf.state c.put_all.new.shelf)) c.in_ok-classes.ensures.0 puts)
