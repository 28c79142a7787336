use Rattle.std.proofs.Common.{ap, ◌∙◌, rules}
use Rattle.std.specs.Prelude.{option_map}
use Rattle.std.proofs.lemmas.List.Sorted.{answers_always}
use Rattle.beam_code.specs.Slots.{state_of}
use Rattle.slot_kinds.proofs.LookUp.{row-read, row-missing}
use Rattle.slot_kinds.proofs.look_up.state_at.Goals as goal

pub returns-in-Ok : goal.returns-in-Ok
returns-in-Ok c =
    let found = c.in-Ok.ensures.position (λ row. row.0) (answers_always _ _ _ (λ f a r g called. search rules)) in
    ap (option_map state_of) c.as_ref.ensures.value
    ∙ row-read _ _ c.args.label c.in-Ok.place _ c.as_slice-rows.ensures c.args.map.now.labels_rise c.in-Ok.ensures.bound found

pub returns-in-Err : goal.returns-in-Err
returns-in-Err c =
    let parted = c.in-Err.ensures.position (λ row. row.0) (answers_always _ _ _ (λ f a r g called. search rules)) in
    row-missing _ _ c.args.label c.in-Err.field-0 c.as_slice-rows.ensures c.args.map.now.labels_rise parted
