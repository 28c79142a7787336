use Rattle.std.proofs.Common.{◌≡◌, map, sym, subst}
use Rattle.beam_code.specs.Code.{opcode, function_code}
use Rattle.beam_code.specs.Good.{GoesTo, NoneGood}
use Rattle.beam_code.specs.Slots.{entry_state, state_of}
use Rattle.slot_kinds.specs.Rows.{IsFresh}
use Rattle.slot_kinds.specs.Settles.{SettlesTo}
use Rattle.slot_kinds.specs.Tables.{ArePlaces, Goes, Nothing, Refuses}
use Rattle.slot_kinds.specs.Walks.{KeepsEach}
use Rattle.slot_kinds.proofs.AnswerLaw.{handed-on}
use Rattle.slot_kinds.proofs.SettleLaw.{first-quiet, first-refused, none-good, is-best}
use Rattle.std.proofs.Common.{◌∙◌, ap, refl, None, Some}
use Rattle.beam_code.specs.Labels.{is_in, defined_in}
use Rattle.slot_kinds.specs.Tags.{TagsKnown}
use Rattle.slot_kinds.specs.Tables.{known}
use Rattle.slot_kinds.proofs.TagsLaw.{nothing-known}
use Rattle.slot_kinds.proofs.SettleLaw.{known-names}
use Rattle.slot_kinds.proofs.settle.function_kinds.Goals as goal

pub settle-requires : goal.settle-requires
settle-requires c = record {
  placed = subst (ArePlaces (map opcode c.as_slice-code.result.now)) (sym c.in-Ok.ensures.stays) c.in_ok-table.ensures.are;
  names_known = known-names c.as_slice-code.result.now c.args.function.now.code c.in_ok-table.table c.reach.new.self c.as_slice-code.ensures c.in_ok-table.ensures.are c.in-Ok.ensures.stays c.requires.names_known;
  tags_known = c.in-Ok.ensures.tags (λ l s e. absurd (let i : None ≡ Some s = sym (c.in_ok-table.ensures.unreached l) ∙ e in cc));
  quiet = first-quiet (map opcode c.as_slice-code.result.now) c.in_ok-table.table c.reach.new.self (c.args.function.now.entry, state_of c.in_ok-entered.entered) c.in_ok-table.ensures c.in-Ok.ensures;
}

pub returns-in-Err : goal.returns-in-Err
returns-in-Err c =
    let fresh : IsFresh (function_code c.args.function.now).code c.in_ok-table.table = subst (λ is. IsFresh (map opcode is) c.in_ok-table.table) c.as_slice-code.ensures c.in_ok-table.ensures in
    handed-on (Refuses (λ at. GoesTo at (c.args.function.now.entry, state_of c.in_ok-entered.entered)) c.in_ok-table.table) (NoneGood (function_code c.args.function.now)) _
    (λ r. first-refused (function_code c.args.function.now) c.in_ok-table.table fresh (subst (λ s. Refuses (λ at. GoesTo at (c.args.function.now.entry, s)) c.in_ok-table.table) c.in_ok-entered.ensures r)) c.in-Err.ensures

pub returns-in-Err-settle : goal.returns-in-Err-settle
returns-in-Err-settle c =
    let fresh : IsFresh (function_code c.args.function.now).code c.in_ok-table.table = subst (λ is. IsFresh (map opcode is) c.in_ok-table.table) c.as_slice-code.ensures c.in_ok-table.ensures in
    let goes : Goes (λ at. GoesTo at (c.args.function.now.entry, entry_state c.args.function.now.arity)) Nothing c.in_ok-table.table c.reach.new.self =
    subst (λ s. Goes (λ at. GoesTo at (c.args.function.now.entry, s)) Nothing c.in_ok-table.table c.reach.new.self) c.in_ok-entered.ensures c.in-Ok.ensures in
    handed-on (Refuses (KeepsEach (map opcode c.as_slice-code.result.now)) c.reach.new.self) (NoneGood (function_code c.args.function.now)) _
    (λ r. none-good (function_code c.args.function.now) c.in_ok-table.table c.reach.new.self fresh goes (subst (λ is. Refuses (KeepsEach (map opcode is)) c.reach.new.self) c.as_slice-code.ensures r)) c.in-Err-settle.ensures

pub returns-in_ok-into_map-in-Ok-settle : goal.returns-in_ok-into_map-in-Ok-settle
returns-in_ok-into_map-in-Ok-settle c =
    let fresh : IsFresh (function_code c.args.function.now).code c.in_ok-table.table = subst (λ is. IsFresh (map opcode is) c.in_ok-table.table) c.as_slice-code.ensures c.in_ok-table.ensures in
    let goes : Goes (λ at. GoesTo at (c.args.function.now.entry, entry_state c.args.function.now.arity)) Nothing c.in_ok-table.table c.reach.new.self =
    subst (λ s. Goes (λ at. GoesTo at (c.args.function.now.entry, s)) Nothing c.in_ok-table.table c.reach.new.self) c.in_ok-entered.ensures c.in-Ok.ensures in
    is-best (function_code c.args.function.now) c.in_ok-table.table c.reach.new.self c.settle.new.table _ c.requires.distinct fresh goes
    (subst (λ is. SettlesTo (map opcode is) c.reach.new.self c.settle.new.table) c.as_slice-code.ensures c.in-Ok-settle.ensures.0) c.in-Ok-settle.ensures.1 c.in_ok-into_map-in-Ok-settle.ensures

pub reach-requires : goal.reach-requires
reach-requires c = record {
  label_known = c.in_ok-table.ensures.are.defined c.args.function.now.entry ∙ ap (λ is. is_in (defined_in (map opcode is)) c.args.function.now.entry) c.as_slice-code.ensures ∙ c.requires.entered;
  tags_known = subst (TagsKnown (known c.in_ok-table.table)) (sym c.in_ok-entered.ensures) (nothing-known (known c.in_ok-table.table) (entry_state c.args.function.now.arity) (λ n. refl));
}
