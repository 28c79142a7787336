use Rattle.std.proofs.Common.{◌∷◌, [], Bool, true, false, not, ◌≡◌, refl, sym, ap, subst, ◌∙◌}
use Rattle.std.specs.Prelude.{OnOk}
use Rattle.beam_code.specs.Pool.{is_value}
use Rattle.slot_kinds.specs.Named.{Gains, values}
use Rattle.slot_kinds.proofs.ValuesLaw.{gains-nothing, value-alone, no-value}
use Rattle.slot_kinds.proofs.values.add.Goals as goal

turned : (b : Bool) → b ≡ not (not b)
turned true = refl
turned false = refl

pub returns-then-is_register : goal.returns-then-is_register
returns-then-is_register c =
    gains-nothing c.args.seen.now.keys (values (c.args.source.now ∷ []))
    (no-value c.args.source.now (turned (is_value c.args.source.now) ∙ ap not (sym c.is_register.ensures ∙ c.if-is_register.true)))

pub returns : goal.returns
returns c =
    subst (λ vs. OnOk c.add_value.result (Gains c.args.seen.now.keys c.add_value.new.seen.keys vs))
    (ap (λ s. s ∷ []) c.in_ok-copy.ensures ∙ sym (value-alone c.args.source.now (turned (is_value c.args.source.now) ∙ ap not (sym c.is_register.ensures ∙ c.if-is_register.false))))
    c.add_value.ensures
