-- The steps of the code tell the state after an instruction.
use Rattle.std.proofs.Common.{◌≡◌, Bool, true, false, Option, None, Some, Result, Ok, Err, refl, sym, ap, subst, ◌∙◌}
use Rattle.std.specs.Prelude.{if◌then◌else◌, option_map}
use Rattle.std.specs.Result.{IsErrAnd}
use Rattle.beam_code.specs.declared.fault.StepFault.{StepFault}
use Rattle.beam_code.specs.declared.fault.StepFault.TheVariants.{NoRow, NoMemory}
use Rattle.beam_code.specs.declared.slot_state.SlotState.{SlotState}
use Rattle.beam_code.specs.After.{IsAfter}
use Rattle.beam_code.specs.Flow.{flow}
use Rattle.beam_code.specs.FlowParts.{allows, entered, left, parts}
use Rattle.beam_code.specs.Opcode.{Opcode}
use Rattle.beam_code.specs.Slots.{State, state_of}
use Rattle.beam_code.proofs.FlowPartsLaw.{flow-parts}

module _ (o p : Opcode) (s : State) (b : Bool) (e : o ≡ p) (h : b ≡ allows o s) where
  -- a row that does not hold
  pub row-fails : b ≡ false → IsAfter (flow p s) (Err NoRow)
  row-fails f = subst (λ q. IsAfter (flow q s) (Err NoRow)) e (subst (λ r. IsAfter r (Err NoRow)) (sym is) refl)
    where
      is : flow o s ≡ None
      is = flow-parts o s ∙ ap (λ c. if c then Some (parts o s) else None) (sym h ∙ f)

  row-is : b ≡ true → flow p s ≡ Some (parts o s)
  row-is t = ap (λ q. flow q s) (sym e) ∙ flow-parts o s ∙ ap (λ c. if c then Some (parts o s) else None) (sym h ∙ t)

  -- a row that holds
  pub row-holds : (next : Option SlotState) → b ≡ true → option_map state_of next ≡ left o (entered o s) → IsAfter (flow p s) (Ok next)
  row-holds next t l = subst (λ r. IsAfter r (Ok next)) (sym (row-is t)) l

  -- a row that holds, where memory is wanting
  pub row-unknown : (r : Result (Option SlotState) StepFault) → b ≡ true → IsErrAnd r (λ fault. fault ≡ NoMemory) → IsAfter (flow p s) r
  row-unknown (Err NoMemory) t w = subst (λ r. IsAfter r (Err NoMemory)) (sym (row-is t)) tt
  row-unknown (Err NoRow) t w = cc
  row-unknown (Ok next) t w = absurd w
