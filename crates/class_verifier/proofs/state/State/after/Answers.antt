use Rattle.std.proofs.Common.{ap, subst, sym, ◌∙◌}
use Rattle.std.specs.Prelude.{ℤ, option_and_then, slice_get}
use Rattle.jvm_code.specs.Instruction.{callee_at, loaded_at, loaded_wide}
use Rattle.jvm_code.specs.Typing.{after, called, left}
use Rattle.class_verifier.specs.Calls.{IsCalled}
use Rattle.class_verifier.specs.Seen.{state_seen}
use Rattle.class_verifier.proofs.AfterLaw.{becomes-each, behind, called-as}
use Rattle.class_verifier.proofs.state.State.after.Goals as goal

pub returns-in-Ldc : goal.returns-in-Ldc
returns-in-Ldc c =
    becomes-each c.push_given.result _ _ c.push_given.new.self
    (λ pc. ap (behind c.args.class.now (state_seen c.args.self.now) pc) c.in-Ldc.is
    ∙ ap (λ pool. option_and_then (after {T = ℤ} (state_seen c.args.self.now)) (loaded_at pool c.in-Ldc.index)) (sym c.as_slice.ensures)
    ∙ sym (c.loaded.ensures (state_seen c.args.self.now)))
    c.push_given.ensures

pub returns-in-LdcW : goal.returns-in-LdcW
returns-in-LdcW c =
    becomes-each c.push_given-in-LdcW.result _ _ c.push_given-in-LdcW.new.self
    (λ pc. ap (behind c.args.class.now (state_seen c.args.self.now) pc) c.in-LdcW.is
    ∙ ap (λ pool. option_and_then (after {T = ℤ} (state_seen c.args.self.now)) (loaded_at pool c.in-LdcW.index)) (sym c.as_slice-in-LdcW.ensures)
    ∙ sym (c.loaded-in-LdcW.ensures (state_seen c.args.self.now)))
    c.push_given-in-LdcW.ensures

pub returns-in-Ldc2W : goal.returns-in-Ldc2W
returns-in-Ldc2W c =
    becomes-each c.push_given-in-Ldc2W.result _ _ c.push_given-in-Ldc2W.new.self
    (λ pc. ap (behind c.args.class.now (state_seen c.args.self.now) pc) c.in-Ldc2W.is
    ∙ ap (λ pool. option_and_then (after {T = ℤ} (state_seen c.args.self.now)) (option_and_then loaded_wide (slice_get pool c.in-Ldc2W.index))) (sym c.as_slice-in-Ldc2W.ensures)
    ∙ sym (c.loaded_wide.ensures (state_seen c.args.self.now)))
    c.push_given-in-Ldc2W.ensures

pub returns-in-Invoke : goal.returns-in-Invoke
returns-in-Invoke c =
    becomes-each c.call_found.result _ _ c.call_found.new.self
    (λ pc. ap (behind c.args.class.now (state_seen c.args.self.now) pc) c.in-Invoke.is
    ∙ called-as (state_seen c.args.self.now) (callee_at c.args.class.now c.in-Invoke.field-0)
    ∙ ap (λ found. left (state_seen c.args.self.now) (option_and_then (λ signature. called signature (state_seen c.args.self.now).stack) found))
    (sym (subst (λ op. IsCalled c.args.class.now op c.args.signature) c.in-Invoke.is c.requires.called)))
    c.call_found.ensures
