use Rattle.std.proofs.Common.{subst}
use Rattle.std.specs.Prelude.{Result}
use Rattle.asm_module.specs.declared.fault.FormFault.{FormFault}
use Rattle.asm_module.specs.Modules.{Headed}
use Rattle.asm_module.specs.Seen.{Gives, headed_seen, is_held}
use Rattle.asm_module.proofs.KeysRead.{same-header}
use Rattle.asm_module.proofs.module.header_behind.Goals as goal

pub returns : goal.returns
returns c =
    subst (λ (r : Result Headed FormFault). Gives headed_seen c.header_of.result r) (same-header (is_held c.in_ok-keys.keys.keys) c.args.forms.now c.in_ok-keys.ensures) c.header_of.ensures
