use Rattle.erjang_top.proofs.Reading.{refused, is_compiled}
use Rattle.erjang_top.proofs.source.read_source.Goals as goal

pub returns-in_err-module : goal.returns-in_err-module
returns-in_err-module c =
    refused c.args.bytes.now c.in_err-module.field-0.0 c.from_residual.result c.in_err-module.ensures.first c.from_residual.ensures.1

pub returns-in-None : goal.returns-in-None
returns-in-None c = is_compiled c.args.bytes.now _ (λ k. (c.type_inv.bytes k).fits) (record { accepted = c.in_ok-module.ensures.passes; built = c.in-None.ensures })
