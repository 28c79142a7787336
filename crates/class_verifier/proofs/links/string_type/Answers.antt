use Rattle.std.proofs.Common.{◌≡◌, subst}
use Rattle.std.specs.Prelude.{IfOk}
use Rattle.jvm_code.specs.declared.types.VType.TheVariants as v
use Rattle.class_verifier.proofs.ClassNames.{string}
use Rattle.class_verifier.proofs.links.string_type.Goals as goal

pub returns : goal.returns
returns c = subst (λ name. IfOk c.class_type.result (λ t. t ≡ v.Class name)) string c.class_type.ensures
