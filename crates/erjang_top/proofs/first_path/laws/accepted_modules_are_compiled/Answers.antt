use Rattle.erjang_top.proofs.FirstPath.Bridge.{bridges}
use Rattle.erjang_top.proofs.first_path.laws.accepted_modules_are_compiled.Goals as goal

-- src/first_path/laws.rt
pub returns : goal.returns
returns c = record { bridges = bridges }
