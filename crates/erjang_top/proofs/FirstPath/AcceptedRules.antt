-- An accepted module keeps the label rules of a module that names no labels.
use Rattle.std.proofs.Common.{◌≡◌, true}
use Rattle.beam_code.specs.declared.module.Module.{Module}
use Rattle.erjang_top.specs.first_path.Accepted.{Accepted}
use Rattle.erjang_top.specs.first_path.LabelRules.{meets_label_rules}
use Rattle.erjang_top.proofs.FirstPath.RulesKept.{rules_kept}

pub accepted_rules : (m : Module) → Accepted m → meets_label_rules m ≡ true
accepted_rules m a = rules_kept m a.label_rules
