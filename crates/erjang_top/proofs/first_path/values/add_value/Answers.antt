use Rattle.std.proofs.Common.{[], map, fold, ap, ◌∙◌}
use Rattle.std.specs.List.{cons_option}
use Rattle.erjang_top.specs.first_path.Weights.{with_value}
use Rattle.erjang_top.specs.first_path.SeenValues.{seen_value}
use Rattle.erjang_top.proofs.FirstPath.ValueLemmas.{value-more}
use Rattle.erjang_top.proofs.first_path.values.add_value.Goals as goal

pub returns-in_ok-insert : goal.returns-in_ok-insert
returns-in_ok-insert c =
    value-more c.args.values.now.keys c.insert.new.self.keys c.in-Some.value c.in_ok-insert.ensures.keys
    ∙ ap (λ v. fold with_value (map seen_value c.args.values.now.keys) (cons_option v [])) c.in-Some.ensures
