use Rattle.std.proofs.Common.{map, ap}
use Rattle.erjang_top.specs.first_path.Code.{seen_source}
use Rattle.erjang_top.specs.first_path.SeenValues.{seen_value}
use Rattle.erjang_top.proofs.FirstPath.Appends.{appended-as}
use Rattle.erjang_top.proofs.FirstPath.Plain.{integer_same}
use Rattle.erjang_top.proofs.FirstPath.SelectSteps.{integer_source}
use Rattle.erjang_top.proofs.first_path.emit.select.push_source.Goals as goal

pub returns-in-Integer : goal.returns-in-Integer
returns-in-Integer c =
    let same = integer_same (seen_source c.args.from) c.in-Integer.number (ap seen_source c.in-Integer.is) c.requires.from in
    appended-as c.push_integer.result _ _ _ _ (integer_source (map seen_value c.args.values.now.keys) c.args.from c.in-Integer.number _ c.in-Integer.is same) c.push_integer.ensures
