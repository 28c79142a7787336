use Rattle.erjang_top.proofs.FirstPath.RangesLaw.{ranges}
use Rattle.erjang_top.proofs.first_path.laws.read_modules_are_in_range.Goals as goal

pub returns : goal.returns
returns c = record { in_range = ranges }
