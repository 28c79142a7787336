use Rattle.std.proofs.Common.{rules}
use Rattle.stack_maps.proofs.TextsFound.{paired}
use Rattle.stack_maps.proofs.texts.text_of_units.Goals as goal

pub returns-in_ok-make-in-Ok : goal.returns-in_ok-make-in-Ok
returns-in_ok-make-in-Ok c = paired c.args.units.now c.as_str.result.now c.in_ok-make-in-Ok.field-0 (search rules) (search rules) c.in_ok-make-in-Ok.ensures c.as_str.utf8
