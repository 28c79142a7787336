use Rattle.std.proofs.Common.{rules}
use Rattle.class_file.proofs.Pushed.{table_spelled}
use Rattle.class_file.proofs.spelling_ops.push_table.Goals as goal

pub returns : goal.returns
returns c = table_spelled c.args.pc c.args.default c.args.low c.args.offsets.now c.args.out.now.items c.push_switch.new.out.items c.push_values.new.out.items (search rules) (search rules)
