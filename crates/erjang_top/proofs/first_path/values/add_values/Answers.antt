use Rattle.std.proofs.Common.{map}
use Rattle.erjang_top.specs.first_path.SeenValues.{seen_value}
use Rattle.erjang_top.proofs.FirstPath.ValueLemmas.{code-more}
use Rattle.erjang_top.proofs.first_path.values.add_values.Goals as goal

pub loop-instr-preserved : goal.loop-instr-preserved
loop-instr-preserved c =
    code-more (map seen_value c.loop-instr.values.keys) (map seen_value c.add_value.new.values.keys) c.args.code.now c.loop-instr.instr-index c.instr-item.result _ c.loop-instr-test.true c.instr-item.is c.in_ok-add_value.ensures c.loop-instr.invariant
