use Rattle.std.proofs.Common.{map, sym, ap, ◌∙◌, Some}
use Rattle.erjang_top.specs.first_path.Opcode.{opcode, is_known}
use Rattle.erjang_top.proofs.FirstPath.BuiltSteps.{stands-at, more-pass, not-known}
use Rattle.erjang_top.proofs.first_path.built.first_unknown.Goals as goal

-- src/first_path/built.rt
pub loop-index-preserved : goal.loop-index-preserved
loop-index-preserved c =
    more-pass is_known (map opcode c.args.code.now) c.loop-index.index (opcode c.index-code-index.result)
    (stands-at opcode c.args.code.now c.loop-index.index c.index-code-index.result c.loop-index-test.true c.index-code-index.is) c.loop-index.invariant
    (sym c.is_known.ensures ∙ c.if-not-is_known.false)

pub returns-then-not-is_known : goal.returns-then-not-is_known
returns-then-not-is_known c = record {
  before = c.loop-index.invariant;
  is_unknown =
      stands-at opcode c.args.code.now c.loop-index.index c.index-code-index.result c.loop-index-test.true c.index-code-index.is
      ∙ ap Some (not-known (opcode c.index-code-index.result) (sym c.is_known.ensures ∙ c.if-not-is_known.true));
}
