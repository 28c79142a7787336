use Rattle.std.proofs.Common.{sym}
use Rattle.erjang_top.proofs.compile.build.Goals as goal

pub returns : goal.returns
returns c = record {
  module' = c.in_ok-module.module;
  is_source = c.in_ok-module.ensures.0;
  accepted = c.in_ok-module.ensures.1;
  emitted = c.in_ok-bytes.ensures.emitted;
  spelled = c.in_ok-bytes.ensures.spelled;
  of_module = sym c.in_ok-clone.ensures.cases;
  named = c.in_ok-path.ensures;
}
