use Rattle.std.proofs.Common.{ap, refl, ◌∙◌}
use Rattle.beam_code.specs.Keys.{are_exports, is_among}
use Rattle.asm_module.specs.Modules.{keys_of}
use Rattle.asm_module.specs.Seen.{header_seen}
use Rattle.asm_module.proofs.ModuleLemmas.{distinct, exported}
use Rattle.asm_module.proofs.module.module_of.Goals as goal

pub invariant_of-result : goal.invariant_of-result
invariant_of-result c = record {
  distinct = distinct c.in_ok-header.rest.now c.in_ok-functions.functions c.in_ok-functions.ensures;
  exported = ap (λ exports. are_exports exports c.in_ok-functions.functions) c.exports_in-exports.ensures
      ∙ exported (is_among (keys_of c.in-Some.rest.now)) c.in-Some.rest.now c.in_ok-header.rest.now (header_seen c.in_ok-header.header) c.in_ok-functions.functions (λ key. refl)
      c.in_ok-header.ensures c.in_ok-functions.ensures;
}
