use Rattle.std.proofs.Common.{◌+◌, map, subst, arith}
use Rattle.std.specs.Ordering.{nat_cmp}
use Rattle.std.specs.BTreeMap.{get}
use Rattle.std.proofs.lemmas.List.{length-map}
use Rattle.beam_code.specs.Code.{opcode}
use Rattle.slot_kinds.specs.Rows.{AreRows, Defines}
use Rattle.slot_kinds.proofs.TableLaw.{rows-more, rows-fresh, opcode-at}
use Rattle.slot_kinds.proofs.table.Table.make.Goals as goal

pub loop-index-preserved : goal.loop-index-preserved
loop-index-preserved c =
    rows-more (map opcode c.args.code.now) c.loop-index.index (get nat_cmp c.loop-index.rows) (get nat_cmp c.define.new.rows) (omega (arith, length-map c.args.code.now opcode)) c.loop-index.invariant
    (subst (λ o. Defines o (c.loop-index.index + 1) (get nat_cmp c.loop-index.rows) (get nat_cmp c.define.new.rows))
    (opcode-at c.args.code.now c.loop-index.index c.index-code-index.result _ c.loop-index-test.true c.index-code-index.is c.opcode.ensures) c.in_ok-define.ensures)

pub returns : goal.returns
returns c =
    rows-fresh (map opcode c.args.code.now) _
    (subst (λ n. AreRows (map opcode c.args.code.now) n (get nat_cmp c.loop-index.rows)) (omega (arith, length-map c.args.code.now opcode)) c.loop-index.invariant) c.new.ensures.empty
