use Rattle.std.proofs.Common.{map, Some, subst, arith}
use Rattle.std.proofs.lemmas.List.{length-map}
use Rattle.beam_code.specs.Code.{opcode}
use Rattle.beam_code.specs.FlowParts.{falls_as}
use Rattle.beam_code.specs.Seen.{opcode_seen}
use Rattle.beam_code.specs.Slots.{state_of}
use Rattle.slot_kinds.specs.Tables.{Refuses}
use Rattle.slot_kinds.specs.Walks.{KeepsFrom, GoesOn, Passes}
use Rattle.slot_kinds.proofs.AnswerLaw.{handed-on}
use Rattle.slot_kinds.proofs.GoesLaw.{goes-none}
use Rattle.slot_kinds.proofs.TableLaw.{opcode-at}
use Rattle.slot_kinds.proofs.WalkLaw.{walk-more, walk-ends, walk-refused, walk-label, walk-past}
use Rattle.std.proofs.Common.{◌≡◌, ◌∙◌, ℕ, Bool, drop, refl, sym, ap}
use Rattle.beam_code.specs.Labels.{defined_by, labels_named}
use Rattle.slot_kinds.specs.Tags.{AreKnown, IsKnownIf}
use Rattle.slot_kinds.specs.Tables.{known}
use Rattle.slot_kinds.proofs.TagsLaw.{names-at, known-label}
use Rattle.slot_kinds.proofs.GoesLaw.{same-known}
use Rattle.slot_kinds.proofs.walk.walk.Goals as goal

pub loop-instr-init : goal.loop-instr-init
loop-instr-init c = record { goes = goes-none (KeepsFrom (map opcode c.args.code.now) (Some (state_of c.args.from))) c.args.table.now; tags = c.requires.tags_known }

pub returns-in-Some : goal.returns-in-Some
returns-in-Some c =
    walk-label (map opcode c.args.code.now) c.loop-instr.instr-index (opcode_seen c.opcode-opcode.result) c.in-Some.label (state_of c.args.from) (state_of c.loop-instr.state) c.args.table.now c.loop-instr.table c.reach.new.self c.reach.result
    (omega (arith, length-map c.args.code.now opcode)) (opcode-at c.args.code.now c.loop-instr.instr-index c.instr-item.result _ c.loop-instr-test.true c.instr-item.is c.opcode-opcode.ensures)
    c.in-Some.ensures c.loop-instr.invariant.goes c.reach.ensures

pub loop-instr-preserved : goal.loop-instr-preserved
loop-instr-preserved c =
    let passed : Passes (opcode_seen c.opcode-opcode.result) (state_of c.loop-instr.state) (Some (state_of c.pass.new.state)) c.loop-instr.table c.pass.new.table =
    subst (λ b. Passes (opcode_seen c.opcode-opcode.result) (state_of c.loop-instr.state) (falls_as b (state_of c.pass.new.state)) c.loop-instr.table c.pass.new.table) c.in-Ok-true.field-0-test c.in-Ok-true.ensures in
    record {
      goes = walk-more (map opcode c.args.code.now) c.loop-instr.instr-index (opcode_seen c.opcode-opcode.result) (state_of c.args.from) (state_of c.loop-instr.state) (Some (state_of c.pass.new.state)) c.args.table.now c.loop-instr.table c.pass.new.table
          (omega (arith, length-map c.args.code.now opcode)) (opcode-at c.args.code.now c.loop-instr.instr-index c.instr-item.result _ c.loop-instr-test.true c.instr-item.is c.opcode-opcode.ensures)
          c.in_default.ensures c.loop-instr.invariant.goes passed;
      tags = passed.tags (state_of c.pass.new.state) refl;
    }

pub reach-requires : goal.reach-requires
reach-requires c =
    let same : known c.loop-instr.table ≡ known c.args.table.now =
    same-known (KeepsFrom (map opcode c.args.code.now) (Some (state_of c.args.from))) (KeepsFrom (drop c.loop-instr.instr-index (map opcode c.args.code.now)) (Some (state_of c.loop-instr.state))) c.args.table.now c.loop-instr.table c.loop-instr.invariant.goes in
    let names : IsKnownIf (known c.args.table.now) (defined_by (opcode_seen c.opcode-opcode.result)) × AreKnown (known c.args.table.now) (labels_named (opcode_seen c.opcode-opcode.result)) =
    names-at (known c.args.table.now) (map opcode c.args.code.now) c.loop-instr.instr-index (opcode_seen c.opcode-opcode.result) (omega (arith, length-map c.args.code.now opcode))
    (opcode-at c.args.code.now c.loop-instr.instr-index c.instr-item.result _ c.loop-instr-test.true c.instr-item.is c.opcode-opcode.ensures) c.requires.names_known in
    record {
      label_known = ap (λ (q : ℕ → Bool). q c.in-Some.label) same ∙ known-label (known c.args.table.now) (defined_by (opcode_seen c.opcode-opcode.result)) c.in-Some.label c.in-Some.ensures names.0;
      tags_known = c.loop-instr.invariant.tags;
    }

pub pass-requires : goal.pass-requires
pass-requires c =
    let same : known c.loop-instr.table ≡ known c.args.table.now =
    same-known (KeepsFrom (map opcode c.args.code.now) (Some (state_of c.args.from))) (KeepsFrom (drop c.loop-instr.instr-index (map opcode c.args.code.now)) (Some (state_of c.loop-instr.state))) c.args.table.now c.loop-instr.table c.loop-instr.invariant.goes in
    let names : IsKnownIf (known c.args.table.now) (defined_by (opcode_seen c.opcode-opcode.result)) × AreKnown (known c.args.table.now) (labels_named (opcode_seen c.opcode-opcode.result)) =
    names-at (known c.args.table.now) (map opcode c.args.code.now) c.loop-instr.instr-index (opcode_seen c.opcode-opcode.result) (omega (arith, length-map c.args.code.now opcode))
    (opcode-at c.args.code.now c.loop-instr.instr-index c.instr-item.result _ c.loop-instr-test.true c.instr-item.is c.opcode-opcode.ensures) c.requires.names_known in
    record {
      names_known = subst (λ q. AreKnown q (labels_named (opcode_seen c.opcode-opcode.result))) (sym same) names.1;
      tags_known = c.loop-instr.invariant.tags;
    }

pub returns-in-Ok-false : goal.returns-in-Ok-false
returns-in-Ok-false c =
    walk-ends (map opcode c.args.code.now) c.loop-instr.instr-index (opcode_seen c.opcode-opcode.result) (state_of c.args.from) (state_of c.loop-instr.state) c.args.table.now c.loop-instr.table c.pass.new.table
    (omega (arith, length-map c.args.code.now opcode)) (opcode-at c.args.code.now c.loop-instr.instr-index c.instr-item.result _ c.loop-instr-test.true c.instr-item.is c.opcode-opcode.ensures)
    c.in_default.ensures c.loop-instr.invariant.goes
    (subst (λ b. Passes (opcode_seen c.opcode-opcode.result) (state_of c.loop-instr.state) (falls_as b (state_of c.pass.new.state)) c.loop-instr.table c.pass.new.table) c.in-Ok-false.field-0-test c.in-Ok-false.ensures)

pub returns-in-Err : goal.returns-in-Err
returns-in-Err c =
    handed-on (Refuses (GoesOn (opcode_seen c.opcode-opcode.result) (state_of c.loop-instr.state)) c.loop-instr.table) (Refuses (KeepsFrom (map opcode c.args.code.now) (Some (state_of c.args.from))) c.args.table.now) _
    (walk-refused (map opcode c.args.code.now) c.loop-instr.instr-index (opcode_seen c.opcode-opcode.result) (state_of c.args.from) (state_of c.loop-instr.state) c.args.table.now c.loop-instr.table
    (omega (arith, length-map c.args.code.now opcode)) (opcode-at c.args.code.now c.loop-instr.instr-index c.instr-item.result _ c.loop-instr-test.true c.instr-item.is c.opcode-opcode.ensures)
    c.in_default.ensures c.loop-instr.invariant.goes) c.in-Err.ensures

pub returns : goal.returns
returns c =
    walk-past (map opcode c.args.code.now) c.loop-instr.instr-index (state_of c.args.from) (state_of c.loop-instr.state) c.args.table.now c.loop-instr.table (omega (arith, length-map c.args.code.now opcode)) c.loop-instr.invariant.goes
