use Rattle.std.proofs.Common.{◌||◌, false, nat_eq, map, ap, ◌∙◌}
use Rattle.std.specs.List.{list_any}
use Rattle.indexmap.specs.IndexSet.{contains}
use Rattle.beam_code.specs.Code.{opcode}
use Rattle.beam_code.specs.Seen.{opcode_seen}
use Rattle.slot_kinds.specs.Walked.{makes_entry}
use Rattle.slot_kinds.proofs.Walking.{entries-all}
use Rattle.slot_kinds.proofs.function.entry_labels.Goals as goal

pub returns : goal.returns
returns c at label =
    entries-all at (opcode c.in-Some.first.now) (map opcode c.in-Some.rest.now) (map opcode c.args.code.now) (contains nat_eq c.add_entries.new.entries) (contains nat_eq c.add_all.new.entries)
    (ap (map opcode) c.in-Some.ensures.cases.0)
    (λ q.
    c.in_ok-add_entries.ensures q
    ∙ ap (λ ks. list_any (nat_eq q) ks || makes_entry (contains nat_eq c.new-passed.result) (opcode_seen c.opcode.result) q) c.new-entries.ensures.empty
    ∙ ap (λ ks. makes_entry (λ p. list_any (nat_eq p) ks) (opcode_seen c.opcode.result) q) c.new-passed.ensures.empty
    ∙ ap (λ o. makes_entry (λ p. false) o q) c.opcode.ensures)
    c.in_ok-add_all.ensures
    label
