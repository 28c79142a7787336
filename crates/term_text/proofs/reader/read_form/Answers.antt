use Rattle.std.proofs.Common.{◌≡◌, true}
use Rattle.ej_term.specs.AsmValue.{has_opaque}
use Rattle.term_text.proofs.Reading.{opaque-no-print, reads-checked}
use Rattle.term_text.proofs.reader.read_form.Goals as goal

pub returns-in-Ok-clause-reads : goal.returns-in-Ok-clause-reads
returns-in-Ok-clause-reads c = reads-checked c.load.new.self c.args.bytes.now c.args.form.now c.in-Ok.id c.checked.result c.requires c.in-Ok.ensures.loads c.checked.ensures

pub returns-in-Err-Opaque-clause-reads : goal.returns-in-Err-Opaque-clause-reads
returns-in-Err-Opaque-clause-reads c =
    let is : has_opaque c.args.form.now ≡ true = rw c.in-Err-Opaque.field-0-is at c.in-Err-Opaque.ensures.loads in
    opaque-no-print c.args.bytes.now c.args.form.now c.requires is
