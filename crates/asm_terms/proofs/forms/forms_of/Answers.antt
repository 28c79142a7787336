use Rattle.std.proofs.Common.{◌≡◌, sym, subst, length, rules}
use Rattle.std.specs.declared.alloc.Global.{Global}
use Rattle.std.specs.Str.{chars}
use Rattle.asm_terms.specs.Forms.{IsForm}
use Rattle.asm_terms.proofs.FormsRead.{BeginsWith, one_form_more, all_forms, fault_behind, early, is_shorter}
use Rattle.asm_terms.proofs.forms.forms_of.Goals as goal

pub returns-in_err-form : goal.returns-in_err-form
returns-in_err-form c =
    let n : c.len.result ≡ length c.loop-reader.forms.items = search rules in
    early Global (chars c.args.text.now) c.from_residual.result c.in_err-form.field-0.0 c.from_residual.ensures.1
    (fault_behind Global (chars c.args.text.now) c.loop-reader.forms.items c.loop-reader.reader c.len.result c.in_err-form.field-0.0 c.form_of.new.reader
    c.loop-reader.invariant c.loop-reader-test.ensures n c.in_err-form.ensures)

pub loop-reader-smaller : goal.loop-reader-smaller
loop-reader-smaller c =
    let f : IsForm c.loop-reader.reader c.in_ok-form.form c.form_of.new.reader = c.in_ok-form.ensures in
    is_shorter c.loop-reader.reader c.in_ok-form.form c.form_of.new.reader f

pub loop-reader-preserved : goal.loop-reader-preserved
loop-reader-preserved c =
    subst (λ forms. BeginsWith (chars c.args.text.now) forms c.form_of.new.reader) (sym c.in_ok-push.ensures)
    (one_form_more (chars c.args.text.now) c.loop-reader.forms.items c.in_ok-form.form c.loop-reader.reader c.form_of.new.reader
    c.loop-reader.invariant c.loop-reader-test.ensures c.in_ok-form.ensures)

pub returns : goal.returns
returns c = all_forms (chars c.args.text.now) c.loop-reader.forms.items c.loop-reader.reader c.loop-reader.invariant c.loop-reader-test.ensures
