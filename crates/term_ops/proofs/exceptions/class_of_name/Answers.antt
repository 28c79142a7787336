use Rattle.std.proofs.Common.{ap, sym, ◌∙◌}
use Rattle.term_ops.specs.Parts.{class_of_name}
use Rattle.term_ops.proofs.ExceptionClasses.{class_of_characters, no_class}
use Rattle.term_ops.proofs.exceptions.class_of_name.Goals as goal

pub returns-in-error : goal.returns-in-error
returns-in-error c = sym (class_of_characters c.args.name.now c.utf8.name ∙ ap class_of_name c.in-error.is)

pub returns-in-exit : goal.returns-in-exit
returns-in-exit c = sym (class_of_characters c.args.name.now c.utf8.name ∙ ap class_of_name c.in-exit.is)

pub returns-in-throw : goal.returns-in-throw
returns-in-throw c = sym (class_of_characters c.args.name.now c.utf8.name ∙ ap class_of_name c.in-throw.is)

pub returns-in_default : goal.returns-in_default
returns-in_default c = sym (class_of_characters c.args.name.now c.utf8.name ∙ no_class c.args.name.now c.in_default.not-error c.in_default.not-exit c.in_default.not-throw)
