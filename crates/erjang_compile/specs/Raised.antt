-- The fault of a source that a fault of a check becomes.
use Rattle.asm_terms.specs.declared.fault.TextFault.{TextFault}
use Rattle.asm_terms.specs.declared.fault.TextFault.TheVariants as text_fault
use Rattle.asm_module.specs.declared.fault.FormFault.{FormFault}
use Rattle.asm_module.specs.declared.fault.FormFault.TheVariants as form_fault
use Rattle.label_check.specs.declared.fault.LabelFault.{LabelFault}
use Rattle.label_check.specs.declared.fault.LabelFault.TheVariants as label_fault
use Rattle.erjang_compile.specs.declared.fault.SourceFault.{SourceFault}
use Rattle.erjang_compile.specs.declared.fault.SourceFault.TheVariants.{Text, Form, Label, NoMemory}

abbrev pub of_text : TextFault → SourceFault
of_text text_fault.NoMemory = NoMemory
of_text f = Text f

abbrev pub of_forms : FormFault → SourceFault
of_forms form_fault.NoMemory = NoMemory
of_forms f = Form f

abbrev pub of_labels : LabelFault → SourceFault
of_labels label_fault.NoMemory = NoMemory
of_labels f = Label f
