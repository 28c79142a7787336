use Rattle.asm_module.proofs.fault.FormFaultDisplay.fmt.Goals as goal

pub returns-in-OutsideProfile-clause-writes : goal.returns-in-OutsideProfile-clause-writes
returns-in-OutsideProfile-clause-writes g c =
    let written = rw c.as_str-name.ensures.bytes at c.write-in-OutsideProfile.ensures.writes in
    rw c.in-OutsideProfile.is written
