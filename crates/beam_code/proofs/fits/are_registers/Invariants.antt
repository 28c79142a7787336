use Rattle.std.proofs.Common.{◌≡◌, drop}
use Rattle.std.specs.List.{list_all}
use Rattle.beam_code.specs.RowFits.{is_register}
use Rattle.beam_code.proofs.fits.are_registers.Given as goal

abbrev pub invariant-loop-register : goal.invariant-loop-register
invariant-loop-register l = list_all is_register (drop l.register-index l.registers) ≡ list_all is_register l.registers
