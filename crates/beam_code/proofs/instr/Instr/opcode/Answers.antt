use Rattle.beam_code.proofs.Known.{unknown}
use Rattle.beam_code.proofs.instr.Instr.opcode.Goals as goal

pub unreachable-requires : goal.unreachable-requires
unreachable-requires c =
    unknown c.args.self.now.row c.args.self.now.operands c.as_slice.result.now c.decoded_row.result c.args.self.now.fits_row c.as_slice.ensures c.decoded_row.ensures c.in-None.is
