use Rattle.stack_maps.proofs.FramesLaw.{one_list}
use Rattle.stack_maps.proofs.laws.bytes_have_one_list_of_frames.Goals as goal

pub returns : goal.returns
returns c = one_list
