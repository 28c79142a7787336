use Rattle.std.proofs.Common.{rules}
use Rattle.stack_maps.proofs.Spelled.{spelled, alone}
use Rattle.stack_maps.proofs.spelling.encode.Goals as goal

pub returns-clause-are : goal.returns-clause-are
returns-clause-are c = spelled c.args.classes.now c.args.frames.now c.push_frames.new.out.items c.requires.few c.requires.fit c.in_ok-push_frames.ensures.fits c.in_ok-push_frames.ensures.within (search rules)

pub returns-clause-alone : goal.returns-clause-alone
returns-clause-alone c = λ pool h others i. alone pool c.push_frames.new.out.items c.args.frames.now others (returns-clause-are c pool h) i
