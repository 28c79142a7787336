use Rattle.class_verifier.proofs.NameSets.{found}
use Rattle.class_verifier.proofs.links.add_name.Goals as goal

pub returns : goal.returns
returns c other = found c.args.names.now.keys c.insert.new.self.keys c.args.name other c.in_ok-insert.ensures.keys
