use Rattle.class_file.proofs.NameSets.{put}
use Rattle.class_file.proofs.methods.add_name.Goals as goal

pub returns : goal.returns
returns c = put c.args.names.now.keys c.insert.new.self.keys c.args.name c.requires c.in_ok-insert.ensures.keys
