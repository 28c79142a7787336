use Rattle.std.proofs.Common.{◌∙◌}
use Rattle.class_verifier.proofs.NameSets.{has_name}
use Rattle.class_verifier.proofs.links.has_name.Goals as goal

pub returns : goal.returns
returns c = c.contains.ensures ∙ has_name c.args.names.now.keys c.args.name.now
