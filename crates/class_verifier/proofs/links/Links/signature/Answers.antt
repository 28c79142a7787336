use Rattle.class_verifier.proofs.LinksFound.{found, linked}
use Rattle.class_verifier.proofs.links.Links.signature.Goals as goal

pub returns-clause-signature : goal.returns-clause-signature
returns-clause-signature c class are = found class c.args.self.now.signatures.items c.args.index c.found.result are c.found.ensures

pub returns-clause-linked : goal.returns-clause-linked
returns-clause-linked c class are = linked class c.args.self.now.signatures.items c.args.index c.found.result are c.found.ensures
