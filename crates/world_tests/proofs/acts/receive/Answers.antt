use Rattle.world_tests.proofs.ActsLaw.{receives-message, receives-nothing}
use Rattle.world_tests.proofs.acts.receive.Goals as goal

pub returns-in-Some : goal.returns-in-Some
returns-in-Some c =
    receives-message c.args.view.now c.tell.new.view c.tell.result c.take-message.new.self c.take-message.result c.in-Some.message c.take-message.ensures.message c.take-message.ensures.left c.in-Some.is c.tell.ensures

pub returns-in-None : goal.returns-in-None
returns-in-None c = receives-nothing c.args.view.now c.take-message.new.self c.take-message.result c.take-message.ensures.message c.take-message.ensures.left c.in-None.is
