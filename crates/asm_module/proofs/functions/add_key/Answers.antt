use Rattle.asm_module.proofs.KeySets.{told, put}
use Rattle.asm_module.proofs.functions.add_key.Goals as goal

pub returns-clause-told : goal.returns-clause-told
returns-clause-told c = told c.args.keys.now.keys c.args.key _ c.in_ok-insert.ensures.added

pub returns-clause-put : goal.returns-clause-put
returns-clause-put c = put c.args.keys.now.keys c.insert.new.self.keys c.args.key _ c.in_ok-insert.ensures.added c.in_ok-insert.ensures.keys
