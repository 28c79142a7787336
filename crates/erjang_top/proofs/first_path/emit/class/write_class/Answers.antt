use Rattle.erjang_top.proofs.FirstPath.ClassSteps.{class-written}
use Rattle.erjang_top.proofs.first_path.emit.class.write_class.Goals as goal

pub returns : goal.returns
returns c =
    class-written c.args.source.now c.new-out.result.items c.push_version.new.out.items c.push_pool.new.out.items c.push_names.new.out.items c.push_functions.new.out.items c.push_u2.new.out.items
    c.new-out.ensures.items c.in_ok-push_version.ensures c.in_ok-push_pool.ensures c.in_ok-push_names.ensures c.in_ok-push_functions.ensures c.in_ok-push_u2.ensures
