use Rattle.std.proofs.Common.{◌≡◌, ◌++◌, length, subst}
use Rattle.std.specs.List.{flat_map}
use Rattle.jvm_code.specs.Spelling.{u2, constant_bytes, method_bytes}
use Rattle.class_file.proofs.Pushed.{class_spelled}
use Rattle.class_file.proofs.spelling.spell.Goals as goal

pub returns : goal.returns
returns c =
    class_spelled c.args.class.now c.new-out.result.items c.push_version.new.out.items c.push_pool.new.out.items c.push_three.new.out.items c.push_members.new.out.items
    c.new-out.ensures.items c.in_ok-push_version.ensures
    (subst (λ es. c.push_pool.new.out.items ≡ c.push_version.new.out.items ++ (u2 (length es) ++ flat_map constant_bytes es)) c.as_slice.ensures c.in_ok-push_pool.ensures)
    c.in_ok-push_three.ensures
    (subst (λ ms. c.push_members.new.out.items ≡ c.push_three.new.out.items ++ (u2 0 ++ (u2 0 ++ (u2 (length ms) ++ (flat_map method_bytes ms ++ u2 0))))) c.as_slice-2.ensures c.in_ok-push_members.ensures)
