use Rattle.std.proofs.Common.{ap, ◌∙◌, map, List, ℕ}
use Rattle.std.specs.List.{list_any}
use Rattle.std.specs.Str.{bytes_eq}
use Rattle.jvm_code.specs.Reader.{read_as}
use Rattle.jvm_code.specs.ReadClass as spec
use Rattle.class_file.proofs.MethodsRead.{behind_front, gave_all}
use Rattle.class_file.proofs.methods.method.Goals as goal

pub returns-clause-read : goal.returns-clause-read
returns-clause-read c =
    let before : List (List ℕ) = map (λ k. k.now) c.args.names.now.keys in
    gave_all (read_as (spec.method_of c.in_ok-flags.flags c.in_ok-name.name c.in_ok-descriptor.descriptor) (spec.attribute c.args.pool.now) c.descriptor.new.source.at c.descriptor.new.source.rest) _
    c.method_of.result c.method_of.new.source
    (behind_front c.args.pool.now before c.args.source.now.at c.args.source.now.rest c.in_ok-flags.flags c.flags.new.source.at c.flags.new.source.rest c.in_ok-name.name c.name.new.source.at c.name.new.source.rest
    c.is_taken-taken.result c.in_ok-descriptor.descriptor c.descriptor.new.source.at c.descriptor.new.source.rest
    c.in_ok-flags.ensures c.in_ok-name.ensures (c.is_taken-taken.ensures ∙ ap (λ t. list_any (bytes_eq t) before) c.name_of-text.ensures) c.in_ok-descriptor.ensures.read)
    c.method_of.ensures.read
