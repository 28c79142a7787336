use Rattle.std.proofs.Common.{◌≡◌, map, take, option_and_then, option_map}
use Rattle.jvm_code.specs.Typing.{signature_of}
use Rattle.class_verifier.specs.Links.{called_in, signature_seen}
use Rattle.class_verifier.proofs.links.Links.of.Given as goal

abbrev pub invariant-loop-entry : goal.invariant-loop-entry
invariant-loop-entry l =
    map (option_map signature_seen) l.signatures.items ≡ map (λ entry. option_and_then signature_of (called_in l.class entry)) (take l.entry-index l.class.pool)
