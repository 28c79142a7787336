use Rattle.std.proofs.Common.{◌≡◌, ℕ, List, map, take}
use Rattle.std.specs.List.{list_any}
use Rattle.std.specs.Str.{bytes_eq}
use Rattle.jvm_code.specs.Instruction.{spells}
use Rattle.class_verifier.proofs.links.method_names.Given as goal

abbrev pub invariant-loop-method : goal.invariant-loop-method
invariant-loop-method l =
    (name : List ℕ) → list_any (bytes_eq name) (map (λ n. n.now) l.names.keys) ≡ list_any (λ m. spells l.pool m.name name) (take l.method-index l.methods)
