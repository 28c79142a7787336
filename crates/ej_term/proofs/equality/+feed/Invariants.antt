use Rattle.std.proofs.Common.{◌≡◌, drop}
use Rattle.std.specs.Prelude.{fold}
use Rattle.std.specs.List.{flat_map}
use Rattle.ej_term.specs.Hashed.{fed_pair, fed_term}
use Rattle.ej_term.proofs.equality.+feed.Given as goal

abbrev pub invariant-feed_all-loop-term : goal.invariant-feed_all-loop-term
invariant-feed_all-loop-term g l =
    fold g.H.Hasher.write l.state (flat_map fed_term (drop l.term-index l.terms)) ≡ fold g.H.Hasher.write l.initial.state (flat_map fed_term l.terms)

abbrev pub invariant-feed_pairs-loop-key : goal.invariant-feed_pairs-loop-key
invariant-feed_pairs-loop-key g l =
    fold g.H.Hasher.write l.state (flat_map fed_pair (drop l.key-index l.pairs)) ≡ fold g.H.Hasher.write l.initial.state (flat_map fed_pair l.pairs)
