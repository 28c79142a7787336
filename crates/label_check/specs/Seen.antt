-- What the check's own values stand for.
use Rattle.std.specs.Prelude.{nat_eq}
use Rattle.indexmap.specs.IndexSet.{contains}
use Rattle.indexmap.specs.IndexMap.{get}
use Rattle.beam_code.specs.Labels as labels
use Rattle.label_check.specs.declared.scope.Scope.{Scope}

abbrev pub seen_scope : Scope → labels.Scope
seen_scope s = record { is_own = contains nat_eq s.own.now; arity = get nat_eq s.entries.now }
