-- The words of the answers on maps are their characters.
use Rattle.std.proofs.Common.{◌≡◌, ℕ, List, codes, refl, subst}
use Rattle.std.specs.Str.{chars}
use Rattle.ej_term.specs.Term.{Atom}
use Rattle.term_heap.specs.declared.cell.TermId.{TermId}
use Rattle.term_heap.specs.declared.heap.Heap.{Heap}
use Rattle.term_heap.specs.View.{Stands}

pub badmap_characters : chars (codes "badmap") ≡ codes "badmap"
unfolding chars
badmap_characters = refl

pub badkey_characters : chars (codes "badkey") ≡ codes "badkey"
unfolding chars
badkey_characters = refl

pub ok_characters : chars (codes "ok") ≡ codes "ok"
unfolding chars
ok_characters = refl

pub error_characters : chars (codes "error") ≡ codes "error"
unfolding chars
error_characters = refl

pub ruleset map_words = (badmap_characters, badkey_characters, ok_characters, error_characters)

pub ok_stands : (heap : Heap) (id : TermId) → Stands heap id (Atom (chars (codes "ok"))) → Stands heap id (Atom (codes "ok"))
ok_stands heap id is = subst (λ (cs : List ℕ). Stands heap id (Atom cs)) ok_characters is
