-- What is looked up in a map of a heap.
use Rattle.std.proofs.Common.{◌≡◌, suc, false, List, [], ◌∷◌, length, Option, Some, is_some, refl, ap, ◌∙◌, true≢false}
use Rattle.std.specs.Prelude as std
use Rattle.std.proofs.lemmas.List.{length-map}
use Rattle.ej_term.specs.Term.{Term, Map, Pairs}
use Rattle.ej_term.specs.Order.{count}
use Rattle.ej_term.specs.Outcome.{Outcome, Value, boolean, number}
use Rattle.ej_term.specs.Tests.{is_map}
use Rattle.ej_term.specs.Maps.{value_at, on_map, badmap, or_badkey, found, map_size, map_get, is_map_key, maps_find}
use Rattle.term_heap.specs.Cells.{from_entries}
use Rattle.term_heap.specs.Entries.{entry_of, entries_at}
use Rattle.term_heap.specs.declared.cell.TermId.{TermId}
use Rattle.term_heap.specs.declared.heap.Heap.{Heap}
use Rattle.term_ops.specs.Lookups.{looked_up}

-- what a function of the value at a key gives, by what was looked up
abbrev pub on_lookup : (Option Term → Outcome) → Term → Option (Option Term) → Outcome
on_lookup f term (Some found) = f found
on_lookup f term std.None = badmap term

pub on-looked-up : (f : Option Term → Outcome) (key t : Term) → on_map (λ ps. f (value_at key ps)) t ≡ on_lookup f t (looked_up key t)
on-looked-up f key (Map ps) = refl
on-looked-up f key t = refl

pub map_get_is : (key t : Term) → map_get key t ≡ on_lookup (or_badkey key) t (looked_up key t)
map_get_is key t = on-looked-up (or_badkey key) key t

pub is_map_key_is : (key t : Term) → is_map_key key t ≡ on_lookup (λ o. Value (boolean (is_some o))) t (looked_up key t)
is_map_key_is key t = on-looked-up (λ o. Value (boolean (is_some o))) key t

pub maps_find_is : (key t : Term) → maps_find key t ≡ on_lookup (λ o. Value (found o)) t (looked_up key t)
maps_find_is key t = on-looked-up (λ o. Value (found o)) key t

-- what is looked up in a map
pub looked-up-in : (key t : Term) (ps : Pairs) → t ≡ Map ps → looked_up key t ≡ Some (value_at key ps)
looked-up-in key t ps is = ap (looked_up key) is

pub not-looked-up : (key t : Term) → is_map t ≡ false → looked_up key t ≡ std.None
not-looked-up key (Map ps) e = absurd (true≢false e)
not-looked-up key t e = refl

-- a function of the map's pairs
pub on-pairs : (t : Term) (ps : Pairs) (f : Pairs → Outcome) → t ≡ Map ps → on_map f t ≡ f ps
on-pairs t ps f is = ap (on_map f) is

pub off-pairs : (t : Term) (f : Pairs → Outcome) → is_map t ≡ false → on_map f t ≡ badmap t
off-pairs (Map ps) f e = absurd (true≢false e)
off-pairs t f e = refl

count-of : (es : List (Term × Term)) → count (from_entries es) ≡ length es
count-of [] = refl
count-of (e ∷ es) = ap suc (count-of es)

pub size_of_entries : (heap : Heap) (t : Term) (es : List (TermId × TermId)) → t ≡ Map (from_entries (entries_at heap es)) → map_size t ≡ Value (number (length es))
size_of_entries heap t es is = on-pairs t (from_entries (entries_at heap es)) (λ ps. Value (number (count ps))) is ∙ ap (λ n. Value (number n)) (count-of (entries_at heap es) ∙ length-map es (entry_of heap))
