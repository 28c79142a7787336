-- Maps with a key more or less, and maps of entries.
use Rattle.std.proofs.Common.{◌≡◌, ℕ, suc, ◌+◌, ◌<◌, List, [], ◌∷◌, ◌++◌, length, drop, get_or, Option, Some, option_map, option_and_then, refl, sym, ap, subst, ◌∙◌, arith, drop-cons}
use Rattle.std.specs.Prelude as std
use Rattle.std.proofs.lemmas.List.{map-append, append_assoc}
use Rattle.std.proofs.lemmas.List.Elements.{All-nil, All-cons, All-append}
use Rattle.ej_term.specs.Term.{Term, Map, Pairs}
use Rattle.ej_term.specs.Outcome.{Value}
use Rattle.ej_term.specs.Maps.{put, put_each, entries, entries_of, entry, on_map, maps_put, maps_remove, maps_merge}
use Rattle.ej_term.specs.Maps as maps
use Rattle.term_heap.specs.Cells.{from_entries}
use Rattle.term_heap.specs.Entries.{HoldsEntry, HoldsEntries, entry_of, entries_at}
use Rattle.term_heap.specs.declared.cell.TermId.{TermId}
use Rattle.term_heap.specs.declared.heap.Heap.{Heap}
use Rattle.term_heap.specs.View.{Stands, term_of}
use Rattle.term_heap.specs.Held.{terms_at}
use Rattle.term_heap.proofs.Putting.{entries-from}
use Rattle.term_ops.specs.Answers.{Gives}
use Rattle.term_ops.specs.declared.answer.PureAnswer.TheVariants as a
use Rattle.term_ops.proofs.MapsAnswers.{gives-on-map}

pub gives-put : (new : Heap) (made : TermId) (key value t : Term) (ps : Pairs) → t ≡ Map ps → Stands new made (Map (put key value ps)) → Gives new (a.Value made) (maps_put key value t)
gives-put new made key value t ps is stands = gives-on-map new (a.Value made) t ps (λ ps. Value (Map (put key value ps))) is stands

pub gives-removed : (new : Heap) (made : TermId) (key t : Term) (ps : Pairs) → t ≡ Map ps → Stands new made (Map (maps.remove key ps)) → Gives new (a.Value made) (maps_remove key t)
gives-removed new made key t ps is stands = gives-on-map new (a.Value made) t ps (λ ps. Value (Map (maps.remove key ps))) is stands

-- nothing to remove
pub gives-same : (heap : Heap) (made : TermId) (key t : Term) (ps : Pairs) → t ≡ Map ps → maps.remove key ps ≡ ps → Stands heap made t → Gives heap (a.Value made) (maps_remove key t)
gives-same heap made key t ps is none stands = gives-removed heap made key t ps is (subst (Stands heap made) (is ∙ ap Map (sym none)) stands)

pub gives-merged : (new : Heap) (made : TermId) (t u : Term) (ps : Pairs) (es : List (Term × Term)) → t ≡ Map ps → u ≡ Map (from_entries es) → Stands new made (Map (put_each ps es)) → Gives new (a.Value made) (maps_merge t u)
gives-merged new made t u ps es is other stands =
    gives-on-map new (a.Value made) t ps (λ ps. on_map (λ qs. Value (Map (put_each ps (entries qs)))) u) is
    (gives-on-map new (a.Value made) u (from_entries es) (λ qs. Value (Map (put_each ps (entries qs)))) other
    (subst (λ (zs : List (Term × Term)). Stands new made (Map (put_each ps zs))) (sym (entries-from es)) stands))

-- one more entry of a list
pub entries-next : (heap : Heap) (ids : List TermId) (es more : List (TermId × TermId)) (k : ℕ) (d : TermId) (e : TermId × TermId) (all : Option (List (Term × Term))) → k < length ids
    → Some (entry_of heap e) ≡ entry (term_of heap (get_or ids k d)) → HoldsEntry heap e → HoldsEntries heap es → more ≡ es ++ e ∷ []
    → option_map (◌++◌ (entries_at heap es)) (entries_of (terms_at heap (drop k ids))) ≡ all
    → HoldsEntries heap more × (option_map (◌++◌ (entries_at heap more)) (entries_of (terms_at heap (drop (k + 1) ids))) ≡ all)
entries-next heap ids es more k d e all within is held so_held grown so_far =
    let next : suc k ≡ k + 1 = omega arith in (
      subst (λ (zs : List (TermId × TermId)). HoldsEntries heap zs) (sym grown) (All-append (HoldsEntry heap) es (e ∷ []) so_held (All-cons (HoldsEntry heap) e [] held (All-nil (HoldsEntry heap)))),
      ap (λ (zs : List (TermId × TermId)). option_map (◌++◌ (entries_at heap zs)) (entries_of (terms_at heap (drop (k + 1) ids)))) grown
          ∙ ap (λ (zs : List (Term × Term)). option_map (◌++◌ zs) (entries_of (terms_at heap (drop (k + 1) ids)))) (map-append (entry_of heap) es (e ∷ []))
          ∙ sym (joined (entries_at heap es) (entry_of heap e) (entries_of (terms_at heap (drop (k + 1) ids))))
          ∙ ap (λ (o : Option (Term × Term)). option_map (◌++◌ (entries_at heap es)) (option_and_then (λ (x : Term × Term). option_map (◌∷◌ x) (entries_of (terms_at heap (drop (k + 1) ids)))) o)) is
          ∙ ap (λ n. option_map (◌++◌ (entries_at heap es)) (entries_of (term_of heap (get_or ids k d) ∷ terms_at heap (drop n ids)))) (sym next)
          ∙ ap (λ (zs : List TermId). option_map (◌++◌ (entries_at heap es)) (entries_of (terms_at heap zs))) (sym (drop-cons ids k d within))
          ∙ so_far,
    )
  where
    joined : (xs : List (Term × Term)) (x : Term × Term) (o : Option (List (Term × Term))) → option_map (◌++◌ xs) (option_map (◌∷◌ x) o) ≡ option_map (◌++◌ (xs ++ x ∷ [])) o
    joined xs x std.None = refl
    joined xs x (Some ys) = ap Some (sym (append_assoc xs (x ∷ []) ys))

-- pairs of two lists
