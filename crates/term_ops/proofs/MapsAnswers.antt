-- Answers on the entries of a map.
use Rattle.std.proofs.Common.{◌≡◌, ℕ, suc, ◌+◌, ◌<◌, List, [], ◌∷◌, ◌++◌, length, map, take, get_or, refl, sym, ap, ap₂, subst, ◌∙◌, arith}
use Rattle.std.specs.Prelude.{IfOk, Result}
use Rattle.std.proofs.lemmas.List.{map-append}
use Rattle.std.proofs.lemmas.List.Elements.{All-nil, All-cons, All-head, All-tail, All-append, All-get_or}
use Rattle.ej_term.specs.Term.{Term, Map, Pairs, list, tuple, atom}
use Rattle.ej_term.specs.Outcome.{Outcome, Value}
use Rattle.ej_term.specs.Maps.{on_map, keys, values, entry_tuples, maps_keys, maps_values, maps_to_list}
use Rattle.term_heap.specs.Cells.{from_entries}
use Rattle.term_heap.specs.Entries.{HoldsEntry, HoldsEntries, entry_of, entries_at}
use Rattle.std.proofs.Math.Seq.{take-suc}
use Rattle.term_heap.specs.declared.cell.TermId.{TermId}
use Rattle.term_heap.specs.declared.heap.Heap.{Heap}
use Rattle.term_heap.specs.View.{Holds, Stands, term_of, Keeps}
use Rattle.term_heap.specs.Held.{HoldsEach, terms_at}
use Rattle.term_ops.specs.Answers.{Gives}
use Rattle.term_ops.specs.declared.answer.PureAnswer.{PureAnswer}
use Rattle.term_ops.specs.declared.answer.PureAnswer.TheVariants as a
use Rattle.term_heap.proofs.Kept.{stands-term, stands-held, kept-term, kept-terms, kept-each, keeps-then}
use Rattle.term_ops.proofs.MapsLookup.{on-pairs}

-- a pair of an atom and what was there
pub pair-made : {E : Type 0} (r : Result TermId E) (old heap new : Heap) (word value : TermId) (cs : List ℕ) → Keeps old heap → Holds old value → Stands heap word (atom cs)
    → IfOk r (λ id. Stands new id (tuple (terms_at heap (word ∷ value ∷ [])))) → IfOk r (λ id. Stands new id (tuple (atom cs ∷ term_of old value ∷ [])))
pair-made r old heap new word value cs keeps holds is made =
    subst (λ (ts : List Term). IfOk r (λ id. Stands new id (tuple ts))) (ap₂ (λ (x y : Term). x ∷ y ∷ []) (stands-term heap word (atom cs) is) (kept-term old heap value keeps holds)) made

pub gives-on-map : (new : Heap) (answer : PureAnswer) (t : Term) (ps : Pairs) (f : Pairs → Outcome) → t ≡ Map ps → Gives new answer (f ps) → Gives new answer (on_map f t)
gives-on-map new answer t ps f is gives = subst (λ (o : Outcome). Gives new answer o) (sym (on-pairs t ps f is)) gives

keys-of : (es : List (Term × Term)) → keys (from_entries es) ≡ map (λ (e : Term × Term). e.0) es
keys-of [] = refl
keys-of (e ∷ es) = ap (λ (ts : List Term). e.0 ∷ ts) (keys-of es)

values-of : (es : List (Term × Term)) → values (from_entries es) ≡ map (λ (e : Term × Term). e.1) es
values-of [] = refl
values-of (e ∷ es) = ap (λ (ts : List Term). e.1 ∷ ts) (values-of es)

-- the terms of keys and values
key-terms : (heap : Heap) (es : List (TermId × TermId)) → terms_at heap (map (λ (e : TermId × TermId). e.0) es) ≡ keys (from_entries (entries_at heap es))
key-terms heap [] = refl
key-terms heap (e ∷ es) = ap (λ (ts : List Term). term_of heap e.0 ∷ ts) (key-terms heap es)

value-terms : (heap : Heap) (es : List (TermId × TermId)) → terms_at heap (map (λ (e : TermId × TermId). e.1) es) ≡ values (from_entries (entries_at heap es))
value-terms heap [] = refl
value-terms heap (e ∷ es) = ap (λ (ts : List Term). term_of heap e.1 ∷ ts) (value-terms heap es)

pub keys-held : (heap : Heap) (es : List (TermId × TermId)) → HoldsEntries heap es → HoldsEach heap (map (λ (e : TermId × TermId). e.0) es)
keys-held heap [] all = All-nil (Holds heap)
keys-held heap (e ∷ es) all = All-cons (Holds heap) e.0 (map (λ (e : TermId × TermId). e.0) es) (All-head (HoldsEntry heap) e es all).0 (keys-held heap es (All-tail (HoldsEntry heap) e es all))

pub values-held : (heap : Heap) (es : List (TermId × TermId)) → HoldsEntries heap es → HoldsEach heap (map (λ (e : TermId × TermId). e.1) es)
values-held heap [] all = All-nil (Holds heap)
values-held heap (e ∷ es) all = All-cons (Holds heap) e.1 (map (λ (e : TermId × TermId). e.1) es) (All-head (HoldsEntry heap) e es all).1 (values-held heap es (All-tail (HoldsEntry heap) e es all))

pub gives-keys : (heap new : Heap) (made : TermId) (t : Term) (es : List (TermId × TermId)) (ids : List TermId) → t ≡ Map (from_entries (entries_at heap es)) → ids ≡ map (λ (e : TermId × TermId). e.0) es
    → Stands new made (list (terms_at heap ids)) → Gives new (a.Value made) (maps_keys t)
gives-keys heap new made t es ids is are stands =
    gives-on-map new (a.Value made) t (from_entries (entries_at heap es)) (λ ps. Value (list (keys ps))) is
    (subst (λ (ts : List Term). Stands new made (list ts)) (ap (λ (zs : List TermId). terms_at heap zs) are ∙ key-terms heap es) stands)

pub gives-values : (heap new : Heap) (made : TermId) (t : Term) (es : List (TermId × TermId)) (ids : List TermId) → t ≡ Map (from_entries (entries_at heap es)) → ids ≡ map (λ (e : TermId × TermId). e.1) es
    → Stands new made (list (terms_at heap ids)) → Gives new (a.Value made) (maps_values t)
gives-values heap new made t es ids is are stands =
    gives-on-map new (a.Value made) t (from_entries (entries_at heap es)) (λ ps. Value (list (values ps))) is
    (subst (λ (ts : List Term). Stands new made (list ts)) (ap (λ (zs : List TermId). terms_at heap zs) are ∙ value-terms heap es) stands)

pub gives-entries : (heap kept new : Heap) (made : TermId) (t : Term) (es : List (TermId × TermId)) (ids : List TermId) → t ≡ Map (from_entries (entries_at heap es)) → terms_at kept ids ≡ entry_tuples (from_entries (entries_at heap es))
    → Stands new made (list (terms_at kept ids)) → Gives new (a.Value made) (maps_to_list t)
gives-entries heap kept new made t es ids is are stands =
    gives-on-map new (a.Value made) t (from_entries (entries_at heap es)) (λ ps. Value (list (entry_tuples ps))) is (subst (λ (ts : List Term). Stands new made (list ts)) are stands)

entry-next : (es : List (Term × Term)) (e : Term × Term) → entry_tuples (from_entries (es ++ e ∷ [])) ≡ entry_tuples (from_entries es) ++ tuple (e.0 ∷ e.1 ∷ []) ∷ []
entry-next [] e = refl
entry-next (x ∷ es) e = ap (λ (ts : List Term). tuple (x.0 ∷ x.1 ∷ []) ∷ ts) (entry-next es e)

-- one more tuple of a key and its value
pub tuples-next : (start heap new : Heap) (es : List (TermId × TermId)) (tuples more : List TermId) (p : ℕ) (d : TermId × TermId) (made : TermId) → p < length es → HoldsEntries start es → Keeps start heap → Keeps heap new
    → HoldsEach heap tuples → more ≡ tuples ++ made ∷ [] → Stands new made (tuple (terms_at heap ((get_or es p d).0 ∷ (get_or es p d).1 ∷ [])))
    → terms_at heap tuples ≡ entry_tuples (from_entries (entries_at start (take p es)))
    → Keeps start new × HoldsEach new more × (terms_at new more ≡ entry_tuples (from_entries (entries_at start (take (p + 1) es))))
tuples-next start heap new es tuples more p d made within all keeps later held is stands so_far =
    let e = get_or es p d in
    let here = All-get_or (HoldsEntry start) es p d within all in
    let next : suc p ≡ p + 1 = omega arith in
    let last : term_of new made ≡ tuple (term_of start e.0 ∷ term_of start e.1 ∷ []) = stands-term new made _ stands ∙ ap₂ (λ (x y : Term). tuple (x ∷ y ∷ [])) (kept-term start heap e.0 keeps here.0) (kept-term start heap e.1 keeps here.1) in (
      keeps-then start heap new keeps later,
      subst (λ (zs : List TermId). HoldsEach new zs) (sym is) (All-append (Holds new) tuples (made ∷ []) (kept-each heap new tuples later held) (All-cons (Holds new) made [] (stands-held new made _ stands) (All-nil (Holds new)))),
      ap (λ (zs : List TermId). terms_at new zs) is
          ∙ map-append (term_of new) tuples (made ∷ [])
          ∙ ap₂ (λ (xs : List Term) (x : Term). xs ++ x ∷ []) (kept-terms heap new tuples later held ∙ so_far) last
          ∙ sym (entry-next (entries_at start (take p es)) (entry_of start e))
          ∙ ap (λ (zs : List (Term × Term)). entry_tuples (from_entries zs)) (sym (map-append (entry_of start) (take p es) (e ∷ [])))
          ∙ ap (λ (zs : List (TermId × TermId)). entry_tuples (from_entries (entries_at start zs))) (sym (take-suc es p d within) ∙ ap (λ n. take n es) next),
    )
