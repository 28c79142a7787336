-- Maps of a heap and their trees.
use Rattle.std.proofs.Common.{◌≡◌, ℕ, ◌+◌, ◌<◌, Bool, true, ◌&&◌, nat_eq, if◌then◌else◌, List, [], ◌∷◌, ◌++◌, length, map, take, get_or, slice_get, slice_set, insert, remove, Some, option_map, option_and_then, unwrap_or, refl, sym, ap, ap₂, subst, ◌∙◌, zero, suc, arith, is_lt, true≢false, Ordering, Less, Equal, Greater, false}
use Rattle.std.specs.Prelude as std
use Rattle.std.specs.Prelude.{IsSome}
use Rattle.std.specs.List.{All}
use Rattle.std.proofs.lemmas.Bool.{eq-eqb, and_from}
use Rattle.std.proofs.lemmas.Option.{cond_some, slice_get_within, get_or_from_slice_get}
use Rattle.std.proofs.lemmas.List.Elements.{All-nil, All-cons, All-head, All-tail, All-take, All-drop, All-set}
use Rattle.forest.specs.View as forest
use Rattle.forest.specs.View.{lists_in}
use Rattle.forest.specs.declared.tree.Tree.{Tree}
use Rattle.forest.specs.declared.tree.Top.{Top}
use Rattle.forest.specs.declared.forest.Forest.{Forest}
use Rattle.std.proofs.lemmas.List.{map-append, length-map, map-set}
use Rattle.std.proofs.Math.Seq.{take-append_seam, drop-append_seam, take-suc}
use Rattle.indexmap.proofs.SetLemmas.{map-insert, map-remove}
use Rattle.ej_term.specs.Term.{Term, Map, Pairs, Empty, Pair, Nil}
use Rattle.ej_term.specs.Order.{compare}
use Rattle.ej_term.specs.Maps as maps
use Rattle.ej_term.specs.Maps.{put, put_each, rises, is_before}
use Rattle.ej_term.specs.AsmValue.{every}
use Rattle.ej_term.proofs.Options.{chained, first-every}
use Rattle.term_heap.specs.Cells.{from_entries, map_place, number_of, rising, entries_from, entry_terms, map_of}
use Rattle.term_heap.specs.Entries.{Above, Rising, HoldsEntries, entries_at, entry_of}
use Rattle.term_heap.specs.Maps.{listed, pairs_in, IsTree, StandsAt, GoesTo}
use Rattle.term_heap.specs.View.{terms_in, parts_in, term_of}
use Rattle.term_heap.specs.declared.cell.TermId.{TermId}
use Rattle.term_heap.specs.declared.heap.Heap.{Heap}
use Rattle.term_heap.proofs.Made.{IsId, term_at}
use Rattle.term_heap.proofs.Adding.{known, is-known}
use Rattle.term_heap.proofs.Meanings.{both-parts, both-is}
use Rattle.term_heap.proofs.Putting.{above-below, rising-put, put_each-append}
use Rattle.term_heap.proofs.Searching.{rising-front, rising-behind, put-here, put-new, removed-here, removed-rises}
use Rattle.term_heap.proofs.Places.{entries-known}

abbrev pub Ids : Type 0
Ids = TermId × TermId

abbrev pub entry_in : List Term → Ids → Term × Term
entry_in ts e = (term_at ts e.0, term_at ts e.1)

abbrev pub AreIds : List Term → Ids → Type 0
AreIds ts e = IsId ts e.0 × IsId ts e.1

-- ---- keys that rise, by a test and by what it says

before-above : (k : Term) (ps : Pairs) → Above k ps → is_before k ps ≡ true
before-above k Empty a = refl
before-above k (Pair o v rest) a = ap is_lt a.0

both-true : (a b : Bool) → (a && b) ≡ true → (a ≡ true) × (b ≡ true)
both-true true b e = (refl, e)
both-true false b e = absurd (true≢false (sym e))

is-less : (o : Ordering) → is_lt o ≡ true → o ≡ Less
is-less Less e = refl
is-less Equal e = absurd (true≢false (sym e))
is-less Greater e = absurd (true≢false (sym e))

above-before : (k : Term) (ps : Pairs) → is_before k ps ≡ true → Rising ps → Above k ps
above-before k Empty b r = tt
above-before k (Pair o v rest) b r = (is-less (compare k o) b, above-below k o rest (is-less (compare k o) b) r.0)

pub rising-rises : (ps : Pairs) → rises ps ≡ true → Rising ps
rising-rises Empty e = tt
rising-rises (Pair k v rest) e =
    let b = both-true (is_before k rest) (rises rest) e in
    let r = rising-rises rest b.1 in
    (above-before k rest b.0 r, r)

pub rises-rising : (ps : Pairs) → Rising ps → rises ps ≡ true
rises-rising Empty r = refl
rises-rising (Pair k v rest) r = and_from (is_before k rest) (rises rest) (before-above k rest r.0) (rises-rising rest r.1)

-- ---- terms of entries

pub entries-known-by : (ts : List Term) (es : List Ids) → All (AreIds ts) es → every (map (entry_terms ts) es) ≡ Some (map (entry_in ts) es)
entries-known-by ts [] all = refl
entries-known-by ts (e ∷ es) all =
    let h = All-head (AreIds ts) e es all in
    ap (λ o. every (o ∷ map (entry_terms ts) es)) (both-is (λ k v. (k, v)) (slice_get ts e.0.0) (slice_get ts e.1.0) (term_at ts e.0) (term_at ts e.1) (known (slice_get ts e.0.0) Nil h.0) (known (slice_get ts e.1.0) Nil h.1))
    ∙ ap (option_map (◌∷◌ (entry_in ts e))) (entries-known-by ts es (All-tail (AreIds ts) e es all))

pub entries-held-by : (ts : List Term) (es : List Ids) (us : List (Term × Term)) → every (map (entry_terms ts) es) ≡ Some us → All (AreIds ts) es × (us ≡ map (entry_in ts) es)
entries-held-by ts [] us e = (All-nil (AreIds ts), ap (λ o. unwrap_or o us) (sym e))
entries-held-by ts (x ∷ es) us e =
    let f = first-every (entry_terms ts x) _ us e in
    let b = both-parts (λ k v. (k, v)) (slice_get ts x.0.0) (slice_get ts x.1.0) f.0 f.2 in
    let more = entries-held-by ts es f.1 f.3 in
    let k : term_at ts x.0 ≡ b.0 = ap (λ o. unwrap_or o Nil) b.2 in
    let v : term_at ts x.1 ≡ b.1 = ap (λ o. unwrap_or o Nil) b.3 in
    let here : entry_in ts x ≡ f.0 = ap₂ (λ (p q : Term). (p, q)) k v ∙ b.4 in
    (All-cons (AreIds ts) x es (is-known (slice_get ts x.0.0) b.0 b.2, is-known (slice_get ts x.1.0) b.1 b.3) more.0, sym f.4 ∙ ap₂ (λ (h : Term × Term) (t : List (Term × Term)). h ∷ t) (sym here) more.1)

-- ---- a map's cell and its tree

at-number : (n : ℕ) → number_of (map_place n) ≡ n
at-number n = omega arith

listed-at : (heap : Heap) (tree : Tree) → forest.Holds heap.maps tree → slice_get (lists_in heap.maps) tree.number ≡ Some (listed heap tree)
listed-at heap tree h = there (lists_in heap.maps) tree.number h
  where
    there : (xs : List (List Ids)) (n : ℕ) → n < length xs → slice_get xs n ≡ Some (std.slice_index_or xs n [])
    there [] n h = absurd (omega (arith, h))
    there (x ∷ xs) zero h = refl
    there (x ∷ xs) (suc n) h = there xs n (omega (arith, h))

pub tree-cell : (heap : Heap) (tree : Tree) (place count : ℕ) → IsTree heap tree → place ≡ map_place tree.number → count ≡ length (listed heap tree)
    → option_and_then (map_of (terms_in heap)) (entries_from (parts_in heap) place count) ≡ Some (Map (pairs_in heap tree))
tree-cell heap tree place count is at long =
    let es = listed heap tree in
    let test : nat_eq place (map_place (number_of place)) && nat_eq count (length es) ≡ true =
    and_from (nat_eq place (map_place (number_of place))) (nat_eq count (length es))
    (eq-eqb place (map_place (number_of place)) (at ∙ ap map_place (sym (at-number tree.number) ∙ ap number_of (sym at)))) (eq-eqb count (length es) long) in
    ap (option_and_then (map_of (terms_in heap)))
    (ap (option_and_then (λ zs. if nat_eq place (map_place (number_of place)) && nat_eq count (length zs) then Some zs else std.None))
    (ap (slice_get (lists_in heap.maps)) (ap number_of at ∙ at-number tree.number) ∙ listed-at heap tree is.held)
    ∙ ap (λ b. if b then Some es else std.None) test)
    ∙ ap (option_and_then (λ ts. rising (from_entries ts))) (entries-known-by (terms_in heap) es is.ids)
    ∙ ap (λ b. if b then Some (Map (pairs_in heap tree)) else std.None) (rises-rising (pairs_in heap tree) is.rises)

pub cell-tree : (heap : Heap) (tree : Tree) (first count : ℕ) (t : Term) → option_and_then (map_of (terms_in heap)) (entries_from (parts_in heap) first count) ≡ Some t → tree.number ≡ number_of first
    → IsTree heap tree × (t ≡ Map (pairs_in heap tree))
cell-tree heap tree first count t e at =
    let f = chained (map_of (terms_in heap)) (entries_from (parts_in heap) first count) t e in
    let g = chained (λ ts. rising (from_entries ts)) (every (map (entry_terms (terms_in heap)) f.0)) t f.2 in
    let c = cond_some (rises (from_entries g.0)) (Map (from_entries g.0)) t g.2 in
    let k = entries-known (parts_in heap) first count f.0 f.1 in
    let here : slice_get (lists_in heap.maps) tree.number ≡ Some f.0 = ap (slice_get (lists_in heap.maps)) at ∙ k.0 in
    let are : listed heap tree ≡ f.0 = get_or_from_slice_get (lists_in heap.maps) tree.number f.0 [] here in
    let h = entries-held-by (terms_in heap) f.0 g.0 g.1 in
    let same : pairs_in heap tree ≡ from_entries g.0 = ap (λ (es : List Ids). from_entries (entries_at heap es)) are ∙ ap from_entries (sym h.1) in (
      record {
        held = slice_get_within (lists_in heap.maps) tree.number f.0 here;
        ids = subst (λ (es : List Ids). All (AreIds (terms_in heap)) es) (sym are) h.0;
        rises = rising-rises (pairs_in heap tree) (ap rises same ∙ c.0);
      },
      sym c.1 ∙ ap Map (sym same),
    )

-- ---- a tree that was added

pub entries-made : (old new : Heap) (tree : Tree) (es : List Ids) → terms_in new ≡ terms_in old → listed new tree ≡ es → entries_at new (listed new tree) ≡ entries_at old es
entries-made old new tree es same are = ap (λ (ts : List Term). map (entry_in ts) (listed new tree)) same ∙ ap (map (entry_in (terms_in old))) are

pub tree-made : (old new : Heap) (tree : Tree) (es : List Ids) → terms_in new ≡ terms_in old → forest.Holds new.maps tree → listed new tree ≡ es → HoldsEntries old es → Rising (from_entries (entries_at old es)) → IsTree new tree
tree-made old new tree es same held are ids rises = record {
  held = held;
  ids = subst (λ (ts : List Term). All (AreIds ts) (listed new tree)) (sym same) (subst (λ (zs : List Ids). All (AreIds (terms_in old)) zs) (sym are) ids);
  rises = subst (λ (zs : List (Term × Term)). Rising (from_entries zs)) (sym (entries-made old new tree es same are)) rises;
}

-- ---- a tree and those beside its root

pub record Beside (heap : Heap) (tree : Tree) (top : Top Ids) : Type 0 where
  pub are : entries_at heap (listed heap tree) ≡ entries_at heap (listed heap top.left) ++ entry_of heap top.item ∷ entries_at heap (listed heap top.right)
  pub left : IsTree heap top.left
  pub right : IsTree heap top.right
  pub item : AreIds (terms_in heap) top.item
  pub shorter_left : length (listed heap top.left) < length (listed heap tree)
  pub shorter_right : length (listed heap top.right) < length (listed heap tree)

pub beside : (heap : Heap) (maps : Forest Ids) (tree : Tree) (top : Top Ids) → maps ≡ heap.maps → IsTree heap tree → forest.IsTopOf maps tree top → Beside heap tree top
beside heap maps tree top same is of = by (subst (λ (m : Forest Ids). forest.IsTopOf m tree top) same of)
  where
    by : forest.IsTopOf heap.maps tree top → Beside heap tree top
    by of =
        let xs = listed heap top.left in
        let ys = listed heap top.right in
        let are : entries_at heap (listed heap tree) ≡ entries_at heap xs ++ entry_of heap top.item ∷ entries_at heap ys = ap (entries_at heap) of.items ∙ map-append (entry_of heap) xs (top.item ∷ ys) in
        let ids : All (AreIds (terms_in heap)) (xs ++ top.item ∷ ys) = subst (λ (zs : List Ids). All (AreIds (terms_in heap)) zs) of.items is.ids in
        let rest : All (AreIds (terms_in heap)) (top.item ∷ ys) = subst (λ (zs : List Ids). All (AreIds (terms_in heap)) zs) (drop-append_seam xs (top.item ∷ ys)) (All-drop (AreIds (terms_in heap)) (length xs) (xs ++ top.item ∷ ys) ids) in
        let rises : Rising (from_entries (entries_at heap xs ++ entry_of heap top.item ∷ entries_at heap ys)) = subst (λ (zs : List (Term × Term)). Rising (from_entries zs)) are is.rises in
        record {
          are = are;
          left = record { held = of.left; ids = subst (λ (zs : List Ids). All (AreIds (terms_in heap)) zs) (take-append_seam xs (top.item ∷ ys)) (All-take (AreIds (terms_in heap)) (length xs) (xs ++ top.item ∷ ys) ids); rises = rising-front (entries_at heap xs) (entry_of heap top.item ∷ entries_at heap ys) rises };
          right = record { held = of.right; ids = All-tail (AreIds (terms_in heap)) top.item ys rest; rises = (rising-behind (entries_at heap xs) (entry_of heap top.item ∷ entries_at heap ys) rises).1 };
          item = All-head (AreIds (terms_in heap)) top.item ys rest;
          shorter_left = (let l = of.lengths in omega (arith, l));
          shorter_right = (let l = of.lengths in omega (arith, l));
        }

-- the count of a tree's entries is that of their terms
pub counted : (heap : Heap) (maps : Forest Ids) (tree : Tree) (n : ℕ) → maps ≡ heap.maps → n ≡ length (forest.list_of maps tree) → n ≡ length (entries_at heap (listed heap tree))
counted heap maps tree n same e = e ∙ ap (λ (m : Forest Ids). length (forest.list_of m tree)) same ∙ sym (length-map (listed heap tree) (entry_of heap))

-- ---- a tree that was changed

all-insert : {X : Type 0} (P : X → Type 0) (xs : List X) (i : ℕ) (x : X) → P x → All P xs → All P (insert xs i x)
all-insert P [] zero x p all = All-cons P x [] p all
all-insert P (y ∷ xs) zero x p all = All-cons P x (y ∷ xs) p all
all-insert P [] (suc i) x p all = All-cons P x [] p all
all-insert P (y ∷ xs) (suc i) x p all = All-cons P y (insert xs i x) (All-head P y xs all) (all-insert P xs i x p (All-tail P y xs all))

all-remove : {X : Type 0} (P : X → Type 0) (xs : List X) (i : ℕ) → All P xs → All P (remove xs i)
all-remove P [] zero all = all
all-remove P [] (suc i) all = all
all-remove P (y ∷ xs) zero all = All-tail P y xs all
all-remove P (y ∷ xs) (suc i) all = All-cons P y (remove xs i) (All-head P y xs all) (all-remove P xs i (All-tail P y xs all))

module _ (old new : Heap) (tree made : Tree) (place : ℕ) (same : terms_in new ≡ terms_in old) (held : forest.Holds new.maps made) (is : IsTree old tree) where
  abbrev pub es : List (Term × Term)
  es = entries_at old (listed old tree)

  -- with another value
  module _ (entry : Ids) (ids : AreIds (terms_in old) entry) (are : listed new made ≡ slice_set (listed old tree) place entry) (at : StandsAt (term_of old entry.0) es place) where
    pub set-map : pairs_in new made ≡ put (term_of old entry.0) (term_of old entry.1) (pairs_in old tree)
    set-map = ap from_entries (entries-made old new made (slice_set (listed old tree) place entry) same are ∙ map-set (entry_of old) (listed old tree) place entry) ∙ put-here (term_of old entry.0) (term_of old entry.1) es place at

    pub set-tree : IsTree new made
    set-tree = record {
      held = held;
      ids = subst (λ (ts : List Term). All (AreIds ts) (listed new made)) (sym same) (subst (λ (zs : List Ids). All (AreIds (terms_in old)) zs) (sym are) (All-set (AreIds (terms_in old)) (listed old tree) place entry ids is.ids));
      rises = subst Rising (sym set-map) (rising-put (term_of old entry.0) (term_of old entry.1) (pairs_in old tree) is.rises);
    }

  -- with one more key
  module _ (entry : Ids) (ids : AreIds (terms_in old) entry) (are : listed new made ≡ insert (listed old tree) place entry) (at : GoesTo (term_of old entry.0) es place) where
    pub new-map : pairs_in new made ≡ put (term_of old entry.0) (term_of old entry.1) (pairs_in old tree)
    new-map = ap from_entries (entries-made old new made (insert (listed old tree) place entry) same are ∙ map-insert (entry_of old) (listed old tree) place entry) ∙ put-new (term_of old entry.0) (term_of old entry.1) es place at

    pub new-tree : IsTree new made
    new-tree = record {
      held = held;
      ids = subst (λ (ts : List Term). All (AreIds ts) (listed new made)) (sym same) (subst (λ (zs : List Ids). All (AreIds (terms_in old)) zs) (sym are) (all-insert (AreIds (terms_in old)) (listed old tree) place entry ids is.ids));
      rises = subst Rising (sym new-map) (rising-put (term_of old entry.0) (term_of old entry.1) (pairs_in old tree) is.rises);
    }

  -- without a key
  module _ (key : Term) (are : listed new made ≡ remove (listed old tree) place) (at : StandsAt key es place) where
    removed-entries : entries_at new (listed new made) ≡ remove es place
    removed-entries = entries-made old new made (remove (listed old tree) place) same are ∙ map-remove (entry_of old) (listed old tree) place

    pub removed-map : pairs_in new made ≡ maps.remove key (pairs_in old tree)
    removed-map = ap from_entries removed-entries ∙ removed-here key es place at

    pub removed-tree : IsTree new made
    removed-tree = record {
      held = held;
      ids = subst (λ (ts : List Term). All (AreIds ts) (listed new made)) (sym same) (subst (λ (zs : List Ids). All (AreIds (terms_in old)) zs) (sym are) (all-remove (AreIds (terms_in old)) (listed old tree) place is.ids));
      rises = subst (λ (zs : List (Term × Term)). Rising (from_entries zs)) (sym removed-entries) (removed-rises key es place at is.rises);
    }

-- one more entry of several is put
pub put-step : (initial now new : Heap) (tree made : Tree) (ps : Pairs) (given : List Ids) (i : ℕ) (d : Ids) → i < length given → terms_in now ≡ terms_in initial
    → pairs_in now tree ≡ put_each ps (entries_at initial (take i given))
    → pairs_in new made ≡ put (term_of now (get_or given i d).0) (term_of now (get_or given i d).1) (pairs_in now tree)
    → pairs_in new made ≡ put_each ps (entries_at initial (take (i + 1) given))
put-step initial now new tree made ps given i d within same so_far one =
    let e = get_or given i d in
    let next : suc i ≡ i + 1 = omega arith in
    one ∙ ap (λ (ts : List Term). put (term_at ts e.0) (term_at ts e.1) (pairs_in now tree)) same
    ∙ ap (put (term_of initial e.0) (term_of initial e.1)) so_far
    ∙ sym (put_each-append ps (entries_at initial (take i given)) (entry_of initial e ∷ []))
    ∙ ap (put_each ps) (sym (map-append (entry_of initial) (take i given) (e ∷ [])))
    ∙ ap (λ (zs : List Ids). put_each ps (entries_at initial zs)) (sym (take-suc given i d within) ∙ ap (λ k. take k given) next)
