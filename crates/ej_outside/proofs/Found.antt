-- One step of looking a name up, newest put first.
use Rattle.std.proofs.Common.{◌≡◌, ℕ, Bool, [], ◌<◌, get_or, String, Vec, string_bytes, ◌+◌, ◌≤◌, true, false, cond, nat_eq, List, ◌∷◌, ◌++◌, length, take, drop, Option, None, Some, ap, sym, ◌∙◌, refl, arith}
use Rattle.std.specs.Ordering.{nat_cmp, eq_by_cmp}
use Rattle.std.specs.Cmp.Lexicographic.{slice_cmp, pointwise, texts_ties}
use Rattle.std.specs.FinMap.{find}
use Rattle.ej_outside.specs.declared.store.Lengths.{Lengths}
use Rattle.std.proofs.lemmas.List.{drop_more}
use Rattle.std.specs.declared.alloc.Global.{Global}
use Rattle.ej_outside.specs.Store.{given_files, start_of, entries_in, total_size}

-- an entry of the name is what is found
pub find_here : (name own bytes : List ℕ) (es : List (List ℕ × List ℕ)) → pointwise nat_eq name own ≡ true → find (slice_cmp nat_cmp) name ((own, bytes) ∷ es) ≡ Some bytes
find_here name own bytes es h = ap (λ b. cond b (Some bytes) (find (slice_cmp nat_cmp) name es)) (sym (texts_ties name own) ∙ h)

-- an entry of another name is passed
pub find_later : (name own bytes : List ℕ) (es : List (List ℕ × List ℕ)) → pointwise nat_eq name own ≡ false → find (slice_cmp nat_cmp) name ((own, bytes) ∷ es) ≡ find (slice_cmp nat_cmp) name es
find_later name own bytes es h = ap (λ b. cond b (Some bytes) (find (slice_cmp nat_cmp) name es)) (sym (texts_ties name own) ∙ h)

-- what is found among the puts, where the newest is of the name
pub put_here : (name text own bytes : List ℕ) (p : Lengths) (ps ls : List Lengths) → ls ≡ p ∷ ps → own ≡ take p.name (drop (start_of text p) text) → bytes ≡ drop p.name (drop (start_of text p) text) → pointwise nat_eq name own ≡ true → find (slice_cmp nat_cmp) name (entries_in text ls) ≡ Some bytes
put_here name text own bytes p ps ls e o b h =
    ap (λ l. find (slice_cmp nat_cmp) name (entries_in text l)) e
    ∙ find_here name _ _ _ (ap (pointwise nat_eq name) (sym o) ∙ h)
    ∙ ap Some (sym b)

-- and where it is of another name
pub put_later : (name text own before : List ℕ) (p : Lengths) (ps ls : List Lengths) → ls ≡ p ∷ ps → own ≡ take p.name (drop (start_of text p) text) → before ≡ take (start_of text p) text → pointwise nat_eq name own ≡ false → find (slice_cmp nat_cmp) name (entries_in before ps) ≡ find (slice_cmp nat_cmp) name (entries_in text ls)
put_later name text own before p ps ls e o b h =
    sym (ap (λ l. find (slice_cmp nat_cmp) name (entries_in text l)) e
    ∙ find_later name _ _ _ (ap (pointwise nat_eq name) (sym o) ∙ h)
    ∙ ap (λ t. find (slice_cmp nat_cmp) name (entries_in t ps)) (sym b))

-- the puts that are left lie in what is left of the text
pub total_size_left : (text before : List ℕ) (p : Lengths) (ps ls : List Lengths) → ls ≡ p ∷ ps → total_size ls ≤ length text → length before ≡ start_of text p → total_size ps ≤ length before
total_size_left text before p ps ls e h b = let t : total_size ls ≡ total_size (p ∷ ps) = ap total_size e in omega arith

-- what is found in the first of two lists stands before what is found in the second
pub find_first : (name bytes : List ℕ) (es fs : List (List ℕ × List ℕ)) → find (slice_cmp nat_cmp) name es ≡ Some bytes → find (slice_cmp nat_cmp) name (es ++ fs) ≡ Some bytes
find_first name bytes [] fs h = absurd (cc h)
find_first name bytes (e ∷ es) fs h = chosen (eq_by_cmp (slice_cmp nat_cmp) name e.0) e.1 bytes _ _ (find_first name bytes es fs) h
  where
    chosen : (b : Bool) (x y : List ℕ) (o p : Option (List ℕ)) → (o ≡ Some y → p ≡ Some y) → cond b (Some x) o ≡ Some y → cond b (Some x) p ≡ Some y
    chosen true x y o p f h = h
    chosen false x y o p f h = f h

-- where the first has none, what is found in the second is found
pub find_second : (name : List ℕ) (es fs : List (List ℕ × List ℕ)) → find (slice_cmp nat_cmp) name es ≡ None → find (slice_cmp nat_cmp) name (es ++ fs) ≡ find (slice_cmp nat_cmp) name fs
find_second name [] fs h = refl
find_second name (e ∷ es) fs h = chosen (eq_by_cmp (slice_cmp nat_cmp) name e.0) e.1 _ _ _ (find_second name es fs) h
  where
    chosen : (b : Bool) (x : List ℕ) (o p q : Option (List ℕ)) → (o ≡ None → p ≡ q) → cond b (Some x) o ≡ None → cond b (Some x) p ≡ q
    chosen true x o p q f h = absurd (cc h)
    chosen false x o p q f h = f h

-- the file at this place is of the name
pub given_here : (name : List ℕ) (given : List (String Global × Vec ℕ Global)) (i : ℕ) (f : String Global × Vec ℕ Global) → i < length given → f ≡ get_or given i f → pointwise nat_eq name (string_bytes f.0) ≡ true → find (slice_cmp nat_cmp) name (given_files (drop i given)) ≡ Some f.1.items
given_here name given i f h e t =
    ap (λ l. find (slice_cmp nat_cmp) name (given_files l)) (drop_more given i f h ∙ ap (λ x. x ∷ drop (i + 1) given) (sym e)) ∙ find_here name _ _ _ t

-- the file at this place is of another name
pub given_later : (name : List ℕ) (given : List (String Global × Vec ℕ Global)) (i : ℕ) (f : String Global × Vec ℕ Global) → i < length given → f ≡ get_or given i f → pointwise nat_eq name (string_bytes f.0) ≡ false → find (slice_cmp nat_cmp) name (given_files (drop i given)) ≡ find (slice_cmp nat_cmp) name (given_files (drop (i + 1) given))
given_later name given i f h e t =
    ap (λ l. find (slice_cmp nat_cmp) name (given_files l)) (drop_more given i f h ∙ ap (λ x. x ∷ drop (i + 1) given) (sym e)) ∙ find_later name _ _ _ t
