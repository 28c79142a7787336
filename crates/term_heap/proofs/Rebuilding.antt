-- Adding the terms of a list from its end to its front.
use Rattle.std.proofs.Common.{◌≡◌, ℕ, ◌+◌, ◌-◌, ◌*◌, ◌/◌, ◌<◌, ◌≤◌, nat_le, Bool, true, false, not, if◌then◌else◌, List, [], ◌∷◌, ◌++◌, length, take, drop, slice_get, slice_index_or, Option, Some, is_some, option_map, option_and_then, unwrap_or, refl, sym, ap, ap₂, subst, ◌∙◌, arith, true≢false}
use Rattle.std.specs.Prelude as std
use Rattle.std.specs.Prelude.{IsSome}
use Rattle.std.specs.Borrow.{Bor}
use Rattle.std.proofs.lemmas.Bool.{leb-true}
use Rattle.std.proofs.lemmas.List.{length-map, length-drop, map-append, append-nil, drop_more, take-map, drop-map, take-append-drop}
use Rattle.std.proofs.lemmas.List.Elements.{All-nil, All-cons, All-append, All-take, All-drop, All-head, All-tail}
use Rattle.std.proofs.Math.Seq.{drop-append_seam}
use Rattle.ej_term.specs.declared.asm_term.AsmTerm.{AsmTerm}
use Rattle.ej_term.specs.declared.asm_term.AsmTerm.TheVariants as asm
use Rattle.ej_term.specs.Term.{Term, Nil}
use Rattle.ej_term.specs.AsmValue.{value, has_opaque}
use Rattle.ej_term.proofs.OpaqueLaw.{law}
use Rattle.ej_term.proofs.Options.{unsome, chained}
use Rattle.term_heap.specs.declared.cell.TermId.{TermId}
use Rattle.term_heap.specs.declared.heap.Heap.{Heap}
use Rattle.term_heap.specs.View.{terms_in, Holds, Stands, term_of, Keeps}
use Rattle.term_heap.specs.Held.{HoldsEach, terms_at}
use Rattle.term_heap.specs.Loaded.{IsLoaded}
use Rattle.term_heap.specs.Entries.{HoldsEntry, HoldsEntries, entry_of, entries_at}
use Rattle.term_heap.proofs.Layers.{inner-Map}
use Rattle.term_heap.specs.Preorder.{flat, paired, inner, made_of, applied, evaluated, one}
use Rattle.term_heap.proofs.Stacking.{behind, evaluated-append}
use Rattle.term_heap.proofs.Adding.{known, is-known}
use Rattle.term_heap.proofs.Kept.{stands-held, kept-each, kept-terms}

-- a term is applied where its parts are there
pub applied-is : (t : AsmTerm) (stack : List Term) (first : ℕ) → IsSome (applied t stack) → first ≡ length stack - length (inner t)
    → (length (inner t) ≤ length stack) × (applied t stack ≡ option_map (λ v. take first stack ++ v ∷ []) (made_of t (drop first stack)))
applied-is t stack first is at = by (nat_le (length (inner t)) (length stack)) refl
  where
    by : (b : Bool) → nat_le (length (inner t)) (length stack) ≡ b → (length (inner t) ≤ length stack) × (applied t stack ≡ option_map (λ v. take first stack ++ v ∷ []) (made_of t (drop first stack)))
    by true e = (
      leb-true (length (inner t)) (length stack) e,
      ap (λ b. if b then option_map (λ v. take (length stack - length (inner t)) stack ++ v ∷ []) (made_of t (drop (length stack - length (inner t)) stack)) else std.None) e
          ∙ ap (λ n. option_map (λ v. take n stack ++ v ∷ []) (made_of t (drop n stack))) (sym at),
    )
    by false e =
        absurd (true≢false (sym is ∙ ap (λ b. is_some (if b then option_map (λ v. take (length stack - length (inner t)) stack ++ v ∷ []) (made_of t (drop (length stack - length (inner t)) stack)) else std.None)) e))

mapped-some : {A B : Type 0} (f : A → B) (o : Option A) → is_some (option_map f o) ≡ is_some o
mapped-some f std.None = refl
mapped-some f (Some a) = refl

-- where the ids' terms are taken, the parts are those of the last ids
taken-at : (heap : Heap) (t : AsmTerm) (ids : List TermId) (first : ℕ) → IsSome (applied t (terms_at heap ids)) → first ≡ length ids - length (inner t)
    → applied t (terms_at heap ids) ≡ option_map (λ v. terms_at heap (take first ids) ++ v ∷ []) (made_of t (terms_at heap (drop first ids)))
taken-at heap t ids first is at =
    (applied-is t (terms_at heap ids) first is (at ∙ ap (λ n. n - length (inner t)) (sym (length-map ids (term_of heap))))).1
    ∙ ap₂ (λ (fs ls : List Term). option_map (λ v. fs ++ v ∷ []) (made_of t ls)) (take-map (term_of heap) first ids) (drop-map (term_of heap) first ids)

pub last-made : (heap : Heap) (t : AsmTerm) (ids last : List TermId) (first : ℕ) → IsSome (applied t (terms_at heap ids)) → first ≡ length ids - length (inner t) → last ≡ drop first ids
    → IsSome (made_of t (terms_at heap last))
last-made heap t ids last first is at e =
    subst (λ (zs : List TermId). IsSome (made_of t (terms_at heap zs))) (sym e)
    (sym (mapped-some (λ v. terms_at heap (take first ids) ++ v ∷ []) (made_of t (terms_at heap (drop first ids)))) ∙ ap is_some (sym (taken-at heap t ids first is at)) ∙ is)

-- an id in place of those of its parts
pub replaced : (old new : Heap) (t : AsmTerm) (ids last front pushed : List TermId) (id : TermId) (first : ℕ) → HoldsEach old ids → IsSome (applied t (terms_at old ids)) → first ≡ length ids - length (inner t) → last ≡ drop first ids
    → Keeps old new → slice_get (terms_in new) id.0 ≡ made_of t (terms_at old last) → front ≡ take first ids → pushed ≡ front ++ id ∷ []
    → HoldsEach new pushed × (applied t (terms_at old ids) ≡ Some (terms_at new pushed))
replaced old new t ids last front pushed id first all is at e keeps stands f p =
    let made : made_of t (terms_at old last) ≡ Some (term_of new id) = known-at (made_of t (terms_at old last)) (last-made old t ids last first is at e) (slice_get (terms_in new) id.0) stands in
    let stands-so : Stands new id (term_of new id) = stands ∙ made in
    let held-front : HoldsEach old (take first ids) = All-take (Holds old) first ids all in
    let is-pushed : pushed ≡ take first ids ++ id ∷ [] = p ∙ ap (λ (zs : List TermId). zs ++ id ∷ []) f in (
      subst (λ (zs : List TermId). HoldsEach new zs) (sym is-pushed)
          (All-append (Holds new) (take first ids) (id ∷ []) (kept-each old new (take first ids) keeps held-front) (All-cons (Holds new) id [] (stands-held new id (term_of new id) stands-so) (All-nil (Holds new)))),
      taken-at old t ids first is at
          ∙ ap (λ (zs : List TermId). option_map (λ v. terms_at old (take first ids) ++ v ∷ []) (made_of t (terms_at old zs))) (sym e)
          ∙ ap (option_map (λ v. terms_at old (take first ids) ++ v ∷ [])) made
          ∙ ap (λ (ts : List Term). Some (ts ++ term_of new id ∷ [])) (sym (kept-terms old new (take first ids) keeps held-front))
          ∙ ap Some (sym (map-append (term_of new) (take first ids) (id ∷ [])))
          ∙ ap (λ (zs : List TermId). Some (terms_at new zs)) (sym is-pushed),
    )
  where
    known-at : (o : Option Term) → IsSome o → (p : Option Term) → p ≡ o → o ≡ Some (unwrap_or p Nil)
    known-at o i p e = known o Nil i ∙ ap (λ (q : Option Term). Some (unwrap_or q Nil)) (sym e)

-- the terms behind a place, and then one more

split-at : (order : List (Bor AsmTerm)) (at : ℕ) (x d : Bor AsmTerm) → 0 < at → at ≤ length order → x ≡ slice_index_or order (at - 1) d → behind (drop (at - 1) order) ≡ x.now ∷ behind (drop at order)
split-at order at x d some within picked =
    let back : at - 1 + 1 ≡ at = omega (arith, some) in
    ap behind (drop_more order (at - 1) d (omega (arith, some, within)) ∙ ap₂ (λ (y : Bor AsmTerm) (n : ℕ). y ∷ drop n order) (sym picked) back)

-- what a list with a value comes to has a value from each place on
front-some : (xs ys : List AsmTerm) (r : List Term) → evaluated (xs ++ ys) [] ≡ Some r → IsSome (evaluated ys [])
front-some xs ys r e = let f = chained (evaluated xs) (evaluated ys []) r (sym (evaluated-append xs ys []) ∙ e) in is-known (evaluated ys []) f.0 f.1

seam : (order : List (Bor AsmTerm)) (n : ℕ) → behind order ≡ behind (take n order) ++ behind (drop n order)
seam order n = ap behind (sym (take-append-drop n order)) ∙ map-append (λ (r : Bor AsmTerm). r.now) (take n order) (drop n order)

pub next-applies : (order : List (Bor AsmTerm)) (at : ℕ) (x d : Bor AsmTerm) (stack whole : List Term) → 0 < at → at ≤ length order → x ≡ slice_index_or order (at - 1) d
    → evaluated (behind order) [] ≡ Some whole → evaluated (behind (drop at order)) [] ≡ Some stack → IsSome (applied x.now stack)
next-applies order at x d stack whole some within picked all e =
    let is : IsSome (evaluated (behind (drop (at - 1) order)) []) = front-some (behind (take (at - 1) order)) (behind (drop (at - 1) order)) whole (ap (λ ts. evaluated ts []) (sym (seam order (at - 1))) ∙ all) in
    sym (ap is_some (ap (λ ts. evaluated ts []) (split-at order at x d some within picked) ∙ ap (option_and_then (applied x.now)) e)) ∙ is

-- a term with no opaque token has a value
pub has-value : (t : AsmTerm) → has_opaque t ≡ false → (v : Term) × (value t ≡ Some v)
has-value t e = by (value t) (law t ∙ ap not e)
  where
    by : (o : Option Term) → is_some o ≡ true → (v : Term) × (o ≡ Some v)
    by std.None i = absurd (true≢false (sym i))
    by (Some v) i = (v, refl)

pub has-whole : (t : AsmTerm) (o : Option (List Term)) → has_opaque t ≡ false → o ≡ option_map one (value t) → (v : Term) × (value t ≡ Some v) × (o ≡ Some (v ∷ []))
has-whole t o plain e = let v = has-value t plain in (v.0, v.1, e ∙ ap (option_map one) v.1)

-- the last id that is left
pub left-loaded : (heap : Heap) (t : AsmTerm) (o : Option (List Term)) (ids popped : List TermId) (id : TermId) → has_opaque t ≡ false → o ≡ option_map one (value t) → o ≡ Some (terms_at heap ids) → HoldsEach heap ids
    → ids ≡ popped ++ id ∷ [] → IsLoaded heap t id
left-loaded heap t o ids popped id plain e is all last =
    let w = has-whole t o plain e in
    let same : terms_at heap popped ++ term_of heap id ∷ [] ≡ w.0 ∷ [] = sym (map-append (term_of heap) popped (id ∷ [])) ∙ ap (terms_at heap) (sym last) ∙ unsome (terms_at heap ids) (w.0 ∷ []) (sym is ∙ w.2) in
    let held : HoldsEach heap (id ∷ []) = subst (λ (zs : List TermId). HoldsEach heap zs) (drop-append_seam popped (id ∷ [])) (All-drop (Holds heap) (length popped) (popped ++ id ∷ []) (subst (λ (zs : List TermId). HoldsEach heap zs) last all)) in
    (All-head (Holds heap) id [] held, w.1 ∙ ap Some (alone (terms_at heap popped) (term_of heap id) w.0 same))
  where
    alone : (xs : List Term) (x y : Term) → xs ++ x ∷ [] ≡ y ∷ [] → y ≡ x
    alone [] x y e = cc
    alone (z ∷ []) x y e = absurd (cc)
    alone (z ∷ u ∷ zs) x y e = absurd (cc)

pub none-left : (heap : Heap) (t : AsmTerm) (o : Option (List Term)) (ids : List TermId) → has_opaque t ≡ false → o ≡ option_map one (value t) → o ≡ Some (terms_at heap ids) → ids ≡ [] → ⊥
none-left heap t o ids plain e is none =
    let w = has-whole t o plain e in
    let same : [] ≡ w.0 ∷ [] = ap (terms_at heap) (sym none) ∙ unsome (terms_at heap ids) (w.0 ∷ []) (sym is ∙ w.2) in
    absurd (cc)

-- keys with their values

pub paired-short : (parts : List TermId) → length parts ≤ 1 → paired parts ≡ []
paired-short [] h = refl
paired-short (x ∷ []) h = refl
paired-short (x ∷ y ∷ parts) h = absurd (omega (arith, h))

pub paired-end : (parts : List TermId) (at : ℕ) (entries whole : List (TermId × TermId)) → length parts / 2 ≤ at → entries ++ paired (drop (2 * at) parts) ≡ whole → entries ≡ whole
paired-end parts at entries whole past e =
    let short : length (drop (2 * at) parts) ≤ 1 = omega (arith, length-drop (2 * at) parts, past) in
    sym (append-nil entries) ∙ ap (λ es. entries ++ es) (sym (paired-short (drop (2 * at) parts) short)) ∙ e

paired-held : (heap : Heap) (ids : List TermId) → HoldsEach heap ids → HoldsEntries heap (paired ids)
paired-held heap [] all = All-nil (HoldsEntry heap)
paired-held heap (x ∷ []) all = All-nil (HoldsEntry heap)
paired-held heap (x ∷ y ∷ ids) all =
    let rest : HoldsEach heap (y ∷ ids) = All-tail (Holds heap) x (y ∷ ids) all in
    All-cons (HoldsEntry heap) (x, y) (paired ids) (All-head (Holds heap) x (y ∷ ids) all, All-head (Holds heap) y ids rest) (paired-held heap ids (All-tail (Holds heap) y ids rest))

pub entries-held : (heap : Heap) (ids : List TermId) (entries : List (TermId × TermId)) → entries ≡ paired ids → HoldsEach heap ids → HoldsEntries heap entries
entries-held heap ids entries e all = subst (λ (es : List (TermId × TermId)). HoldsEntries heap es) (sym e) (paired-held heap ids all)

pub entries-terms : (heap : Heap) (ids : List TermId) → entries_at heap (paired ids) ≡ paired (terms_at heap ids)
entries-terms heap [] = refl
entries-terms heap (x ∷ []) = refl
entries-terms heap (x ∷ y ∷ ids) = ap (λ (es : List (Term × Term)). entry_of heap (x, y) ∷ es) (entries-terms heap ids)

length-flat : (ps : List (AsmTerm × AsmTerm)) → length (flat ps) ≡ 2 * length ps
length-flat [] = refl
length-flat (p ∷ ps) = let more = length-flat ps in omega (arith, more)

pub map-parts : (t : AsmTerm) (pairs given : List (AsmTerm × AsmTerm)) → t ≡ asm.Map pairs → given ≡ pairs → 2 * length given ≡ length (inner t)
map-parts t pairs given is same = ap (λ (ps : List (AsmTerm × AsmTerm)). 2 * length ps) same ∙ sym (ap (λ u. length (inner u)) is ∙ ap length (inner-Map pairs) ∙ length-flat pairs)
