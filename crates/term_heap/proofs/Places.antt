-- The parts at places: those of a row, and those of maps.
use Rattle.std.proofs.Common.{◌≡◌, ℕ, ◌+◌, ◌*◌, ◌^◌, ◌<◌, ◌≤◌, Bool, true, false, ◌&&◌, nat_le, nat_lt, nat_eq, if◌then◌else◌, List, [], ◌∷◌, ◌++◌, length, map, take, drop, slice_get, Option, Some, option_map, option_and_then, refl, sym, ap, ap₂, subst, ◌∙◌, zero, suc, arith, true≢false}
use Rattle.std.specs.Prelude as std
use Rattle.std.specs.Prelude.{IsSome}
use Rattle.std.proofs.lemmas.Bool.{leb-true, lt-ltb, le-ltb, ltb-true, ltb-false, eqb-true}
use Rattle.std.proofs.lemmas.Option.{cond_some, slice_get_within}
use Rattle.std.proofs.lemmas.List.{length-map, length-append, append_assoc, append-nil, map-append, take-append-drop}
use Rattle.std.proofs.lemmas.Grind.{common_steps}
use Rattle.std.proofs.Math.Nat.{add-zero}
use Rattle.ej_term.specs.Term.{Term}
use Rattle.ej_term.specs.AsmValue.{every}
use Rattle.ej_term.proofs.Options.{unsome, chained, first-every}
use Rattle.term_heap.specs.Cells.{Parts, map_place, number_of, offset_of, run, spread, part_at, parts_of, term_for, terms_of, row_of, entries_from, entry_terms}
use Rattle.term_heap.specs.declared.cell.TermId.{TermId}
use Rattle.term_heap.proofs.Adding.{known}
use Rattle.term_heap.proofs.Meanings.{both-is, both-parts}

-- a row's places are below those of maps, and no map is so long that it would reach those of the next
pub record Few (ps : Parts) : Type 0 where
  pub ids : length ps.ids < 2 ^ 63
  pub maps : (n : ℕ) (es : List (TermId × TermId)) → slice_get ps.maps n ≡ Some es → length es < 2 ^ 31
  pub numbers : length ps.maps ≤ 2 ^ 31

-- a place of a map
pub map-number : (n k : ℕ) → k < 2 ^ 32 → number_of (map_place n + k) ≡ n
map-number n k h = omega (arith, h)

pub map-offset : (n k : ℕ) → k < 2 ^ 32 → offset_of (map_place n + k) ≡ k
map-offset n k h = omega (arith, h)

-- these ids stand at the places from the first on
abbrev pub StandAt : Parts → ℕ → List TermId → Type 0
StandAt ps first [] = Unit {0}
StandAt ps first (id ∷ ids) = (part_at ps first ≡ Some id) × StandAt ps (suc first) ids

pub stand-parts : (ps : Parts) (ts : List Term) (first : ℕ) (ids : List TermId) (xs : List Term) → StandAt ps first ids → terms_of ts ids ≡ Some xs → parts_of ps ts first (length ids) ≡ Some xs
stand-parts ps ts first [] xs at e = e
stand-parts ps ts first (id ∷ ids) xs at e =
    let f = first-every (term_for ts id) _ xs e in
    both-is (◌∷◌) (option_and_then (term_for ts) (part_at ps first)) (parts_of ps ts (suc first) (length ids)) f.0 f.1
    (ap (option_and_then (term_for ts)) at.0 ∙ f.2) (stand-parts ps ts (suc first) ids f.1 at.1 f.3)
    ∙ ap Some f.4

-- a row's
row-stands : (ps : Parts) (few : length ps.ids < 2 ^ 63) (front ids behind : List TermId) (first : ℕ) → ps.ids ≡ front ++ (ids ++ behind) → length front ≡ first → StandAt ps first ids
row-stands ps few front [] behind first e n = tt
row-stands ps few front (id ∷ ids) behind first e n =
    let here = ap (λ (zs : List TermId). slice_get zs first) e ∙ ap (slice_get (front ++ id ∷ (ids ++ behind))) (sym n) ∙ nth front id (ids ++ behind) in
    let all : length ps.ids ≡ length front + suc (length (ids ++ behind)) = ap length e ∙ length-append front (id ∷ (ids ++ behind)) in (
      ap (λ b. if b then slice_get ps.ids first else option_and_then (λ es. slice_get (spread es) (offset_of first)) (slice_get ps.maps (number_of first))) (lt-ltb first (2 ^ 63) (omega (arith, all, few, n))) ∙ here,
      row-stands ps few (front ++ id ∷ []) ids behind (suc first) (e ∙ sym (append_assoc front (id ∷ []) (ids ++ behind))) (length-append front (id ∷ []) ∙ omega (arith, n)),
    )
  where
    nth : {X : Type 0} (xs : List X) (x : X) (ys : List X) → slice_get (xs ++ x ∷ ys) (length xs) ≡ Some x
    nth [] x ys = refl
    nth (a ∷ xs) x ys = nth xs x ys

pub row-parts : (ps : Parts) → length ps.ids < 2 ^ 63 → (ts : List Term) (first n : ℕ) (xs : List Term) → row_of ps ts first n ≡ Some xs → parts_of ps ts first n ≡ Some xs
row-parts ps few ts first n xs e =
    let f = chained (terms_of ts) (run ps.ids first n) xs e in
    let c = cond_some (nat_le (first + n) (length ps.ids)) (take n (drop first ps.ids)) f.0 f.1 in
    let inside = leb-true (first + n) (length ps.ids) c.0 in
    let whole : ps.ids ≡ take first ps.ids ++ (f.0 ++ drop n (drop first ps.ids)) = sym (take-append-drop first ps.ids) ∙ ap (λ (zs : List TermId). take first ps.ids ++ zs) (sym (take-append-drop n (drop first ps.ids)) ∙ ap (λ (zs : List TermId). zs ++ drop n (drop first ps.ids)) c.1) in
    let front : length (take first ps.ids) ≡ first = grind (arith, common_steps, inside) in
    let long : length f.0 ≡ n = ap length (sym c.1) ∙ grind (arith, common_steps, inside) in
    subst (λ k. parts_of ps ts first k ≡ Some xs) long
    (stand-parts ps ts first f.0 xs (row-stands ps few (take first ps.ids) f.0 (drop n (drop first ps.ids)) first whole front) f.2)

-- a map's
module _ (ps : Parts) (number : ℕ) (es : List (TermId × TermId)) (is : slice_get ps.maps number ≡ Some es) (few : length es < 2 ^ 31) where
  pub map-part : (k : ℕ) → k < 2 ^ 32 → part_at ps (map_place number + k) ≡ slice_get (spread es) k
  map-part k h =
      ap (λ b. if b then slice_get ps.ids (map_place number + k) else option_and_then (λ es. slice_get (spread es) (offset_of (map_place number + k))) (slice_get ps.maps (number_of (map_place number + k)))) (le-ltb (map_place number + k) (2 ^ 63) (omega arith))
      ∙ ap₂ (λ n o. option_and_then (λ es. slice_get (spread es) o) (slice_get ps.maps n)) (map-number number k h) (map-offset number k h)
      ∙ ap (option_and_then (λ es. slice_get (spread es) k)) is

  map-stands : (front ids behind : List TermId) (first : ℕ) → spread es ≡ front ++ (ids ++ behind) → first ≡ map_place number + length front → StandAt ps first ids
  map-stands front [] behind first e n = tt
  map-stands front (id ∷ ids) behind first e n =
      let all : length (spread es) ≡ length front + suc (length (ids ++ behind)) = ap length e ∙ length-append front (id ∷ (ids ++ behind)) in
      let both : length (spread es) ≡ length es + length es = length-append (map (λ (e : TermId × TermId). e.0) es) (map (λ (e : TermId × TermId). e.1) es) ∙ ap₂ (◌+◌) (length-map es (λ (e : TermId × TermId). e.0)) (length-map es (λ (e : TermId × TermId). e.1)) in (
        ap (part_at ps) n ∙ map-part (length front) (omega (arith, all, both, few)) ∙ ap (λ (zs : List TermId). slice_get zs (length front)) e ∙ nth front id (ids ++ behind),
        map-stands (front ++ id ∷ []) ids behind (suc first) (e ∙ sym (append_assoc front (id ∷ []) (ids ++ behind))) (next n),
      )
    where
      nth : {X : Type 0} (xs : List X) (x : X) (ys : List X) → slice_get (xs ++ x ∷ ys) (length xs) ≡ Some x
      nth [] x ys = refl
      nth (a ∷ xs) x ys = nth xs x ys

      next : first ≡ map_place number + length front → suc first ≡ map_place number + length (front ++ id ∷ [])
      next n = ap suc n ∙ omega (arith, length-append front (id ∷ []))

both-true : (a b : Bool) → (a && b) ≡ true → (a ≡ true) × (b ≡ true)
both-true true b e = (refl, e)
both-true false b e = absurd (true≢false (sym e))

-- what is known of the entries at a place
pub entries-known : (ps : Parts) (first count : ℕ) (es : List (TermId × TermId)) → entries_from ps first count ≡ Some es
    → (slice_get ps.maps (number_of first) ≡ Some es) × (first ≡ map_place (number_of first)) × (count ≡ length es)
entries-known ps first count es e =
    let f = chained (λ zs. if nat_eq first (map_place (number_of first)) && nat_eq count (length zs) then Some zs else std.None) (slice_get ps.maps (number_of first)) es e in
    let c = cond_some (nat_eq first (map_place (number_of first)) && nat_eq count (length f.0)) f.0 es f.2 in
    let b = both-true (nat_eq first (map_place (number_of first))) (nat_eq count (length f.0)) c.0 in
    (f.1 ∙ ap Some c.1, eqb-true first (map_place (number_of first)) b.0, eqb-true count (length f.0) b.1 ∙ ap length c.1)

every-append : {A : Type 0} (os ps : List (Option A)) (xs ys : List A) → every os ≡ Some xs → every ps ≡ Some ys → every (os ++ ps) ≡ Some (xs ++ ys)
every-append {A = A} [] ps xs ys e d = d ∙ ap (λ (zs : List A). Some (zs ++ ys)) (unsome [] xs e)
every-append {A = A} (o ∷ os) ps xs ys e d =
    let f = first-every o os xs e in
    ap (λ q. every (q ∷ os ++ ps)) f.2 ∙ ap (option_map (◌∷◌ f.0)) (every-append os ps f.1 ys f.3 d) ∙ ap (λ (zs : List A). Some (zs ++ ys)) f.4

pub terms-append : (ts : List Term) (ids more : List TermId) (xs ys : List Term) → terms_of ts ids ≡ Some xs → terms_of ts more ≡ Some ys → terms_of ts (ids ++ more) ≡ Some (xs ++ ys)
terms-append ts ids more xs ys e d = ap every (map-append (term_for ts) ids more) ∙ every-append (map (term_for ts) ids) (map (term_for ts) more) xs ys e d

-- the terms of keys, and of values
pub keys-known : (ts : List Term) (es : List (TermId × TermId)) (us : List (Term × Term)) → every (map (entry_terms ts) es) ≡ Some us → terms_of ts (map (λ e. e.0) es) ≡ Some (map (λ e. e.0) us)
keys-known ts [] us e = ap (λ (zs : List (Term × Term)). Some (map (λ e. e.0) zs)) (unsome [] us e)
keys-known ts (x ∷ es) us e =
    let f = first-every (entry_terms ts x) _ us e in
    let b = both-parts (λ k v. (k, v)) (term_for ts x.0) (term_for ts x.1) f.0 f.2 in
    ap (λ o. every (o ∷ map (term_for ts) (map (λ e. e.0) es))) b.2 ∙ ap (option_map (◌∷◌ b.0)) (keys-known ts es f.1 f.3)
    ∙ ap (λ (k : Term). Some (k ∷ map (λ e. e.0) f.1)) (ap (λ e. e.0) b.4) ∙ ap (λ (zs : List (Term × Term)). Some (map (λ e. e.0) zs)) f.4

pub values-known : (ts : List Term) (es : List (TermId × TermId)) (us : List (Term × Term)) → every (map (entry_terms ts) es) ≡ Some us → terms_of ts (map (λ e. e.1) es) ≡ Some (map (λ e. e.1) us)
values-known ts [] us e = ap (λ (zs : List (Term × Term)). Some (map (λ e. e.1) zs)) (unsome [] us e)
values-known ts (x ∷ es) us e =
    let f = first-every (entry_terms ts x) _ us e in
    let b = both-parts (λ k v. (k, v)) (term_for ts x.0) (term_for ts x.1) f.0 f.2 in
    ap (λ o. every (o ∷ map (term_for ts) (map (λ e. e.1) es))) b.3 ∙ ap (option_map (◌∷◌ b.1)) (values-known ts es f.1 f.3)
    ∙ ap (λ (k : Term). Some (k ∷ map (λ e. e.1) f.1)) (ap (λ e. e.1) b.4) ∙ ap (λ (zs : List (Term × Term)). Some (map (λ e. e.1) zs)) f.4

-- a map's keys stand at its place, and its values behind them
module _ (ps : Parts) (few : Few ps) (ts : List Term) (first count : ℕ) (es : List (TermId × TermId)) (us : List (Term × Term)) (is : entries_from ps first count ≡ Some es) (terms : every (map (entry_terms ts) es) ≡ Some us) where
  stand : (front ids behind : List TermId) (at : ℕ) → spread es ≡ front ++ (ids ++ behind) → at ≡ first + length front → StandAt ps at ids
  stand front ids behind at e n =
      let k = entries-known ps first count es is in
      map-stands ps (number_of first) es k.0 (few.maps (number_of first) es k.0) front ids behind at e (n ∙ ap (λ m. m + length front) k.1)

  keys-long : length (map (λ (e : TermId × TermId). e.0) es) ≡ count
  keys-long = length-map es (λ (e : TermId × TermId). e.0) ∙ sym (entries-known ps first count es is).2

  values-long : length (map (λ (e : TermId × TermId). e.1) es) ≡ count
  values-long = length-map es (λ (e : TermId × TermId). e.1) ∙ sym (entries-known ps first count es is).2

  pub map-keys : parts_of ps ts first count ≡ Some (map (λ e. e.0) us)
  map-keys = subst (λ n. parts_of ps ts first n ≡ Some (map (λ e. e.0) us)) keys-long
      (stand-parts ps ts first (map (λ e. e.0) es) (map (λ e. e.0) us) (stand [] (map (λ e. e.0) es) (map (λ e. e.1) es) first refl (sym (add-zero first))) (keys-known ts es us terms))

  pub map-values : parts_of ps ts (first + count) count ≡ Some (map (λ e. e.1) us)
  map-values = subst (λ n. parts_of ps ts (first + count) n ≡ Some (map (λ e. e.1) us)) values-long
      (stand-parts ps ts (first + count) (map (λ e. e.1) es) (map (λ e. e.1) us)
      (stand (map (λ e. e.0) es) (map (λ e. e.1) es) [] (first + count) (ap (λ (zs : List TermId). map (λ e. e.0) es ++ zs) (sym (append-nil (map (λ e. e.1) es)))) (ap (λ n. first + n) (sym keys-long))) (values-known ts es us terms))

  pub map-all : parts_of ps ts first (2 * count) ≡ Some (spread us)
  map-all =
      let long : length (spread es) ≡ 2 * count = length-append (map (λ (e : TermId × TermId). e.0) es) (map (λ (e : TermId × TermId). e.1) es) ∙ omega (arith, keys-long, values-long) in
      subst (λ n. parts_of ps ts first n ≡ Some (spread us)) long
      (stand-parts ps ts first (spread es) (spread us) (stand [] (spread es) [] first (sym (append-nil (spread es))) (sym (add-zero first)))
      (terms-append ts (map (λ e. e.0) es) (map (λ e. e.1) es) (map (λ e. e.0) us) (map (λ e. e.1) us) (keys-known ts es us terms) (values-known ts es us terms)))

-- the place behind a part is a number of 64 bits
pub part-fits : (ps : Parts) (few : Few ps) (place : ℕ) (id : TermId) → part_at ps place ≡ Some id → place + 1 < 2 ^ 64
part-fits ps few place id e = by (nat_lt place (2 ^ 63)) refl e
  where
    by : (b : Bool) → nat_lt place (2 ^ 63) ≡ b → (if b then slice_get ps.ids place else option_and_then (λ es. slice_get (spread es) (offset_of place)) (slice_get ps.maps (number_of place))) ≡ Some id → place + 1 < 2 ^ 64
    by true below d = omega (arith, ltb-true place (2 ^ 63) below)
    by false above d =
        let f = chained (λ es. slice_get (spread es) (offset_of place)) (slice_get ps.maps (number_of place)) id d in
        let within : offset_of place < length (spread f.0) = slice_get_within (spread f.0) (offset_of place) id f.2 in
        let number : number_of place < length ps.maps = slice_get_within ps.maps (number_of place) f.0 f.1 in
        let long : length (spread f.0) ≡ length f.0 + length f.0 = length-append (map (λ (e : TermId × TermId). e.0) f.0) (map (λ (e : TermId × TermId). e.1) f.0) ∙ ap₂ (◌+◌) (length-map f.0 (λ (e : TermId × TermId). e.0)) (length-map f.0 (λ (e : TermId × TermId). e.1)) in
        omega (arith, within, number, long, few.maps (number_of place) f.0 f.1, few.numbers, ltb-false place (2 ^ 63) above)

pub run-fits : (ps : Parts) (few : Few ps) (ts : List Term) (first count : ℕ) → IsSome (parts_of ps ts first count) → 0 < count → first + 1 < 2 ^ 64
run-fits ps few ts first zero is positive = absurd (omega (arith, positive))
run-fits ps few ts first (suc count) is positive =
    let b = both-parts (◌∷◌) (option_and_then (term_for ts) (part_at ps first)) (parts_of ps ts (suc first) count) _ (known (parts_of ps ts first (suc count)) [] is) in
    let f = chained (term_for ts) (part_at ps first) b.0 b.2 in
    part-fits ps few first f.0 f.1
