-- A function has one slot map at most, and so one weight.
use Rattle.std.proofs.Common.{◌≡◌, ◌<◌, ℕ, zero, suc, Bool, true, false, nat_eq, nat_lt, ◌||◌, List, [], ◌∷◌, map, Option, None, Some, refl, sym, ap, subst, ◌∙◌, inl, inr, arith}
use Rattle.std.specs.Prelude.{◌⊎◌, option_map, if◌then◌else◌}
use Rattle.std.specs.List.{list_all}
use Rattle.std.proofs.lemmas.Bool.{true≢false, and_parts}
use Rattle.std.proofs.lemmas.Bool.Decides.{nat_tests}
use Rattle.beam_code.specs.declared.kind.Kind.{Kind}
use Rattle.beam_code.specs.declared.kind.Kind.TheVariants as k
use Rattle.beam_code.specs.declared.slot_state.SlotMap.{SlotMap}
use Rattle.beam_code.specs.declared.slot_state.SlotState.{SlotState}
use Rattle.beam_code.specs.Code.{FunctionCode}
use Rattle.beam_code.specs.Good.{assignment_of, listed_at}
use Rattle.beam_code.specs.Labels.{is_in, defined_in}
use Rattle.beam_code.specs.SlotForm.{rises, rises_from, is_kind}
use Rattle.beam_code.specs.Slots.{State, Below, BelowIfReached, below_kind, listed, state_of}
use Rattle.beam_code.specs.Weights.{weight}
use Rattle.beam_code.proofs.BelowLaw.{all-in}
use Rattle.slot_kinds.specs.Best.{IsBest}
use Rattle.erjang_compile.specs.Accepted.{Weighs}

-- Labels that rise.

below-all : (n k : ℕ) (ms : List ℕ) → rises_from n ms ≡ true → is_in ms k ≡ true → n < k
below-all n k [] r h = absurd (true≢false (sym h))
below-all n k (m ∷ ms) r h = let parts = and_parts (nat_lt n m) (rises_from m ms) r in by (nat_eq k m) refl parts.0 (below-all m k ms parts.1) h
  where
    by : (b : Bool) → nat_eq k m ≡ b → nat_lt n m ≡ true → (is_in ms k ≡ true → m < k) → (b || is_in ms k) ≡ true → n < k
    by true e first behind h = grind (arith, nat_tests)
    by false e first behind h = let later = behind h in grind (arith, nat_tests)

rises-behind : (n : ℕ) (ms : List ℕ) → rises_from n ms ≡ true → rises ms ≡ true
rises-behind n [] r = refl
rises-behind n (m ∷ ms) r = (and_parts (nat_lt n m) (rises_from m ms) r).1

is-head : (n : ℕ) (ns : List ℕ) → is_in (n ∷ ns) n ≡ true
is-head n ns = ap (λ b. b || is_in ns n) (same n)
  where
    same : (n : ℕ) → nat_eq n n ≡ true
    same n = grind (arith, nat_tests)

in-tail : (n k : ℕ) (ns : List ℕ) → is_in ns k ≡ true → is_in (n ∷ ns) k ≡ true
in-tail n k ns h = by (nat_eq k n) h
  where
    by : (b : Bool) → is_in ns k ≡ true → (b || is_in ns k) ≡ true
    by true h = refl
    by false h = h

-- an element is the first, or above it and one of the others
head-or-above : (n k : ℕ) (ns : List ℕ) → rises_from n ns ≡ true → is_in (n ∷ ns) k ≡ true → (k ≡ n) ⊎ (n < k)
head-or-above n k ns r h = by (nat_eq k n) refl h
  where
    by : (b : Bool) → nat_eq k n ≡ b → (b || is_in ns k) ≡ true → (k ≡ n) ⊎ (n < k)
    by true e h = inl (grind (arith, nat_tests))
    by false e h = inr (below-all n k ns r h)

above-head : (n k : ℕ) (ns : List ℕ) → n < k → is_in (n ∷ ns) k ≡ true → is_in ns k ≡ true
above-head n k ns l h = by (nat_eq k n) refl h
  where
    by : (b : Bool) → nat_eq k n ≡ b → (b || is_in ns k) ≡ true → is_in ns k ≡ true
    by true e h = absurd (grind (arith, nat_tests))
    by false e h = h

same-head : (m n : ℕ) → (m ≡ n) ⊎ (n < m) → (n ≡ m) ⊎ (m < n) → m ≡ n
same-head m n (inl e) q = e
same-head m n (inr l) (inl e) = sym e
same-head m n (inr l) (inr g) = absurd (omega (arith, l, g))

abbrev Within : List ℕ → List ℕ → Type 0
Within ms ns = (k : ℕ) → is_in ms k ≡ true → is_in ns k ≡ true

within-tail : (m n : ℕ) (ms ns : List ℕ) → m ≡ n → rises_from m ms ≡ true → Within (m ∷ ms) (n ∷ ns) → Within ms ns
within-tail m n ms ns e r w k h = above-head n k ns (subst (λ q. q < k) e (below-all m k ms r h)) (w k (in-tail m k ms h))

-- lists that rise and have the same elements are one
same-rising : (ms ns : List ℕ) → rises ms ≡ true → rises ns ≡ true → Within ms ns → Within ns ms → ms ≡ ns
same-rising [] [] r s p q = refl
same-rising [] (n ∷ ns) r s p q = absurd (true≢false (sym (q n (is-head n ns))))
same-rising (m ∷ ms) [] r s p q = absurd (true≢false (sym (p m (is-head m ms))))
same-rising (m ∷ ms) (n ∷ ns) r s p q =
    let e = same-head m n (head-or-above n m ns s (p m (is-head m ms))) (head-or-above m n ms r (q n (is-head n ns))) in
    let rest = same-rising ms ns (rises-behind m ms r) (rises-behind n ns s) (within-tail m n ms ns e r p) (within-tail n m ns ms (sym e) s q) in
    λ i. e i ∷ rest i

-- Kinds and states, each below the other.

same-kind : (a b : Kind) → is_kind a ≡ true → is_kind b ≡ true → below_kind a b ≡ true → below_kind b a ≡ true → a ≡ b
same-kind k.Undefined k.Undefined f g p q = refl
same-kind k.Term k.Term f g p q = refl
same-kind k.OptTerm k.OptTerm f g p q = refl
same-kind (k.Tag few) (k.Tag many) f g p q = ap k.Tag (same-rising few many f g (all-in many few p) (all-in few many q))
same-kind k.Trace k.Trace f g p q = refl
same-kind k.Marker k.Marker f g p q = refl
same-kind a b f g p q = cc

kind-listed : (kinds : List Kind) (n : ℕ) → list_all is_kind kinds ≡ true → is_kind (listed kinds n) ≡ true
kind-listed [] n h = refl
kind-listed (kind ∷ kinds) zero h = (and_parts (is_kind kind) (list_all is_kind kinds) h).0
kind-listed (kind ∷ kinds) (suc n) h = kind-listed kinds n (and_parts (is_kind kind) (list_all is_kind kinds) h).1

same-kinds : (xs ys : List Kind) → list_all is_kind xs ≡ true → list_all is_kind ys ≡ true
    → ((n : ℕ) → below_kind (listed xs n) (listed ys n) ≡ true) → ((n : ℕ) → below_kind (listed ys n) (listed xs n) ≡ true) → (n : ℕ) → listed xs n ≡ listed ys n
same-kinds xs ys f g p q n = same-kind (listed xs n) (listed ys n) (kind-listed xs n f) (kind-listed ys n g) (p n) (q n)

same-state : (s t : SlotState) → Below (state_of s) (state_of t) → Below (state_of t) (state_of s) → state_of s ≡ state_of t
same-state s t p q = λ i. record {
  frame = p.frame i;
  xs = λ n. same-kinds s.xs t.xs s.xs_kinds t.xs_kinds p.xs q.xs n i;
  ys = λ n. same-kinds s.ys t.ys s.ys_kinds t.ys_kinds p.ys q.ys n i;
}

-- States that a map lists.

abbrev IsListed : Option State → Type 0
IsListed None = Unit {0}
IsListed (Some s) = (t : SlotState) × (s ≡ state_of t)

is-listed : (entries : List (ℕ × Option SlotState)) (label : ℕ) → IsListed (listed_at entries label)
is-listed [] label = tt
is-listed (entry ∷ entries) label = by (nat_eq entry.0 label) entry.1 (is-listed entries label)
  where
    by : (b : Bool) (o : Option SlotState) → IsListed (listed_at entries label) → IsListed (if b then option_map state_of o else listed_at entries label)
    by true None later = tt
    by true (Some t) later = (t, refl)
    by false o later = later

same-listed : (a b : State) (s t : SlotState) → a ≡ state_of s → b ≡ state_of t → Below a b → Below b a → a ≡ b
same-listed a b s t e f p q =
    e ∙ same-state s t (subst (λ x. Below x (state_of t)) e (subst (Below a) f p)) (subst (λ x. Below x (state_of s)) f (subst (Below b) e q)) ∙ sym f

same-reached : (a b : Option State) → IsListed a → IsListed b → BelowIfReached a b → BelowIfReached b a → a ≡ b
same-reached None None f g p q = refl
same-reached None (Some b) f g p q = absurd q
same-reached (Some a) None f g p q = absurd p
same-reached (Some a) (Some b) f g p q = ap Some (same-listed a b f.0 g.0 f.1 g.1 p q)

abbrev label_in : ℕ × Option SlotState → ℕ
label_in e = e.0

-- a label that is not listed has none
unlisted : (entries : List (ℕ × Option SlotState)) (label : ℕ) → is_in (map label_in entries) label ≡ false → listed_at entries label ≡ None
unlisted [] label h = refl
unlisted (entry ∷ entries) label h = by (nat_eq entry.0 label) (nat_eq label entry.0) refl refl (unlisted entries label) h
  where
    by : (b c : Bool) → nat_eq entry.0 label ≡ b → nat_eq label entry.0 ≡ c → (is_in (map label_in entries) label ≡ false → listed_at entries label ≡ None)
        → (c || is_in (map label_in entries) label) ≡ false → (if b then option_map state_of entry.1 else listed_at entries label) ≡ None
    by b true e f later h = absurd (true≢false h)
    by true false e f later h = absurd (grind (arith, nat_tests))
    by false false e f later h = later h

-- Maps.

one-map : (f : FunctionCode) (s t : SlotMap) → IsBest f s → IsBest f t → assignment_of s ≡ assignment_of t
one-map f s t p q = λ i. λ label. same label i
  where
    same : (label : ℕ) → assignment_of s label ≡ assignment_of t label
    same label = by (is_in (defined_in f.code) label) refl
      where
        by : (b : Bool) → is_in (defined_in f.code) label ≡ b → assignment_of s label ≡ assignment_of t label
        by true e =
            same-reached (assignment_of s label) (assignment_of t label) (is-listed s.at label) (is-listed t.at label)
            (p.best.below (assignment_of t) q.best.good label e) (q.best.below (assignment_of s) p.best.good label e)
        by false e = unlisted s.at label (p.lists label ∙ e) ∙ sym (unlisted t.at label (q.lists label ∙ e))

pub one_weight : (f : FunctionCode) (v w : ℕ) → Weighs f v → Weighs f w → v ≡ w
one_weight f v w p q = p.sum ∙ ap (λ at. weight at f) (one-map f p.slots q.slots p.best q.best) ∙ sym q.sum
