-- Parts of lawful turns, one after the other.
use Rattle.std.proofs.Common.{◌≡◌, ℕ, ◌+◌, ◌<◌, ◌≤◌, true, false, nat_eq, List, [], ◌∷◌, ◌++◌, length, inl, inr, ◌⊎◌, refl, sym, subst, arith}
use Rattle.std.proofs.lemmas.Bool.{eqb-true, or_parts, or_from, or_cases}
use Rattle.std.proofs.lemmas.List.{append_assoc, append-nil}
use Rattle.ej_term.specs.Term.{Term}
use Rattle.ej_world.specs.declared.event.Event.{Event}
use Rattle.ej_world.specs.declared.event.Event.TheVariants as event
use Rattle.ej_world.specs.Choices.{holds}
use Rattle.ej_world.specs.Lawful.{Within, MayGiveAll, made, next_after, live_after, LosesAll}

-- ---- events

pub next_made : (next : ℕ) (e : Event Term) (events : List (Event Term)) → next_after next e + length (made events) ≡ next + length (made (e ∷ events))
next_made next (event.Spawn p q how) events = omega arith
next_made next _ events = refl

pub live_made : (live : List ℕ) (e : Event Term) (events : List (Event Term)) → live_after live e ++ made events ≡ live ++ made (e ∷ events)
live_made live (event.Spawn p q how) events = append_assoc live (q ∷ []) (made events)
live_made live _ events = refl

pub may_give_more : (me next : ℕ) (live : List ℕ) (es fs : List (Event Term)) → MayGiveAll me next live es → MayGiveAll me (next + length (made es)) (live ++ made es) fs → MayGiveAll me next live (es ++ fs)
may_give_more me next live [] fs may more =
    let same : next + 0 ≡ next = omega arith in
    subst (λ n. MayGiveAll me n live fs) same (subst (λ live. MayGiveAll me (next + 0) live fs) (append-nil live) more)
may_give_more me next live (e ∷ es) fs may more = (
  may.0,
  may_give_more me (next_after next e) (live_after live e) es fs may.1
      (subst (λ n. MayGiveAll me n (live_after live e ++ made es) fs) (sym (next_made next e es)) (subst (λ live. MayGiveAll me (next + length (made (e ∷ es))) live fs) (sym (live_made live e es)) more)),
)

-- ---- messages

pub loses_more : (ms ns before between after : List Term) → LosesAll ms before between → LosesAll ns between after → LosesAll (ms ++ ns) before after
loses_more [] ns before between after one other = subst (λ before. LosesAll ns before after) one other
loses_more (m ∷ ms) ns before between after one other = (one.0, one.1, loses_more ms ns one.0 between after one.2 other)

-- all of them
pub loses_each : (ms : List Term) → LosesAll ms ms []
loses_each [] = refl
loses_each (m ∷ ms) = (ms, record { front = []; back = ms; was = refl; is = refl }, loses_each ms)

-- ---- numbers

-- a number that rising ones hold is below their bound
pub held_below : (least bound n : ℕ) (ns : List ℕ) → Within least bound ns → holds ns n ≡ true → n < bound
held_below least bound n [] within holds = absurd cc
held_below least bound n (m ∷ ns) within has = by (or_cases (nat_eq n m) (holds ns n) has) (held_below (m + 1) bound n ns within.2)
  where
    by : (nat_eq n m ≡ true) ⊎ (holds ns n ≡ true) → (holds ns n ≡ true → n < bound) → n < bound
    by (inl e) rest = omega (arith, eqb-true n m e, within.1)
    by (inr e) rest = rest e

-- the next number goes behind all
pub within_last : (least bound : ℕ) (ns : List ℕ) → least ≤ bound → Within least bound ns → Within least (bound + 1) (ns ++ bound ∷ [])
within_last least bound [] le within = (le, omega arith, tt)
within_last least bound (n ∷ ns) le within = (within.0, omega (arith, within.1), within_last (n + 1) bound ns (omega (arith, within.1)) within.2)

pub lacks_last : (ns : List ℕ) (n m : ℕ) → holds ns n ≡ false → nat_eq n m ≡ false → holds (ns ++ m ∷ []) n ≡ false
lacks_last [] n m lacks other = or_from (nat_eq n m) false other refl
lacks_last (k ∷ ns) n m lacks other =
    let parts = or_parts (nat_eq n k) (holds ns n) lacks in
    or_from (nat_eq n k) (holds (ns ++ m ∷ []) n) parts.0 (lacks_last ns n m parts.1 other)
