-- Kinds and states that are below others.
use Rattle.std.proofs.Common.{◌≡◌, ℕ, Bool, true, false, nat_eq, ◌&&◌, ◌||◌, List, [], ◌∷◌, Option, None, Some, refl, sym, ap, subst, ◌∙◌, arith}
use Rattle.std.specs.List.{list_all}
use Rattle.std.specs.Cmp.{nat_eq_equiv}
use Rattle.std.proofs.lemmas.Bool.{true≢false}
use Rattle.std.proofs.lemmas.Bool.Decides.{nat_tests}
use Rattle.beam_code.specs.declared.kind.Kind.{Kind}
use Rattle.beam_code.specs.declared.kind.Kind.TheVariants as k
use Rattle.beam_code.specs.Labels.{is_in}
use Rattle.beam_code.specs.Slots.{State, Below, BelowIfReached, below_kind}

same-number : (m n : ℕ) → nat_eq m n ≡ true → m ≡ n
same-number m n h = grind (arith, nat_tests)

-- Lists of labels.

and-left : (a b : Bool) → (a && b) ≡ true → a ≡ true
and-left true b h = refl
and-left false b h = h

and-right : (a b : Bool) → (a && b) ≡ true → b ≡ true
and-right true b h = h
and-right false b h = absurd (true≢false (sym h))

pub and-both : (a b : Bool) → a ≡ true → b ≡ true → (a && b) ≡ true
and-both true b p q = q
and-both false b p q = p

pub or-right : (a b : Bool) → b ≡ true → (a || b) ≡ true
or-right true b h = refl
or-right false b h = h

pub all-in : (many few : List ℕ) → list_all (is_in many) few ≡ true → (n : ℕ) → is_in few n ≡ true → is_in many n ≡ true
all-in many [] h n i = absurd (true≢false (sym i))
all-in many (m ∷ few) h n i = by (all-in many few (and-right _ _ h) n) (nat_eq n m) refl i
  where
    by : (is_in few n ≡ true → is_in many n ≡ true) → (b : Bool) → nat_eq n m ≡ b → (b || is_in few n) ≡ true → is_in many n ≡ true
    by rest true e i = subst (λ q. is_in many q ≡ true) (sym (same-number n m e)) (and-left _ _ h)
    by rest false e i = rest i

pub in-all : (many few : List ℕ) → ((n : ℕ) → is_in few n ≡ true → is_in many n ≡ true) → list_all (is_in many) few ≡ true
in-all many [] h = refl
in-all many (m ∷ few) h =
    and-both _ _ (h m (ap (λ b. b || is_in few m) (nat_eq_equiv.refl m))) (in-all many few (λ n i. h n (or-right (nat_eq n m) _ i)))

-- Kinds.

pub below-refl : (a : Kind) → below_kind a a ≡ true
below-refl k.Undefined = refl
below-refl k.Term = refl
below-refl k.OptTerm = refl
below-refl (k.Tag labels) = in-all labels labels (λ n i. i)
below-refl k.Trace = refl
below-refl k.Marker = refl

pub below-trans : (a b c : Kind) → below_kind a b ≡ true → below_kind b c ≡ true → below_kind a c ≡ true
below-trans (k.Tag x) (k.Tag y) (k.Tag z) p q = in-all z x (λ n i. all-in z y q n (all-in y x p n i))
below-trans (k.Tag x) (k.Tag y) k.Undefined p q = absurd (true≢false (sym q))
below-trans (k.Tag x) (k.Tag y) k.Term p q = absurd (true≢false (sym q))
below-trans (k.Tag x) (k.Tag y) k.OptTerm p q = absurd (true≢false (sym q))
below-trans (k.Tag x) (k.Tag y) k.Trace p q = absurd (true≢false (sym q))
below-trans (k.Tag x) (k.Tag y) k.Marker p q = absurd (true≢false (sym q))
below-trans (k.Tag x) k.Undefined c p q = absurd (true≢false (sym p))
below-trans (k.Tag x) k.Term c p q = absurd (true≢false (sym p))
below-trans (k.Tag x) k.OptTerm c p q = absurd (true≢false (sym p))
below-trans (k.Tag x) k.Trace c p q = absurd (true≢false (sym p))
below-trans (k.Tag x) k.Marker c p q = absurd (true≢false (sym p))
below-trans k.Undefined k.Undefined c p q = q
below-trans k.Term k.Term c p q = q
below-trans k.OptTerm k.OptTerm c p q = q
below-trans k.Trace k.Trace c p q = q
below-trans k.Marker k.Marker c p q = q
below-trans k.Term k.OptTerm k.OptTerm p q = refl
below-trans k.Term k.OptTerm k.Undefined p q = refl
below-trans k.Term k.Undefined k.Undefined p q = refl
below-trans k.OptTerm k.Undefined k.Undefined p q = refl
below-trans k.Trace k.Undefined k.Undefined p q = refl
below-trans k.Marker k.Undefined k.Undefined p q = refl
below-trans a b c p q = cc

-- States.

pub below-same : (s : State) → Below s s
below-same s = record { frame = refl; xs = λ n. below-refl (s.xs n); ys = λ n. below-refl (s.ys n) }

pub below-below : (a b c : State) → Below a b → Below b c → Below a c
below-below a b c p q = record {
  frame = p.frame ∙ q.frame;
  xs = λ n. below-trans (a.xs n) (b.xs n) (c.xs n) (p.xs n) (q.xs n);
  ys = λ n. below-trans (a.ys n) (b.ys n) (c.ys n) (p.ys n) (q.ys n);
}

pub reached-below : (a b c : Option State) → BelowIfReached a b → BelowIfReached b c → BelowIfReached a c
reached-below None b c p q = tt
reached-below (Some a) None c p q = absurd p
reached-below (Some a) (Some b) None p q = absurd q
reached-below (Some a) (Some b) (Some c) p q = below-below a b c p q
