-- The join of two kinds, of two lists of kinds, and of two states.
use Rattle.std.proofs.Common.{◌≡◌, ◌<◌, ◌≤◌, ℕ, zero, suc, ◌+◌, ◌-◌, ◌*◌, ◌^◌, Bool, true, false, ◌&&◌, ◌||◌, List, [], ◌∷◌, ◌++◌, take, length, Option, None, Some, refl, sym, ap, subst, ◌∙◌, arith, inl, inr, lit≤, suc-mul}
use Rattle.std.specs.Prelude.{if◌then◌else◌, max, ◌⊎◌}
use borrow.Author.Count.{below_more}
use Rattle.std.proofs.lemmas.List.{get_or_append_left, get_or_push, get_or_past, take_more, take_all, length_push}
use Rattle.std.proofs.lemmas.List.Sums.{sum_by_push, sum_by-append, sum_by-cons}
use Rattle.beam_code.specs.declared.slot_state.SlotState.{SlotState}
use Rattle.beam_code.specs.Kinds.{IsFront}
use Rattle.std.specs.List.{list_all, sum_by}
use Rattle.std.proofs.lemmas.Bool.{true≢false}
use Rattle.std.proofs.lemmas.Bool.Decides.{nat_tests}
use Rattle.beam_code.specs.declared.kind.Kind.{Kind}
use Rattle.beam_code.specs.declared.kind.Kind.TheVariants as k
use Rattle.beam_code.specs.Flow.{is_tag}
use Rattle.beam_code.specs.Labels.{is_in}
use Rattle.beam_code.specs.SlotForm.{rises, is_kind, is_size}
use Rattle.beam_code.specs.Slots.{State, below_kind, listed, state_of}
use Rattle.beam_code.proofs.BelowLaw.{all-in, in-all, or-right}
use Rattle.slot_kinds.specs.Unions.{Grows, IsUnited}
use Rattle.slot_kinds.specs.Joins.{IsJoinKind, NoJoinKind, rank, bit, meeting, changes, IsMet, AreMetTo, AreMet, Clash, IsJoin, NoJoin, JoinsTo, rank_of}
use Rattle.slot_kinds.proofs.UnionLaw.{in-union, union-rises}

le-or-lt : (m n : ℕ) → (m ≤ n) ⊎ (n < m)
le-or-lt m n = grind arith

-- Kinds that are no tags.

-- where two kinds meet in Undefined, nothing else is above both
only-top : (a b d : Kind) → meeting a b ≡ k.Undefined → is_tag a ≡ false → is_tag b ≡ false → below_kind a d ≡ true → below_kind b d ≡ true → below_kind k.Undefined d ≡ true
only-top a b k.Undefined e ta tb p q = refl
only-top (k.Tag few) b (k.Tag many) e ta tb p q = absurd (true≢false ta)
only-top k.Term k.Term k.Term e ta tb p q = cc
only-top k.Term k.Term k.OptTerm e ta tb p q = cc
only-top k.Term k.OptTerm k.OptTerm e ta tb p q = cc
only-top k.OptTerm k.Term k.OptTerm e ta tb p q = cc
only-top k.OptTerm k.OptTerm k.OptTerm e ta tb p q = cc
only-top k.Trace k.Trace k.Trace e ta tb p q = cc
only-top k.Marker k.Marker k.Marker e ta tb p q = cc
only-top a b d e ta tb p q = cc

below-top : (a : Kind) → is_tag a ≡ false → below_kind a k.Undefined ≡ true
below-top k.Undefined t = refl
below-top k.Term t = refl
below-top k.OptTerm t = refl
below-top (k.Tag labels) t = absurd (true≢false t)
below-top k.Trace t = refl
below-top k.Marker t = refl

to-top : (a b : Kind) → meeting a b ≡ k.Undefined → is_tag a ≡ false → is_tag b ≡ false → IsJoinKind a b k.Undefined
to-top a b e ta tb = record { one = below-top a ta; other = below-top b tb; least = λ d p q. only-top a b d e ta tb p q }

falls-to : (a b : Kind) → is_tag a ≡ false → rank (meeting a b) + bit (changes a b) ≤ rank a
falls-to k.Undefined b t = omega arith
falls-to k.Term k.Term t = omega arith
falls-to k.Term k.OptTerm t = omega arith
falls-to k.OptTerm k.Term t = omega arith
falls-to k.OptTerm k.OptTerm t = omega arith
falls-to k.Trace k.Trace t = omega arith
falls-to k.Marker k.Marker t = omega arith
falls-to (k.Tag labels) b t = absurd (true≢false t)
falls-to a b t = omega arith

shift-bound : (top new old : ℕ) → old < new → new ≤ top → (top - new) + 1 ≤ top - old
shift-bound top new old h l = omega arith

-- neither is a tag
pub met-plain : (a b c : Kind) (changed : Bool) → is_tag a ≡ false → is_tag b ≡ false → c ≡ meeting a b → changed ≡ changes a b → IsMet a b c changed
met-plain a b c changed ta tb e t = subst (λ x. IsMet a b x changed) (sym e) (subst (λ x. IsMet a b (meeting a b) x) (sym t) (record { join = joins a b ta tb; falls = falls-to a b ta; same = stays a b tb; formed = λ p q. forms a b }))
  where
    stays : (a b : Kind) → is_tag b ≡ false → changes a b ≡ false → below_kind b a ≡ true
    stays k.Undefined b t e = below-top b t
    stays k.Term k.Term t e = refl
    stays k.OptTerm k.Term t e = refl
    stays k.OptTerm k.OptTerm t e = refl
    stays k.Trace k.Trace t e = refl
    stays k.Marker k.Marker t e = refl
    stays a b t e = cc

    forms : (a b : Kind) → is_kind (meeting a b) ≡ true
    forms k.Term k.Term = refl
    forms k.Term k.OptTerm = refl
    forms k.OptTerm k.Term = refl
    forms k.OptTerm k.OptTerm = refl
    forms k.Trace k.Trace = refl
    forms k.Marker k.Marker = refl
    forms a b = refl

    joins : (a b : Kind) → is_tag a ≡ false → is_tag b ≡ false → IsJoinKind a b (meeting a b)
    joins k.Term k.Term ta tb = record { one = refl; other = refl; least = λ d p q. p }
    joins k.Term k.OptTerm ta tb = record { one = refl; other = refl; least = λ d p q. q }
    joins k.OptTerm k.Term ta tb = record { one = refl; other = refl; least = λ d p q. p }
    joins k.OptTerm k.OptTerm ta tb = record { one = refl; other = refl; least = λ d p q. p }
    joins k.Trace k.Trace ta tb = record { one = refl; other = refl; least = λ d p q. p }
    joins k.Marker k.Marker ta tb = record { one = refl; other = refl; least = λ d p q. p }
    joins a b ta tb = to-top a b refl ta tb

-- Tags.

pub clash-tag : (a b : Kind) (labels : List ℕ) → a ≡ k.Tag labels → is_tag b ≡ false → NoJoinKind a b
clash-tag a b labels e t d p q = none b d t (subst (λ x. below_kind x d ≡ true) e p) q
  where
    none : (b d : Kind) → is_tag b ≡ false → below_kind (k.Tag labels) d ≡ true → below_kind b d ≡ true → ⊥
    none (k.Tag l) (k.Tag m) t p q = true≢false t
    none k.Undefined (k.Tag m) t p q = cc
    none k.Term (k.Tag m) t p q = cc
    none k.OptTerm (k.Tag m) t p q = cc
    none k.Trace (k.Tag m) t p q = cc
    none k.Marker (k.Tag m) t p q = cc
    none b d t p q = cc

pub met-tags : (labels others all : List ℕ) (grew : Bool) → length all ≤ 2 ^ 64 → IsUnited labels others all grew → IsMet (k.Tag labels) (k.Tag others) (k.Tag all) grew
met-tags labels others all grew small u = record {
  join = record {
    one = in-all all labels (λ n i. is n ∙ ap (λ b. b || is_in others n) i);
    other = in-all all others (λ n i. is n ∙ or-right (is_in labels n) (is_in others n) i);
    least = above;
  };
  falls = lower grew u.grows;
  same = λ e. in-all labels others (λ n i. ap (λ l. is_in l n) (sym (same e)) ∙ is n ∙ or-right (is_in labels n) (is_in others n) i);
  formed = λ p q. ap rises u.is ∙ union-rises labels others p;
}
  where
    is : (n : ℕ) → is_in all n ≡ (is_in labels n || is_in others n)
    is n = ap (λ l. is_in l n) u.is ∙ in-union labels others n

    or-either : (a b c : Bool) → (a ≡ true → c ≡ true) → (b ≡ true → c ≡ true) → (a || b) ≡ true → c ≡ true
    or-either true b c f g h = f refl
    or-either false b c f g h = g h

    above : (d : Kind) → below_kind (k.Tag labels) d ≡ true → below_kind (k.Tag others) d ≡ true → below_kind (k.Tag all) d ≡ true
    above (k.Tag many) p q =
        in-all many all (λ n i. or-either (is_in labels n) (is_in others n) (is_in many n) (all-in many labels p n) (all-in many others q n) (sym (is n) ∙ i))
    above d p q = p

    same : grew ≡ false → all ≡ labels
    same e = subst (λ g. Grows g labels all) e u.grows

    lower : (g : Bool) → Grows g labels all → rank (k.Tag all) + bit g ≤ rank (k.Tag labels)
    lower true g = shift-bound (2 ^ 64) (length all) (length labels) g small
    lower false g = subst (λ l. (2 ^ 64 - length all) + 0 ≤ 2 ^ 64 - length l) g (omega arith)

pub few-enough : (n len cap : ℕ) → len ≡ n → len ≤ cap → cap < 2 ^ 63 → n ≤ 2 ^ 64
few-enough n len cap e h l = omega arith

-- Lists of kinds.

and-left : (a b : Bool) → (a && b) ≡ true → a ≡ true
and-left true b h = refl
and-left false b h = h

and-right : (a b : Bool) → (a && b) ≡ true → b ≡ true
and-right true b h = h
and-right false b h = absurd (true≢false (sym h))

and-both : (a b : Bool) → a ≡ true → b ≡ true → (a && b) ≡ true
and-both true b p q = q
and-both false b p q = p

all-listed : (kinds : List Kind) (n : ℕ) → list_all is_kind kinds ≡ true → is_kind (listed kinds n) ≡ true
all-listed [] n h = refl
all-listed (kind ∷ kinds) zero h = and-left _ _ h
all-listed (kind ∷ kinds) (suc n) h = all-listed kinds n (and-right _ _ h)

all-push : (kinds : List Kind) (kind : Kind) → list_all is_kind kinds ≡ true → is_kind kind ≡ true → list_all is_kind (kinds ++ kind ∷ []) ≡ true
all-push [] kind h f = and-both _ _ f refl
all-push (first ∷ kinds) kind h f = and-both _ _ (and-left _ _ h) (all-push kinds kind (and-right _ _ h) f)

sum-take : (a : List Kind) (at : ℕ) → sum_by rank (take (at + 1) a) ≡ sum_by rank (take at a) + rank (listed a at)
sum-take a at = elim (le-or-lt (length a) at) [ inl p ↦ past p | inr q ↦ within q ]
  where
    past : length a ≤ at → sum_by rank (take (at + 1) a) ≡ sum_by rank (take at a) + rank (listed a at)
    past p =
        ap (sum_by rank) (take_all (at + 1) a (omega arith) ∙ sym (take_all at a p)) ∙ (omega arith) ∙ ap (λ kind. sum_by rank (take at a) + rank kind) (sym (get_or_past a at k.Undefined p))

    within : at < length a → sum_by rank (take (at + 1) a) ≡ sum_by rank (take at a) + rank (listed a at)
    within q = ap (sum_by rank) (take_more a at k.Undefined q) ∙ sum_by_push rank (take at a) (listed a at)

pub met-none : (a b : List Kind) → AreMetTo 0 a b [] false
met-none a b = record { joins = λ n h. absurd (omega arith); long = refl; falls = omega arith; same = λ e n h. absurd (omega arith); formed = refl }

bits : (new one old : Bool) → new ≡ (if one then true else old) → bit new ≤ bit one + bit old
bits new true old e = subst (λ b. bit b ≤ 1 + bit old) (sym e) (omega arith)
bits new false old e = subst (λ b. bit b ≤ 0 + bit old) (sym e) (omega arith)

unchanged : (new one old : Bool) → new ≡ (if one then true else old) → new ≡ false → (one ≡ false) × (old ≡ false)
unchanged new true old e f = absurd (true≢false (sym e ∙ f))
unchanged new false old e f = (refl, sym e ∙ f)

pub met-more : (at : ℕ) (a b c : List Kind) (kind : Kind) (new one old : Bool) → AreMetTo at a b c old → IsMet (listed a at) (listed b at) kind one → new ≡ (if one then true else old)
    → list_all is_kind a ≡ true → list_all is_kind b ≡ true → AreMetTo (at + 1) a b (c ++ kind ∷ []) new
met-more at a b c kind new one old h m e fa fb = record {
  joins = below_more (λ n. IsJoinKind (listed a n) (listed b n) (listed (c ++ kind ∷ []) n)) at
      (λ n l. subst (IsJoinKind (listed a n) (listed b n)) (sym (get_or_append_left c (kind ∷ []) k.Undefined n (omega (arith, h.long)))) (h.joins n l))
      (subst (IsJoinKind (listed a at) (listed b at)) (sym (get_or_push c kind k.Undefined at h.long)) m.join);
  long = length_push c kind ∙ ap (λ n. n + 1) h.long;
  falls = omega (arith, sum_by_push rank c kind, sum-take a at, h.falls, m.falls, bits new one old e);
  same = λ f. below_more (λ n. below_kind (listed b n) (listed a n) ≡ true) at (h.same (unchanged new one old e f).1) (m.same (unchanged new one old e f).0);
  formed = all-push c kind h.formed (m.formed (all-listed a at fa) (all-listed b at fb));
}

pub met-all : (at : ℕ) (a b c : List Kind) (changed : Bool) → AreMetTo at a b c changed → at ≡ max (length a) (length b) → AreMet a b c changed
met-all at a b c changed h e = record {
  joins = λ n. elim (le-or-lt at n) [ inl p ↦ past n p | inr q ↦ h.joins n q ];
  long = h.long ∙ e;
  falls = subst (λ l. sum_by rank c + bit changed ≤ sum_by rank l) (take_all at a (omega (arith, e))) h.falls;
  same = λ f n. elim (le-or-lt at n) [ inl p ↦ past-below n p | inr q ↦ h.same f n q ];
  formed = h.formed;
}
  where
    end-a : (n : ℕ) → at ≤ n → listed a n ≡ k.Undefined
    end-a n p = get_or_past a n k.Undefined (omega (arith, e))

    end-b : (n : ℕ) → at ≤ n → listed b n ≡ k.Undefined
    end-b n p = get_or_past b n k.Undefined (omega (arith, e))

    end-c : (n : ℕ) → at ≤ n → listed c n ≡ k.Undefined
    end-c n p = get_or_past c n k.Undefined (omega (arith, h.long))

    past : (n : ℕ) → at ≤ n → IsJoinKind (listed a n) (listed b n) (listed c n)
    past n p =
        subst (λ x. IsJoinKind x (listed b n) (listed c n)) (sym (end-a n p)) (subst (λ x. IsJoinKind k.Undefined x (listed c n)) (sym (end-b n p)) (subst (IsJoinKind k.Undefined k.Undefined) (sym (end-c n p)) (to-top k.Undefined k.Undefined refl refl refl)))

    past-below : (n : ℕ) → at ≤ n → below_kind (listed b n) (listed a n) ≡ true
    past-below n p = subst (λ x. below_kind x (listed a n) ≡ true) (sym (end-b n p)) (subst (λ x. below_kind k.Undefined x ≡ true) (sym (end-a n p)) refl)

-- States.

pub same-size : (f : Option ℕ) (m n : ℕ) → is_size f m ≡ true → is_size f n ≡ true → m ≡ n
same-size None m n p q = grind (arith, nat_tests)
same-size (Some size) m n p q = grind (arith, nat_tests)

-- the frames differ
pub apart-frames : (s t : State) → (s.frame ≡ t.frame → ⊥) → NoJoin s t
apart-frames s t ne d p q = ne (p.frame ∙ sym q.frame)

pub clash-xs : (s t : SlotState) → Clash s.xs t.xs → NoJoin (state_of s) (state_of t)
clash-xs s t h d p q = h.1 (d.xs h.0) (p.xs h.0) (q.xs h.0)

pub clash-ys : (s t : SlotState) → Clash s.ys t.ys → NoJoin (state_of s) (state_of t)
clash-ys s t h d p q = h.1 (d.ys h.0) (p.ys h.0) (q.ys h.0)

-- neither list changed
pub stays-below : (s t : SlotState) (xs ys : List Kind) (cx cy : Bool) → s.frame ≡ t.frame → AreMet s.xs t.xs xs cx → AreMet s.ys t.ys ys cy → cx ≡ false → cy ≡ false → JoinsTo s t None
stays-below s t xs ys cx cy e x y fx fy = record { frame = sym e; xs = x.same fx; ys = y.same fy }

join-of : (s t : SlotState) (xs ys : List Kind) (cx cy : Bool) → s.frame ≡ t.frame → AreMet s.xs t.xs xs cx → AreMet s.ys t.ys ys cy
    → IsJoin (state_of s) (state_of t) (record { frame = s.frame; xs = listed xs; ys = listed ys })
join-of s t xs ys cx cy e x y = record {
  one = record { frame = refl; xs = λ n. (x.joins n).one; ys = λ n. (y.joins n).one };
  other = record { frame = sym e; xs = λ n. (x.joins n).other; ys = λ n. (y.joins n).other };
  least = λ d p q. record { frame = p.frame; xs = λ n. (x.joins n).least (d.xs n) (p.xs n) (q.xs n); ys = λ n. (y.joins n).least (d.ys n) (p.ys n) (q.ys n) };
}

-- one of them did
pub rises-to : (s t u : SlotState) (xs ys : List Kind) (cx cy : Bool) → s.frame ≡ t.frame → AreMet s.xs t.xs xs cx → AreMet s.ys t.ys ys cy → 1 ≤ bit cx + bit cy
    → state_of u ≡ record { frame = s.frame; xs = listed xs; ys = listed ys } → IsFront u.xs xs → u.ys ≡ ys → JoinsTo s t (Some u)
rises-to s t u xs ys cx cy e x y c is front same = (
  subst (IsJoin (state_of s) (state_of t)) (sym is) (join-of s t xs ys cx cy e x y),
  omega (arith, x.falls, y.falls, c, ap (sum_by rank) same, ap (sum_by rank) front.1, sum_by-append rank u.xs front.0),
)

-- the same where the lists are given by other names
pub rises-from : (s t u : SlotState) (ax bx ay by xs ys : List Kind) (cx cy : Bool) → ax ≡ s.xs → bx ≡ t.xs → ay ≡ s.ys → by ≡ t.ys → s.frame ≡ t.frame → AreMet ax bx xs cx → AreMet ay by ys cy → 1 ≤ bit cx + bit cy
    → state_of u ≡ record { frame = s.frame; xs = listed xs; ys = listed ys } → IsFront u.xs xs → u.ys ≡ ys → JoinsTo s t (Some u)
rises-from s t u ax bx ay by xs ys cx cy eax ebx eay eby e x y =
    rises-to s t u xs ys cx cy e (subst (λ l. AreMet l t.xs xs cx) eax (subst (λ l. AreMet ax l xs cx) ebx x)) (subst (λ l. AreMet l t.ys ys cy) eay (subst (λ l. AreMet ay l ys cy) eby y))

pub one-bit : (a b : Bool) → a ≡ true → 1 ≤ bit a + bit b
one-bit a b e = subst (λ x. 1 ≤ bit x + bit b) (sym e) (omega arith)

pub other-bit : (a b : Bool) → b ≡ true → 1 ≤ bit a + bit b
other-bit a b e = subst (λ x. 1 ≤ bit a + bit x) (sym e) (omega arith)

-- Ranks are bounded.

rank-bound : (kind : Kind) → rank kind ≤ 2 ^ 64
rank-bound k.Undefined = omega arith
rank-bound k.Term = lit≤ tt
rank-bound k.OptTerm = lit≤ tt
rank-bound (k.Tag labels) = omega arith
rank-bound k.Trace = lit≤ tt
rank-bound k.Marker = lit≤ tt

add-bound : (r s n top : ℕ) → r ≤ top → s ≤ n * top → r + s ≤ suc n * top
add-bound r s n top p q = subst (λ m. r + s ≤ m) (sym (suc-mul n top)) (omega arith)

ranks-bound : (kinds : List Kind) → sum_by rank kinds ≤ length kinds * 2 ^ 64
ranks-bound [] = omega arith
ranks-bound (kind ∷ kinds) = subst (λ m. m ≤ suc (length kinds) * 2 ^ 64) (sym (sum_by-cons rank kind kinds)) (add-bound (rank kind) (sum_by rank kinds) (length kinds) (2 ^ 64) (rank-bound kind) (ranks-bound kinds))

pub state-bound : (s : SlotState) → length s.ys < 2 ^ 64 → rank_of s < 2 ^ 130
state-bound s h = omega (arith, ranks-bound s.xs, ranks-bound s.ys, s.xs_few, h)
