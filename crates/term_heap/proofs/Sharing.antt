-- Terms that are made once: what the tables of a heap tell stays true of more terms.
use Rattle.std.proofs.Common.{◌≡◌, ℕ, Bool, nat_eq, true, false, List, [], slice_get, Option, Some, option_map, codes, refl, sym, ap, subst, ◌∙◌, true≢false, is_eq}
use Rattle.std.specs.Prelude as std
use Rattle.std.specs.Prelude.{IfSome, Result, Ok, Err, OnOk, OnErr}
use Rattle.std.specs.declared.cmp.Ordering.{Ordering}
use Rattle.std.specs.declared.cmp.Ordering.TheVariants.{Less, Equal, Greater}
use Rattle.std.proofs.lemmas.Option.{none-some}
use Rattle.std.proofs.lemmas.Bool.{eqb-true, eqb-false}
use Rattle.std.specs.Str.{chars}
use Rattle.ej_term.specs.Term.{Term, Atom}
use Rattle.ej_term.specs.Order.{compare}
use Rattle.ej_term.specs.Tests.{equal}
use Rattle.ej_term.proofs.OrderLaws.{order-exact}
use Rattle.ej_term.proofs.Options.{unsome}
use Rattle.term_heap.specs.Cells.{Extends}
use Rattle.term_heap.specs.Once.{at, once_term, atom_of, are_same, AreKept}
use Rattle.term_heap.specs.declared.cell.TermId.{TermId}
use Rattle.term_heap.proofs.Made.{extends-get}

-- no id is kept at first
pub none-kept : (of : ℕ → Option Term) (ts : List Term) (ids : List (Option TermId)) → ids ≡ [] → AreKept of ts ids
none-kept of ts ids e place id is = absurd (none-some id (ap (λ (zs : List (Option TermId)). at zs place) (sym e) ∙ is))

is-equal : (o : Ordering) → is_eq o ≡ true → o ≡ Equal
is-equal Less e = absurd (true≢false (sym e))
is-equal Equal e = refl
is-equal Greater e = absurd (true≢false (sym e))

same-terms : (t u : Term) → equal t u ≡ true → t ≡ u
same-terms t u e = (order-exact t u).0 (is-equal (compare t u) e)

equal-itself : (t : Term) → equal t t ≡ true
equal-itself t = ap is_eq ((order-exact t t).1 refl)

-- what is the same is there
pub same-is : (o p : Option Term) → are_same o p ≡ true → (t : Term) × (o ≡ Some t) × (p ≡ Some t)
same-is std.None p e = absurd (true≢false (sym e))
same-is (Some t) std.None e = absurd (true≢false (sym e))
same-is (Some t) (Some u) e = (t, refl, ap Some (sym (same-terms t u e)))

pub is-same : (o p : Option Term) (t : Term) → o ≡ Some t → p ≡ Some t → are_same o p ≡ true
is-same std.None p t e d = absurd (none-some t e)
is-same (Some x) std.None t e d = absurd (none-some t d)
is-same (Some x) (Some y) t e d = subst (λ (z : Option Term). are_same z (Some y) ≡ true) (sym e) (subst (λ (z : Option Term). are_same (Some t) z ≡ true) (sym d) (equal-itself t))

-- more terms
pub kept-still : (of : ℕ → Option Term) (ts more : List Term) (ids : List (Option TermId)) → Extends ts more → AreKept of ts ids → AreKept of more ids
kept-still of ts more ids e kept place id is =
    let s = same-is (slice_get ts id.0) (of place) (kept place id is) in
    is-same (slice_get more id.0) (of place) s.0 (extends-get ts more id.0 s.0 e s.1) s.2

-- more texts
pub named-still : (us vs : List (List ℕ)) (ts more : List Term) (ids : List (Option TermId)) → Extends us vs → more ≡ ts → AreKept (atom_of us) ts ids → AreKept (atom_of vs) more ids
named-still us vs ts more ids d e kept place id is =
    let s = same-is (slice_get ts id.0) (atom_of us place) (kept place id is) in
    is-same (slice_get more id.0) (atom_of vs place) s.0 (ap (λ (zs : List Term). slice_get zs id.0) e ∙ s.1) (later (slice_get us place) (slice_get vs place) (λ name. extends-get us vs place name d) s.0 s.2)
  where
    later : (o p : Option (List ℕ)) → ((name : List ℕ) → o ≡ Some name → p ≡ Some name) → (t : Term) → option_map Atom o ≡ Some t → option_map Atom p ≡ Some t
    later std.None p h t e = absurd (none-some t e)
    later (Some name) p h t e = ap (option_map Atom) (h name refl) ∙ e

-- one more id in a table
pub kept-put : (of : ℕ → Option Term) (ts : List Term) (ids news : List (Option TermId)) (place : ℕ) (id : TermId)
    → ((k : ℕ) → (k ≡ place → ⊥) → at news k ≡ at ids k) → at news place ≡ Some id → are_same (slice_get ts id.0) (of place) ≡ true → AreKept of ts ids → AreKept of ts news
kept-put of ts ids news place id others here same kept k other is = by (nat_eq k place) refl
  where
    by : (b : Bool) → nat_eq k place ≡ b → are_same (slice_get ts other.0) (of k) ≡ true
    by true e =
        let e = eqb-true k place e in
        let is_id : id ≡ other = unsome id other (sym here ∙ ap (at news) (sym e) ∙ is) in
        subst (λ (n : ℕ). are_same (slice_get ts other.0) (of n) ≡ true) (sym e) (subst (λ (i : TermId). are_same (slice_get ts i.0) (of place) ≡ true) is_id same)
    by false e = kept k other (sym (others k (eqb-false k place e)) ∙ is)

-- an id that is kept stands for the term of its place
pub kept-term : (of : ℕ → Option Term) (ts : List Term) (ids : List (Option TermId)) (place : ℕ) (r : Option TermId) → r ≡ at ids place → AreKept of ts ids → IfSome r (λ id. slice_get ts id.0 ≡ of place)
kept-term of ts ids place std.None e kept = tt
kept-term of ts ids place (Some id) e kept =
    let s = same-is (slice_get ts id.0) (of place) (kept place id (sym e)) in
    s.1 ∙ sym s.2

-- the same table, or one with that id
pub kept-set : {E : Type 0} (of : ℕ → Option Term) (ts : List Term) (ids news : List (Option TermId)) (place : ℕ) (id : TermId) (t : Term) (r : Result (Unit {0}) E)
    → ((k : ℕ) → (k ≡ place → ⊥) → at news k ≡ at ids k) → OnOk r (at news place ≡ Some id) → OnErr r ((k : ℕ) → at news k ≡ at ids k)
    → of place ≡ Some t → slice_get ts id.0 ≡ Some t → AreKept of ts ids → AreKept of ts news
kept-set of ts ids news place id t (Ok u) others here refused is stands kept = kept-put of ts ids news place id others here (is-same (slice_get ts id.0) (of place) t stands is) kept
kept-set of ts ids news place id t (Err e) others here refused is stands kept = λ k other at_k. kept k other (sym (refused k) ∙ at_k)

pub atom-known : (us : List (List ℕ)) (place : ℕ) (name : List ℕ) → slice_get us place ≡ Some name → atom_of us place ≡ Some (Atom name)
atom-known us place name e = ap (option_map Atom) e

-- the words of the booleans are their characters
pub true_word : once_term 2 ≡ Atom (chars (codes "true"))
unfolding chars
true_word = refl

pub false_word : once_term 1 ≡ Atom (chars (codes "false"))
unfolding chars
false_word = refl

pub ruleset words = (true_word, false_word)
