-- From a lower state each row that holds from a higher one holds, and goes to the same labels in lower states.
use Rattle.std.proofs.Common.{◌≡◌, ℕ, zero, suc, ◌+◌, Bool, true, false, nat_eq, nat_lt, ◌&&◌, ◌||◌, List, [], ◌∷◌, map, Option, None, Some, inl, inr, refl, sym, ap, ◌∙◌, arith}
use Rattle.std.specs.Prelude.{nat_le, if◌then◌else◌, unwrap_or, is_some, is_none, ◌⊎◌, option_and_then}
use Rattle.std.specs.List.{list_all}
use Rattle.std.specs.Cmp.{nat_eq_equiv}
use Rattle.std.proofs.lemmas.Bool.{true≢false}
use Rattle.std.proofs.lemmas.Bool.Decides.{nat_tests}
use Rattle.beam_code.specs.declared.kind.Kind.{Kind}
use Rattle.beam_code.specs.declared.kind.Kind.TheVariants as k
use Rattle.beam_code.specs.declared.operand.Reg.{Reg}
use Rattle.beam_code.specs.declared.operand.Reg.TheVariants.{X, Y}
use Rattle.beam_code.specs.declared.operand.Src.{Src}
use Rattle.beam_code.specs.declared.operand.Src.TheVariants as source
use Rattle.beam_code.specs.declared.operand.TheConstants.{LAST_REGISTER}
use Rattle.beam_code.specs.declared.slot_state.TheConstants.{MOST_SLOTS}
use Rattle.beam_code.specs.Labels.{is_in}
use Rattle.beam_code.specs.Opcode as o
use Rattle.beam_code.specs.Opcode.{Opcode, Callee}
use Rattle.beam_code.specs.Slots.{State, Below, below_kind, size, has_slot, changed, with_x, with_y, with_xs, nothing}
use Rattle.beam_code.specs.Flow.{Flow, flow, is_term, is_optional, is_tag, is_trace, is_marker, is_moved, kind_in, kind_of, holds, reads, reads_all, reads_pairs, are_terms, is_frame, writes, writes_terms, live, live_if, after_call, framed, unframed, trimmed, tag_labels, lowest_tag, handlers, all_ways, raised_from, leaves, on, going, raising, failing, when, onward, plain, read_by, builtin_called, comes_back, call, has_tag, exception}
use Rattle.beam_code.specs.FlowLaw.{IsCovered, AreCovered, BelowFlow, BelowRow}
use Rattle.beam_code.proofs.BelowLaw.{below-refl, and-both, or-right, all-in}

-- Tests of kinds: what holds of a kind holds of those below it.

lower-term : (a b : Kind) → below_kind a b ≡ true → is_term b ≡ true → is_term a ≡ true
lower-term k.Undefined k.Term p q = cc
lower-term k.Term k.Term p q = cc
lower-term k.OptTerm k.Term p q = cc
lower-term (k.Tag labels) k.Term p q = cc
lower-term k.Trace k.Term p q = cc
lower-term k.Marker k.Term p q = cc
lower-term a b p q = cc

lower-optional : (a b : Kind) → below_kind a b ≡ true → is_optional b ≡ true → is_optional a ≡ true
lower-optional k.Undefined k.Term p q = cc
lower-optional k.Term k.Term p q = cc
lower-optional k.OptTerm k.Term p q = cc
lower-optional (k.Tag labels) k.Term p q = cc
lower-optional k.Trace k.Term p q = cc
lower-optional k.Marker k.Term p q = cc
lower-optional a b p q = cc

lower-tag : (a b : Kind) → below_kind a b ≡ true → is_tag b ≡ true → is_tag a ≡ true
lower-tag k.Undefined k.Term p q = cc
lower-tag k.Term k.Term p q = cc
lower-tag k.OptTerm k.Term p q = cc
lower-tag (k.Tag labels) k.Term p q = cc
lower-tag k.Trace k.Term p q = cc
lower-tag k.Marker k.Term p q = cc
lower-tag a b p q = cc

lower-trace : (a b : Kind) → below_kind a b ≡ true → is_trace b ≡ true → is_trace a ≡ true
lower-trace k.Undefined k.Term p q = cc
lower-trace k.Term k.Term p q = cc
lower-trace k.OptTerm k.Term p q = cc
lower-trace (k.Tag labels) k.Term p q = cc
lower-trace k.Trace k.Term p q = cc
lower-trace k.Marker k.Term p q = cc
lower-trace a b p q = cc

lower-marker : (a b : Kind) → below_kind a b ≡ true → is_marker b ≡ true → is_marker a ≡ true
lower-marker k.Undefined k.Term p q = cc
lower-marker k.Term k.Term p q = cc
lower-marker k.OptTerm k.Term p q = cc
lower-marker (k.Tag labels) k.Term p q = cc
lower-marker k.Trace k.Term p q = cc
lower-marker k.Marker k.Term p q = cc
lower-marker a b p q = cc

lower-moved : (a b : Kind) → below_kind a b ≡ true → is_moved b ≡ true → is_moved a ≡ true
lower-moved k.Undefined k.Term p q = cc
lower-moved k.Term k.Term p q = cc
lower-moved k.OptTerm k.Term p q = cc
lower-moved (k.Tag labels) k.Term p q = cc
lower-moved k.Trace k.Term p q = cc
lower-moved k.Marker k.Term p q = cc
lower-moved a b p q = cc

-- Tests that hold of a higher state hold of a lower one.

same-slot : {a b : State} → Below a b → (n : ℕ) → has_slot a n ≡ has_slot b n
same-slot h n = ap (λ f. nat_lt n (unwrap_or f 0)) h.frame

chosen : (p q : Bool) → p ≡ q → (u v : Kind) → below_kind u v ≡ true → below_kind (if p then u else k.Undefined) (if q then v else k.Undefined) ≡ true
chosen true true e u v h = h
chosen false false e u v h = refl
chosen true false e u v h = absurd (true≢false e)
chosen false true e u v h = absurd (true≢false (sym e))

kind-in : {a b : State} → Below a b → (r : Reg) → below_kind (kind_in a r) (kind_in b r) ≡ true
kind-in h (X n) = h.xs n
kind-in {a} {b} h (Y n) = chosen (has_slot a n) (has_slot b n) (same-slot h n) (a.ys n) (b.ys n) (h.ys n)

kind-of : {a b : State} → Below a b → (from : Src) → below_kind (kind_of a from) (kind_of b from) ≡ true
kind-of h (source.Reg r) = kind-in h r
kind-of h (source.Int n) = refl
kind-of h (source.Atom name) = refl
kind-of h source.Nil = refl
kind-of h (source.Literal t) = refl

left-of : (p q : Bool) → (p && q) ≡ true → p ≡ true
left-of true q h = refl
left-of false q h = h

right-of : (p q : Bool) → (p && q) ≡ true → q ≡ true
right-of true q h = h
right-of false q h = absurd (true≢false (sym h))

-- both of two tests
both : (p q r s : Bool) → (q ≡ true → p ≡ true) → (s ≡ true → r ≡ true) → (q && s) ≡ true → (p && r) ≡ true
both p q r s f g h = and-both p r (f (left-of q s h)) (g (right-of q s h))

each : {A : Type 0} (f g : A → Bool) → ((x : A) → g x ≡ true → f x ≡ true) → (xs : List A) → list_all g xs ≡ true → list_all f xs ≡ true
each f g h [] p = refl
each f g h (x ∷ xs) p = both (f x) (g x) (list_all f xs) (list_all g xs) (h x) (each f g h xs) p

held : {a b : State} → Below a b → (r : Reg) → holds b r ≡ true → holds a r ≡ true
held {a} {b} h r = lower-term (kind_in a r) (kind_in b r) (kind-in h r)

read : {a b : State} → Below a b → (from : Src) → reads b from ≡ true → reads a from ≡ true
read {a} {b} h from = lower-term (kind_of a from) (kind_of b from) (kind-of h from)

read-all : {a b : State} → Below a b → (sources : List Src) → reads_all b sources ≡ true → reads_all a sources ≡ true
read-all {a} {b} h = each (reads a) (reads b) (read h)

read-pairs : {a b : State} → Below a b → (pairs : List (Src × Src)) → reads_pairs b pairs ≡ true → reads_pairs a pairs ≡ true
read-pairs {a} {b} h =
    each (λ p. reads a p.0 && reads a p.1) (λ p. reads b p.0 && reads b p.1)
    (λ p. both (reads a p.0) (reads b p.0) (reads a p.1) (reads b p.1) (read h p.0) (read h p.1))

all-terms : {a b : State} → Below a b → (n : ℕ) → are_terms b n ≡ true → are_terms a n ≡ true
all-terms h zero p = refl
all-terms {a} {b} h (suc n) p =
    both (are_terms a n) (are_terms b n) (is_term (a.xs n)) (is_term (b.xs n)) (all-terms h n) (lower-term (a.xs n) (b.xs n) (h.xs n)) p

of-frame : {a b : State} → Below a b → (test : Option ℕ → Bool) → test b.frame ≡ true → test a.frame ≡ true
of-frame h test p = ap test h.frame ∙ p

tagged : {a b : State} → Below a b → (n : ℕ) → has_tag b n ≡ true → has_tag a n ≡ true
tagged {a} {b} h n = lower-tag (kind_in a (Y n)) (kind_in b (Y n)) (kind-in h (Y n))

-- States that are made of others.

pick : (c : Bool) (u v w x : Kind) → below_kind u v ≡ true → below_kind w x ≡ true → below_kind (if c then u else w) (if c then v else x) ≡ true
pick true u v w x p q = p
pick false u v w x p q = q

all-same : (kinds : ℕ → Kind) (n : ℕ) → below_kind (kinds n) (kinds n) ≡ true
all-same kinds n = below-refl (kinds n)

xs-below : (f g : ℕ → Kind) → ((n : ℕ) → below_kind (f n) (g n) ≡ true) → {a b : State} → Below a b → Below (with_xs f a) (with_xs g b)
xs-below f g p h = record { frame = h.frame; xs = p; ys = h.ys }

-- the same x registers in both
xs-same : (f : ℕ → Kind) → {a b : State} → Below a b → Below (with_xs f a) (with_xs f b)
xs-same f h = xs-below f f (all-same f) h

x-below : (n : ℕ) (u v : Kind) → below_kind u v ≡ true → {a b : State} → Below a b → Below (with_x n u a) (with_x n v b)
x-below n u v p {a} {b} h = record { frame = h.frame; xs = λ m. pick (nat_eq m n) u v (a.xs m) (b.xs m) p (h.xs m); ys = h.ys }

y-below : (n : ℕ) (u v : Kind) → below_kind u v ≡ true → {a b : State} → Below a b → Below (with_y n u a) (with_y n v b)
y-below n u v p {a} {b} h = record { frame = h.frame; xs = h.xs; ys = λ m. pick (nat_eq m n) u v (a.ys m) (b.ys m) p (h.ys m) }

live-below : (n : ℕ) → {a b : State} → Below a b → Below (live n a) (live n b)
live-below n {a} {b} h = record { frame = h.frame; xs = λ m. pick (nat_lt m n) (a.xs m) (b.xs m) k.Undefined k.Undefined (h.xs m) refl; ys = h.ys }

live-if-below : (n : Option ℕ) → {a b : State} → Below a b → Below (live_if n a) (live_if n b)
live-if-below None h = h
live-if-below (Some n) h = live-below n h

framed-below : (n : ℕ) → {a b : State} → Below a b → Below (framed n a) (framed n b)
framed-below n h = record { frame = refl; xs = h.xs; ys = λ m. refl }

unframed-below : {a b : State} → Below a b → Below (unframed a) (unframed b)
unframed-below h = record { frame = refl; xs = h.xs; ys = λ m. refl }

trimmed-below : (n m : ℕ) → {a b : State} → Below a b → Below (trimmed n m a) (trimmed n m b)
trimmed-below n m h = record { frame = refl; xs = h.xs; ys = λ i. h.ys (n + i) }

-- Writes.

-- nothing is said of a write that cannot be done
abbrev pub BelowWrite : Option State → Option State → Type 0
BelowWrite s None = Unit {0}
BelowWrite None (Some t) = ⊥
BelowWrite (Some s) (Some t) = Below s t

write-if : (p q : Bool) → p ≡ q → (s t : State) → Below s t → BelowWrite (if p then Some s else None) (if q then Some t else None)
write-if true true e s t h = h
write-if p false e s t h = tt
write-if false true e s t h = absurd (true≢false (sym e))

write-below : (r : Reg) (u v : Kind) → below_kind u v ≡ true → {a b : State} → Below a b → BelowWrite (writes r u a) (writes r v b)
write-below (X n) u v p {a} {b} h = write-if (nat_le n LAST_REGISTER) (nat_le n LAST_REGISTER) refl (with_x n u a) (with_x n v b) (x-below n u v p h)
write-below (Y n) u v p {a} {b} h = write-if (has_slot a n) (has_slot b n) (same-slot h n) (with_y n u a) (with_y n v b) (y-below n u v p h)

then-below : (f g : State → Option State) → ((s t : State) → Below s t → BelowWrite (f s) (g t)) → (s t : Option State) → BelowWrite s t
    → BelowWrite (option_and_then f s) (option_and_then g t)
then-below f g h s None p = tt
then-below f g h None (Some t) p = absurd p
then-below f g h (Some s) (Some t) p = h s t p

terms-below : (rs : List Reg) → {a b : State} → Below a b → BelowWrite (writes_terms rs a) (writes_terms rs b)
terms-below [] h = h
terms-below (r ∷ rs) {a} {b} h =
    then-below (writes_terms rs) (writes_terms rs) (λ s t p. terms-below rs p) (writes r k.Term a) (writes r k.Term b) (write-below r k.Term k.Term refl h)

-- Ways.

same-number : (m n : ℕ) → nat_eq m n ≡ true → m ≡ n
same-number m n h = grind (arith, nat_tests)

covered-in : {s t : State} → Below s t → (labels : List ℕ) (l : ℕ) → is_in labels l ≡ true → IsCovered (all_ways t labels) (l, s)
covered-in h [] l i = absurd (true≢false (sym i))
covered-in {s} {t} h (m ∷ labels) l i = by (covered-in h labels l) (nat_eq l m) refl i
  where
    by : (is_in labels l ≡ true → IsCovered (all_ways t labels) (l, s)) → (b : Bool) → nat_eq l m ≡ b → (b || is_in labels l) ≡ true
        → ((l ≡ m) × Below s t) ⊎ IsCovered (all_ways t labels) (l, s)
    by rest true e i = inl (same-number l m e, h)
    by rest false e i = inr (rest i)

ways-below : {s t : State} → Below s t → (few many : List ℕ) → ((n : ℕ) → is_in few n ≡ true → is_in many n ≡ true) → AreCovered (all_ways t many) (all_ways s few)
ways-below h [] many p = tt
ways-below h (l ∷ few) many p =
    (covered-in h many l (p l (ap (λ b. b || is_in few l) (nat_eq_equiv.refl l))), ways-below h few many (λ n i. p n (or-right (nat_eq n l) _ i)))

lowest : (u v : Kind) → below_kind u v ≡ true → (few many : List ℕ) → ((n : ℕ) → is_in few n ≡ true → is_in many n ≡ true)
    → (n : ℕ) → is_in (unwrap_or (tag_labels u) few) n ≡ true → is_in (unwrap_or (tag_labels v) many) n ≡ true
lowest (k.Tag x) (k.Tag y) p few many h n i = all-in y x p n i
lowest (k.Tag x) k.Undefined p few many h n i = absurd (true≢false (sym p))
lowest (k.Tag x) k.Term p few many h n i = absurd (true≢false (sym p))
lowest (k.Tag x) k.OptTerm p few many h n i = absurd (true≢false (sym p))
lowest (k.Tag x) k.Trace p few many h n i = absurd (true≢false (sym p))
lowest (k.Tag x) k.Marker p few many h n i = absurd (true≢false (sym p))
lowest k.Undefined (k.Tag y) p few many h n i = absurd (true≢false (sym p))
lowest k.Term (k.Tag y) p few many h n i = absurd (true≢false (sym p))
lowest k.OptTerm (k.Tag y) p few many h n i = absurd (true≢false (sym p))
lowest k.Trace (k.Tag y) p few many h n i = absurd (true≢false (sym p))
lowest k.Marker (k.Tag y) p few many h n i = absurd (true≢false (sym p))
lowest u v p few many h n i = h n i

lowest-tags : (f g : ℕ → Kind) → ((n : ℕ) → below_kind (f n) (g n) ≡ true) → (at left n : ℕ) → is_in (lowest_tag f at left) n ≡ true → is_in (lowest_tag g at left) n ≡ true
lowest-tags f g p at zero n i = i
lowest-tags f g p at (suc left) n i = lowest (f at) (g at) (p at) (lowest_tag f (at + 1) left) (lowest_tag g (at + 1) left) (lowest-tags f g p (at + 1) left) n i

handled : {a b : State} → Below a b → (n : ℕ) → is_in (handlers a) n ≡ true → is_in (handlers b) n ≡ true
handled {a} {b} h n i = ap (λ f. is_in (lowest_tag b.ys 0 (unwrap_or f 0)) n) (sym h.frame) ∙ lowest-tags a.ys b.ys h.ys 0 (size a) n i

raised-below : {a b : State} → Below a b → AreCovered (raised_from b) (raised_from a)
raised-below {a} {b} h = ways-below (xs-same (changed nothing 0 k.OptTerm) h) (handlers a) (handlers b) (handled h)

-- Where control goes.

on-below : {s t : State} → Below s t → BelowFlow (on s) (on t)
on-below h = record { next = h; goes = tt; raised = tt }

goes-on : (u v : State) → Below u v → BelowFlow (plain (on u)) (plain (on v))
goes-on u v h = on-below h

leaves-below : BelowFlow leaves leaves
leaves-below = record { next = tt; goes = tt; raised = tt }

going-below : (labels : List ℕ) → {a b : State} → Below a b → {f g : Flow} → BelowFlow f g → BelowFlow (going labels a f) (going labels b g)
going-below labels h r = record { next = r.next; goes = ways-below h labels labels (λ n i. i); raised = r.raised }

raising-below : {a b : State} → Below a b → {f g : Flow} → BelowFlow f g → BelowFlow (raising a f) (raising b g)
raising-below h r = record { next = r.next; goes = r.goes; raised = raised-below h }

failing-below : (label : ℕ) → {a b : State} → Below a b → (f g : Flow) → BelowFlow f g → BelowFlow (failing label a f) (failing label b g)
failing-below label {a} {b} h f g r = by (nat_eq label 0)
  where
    by : (c : Bool) → BelowFlow (if c then raising a f else going (label ∷ []) a f) (if c then raising b g else going (label ∷ []) b g)
    by true = raising-below h r
    by false = going-below (label ∷ []) h r

when-below : (p q : Bool) → (q ≡ true → p ≡ true) → {f g : Flow} → BelowFlow f g → BelowRow (when p f) (when q g)
when-below p false h r = tt
when-below true true h r = r
when-below false true h r = absurd (true≢false (sym (h refl)))

onward-below : (f g : Flow → Flow) (p q : Bool) (s t : Option State) → (q ≡ true → p ≡ true) → BelowWrite s t → ((u v : State) → Below u v → BelowFlow (f (on u)) (g (on v)))
    → BelowRow (onward f p s) (onward g q t)
onward-below f g p false s t h w r = tt
onward-below f g p true s None h w r = tt
onward-below f g false true s (Some t) h w r = absurd (true≢false (sym (h refl)))
onward-below f g true true None (Some t) h w r = absurd w
onward-below f g true true (Some s) (Some t) h w r = r s t w

sure : (true ≡ true) → true ≡ true
sure p = p

-- a term is written, and nothing else comes of it
writes-below : (to : Reg) (p q : Bool) → (q ≡ true → p ≡ true) → {a b : State} → Below a b → BelowRow (onward plain p (writes to k.Term a)) (onward plain q (writes to k.Term b))
writes-below to p q h {a} {b} r = onward-below plain plain p q (writes to k.Term a) (writes to k.Term b) h (write-below to k.Term k.Term refl r) goes-on

call-back : (callee : Callee) → {a b : State} → Below a b → (c : Bool) → BelowFlow (if c then on (after_call a) else leaves) (if c then on (after_call b) else leaves)
call-back callee h true = on-below (xs-same (changed nothing 0 k.Term) h)
call-back callee h false = leaves-below

or-frame : (p q c : Bool) → (q ≡ true → p ≡ true) → (q || c) ≡ true → (p || c) ≡ true
or-frame p true c h i = ap (λ b. b || c) (h refl)
or-frame p false true h i = or-right p true refl
or-frame p false false h i = absurd (true≢false (sym i))

call-below : (callee : Callee) (n : ℕ) → {a b : State} → Below a b → BelowRow (call callee n a) (call callee n b)
call-below callee n {a} {b} h =
    when-below (are_terms a (read_by callee n) && (is_some a.frame || is_some (builtin_called callee))) (are_terms b (read_by callee n) && (is_some b.frame || is_some (builtin_called callee)))
    (both (are_terms a (read_by callee n)) (are_terms b (read_by callee n)) (is_some a.frame || is_some (builtin_called callee)) (is_some b.frame || is_some (builtin_called callee))
    (all-terms h (read_by callee n)) (or-frame (is_some a.frame) (is_some b.frame) (is_some (builtin_called callee)) (of-frame h is_some)))
    (raising-below h (call-back callee h (comes_back callee)))

pub flow-below : (o : Opcode) (a b : State) → Below a b → BelowRow (flow o a) (flow o b)
unfolding flow
flow-below (o.Label label) a b h = on-below h
flow-below o.Line a b h = on-below h
flow-below o.Comment a b h = on-below h
flow-below (o.FuncInfo owner name arity) a b h = raising-below h leaves-below
flow-below (o.Move from to) a b h =
    onward-below plain plain (is_moved (kind_of a from)) (is_moved (kind_of b from)) (writes to (kind_of a from) a) (writes to (kind_of b from) b)
    (lower-moved (kind_of a from) (kind_of b from) (kind-of h from)) (write-below to (kind_of a from) (kind_of b from) (kind-of h from) h) goes-on
flow-below (o.Swap one other) a b h =
    onward-below plain plain (is_moved (kind_in a one) && is_moved (kind_in a other)) (is_moved (kind_in b one) && is_moved (kind_in b other))
    (option_and_then (writes other (kind_in a one)) (writes one (kind_in a other) a)) (option_and_then (writes other (kind_in b one)) (writes one (kind_in b other) b))
    (both (is_moved (kind_in a one)) (is_moved (kind_in b one)) (is_moved (kind_in a other)) (is_moved (kind_in b other))
    (lower-moved (kind_in a one) (kind_in b one) (kind-in h one)) (lower-moved (kind_in a other) (kind_in b other) (kind-in h other)))
    (then-below (writes other (kind_in a one)) (writes other (kind_in b one)) (λ s t p. write-below other (kind_in a one) (kind_in b one) (kind-in h one) p)
    (writes one (kind_in a other) a) (writes one (kind_in b other) b) (write-below one (kind_in a other) (kind_in b other) (kind-in h other) h))
    goes-on
flow-below (o.Allocate n m) a b h =
    when-below (is_none a.frame && nat_le n MOST_SLOTS) (is_none b.frame && nat_le n MOST_SLOTS)
    (both (is_none a.frame) (is_none b.frame) (nat_le n MOST_SLOTS) (nat_le n MOST_SLOTS) (of-frame h is_none) (λ p. p)) (on-below (framed-below n (live-below m h)))
flow-below (o.TestHeap m) a b h = on-below (live-below m h)
flow-below (o.Deallocate n) a b h = when-below (is_frame a.frame n) (is_frame b.frame n) (of-frame h (λ f. is_frame f n)) (on-below (unframed-below h))
flow-below (o.Trim n m) a b h = when-below (is_frame a.frame (n + m)) (is_frame b.frame (n + m)) (of-frame h (λ f. is_frame f (n + m))) (on-below (trimmed-below n m h))
flow-below (o.InitYregs registers) a b h = onward-below plain plain true true (writes_terms registers a) (writes_terms registers b) sure (terms-below registers h) goes-on
flow-below (o.Call callee n o.Body) a b h = call-below callee n h
flow-below (o.Call callee n o.Only) a b h =
    when-below (are_terms a (read_by callee n) && is_none a.frame) (are_terms b (read_by callee n) && is_none b.frame)
    (both (are_terms a (read_by callee n)) (are_terms b (read_by callee n)) (is_none a.frame) (is_none b.frame) (all-terms h (read_by callee n)) (of-frame h is_none)) leaves-below
flow-below (o.Call callee n (o.Last count)) a b h =
    when-below (are_terms a (read_by callee n) && is_frame a.frame count) (are_terms b (read_by callee n) && is_frame b.frame count)
    (both (are_terms a (read_by callee n)) (are_terms b (read_by callee n)) (is_frame a.frame count) (is_frame b.frame count) (all-terms h (read_by callee n)) (of-frame h (λ f. is_frame f count))) leaves-below
flow-below o.Return a b h =
    when-below (is_none a.frame && is_term (a.xs 0)) (is_none b.frame && is_term (b.xs 0))
    (both (is_none a.frame) (is_none b.frame) (is_term (a.xs 0)) (is_term (b.xs 0)) (of-frame h is_none) (lower-term (a.xs 0) (b.xs 0) (h.xs 0))) leaves-below
flow-below (o.MakeFun2 entry free) a b h = when-below (are_terms a free) (are_terms b free) (all-terms h free) (on-below (xs-same (changed nothing 0 k.Term) h))
flow-below (o.MakeFun3 entry to free) a b h = writes-below to (reads_all a free) (reads_all b free) (read-all h free) h
flow-below o.Send a b h = when-below (are_terms a 2) (are_terms b 2) (all-terms h 2) (raising-below h (on-below (xs-same (changed nothing 0 k.Term) h)))
flow-below (o.Bif builtin fail m arguments to) a b h =
    onward-below (failing fail (live_if m a)) (failing fail (live_if m b)) (reads_all a arguments) (reads_all b arguments) (writes to k.Term (live_if m a)) (writes to k.Term (live_if m b))
    (read-all h arguments) (write-below to k.Term k.Term refl (live-if-below m h)) (λ u v r. failing-below fail (live-if-below m h) (on u) (on v) (on-below r))
flow-below (o.PutList head tail to) a b h =
    writes-below to (reads a head && reads a tail) (reads b head && reads b tail) (both (reads a head) (reads b head) (reads a tail) (reads b tail) (read h head) (read h tail)) h
flow-below (o.PutTuple2 to elements) a b h = writes-below to (reads_all a elements) (reads_all b elements) (read-all h elements) h
flow-below (o.GetList from head tail) a b h =
    onward-below (raising a) (raising b) (holds a from) (holds b from) (writes_terms (head ∷ tail ∷ []) a) (writes_terms (head ∷ tail ∷ []) b) (held h from) (terms-below (head ∷ tail ∷ []) h)
    (λ u v r. raising-below h (on-below r))
flow-below (o.Get piece from to) a b h =
    onward-below (raising a) (raising b) (holds a from) (holds b from) (writes to k.Term a) (writes to k.Term b) (held h from) (write-below to k.Term k.Term refl h)
    (λ u v r. raising-below h (on-below r))
flow-below (o.SetTupleElement value tuple place) a b h =
    onward-below (raising a) (raising b) (reads a value && holds a tuple) (reads b value && holds b tuple) (writes tuple k.Term a) (writes tuple k.Term b)
    (both (reads a value) (reads b value) (holds a tuple) (holds b tuple) (read h value) (held h tuple)) (write-below tuple k.Term k.Term refl h)
    (λ u v r. raising-below h (on-below r))
flow-below (o.PutMap update fail from to pairs) a b h =
    onward-below (failing fail a) (failing fail b) (reads a from && reads_pairs a pairs) (reads b from && reads_pairs b pairs) (writes to k.Term a) (writes to k.Term b)
    (both (reads a from) (reads b from) (reads_pairs a pairs) (reads_pairs b pairs) (read h from) (read-pairs h pairs)) (write-below to k.Term k.Term refl h)
    (λ u v r. failing-below fail h (on u) (on v) (on-below r))
flow-below (o.GetMapElements fail from gets) a b h =
    onward-below (going (fail ∷ []) a) (going (fail ∷ []) b) (reads a from && reads_all a (map (λ g. g.0) gets)) (reads b from && reads_all b (map (λ g. g.0) gets))
    (writes_terms (map (λ g. g.1) gets) a) (writes_terms (map (λ g. g.1) gets) b)
    (both (reads a from) (reads b from) (reads_all a (map (λ g. g.0) gets)) (reads_all b (map (λ g. g.0) gets)) (read h from) (read-all h (map (λ g. g.0) gets)))
    (terms-below (map (λ g. g.1) gets) h) (λ u v r. going-below (fail ∷ []) h (on-below r))
flow-below (o.Jump label) a b h = going-below (label ∷ []) h leaves-below
flow-below (o.SelectVal value fail cases) a b h = when-below (reads a value) (reads b value) (read h value) (going-below (fail ∷ map (λ c. c.1) cases) h leaves-below)
flow-below (o.SelectTupleArity tuple fail cases) a b h = when-below (reads a tuple) (reads b tuple) (read h tuple) (going-below (fail ∷ map (λ c. c.1) cases) h leaves-below)
flow-below (o.Test test fail arguments) a b h = when-below (reads_all a arguments) (reads_all b arguments) (read-all h arguments) (going-below (fail ∷ []) h (on-below h))
flow-below (o.TestArity tuple fail count) a b h = when-below (reads a tuple) (reads b tuple) (read h tuple) (going-below (fail ∷ []) h (on-below h))
flow-below (o.IsTaggedTuple tuple fail count tag) a b h = when-below (reads a tuple) (reads b tuple) (read h tuple) (going-below (fail ∷ []) h (on-below h))
flow-below (o.HasMapFields fail from keys) a b h =
    when-below (reads a from && reads_all a keys) (reads b from && reads_all b keys) (both (reads a from) (reads b from) (reads_all a keys) (reads_all b keys) (read h from) (read-all h keys))
    (going-below (fail ∷ []) h (on-below h))
flow-below (o.LoopRec fail to) a b h =
    onward-below (going (fail ∷ []) a) (going (fail ∷ []) b) true true (writes to k.Term a) (writes to k.Term b) sure (write-below to k.Term k.Term refl h) (λ u v r. going-below (fail ∷ []) h (on-below r))
flow-below o.RemoveMessage a b h = on-below h
flow-below o.Timeout a b h = on-below h
flow-below (o.LoopRecEnd label) a b h = going-below (label ∷ []) h leaves-below
flow-below (o.Wait label) a b h = going-below (label ∷ []) (xs-same nothing h) leaves-below
flow-below (o.WaitTimeout label timeout) a b h =
    when-below (reads a timeout) (reads b timeout) (read h timeout) (raising-below h (going-below (label ∷ []) (xs-same nothing h) (on-below (xs-same nothing h))))
flow-below (o.RecvMarker (o.Reserve to)) a b h = onward-below plain plain true true (writes to k.Marker a) (writes to k.Marker b) sure (write-below to k.Marker k.Marker refl h) goes-on
flow-below (o.RecvMarker (o.Bind marker reference)) a b h =
    when-below (is_marker (kind_in a marker) && holds a reference) (is_marker (kind_in b marker) && holds b reference)
    (both (is_marker (kind_in a marker)) (is_marker (kind_in b marker)) (holds a reference) (holds b reference)
    (lower-marker (kind_in a marker) (kind_in b marker) (kind-in h marker)) (held h reference)) (on-below h)
flow-below (o.RecvMarker (o.Use reference)) a b h = when-below (holds a reference) (holds b reference) (held h reference) (on-below h)
flow-below (o.RecvMarker (o.Clear reference)) a b h = when-below (holds a reference) (holds b reference) (held h reference) (on-below h)
flow-below (o.Try slot handler) a b h =
    onward-below plain plain true true (writes (Y slot) (k.Tag (handler ∷ [])) a) (writes (Y slot) (k.Tag (handler ∷ [])) b) sure
    (write-below (Y slot) (k.Tag (handler ∷ [])) (k.Tag (handler ∷ [])) (below-refl (k.Tag (handler ∷ []))) h) goes-on
flow-below (o.TryEnd slot) a b h = when-below (has_tag a slot) (has_tag b slot) (tagged h slot) (on-below (y-below slot k.Undefined k.Undefined refl h))
flow-below (o.TryCase slot) a b h =
    when-below (has_tag a slot && is_optional (a.xs 0)) (has_tag b slot && is_optional (b.xs 0))
    (both (has_tag a slot) (has_tag b slot) (is_optional (a.xs 0)) (is_optional (b.xs 0)) (tagged h slot) (lower-optional (a.xs 0) (b.xs 0) (h.xs 0)))
    (raising-below (y-below slot k.Undefined k.Undefined refl h) (on-below (xs-same exception (y-below slot k.Undefined k.Undefined refl h))))
flow-below (o.CatchEnd slot) a b h =
    when-below (has_tag a slot && is_optional (a.xs 0)) (has_tag b slot && is_optional (b.xs 0))
    (both (has_tag a slot) (has_tag b slot) (is_optional (a.xs 0)) (is_optional (b.xs 0)) (tagged h slot) (lower-optional (a.xs 0) (b.xs 0) (h.xs 0)))
    (on-below (xs-same (changed nothing 0 k.Term) (y-below slot k.Undefined k.Undefined refl h)))
flow-below (o.Unmatches reason value) a b h = when-below (reads a value) (reads b value) (read h value) (raising-below h leaves-below)
flow-below o.IfEnd a b h = raising-below h leaves-below
flow-below (o.Raise trace reason) a b h =
    when-below (is_trace (kind_in a trace) && reads a reason) (is_trace (kind_in b trace) && reads b reason)
    (both (is_trace (kind_in a trace)) (is_trace (kind_in b trace)) (reads a reason) (reads b reason) (lower-trace (kind_in a trace) (kind_in b trace) (kind-in h trace)) (read h reason))
    (raising-below h leaves-below)
flow-below o.RawRaise a b h =
    when-below (are_terms a 2 && is_trace (a.xs 2)) (are_terms b 2 && is_trace (b.xs 2))
    (both (are_terms a 2) (are_terms b 2) (is_trace (a.xs 2)) (is_trace (b.xs 2)) (all-terms h 2) (lower-trace (a.xs 2) (b.xs 2) (h.xs 2)))
    (raising-below h (on-below (x-below 0 k.Term k.Term refl h)))
flow-below o.BuildStacktrace a b h =
    when-below (is_trace (a.xs 0)) (is_trace (b.xs 0)) (lower-trace (a.xs 0) (b.xs 0) (h.xs 0)) (on-below (x-below 0 k.Term k.Term refl h))
