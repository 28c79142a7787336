-- Labels are reached one by one, and instructions are passed one by one.
use Rattle.std.proofs.Common.{◌≡◌, ◌<◌, ◌≤◌, ℕ, ◌+◌, Bool, true, false, List, [], ◌∷◌, drop, length, get_or, Option, None, Some, sym, ap, subst, ◌∙◌, arith}
use Rattle.std.specs.Prelude.{if◌then◌else◌, ◌==◌, Result}
use Rattle.std.proofs.lemmas.Bool.Decides.{nat_tests}
use Rattle.std.proofs.lemmas.List.{drop_more, drop_all, nil_from_length}
use Rattle.beam_code.specs.Flow.{Flow, flow}
use Rattle.beam_code.specs.FlowParts.{allows, entered, left, parts}
use Rattle.beam_code.specs.Good.{Assignment, GoesTo, GoToEach, Onward}
use Rattle.beam_code.specs.Labels.{defined_by, labels_named}
use Rattle.beam_code.specs.Opcode.{Opcode, Label, Line}
use Rattle.beam_code.specs.Slots.{State}
use Rattle.beam_code.proofs.FlowPartsLaw.{flow-parts}
use Rattle.slot_kinds.specs.declared.fault.SlotFault.{SlotFault}
use Rattle.slot_kinds.specs.declared.table.Table.{Table}
use Rattle.slot_kinds.specs.Segments.{Segment, SegmentStep}
use Rattle.slot_kinds.specs.Tags.{AreKnown, TagsKnown, TagsKnownIf}
use Rattle.slot_kinds.specs.Tables.{known, Nothing, Goes, Refuses}
use Rattle.slot_kinds.specs.Walks.{ReachesEach, ReachesAll, GoesOn, Passes, KeepsFrom}
use Rattle.slot_kinds.proofs.TagsLaw.{left-known}
use Rattle.slot_kinds.proofs.GoesLaw.{same-known, goes-then, goes-first, goes-as, refuses-then, refuses-as, goes-end, Outcome, outcome-then}
use Rattle.slot_kinds.proofs.SegmentLaw.{segment-none}

-- Labels.

-- one more of the labels
pub each-more : (s : State) (labels : List ℕ) (i d : ℕ) (a b c : Table) → i < length labels → Goes (ReachesEach s labels) (ReachesEach s (drop i labels)) a b
    → Goes (λ at. GoesTo at (get_or labels i d, s)) Nothing b c → Goes (ReachesEach s labels) (ReachesEach s (drop (i + 1) labels)) a c
each-more s labels i d a b c h g r =
    goes-then (ReachesEach s labels) (ReachesEach s (drop i labels)) (ReachesEach s (drop (i + 1) labels)) a b c g
    (subst (λ ls. Goes (ReachesEach s ls) (ReachesEach s (drop (i + 1) labels)) b c) (sym (drop_more labels i d h)) (goes-first (λ at. GoesTo at (get_or labels i d, s)) (ReachesEach s (drop (i + 1) labels)) b c r))

pub each-refused : (s : State) (labels : List ℕ) (i d : ℕ) (a b : Table) → i < length labels → Goes (ReachesEach s labels) (ReachesEach s (drop i labels)) a b
    → Refuses (λ at. GoesTo at (get_or labels i d, s)) b → Refuses (ReachesEach s labels) a
each-refused s labels i d a b h g r =
    refuses-then (ReachesEach s labels) (ReachesEach s (drop i labels)) a b g
    (subst (λ ls. Refuses (ReachesEach s ls) b) (sym (drop_more labels i d h)) (λ at u o. r at u o.0))

pub each-done : (s : State) (labels : List ℕ) (i : ℕ) (a b : Table) → length labels ≤ i → Goes (ReachesEach s labels) (ReachesEach s (drop i labels)) a b → Goes (ReachesEach s labels) Nothing a b
each-done s labels i a b h g = subst (λ ls. Goes (ReachesEach s labels) (ReachesEach s ls) a b) (drop_all i labels h) g

-- Rows.

chosen : (b : Bool) (o : Opcode) (s : State) → allows o s ≡ b → flow o s ≡ (if b then Some (parts o s) else None)
chosen b o s e = flow-parts o s ∙ ap (λ c. if c then Some (parts o s) else None) e

pub no-row : (o : Opcode) (s : State) (t : Table) → allows o s ≡ false → Refuses (GoesOn o s) t
no-row o s t e at u w = subst (Onward at (λ next. Unit {0})) (chosen false o s e) w

pub pass-refused : (o : Opcode) (s t : State) (a : Table) → allows o s ≡ true → t ≡ entered o s → Refuses (ReachesAll o t) a → Refuses (GoesOn o s) a
pass-refused o s t a e i r =
    refuses-as (GoesOn o s) (ReachesAll o t) a
    (λ at w. let f : Onward at (λ next. Unit {0}) (Some (parts o s)) = subst (Onward at (λ next. Unit {0})) (chosen true o s e) w in subst (λ x. ReachesAll o x at) (sym i) (f.0, f.1)) r

pub passes : (o : Opcode) (s t : State) (next : Option State) (a b : Table) → allows o s ≡ true → t ≡ entered o s → next ≡ left o t → AreKnown (known a) (labels_named o) → TagsKnown (known a) s → Goes (ReachesAll o t) Nothing a b
    → Passes o s next a b
passes o s t next a b e i l n k g = record {
  flows = parts o s;
  is = chosen true o s e;
  falls = ap (left o) (sym i) ∙ sym l;
  goes = subst (λ x. Goes (ReachesAll o x) Nothing a b) i g;
  tags = subst (λ q. TagsKnownIf q next) (sym (same-known (ReachesAll o t) Nothing a b g)) (λ z r. left-known (known a) o s z n e k (ap (left o) (sym i) ∙ sym l ∙ r));
}

-- Segments.

is-label : (o : Opcode) (l : ℕ) → Some l ≡ defined_by o → o ≡ Label l
is-label (Label m) l e = ap Label (cc)
is-label o l e = absurd (cc)

step-in : (at : Assignment) (rest : Option State → Type 0) (o : Opcode) (s : State) → None ≡ defined_by o → SegmentStep at rest o (Some s) → Onward at rest (flow o s)
step-in at rest (Label l) s e w = absurd (cc)
step-in at rest o s e w = w

step-out : (at : Assignment) (rest : Option State → Type 0) (o : Opcode) (s : State) → None ≡ defined_by o → Onward at rest (flow o s) → SegmentStep at rest o (Some s)
step-out at rest (Label l) s e w = absurd (cc)
step-out at rest o s e w = w

-- an instruction that is no label is passed
passes-on : (o : Opcode) (rest : List Opcode) (s : State) (next : Option State) (b c : Table) → None ≡ defined_by o → Passes o s next b c → Goes (KeepsFrom (o ∷ rest) (Some s)) (KeepsFrom rest next) b c
passes-on o rest s next b c e p =
    goes-as (KeepsFrom (o ∷ rest) (Some s)) (λ at. (GoToEach at p.flows.goes × GoToEach at p.flows.raised) × Segment at rest next) (KeepsFrom rest next) b c
    (λ at w. let f : Onward at (Segment at rest) (Some p.flows) = subst (Onward at (Segment at rest)) p.is (step-in at (Segment at rest) o s e w) in ((f.0, f.1), subst (Segment at rest) p.falls f.2))
    (λ at w. step-out at (Segment at rest) o s e (subst (Onward at (Segment at rest)) (sym p.is) (w.0.0, w.0.1, subst (Segment at rest) (sym p.falls) w.1)))
    (goes-first (λ at. GoToEach at p.flows.goes × GoToEach at p.flows.raised) (KeepsFrom rest next) b c p.goes)

refuses-on : (o : Opcode) (rest : List Opcode) (s : State) (b : Table) → None ≡ defined_by o → Refuses (GoesOn o s) b → Refuses (KeepsFrom (o ∷ rest) (Some s)) b
refuses-on o rest s b e r =
    refuses-as (KeepsFrom (o ∷ rest) (Some s)) (GoesOn o s) b (λ at w. loosely at (flow o s) (step-in at (Segment at rest) o s e w)) r
  where
    loosely : (at : Assignment) (f : Option Flow) → Onward at (Segment at rest) f → Onward at (λ next. Unit {0}) f
    loosely at None w = w
    loosely at (Some f) w = (w.0, w.1, tt)

split : (code : List Opcode) (i : ℕ) (o : Opcode) → i < length code → o ≡ get_or code i Line → drop i code ≡ o ∷ drop (i + 1) code
split code i o h e = drop_more code i Line h ∙ ap (λ x. x ∷ drop (i + 1) code) (sym e)

pub walk-more : (code : List Opcode) (i : ℕ) (o : Opcode) (from s : State) (next : Option State) (a b c : Table) → i < length code → o ≡ get_or code i Line → None ≡ defined_by o
    → Goes (KeepsFrom code (Some from)) (KeepsFrom (drop i code) (Some s)) a b → Passes o s next b c → Goes (KeepsFrom code (Some from)) (KeepsFrom (drop (i + 1) code) next) a c
walk-more code i o from s next a b c h e n g p =
    goes-then (KeepsFrom code (Some from)) (KeepsFrom (drop i code) (Some s)) (KeepsFrom (drop (i + 1) code) next) a b c g
    (subst (λ q. Goes (KeepsFrom q (Some s)) (KeepsFrom (drop (i + 1) code) next) b c) (sym (split code i o h e)) (passes-on o (drop (i + 1) code) s next b c n p))

-- it does not fall through
pub walk-ends : (code : List Opcode) (i : ℕ) (o : Opcode) (from s : State) (a b c : Table) → i < length code → o ≡ get_or code i Line → None ≡ defined_by o
    → Goes (KeepsFrom code (Some from)) (KeepsFrom (drop i code) (Some s)) a b → Passes o s None b c → Goes (KeepsFrom code (Some from)) Nothing a c
walk-ends code i o from s a b c h e n g p =
    goes-end (KeepsFrom code (Some from)) (KeepsFrom (drop (i + 1) code) None) a c (λ at. segment-none at (drop (i + 1) code)) (walk-more code i o from s None a b c h e n g p)

pub walk-refused : (code : List Opcode) (i : ℕ) (o : Opcode) (from s : State) (a b : Table) → i < length code → o ≡ get_or code i Line → None ≡ defined_by o
    → Goes (KeepsFrom code (Some from)) (KeepsFrom (drop i code) (Some s)) a b → Refuses (GoesOn o s) b → Refuses (KeepsFrom code (Some from)) a
walk-refused code i o from s a b h e n g r =
    refuses-then (KeepsFrom code (Some from)) (KeepsFrom (drop i code) (Some s)) a b g
    (subst (λ q. Refuses (KeepsFrom q (Some s)) b) (sym (split code i o h e)) (refuses-on o (drop (i + 1) code) s b n r))

-- a label ends the walk
pub walk-label : (code : List Opcode) (i : ℕ) (o : Opcode) (l : ℕ) (from s : State) (a b c : Table) (r : Result (Unit {0}) SlotFault) → i < length code → o ≡ get_or code i Line → Some l ≡ defined_by o
    → Goes (KeepsFrom code (Some from)) (KeepsFrom (drop i code) (Some s)) a b → Outcome (λ at. GoesTo at (l, s)) b c r → Outcome (KeepsFrom code (Some from)) a c r
walk-label code i o l from s a b c r h e n g x =
    outcome-then (KeepsFrom code (Some from)) (KeepsFrom (drop i code) (Some s)) a b c r g
    (subst (λ q. Outcome (KeepsFrom q (Some s)) b c r) (sym (split code i (Label l) h (sym (is-label o l n) ∙ e))) x)

-- no label ends it
pub walk-past : (code : List Opcode) (i : ℕ) (from s : State) (a b : Table) → length code ≤ i → Goes (KeepsFrom code (Some from)) (KeepsFrom (drop i code) (Some s)) a b → Refuses (KeepsFrom code (Some from)) a
walk-past code i from s a b h g =
    refuses-then (KeepsFrom code (Some from)) (KeepsFrom (drop i code) (Some s)) a b g (λ at u o. none (subst (λ q. Segment at q (Some s)) (drop_all i code h) o))
  where
    none : Some s ≡ None → ⊥
    none e = cc

pub empty-is : (xs : List ℕ) (b : Bool) → b ≡ (length xs == 0) → b ≡ true → xs ≡ []
empty-is xs b e h = let z : length xs ≡ 0 = grind (arith, nat_tests) in nil_from_length xs z
