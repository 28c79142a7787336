-- A good assignment keeps the segment behind each label, and an assignment that keeps each is good.
use Rattle.std.proofs.Common.{◌≡◌, ℕ, Bool, true, false, not, nat_eq, ◌&&◌, ◌||◌, List, [], ◌∷◌, Option, None, Some, inl, inr, refl, sym, ap, subst, ◌∙◌, arith}
use Rattle.std.specs.Prelude.{if◌then◌else◌}
use Rattle.std.specs.Cmp.{nat_eq_equiv}
use Rattle.std.proofs.lemmas.Bool.{true≢false}
use Rattle.std.proofs.lemmas.Bool.Decides.{nat_tests}
use Rattle.beam_code.specs.Code.{FunctionCode}
use Rattle.beam_code.specs.Flow.{Way, Flow, flow}
use Rattle.beam_code.specs.FlowLaw.{IsCovered, AreCovered, BelowRow}
use Rattle.beam_code.specs.Good.{Assignment, GoesTo, GoToEach, Onward, Step, Walk, Good}
use Rattle.beam_code.specs.Labels.{is_in, defined_in, no_label_twice}
use Rattle.beam_code.specs.Opcode.{Opcode, Label}
use Rattle.beam_code.specs.Slots.{State, Below, BelowIfReached, entry_state}
use Rattle.beam_code.proofs.BelowLaw.{below-same, reached-below, or-right}
use Rattle.beam_code.proofs.FlowBelow.{flow-below}
use Rattle.slot_kinds.specs.Segments.{Under, SegmentStep, Segment, behind}

-- Assignments that are under others.

pub reached-same : (a : Option State) → BelowIfReached a a
reached-same None = tt
reached-same (Some a) = below-same a

pub under-same : (at : Assignment) → Under at at
under-same at label = reached-same (at label)

pub under-under : (a b c : Assignment) → Under a b → Under b c → Under a c
under-under a b c p q label = reached-below (a label) (b label) (c label) (p label) (q label)

pub goes-more : (a b : Assignment) → Under a b → (way : Way) → GoesTo a way → GoesTo b way
goes-more a b up way h = reached-below (Some way.1) (a way.0) (b way.0) h (up way.0)

pub each-more : (a b : Assignment) → Under a b → (ways : List Way) → GoToEach a ways → GoToEach b ways
each-more a b up [] h = tt
each-more a b up (way ∷ ways) h = (goes-more a b up way h.0, each-more a b up ways h.1)

pub onward-more : (a b : Assignment) → Under a b → (p q : Option State → Type 0) → ((n : Option State) → p n → q n) → (f : Option Flow) → Onward a p f → Onward b q f
onward-more a b up p q h None w = w
onward-more a b up p q h (Some f) w = (each-more a b up f.goes w.0, each-more a b up f.raised w.1, h f.next w.2)

-- Where nothing is reached nothing is owed.

pub segment-none : (at : Assignment) (code : List Opcode) → Segment at code None
segment-none at [] = refl
segment-none at (o ∷ code) = tt

-- Higher assignments.

step-more : (a b : Assignment) → Under a b → (p q : Option State → Type 0) → ((n : Option State) → p n → q n) → (o : Opcode) (before : Option State) → SegmentStep a p o before → SegmentStep b q o before
step-more a b up p q h o None w = tt
step-more a b up p q h (Label label) (Some s) w = goes-more a b up (label, s) w
step-more a b up p q h o (Some s) w = onward-more a b up p q h (flow o s) w

pub segment-more : (a b : Assignment) → Under a b → (code : List Opcode) (before : Option State) → Segment a code before → Segment b code before
segment-more a b up [] before h = h
segment-more a b up (o ∷ code) before h = step-more a b up (Segment a code) (Segment b code) (segment-more a b up code) o before h

-- Lower states.

is-covered : (at : Assignment) (vs : List Way) (w : Way) → IsCovered vs w → GoToEach at vs → GoesTo at w
is-covered at [] w c h = absurd c
is-covered at (v ∷ vs) w c h =
    elim c [ inl e ↦ subst (λ label. BelowIfReached (Some w.1) (at label)) (sym e.0) (reached-below (Some w.1) (Some v.1) (at v.0) e.1 h.0) | inr r ↦ is-covered at vs w r h.1 ]

are-covered : (at : Assignment) (vs ws : List Way) → AreCovered vs ws → GoToEach at vs → GoToEach at ws
are-covered at vs [] c h = tt
are-covered at vs (w ∷ ws) c h = (is-covered at vs w c.0 h, are-covered at vs ws c.1 h)

onward-below : (at : Assignment) (p : Option State → Type 0) → ((m n : Option State) → BelowIfReached m n → p n → p m) → (f g : Option Flow) → BelowRow f g → Onward at p g → Onward at p f
onward-below at p down f None r w = absurd w
onward-below at p down None (Some g) r w = absurd r
onward-below at p down (Some f) (Some g) r w =
    (are-covered at g.goes f.goes r.goes w.0, are-covered at g.raised f.raised r.raised w.1, down f.next g.next r.next w.2)

step-below : (at : Assignment) (p : Option State → Type 0) → ((m n : Option State) → BelowIfReached m n → p n → p m) → (o : Opcode) (a b : State) → Below a b → SegmentStep at p o (Some b) → SegmentStep at p o (Some a)
step-below at p down (Label label) a b h w = reached-below (Some a) (Some b) (at label) h w
step-below at p down o a b h w = onward-below at p down (flow o a) (flow o b) (flow-below o a b h) w

pub segment-below : (at : Assignment) (code : List Opcode) (a b : Option State) → BelowIfReached a b → Segment at code b → Segment at code a
segment-below at code None b h w = segment-none at code
segment-below at code (Some a) None h w = absurd h
segment-below at [] (Some a) (Some b) h w = cc
segment-below at (o ∷ code) (Some a) (Some b) h w = step-below at (Segment at code) (segment-below at code) o a b h w

-- What a good assignment keeps.

step-of : (at : Assignment) (p q : Option State → Type 0) → ((n : Option State) → p n → q n) → (o : Opcode) (before : Option State) → Step at p o before → SegmentStep at q o before
step-of at p q h o None w = tt
step-of at p q h (Label label) (Some s) w = w.0
step-of at p q h o (Some s) w = onward-more at at (under-same at) p q h (flow o s) w

pub segment-of : (at : Assignment) (code : List Opcode) (before : Option State) → Walk at code before → Segment at code before
segment-of at [] before w = w
segment-of at (o ∷ code) before w = step-of at (Walk at code) (Segment at code) (segment-of at code) o before w

same-number : (m n : ℕ) → nat_eq m n ≡ true → m ≡ n
same-number m n h = grind (arith, nat_tests)

other-way : (m n : ℕ) → nat_eq m n ≡ false → nat_eq n m ≡ false
other-way m n h = grind (arith, nat_tests)

-- what comes behind an instruction
next-of : (at : Assignment) (p : Option State → Type 0) (f : Option Flow) → Onward at p f → (n : Option State) × p n
next-of at p None w = absurd w
next-of at p (Some f) w = (f.next, w.2)

pub walk-behind : (at : Assignment) (code : List Opcode) (before : Option State) (l : ℕ) → is_in (defined_in code) l ≡ true → Walk at code before → Walk at (behind l code) (at l)
walk-behind at [] before l i w = absurd (true≢false (sym i))
walk-behind at (Label m ∷ code) before l i w = by (nat_eq m l) refl (walk-behind at code (at m) l)
  where
    by : (b : Bool) → nat_eq m l ≡ b → (is_in (defined_in code) l ≡ true → Walk at code (at m) → Walk at (behind l code) (at l)) → Walk at (if b then code else behind l code) (at l)
    by true e rest = subst (λ q. Walk at code (at q)) (same-number m l e) w.1
    by false e rest = rest (ap (λ b. b || is_in (defined_in code) l) (sym (other-way m l e)) ∙ i) w.1
walk-behind at (o ∷ code) None l i w = walk-behind at code None l i w
walk-behind at (o ∷ code) (Some s) l i w = let n = next-of at (Walk at code) (flow o s) w in walk-behind at code n.0 l i n.1

-- the segment behind each label
pub segment-behind : (f : FunctionCode) (at : Assignment) → Good f at → (l : ℕ) → is_in (defined_in f.code) l ≡ true → Segment at (behind l f.code) (at l)
segment-behind f at g l i = segment-of at (behind l f.code) (at l) (walk-behind at f.code None l i g.walks)

-- An assignment that keeps each segment is good.

and-left : (a b : Bool) → (a && b) ≡ true → a ≡ true
and-left true b h = refl
and-left false b h = h

and-right : (a b : Bool) → (a && b) ≡ true → b ≡ true
and-right true b h = h
and-right false b h = absurd (true≢false (sym h))

not-both : (b : Bool) → not b ≡ true → b ≡ true → ⊥
not-both true h e = true≢false (sym h)
not-both false h e = true≢false (sym e)

abbrev pub Keeps : Assignment → List Opcode → Type 0
Keeps at code = (l : ℕ) → is_in (defined_in code) l ≡ true → Segment at (behind l code) (at l)

-- the first label of code keeps the segment behind it
keeps-first : (at : Assignment) (m : ℕ) (code : List Opcode) → Keeps at (Label m ∷ code) → Segment at code (at m)
keeps-first at m code h = subst (λ b. Segment at (if b then code else behind m code) (at m)) here (h m (ap (λ b. b || is_in (defined_in code) m) here))
  where
    here : nat_eq m m ≡ true
    here = nat_eq_equiv.refl m

keeps-rest : (at : Assignment) (m : ℕ) (code : List Opcode) → no_label_twice (defined_in (Label m ∷ code)) ≡ true → Keeps at (Label m ∷ code) → Keeps at code
keeps-rest at m code d h l i = by (nat_eq m l) refl (h l (or-right (nat_eq l m) (is_in (defined_in code) l) i))
  where
    by : (b : Bool) → nat_eq m l ≡ b → Segment at (if b then code else behind l code) (at l) → Segment at (behind l code) (at l)
    by true e s = absurd (not-both (is_in (defined_in code) m) (and-left _ _ d) (ap (is_in (defined_in code)) (same-number m l e) ∙ i))
    by false e s = s

pub walk-from : (at : Assignment) (code : List Opcode) (before : Option State) → no_label_twice (defined_in code) ≡ true → Keeps at code → Segment at code before → Walk at code before
walk-from at [] before d h s = s
walk-from at (Label m ∷ code) None d h s = (tt, walk-from at code (at m) (and-right _ _ d) (keeps-rest at m code d h) (keeps-first at m code h))
walk-from at (Label m ∷ code) (Some t) d h s = (s, walk-from at code (at m) (and-right _ _ d) (keeps-rest at m code d h) (keeps-first at m code h))
walk-from at (o ∷ code) None d h s = walk-from at code None d h (segment-none at code)
walk-from at (o ∷ code) (Some t) d h s = onward-more at at (under-same at) (Segment at code) (Walk at code) (λ n g. walk-from at code n d h g) (flow o t) s

pub good-from : (f : FunctionCode) (at : Assignment) → no_label_twice (defined_in f.code) ≡ true → GoesTo at (f.entry, entry_state f.arity)
    → ((l : ℕ) → is_in (defined_in f.code) l ≡ true → Segment at (behind l f.code) (at l)) → Good f at
good-from f at d e h = record { enters = e; walks = walk-from at f.code None d h (segment-none at f.code) }
