-- Where a good assignment of states to labels exists, the check from the entry label passes.
use Rattle.std.proofs.Common.{◌≡◌, ℕ, Bool, true, false, nat_eq, nat_lt, List, [], ◌∷◌, Option, None, Some, refl, sym, subst, arith}
use Rattle.std.specs.Prelude.{if◌then◌else◌, MatchOption}
use Rattle.std.specs.Option.{option_map_or}
use Rattle.std.proofs.lemmas.Bool.Decides.{nat_tests}
use Rattle.beam_code.specs.declared.module.Function.{Function}
use Rattle.erjang_top.specs.first_path.LabelRules.{opcodes}
use Rattle.erjang_top.specs.first_path.Opcode.{Source, X, Of, Opcode, Label, Line, Comment, FuncInfo, Move, Return, Unknown}
use Rattle.erjang_top.specs.first_path.Slots.{Kind, Undefined, Term, OptTerm, Tag, Trace, Marker, State, BelowKind, Below, Assignment, kind_of, IsMoved, with_x, after, Walk, entry_state, WellSlotted}
use Rattle.erjang_top.specs.first_path.Flow.{Holding, is_held, with_register, flows}
use Rattle.erjang_top.specs.first_path.SlotCheck.{behind, passes}

-- what does not hold a term by the check is undefined in the state
record Knows (held : Holding) (s : State) : Type 0 where
  undefined : (n : ℕ) → held n ≡ false → s.xs n ≡ Undefined

below-undefined : (k : Kind) → BelowKind Undefined k → k ≡ Undefined
below-undefined Undefined h = refl
below-undefined Term h = absurd h
below-undefined OptTerm h = absurd h
below-undefined (Tag labels) h = absurd h
below-undefined Trace h = absurd h
below-undefined Marker h = absurd h

knows-below : (held : Holding) (s t : State) → Knows held s → Below s t → Knows held t
knows-below held s t k b = record { undefined = λ n h. below-undefined (t.xs n) (subst (λ x. BelowKind x (t.xs n)) (k.undefined n h) (b.xs n)) }

moved-is-read : (held : Holding) (s : State) (from : Source) → Knows held s → IsMoved (kind_of s from) → is_held held from ≡ true
moved-is-read held s (Of value) k m = refl
moved-is-read held s (X n) k m = by (held n) refl
  where
    by : (b : Bool) → held n ≡ b → held n ≡ true
    by true e = e
    by false e = absurd (subst IsMoved (k.undefined n e) m)

knows-defined : (held : Holding) (s : State) (to : ℕ) (kind : Kind) → Knows held s → Knows (with_register to held) (with_x to kind s)
knows-defined held s to kind k = record { undefined = λ n. by n (nat_eq n to) }
  where
    by : (n : ℕ) (b : Bool) → (if b then true else held n) ≡ false → (if b then kind else s.xs n) ≡ Undefined
    by n true h = absurd (cc)
    by n false h = k.undefined n h

-- the state at a label that is gone to
there : (held : Holding) (s : State) (code : List Opcode) (at : Assignment) (next : Option State) → Knows held s → MatchOption next ⊥ (Below s) → Walk at next code
    → ((t : State) → Knows held t → Walk at (Some t) code → flows held code ≡ true) → flows held code ≡ true
there held s code at None k goes walks go = absurd goes
there held s code at (Some t) k goes walks go = go t (knows-below held s t k goes) walks

passes-from : (at : Assignment) (held : Holding) (s : State) (code : List Opcode) → Knows held s → Walk at (Some s) code → flows held code ≡ true
passes-from at held s [] k w = absurd (cc)
passes-from at held s (Label n ∷ code) k w = there held s code at (at n) k w.0 w.1 (λ t kt wt. passes-from at held t code kt wt)
passes-from at held s (Line ∷ code) k w = passes-from at held s code k w.1
passes-from at held s (Comment ∷ code) k w = passes-from at held s code k w.1
passes-from at held s (FuncInfo owner name arity ∷ code) k w = refl
passes-from at held s (Move from to ∷ code) k w =
    let first = moved-is-read held s from k w.0 in
    let rest = passes-from at (with_register to held) (with_x to (kind_of s from) s) code (knows-defined held s to (kind_of s from) k) w.1 in
    rw first rest
passes-from at held s (Return ∷ code) k w = moved-is-read held s (X 0) k (subst IsMoved (sym w.0.1) tt)
passes-from at held s (Unknown ∷ code) k w = absurd w.0

-- the walk from a label on
walk-behind : (at : Assignment) (label : ℕ) (before : Option State) (code rest : List Opcode) → Walk at before code → behind label code ≡ Some rest → Walk at (at label) rest
walk-behind at label before [] rest w e = absurd (cc)
walk-behind at label before (Line ∷ code) rest w e = walk-behind at label before code rest w.1 e
walk-behind at label before (Comment ∷ code) rest w e = walk-behind at label before code rest w.1 e
walk-behind at label before (FuncInfo owner name arity ∷ code) rest w e = walk-behind at label None code rest w.1 e
walk-behind at label before (Move from to ∷ code) rest w e = walk-behind at label (after at before (Move from to)) code rest w.1 e
walk-behind at label before (Return ∷ code) rest w e = walk-behind at label None code rest w.1 e
walk-behind at label before (Unknown ∷ code) rest w e = walk-behind at label before code rest w.1 e
walk-behind at label before (Label n ∷ code) rest w e = by (nat_eq n label) refl e (walk-behind at label (at n) code rest w.1)
  where
    same : nat_eq n label ≡ true → n ≡ label
    same h = grind (arith, nat_tests)

    by : (b : Bool) → nat_eq n label ≡ b → (if b then Some code else behind label code) ≡ Some rest → (behind label code ≡ Some rest → Walk at (at label) rest) → Walk at (at label) rest
    by true h f go =
        let code_is : code ≡ rest = cc in
        subst (λ c. Walk at (at label) c) code_is (subst (λ m. Walk at (at m) code) (same h) w.1)
    by false h f go = go f

knows-entry : (arity : ℕ) → Knows (λ n. nat_lt n arity) (entry_state arity)
knows-entry arity = record { undefined = λ n. by (nat_lt n arity) }
  where
    by : (b : Bool) → b ≡ false → (if b then Term else Undefined) ≡ Undefined
    by true e = absurd (cc)
    by false e = refl

pub good-passes : (f : Function) → WellSlotted f → passes f ≡ true
good-passes f slotted = by (behind f.entry (opcodes f)) refl
  where
    held : Holding
    held n = nat_lt n f.arity

    by : (r : Option (List Opcode)) → behind f.entry (opcodes f) ≡ r → option_map_or (flows held) r true ≡ true
    by None e = refl
    by (Some rest) e =
        let w = walk-behind slotted.0 f.entry None (opcodes f) rest slotted.1.walks e in
        there held (entry_state f.arity) rest slotted.0 (slotted.0 f.entry) (knows-entry f.arity) slotted.1.enters w (λ t k wt. passes-from slotted.0 held t rest k wt)
