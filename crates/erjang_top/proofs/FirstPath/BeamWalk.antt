-- BEAM code that flows from front to back: what a walk over it comes to.
use Rattle.std.proofs.Common.{◌≡◌, ℕ, zero, suc, ◌≤◌, Bool, true, false, nat_eq, List, [], ◌∷◌, ◌++◌, drop, length, Option, Some, refl, ap, ◌∙◌, arith}
use Rattle.std.specs.Prelude.{if◌then◌else◌}
use Rattle.std.proofs.lemmas.Bool.{and_parts}
use Rattle.ej_term.specs.Term.{Term}
use Rattle.erjang_top.specs.first_path.Opcode.{Source, X, Of, Opcode, Label, Line, Comment, FuncInfo, Move, Return, Unknown}
use Rattle.erjang_top.specs.first_path.Turn.{instructions, Machine, next_place, act, answer, write, read, go, walk}
use Rattle.erjang_top.specs.first_path.Flow.{Holding, with_register, is_held, flows}
use Rattle.erjang_top.proofs.FirstPath.Ending.{Registers, with_term, source_term, ending, events_of, reason_of, Does, does-same}
use Rattle.erjang_top.proofs.FirstPath.Places.{first-of-drop, rest-of-drop}

-- each register that holds a term holds this one
abbrev pub Hold : Holding → Registers → (ℕ → Option Term) → Type 0
Hold holding registers xs = (n : ℕ) → holding n ≡ true → xs n ≡ Some (registers n)

-- the place is in this code, with the registers so, and no caller waits
pub record Stands (m : Machine) (code rest : List Opcode) (holding : Holding) (registers : Registers) : Type 0 where
  pub stands : drop m.place (instructions m.owner) ≡ code ++ rest
  pub holds : Hold holding registers m.xs
  pub alone : m.callers ≡ []

hold-written : (holding : Holding) (registers : Registers) (xs : ℕ → Option Term) (to : ℕ) (t : Term) → Hold holding registers xs
    → Hold (with_register to holding) (with_term to t registers) (λ n. if nat_eq n to then Some t else xs n)
hold-written holding registers xs to t h n = at (nat_eq n to) (h n)
  where
    at : (b : Bool) → (holding n ≡ true → xs n ≡ Some (registers n)) → (if b then true else holding n) ≡ true → (if b then Some t else xs n) ≡ Some (if b then t else registers n)
    at true g held = refl
    at false g held = g held

reads : (m : Machine) (from : Source) (holding : Holding) (registers : Registers) → is_held holding from ≡ true → Hold holding registers m.xs → read m from ≡ Some (source_term registers from)
reads m (X n) holding registers held h = h n held
reads m (Of value) holding registers held h = refl

-- one step on
steps-on : (k me left : ℕ) (m : Machine) (i : Opcode) (code : List Opcode) → drop m.place (instructions m.owner) ≡ i ∷ code → walk (suc k) me left m ≡ go (walk k me) me left m (act (Some i) m)
steps-on k me left m i code e = ap (λ o. go (walk k me) me left m (act o m)) (first-of-drop (instructions m.owner) m.place i code e)

pub walks : (k me left : ℕ) (m : Machine) (code rest : List Opcode) (holding : Holding) (registers : Registers) → length code ≤ k → flows holding code ≡ true
    → Stands m code rest holding registers → Does (walk k me left m) (events_of me (ending registers code)) (reason_of (ending registers code))
walks k me left m [] rest holding registers enough flow s = absurd cc
walks zero me left m (i ∷ code) rest holding registers enough flow s = absurd (omega (arith, enough))
walks (suc k) me left m (Label n ∷ code) rest holding registers enough flow s =
    does-same (steps-on k me left m _ _ s.stands)
    (walks k me left (next_place m) code rest holding registers (omega (arith, enough)) flow (record { stands = rest-of-drop _ m.place _ _ s.stands; holds = s.holds; alone = s.alone }))
walks (suc k) me left m (Line ∷ code) rest holding registers enough flow s =
    does-same (steps-on k me left m _ _ s.stands)
    (walks k me left (next_place m) code rest holding registers (omega (arith, enough)) flow (record { stands = rest-of-drop _ m.place _ _ s.stands; holds = s.holds; alone = s.alone }))
walks (suc k) me left m (Comment ∷ code) rest holding registers enough flow s =
    does-same (steps-on k me left m _ _ s.stands)
    (walks k me left (next_place m) code rest holding registers (omega (arith, enough)) flow (record { stands = rest-of-drop _ m.place _ _ s.stands; holds = s.holds; alone = s.alone }))
walks (suc k) me left m (FuncInfo owner name arity ∷ code) rest holding registers enough flow s =
    does-same (steps-on k me left m _ _ s.stands) (record { events = refl; outcome = refl })
walks (suc k) me left m (Move from to ∷ code) rest holding registers enough flow s =
    let f = and_parts (is_held holding from) (flows (with_register to holding) code) flow in
    let t = source_term registers from in
    let moved : Machine = record (next_place m) { xs = λ n. if nat_eq n to then Some t else m.xs n } in
    does-same (steps-on k me left m _ _ s.stands ∙ ap (λ o. go (walk k me) me left m (write m to o)) (reads m from holding registers f.0 s.holds))
    (walks k me left moved code rest (with_register to holding) (with_term to t registers) (omega (arith, enough)) f.1
    (record { stands = rest-of-drop _ m.place _ _ s.stands; holds = hold-written holding registers m.xs to t s.holds; alone = s.alone }))
walks (suc k) me left m (Return ∷ code) rest holding registers enough flow s =
    does-same (steps-on k me left m _ _ s.stands
    ∙ ap (λ o. go (walk k me) me left m (answer m.callers o)) (s.holds 0 flow)
    ∙ ap (λ cs. go (walk k me) me left m (answer cs (Some (registers 0)))) s.alone)
    (record { events = refl; outcome = refl })
walks (suc k) me left m (Unknown ∷ code) rest holding registers enough flow s = absurd cc
