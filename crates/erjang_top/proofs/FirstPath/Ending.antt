-- How a function's code ends, from registers that all hold terms, and turns that end a process.
use Rattle.std.proofs.Common.{◌≡◌, ℕ, zero, suc, ◌<◌, nat_eq, List, [], ◌∷◌, length, codes, Some, refl, ap, ◌∙◌, arith}
use Rattle.std.specs.Prelude.{slice_get, unwrap_or, if◌then◌else◌}
use Rattle.std.specs.Option.{option_map}
use Rattle.ej_term.specs.declared.class.Class3.TheVariants.{Error}
use Rattle.ej_term.specs.Term.{Term, Atom, Nil, list}
use Rattle.erjang_top.specs.first_path.World.{Begin, Call, Event, Raise, Answer}
use Rattle.erjang_top.specs.first_path.Run.{Ended, Turned}
use Rattle.erjang_top.specs.first_path.Opcode.{Source, X, Of, Opcode, Label, Line, Comment, FuncInfo, Move, Return, Unknown}
use Rattle.erjang_top.specs.first_path.Turn.{term_of, end_reason, list_of}

-- the term in each x register
abbrev pub Registers : Type 0
Registers = ℕ → Term

abbrev pub with_term : ℕ → Term → Registers → Registers
with_term to t registers n = if nat_eq n to then t else registers n

abbrev pub source_term : Registers → Source → Term
source_term registers (X n) = registers n
source_term registers (Of value) = term_of value

-- the registers that a call's arguments are in
abbrev pub given : List Term → Registers
given args n = unwrap_or (slice_get args n) Nil

pub given-here : (args : List Term) (n : ℕ) → n < length args → slice_get args n ≡ Some (given args n)
given-here [] n lt = absurd (omega (arith, lt))
given-here (t ∷ args) zero lt = refl
given-here (t ∷ args) (suc n) lt = given-here args n (omega (arith, lt))

pub data Ending : Type 0 where
  -- it returns that term
  Returned : (t : Term) → Ending
  -- it raises an error function_clause
  Refused : Ending

-- what code comes to that goes on from front to back
abbrev pub ending : Registers → List Opcode → Ending
ending registers [] = Refused
ending registers (Label n ∷ code) = ending registers code
ending registers (Line ∷ code) = ending registers code
ending registers (Comment ∷ code) = ending registers code
ending registers (FuncInfo owner name arity ∷ code) = Refused
ending registers (Move from to ∷ code) = ending (with_term to (source_term registers from) registers) code
ending registers (Return ∷ code) = Returned (registers 0)
ending registers (Unknown ∷ code) = Refused

abbrev pub clause_atom : Term
clause_atom = Atom (codes "function_clause")

-- what is seen of it, and the reason with which the process ends
abbrev pub events_of : ℕ → Ending → List Event
events_of me (Returned t) = Answer me t ∷ []
events_of me Refused = Raise me Error clause_atom ∷ []

abbrev pub reason_of : Ending → Term
reason_of (Returned t) = Atom (codes "normal")
reason_of Refused = end_reason Error clause_atom

-- a turn with these events, which ended with that reason
pub record Does {S : Type 0} (t : Turned S) (es : List Event) (reason : Term) : Type 0 where
  pub events : t.events ≡ es
  pub outcome : t.outcome ≡ Ended reason

-- a turn that is the same does the same
pub does-same : {S : Type 0} {t u : Turned S} {es : List Event} {reason : Term} → t ≡ u → Does u es reason → Does t es reason
does-same is d = record { events = ap (λ (v : Turned _). v.events) is ∙ d.events; outcome = ap (λ (v : Turned _). v.outcome) is ∙ d.outcome }

-- the start of a function by name
abbrev pub how_of : List ℕ → List ℕ → List Term → Begin
how_of owner name args = Call (Atom owner) (Atom name) (list args)

pub list-of : (ts : List Term) → list_of (list ts) ≡ Some ts
list-of [] = refl
list-of (t ∷ ts) = ap (option_map (λ us. t ∷ us)) (list-of ts)

abbrev pub undef_atom : Term
undef_atom = Atom (codes "undef")
