-- The first break, while code and functions are gone through.
use Rattle.std.proofs.Common.{◌≡◌, ℕ, ◌+◌, true, List, [], ◌∷◌, ◌++◌, append_assoc, append-nil, Option, None, Some, refl, sym, ap, subst, ◌∙◌}
use Rattle.std.specs.Prelude.{if◌then◌else◌}
use Rattle.std.specs.List.{cons_option}
use Rattle.std.specs.Option.{option_or}
use Rattle.beam_code.specs.Code.{FunctionCode}
use Rattle.beam_code.specs.Opcode.{Opcode}
use Rattle.label_check.specs.declared.fault.LabelFault.{LabelFault}
use Rattle.label_check.specs.declared.fault.LabelFault.TheVariants as fault
use Rattle.label_check.specs.Told.{TellsFault}
use Rattle.beam_code.specs.Labels.{Break, BadEntry, Scope, is_in, defined_by, defined_in, begins_well, with_label, break_at, break_in_code, break_in, break_from, scope_of}

-- a fault that tells of one break tells of what comes to the same
pub tells-same : (fault : LabelFault) {a b : Option Break} → a ≡ b → TellsFault fault a → TellsFault fault b
tells-same fault e = subst (TellsFault fault) e

-- what comes first is told, whatever comes behind it
pub tells-or : (fault : LabelFault) (a b : Option Break) → TellsFault fault a → TellsFault fault (option_or a b)
tells-or (fault.Twice label) a b e = ap (λ o. option_or o b) e
tells-or (fault.Missing func index label) a b e = ap (λ o. option_or o b) e
tells-or (fault.BadEntry func) a b e = ap (λ o. option_or o b) e
tells-or (fault.BadArity func index) a b e = ap (λ o. option_or o b) e
tells-or fault.NoMemory a b e = tt

-- what is left of the code tells what the whole does
pub record Walked (scope : Scope) (func at : ℕ) (now start : List ℕ) (left whole : List Opcode) : Type 0 where
  pub same : break_in_code scope func at now left ≡ break_in_code scope func 0 start whole
  pub all : now ++ defined_in left ≡ start ++ defined_in whole

pub walked-none : (scope : Scope) (func : ℕ) (now : List ℕ) (whole : List Opcode) → Walked scope func 0 now now whole whole
walked-none scope func now whole = record { same = refl; all = refl }

module _ (scope : Scope) (func at : ℕ) (now start : List ℕ) (i : Opcode) (left more whole : List Opcode) (e : more ≡ i ∷ left) (w : Walked scope func at now start more whole) where
  here : option_or (break_at scope func at now i) (break_in_code scope func (at + 1) (with_label now (defined_by i)) left) ≡ break_in_code scope func 0 start whole
  here = ap (break_in_code scope func at now) (sym e) ∙ w.same

  pub walked-stop : (fault : LabelFault) → TellsFault fault (break_at scope func at now i) → TellsFault fault (break_in_code scope func 0 start whole)
  walked-stop fault tells = tells-same fault here (tells-or fault (break_at scope func at now i) (break_in_code scope func (at + 1) (with_label now (defined_by i)) left) tells)

  pub walked-more : (new : List ℕ) → break_at scope func at now i ≡ None → new ≡ with_label now (defined_by i) → Walked scope func (at + 1) new start left whole
  walked-more new is e' = record {
    same =
        ap (λ ns. break_in_code scope func (at + 1) ns left) e'
        ∙ ap (λ o. option_or o (break_in_code scope func (at + 1) (with_label now (defined_by i)) left)) (sym is)
        ∙ here;
    all = ap (λ ns. ns ++ defined_in left) e' ∙ by (defined_by i) ∙ ap (λ code. now ++ defined_in code) (sym e) ∙ w.all;
  }
    where
      by : (o : Option ℕ) → with_label now o ++ defined_in left ≡ now ++ cons_option o (defined_in left)
      by None = refl
      by (Some n) = append_assoc now (n ∷ []) (defined_in left)

module _ (scope : Scope) (func at : ℕ) (now start : List ℕ) (left whole : List Opcode) (e : left ≡ []) (w : Walked scope func at now start left whole) where
  pub walked-end : break_in_code scope func 0 start whole ≡ None
  walked-end = sym (ap (break_in_code scope func at now) (sym e) ∙ w.same)

  pub walked-all : now ≡ start ++ defined_in whole
  walked-all = sym (append-nil now) ∙ ap (λ code. now ++ defined_in code) (sym e) ∙ w.all

-- a scope with these labels
pub same-scope : (scope : Scope) (f : FunctionCode) → ((q : ℕ) → scope.is_own q ≡ is_in (defined_in f.code) q) → scope ≡ scope_of scope.arity f
same-scope scope f e = λ i. record { is_own = λ q. e q i; arity = scope.arity }

-- a function that begins well
pub begun-well : (owner : List ℕ) (scope : Scope) (func : ℕ) (before : List ℕ) (f : FunctionCode) (code : List Opcode) → begins_well owner f ≡ true → code ≡ f.code
    → ((q : ℕ) → scope.is_own q ≡ is_in (defined_in code) q) → break_in_code scope func 0 before code ≡ break_in owner scope.arity func before f
begun-well owner scope func before f code h e own =
    ap (break_in_code scope func 0 before) e
    ∙ ap (λ s. break_in_code s func 0 before f.code) (same-scope scope f (λ q. own q ∙ ap (λ c. is_in (defined_in c) q) e))
    ∙ sym (ap (λ b. if b then break_in_code (scope_of scope.arity f) func 0 before f.code else Some (BadEntry func)) h)

-- what is left of the functions tells what all do
module _ (owner : List ℕ) (arity : ℕ → Option ℕ) (at : ℕ) (now : List ℕ) (f : FunctionCode) (left more : List FunctionCode) (first : Option Break) (e : more ≡ f ∷ left)
    (all : break_from owner arity at now more ≡ first) where
  abbrev behind : Option Break
  behind = break_from owner arity (at + 1) (now ++ defined_in f.code) left

  begun : option_or (break_in owner arity at now f) behind ≡ first
  begun = ap (break_from owner arity at now) (sym e) ∙ all

  pub checked-stop : (fault : LabelFault) → TellsFault fault (break_in owner arity at now f) → TellsFault fault first
  checked-stop fault tells = tells-same fault begun (tells-or fault (break_in owner arity at now f) behind tells)

  pub checked-more : (new : List ℕ) → break_in owner arity at now f ≡ None → new ≡ now ++ defined_in f.code → break_from owner arity (at + 1) new left ≡ first
  checked-more new is e' = ap (λ ns. break_from owner arity (at + 1) ns left) e' ∙ ap (λ o. option_or o behind) (sym is) ∙ begun

-- with the same arities
pub same-entries : (owner : List ℕ) (one other : ℕ → Option ℕ) (functions : List FunctionCode) → ((q : ℕ) → one q ≡ other q)
    → break_from owner one 0 [] functions ≡ break_from owner other 0 [] functions
same-entries owner one other functions e = λ i. break_from owner (λ q. e q i) 0 [] functions
