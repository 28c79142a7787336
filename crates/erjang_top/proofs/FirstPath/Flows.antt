-- A function with a good assignment of states flows from front to back.
use Rattle.std.proofs.Common.{◌≡◌, ℕ, Bool, true, false, ◌&&◌, ◌||◌, nat_eq, List, [], ◌∷◌, Some, refl, sym, ap, ◌∙◌}
use Rattle.std.specs.Prelude.{if◌then◌else◌}
use Rattle.std.specs.List.{list_any}
use Rattle.std.specs.Option.{option_map_or}
use Rattle.std.specs.Str.{bytes_eq}
use Rattle.std.proofs.lemmas.Bool.{and_parts}
use Rattle.beam_code.specs.declared.module.Function.{Function}
use Rattle.erjang_top.specs.first_path.LabelRules.{opcodes, is_head, is_beginning, begins_well}
use Rattle.erjang_top.specs.first_path.Opcode.{Opcode, Label, Line, Comment, FuncInfo, Move, Return, Unknown}
use Rattle.erjang_top.specs.first_path.Slots.{WellSlotted}
use Rattle.erjang_top.specs.first_path.Flow.{arguments, flows}
use Rattle.erjang_top.specs.first_path.ModuleClass.{is_entry, behind, body}
use Rattle.erjang_top.specs.first_path.SlotCheck as check
use Rattle.erjang_top.proofs.FirstPath.SlotsPass.{good-passes}

-- ---- the entry label is there

head-entry : (owner : List ℕ) (f : Function) (code : List Opcode) → is_head owner f code ≡ true → list_any (is_entry f.entry) code ≡ true
head-entry owner f (FuncInfo m name arity ∷ Label entry ∷ rest) h =
    let p = and_parts (bytes_eq m owner && bytes_eq name f.name && nat_eq arity f.arity) (nat_eq entry f.entry) h in
    rw (p.1) refl
head-entry owner f _ h = absurd cc

or-true : (a b : Bool) → b ≡ true → (a || b) ≡ true
or-true true b e = refl
or-true false b e = e

beginning-entry : (owner : List ℕ) (f : Function) (code : List Opcode) → is_beginning owner f code ≡ true → list_any (is_entry f.entry) code ≡ true
beginning-entry owner f (Label n ∷ Line ∷ rest) h = or-true (nat_eq n f.entry) _ (head-entry owner f rest h)
beginning-entry owner f (Label n ∷ FuncInfo m name arity ∷ rest) h = or-true (nat_eq n f.entry) _ (head-entry owner f (FuncInfo m name arity ∷ rest) h)
beginning-entry owner f _ h = absurd cc

-- the code behind a label that is there
found-behind : (entry : ℕ) (code : List Opcode) → list_any (is_entry entry) code ≡ true → check.behind entry code ≡ Some (behind entry code)
found-behind entry [] h = absurd cc
found-behind entry (Label n ∷ code) h = by (found-behind entry code) (nat_eq n entry) h
  where
    by : (list_any (is_entry entry) code ≡ true → check.behind entry code ≡ Some (behind entry code)) → (b : Bool) → (b || list_any (is_entry entry) code) ≡ true
        → (if b then Some code else check.behind entry code) ≡ Some (if b then code else behind entry code)
    by later true e = refl
    by later false e = later e
found-behind entry (Line ∷ code) h = found-behind entry code h
found-behind entry (Comment ∷ code) h = found-behind entry code h
found-behind entry (FuncInfo owner name arity ∷ code) h = found-behind entry code h
found-behind entry (Move from to ∷ code) h = found-behind entry code h
found-behind entry (Return ∷ code) h = found-behind entry code h
found-behind entry (Unknown ∷ code) h = found-behind entry code h

pub slotted-flows : (owner : List ℕ) (f : Function) → begins_well owner f ≡ true → WellSlotted f → flows (arguments f.arity) (body f) ≡ true
slotted-flows owner f begins slotted =
    sym (ap (λ rest. option_map_or (flows (arguments f.arity)) rest true) (found-behind f.entry (opcodes f) (beginning-entry owner f (opcodes f) begins))) ∙ good-passes f slotted
