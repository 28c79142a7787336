-- What the BEAM code of an accepted module does in a first turn.
use Rattle.std.proofs.Common.{◌≡◌, ℕ, ◌+◌, ◌*◌, ◌≤◌, Bool, true, false, if◌then◌else◌, List, [], ◌∷◌, map, sum, length, length-append, length-drop, None, Some, refl, sym, ap, ◌∙◌, arith}
use Rattle.std.proofs.lemmas.List.Sums.{sum_by-cons, sum-map}
use Rattle.std.specs.Prelude.{unwrap_or}
use Rattle.std.specs.List.{list_all}
use Rattle.std.specs.Option.{option_map, option_and_then}
use Rattle.std.specs.Str.{bytes_eq}
use Rattle.std.proofs.lemmas.Bool.{and_parts, ltb-true}
use Rattle.ej_term.specs.declared.class.Class3.TheVariants.{Error}
use Rattle.ej_term.specs.Term.{Term}
use Rattle.erjang_top.specs.first_path.World.{Raise}
use Rattle.beam_code.specs.declared.module.Module.{Module}
use Rattle.beam_code.specs.Keys.{Key, key_of, is_among}
use Rattle.erjang_top.proofs.FirstPath.AcceptedRules.{accepted_rules}
use Rattle.erjang_top.specs.first_path.LabelRules.{begins_well, no_label_twice, labels_of}
use Rattle.erjang_top.specs.first_path.Opcode.{Opcode, Label}
use Rattle.erjang_top.specs.first_path.Slots.{WellSlotted}
use Rattle.erjang_top.specs.first_path.Accepted.{Accepted}
use Rattle.erjang_top.specs.first_path.Turn.{instructions, place_of, Machine, Begun, end_reason, most_steps, machine_at, enters, loaded, resolved, enter, bad_call, turn}
use Rattle.erjang_top.specs.first_path.Flow.{arguments}
use Rattle.erjang_top.specs.first_path.ModuleClass.{body}
use Rattle.erjang_top.proofs.FirstPath.BeamEnter.{entry-here}
use Rattle.erjang_top.proofs.FirstPath.BeamWalk.{Stands, walks}
use Rattle.erjang_top.proofs.FirstPath.Ending.{ending, events_of, reason_of, Does, does-same, given, given-here, how_of, list-of, undef_atom}
use Rattle.erjang_top.proofs.FirstPath.Flows.{slotted-flows}
use Rattle.erjang_top.proofs.FirstPath.Found.{Found, same-keys, all-of-found, test-of-found}

begins : (ms : List Module) (me n : ℕ) (owner name : List ℕ) (args : List Term) → turn ms me n (Begun (how_of owner name args)) ≡ enter ms me n (Begun (how_of owner name args)) (resolved ms owner name args)
begins ms me n owner name args =
    ap (λ o. unwrap_or (option_map (λ ts. enter ms me n (Begun (how_of owner name args)) (resolved ms owner name ts)) o) (bad_call me (Begun (how_of owner name args)))) (list-of args)

-- a call of what is not there
pub beam-undef : (ms : List Module) (me n : ℕ) (owner name : List ℕ) (args : List Term) → resolved ms owner name args ≡ None
    → Does (turn ms me n (Begun (how_of owner name args))) (Raise me Error undef_atom ∷ []) (end_reason Error undef_atom)
beam-undef ms me n owner name args none =
    does-same (begins ms me n owner name args ∙ ap (enter ms me n (Begun (how_of owner name args))) none) (record { events = refl; outcome = refl })

-- steps enough for all instructions
enough-steps : (n total : ℕ) → total ≤ (n + 1) * (total + 2)
enough-steps n total = grind arith

more-code : (k : Module) (ms : List Module) → sum (map (λ (j : Module). length (instructions j)) (k ∷ ms)) ≡ length (instructions k) + sum (map (λ (j : Module). length (instructions j)) ms)
more-code k ms = sum-map (λ (j : Module). length (instructions j)) (k ∷ ms) ∙ sum_by-cons (λ (j : Module). length (instructions j)) k ms
    ∙ ap (λ n. length (instructions k) + n) (sym (sum-map (λ (j : Module). length (instructions j)) ms))

-- a loaded module's code is part of all code
within : (ms : List Module) (m : Module) (owner : List ℕ) → loaded owner ms ≡ Some m → length (instructions m) ≤ sum (map (λ (k : Module). length (instructions k)) ms)
within [] m owner is = absurd (cc)
within (k ∷ ms) m owner is = by (bytes_eq k.name owner) (within ms m owner) is
  where
    by : (b : Bool) → (loaded owner ms ≡ Some m → length (instructions m) ≤ sum (map (λ (j : Module). length (instructions j)) ms)) → (if b then Some k else loaded owner ms) ≡ Some m
        → length (instructions m) ≤ sum (map (λ (j : Module). length (instructions j)) (k ∷ ms))
    by true more e = let same : k ≡ m = cc in omega (arith, ap (λ (j : Module). length (instructions j)) same, more-code k ms)
    by false more e = omega (arith, more e, more-code k ms)

-- its function runs to its end
pub beam-runs : (ms : List Module) (m : Module) → Accepted m → (me n : ℕ) (owner name : List ℕ) (args : List Term) → loaded owner ms ≡ Some m
    → is_among m.exports (name, length args) ≡ true → (f : Found (name, length args) m.functions)
    → Does (turn ms me n (Begun (how_of owner name args))) (events_of me (ending (given args) (body f.function))) (reason_of (ending (given args) (body f.function)))
beam-runs ms m a me n owner name args here public' f =
    let key : Key = (name, length args) in
    let labels = and_parts (list_all (begins_well m.name) m.functions) (no_label_twice (labels_of m)) (accepted_rules m a) in
    let e = entry-here m.name key m.functions f labels.0 labels.1 in
    let count : length args ≡ f.function.arity = ap (λ (k : Key). k.1) (same-keys key (key_of f.function) f.here) in
    let mach : Machine = machine_at m args e.place in
    let code : List Opcode = Label f.function.entry ∷ body f.function in
    let entered : resolved ms owner name args ≡ Some mach =
    ap (option_and_then (λ k. enters k name args)) here
    ∙ rw public' (ap (λ o. option_map (machine_at m args) (option_and_then (λ k. place_of k 0 (instructions m)) o)) e.entry ∙ ap (option_map (machine_at m args)) e.found) in
    let stands : Stands mach code e.rest (arguments f.function.arity) (given args) = record { stands = e.stands; holds = λ k lt. given-here args k (omega (arith, count, ltb-true k f.function.arity lt)); alone = refl } in
    let steps : length code ≤ most_steps ms n =
    omega (arith, enough-steps n (sum (map (λ (k : Module). length (instructions k)) ms)), within ms m owner here, ap length e.stands, length-drop e.place (instructions m), length-append code e.rest) in
    does-same (begins ms me n owner name args ∙ ap (enter ms me n (Begun (how_of owner name args))) entered)
    (walks (most_steps ms n) me n mach code e.rest (arguments f.function.arity) (given args) steps
    (slotted-flows m.name f.function (test-of-found key m.functions (begins_well m.name) f labels.0) (all-of-found key m.functions WellSlotted f a.slots)) stands)
