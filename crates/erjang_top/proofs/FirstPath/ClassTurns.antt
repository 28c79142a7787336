-- What the class of an accepted module does in a first turn.
use Rattle.std.proofs.Common.{◌≡◌, ℕ, suc, ◌+◌, ◌-◌, ◌*◌, ◌<◌, ◌≤◌, true, false, ◌&&◌, nat_le, List, [], ◌∷◌, map, length, codes, Option, None, Some, refl, ap, ◌∙◌, arith}
use Rattle.std.specs.Prelude.{unwrap_or}
use Rattle.std.specs.List.{list_all, AllByRecursion}
use Rattle.std.specs.Option.{option_map, option_and_then}
use Rattle.std.specs.Str.{bytes_eq}
use Rattle.std.proofs.lemmas.Bool.{and_parts, leb-true}
use Rattle.ej_term.specs.declared.class.Class3.TheVariants.{Error}
use Rattle.ej_term.specs.Term.{Term}
use Rattle.erjang_top.specs.first_path.World.{Raise}
use Rattle.beam_code.specs.declared.module.Function.{Function}
use Rattle.beam_code.specs.declared.module.Module.{Module}
use Rattle.beam_code.specs.Keys.{Key, key_of, is_among}
use Rattle.erjang_top.proofs.FirstPath.AcceptedRules.{accepted_rules}
use Rattle.erjang_top.specs.first_path.LabelRules.{opcodes, begins_well, no_label_twice, labels_of}
use Rattle.erjang_top.specs.first_path.Slots.{WellSlotted}
use Rattle.erjang_top.specs.first_path.Accepted.{Accepted, is_atom_name, is_count, is_thin_opcode, is_thin_function}
use Rattle.erjang_top.specs.first_path.Turn.{end_reason}
use Rattle.erjang_top.specs.first_path.Weights.{weight, pool_weight}
use Rattle.erjang_top.specs.first_path.ClassFile.{Method, Class}
use Rattle.erjang_top.specs.first_path.ClassTurn.{OfTerm, Goes, Held, nothing_held, activation, run_method, Begun, At, after_run, enter, instructions_each, exported, loaded, resolved, uncaught, begin_at, turn}
use Rattle.erjang_top.specs.first_path.ClassProfile.{class_at}
use Rattle.erjang_top.specs.Mangle.{class_name, method_name}
use Rattle.erjang_top.specs.first_path.ModuleClass.{constants, first_name, method_of, methods_of, body, function_ops}
use Rattle.erjang_top.proofs.FirstPath.ClassBody.{finished}
use Rattle.erjang_top.proofs.FirstPath.ClassCode.{fuel, fuel-is}
use Rattle.erjang_top.proofs.FirstPath.ClassFunction.{function-count, behind-all, runs-function}
use Rattle.erjang_top.proofs.FirstPath.ClassNames.{class-test, none-exported, found-exported}
use Rattle.erjang_top.proofs.FirstPath.ClassParts.{IsOf}
use Rattle.erjang_top.proofs.FirstPath.Ending.{Ending, Returned, Refused, ending, events_of, reason_of, Does, does-same, given, how_of, list-of, undef_atom}
use Rattle.erjang_top.proofs.FirstPath.Flows.{slotted-flows}
use Rattle.erjang_top.proofs.FirstPath.Found.{Found, same-keys, all-of-found, test-of-found}
use Rattle.erjang_top.proofs.FirstPath.ModuleValues.{IsAmong, values-among}

begins : (cs : List Class) (me n : ℕ) (owner name : List ℕ) (args : List Term) → turn cs me n (Begun (how_of owner name args)) ≡ begin_at me n (Begun (how_of owner name args)) (resolved cs owner name args)
begins cs me n owner name args =
    ap (λ o. unwrap_or (option_map (λ ts. begin_at me n (Begun (how_of owner name args)) (resolved cs owner name ts)) o) (uncaught me (Begun (how_of owner name args)) (codes "badarg"))) (list-of args)

-- a call of what is not there
pub class-undef : (cs : List Class) (me n : ℕ) (owner name : List ℕ) (args : List Term) → resolved cs owner name args ≡ None
    → Does (turn cs me n (Begun (how_of owner name args))) (Raise me Error undef_atom ∷ []) (end_reason Error undef_atom)
class-undef cs me n owner name args none =
    does-same (begins cs me n owner name args ∙ ap (begin_at me n (Begun (how_of owner name args))) none) (record { events = refl; outcome = refl })

-- ---- where it enters

abbrev entered_at : Class → List ℕ → List Term → Option Method → Option Goes
entered_at c name args method = option_map (λ m. record { class = c; method = m; entry = 0; entered = map (λ t. OfTerm t) args }) method

abbrev goes_to : Class → Method → List Term → Goes
goes_to c method args = record { class = c; method = method; entry = 0; entered = map (λ t. OfTerm t) args }

-- the class of a module has the module's name
pub class-here : (m : Module) (c : Class) → IsOf m c → (owner : List ℕ) → bytes_eq (unwrap_or (class_at c.pool c.this) []) (class_name owner) ≡ bytes_eq m.name owner
class-here m c is owner = ap (λ o. bytes_eq (unwrap_or o []) (class_name owner)) is.name ∙ class-test m.name owner

-- a loaded class is entered at its public method
resolves : (cs : List Class) (m : Module) (c : Class) → IsOf m c → (owner name : List ℕ) (args : List Term) → loaded owner cs ≡ Some c
    → resolved cs owner name args ≡ entered_at c name args (exported c (method_name name (length args)) (methods_of m (constants m) (first_name (constants m)) m.functions))
resolves cs m c is owner name args here =
    ap (option_and_then (λ k. entered_at k name args (exported k (method_name name (length args)) k.methods))) here
    ∙ ap (λ ms. entered_at c name args (exported c (method_name name (length args)) ms)) is.methods

pub not-loaded : (cs : List Class) (owner name : List ℕ) (args : List Term) → loaded owner cs ≡ None → resolved cs owner name args ≡ None
not-loaded cs owner name args none = ap (option_and_then (λ k. entered_at k name args (exported k (method_name name (length args)) k.methods))) none

pub not-exported : (cs : List Class) (m : Module) (c : Class) → IsOf m c → list_all is_thin_function m.functions ≡ true → (owner name : List ℕ) (args : List Term) → length args ≤ 255
    → loaded owner cs ≡ Some c → is_among m.exports (name, length args) ≡ false → resolved cs owner name args ≡ None
not-exported cs m c is thin owner name args few here private =
    resolves cs m c is owner name args here
    ∙ ap (entered_at c name args) (none-exported m c (constants m) (first_name (constants m)) m.functions name (length args) is.names thin (omega (arith, few)) private)

-- ---- its turn

-- a run to a method's end ends the process
ends : (c : Class) (method : Method) (more me left left' : ℕ) (args : List Term) (end : Ending)
    → run_method me left (activation c method 0) [] (nothing_held (map (λ t. OfTerm t) args)) ≡ finished me (nothing_held (map (λ t. OfTerm t) args)) end left'
    → Does (enter (suc more) me left (goes_to c method args) (nothing_held (map (λ t. OfTerm t) args))) (events_of me end) (reason_of end)
ends c method more me left left' args end ran =
    let goes = goes_to c method args in
    let held = nothing_held (map (λ t. OfTerm t) args) in
    does-same (ap (after_run me (λ left'' goes' held'. enter more me left'' goes' held') (At goes held)) ran) (by end)
  where
    by : (end : Ending) → Does (after_run me (λ left'' goes' held'. enter more me left'' goes' held') (At (goes_to c method args) (nothing_held (map (λ t. OfTerm t) args)))
        (finished me (nothing_held (map (λ t. OfTerm t) args)) end left')) (events_of me end) (reason_of end)
    by (Returned t) = record { events = refl; outcome = refl }
    by Refused = record { events = refl; outcome = refl }

pub class-runs : (cs : List Class) (m : Module) (c : Class) → Accepted m → IsOf m c → list_all is_thin_function m.functions ≡ true → (me n : ℕ) (owner name : List ℕ) (args : List Term) → length args ≤ 255
    → 0 < n → loaded owner cs ≡ Some c → is_among m.exports (name, length args) ≡ true → (f : Found (name, length args) m.functions)
    → Does (turn cs me n (Begun (how_of owner name args))) (events_of me (ending (given args) (body f.function))) (reason_of (ending (given args) (body f.function)))
class-runs cs m c a is thin me n owner name args few some here public' f =
    let key : Key = (name, length args) in
    let g : Function = f.function in
    let values = constants m in
    let count : length args ≡ g.arity = ap (λ (k : Key). k.1) (same-keys key (key_of g) f.here) in
    let to = found-exported m c values (first_name values) m.functions name (length args) f is.names thin (omega (arith, few)) public' in
    let method : Method = method_of m values to.index g in
    let entered : resolved cs owner name args ≡ Some (goes_to c method args) =
    resolves cs m c is owner name args here ∙ ap (entered_at c name args) to.is in
    let held : Held = nothing_held (map (λ t. OfTerm t) args) in
    let fits = and_parts (list_all (λ h. nat_le (weight h) 32767) m.functions) (nat_le (pool_weight m) 65534) a.sizes in
    let labels = and_parts (list_all (begins_well m.name) m.functions) (no_label_twice (labels_of m)) (accepted_rules m a) in
    let light : weight g ≤ 32767 = leb-true (weight g) 32767 (test-of-found key m.functions (λ h. nat_le (weight h) 32767) f fits.0) in
    let ops = function_ops values g in
    let budget : ℕ = (n + 1) * instructions_each in
    let spare : budget ≡ fuel ops (budget - length ops) = omega (arith, light, some, function-count values g, fuel-is ops (budget - length ops)) in
    let transfers : n ≡ suc (n - 1) = omega (arith, some) in
    let all-thin : list_all is_thin_opcode (body g) ≡ true =
    behind-all is_thin_opcode g.entry (opcodes g)
    (and_parts (is_atom_name g.name && nat_le g.arity 255 && is_count g.entry) (list_all is_thin_opcode (opcodes g)) (test-of-found key m.functions is_thin_function f thin)).1 in
    let ran : run_method me budget (activation c method 0) [] held ≡ finished me held (ending (given args) (body g)) (budget - length ops) =
    ap (λ k. run_method me k (activation c method 0) [] held) spare
    ∙ runs-function c method me values is.runtime is.entries g (budget - length ops) args held refl refl count refl
    (slotted-flows m.name g (test-of-found key m.functions (begins_well m.name) f labels.0) (all-of-found key m.functions WellSlotted f a.slots))
    (all-of-found key m.functions (λ h. AllByRecursion (IsAmong values) (body h)) f (values-among m)) all-thin in
    does-same (begins cs me n owner name args ∙ ap (begin_at me n (Begun (how_of owner name args))) entered ∙ ap (λ k. enter k me budget (goes_to c method args) held) transfers)
    (ends c method (n - 1) me budget (budget - length ops) args (ending (given args) (body g)) ran)
