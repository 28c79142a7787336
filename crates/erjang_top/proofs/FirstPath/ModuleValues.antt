-- The values of a module's moves, and where the pool of its class has them.
use Rattle.std.proofs.Common.{◌≡◌, ℕ, suc, ◌+◌, ◌*◌, Bool, true, false, ◌||◌, List, [], ◌∷◌, ◌++◌, length, map, codes, Some, refl, sym, ap, ◌∙◌, subst, append_assoc, arith}
use Rattle.std.specs.Prelude.{slice_get, if◌then◌else◌, fold}
use Rattle.std.specs.List.{list_any, filter_map, flat_map, AllByRecursion, position_or_len}
use Rattle.std.specs.Option.{option_and_then}
use Rattle.std.proofs.lemmas.Bool.Decides.{Decides-int_eq}
use Rattle.std.proofs.lemmas.List.Folds.{list_any-append}
use Rattle.std.proofs.lemmas.Slice.Eq.{bytes_eq-Decides}
use Rattle.ej_term.specs.TermPrint.{print_atom}
use Rattle.beam_code.specs.declared.module.Function.{Function}
use Rattle.beam_code.specs.declared.module.Module.{Module}
use Rattle.erjang_top.specs.first_path.LabelRules.{opcodes}
use Rattle.erjang_top.specs.first_path.Opcode.{Value, Integer, Atom, Nil, X, Of, Opcode, Label, Line, Comment, FuncInfo, Move, Return, Unknown}
use Rattle.erjang_top.specs.first_path.Weights.{value_in, values_of, same_value, with_value}
use Rattle.erjang_top.specs.first_path.ClassFile.{Constant}
use Rattle.erjang_top.specs.first_path.ClassProfile.{utf8_in, string_in, string_at, long_in, long_at}
use Rattle.erjang_top.specs.Mangle.{class_name}
use Rattle.erjang_top.specs.first_path.ModuleClass.{fixed_entries, first_value, value_entries, values_entries, name_entry, constants, pool_of, index_of, is_entry, behind, body}

-- ---- the values of the moves

-- values are the same where their test says so
pub same-value-is : (v w : Value) → same_value v w ≡ true → v ≡ w
same-value-is (Integer m) (Integer n) e = ap (λ k. Integer k) ((Decides-int_eq m n).0 e)
same-value-is (Atom a) (Atom b) e = ap (λ k. Atom k) ((bytes_eq-Decides a b).0 e)
same-value-is Nil Nil e = refl
same-value-is (Integer m) (Atom b) e = absurd cc
same-value-is (Integer m) Nil e = absurd cc
same-value-is (Atom a) (Integer n) e = absurd cc
same-value-is (Atom a) Nil e = absurd cc
same-value-is Nil (Integer n) e = absurd cc
same-value-is Nil (Atom b) e = absurd cc

pub same-value-itself : (v : Value) → same_value v v ≡ true
same-value-itself (Integer n) = (Decides-int_eq n n).1 refl
same-value-itself (Atom name) = (bytes_eq-Decides name name).1 refl
same-value-itself Nil = refl

abbrev is_among : List Value → Value → Bool
is_among values v = list_any (same_value v) values

-- what is among some values is among others
abbrev Within : List Value → List Value → Type 0
Within values others = (v : Value) → is_among values v ≡ true → is_among others v ≡ true

or-left : (a b : Bool) → a ≡ true → (a || b) ≡ true
or-left true b e = refl
or-left false b e = absurd cc

or-right : (a b : Bool) → b ≡ true → (a || b) ≡ true
or-right true b e = refl
or-right false b e = e

or-cases : {A : Type 0} (a b : Bool) → (a || b) ≡ true → (a ≡ true → A) → (b ≡ true → A) → A
or-cases true b e f g = f refl
or-cases false b e f g = g e

with-keeps : (values : List Value) (value : Value) → Within values (with_value values value)
with-keeps values value v among = at (is_among values value)
  where
    at : (b : Bool) → is_among (if b then values else values ++ value ∷ []) v ≡ true
    at true = among
    at false = list_any-append (same_value v) values (value ∷ []) ∙ or-left (is_among values v) (is_among (value ∷ []) v) among

with-has : (values : List Value) (value : Value) → is_among (with_value values value) value ≡ true
with-has values value = at (is_among values value) refl
  where
    at : (b : Bool) → is_among values value ≡ b → is_among (if b then values else values ++ value ∷ []) value ≡ true
    at true e = e
    at false e = list_any-append (same_value value) values (value ∷ []) ∙ or-right (is_among values value) (is_among (value ∷ []) value) (or-left (same_value value value) false (same-value-itself value))

fold-keeps : (more values : List Value) → Within values (fold with_value values more)
fold-keeps [] values v among = among
fold-keeps (value ∷ more) values v among = fold-keeps more (with_value values value) v (with-keeps values value v among)

fold-has : (more values : List Value) → Within more (fold with_value values more)
fold-has [] values v among = absurd cc
fold-has (value ∷ more) values v among =
    or-cases (same_value v value) (is_among more v) among
    (λ e. fold-keeps more (with_value values value) v (subst (λ w. is_among (with_value values value) w ≡ true) (sym (same-value-is v value e)) (with-has values value)))
    (λ e. fold-has more (with_value values value) v e)

abbrev pub IsAmong : List Value → Opcode → Type 0
IsAmong values (Move (Of value) to) = list_any (same_value value) values ≡ true
IsAmong values _ = Unit {0}

code-among : (values : List Value) (code : List Opcode) → Within (filter_map value_in code) values → AllByRecursion (IsAmong values) code
code-among values [] within = tt
code-among values (Label n ∷ code) within = (tt, code-among values code within)
code-among values (Line ∷ code) within = (tt, code-among values code within)
code-among values (Comment ∷ code) within = (tt, code-among values code within)
code-among values (FuncInfo owner name arity ∷ code) within = (tt, code-among values code within)
code-among values (Move (X n) to ∷ code) within = (tt, code-among values code within)
code-among values (Move (Of value) to ∷ code) within = (
  within value (or-left (same_value value value) _ (same-value-itself value)),
  code-among values code (λ v among. within v (or-right (same_value v value) _ among)),
)
code-among values (Return ∷ code) within = (tt, code-among values code within)
code-among values (Unknown ∷ code) within = (tt, code-among values code within)

behind-among : (values : List Value) (entry : ℕ) (code : List Opcode) → AllByRecursion (IsAmong values) code → AllByRecursion (IsAmong values) (behind entry code)
behind-among values entry [] all = tt
behind-among values entry (i ∷ code) all = at (behind-among values entry code all.1) (is_entry entry i)
  where
    at : AllByRecursion (IsAmong values) (behind entry code) → (b : Bool) → AllByRecursion (IsAmong values) (if b then code else behind entry code)
    at later true = all.1
    at later false = later

functions-among : (values : List Value) (fs : List Function) → Within (flat_map (λ f. filter_map value_in (opcodes f)) fs) values
    → AllByRecursion (λ f. AllByRecursion (IsAmong values) (body f)) fs
functions-among values [] within = tt
functions-among values (f ∷ fs) within =
    let front = filter_map value_in (opcodes f) in
    let rest = flat_map (λ (g : Function). filter_map value_in (opcodes g)) fs in (
      behind-among values f.entry (opcodes f) (code-among values (opcodes f) (λ v among. within v (list_any-append (same_value v) front rest ∙ or-left (is_among front v) (is_among rest v) among))),
      functions-among values fs (λ v among. within v (list_any-append (same_value v) front rest ∙ or-right (is_among front v) (is_among rest v) among)),
    )

-- each value of each function's body is among the module's
pub values-among : (m : Module) → AllByRecursion (λ f. AllByRecursion (IsAmong (constants m)) (body f)) m.functions
values-among m = functions-among (constants m) m.functions (fold-has (values_of m) [])

-- ---- their entries

-- what stands behind some items
pub get-behind : {X : Type 0} (xs ys : List X) (n : ℕ) → slice_get (xs ++ ys) (length xs + n) ≡ slice_get ys n
get-behind [] ys n = ap (slice_get ys) zero_left
  where
    zero_left : 0 + n ≡ n
    zero_left = grind arith
get-behind (x ∷ xs) ys n = ap (slice_get (x ∷ (xs ++ ys))) suc_left ∙ get-behind xs ys n
  where
    suc_left : suc (length xs) + n ≡ suc (length xs + n)
    suc_left = grind arith

-- the entry at an index is the value's
abbrev pub HasValue : List Constant → ℕ → Value → Type 0
HasValue pool index (Integer number) = long_at pool index ≡ Some number
HasValue pool index (Atom name) = string_at pool index ≡ Some (print_atom name)
HasValue pool index Nil = string_at pool index ≡ Some (codes "[]")

-- a value's entries stand at its place
record IsThere (entries : List Constant) (at : ℕ) (index : ℕ) (value : Value) : Type 0 where
  first : slice_get entries index ≡ slice_get (value_entries at value) 0
  second : slice_get entries (index + 1) ≡ slice_get (value_entries at value) 1

two-entries : (at : ℕ) (w : Value) (rest : List Constant) (k : ℕ) → slice_get (value_entries at w ++ rest) (suc (suc k)) ≡ slice_get rest k
two-entries at (Integer number) rest k = refl
two-entries at (Atom name) rest k = refl
two-entries at Nil rest k = refl

here : (at : ℕ) (w : Value) (rest : List Constant) → IsThere (value_entries at w ++ rest) at 0 w
here at (Integer number) rest = record { first = refl; second = refl }
here at (Atom name) rest = record { first = refl; second = refl }
here at Nil rest = record { first = refl; second = refl }

there-as : (entries others : List Constant) (at at' index index' : ℕ) (v w : Value) → entries ≡ others → at ≡ at' → index ≡ index' → v ≡ w → IsThere entries at index v → IsThere others at' index' w
there-as entries others at at' index index' v w e f g h t =
    subst (λ es. IsThere es at' index' w) e (subst (λ a. IsThere entries a index' w) f (subst (λ i. IsThere entries at i w) g (subst (λ x. IsThere entries at index x) h t)))

-- behind a value's entries
behind-two : (at at' : ℕ) (w v : Value) (rest : List Constant) (k : ℕ) → IsThere rest at' k v → IsThere (value_entries at w ++ rest) at' (suc (suc k)) v
behind-two at at' w v rest k t = record { first = two-entries at w rest k ∙ t.first; second = ap (slice_get (value_entries at w ++ rest)) next ∙ two-entries at w rest (k + 1) ∙ t.second }
  where
    next : suc (suc k) + 1 ≡ suc (suc (k + 1))
    next = omega arith

place-here : (v w : Value) (values : List Value) → same_value v w ≡ true → position_or_len (same_value v) (w ∷ values) ≡ 0
place-here v w values e = rw e refl

place-later : (v w : Value) (values : List Value) → same_value v w ≡ false → position_or_len (same_value v) (w ∷ values) ≡ 1 + position_or_len (same_value v) values
place-later v w values e = rw e refl

values-there : (values : List Value) (at : ℕ) (rest : List Constant) (v : Value) → is_among values v ≡ true
    → IsThere (values_entries at values ++ rest) (at + 2 * position_or_len (same_value v) values) (2 * position_or_len (same_value v) values) v
values-there [] at rest v among = absurd cc
values-there (w ∷ values) at rest v among = by (values-there values (at + 2) rest v) (same_value v w) refl among
  where
    by : (is_among values v ≡ true → IsThere (values_entries (at + 2) values ++ rest) (at + 2 + 2 * position_or_len (same_value v) values) (2 * position_or_len (same_value v) values) v)
        → (b : Bool) → same_value v w ≡ b → (b || is_among values v) ≡ true
        → IsThere ((value_entries at w ++ values_entries (at + 2) values) ++ rest) (at + 2 * position_or_len (same_value v) (w ∷ values)) (2 * position_or_len (same_value v) (w ∷ values)) v
    by later true e f =
        let p = place-here v w values e in
        there-as (value_entries at w ++ (values_entries (at + 2) values ++ rest)) _ at _ 0 _ w v
        (sym (append_assoc (value_entries at w) (values_entries (at + 2) values) rest)) (omega (arith, p)) (omega (arith, p)) (sym (same-value-is v w e)) (here at w (values_entries (at + 2) values ++ rest))
    by later false e f =
        let p = place-later v w values e in
        let k = 2 * position_or_len (same_value v) values in
        there-as (value_entries at w ++ (values_entries (at + 2) values ++ rest)) _ (at + 2 + k) _ (suc (suc k)) _ v v
        (sym (append_assoc (value_entries at w) (values_entries (at + 2) values) rest)) (omega (arith, p)) (omega (arith, p)) refl
        (behind-two at (at + 2 + k) w v (values_entries (at + 2) values ++ rest) k (later f))

-- what the two entries tell
told : (pool : List Constant) (index : ℕ) (v : Value) → slice_get pool index ≡ slice_get (value_entries index v) 0 → slice_get pool (index + 1) ≡ slice_get (value_entries index v) 1 → HasValue pool index v
told pool index (Integer number) first second = ap (option_and_then long_in) first
told pool index (Atom name) first second = ap (option_and_then (string_in pool)) first ∙ ap (option_and_then utf8_in) second
told pool index Nil first second = ap (option_and_then (string_in pool)) first ∙ ap (option_and_then utf8_in) second

-- an entry for each value of the pool
pub value-here : (m : Module) (value : Value) → list_any (same_value value) (constants m) ≡ true → HasValue (pool_of m) (index_of (constants m) value) value
value-here m value among =
    let names = map name_entry m.functions in
    let fixed = fixed_entries (class_name m.name) in
    let others = values_entries first_value (constants m) ++ names in
    let p = position_or_len (same_value value) (constants m) in
    let there = values-there (constants m) first_value names value among in
    let next : 31 + 2 * p + 1 ≡ 31 + (2 * p + 1) = omega arith in
    told (pool_of m) (31 + 2 * p) value
    (get-behind fixed others (2 * p) ∙ there.first)
    (ap (slice_get (pool_of m)) next ∙ get-behind fixed others (2 * p + 1) ∙ there.second)
