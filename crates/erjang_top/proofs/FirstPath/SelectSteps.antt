-- The instructions of a function, one after the other.
use Rattle.std.proofs.Common.{◌≡◌, ℕ, suc, ◌+◌, ◌-◌, ◌<◌, ◌≤◌, max, nat_lt, not, cond, Bool, true, false, ℤ, List, [], ◌∷◌, ◌++◌, length, get_or, drop, map, Option, None, Some, subst, refl, sym, ap, ◌∙◌, arith}
use Rattle.std.specs.List.{flat_map, position_or_len, position}
use Rattle.std.specs.Option.{unwrap_or}
use Rattle.std.proofs.lemmas.Bool.Decides.{nat_tests}
use Rattle.std.proofs.lemmas.List.Sums.{prefix_len-le-length}
use Rattle.beam_code.specs.declared.instr.Instr.{Instr}
use Rattle.erjang_top.specs.first_path.Opcode.{opcode}
use Rattle.erjang_top.specs.first_path.Opcode as code
use Rattle.erjang_top.specs.first_path.Opcode.{Opcode, X, Of, Label, Line, Comment, FuncInfo, Move, Return, Unknown}
use Rattle.erjang_top.specs.first_path.Weights.{same_value}
use Rattle.erjang_top.specs.first_path.ClassFile.{Op, Ldc2W, Invoke, op_bytes}
use Rattle.erjang_top.specs.first_path.ModuleClass.{take_argument, take_arguments, index_of, push_value, push_source, body_ops, registers}
use Rattle.erjang_top.specs.declared.first_path.values.Value.{Value}
use Rattle.erjang_top.specs.contracts.first_path.values.ValuePartialEq.TheImpl as impl
use Rattle.erjang_top.specs.first_path.Code.{seen_source}
use Rattle.erjang_top.specs.declared.first_path.code.Source.{Source}
use Rattle.erjang_top.specs.declared.first_path.code.Source.TheVariants as source
use Rattle.erjang_top.specs.first_path.Select.{instr_ops, goes_on, written_register}
use Rattle.erjang_top.specs.first_path.SeenValues.{seen_value}
use Rattle.erjang_top.proofs.FirstPath.Appends.{flat_map-append, item-rest, piece}
use Rattle.erjang_top.proofs.FirstPath.Seen.{position-seen}
use Rattle.erjang_top.proofs.FirstPath.ValueKeys.{values_agree}

-- ---- arguments

arguments-step-by : (at left more : ℕ) (start out new : List ℕ) → left ≡ suc more → out ++ flat_map op_bytes (take_arguments at left) ≡ start
    → new ≡ out ++ flat_map op_bytes (take_argument at) → new ++ flat_map op_bytes (take_arguments (at + 1) more) ≡ start
arguments-step-by at left more start out new e h n =
    let written : out ++ flat_map op_bytes (take_arguments at (suc more)) ≡ start = subst (λ (k : ℕ). out ++ flat_map op_bytes (take_arguments at k) ≡ start) e h in
    let parts = flat_map-append op_bytes (take_argument at) (take_arguments (at + 1) more) in
    piece start out new (flat_map op_bytes (take_argument at)) (flat_map op_bytes (take_arguments (at + 1) more)) (ap (λ (t : List ℕ). out ++ t) (sym parts) ∙ written) n

pub arguments-step : (at count : ℕ) (start out new : List ℕ) → at < count → out ++ flat_map op_bytes (take_arguments at (count - at)) ≡ start
    → new ≡ out ++ flat_map op_bytes (take_argument at) → new ++ flat_map op_bytes (take_arguments (at + 1) (count - (at + 1))) ≡ start
arguments-step at count start out new lt h n = let e : count - at ≡ suc (count - (at + 1)) = omega arith in arguments-step-by at (count - at) (count - (at + 1)) start out new e h n

-- ---- values

place_or : (place len : ℕ) (b : Bool) → place ≤ len → nat_lt place len ≡ b → unwrap_or (cond b (Some place) None) len ≡ place
place_or place len true le e = refl
place_or place len false le e = grind (arith, nat_tests)

position_or : {Y : Type 0} (p : Y → Bool) (ys : List Y) → unwrap_or (position p ys) (length ys) ≡ position_or_len p ys
position_or p ys = place_or (position_or_len p ys) (length ys) (nat_lt (position_or_len p ys) (length ys)) (prefix_len-le-length (λ y. not (p y)) ys) refl

-- the place that the set answers, or its length, is the value's in the definition
pub place_is : (value : Value) (keys : List Value) (found : Option ℕ) (len place : ℕ) → found ≡ position ((impl.eq-value).it value) keys → len ≡ length keys → place ≡ unwrap_or found len
    → place ≡ position_or_len (same_value (seen_value value)) (map seen_value keys)
place_is value keys found len place e f g =
    g ∙ ap (λ (n : ℕ). unwrap_or found n) f ∙ ap (λ (o : Option ℕ). unwrap_or o (length keys)) e ∙ position_or ((impl.eq-value).it value) keys ∙ position-seen values_agree value keys

-- what pushes an integer
pub integer_ops : (values : List code.Value) (number : ℤ) (index : ℕ) → index ≡ index_of values (code.Integer number)
    → flat_map op_bytes (Ldc2W index ∷ Invoke 24 ∷ []) ≡ flat_map op_bytes (push_value values (code.Integer number))
integer_ops values number index e = ap (λ (i : ℕ). flat_map op_bytes (Ldc2W i ∷ Invoke 24 ∷ [])) e

-- what pushes an integer that is a source
pub integer_source : (values : List code.Value) (from : Source) (number again : ℤ) → from ≡ source.Integer number → again ≡ number
    → flat_map op_bytes (push_value values (code.Integer again)) ≡ flat_map op_bytes (push_source values (seen_source from))
integer_source values from number again e f =
    ap (λ (z : ℤ). flat_map op_bytes (push_value values (code.Integer z))) f ∙ ap (λ (s : Source). flat_map op_bytes (push_source values (seen_source s))) (sym e)

-- ---- a body

goes-on : (values : List code.Value) (o : Opcode) (rest : List Opcode) → goes_on o ≡ true → body_ops values (o ∷ rest) ≡ instr_ops values o ++ body_ops values rest
goes-on values (Label n) rest e = refl
goes-on values Line rest e = refl
goes-on values Comment rest e = refl
goes-on values (FuncInfo owner name arity) rest e = absurd cc
goes-on values (Move from to) rest e = refl
goes-on values Return rest e = absurd cc
goes-on values Unknown rest e = refl

stops : (values : List code.Value) (o : Opcode) (rest : List Opcode) → goes_on o ≡ false → body_ops values (o ∷ rest) ≡ instr_ops values o
stops values (Label n) rest e = absurd cc
stops values Line rest e = absurd cc
stops values Comment rest e = absurd cc
stops values (FuncInfo owner name arity) rest e = refl
stops values (Move from to) rest e = absurd cc
stops values Return rest e = refl
stops values Unknown rest e = absurd cc

-- an instruction that goes on is written
pub body-step : (values : List code.Value) (xs : List Instr) (i : ℕ) (x : Instr) (start out new : List ℕ) → i < length xs → x ≡ get_or xs i x → goes_on (opcode x) ≡ true
    → out ++ flat_map op_bytes (body_ops values (map opcode (drop i xs))) ≡ start → new ≡ out ++ flat_map op_bytes (instr_ops values (opcode x))
    → new ++ flat_map op_bytes (body_ops values (map opcode (drop (i + 1) xs))) ≡ start
body-step values xs i x start out new lt is on h n =
    let first = instr_ops values (opcode x) in
    let rest = body_ops values (map opcode (drop (i + 1) xs)) in
    let ops : body_ops values (map opcode (drop i xs)) ≡ first ++ rest =
    ap (λ (ys : List Instr). body_ops values (map opcode ys)) (item-rest xs i x lt is) ∙ goes-on values (opcode x) (map opcode (drop (i + 1) xs)) on in
    let bytes = ap (flat_map op_bytes) ops ∙ flat_map-append op_bytes first rest in
    piece start out new (flat_map op_bytes first) (flat_map op_bytes rest) (ap (λ (t : List ℕ). out ++ t) (sym bytes) ∙ h) n

-- an instruction that does not go on is the last that is written
pub body-last : (values : List code.Value) (xs : List Instr) (i : ℕ) (x : Instr) (start out new : List ℕ) → i < length xs → x ≡ get_or xs i x → goes_on (opcode x) ≡ false
    → out ++ flat_map op_bytes (body_ops values (map opcode (drop i xs))) ≡ start → new ≡ out ++ flat_map op_bytes (instr_ops values (opcode x)) → new ≡ start
body-last values xs i x start out new lt is off h n =
    let ops : body_ops values (map opcode (drop i xs)) ≡ instr_ops values (opcode x) =
    ap (λ (ys : List Instr). body_ops values (map opcode ys)) (item-rest xs i x lt is) ∙ stops values (opcode x) (map opcode (drop (i + 1) xs)) off in
    n ∙ ap (λ (o : List Op). out ++ flat_map op_bytes o) (sym ops) ∙ h

-- ---- registers

registers-one : (o : Opcode) (rest : List Opcode) → registers (o ∷ rest) ≡ max (written_register o) (registers rest)
registers-one (Label n) rest = omega arith
registers-one Line rest = omega arith
registers-one Comment rest = omega arith
registers-one (FuncInfo owner name arity) rest = omega arith
registers-one (Move from to) rest = refl
registers-one Return rest = omega arith
registers-one Unknown rest = omega arith

pub registers-step : (xs : List Instr) (i : ℕ) (x : Instr) (count all new : ℕ) → i < length xs → x ≡ get_or xs i x → max count (registers (map opcode (drop i xs))) ≡ all
    → new ≡ max (written_register (opcode x)) count → max new (registers (map opcode (drop (i + 1) xs))) ≡ all
registers-step xs i x count all new lt is h n =
    let rest = registers (map opcode (drop (i + 1) xs)) in
    let here : registers (map opcode (drop i xs)) ≡ max (written_register (opcode x)) rest = ap (λ (ys : List Instr). registers (map opcode ys)) (item-rest xs i x lt is) ∙ registers-one (opcode x) (map opcode (drop (i + 1) xs)) in
    maxes count (written_register (opcode x)) rest (registers (map opcode (drop i xs))) all new here h n
  where
    maxes : (a b c d all new : ℕ) → d ≡ max b c → max a d ≡ all → new ≡ max b a → max new c ≡ all
    maxes a b c d all new e h n = omega arith
