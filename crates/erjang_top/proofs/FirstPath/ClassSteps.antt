-- The methods of a class, one after the other, and what of the profile the writer needs.
use Rattle.std.proofs.Common.{◌≡◌, ℕ, ◌+◌, ◌<◌, ◌^◌, max, Bool, true, cond, List, [], ◌∷◌, ◌++◌, length, get_or, drop, refl, sym, ap, ◌∙◌, subst, arith}
use Rattle.std.specs.List.{flat_map, AllByRecursion}
use Rattle.beam_code.specs.declared.module.Function.{Function}
use Rattle.beam_code.specs.declared.module.Module.{Module}
use Rattle.beam_code.specs.Keys.{is_among, key_of}
use Rattle.erjang_top.specs.first_path.Opcode.{Value}
use Rattle.erjang_top.specs.first_path.Accepted.{is_thin_module}
use Rattle.erjang_top.specs.first_path.ClassFile.{u2, u4, counted, Constant, Op, Method, constant_bytes, op_bytes, code_bytes, code_content, method_bytes, class_bytes}
use Rattle.erjang_top.specs.first_path.ClassProfile.{InProfile, IsMethod}
use Rattle.erjang_top.specs.first_path.ModuleClass.{body, registers, constants, first_name, function_ops, method_of, methods_of, placed, pool_of, class_of}
use Rattle.erjang_top.specs.first_path.Written.{ClassFits, method_with}
use Rattle.erjang_top.proofs.FirstPath.Appends.{item-rest, piece}

-- the offsets have no bytes
placed_bytes : (at : ℕ) (ops : List Op) → flat_map (λ (p : ℕ × Op). op_bytes p.1) (placed at ops) ≡ flat_map op_bytes ops
placed_bytes at [] = refl
placed_bytes at (op ∷ ops) = ap (λ (t : List ℕ). op_bytes op ++ t) (placed_bytes (at + length (op_bytes op)) ops)

abbrev pub FitsContent : Method → Type 0
FitsContent method = length (code_content method) < 2 ^ 32

methods-length : (m : Module) (values : List Value) (name : ℕ) (fs : List Function) → length (methods_of m values name fs) ≡ length fs
methods-length m values name [] = refl
methods-length m values name (f ∷ fs) = omega (arith, methods-length m values (name + 1) fs)

contents : (pool : List Constant) (methods : List Method) → AllByRecursion (IsMethod pool) methods → AllByRecursion FitsContent methods
contents pool [] all = tt
contents pool (method ∷ methods) all = (all.0.content, contents pool methods all.1)

pub class_fits : (m : Module) → InProfile (class_of m) → is_thin_module m ≡ true → ClassFits m
class_fits m profile plain = record {
  plain = plain;
  entry_count = profile.pool.count;
  method_count = subst (λ (n : ℕ). n < 2 ^ 16) (methods-length m (constants m) (first_name (constants m)) m.functions) profile.method_count;
  contents = contents (pool_of m) (methods_of m (constants m) (first_name (constants m)) m.functions) profile.methods;
}

pub counted-methods : (m : Module) → length (methods_of m (constants m) (first_name (constants m)) m.functions) ≡ length m.functions
counted-methods m = methods-length m (constants m) (first_name (constants m)) m.functions

pub record IsFunctionStep (m : Module) (values : List Value) (name : ℕ) (f : Function) (fs : List Function) (i : ℕ) : Type 0 where
  pub here : FitsContent (method_of m values name f)
  pub rest : AllByRecursion FitsContent (methods_of m values (name + 1) (drop (i + 1) fs))

pub contents-step : (m : Module) (values : List Value) (name : ℕ) (fs : List Function) (i : ℕ) (f : Function) → i < length fs → f ≡ get_or fs i f
    → AllByRecursion FitsContent (methods_of m values name (drop i fs)) → IsFunctionStep m values name f fs i
contents-step m values name fs i f lt is all =
    let parts = subst (λ (gs : List Function). AllByRecursion FitsContent (methods_of m values name gs)) (item-rest fs i f lt is) all in
    record { here = parts.0; rest = parts.1 }

pub functions-step : (m : Module) (values : List Value) (name : ℕ) (fs : List Function) (i : ℕ) (f : Function) (start out new : List ℕ) → i < length fs → f ≡ get_or fs i f
    → out ++ flat_map method_bytes (methods_of m values name (drop i fs)) ≡ start → new ≡ out ++ method_bytes (method_of m values name f)
    → new ++ flat_map method_bytes (methods_of m values (name + 1) (drop (i + 1) fs)) ≡ start
functions-step m values name fs i f start out new lt is h n =
    piece start out new (method_bytes (method_of m values name f)) (flat_map method_bytes (methods_of m values (name + 1) (drop (i + 1) fs)))
    (ap (λ (gs : List Function). out ++ flat_map method_bytes (methods_of m values name gs)) (sym (item-rest fs i f lt is)) ∙ h) n

-- the flags of a function's method
pub flagged : (m : Module) (values : List Value) (name flags : ℕ) (f : Function) (exported : Bool) → exported ≡ is_among m.exports (key_of f) → flags ≡ cond exported 0x0009 0x000A
    → method_with flags values name f ≡ method_of m values name f
flagged m values name flags f exported e h = ap (λ (n : ℕ). method_with n values name f) (h ∙ ap (λ b. cond b 0x0009 0x000A) e)

-- ---- one method

abbrev content_with : ℕ → List ℕ → List ℕ
content_with locals code = u2 3 ++ u2 locals ++ counted code ++ u2 0 ++ u2 0

-- the content of a method that is written with this code
pub content_same : (flags name locals : ℕ) (values : List Value) (f : Function) (code : List ℕ) → code ≡ flat_map op_bytes (function_ops values f) → locals ≡ 2 + max f.arity (registers (body f))
    → content_with locals code ≡ code_content (method_with flags values name f)
content_same flags name locals values f code e l =
    ap (λ (t : List ℕ). content_with locals t) (e ∙ sym (placed_bytes 0 (function_ops values f))) ∙ ap (λ (n : ℕ). content_with n (code_bytes (method_with flags values name f))) l

pub bytes_same : (flags name locals : ℕ) (values : List Value) (f : Function) (code : List ℕ) → code ≡ flat_map op_bytes (function_ops values f) → locals ≡ 2 + max f.arity (registers (body f))
    → u2 flags ++ u2 name ++ u2 5 ++ u2 1 ++ u2 6 ++ counted (content_with locals code) ≡ method_bytes (method_with flags values name f)
bytes_same flags name locals values f code e l = ap (λ (t : List ℕ). u2 flags ++ u2 name ++ u2 5 ++ u2 1 ++ u2 6 ++ counted t) (content_same flags name locals values f code e l)

pub content_fits : (flags name locals : ℕ) (values : List Value) (f : Function) (code : List ℕ) → code ≡ flat_map op_bytes (function_ops values f) → locals ≡ 2 + max f.arity (registers (body f))
    → FitsContent (method_with flags values name f) → length (content_with locals code) < 2 ^ 32
content_fits flags name locals values f code e l h = subst (λ (t : List ℕ). length t < 2 ^ 32) (sym (content_same flags name locals values f code e l)) h

-- ---- all methods

pub functions-init : (m : Module) (old one : List ℕ) (name : ℕ) (fs : List Function) → name ≡ first_name (constants m) → fs ≡ m.functions → one ≡ old ++ u2 (length fs)
    → one ++ flat_map method_bytes (methods_of m (constants m) name fs) ≡ old ++ u2 (length m.functions) ++ flat_map method_bytes (methods_of m (constants m) (first_name (constants m)) m.functions)
functions-init m old one name fs e f o =
    let bytes = λ (n : ℕ) (gs : List Function). flat_map method_bytes (methods_of m (constants m) n gs) in
    ap (λ (t : List ℕ). t ++ bytes name fs) o
    ∙ ap (λ (n : ℕ). (old ++ u2 (length fs)) ++ bytes n fs) e
    ∙ ap (λ (gs : List Function). (old ++ u2 (length gs)) ++ bytes (first_name (constants m)) gs) f

pub fits-init : (m : Module) (name : ℕ) (fs : List Function) → name ≡ first_name (constants m) → fs ≡ m.functions → ClassFits m → AllByRecursion FitsContent (methods_of m (constants m) name fs)
fits-init m name fs e f fits =
    let here = subst (λ (n : ℕ). AllByRecursion FitsContent (methods_of m (constants m) n m.functions)) (sym e) fits.contents in
    subst (λ (gs : List Function). AllByRecursion FitsContent (methods_of m (constants m) name gs)) (sym f) here

-- the next method's content, with the values as the writer has them
pub fits-with : (m : Module) (values : List Value) (name flags : ℕ) (f : Function) → values ≡ constants m → FitsContent (method_of m (constants m) name f) → FitsContent (method_with flags values name f)
fits-with m values name flags f e h = subst (λ (vs : List Value). FitsContent (method_with flags vs name f)) (sym e) h

pub written-as : (m : Module) (values : List Value) (name flags : ℕ) (f : Function) (exported : Bool) (out new : List ℕ) → values ≡ constants m → exported ≡ is_among m.exports (key_of f) → flags ≡ cond exported 0x0009 0x000A
    → new ≡ out ++ method_bytes (method_with flags values name f) → new ≡ out ++ method_bytes (method_of m (constants m) name f)
written-as m values name flags f exported out new v e h n =
    n ∙ ap (λ (method : Method). out ++ method_bytes method) (flagged m values name flags f exported e h) ∙ ap (λ (vs : List Value). out ++ method_bytes (method_of m vs name f)) v

-- ---- the class

chained : (o0 o1 o2 o3 o4 o5 v l p a b c d e n s z : List ℕ) → o0 ≡ [] → o1 ≡ o0 ++ v → o2 ≡ o1 ++ l ++ p → o3 ≡ o2 ++ a ++ b ++ c ++ d ++ e → o4 ≡ o3 ++ n ++ s → o5 ≡ o4 ++ z
    → o5 ≡ v ++ l ++ p ++ a ++ b ++ c ++ d ++ e ++ n ++ s ++ z
chained o0 o1 o2 o3 o4 o5 v l p a b c d e n s z h0 h1 h2 h3 h4 h5 =
    let g1 : o1 ≡ v = h1 ∙ ap (λ (t : List ℕ). t ++ v) h0 in
    let g2 : o2 ≡ v ++ l ++ p = h2 ∙ ap (λ (t : List ℕ). t ++ l ++ p) g1 in
    let g3 : o3 ≡ v ++ l ++ p ++ a ++ b ++ c ++ d ++ e = h3 ∙ ap (λ (t : List ℕ). t ++ a ++ b ++ c ++ d ++ e) g2 in
    let g4 : o4 ≡ v ++ l ++ p ++ a ++ b ++ c ++ d ++ e ++ n ++ s = h4 ∙ ap (λ (t : List ℕ). t ++ n ++ s) g3 in
    h5 ∙ ap (λ (t : List ℕ). t ++ z) g4

pub class-written : (m : Module) (o0 o1 o2 o3 o4 o5 : List ℕ) → o0 ≡ [] → o1 ≡ o0 ++ (u4 0xCAFEBABE ++ u2 0 ++ u2 50) → o2 ≡ o1 ++ u2 (length (pool_of m)) ++ flat_map constant_bytes (pool_of m)
    → o3 ≡ o2 ++ u2 0x0021 ++ u2 2 ++ u2 4 ++ u2 0 ++ u2 0
    → o4 ≡ o3 ++ u2 (length m.functions) ++ flat_map method_bytes (methods_of m (constants m) (first_name (constants m)) m.functions) → o5 ≡ o4 ++ u2 0
    → o5 ≡ class_bytes (class_of m)
class-written m o0 o1 o2 o3 o4 o5 h0 h1 h2 h3 h4 h5 =
    let methods = methods_of m (constants m) (first_name (constants m)) m.functions in
    let count = ap u2 (sym (counted-methods m)) in
    let h4' : o4 ≡ o3 ++ u2 (length methods) ++ flat_map method_bytes methods = h4 ∙ ap (λ (t : List ℕ). o3 ++ t ++ flat_map method_bytes methods) count in
    chained o0 o1 o2 o3 o4 o5 (u4 0xCAFEBABE ++ u2 0 ++ u2 50) (u2 (length (pool_of m))) (flat_map constant_bytes (pool_of m)) (u2 0x0021) (u2 2) (u2 4) (u2 0) (u2 0) (u2 (length methods)) (flat_map method_bytes methods) (u2 0)
    h0 h1 h2 h3 h4' h5
