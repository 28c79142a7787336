-- Bytes have at most one class: each part of a class file tells its value and where it ends.
use Rattle.std.proofs.lemmas.Nat.{and_le_r}
use Rattle.std.proofs.Common.{bit_and, ◌≡◌, ℕ, zero, suc, codes, inl, inr, is_some, length-append, ◌<◌, ◌^◌, Bool, true, false, not, subst, List, [], ◌∷◌, ◌++◌, length, slice_get, Option, None, Some, refl, sym, ap, ◌∙◌, append_assoc, arith}
use Rattle.std.specs.Prelude.{IsSome, MatchOption}
use Rattle.std.specs.List.{flat_map, AllByRecursion}
use Rattle.std.specs.Option.{option_and_then}
use Rattle.std.proofs.lemmas.Bool.{and_parts, not-true}
use Rattle.erjang_top.specs.first_path.ClassFile.{Constant, Gap, Utf8, Long, ClassEntry, StringEntry, Methodref, NameAndType, Op, IConst, SIPush, LdcW, Ldc2W, ALoad, AStore, Invoke, IReturn, Method, Class, u2, u4, counted, constant_bytes, code_bytes, maps_bytes, code_content, method_bytes, class_bytes}
use Rattle.erjang_top.specs.first_path.ClassProfile.{is_gap, is_long, has_gaps, string_in, long_in, utf8_in, class_in, name_and_type_in, callee_in, IsEntry, IsPool, IsOp, has_offsets, Reads, IsMethod, InProfile, ClassOf}
use Rattle.erjang_top.proofs.FirstPath.EntryLaw.{ConstantFits, constant-tells}
use Rattle.erjang_top.proofs.FirstPath.OpLaw.{OpFits, same_code}
use Rattle.erjang_top.proofs.FirstPath.Spelling.{SameThen, Tells, u2-tells, u4-tells, counted-tells, flat_map-tells}

-- ---- indices of the pool

pub found_below : {B : Type 0} (find : Constant → Option B) (pool : List Constant) (index : ℕ) → IsSome (option_and_then find (slice_get pool index)) → index < length pool
found_below find [] index h = absurd cc
found_below find (c ∷ pool) zero h = omega arith
found_below find (c ∷ pool) (suc index) h = let below = found_below find pool index h in omega (arith, below)

read_below : {B : Type 0} (find : Constant → Option B) (pool : List Constant) (index : ℕ) (value : B) → option_and_then find (slice_get pool index) ≡ Some value → index < length pool
read_below find pool index value h = found_below find pool index (ap is_some h)

entry_fits : (pool : List Constant) → length pool < 2 ^ 16 → (c : Constant) → is_gap c ≡ false → IsEntry pool c → ConstantFits c
entry_fits pool l Gap no_gap h = absurd cc
entry_fits pool l (Utf8 bytes) no_gap h = h.0
entry_fits pool l (Long value) no_gap h = h
entry_fits pool l (StringEntry text) no_gap h = omega (arith, found_below utf8_in pool text h)
entry_fits pool l (ClassEntry name) no_gap h = omega (arith, found_below utf8_in pool name h)
entry_fits pool l (Methodref class n) no_gap h = (omega (arith, found_below (class_in pool) pool class h.0), omega (arith, found_below (name_and_type_in pool) pool n h.1))
entry_fits pool l (NameAndType name descriptor) no_gap h = (omega (arith, found_below utf8_in pool name h.0), omega (arith, found_below utf8_in pool descriptor h.1))

op_fits : (pool : List Constant) → length pool < 2 ^ 16 → (op : Op) → IsOp pool op → OpFits op
op_fits pool l (IConst value) h = h
op_fits pool l (SIPush value) h = h
op_fits pool l (LdcW index) h = omega (arith, found_below (string_in pool) pool index h)
op_fits pool l (Ldc2W index) h = omega (arith, found_below long_in pool index h)
op_fits pool l (ALoad width local) h = h
op_fits pool l (AStore width local) h = h
op_fits pool l (Invoke index) h = omega (arith, found_below (callee_in pool) pool index h)
op_fits pool l IReturn h = h

each : {X : Type 0} (P Q : X → Type 0) → ((x : X) → P x → Q x) → (xs : List X) → AllByRecursion P xs → AllByRecursion Q xs
each P Q f [] h = h
each P Q f (x ∷ xs) h = (f x h.0, each P Q f xs h.1)

only_gap : (c : Constant) → is_gap c ≡ true → c ≡ Gap
only_gap Gap h = refl
only_gap (Utf8 bytes) h = absurd cc
only_gap (Long value) h = absurd cc
only_gap (ClassEntry name) h = absurd cc
only_gap (StringEntry text) h = absurd cc
only_gap (Methodref class n) h = absurd cc
only_gap (NameAndType name descriptor) h = absurd cc

gap_bytes : (c : Constant) → is_gap c ≡ true → constant_bytes c ≡ []
gap_bytes c h = ap constant_bytes (only_gap c h)

same_items : (x y : Constant) (xs ys : List Constant) (r s : List ℕ) → x ≡ y → SameThen xs ys r s → SameThen (x ∷ xs) (y ∷ ys) r s
same_items x y xs ys r s e p = (cc (e, p.0), p.1)

-- entries of pools, of which the first are gaps or not
same_entries : (p q : List Constant) → length p < 2 ^ 16 → length q < 2 ^ 16 → (due : Bool) (xs ys : List Constant) (r s : List ℕ)
    → has_gaps due xs ≡ true → has_gaps due ys ≡ true → AllByRecursion (IsEntry p) xs → AllByRecursion (IsEntry q) ys
    → length xs ≡ length ys → flat_map constant_bytes xs ++ r ≡ flat_map constant_bytes ys ++ s → SameThen xs ys r s
same_entries p q k l due [] [] r s g h f f' n e = (refl, e)
same_entries p q k l due [] (y ∷ ys) r s g h f f' n e = absurd (omega arith)
same_entries p q k l due (x ∷ xs) [] r s g h f f' n e = absurd (omega arith)
same_entries p q k l true (x ∷ xs) (y ∷ ys) r s g h f f' n e =
    let a = and_parts (is_gap x) (has_gaps false xs) g in
    let b = and_parts (is_gap y) (has_gaps false ys) h in
    let rest : flat_map constant_bytes xs ++ r ≡ flat_map constant_bytes ys ++ s =
    sym (ap (λ (bs : List ℕ). (bs ++ flat_map constant_bytes xs) ++ r) (gap_bytes x a.0)) ∙ e ∙ ap (λ (bs : List ℕ). (bs ++ flat_map constant_bytes ys) ++ s) (gap_bytes y b.0) in
    same_items x y xs ys r s (only_gap x a.0 ∙ sym (only_gap y b.0)) (same_entries p q k l false xs ys r s a.1 b.1 f.1 f'.1 (omega arith) rest)
same_entries p q k l false (x ∷ xs) (y ∷ ys) r s g h f f' n e =
    let a = and_parts (not (is_gap x)) (has_gaps (is_long x) xs) g in
    let b = and_parts (not (is_gap y)) (has_gaps (is_long y) ys) h in
    let first = constant-tells x y (flat_map constant_bytes xs ++ r) (flat_map constant_bytes ys ++ s) (entry_fits p k x (not-true (is_gap x) a.0) f.0) (entry_fits q l y (not-true (is_gap y) b.0) f'.0)
    (sym (append_assoc (constant_bytes x) (flat_map constant_bytes xs) r) ∙ e ∙ append_assoc (constant_bytes y) (flat_map constant_bytes ys) s) in
    let gaps : has_gaps (is_long x) ys ≡ true = subst (λ (c : Constant). has_gaps (is_long c) ys ≡ true) (sym first.0) b.1 in
    same_items x y xs ys r s first.0 (same_entries p q k l (is_long x) xs ys r s a.1 gaps f.1 f'.1 (omega arith) first.1)

same_pool : (xs ys : List Constant) (r s : List ℕ) → IsPool xs → IsPool ys → length xs ≡ length ys → flat_map constant_bytes xs ++ r ≡ flat_map constant_bytes ys ++ s → SameThen xs ys r s
same_pool xs ys r s f g l e = same_entries xs ys f.count g.count true xs ys r s f.gaps g.gaps f.entries g.entries l e

-- ---- methods

first_same : (x y : ℕ) (r s : List ℕ) → x ∷ r ≡ y ∷ s → x ≡ y
first_same x y r s e = cc

rest_same : (x y : ℕ) (r s : List ℕ) → x ∷ r ≡ y ∷ s → r ≡ s
rest_same x y r s e = cc

same_pair : {A B C : Type 0} (f : A → B → C) (a c : A) (b d : B) → a ≡ c → b ≡ d → f a b ≡ f c d
same_pair f a c b d p q = cc

abbrev pair_of : {A B : Type 0} → A → B → A × B
pair_of a b = (a, b)

abbrev pub MapsFit : Option (ℕ × List ℕ) → Type 0
MapsFit None = Unit {0}
MapsFit (Some maps) = (maps.0 < 2 ^ 16) × (length maps.1 < 2 ^ 32)

-- what a method's bytes can tell
pub record MethodFits (m : Method) : Type 0 where
  pub flags : m.flags < 2 ^ 16
  pub name : m.name < 2 ^ 16
  pub descriptor : m.descriptor < 2 ^ 16
  pub code_name : m.code_name < 2 ^ 16
  pub max_stack : m.max_stack < 2 ^ 16
  pub max_locals : m.max_locals < 2 ^ 16
  pub code_length : length (code_bytes m) < 2 ^ 32
  pub offsets : has_offsets 0 m.code ≡ true
  pub ops : AllByRecursion (λ p. OpFits p.1) m.code
  pub maps : MapsFit m.maps
  pub content : length (code_content m) < 2 ^ 32

maps_fit : (pool : List Constant) (front : List ℕ) (maps : Option (ℕ × List ℕ)) → length pool < 2 ^ 16
    → MatchOption maps (Unit {0}) (λ maps. Reads pool maps.0 (codes "StackMapTable")) → length (front ++ maps_bytes maps) < 2 ^ 32 → MapsFit maps
maps_fit pool front None l h k = tt
maps_fit pool front (Some maps) l h k =
    (omega (arith, read_below utf8_in pool maps.0 _ h), omega (arith, length-append front (maps_bytes (Some maps)), length-append (u4 (length maps.1)) maps.1))

method_fits : (pool : List Constant) → length pool < 2 ^ 16 → (m : Method) → IsMethod pool m → MethodFits m
method_fits pool l m h = record {
  flags = elim h.flags [ inl e ↦ omega arith | inr e ↦ omega arith ];
  name = omega (arith, read_below utf8_in pool m.name _ h.name.2);
  descriptor = omega (arith, read_below utf8_in pool m.descriptor _ h.descriptor);
  code_name = omega (arith, read_below utf8_in pool m.code_name _ h.code_name);
  max_stack = h.max_stack;
  max_locals = h.max_locals;
  code_length = omega (arith, h.code_length);
  offsets = h.offsets;
  ops = each (λ p. IsOp pool p.1) (λ p. OpFits p.1) (λ p. op_fits pool l p.1) m.code h.ops;
  maps = maps_fit pool (u2 m.max_stack ++ u2 m.max_locals ++ counted (code_bytes m) ++ u2 0) m.maps l h.maps h.content;
  content = h.content;
}

same_maps : (a b : Option (ℕ × List ℕ)) → MapsFit a → MapsFit b → maps_bytes a ≡ maps_bytes b → a ≡ b
same_maps None None f g e = refl
same_maps None (Some b) f g e = absurd (omega (arith, first_same _ _ _ _ (rest_same _ _ _ _ e)))
same_maps (Some a) None f g e = absurd (omega (arith, first_same _ _ _ _ (rest_same _ _ _ _ e)))
same_maps (Some a) (Some b) f g e =
    let p = u2-tells a.0 b.0 (counted a.1) (counted b.1) f.0 g.0 (rest_same _ _ _ _ (rest_same _ _ _ _ e)) in
    let q = counted-tells a.1 b.1 [] [] f.1 g.1 (ap (λ (t : List ℕ). t ++ []) p.1) in
    ap Some (same_pair pair_of a.0 b.0 a.1 b.1 p.0 q.0)

same_content : (m n : Method) → MethodFits m → MethodFits n → code_content m ≡ code_content n → (m.max_stack ≡ n.max_stack) × (m.max_locals ≡ n.max_locals) × (m.code ≡ n.code) × (m.maps ≡ n.maps)
same_content m n f g e =
    let stack = u2-tells m.max_stack n.max_stack _ _ f.max_stack g.max_stack e in
    let locals = u2-tells m.max_locals n.max_locals _ _ f.max_locals g.max_locals stack.1 in
    let after = λ (x : Method). append_assoc (counted (code_bytes x)) (u2 0) (maps_bytes x.maps) in
    let code = counted-tells (code_bytes m) (code_bytes n) (u2 0 ++ maps_bytes m.maps) (u2 0 ++ maps_bytes n.maps) f.code_length g.code_length (sym (after m) ∙ locals.1 ∙ after n) in
    let maps = u2-tells 0 0 (maps_bytes m.maps) (maps_bytes n.maps) (omega arith) (omega arith) code.1 in
    (stack.0, locals.0, same_code 0 m.code n.code f.offsets g.offsets f.ops g.ops code.0, same_maps m.maps n.maps f.maps g.maps maps.1)

same_under : {M : Type 0} (f : ℕ → ℕ → ℕ → ℕ → ℕ → ℕ → List (ℕ × Op) → Option (ℕ × List ℕ) → M) (a1 b1 a2 b2 a3 b3 a4 b4 a5 b5 a6 b6 : ℕ) (a7 b7 : List (ℕ × Op)) (a8 b8 : Option (ℕ × List ℕ))
    → a1 ≡ b1 → a2 ≡ b2 → a3 ≡ b3 → a4 ≡ b4 → a5 ≡ b5 → a6 ≡ b6 → a7 ≡ b7 → a8 ≡ b8 → f a1 a2 a3 a4 a5 a6 a7 a8 ≡ f b1 b2 b3 b4 b5 b6 b7 b8
same_under f a1 b1 a2 b2 a3 b3 a4 b4 a5 b5 a6 b6 a7 b7 a8 b8 e1 e2 e3 e4 e5 e6 e7 e8 = cc

abbrev method_of : ℕ → ℕ → ℕ → ℕ → ℕ → ℕ → List (ℕ × Op) → Option (ℕ × List ℕ) → Method
method_of flags name descriptor code_name max_stack max_locals code maps =
    record { flags = flags; name = name; descriptor = descriptor; code_name = code_name; max_stack = max_stack; max_locals = max_locals; code = code; maps = maps }

pub method-tells : Tells MethodFits method_bytes
method-tells m n r s f g e =
    let flags = u2-tells m.flags n.flags _ _ f.flags g.flags e in
    let name = u2-tells m.name n.name _ _ f.name g.name flags.1 in
    let descriptor = u2-tells m.descriptor n.descriptor _ _ f.descriptor g.descriptor name.1 in
    let count = u2-tells 1 1 _ _ (omega arith) (omega arith) descriptor.1 in
    let code_name = u2-tells m.code_name n.code_name _ _ f.code_name g.code_name count.1 in
    let content = counted-tells (code_content m) (code_content n) r s f.content g.content code_name.1 in
    let parts = same_content m n f g content.0 in
    (same_under method_of _ _ _ _ _ _ _ _ _ _ _ _ _ _ _ _ flags.0 name.0 descriptor.0 code_name.0 parts.0 parts.1 parts.2 parts.3, content.1)

-- ---- classes

abbrev class_of : ℕ → List Constant → ℕ → ℕ → List Method → Class
class_of flags pool this above methods = record { flags = flags; pool = pool; this = this; above = above; methods = methods }

same_under_5 : {M : Type 0} (f : ℕ → List Constant → ℕ → ℕ → List Method → M) (a1 b1 : ℕ) (a2 b2 : List Constant) (a3 b3 a4 b4 : ℕ) (a5 b5 : List Method)
    → a1 ≡ b1 → a2 ≡ b2 → a3 ≡ b3 → a4 ≡ b4 → a5 ≡ b5 → f a1 a2 a3 a4 a5 ≡ f b1 b2 b3 b4 b5
same_under_5 f a1 b1 a2 b2 a3 b3 a4 b4 a5 b5 e1 e2 e3 e4 e5 = cc

-- what stands behind the pool
abbrev after_pool : Class → List ℕ
after_pool c = u2 c.flags ++ (u2 c.this ++ (u2 c.above ++ (u2 0 ++ (u2 0 ++ (u2 (length c.methods) ++ (flat_map method_bytes c.methods ++ u2 0))))))

bytes_by_parts : (c : Class) → class_bytes c ≡ u4 0xCAFEBABE ++ (u2 0 ++ (u2 50 ++ (u2 (length c.pool) ++ (flat_map constant_bytes c.pool ++ after_pool c))))
bytes_by_parts c = simp append_assoc

same_class : (c d : Class) → InProfile c → InProfile d → class_bytes c ≡ class_bytes d → c ≡ d
same_class c d f g e =
    let l = f.pool.count in
    let k = g.pool.count in
    let parts = sym (bytes_by_parts c) ∙ e ∙ bytes_by_parts d in
    let magic = u4-tells 0xCAFEBABE 0xCAFEBABE _ _ (omega arith) (omega arith) parts in
    let minor = u2-tells 0 0 _ _ (omega arith) (omega arith) magic.1 in
    let major = u2-tells 50 50 _ _ (omega arith) (omega arith) minor.1 in
    let entries = u2-tells (length c.pool) (length d.pool) _ _ l k major.1 in
    let pool = same_pool c.pool d.pool (after_pool c) (after_pool d) f.pool g.pool entries.0 entries.1 in
    let flags_fit = λ (n : ℕ) (h : bit_and n 0x0031 ≡ n). let fits : n < 2 ^ 16 = omega (arith, and_le_r n 0x0031) in fits in
    let flags = u2-tells c.flags d.flags _ _ (flags_fit c.flags f.flags) (flags_fit d.flags g.flags) pool.1 in
    let this = u2-tells c.this d.this _ _ (omega (arith, read_below (class_in c.pool) c.pool c.this _ f.this.2)) (omega (arith, read_below (class_in d.pool) d.pool d.this _ g.this.2)) flags.1 in
    let above = u2-tells c.above d.above _ _ (omega (arith, read_below (class_in c.pool) c.pool c.above _ f.above)) (omega (arith, read_below (class_in d.pool) d.pool d.above _ g.above)) this.1 in
    let interfaces = u2-tells 0 0 _ _ (omega arith) (omega arith) above.1 in
    let fields = u2-tells 0 0 _ _ (omega arith) (omega arith) interfaces.1 in
    let count = u2-tells (length c.methods) (length d.methods) _ _ f.method_count g.method_count fields.1 in
    let fit = λ (x : Class) (h : length x.pool < 2 ^ 16) (p : InProfile x). each (IsMethod x.pool) MethodFits (method_fits x.pool h) x.methods p.methods in
    let methods = flat_map-tells MethodFits method_bytes method-tells c.methods d.methods (u2 0) (u2 0) count.0 (fit c l f) (fit d k g) count.1 in
    same_under_5 class_of _ _ _ _ _ _ _ _ _ _ flags.0 pool.0 this.0 above.0 methods.0

-- bytes have at most one class
pub only_class : (bytes : List ℕ) (c d : Class) → ClassOf bytes c → ClassOf bytes d → c ≡ d
only_class bytes c d f g = same_class c d f.profile g.profile (sym f.spelled ∙ g.spelled)
