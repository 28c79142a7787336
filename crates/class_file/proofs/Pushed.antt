-- What is appended for each item of a list, for a `tableswitch`, a method and a class.
use Rattle.std.proofs.Common.{◌≡◌, ℕ, zero, suc, ◌+◌, ◌<◌, ℤ, List, [], ◌∷◌, ◌++◌, length, take, replicate, get_or, sym, ap, ◌∙◌, append_assoc, append-nil, add-one, arith}
use Rattle.std.specs.List.{flat_map}
use Rattle.jvm_code.specs.declared.class.Class.{Class}
use Rattle.jvm_code.specs.declared.class.Method.{Method}
use Rattle.jvm_code.specs.declared.class.Op.TheVariants as o
use Rattle.jvm_code.specs.Padding.{pad}
use Rattle.jvm_code.specs.Spelling.{u1, u2, u4, s4, high_of, op_bytes, constant_bytes, code_content, method_bytes, class_bytes}
use Rattle.class_file.specs.Parts.{method_parts}

one_more : {A : Type 0} (f : A → List ℕ) (xs : List A) (i : ℕ) (x : A) → i < length xs → x ≡ get_or xs i x → flat_map f (take (suc i) xs) ≡ flat_map f (take i xs) ++ f x
one_more f [] i x l g = absurd (omega (arith, l))
one_more f (y ∷ ys) zero x l g = append-nil (f y) ∙ ap f (sym g)
one_more f (y ∷ ys) (suc i) x l g = ap (λ r. f y ++ r) (one_more f ys i x (omega (arith, l)) g) ∙ sym (append_assoc (f y) (flat_map f (take i ys)) (f x))

-- one item more
pub pushed : {A : Type 0} (f : A → List ℕ) (old out new : List ℕ) (xs : List A) (i : ℕ) (x : A) → i < length xs → x ≡ get_or xs i x
    → out ≡ old ++ flat_map f (take i xs) → new ≡ out ++ f x → new ≡ old ++ flat_map f (take (i + 1) xs)
pushed f old out new xs i x l g h k =
    k ∙ ap (λ o. o ++ f x) h ∙ append_assoc old (flat_map f (take i xs)) (f x) ∙ ap (λ r. old ++ r) (sym (one_more f xs i x l g)) ∙ ap (λ n. old ++ flat_map f (take n xs)) (sym (add-one i))

-- a method, by its content
pub method_spelled : (m : Method) (content old new : List ℕ) → content ≡ code_content m → new ≡ old ++ method_parts m content → new ≡ old ++ method_bytes m
method_spelled m content old new c e = e ∙ ap (λ k. old ++ method_parts m k) c

-- a `tableswitch`, by its front and its values
pub table_spelled : (pc : ℕ) (default low : ℤ) (offsets : List ℤ) (old mid new : List ℕ)
    → mid ≡ old ++ (u1 170 ++ (replicate (pad (pc + 1)) 0 ++ s4 default)) → new ≡ mid ++ (s4 low ++ (s4 (high_of low offsets) ++ flat_map s4 offsets))
    → new ≡ old ++ op_bytes pc (o.TableSwitch default low offsets)
table_spelled pc default low offsets old mid new h k =
    let zeros = replicate (pad (pc + 1)) 0 in
    let values = s4 low ++ (s4 (high_of low offsets) ++ flat_map s4 offsets) in
    k ∙ ap (λ m. m ++ values) h ∙ append_assoc old (u1 170 ++ (zeros ++ s4 default)) values ∙ ap (λ r. old ++ (u1 170 ++ r)) (append_assoc zeros (s4 default) values)

-- a class, by its parts
pub class_spelled : (c : Class) (empty one two three all : List ℕ) → empty ≡ [] → one ≡ empty ++ (u4 0xCAFEBABE ++ (u2 0 ++ u2 50))
    → two ≡ one ++ (u2 (length c.pool) ++ flat_map constant_bytes c.pool) → three ≡ two ++ (u2 c.flags ++ (u2 c.this ++ u2 c.above))
    → all ≡ three ++ (u2 0 ++ (u2 0 ++ (u2 (length c.methods) ++ (flat_map method_bytes c.methods ++ u2 0)))) → all ≡ class_bytes c
class_spelled c empty one two three all e h i j k =
    let front = u4 0xCAFEBABE ++ (u2 0 ++ u2 50) in
    let pool = u2 (length c.pool) ++ flat_map constant_bytes c.pool in
    let head = u2 c.flags ++ (u2 c.this ++ u2 c.above) in
    let members = u2 0 ++ (u2 0 ++ (u2 (length c.methods) ++ (flat_map method_bytes c.methods ++ u2 0))) in
    k ∙ ap (λ t. t ++ members) (j ∙ ap (λ t. t ++ head) (i ∙ ap (λ t. t ++ pool) (h ∙ ap (λ t. t ++ front) e)))
    ∙ append_assoc (front ++ pool) head members ∙ append_assoc front pool (head ++ members)
