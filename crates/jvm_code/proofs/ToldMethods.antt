-- Methods that are read tell their bytes.
use Rattle.std.proofs.Common.{◌≡◌, ℕ, zero, suc, ◌+◌, ◌≤◌, nat_eq, nat_le, nat_lt, ◌&&◌, ◌||◌, Bool, true, false, cond, List, [], ◌∷◌, ◌++◌, length, take, drop, codes, Option, Some, Result, Ok, Err, refl, sym, ap, ◌∙◌, subst, arith}
use Rattle.std.proofs.lemmas.Bool.{eqb-true, leb-true}
use Rattle.std.proofs.lemmas.List.{take-append-drop, length-take-le}
use Rattle.std.specs.List.{flat_map}
use Rattle.std.specs.Str.{bytes_eq}
use Rattle.byteorder.specs.Endian.{big_bytes}
use Rattle.ej_tables.specs.Bytes.{AreBytes}
use Rattle.jvm_code.specs.declared.class.Constant.{Constant}
use Rattle.jvm_code.specs.declared.class.Method.{Method}
use Rattle.jvm_code.specs.declared.class.Op.{Op}
use Rattle.jvm_code.specs.Entries.{utf8_at}
use Rattle.jvm_code.specs.Fault.{Fault, NotClass}
use Rattle.jvm_code.specs.Names.{is_method_name}
use Rattle.jvm_code.specs.ReadClass.{Content, none, is_text, code_length, instructions, map_name, map, counted_maps, map_count, maps, content, text_that, attribute_count, code_name, attribute, method_flags, method_name, descriptor, descriptor_that, is_taken, name_of, method_of, method, methods}
use Rattle.jvm_code.specs.ReadOps.{op, onto, and_more, ops, closed, code}
use Rattle.jvm_code.specs.Reader.{Got, then_read, read_as, bytes, u2, u4, Verdict, field, broken_unless, forbidden_unless, sized_as, sized}
use Rattle.jvm_code.specs.Spelling.{op_bytes, code_bytes, counted, maps_bytes, method_bytes}
use Rattle.jvm_code.proofs.Moves.{same_got, chained}
use Rattle.jvm_code.proofs.Told.{Took, front_bytes, behind_bytes, made, took_nothing, took_both, took_as, number_told, bytes_told, field_told, fine_eq, fine_le}
use Rattle.jvm_code.proofs.ToldOps.{op_told}

abbrev Ops : Type 0
Ops = Result (List (ℕ × Op)) Fault

record More (start pc : ℕ) (g : Got Op) (f : ℕ → List ℕ → Ops) (all : List (ℕ × Op)) : Type 0 where
  first : Op
  others : List (ℕ × Op)
  to : ℕ
  rest : List ℕ
  is : all ≡ (pc, first) ∷ others
  one : g ≡ Ok (first, to, rest)
  more : f to rest ≡ Ok others

more_told : (start pc : ℕ) (g : Got Op) (f : ℕ → List ℕ → Ops) (all : List (ℕ × Op)) → and_more start pc g f ≡ Ok all → More start pc g f all
more_told start pc (Err _) f all e = absurd cc
more_told start pc (Ok p) f all e = go (f p.1 p.2) refl e
  where
    go : (o : Ops) → f p.1 p.2 ≡ o → onto (pc, p.0) o ≡ Ok all → More start pc (Ok p) f all
    go (Ok os) h e = record { first = p.0; others = os; to = p.1; rest = p.2; is = cc; one = refl; more = h }
    go (Err _) h e = absurd cc

same_ok : (a b : List (ℕ × Op)) → Path Ops (Ok a) (Ok b) → a ≡ b
same_ok a b e = cc

ops_told : (fuel : ℕ) (pool : List Constant) (start pc : ℕ) (bs : List ℕ) (all : List (ℕ × Op)) → AreBytes bs → ops fuel pool start pc bs ≡ Ok all → bs ≡ code_bytes all
ops_told fuel pool start pc [] all b e = ap code_bytes (same_ok [] all e)
ops_told zero pool start pc (x ∷ bs) all b e = absurd cc
ops_told (suc fuel) pool start pc (x ∷ bs) all b e =
    let m = more_told start pc (op pool pc (x ∷ bs)) (ops fuel pool start) all e in
    let t = op_told pool pc (x ∷ bs) m.first m.to m.rest b m.one in
    t.is ∙ ap (λ l. op_bytes pc m.first ++ l) (ops_told fuel pool start m.to m.rest m.others t.bytes m.more) ∙ ap code_bytes (sym m.is)

record Closed (n at : ℕ) (bs : List ℕ) (g : Ops) (all : List (ℕ × Op)) (to : ℕ) (rest : List ℕ) : Type 0 where
  whole : g ≡ Ok all
  enough : n ≤ length bs
  to_is : to ≡ at + n
  behind : rest ≡ drop n bs

closed_told : (n at : ℕ) (bs : List ℕ) (g : Ops) (all : List (ℕ × Op)) (to : ℕ) (rest : List ℕ) → closed n at bs g ≡ Ok (all, to, rest) → Closed n at bs g all to rest
closed_told n at bs (Err _) all to rest e = absurd cc
closed_told n at bs (Ok c) all to rest e = go (nat_le n (length bs)) refl e
  where
    go : (t : Bool) → nat_le n (length bs) ≡ t → Path (Got (List (ℕ × Op))) (cond t (Ok (c, at + n, drop n bs)) (Err (NotClass (at + length bs)))) (Ok (all, to, rest)) → Closed n at bs (Ok c) all to rest
    go true h e = let s = same_got e in record { whole = ap (λ c. Ok c) s.0; enough = leb-true n (length bs) h; to_is = sym s.1; behind = sym s.2 }
    go false h e = absurd cc

code_told : (pool : List Constant) (n at : ℕ) (bs : List ℕ) (all : List (ℕ × Op)) (to : ℕ) (rest : List ℕ) → AreBytes bs → code pool n at bs ≡ Ok (all, to, rest)
    → Took at bs (code_bytes all) to rest × (length (code_bytes all) ≡ n)
code_told pool n at bs all to rest b e =
    let k = closed_told n at bs (ops (length (take n bs)) pool at 0 (take n bs)) all to rest e in
    let seam = take-append-drop n bs in
    let both = subst AreBytes (sym seam) b in
    let is : take n bs ≡ code_bytes all = ops_told (length (take n bs)) pool at 0 (take n bs) all (front_bytes (take n bs) (drop n bs) both) k.whole in
    let size : length (code_bytes all) ≡ n = ap length (sym is) ∙ length-take-le n bs k.enough in (
      record {
        is = sym seam ∙ ap (λ l. l ++ drop n bs) is ∙ ap (λ l. code_bytes all ++ l) (sym k.behind);
        to_is = omega (arith, k.to_is, size);
        bytes = subst AreBytes (sym k.behind) (behind_bytes (take n bs) (drop n bs) both);
      },
      size,
    )

u2_told : (judge : ℕ → Verdict) (at : ℕ) (bs : List ℕ) (n to : ℕ) (rest : List ℕ) → AreBytes bs → field u2 judge at bs ≡ Ok (n, to, rest) → Took at bs (big_bytes 2 n) to rest
u2_told judge at bs n to rest b e = (number_told 2 at bs n to rest b (field_told u2 judge at bs n to rest e).0).0

pub known_told : (known at : ℕ) (bs : List ℕ) (n to : ℕ) (rest : List ℕ) → AreBytes bs → field u2 (λ n. forbidden_unless (nat_eq n known)) at bs ≡ Ok (n, to, rest) → Took at bs (big_bytes 2 known) to rest
known_told known at bs n to rest b e =
    let f = field_told u2 (λ n. forbidden_unless (nat_eq n known)) at bs n to rest e in
    took_as at bs (big_bytes 2 n) (big_bytes 2 known) to rest (ap (big_bytes 2) (fine_eq n known f.1)) (number_told 2 at bs n to rest b f.0).0

instructions_told : (pool : List Constant) (at : ℕ) (bs : List ℕ) (all : List (ℕ × Op)) (to : ℕ) (rest : List ℕ) → AreBytes bs → instructions pool at bs ≡ Ok (all, to, rest) → Took at bs (counted (code_bytes all)) to rest
instructions_told pool at bs all to rest b e =
    let test = λ (n : ℕ). broken_unless (nat_lt 0 n && nat_le n 65535) in
    let h = chained (code_length at bs) (code pool) (all, to, rest) e in
    let one = (number_told 4 at bs h.value h.at h.rest b (field_told u4 test at bs h.value h.at h.rest h.first).0).0 in
    let t = code_told pool h.value h.at h.rest all to rest one.bytes h.second in
    took_as at bs (big_bytes 4 h.value ++ code_bytes all) (counted (code_bytes all)) to rest (ap (λ n. big_bytes 4 n ++ code_bytes all) (sym t.1))
    (took_both at bs (big_bytes 4 h.value) h.at h.rest (code_bytes all) to rest one t.0)

map_told : (pool : List Constant) (at : ℕ) (bs : List ℕ) (m : Option (ℕ × List ℕ)) (to : ℕ) (rest : List ℕ) → AreBytes bs → map pool at bs ≡ Ok (m, to, rest)
    → (tail : List ℕ) × (maps_bytes m ≡ big_bytes 2 1 ++ tail) × Took at bs tail to rest
map_told pool at bs m to rest b e =
    let h = chained (map_name pool at bs) (λ name. read_as (λ content. Some (name, content)) (then_read u4 bytes)) (m, to, rest) e in
    let one = u2_told (λ i. forbidden_unless (is_text (codes "StackMapTable") (utf8_at pool i))) at bs h.value h.at h.rest b h.first in
    let k = made (λ content. Some (h.value, content)) (then_read u4 bytes) h.at h.rest m to rest h.second in
    let i = chained (u4 h.at h.rest) bytes (k.value, to, rest) k.read in
    let size = (number_told 4 h.at h.rest i.value i.at i.rest one.bytes i.first).0 in
    let t = bytes_told i.value i.at i.rest k.value to rest size.bytes i.second in (
      big_bytes 2 h.value ++ counted k.value,
      ap maps_bytes k.is,
      took_both at bs (big_bytes 2 h.value) h.at h.rest (counted k.value) to rest one
          (took_as h.at h.rest (big_bytes 4 i.value ++ k.value) (counted k.value) to rest (ap (λ n. big_bytes 4 n ++ k.value) (sym t.1))
          (took_both h.at h.rest (big_bytes 4 i.value) i.at i.rest k.value to rest size t.0)),
    )

maps_told : (pool : List Constant) (at : ℕ) (bs : List ℕ) (m : Option (ℕ × List ℕ)) (to : ℕ) (rest : List ℕ) → AreBytes bs → maps pool at bs ≡ Ok (m, to, rest) → Took at bs (maps_bytes m) to rest
maps_told pool at bs m to rest b e =
    let test = λ (n : ℕ). forbidden_unless (nat_le n 1) in
    let h = chained (map_count at bs) (counted_maps pool) (m, to, rest) e in
    let f = field_told u2 test at bs h.value h.at h.rest h.first in
    let one = (number_told 2 at bs h.value h.at h.rest b f.0).0 in
    go h.value (fine_le h.value 1 f.1) h.at h.rest one h.second
  where
    go : (n : ℕ) → n ≤ 1 → (mid : ℕ) (left : List ℕ) → Took at bs (big_bytes 2 n) mid left → counted_maps pool n mid left ≡ Ok (m, to, rest) → Took at bs (maps_bytes m) to rest
    go zero l mid left one e =
        let s = same_got e in
        took_as at bs (big_bytes 2 0 ++ []) (maps_bytes m) to rest (ap maps_bytes s.0) (took_both at bs (big_bytes 2 0) mid left [] to rest one (took_nothing mid left to rest one.bytes s.1 s.2))
    go (suc zero) l mid left one e =
        let t = map_told pool mid left m to rest one.bytes e in
        took_as at bs (big_bytes 2 1 ++ t.0) (maps_bytes m) to rest (sym t.1) (took_both at bs (big_bytes 2 1) mid left t.0 to rest one t.2)
    go (suc (suc n)) l mid left one e = absurd (omega (arith, l))

-- the content of the attribute as it is spelled
abbrev content_bytes : Content → List ℕ
content_bytes k = big_bytes 2 k.max_stack ++ (big_bytes 2 k.max_locals ++ (counted (code_bytes k.code) ++ (big_bytes 2 0 ++ maps_bytes k.maps)))

content_told : (pool : List Constant) (at : ℕ) (bs : List ℕ) (k : Content) (to : ℕ) (rest : List ℕ) → AreBytes bs → content pool at bs ≡ Ok (k, to, rest) → Took at bs (content_bytes k) to rest
content_told pool at bs k to rest b e =
    let make : ℕ → ℕ → List (ℕ × Op) → Option (ℕ × List ℕ) → Content = λ stack locals code maps. record { max_stack = stack; max_locals = locals; code = code; maps = maps } in
    let h = chained (u2 at bs) (λ stack. then_read u2 (λ locals. then_read (instructions pool) (λ code. then_read none (λ _. read_as (make stack locals code) (maps pool))))) (k, to, rest) e in
    let p = (number_told 2 at bs h.value h.at h.rest b h.first).0 in
    let i = chained (u2 h.at h.rest) (λ locals. then_read (instructions pool) (λ code. then_read none (λ _. read_as (make h.value locals code) (maps pool)))) (k, to, rest) h.second in
    let q = (number_told 2 h.at h.rest i.value i.at i.rest p.bytes i.first).0 in
    let j = chained (instructions pool i.at i.rest) (λ code. then_read none (λ _. read_as (make h.value i.value code) (maps pool))) (k, to, rest) i.second in
    let s = instructions_told pool i.at i.rest j.value j.at j.rest q.bytes j.first in
    let l = chained (none j.at j.rest) (λ _. read_as (make h.value i.value j.value) (maps pool)) (k, to, rest) j.second in
    let t = known_told 0 j.at j.rest l.value l.at l.rest s.bytes l.first in
    let m = made (make h.value i.value j.value) (maps pool) l.at l.rest k to rest l.second in
    let u = maps_told pool l.at l.rest m.value to rest t.bytes m.read in
    took_as at bs (big_bytes 2 h.value ++ (big_bytes 2 i.value ++ (counted (code_bytes j.value) ++ (big_bytes 2 0 ++ maps_bytes m.value)))) (content_bytes k) to rest (ap content_bytes (sym m.is))
    (took_both at bs (big_bytes 2 h.value) h.at h.rest _ to rest p
    (took_both h.at h.rest (big_bytes 2 i.value) i.at i.rest _ to rest q
    (took_both i.at i.rest (counted (code_bytes j.value)) j.at j.rest _ to rest s
    (took_both j.at j.rest (big_bytes 2 0) l.at l.rest (maps_bytes m.value) to rest t u))))

sized_told : (pool : List Constant) (at : ℕ) (bs : List ℕ) (k : Content) (to : ℕ) (rest : List ℕ) → AreBytes bs → sized (content pool) at bs ≡ Ok (k, to, rest) → Took at bs (counted (content_bytes k)) to rest
sized_told pool at bs k to rest b e =
    let h = chained (u4 at bs) (λ n from left. sized_as at n from (content pool from left)) (k, to, rest) e in
    let one = (number_told 4 at bs h.value h.at h.rest b h.first).0 in
    let s = as_told (content pool h.at h.rest) h.value h.at h.second in
    let t = content_told pool h.at h.rest k to rest one.bytes s.0 in
    let size : h.value ≡ length (content_bytes k) = omega (arith, s.1, t.to_is) in
    took_as at bs (big_bytes 4 h.value ++ content_bytes k) (counted (content_bytes k)) to rest (ap (λ n. big_bytes 4 n ++ content_bytes k) size)
    (took_both at bs (big_bytes 4 h.value) h.at h.rest (content_bytes k) to rest one t)
  where
    as_told : (g : Got Content) (n from : ℕ) → sized_as at n from g ≡ Ok (k, to, rest) → (g ≡ Ok (k, to, rest)) × (to ≡ from + n)
    as_told (Err _) n from e = absurd cc
    as_told (Ok p) n from e = go (nat_eq p.1 (from + n)) refl e
      where
        go : (c : Bool) → nat_eq p.1 (from + n) ≡ c → Path (Got Content) (cond c (Ok p) (Err (NotClass at))) (Ok (k, to, rest)) → (Path (Got Content) (Ok p) (Ok (k, to, rest))) × (to ≡ from + n)
        go true h e = (e, sym (same_got e).1 ∙ eqb-true p.1 (from + n) h)
        go false h e = absurd cc

abbrev attribute_bytes : ℕ × Content → List ℕ
attribute_bytes p = big_bytes 2 1 ++ (big_bytes 2 p.0 ++ counted (content_bytes p.1))

attribute_told : (pool : List Constant) (at : ℕ) (bs : List ℕ) (p : ℕ × Content) (to : ℕ) (rest : List ℕ) → AreBytes bs → attribute pool at bs ≡ Ok (p, to, rest) → Took at bs (attribute_bytes p) to rest
attribute_told pool at bs p to rest b e =
    let h = chained (attribute_count at bs) (λ _. then_read (code_name pool) (λ name. read_as (λ content. (name, content)) (sized (content pool)))) (p, to, rest) e in
    let one = known_told 1 at bs h.value h.at h.rest b h.first in
    let i = chained (code_name pool h.at h.rest) (λ name. read_as (λ content. (name, content)) (sized (content pool))) (p, to, rest) h.second in
    let q = u2_told (λ i. text_that (λ text. bytes_eq text (codes "Code")) (utf8_at pool i)) h.at h.rest i.value i.at i.rest one.bytes i.first in
    let m = made (λ content. (i.value, content)) (sized (content pool)) i.at i.rest p to rest i.second in
    took_as at bs (big_bytes 2 1 ++ (big_bytes 2 i.value ++ counted (content_bytes m.value))) (attribute_bytes p) to rest (ap attribute_bytes (sym m.is))
    (took_both at bs (big_bytes 2 1) h.at h.rest _ to rest one
    (took_both h.at h.rest (big_bytes 2 i.value) i.at i.rest (counted (content_bytes m.value)) to rest q (sized_told pool i.at i.rest m.value to rest q.bytes m.read)))

method_told : (pool : List Constant) (before : List (List ℕ)) (at : ℕ) (bs : List ℕ) (m : Method) (to : ℕ) (rest : List ℕ) → AreBytes bs → method pool before at bs ≡ Ok (m, to, rest) → Took at bs (method_bytes m) to rest
method_told pool before at bs m to rest b e =
    let h = chained (method_flags at bs) (λ flags. then_read (method_name pool flags) (λ name. then_read (descriptor pool (is_taken pool before name)) (λ d. read_as (method_of flags name d) (attribute pool)))) (m, to, rest) e in
    let p = u2_told (λ n. forbidden_unless (nat_eq n 0x0009 || nat_eq n 0x000A)) at bs h.value h.at h.rest b h.first in
    let i = chained (method_name pool h.value h.at h.rest) (λ name. then_read (descriptor pool (is_taken pool before name)) (λ d. read_as (method_of h.value name d) (attribute pool))) (m, to, rest) h.second in
    let q = u2_told (λ i. text_that (is_method_name h.value) (utf8_at pool i)) h.at h.rest i.value i.at i.rest p.bytes i.first in
    let j = chained (descriptor pool (is_taken pool before i.value) i.at i.rest) (λ d. read_as (method_of h.value i.value d) (attribute pool)) (m, to, rest) i.second in
    let s = u2_told (λ k. descriptor_that (is_taken pool before i.value) (utf8_at pool k)) i.at i.rest j.value j.at j.rest q.bytes j.first in
    let k = made (method_of h.value i.value j.value) (attribute pool) j.at j.rest m to rest j.second in
    took_as at bs (big_bytes 2 h.value ++ (big_bytes 2 i.value ++ (big_bytes 2 j.value ++ attribute_bytes k.value))) (method_bytes m) to rest (ap method_bytes (sym k.is))
    (took_both at bs (big_bytes 2 h.value) h.at h.rest _ to rest p
    (took_both h.at h.rest (big_bytes 2 i.value) i.at i.rest _ to rest q
    (took_both i.at i.rest (big_bytes 2 j.value) j.at j.rest (attribute_bytes k.value) to rest s (attribute_told pool j.at j.rest k.value to rest s.bytes k.read))))

pub methods_told : (pool : List Constant) (before : List (List ℕ)) (n at : ℕ) (bs : List ℕ) (ms : List Method) (to : ℕ) (rest : List ℕ) → AreBytes bs → methods pool before n at bs ≡ Ok (ms, to, rest)
    → Took at bs (flat_map method_bytes ms) to rest × (length ms ≡ n)
methods_told pool before zero at bs ms to rest b e =
    let s = same_got e in (took_as at bs [] (flat_map method_bytes ms) to rest (ap (flat_map method_bytes) s.0) (took_nothing at bs to rest b s.1 s.2), ap length (sym s.0))
methods_told pool before (suc n) at bs ms to rest b e =
    let h = chained (method pool before at bs) (λ m. read_as (λ ms. m ∷ ms) (methods pool (before ++ name_of pool m.name ∷ []) n)) (ms, to, rest) e in
    let one = method_told pool before at bs h.value h.at h.rest b h.first in
    let m = made (λ ms. h.value ∷ ms) (methods pool (before ++ name_of pool h.value.name ∷ []) n) h.at h.rest ms to rest h.second in
    let t = methods_told pool (before ++ name_of pool h.value.name ∷ []) n h.at h.rest m.value to rest one.bytes m.read in (
      took_as at bs (method_bytes h.value ++ flat_map method_bytes m.value) (flat_map method_bytes ms) to rest (ap (flat_map method_bytes) (sym m.is))
          (took_both at bs (method_bytes h.value) h.at h.rest (flat_map method_bytes m.value) to rest one t.0),
      ap length m.is ∙ ap suc t.1,
    )
