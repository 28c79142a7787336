-- A class that is read tells its bytes.
use Rattle.std.proofs.Common.{◌≡◌, ℕ, nat_eq, bit_and, List, [], ◌∷◌, ◌++◌, length, Ok, Err, refl, sym, ap, ◌∙◌, append_assoc, append-nil}
use Rattle.std.proofs.lemmas.Bool.{eqb-true}
use Rattle.std.specs.List.{flat_map}
use Rattle.byteorder.specs.Endian.{big_bytes}
use Rattle.ej_tables.specs.Bytes.{AreBytes}
use Rattle.jvm_code.specs.declared.class.Class.{Class}
use Rattle.jvm_code.specs.declared.class.Constant.{Constant}
use Rattle.jvm_code.specs.declared.class.Method.{Method}
use Rattle.jvm_code.specs.Entries.{class_at}
use Rattle.jvm_code.specs.Names.{is_class_name}
use Rattle.jvm_code.specs.ReadClass.{none, methods, text_that, magic, major, version, class_flags, this, is_object, above, class_of, members, class_with, class_file, ended, read_class}
use Rattle.jvm_code.specs.ReadPool.{constant_pool}
use Rattle.jvm_code.specs.Reader.{Got, then_read, read_as, u2, u4, Verdict, field, broken_unless, forbidden_unless}
use Rattle.jvm_code.specs.Spelling.{constant_bytes, method_bytes, class_bytes}
use Rattle.jvm_code.proofs.Moves.{chained}
use Rattle.jvm_code.proofs.Told.{Took, made, took_both, took_as, number_told, field_told, sound}
use Rattle.jvm_code.proofs.ToldMethods.{known_told, methods_told}
use Rattle.jvm_code.proofs.ToldPool.{pool_told}

field2_told : (judge : ℕ → Verdict) (at : ℕ) (bs : List ℕ) (n to : ℕ) (rest : List ℕ) → AreBytes bs → field u2 judge at bs ≡ Ok (n, to, rest) → Took at bs (big_bytes 2 n) to rest
field2_told judge at bs n to rest b e = (number_told 2 at bs n to rest b (field_told u2 judge at bs n to rest e).0).0

magic_told : (at : ℕ) (bs : List ℕ) (n to : ℕ) (rest : List ℕ) → AreBytes bs → magic at bs ≡ Ok (n, to, rest) → Took at bs (big_bytes 4 0xCAFEBABE) to rest
magic_told at bs n to rest b e =
    let f = field_told u4 (λ n. broken_unless (nat_eq n 0xCAFEBABE)) at bs n to rest e in
    took_as at bs (big_bytes 4 n) (big_bytes 4 0xCAFEBABE) to rest (ap (big_bytes 4) (eqb-true n 0xCAFEBABE (sound (nat_eq n 0xCAFEBABE) f.1))) (number_told 4 at bs n to rest b f.0).0

version_told : (at : ℕ) (bs : List ℕ) (n to : ℕ) (rest : List ℕ) → AreBytes bs → version at bs ≡ Ok (n, to, rest) → Took at bs (big_bytes 2 0 ++ big_bytes 2 50) to rest
version_told at bs n to rest b e =
    let h = chained (none at bs) (λ _. major) (n, to, rest) e in
    let one = known_told 0 at bs h.value h.at h.rest b h.first in
    took_both at bs (big_bytes 2 0) h.at h.rest (big_bytes 2 50) to rest one (known_told 50 h.at h.rest n to rest one.bytes h.second)

abbrev members_bytes : List Method → List ℕ
members_bytes ms = big_bytes 2 0 ++ (big_bytes 2 0 ++ (big_bytes 2 (length ms) ++ (flat_map method_bytes ms ++ big_bytes 2 0)))

members_told : (pool : List Constant) (at : ℕ) (bs : List ℕ) (ms : List Method) (to : ℕ) (rest : List ℕ) → AreBytes bs → members pool at bs ≡ Ok (ms, to, rest) → Took at bs (members_bytes ms) to rest
members_told pool at bs ms to rest b e =
    let h = chained (none at bs) (λ _. then_read none (λ _. then_read u2 (λ n. then_read (methods pool [] n) (λ methods. read_as (λ _. methods) none)))) (ms, to, rest) e in
    let p = known_told 0 at bs h.value h.at h.rest b h.first in
    let i = chained (none h.at h.rest) (λ _. then_read u2 (λ n. then_read (methods pool [] n) (λ methods. read_as (λ _. methods) none))) (ms, to, rest) h.second in
    let q = known_told 0 h.at h.rest i.value i.at i.rest p.bytes i.first in
    let j = chained (u2 i.at i.rest) (λ n. then_read (methods pool [] n) (λ methods. read_as (λ _. methods) none)) (ms, to, rest) i.second in
    let s = (number_told 2 i.at i.rest j.value j.at j.rest q.bytes j.first).0 in
    let k = chained (methods pool [] j.value j.at j.rest) (λ methods. read_as (λ _. methods) none) (ms, to, rest) j.second in
    let t = methods_told pool [] j.value j.at j.rest k.value k.at k.rest s.bytes k.first in
    let m = made (λ _. k.value) none k.at k.rest ms to rest k.second in
    let u = known_told 0 k.at k.rest m.value to rest t.0.bytes m.read in
    took_as at bs (big_bytes 2 0 ++ (big_bytes 2 0 ++ (big_bytes 2 j.value ++ (flat_map method_bytes k.value ++ big_bytes 2 0)))) (members_bytes ms) to rest
    (ap (λ n. big_bytes 2 0 ++ (big_bytes 2 0 ++ (big_bytes 2 n ++ (flat_map method_bytes k.value ++ big_bytes 2 0)))) (sym t.1) ∙ ap members_bytes (sym m.is))
    (took_both at bs (big_bytes 2 0) h.at h.rest _ to rest p
    (took_both h.at h.rest (big_bytes 2 0) i.at i.rest _ to rest q
    (took_both i.at i.rest (big_bytes 2 j.value) j.at j.rest _ to rest s
    (took_both j.at j.rest (flat_map method_bytes k.value) k.at k.rest (big_bytes 2 0) to rest t.0 u))))

-- what stands behind the pool
abbrev behind_pool : Class → List ℕ
behind_pool c = big_bytes 2 c.flags ++ (big_bytes 2 c.this ++ (big_bytes 2 c.above ++ members_bytes c.methods))

with_told : (pool : List Constant) (at : ℕ) (bs : List ℕ) (c : Class) (to : ℕ) (rest : List ℕ) → AreBytes bs → class_with pool at bs ≡ Ok (c, to, rest) → Took at bs (behind_pool c) to rest × (c.pool ≡ pool)
with_told pool at bs c to rest b e =
    let h = chained (class_flags at bs) (λ flags. then_read (this pool) (λ this. then_read (above pool) (λ above. read_as (class_of pool flags this above) (members pool)))) (c, to, rest) e in
    let p = field2_told (λ n. forbidden_unless (nat_eq (bit_and n 0x0031) n)) at bs h.value h.at h.rest b h.first in
    let i = chained (this pool h.at h.rest) (λ this. then_read (above pool) (λ above. read_as (class_of pool h.value this above) (members pool))) (c, to, rest) h.second in
    let q = field2_told (λ i. text_that is_class_name (class_at pool i)) h.at h.rest i.value i.at i.rest p.bytes i.first in
    let j = chained (above pool i.at i.rest) (λ above. read_as (class_of pool h.value i.value above) (members pool)) (c, to, rest) i.second in
    let s = field2_told (λ i. text_that is_object (class_at pool i)) i.at i.rest j.value j.at j.rest q.bytes j.first in
    let m = made (class_of pool h.value i.value j.value) (members pool) j.at j.rest c to rest j.second in (
      took_as at bs (big_bytes 2 h.value ++ (big_bytes 2 i.value ++ (big_bytes 2 j.value ++ members_bytes m.value))) (behind_pool c) to rest (ap behind_pool (sym m.is))
          (took_both at bs (big_bytes 2 h.value) h.at h.rest _ to rest p
          (took_both h.at h.rest (big_bytes 2 i.value) i.at i.rest _ to rest q
          (took_both i.at i.rest (big_bytes 2 j.value) j.at j.rest (members_bytes m.value) to rest s (members_told pool j.at j.rest m.value to rest s.bytes m.read)))),
      ap (λ (c : Class). c.pool) m.is,
    )

file_told : (at : ℕ) (bs : List ℕ) (c : Class) (to : ℕ) (rest : List ℕ) → AreBytes bs → class_file at bs ≡ Ok (c, to, rest) → Took at bs (class_bytes c) to rest
file_told at bs c to rest b e =
    let h = chained (magic at bs) (λ _. then_read version (λ _. then_read constant_pool class_with)) (c, to, rest) e in
    let p = magic_told at bs h.value h.at h.rest b h.first in
    let i = chained (version h.at h.rest) (λ _. then_read constant_pool class_with) (c, to, rest) h.second in
    let q = version_told h.at h.rest i.value i.at i.rest p.bytes i.first in
    let j = chained (constant_pool i.at i.rest) class_with (c, to, rest) i.second in
    let s = pool_told i.at i.rest j.value j.at j.rest q.bytes j.first in
    let t = with_told j.value j.at j.rest c to rest s.bytes j.second in
    took_as at bs (big_bytes 4 0xCAFEBABE ++ ((big_bytes 2 0 ++ big_bytes 2 50) ++ ((big_bytes 2 (length j.value) ++ flat_map constant_bytes j.value) ++ behind_pool c))) (class_bytes c) to rest
    (ap (λ pool. big_bytes 4 0xCAFEBABE ++ ((big_bytes 2 0 ++ big_bytes 2 50) ++ ((big_bytes 2 (length pool) ++ flat_map constant_bytes pool) ++ behind_pool c))) (sym t.1) ∙ simp append_assoc)
    (took_both at bs (big_bytes 4 0xCAFEBABE) h.at h.rest _ to rest p
    (took_both h.at h.rest (big_bytes 2 0 ++ big_bytes 2 50) i.at i.rest _ to rest q
    (took_both i.at i.rest (big_bytes 2 (length j.value) ++ flat_map constant_bytes j.value) j.at j.rest (behind_pool c) to rest s t.0)))

-- the bytes of a class are those that spell it
pub class_told : (bs : List ℕ) (c : Class) → AreBytes bs → read_class bs ≡ Ok c → bs ≡ class_bytes c
class_told bs c b e = go (class_file 0 bs) refl e
  where
    go : (g : Got Class) → class_file 0 bs ≡ g → ended g ≡ Ok c → bs ≡ class_bytes c
    go (Ok (d, at, [])) h e =
        let same : d ≡ c = cc in
        (file_told 0 bs d at [] b h).is ∙ append-nil (class_bytes d) ∙ ap class_bytes same
    go (Ok (d, at, x ∷ rest)) h e = absurd cc
    go (Err _) h e = absurd cc
