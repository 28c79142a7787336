-- Types that are read are those that are spelled.
use Rattle.std.proofs.Common.{◌≡◌, ℕ, zero, suc, ◌<◌, ◌^◌, nat_eq, true, List, [], ◌∷◌, ◌++◌, length, Option, None, Some, refl, sym, ap, ◌∙◌, subst, append_assoc, arith}
use Rattle.std.proofs.lemmas.Bool.{eqb-true}
use Rattle.std.specs.List.{AllByRecursion}
use Rattle.std.specs.Option.{option_map, option_and_then}
use Rattle.byteorder.specs.Endian.{big_bytes}
use Rattle.ej_tables.specs.Bytes.{AreBytes}
use Rattle.jvm_code.specs.declared.class.Constant.{Constant}
use Rattle.jvm_code.specs.declared.types.VType.{VType}
use Rattle.jvm_code.specs.declared.types.VType.TheVariants as v
use Rattle.jvm_code.specs.Entries.{class_at}
use Rattle.jvm_code.specs.StackMaps.{TypeInfo, Top, Integer, Long, Null, Object, info_bytes, infos_bytes, IsInfo, IsType, AreTypes, NamesClass}
use Rattle.stack_maps.specs.Read.{Got, done, go_on, then_read, if_some, u1, u2, times, class_type, object, tagged, vtype, vtypes, counted}
use Rattle.stack_maps.specs.Texts.{text_of}
use Rattle.stack_maps.proofs.Taken.{next, Took, took_nothing, took_both, took_as, same_got, chained, chosen, number_told, u1_back, u2_back}
use Rattle.stack_maps.proofs.Utf16Law.{text_told, text_back}

-- ---- what is read tells how it is spelled

pub record TypeTook (pool : List Constant) (bs : List ℕ) (type : VType) (rest : List ℕ) : Type 0 where
  pub info : TypeInfo
  pub fits : IsInfo info
  pub is : IsType pool info type
  pub took : Took bs (info_bytes info) rest

pub some_told : {A : Type 0} (o : Option A) (bs : List ℕ) (x : A) (rest : List ℕ) → if_some o bs ≡ Some (x, rest) → (o ≡ Some x) × (bs ≡ rest)
some_told (Some y) bs x rest e = let s = same_got e in (ap Some s.0, s.1)
some_told None bs x rest e = absurd cc

-- a class's name is that of its type
class_told : (pool : List Constant) (index : ℕ) (type : VType) → class_type pool index ≡ Some type → IsType pool (Object index) type
class_told pool index type e = go (class_at pool index) refl e
  where
    inside : (x y : VType) → Path (Option VType) (Some x) (Some y) → x ≡ y
    inside x y e = cc

    text : (name : List ℕ) → class_at pool index ≡ Some name → (t : Option (List ℕ)) → text_of name ≡ t → option_map v.Class t ≡ Some type → IsType pool (Object index) type
    text name n (Some t) f e =
        let found = text_told name t f in
        subst (IsType pool (Object index)) (inside (v.Class t) type e) (record { unicode = found.unicode; named = n ∙ ap Some found.is })
    text name n None f e = absurd cc

    go : (o : Option (List ℕ)) → class_at pool index ≡ o → option_map v.Class (option_and_then text_of o) ≡ Some type → IsType pool (Object index) type
    go (Some name) n e = text name n (text_of name) refl e
    go None n e = absurd cc

-- a type behind its tag
plain_told : (pool : List Constant) (bs : List ℕ) (tag known : ℕ) (left : List ℕ) (info : TypeInfo) (made type : VType) (rest : List ℕ) → Took bs (big_bytes 1 tag) left → nat_eq tag known ≡ true
    → big_bytes 1 known ≡ info_bytes info → IsInfo info → IsType pool info made → done made left ≡ Some (type, rest) → TypeTook pool bs type rest
plain_told pool bs tag known left info made type rest t e s f i d =
    let g = same_got d in
    record { info = info; fits = f; is = subst (IsType pool info) g.0 i; took = subst (λ r. Took bs (info_bytes info) r) g.1 (took_as bs (big_bytes 1 tag) (info_bytes info) left (ap (big_bytes 1) (eqb-true tag known e) ∙ s) t) }

object_told : (pool : List Constant) (bs : List ℕ) (tag : ℕ) (left : List ℕ) (type : VType) (rest : List ℕ) → Took bs (big_bytes 1 tag) left → nat_eq tag 7 ≡ true → object pool left ≡ Some (type, rest) → TypeTook pool bs type rest
object_told pool bs tag left type rest t e d =
    let h = chained (u2 left) (λ index. if_some (class_type pool index)) (type, rest) d in
    let n = number_told 2 left h.value h.rest t.bytes h.first in
    let s = some_told (class_type pool h.value) h.rest type rest h.second in
    record {
      info = Object h.value;
      fits = n.1;
      is = class_told pool h.value type s.0;
      took = took_both bs (7 ∷ []) left (big_bytes 2 h.value) rest (took_as bs (big_bytes 1 tag) (7 ∷ []) left (ap (big_bytes 1) (eqb-true tag 7 e)) t) (subst (λ r. Took left (big_bytes 2 h.value) r) s.1 n.0);
    }

pub type_told : (pool : List Constant) (bs : List ℕ) (type : VType) (rest : List ℕ) → AreBytes bs → vtype pool bs ≡ Some (type, rest) → TypeTook pool bs type rest
type_told pool bs type rest b e =
    let h = chained (u1 bs) (tagged pool) (type, rest) e in
    let n = (number_told 1 bs h.value h.rest b h.first).0 in
    let P = TypeTook pool bs type rest in
    let z : Got VType = Some (type, rest) in
    chosen (nat_eq h.value 0) _ _ h.rest P z h.second (λ c d. plain_told pool bs h.value 0 h.rest Top v.Top type rest n c refl tt tt d) (λ _ d.
    chosen (nat_eq h.value 1) _ _ h.rest P z d (λ c d. plain_told pool bs h.value 1 h.rest Integer v.Integer type rest n c refl tt tt d) (λ _ d.
    chosen (nat_eq h.value 4) _ _ h.rest P z d (λ c d. plain_told pool bs h.value 4 h.rest Long v.Long type rest n c refl tt tt d) (λ _ d.
    chosen (nat_eq h.value 5) _ _ h.rest P z d (λ c d. plain_told pool bs h.value 5 h.rest Null v.Null type rest n c refl tt tt d) (λ _ d.
    chosen (nat_eq h.value 7) _ _ h.rest P z d (λ c d. object_told pool bs h.value h.rest type rest n c d) (λ _ d. absurd (nothing d))))))
  where
    nothing : {A : Type 0} {x : A} → Path (Option A) None (Some x) → ⊥
    nothing e = absurd cc

pub record TypesTook (pool : List Constant) (count : ℕ) (bs : List ℕ) (types : List VType) (rest : List ℕ) : Type 0 where
  pub infos : List TypeInfo
  pub counted : length infos ≡ count
  pub fits : AllByRecursion IsInfo infos
  pub are : AreTypes pool infos types
  pub took : Took bs (infos_bytes infos) rest

pub types_told : (pool : List Constant) (count : ℕ) (bs : List ℕ) (types : List VType) (rest : List ℕ) → AreBytes bs → vtypes pool count bs ≡ Some (types, rest) → TypesTook pool count bs types rest
types_told pool zero bs types rest b e = let s = same_got e in record { infos = []; counted = refl; fits = tt; are = subst (AreTypes pool []) s.0 tt; took = took_nothing bs rest b s.1 }
types_told pool (suc n) bs types rest b e =
    let h = chained (vtype pool bs) (λ x. then_read (times n (vtype pool)) (λ xs. done (x ∷ xs))) (types, rest) e in
    let t = type_told pool bs h.value h.rest b h.first in
    let k = chained (times n (vtype pool) h.rest) (λ xs. done (h.value ∷ xs)) (types, rest) h.second in
    let s = same_got k.second in
    let m = types_told pool n h.rest k.value k.rest t.took.bytes k.first in
    record {
      infos = t.info ∷ m.infos;
      counted = next (length m.infos) n m.counted;
      fits = (t.fits, m.fits);
      are = subst (AreTypes pool (t.info ∷ m.infos)) s.0 (t.is, m.are);
      took = took_both bs (info_bytes t.info) h.rest (infos_bytes m.infos) rest t.took (subst (λ r. Took h.rest (infos_bytes m.infos) r) s.1 m.took);
    }

-- a count of types, and the types
pub record CountedTook (pool : List Constant) (bs : List ℕ) (types : List VType) (rest : List ℕ) : Type 0 where
  pub infos : List TypeInfo
  pub few : length infos < 2 ^ 16
  pub fits : AllByRecursion IsInfo infos
  pub are : AreTypes pool infos types
  pub took : Took bs (big_bytes 2 (length infos) ++ infos_bytes infos) rest

pub counted_told : (pool : List Constant) (bs : List ℕ) (types : List VType) (rest : List ℕ) → AreBytes bs → counted pool bs ≡ Some (types, rest) → CountedTook pool bs types rest
counted_told pool bs types rest b e =
    let h = chained (u2 bs) (vtypes pool) (types, rest) e in
    let n = number_told 2 bs h.value h.rest b h.first in
    let t = types_told pool h.value h.rest types rest n.0.bytes h.second in
    record {
      infos = t.infos;
      few = subst (λ n. n < 2 ^ 16) (sym t.counted) n.1;
      fits = t.fits;
      are = t.are;
      took = took_both bs (big_bytes 2 (length t.infos)) h.rest (infos_bytes t.infos) rest (took_as bs (big_bytes 2 h.value) (big_bytes 2 (length t.infos)) h.rest (ap (big_bytes 2) (sym t.counted)) n.0) t.took;
    }

-- ---- and what is spelled is read

class_back : (pool : List Constant) (index : ℕ) (text : List ℕ) → NamesClass pool index text → class_type pool index ≡ Some (v.Class text)
class_back pool index text h = ap (λ o. option_map v.Class (option_and_then text_of o)) h.named ∙ ap (option_map v.Class) (text_back text h.unicode)

behind_tag : (pool : List Constant) (tag : ℕ) (rest : List ℕ) (type : VType) (left : List ℕ) → tag < 256 → tagged pool tag rest ≡ Some (type, left) → vtype pool (big_bytes 1 tag ++ rest) ≡ Some (type, left)
behind_tag pool tag rest type left l e = ap (λ g. go_on g (tagged pool)) (u1_back tag rest l) ∙ e

object_back : (pool : List Constant) (index : ℕ) (text rest : List ℕ) → index < 2 ^ 16 → NamesClass pool index text → object pool (big_bytes 2 index ++ rest) ≡ Some (v.Class text, rest)
object_back pool index text rest l h = ap (λ g. go_on g (λ index. if_some (class_type pool index))) (u2_back index rest l) ∙ ap (λ o. if_some o rest) (class_back pool index text h)

pub type_back : (pool : List Constant) (info : TypeInfo) (type : VType) (rest : List ℕ) → IsInfo info → IsType pool info type → vtype pool (info_bytes info ++ rest) ≡ Some (type, rest)
type_back pool Top v.Top rest f h = behind_tag pool 0 rest v.Top rest (omega arith) refl
type_back pool Top v.Integer rest f h = absurd h
type_back pool Top v.Long rest f h = absurd h
type_back pool Top v.Null rest f h = absurd h
type_back pool Top (v.Class text) rest f h = absurd h
type_back pool Integer v.Top rest f h = absurd h
type_back pool Integer v.Integer rest f h = behind_tag pool 1 rest v.Integer rest (omega arith) refl
type_back pool Integer v.Long rest f h = absurd h
type_back pool Integer v.Null rest f h = absurd h
type_back pool Integer (v.Class text) rest f h = absurd h
type_back pool Long v.Top rest f h = absurd h
type_back pool Long v.Integer rest f h = absurd h
type_back pool Long v.Long rest f h = behind_tag pool 4 rest v.Long rest (omega arith) refl
type_back pool Long v.Null rest f h = absurd h
type_back pool Long (v.Class text) rest f h = absurd h
type_back pool Null v.Top rest f h = absurd h
type_back pool Null v.Integer rest f h = absurd h
type_back pool Null v.Long rest f h = absurd h
type_back pool Null v.Null rest f h = behind_tag pool 5 rest v.Null rest (omega arith) refl
type_back pool Null (v.Class text) rest f h = absurd h
type_back pool (Object index) v.Top rest f h = absurd h
type_back pool (Object index) v.Integer rest f h = absurd h
type_back pool (Object index) v.Long rest f h = absurd h
type_back pool (Object index) v.Null rest f h = absurd h
type_back pool (Object index) (v.Class text) rest f h = behind_tag pool 7 (big_bytes 2 index ++ rest) (v.Class text) rest (omega arith) (object_back pool index text rest f h)

pub types_back : (pool : List Constant) (infos : List TypeInfo) (types : List VType) (rest : List ℕ) → AllByRecursion IsInfo infos → AreTypes pool infos types → vtypes pool (length infos) (infos_bytes infos ++ rest) ≡ Some (types, rest)
types_back pool [] [] rest f h = refl
types_back pool [] (t ∷ ts) rest f h = absurd h
types_back pool (i ∷ is) [] rest f h = absurd h
types_back pool (i ∷ is) (t ∷ ts) rest f h =
    ap (λ bs. vtypes pool (suc (length is)) bs) (append_assoc (info_bytes i) (infos_bytes is) rest)
    ∙ ap (λ g. go_on g (λ x. then_read (times (length is) (vtype pool)) (λ xs. done (x ∷ xs)))) (type_back pool i t (infos_bytes is ++ rest) f.0 h.0)
    ∙ ap (λ g. go_on g (λ xs. done (t ∷ xs))) (types_back pool is ts rest f.1 h.1)

pub counted_back : (pool : List Constant) (infos : List TypeInfo) (types : List VType) (rest : List ℕ) → length infos < 2 ^ 16 → AllByRecursion IsInfo infos → AreTypes pool infos types
    → counted pool (big_bytes 2 (length infos) ++ (infos_bytes infos ++ rest)) ≡ Some (types, rest)
counted_back pool infos types rest l f h = ap (λ g. go_on g (vtypes pool)) (u2_back (length infos) (infos_bytes infos ++ rest) l) ∙ types_back pool infos types rest f h
