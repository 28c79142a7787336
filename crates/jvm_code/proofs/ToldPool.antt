-- A pool that is read tells its bytes.
use Rattle.std.proofs.Common.{◌≡◌, ℕ, zero, suc, nat_eq, Bool, true, false, not, List, [], ◌∷◌, ◌++◌, length, Option, None, Some, Ok, Err, refl, sym, ap, ◌∙◌}
use Rattle.std.proofs.lemmas.Bool.{eqb-true}
use Rattle.std.specs.Int.{cast_unsigned, w32, w64}
use Rattle.std.specs.List.{flat_map}
use Rattle.byteorder.specs.Endian.{big_bytes}
use Rattle.ej_tables.specs.Bytes.{AreBytes}
use Rattle.jvm_code.specs.declared.class.Constant.{Constant}
use Rattle.jvm_code.specs.declared.class.Constant.TheVariants as c
use Rattle.jvm_code.specs.ModifiedUtf8.{is_modified_utf8}
use Rattle.jvm_code.specs.ReadPool.{is_other_tag, modified_text, long, methodref, name_and_type, other, constant, entry, is_long, next_entry, entries, first_wrong, unless_wrong, referred, indexed, constant_pool}
use Rattle.jvm_code.specs.Reader.{Got, broken, outside, then_read, read_as, bytes, u1, u2, s4, s8, field, broken_unless}
use Rattle.jvm_code.specs.Spelling.{constant_bytes}
use Rattle.jvm_code.proofs.Moves.{same_got, chained}
use Rattle.jvm_code.proofs.Told.{Took, made, took_nothing, took_both, took_as, number_told, bytes_told, s4_told, s8_told, field_told, item_told, chosen}

-- what stands behind a tag is the rest of what is spelled
record Tail (e : Constant) (tag at : ℕ) (bs : List ℕ) (to : ℕ) (rest : List ℕ) : Type 0 where
  tail : List ℕ
  spelled : constant_bytes e ≡ big_bytes 1 tag ++ tail
  took : Took at bs tail to rest

tagged : (tag known : ℕ) (tail : List ℕ) → nat_eq tag known ≡ true → big_bytes 1 known ++ tail ≡ big_bytes 1 tag ++ tail
tagged tag known tail e = ap (λ t. big_bytes 1 t ++ tail) (sym (eqb-true tag known e))

index_tail : (make : ℕ → Constant) (known : ℕ) → ((n : ℕ) → constant_bytes (make n) ≡ big_bytes 1 known ++ big_bytes 2 n)
    → (tag at : ℕ) (bs : List ℕ) (e : Constant) (to : ℕ) (rest : List ℕ) → AreBytes bs → nat_eq tag known ≡ true → read_as make u2 at bs ≡ Ok (e, to, rest) → Tail e tag at bs to rest
index_tail make known spells tag at bs e to rest b is r =
    let m = made make u2 at bs e to rest r in
    record { tail = big_bytes 2 m.value; spelled = ap constant_bytes m.is ∙ spells m.value ∙ tagged tag known (big_bytes 2 m.value) is; took = (number_told 2 at bs m.value to rest b m.read).0 }

two_tail : (make : ℕ → ℕ → Constant) (known : ℕ) → ((m n : ℕ) → constant_bytes (make m n) ≡ big_bytes 1 known ++ (big_bytes 2 m ++ big_bytes 2 n))
    → (tag at : ℕ) (bs : List ℕ) (e : Constant) (to : ℕ) (rest : List ℕ) → AreBytes bs → nat_eq tag known ≡ true → then_read u2 (λ m. read_as (make m) u2) at bs ≡ Ok (e, to, rest) → Tail e tag at bs to rest
two_tail make known spells tag at bs e to rest b is r =
    let h = chained (u2 at bs) (λ m. read_as (make m) u2) (e, to, rest) r in
    let one = (number_told 2 at bs h.value h.at h.rest b h.first).0 in
    let m = made (make h.value) u2 h.at h.rest e to rest h.second in
    let other = (number_told 2 h.at h.rest m.value to rest one.bytes m.read).0 in
    record {
      tail = big_bytes 2 h.value ++ big_bytes 2 m.value;
      spelled = ap constant_bytes m.is ∙ spells h.value m.value ∙ tagged tag known (big_bytes 2 h.value ++ big_bytes 2 m.value) is;
      took = took_both at bs (big_bytes 2 h.value) h.at h.rest (big_bytes 2 m.value) to rest one other;
    }

integer_tail : (tag at : ℕ) (bs : List ℕ) (e : Constant) (to : ℕ) (rest : List ℕ) → AreBytes bs → nat_eq tag 3 ≡ true → read_as c.Integer s4 at bs ≡ Ok (e, to, rest) → Tail e tag at bs to rest
integer_tail tag at bs e to rest b is r =
    let m = made c.Integer s4 at bs e to rest r in
    record { tail = big_bytes 4 (cast_unsigned w32 m.value); spelled = ap constant_bytes m.is ∙ tagged tag 3 (big_bytes 4 (cast_unsigned w32 m.value)) is; took = s4_told at bs m.value to rest b m.read }

long_tail : (left tag at : ℕ) (bs : List ℕ) (e : Constant) (to : ℕ) (rest : List ℕ) → AreBytes bs → nat_eq tag 5 ≡ true → long left at bs ≡ Ok (e, to, rest) → Tail e tag at bs to rest
long_tail zero tag at bs e to rest b is r = absurd cc
long_tail (suc n) tag at bs e to rest b is r =
    let m = made c.Long s8 at bs e to rest r in
    record { tail = big_bytes 8 (cast_unsigned w64 m.value); spelled = ap constant_bytes m.is ∙ tagged tag 5 (big_bytes 8 (cast_unsigned w64 m.value)) is; took = s8_told at bs m.value to rest b m.read }

utf8_tail : (tag at : ℕ) (bs : List ℕ) (e : Constant) (to : ℕ) (rest : List ℕ) → AreBytes bs → nat_eq tag 1 ≡ true → modified_text at bs ≡ Ok (e, to, rest) → Tail e tag at bs to rest
utf8_tail tag at bs e to rest b is r =
    let test = λ (bs : List ℕ). broken_unless (is_modified_utf8 bs) in
    let h = chained (u2 at bs) (λ n. read_as c.Utf8 (field (bytes n) test)) (e, to, rest) r in
    let one = (number_told 2 at bs h.value h.at h.rest b h.first).0 in
    let m = made c.Utf8 (field (bytes h.value) test) h.at h.rest e to rest h.second in
    let t = bytes_told h.value h.at h.rest m.value to rest one.bytes (field_told (bytes h.value) test h.at h.rest m.value to rest m.read).0 in
    let size : big_bytes 2 h.value ≡ big_bytes 2 (length m.value) = ap (big_bytes 2) (sym t.1) in
    record {
      tail = big_bytes 2 (length m.value) ++ m.value;
      spelled = ap constant_bytes m.is ∙ tagged tag 1 (big_bytes 2 (length m.value) ++ m.value) is;
      took = took_both at bs (big_bytes 2 (length m.value)) h.at h.rest m.value to rest (took_as at bs (big_bytes 2 h.value) (big_bytes 2 (length m.value)) h.at h.rest size one) t.0;
    }

none_tail : (tag at : ℕ) (bs : List ℕ) (e : Constant) (to : ℕ) (rest : List ℕ) → other tag at bs ≡ Ok (e, to, rest) → Tail e tag at bs to rest
none_tail tag at bs e to rest r = chosen (is_other_tag tag) outside broken at bs (Tail e tag at bs to rest) (Ok (e, to, rest)) r (λ _ r. absurd cc) (λ _ r. absurd cc)

constant_told : (left tag at : ℕ) (bs : List ℕ) (e : Constant) (to : ℕ) (rest : List ℕ) → AreBytes bs → constant left tag at bs ≡ Ok (e, to, rest) → Tail e tag at bs to rest
constant_told left tag at bs e to rest b r =
    let P = Tail e tag at bs to rest in
    let z : Got Constant = Ok (e, to, rest) in
    chosen (nat_eq tag 1) modified_text _ at bs P z r (utf8_tail tag at bs e to rest b) (λ _ r.
    chosen (nat_eq tag 3) (read_as c.Integer s4) _ at bs P z r (integer_tail tag at bs e to rest b) (λ _ r.
    chosen (nat_eq tag 5) (long left) _ at bs P z r (long_tail left tag at bs e to rest b) (λ _ r.
    chosen (nat_eq tag 7) (read_as c.Class u2) _ at bs P z r (index_tail c.Class 7 (λ n. refl) tag at bs e to rest b) (λ _ r.
    chosen (nat_eq tag 8) (read_as c.Str u2) _ at bs P z r (index_tail c.Str 8 (λ n. refl) tag at bs e to rest b) (λ _ r.
    chosen (nat_eq tag 10) methodref _ at bs P z r (two_tail c.Methodref 10 (λ m n. refl) tag at bs e to rest b) (λ _ r.
    chosen (nat_eq tag 12) name_and_type _ at bs P z r (two_tail c.NameAndType 12 (λ m n. refl) tag at bs e to rest b) (λ _ r. none_tail tag at bs e to rest r)))))))

pub entry_told : (left at : ℕ) (bs : List ℕ) (e : Constant) (to : ℕ) (rest : List ℕ) → AreBytes bs → entry left at bs ≡ Ok (e, to, rest) → Took at bs (constant_bytes e) to rest
entry_told left at bs e to rest b r =
    let h = chained (u1 at bs) (constant left) (e, to, rest) (item_told (then_read u1 (constant left)) at bs (e, to, rest) r) in
    let one = (number_told 1 at bs h.value h.at h.rest b h.first).0 in
    let t = constant_told left h.value h.at h.rest e to rest one.bytes h.second in
    took_as at bs (big_bytes 1 h.value ++ t.tail) (constant_bytes e) to rest (sym t.spelled) (took_both at bs (big_bytes 1 h.value) h.at h.rest t.tail to rest one t.took)

next_told : (due : Bool) (left at : ℕ) (bs : List ℕ) (e : Constant) (to : ℕ) (rest : List ℕ) → AreBytes bs → next_entry due left at bs ≡ Ok (e, to, rest) → Took at bs (constant_bytes e) to rest
next_told false left at bs e to rest b r = entry_told left at bs e to rest b r
next_told true left at bs e to rest b r =
    let s = same_got r in took_as at bs [] (constant_bytes e) to rest (ap constant_bytes s.0) (took_nothing at bs to rest b s.1 s.2)

pub entries_told : (due : Bool) (n at : ℕ) (bs : List ℕ) (es : List Constant) (to : ℕ) (rest : List ℕ) → AreBytes bs → entries due n at bs ≡ Ok (es, to, rest)
    → Took at bs (flat_map constant_bytes es) to rest × (length es ≡ n)
entries_told due zero at bs es to rest b r =
    let s = same_got r in (took_as at bs [] (flat_map constant_bytes es) to rest (ap (flat_map constant_bytes) s.0) (took_nothing at bs to rest b s.1 s.2), ap length (sym s.0))
entries_told due (suc n) at bs es to rest b r =
    let h = chained (next_entry due n at bs) (λ e. read_as (λ es. e ∷ es) (entries (is_long e) n)) (es, to, rest) r in
    let one = next_told due n at bs h.value h.at h.rest b h.first in
    let m = made (λ es. h.value ∷ es) (entries (is_long h.value) n) h.at h.rest es to rest h.second in
    let t = entries_told (is_long h.value) n h.at h.rest m.value to rest one.bytes m.read in (
      took_as at bs (constant_bytes h.value ++ flat_map constant_bytes m.value) (flat_map constant_bytes es) to rest (ap (flat_map constant_bytes) (sym m.is))
          (took_both at bs (constant_bytes h.value) h.at h.rest (flat_map constant_bytes m.value) to rest one t.0),
      ap length m.is ∙ ap suc t.1,
    )

referred_told : (at : ℕ) (g : Got (List Constant)) (p : List Constant × ℕ × List ℕ) → referred at g ≡ Ok p → g ≡ Ok p
referred_told at (Ok q) p e = go (first_wrong q.0 at q.0) e
  where
    go : (o : Option ℕ) → unless_wrong o q ≡ Ok p → Path (Got (List Constant)) (Ok q) (Ok p)
    go None e = e
    go (Some bad) e = absurd cc
referred_told at (Err _) p e = absurd cc

pub pool_told : (at : ℕ) (bs : List ℕ) (es : List Constant) (to : ℕ) (rest : List ℕ) → AreBytes bs → constant_pool at bs ≡ Ok (es, to, rest)
    → Took at bs (big_bytes 2 (length es) ++ flat_map constant_bytes es) to rest
pool_told at bs es to rest b r =
    let test = λ (n : ℕ). broken_unless (not (nat_eq n 0)) in
    let h = chained (field u2 test at bs) indexed (es, to, rest) r in
    let one = (number_told 2 at bs h.value h.at h.rest b (field_told u2 test at bs h.value h.at h.rest h.first).0).0 in
    let t = entries_told true h.value h.at h.rest es to rest one.bytes (referred_told h.at (entries true h.value h.at h.rest) (es, to, rest) h.second) in
    took_as at bs (big_bytes 2 h.value ++ flat_map constant_bytes es) (big_bytes 2 (length es) ++ flat_map constant_bytes es) to rest
    (ap (λ n. big_bytes 2 n ++ flat_map constant_bytes es) (sym t.1))
    (took_both at bs (big_bytes 2 h.value) h.at h.rest (flat_map constant_bytes es) to rest one t.0)
