-- What is read tells the bytes that were read, and is read from them.
use Rattle.std.proofs.Common.{◌≡◌, ℕ, suc, ◌+◌, ◌<◌, ◌≤◌, ◌^◌, nat_le, Bool, true, false, if◌then◌else◌, List, [], ◌++◌, length, drop, None, Some, refl, sym, ap, ◌∙◌, subst, append_assoc, arith, Ok, Err}
use Rattle.std.proofs.lemmas.Bool.Decides.{nat_tests}
use Rattle.byteorder.specs.Endian.{big_number, big_bytes}
use Rattle.byteorder.specs.Numbers.{big_number-reads_back}
use Rattle.ej_tables.specs.Bytes.{AreBytes}
use Rattle.jvm_code.specs.Fault.{NotClass}
use Rattle.jvm_code.specs.Reader as reader
use Rattle.jvm_code.proofs.Told as told
use Rattle.stack_maps.specs.Read.{Got, Reader, go_on, number}

-- one more of so many
pub next : (k n : ℕ) → k ≡ n → suc k ≡ suc n
next k n e = ap suc e

-- the front of the bytes was read, and these are left
pub record Took (bs front rest : List ℕ) : Type 0 where
  pub is : bs ≡ front ++ rest
  pub bytes : AreBytes rest

pub took_nothing : (bs rest : List ℕ) → AreBytes bs → bs ≡ rest → Took bs [] rest
took_nothing bs rest b e = record { is = e; bytes = subst AreBytes e b }

pub took_both : (bs one left other rest : List ℕ) → Took bs one left → Took left other rest → Took bs (one ++ other) rest
took_both bs one left other rest p q = record { is = p.is ∙ ap (λ l. one ++ l) q.is ∙ sym (append_assoc one other rest); bytes = q.bytes }

pub took_as : (bs one other rest : List ℕ) → one ≡ other → Took bs one rest → Took bs other rest
took_as bs one other rest e t = subst (λ l. Took bs l rest) e t

abbrev got_or : {A : Type 0} → A × List ℕ → Got A → A × List ℕ
got_or p (Some q) = q
got_or p None = p

pub same_got : {A : Type 0} {x y : A} {r s : List ℕ} → Path (Got A) (Some (x, r)) (Some (y, s)) → (x ≡ y) × (r ≡ s)
same_got {A} {x} {y} {r} {s} e = (ap (λ o. (got_or (x, r) o).0) e, ap (λ o. (got_or (x, r) o).1) e)

pub record Chained {A B : Type 0} (o : Got A) (f : A → Reader B) (z : Got B) : Type 0 where
  pub value : A
  pub rest : List ℕ
  pub first : o ≡ Some (value, rest)
  pub second : f value rest ≡ z

pub chained : {A B : Type 0} (o : Got A) (f : A → Reader B) (z : B × List ℕ) → go_on o f ≡ Some z → Chained o f (Some z)
chained (Some p) f z e = record { value = p.0; rest = p.1; first = refl; second = e }
chained None f z e = absurd cc

-- one of two readers was it
pub chosen : {A : Type 0} (c : Bool) (r s : Reader A) (bs : List ℕ) (P : Type 0) (z : Got A) → (if c then r else s) bs ≡ z
    → (c ≡ true → r bs ≡ z → P) → (c ≡ false → s bs ≡ z → P) → P
chosen true r s bs P z e f g = f refl e
chosen false r s bs P z e f g = g refl e

-- the same number by a reader with offsets
abbrev here : ℕ → List ℕ → Bool → Got ℕ
here n bs c = if c then Some (big_number n bs, drop n bs) else None

abbrev there : ℕ → List ℕ → Bool → reader.Got ℕ
there n bs c = if c then Ok (big_number n bs, 0 + n, drop n bs) else Err (NotClass 0)

abbrev joined : ℕ → ℕ × List ℕ → reader.Got ℕ
joined n p = Ok (p.0, 0 + n, p.1)

with_offset : (n : ℕ) (bs : List ℕ) (x : ℕ) (rest : List ℕ) → number n bs ≡ Some (x, rest) → reader.number n 0 bs ≡ Ok (x, 0 + n, rest)
with_offset n bs x rest e = go (nat_le n (length bs)) refl e
  where
    go : (c : Bool) → nat_le n (length bs) ≡ c → here n bs c ≡ Some (x, rest) → there n bs c ≡ joined n (x, rest)
    go true h e = ap (λ g. joined n (got_or (x, rest) g)) e
    go false h e = absurd cc

pub number_told : (n : ℕ) (bs : List ℕ) (x : ℕ) (rest : List ℕ) → AreBytes bs → number n bs ≡ Some (x, rest) → Took bs (big_bytes n x) rest × (x < 256 ^ n)
number_told n bs x rest b e =
    let t = told.number_told n 0 bs x (0 + n) rest b (with_offset n bs x rest e) in
    (record { is = t.0.is; bytes = t.0.bytes }, t.1)

part_back : (n : ℕ) (bs rest : List ℕ) (x : ℕ) → n ≤ length bs → big_number n bs ≡ x → drop n bs ≡ rest → number n bs ≡ Some (x, rest)
part_back n bs rest x l e d =
    let c : nat_le n (length bs) ≡ true = grind (arith, nat_tests) in
    ap (λ c. if c then Some (big_number n bs, drop n bs) else None) c ∙ ap (λ x. Some (x, drop n bs)) e ∙ ap (λ r. Some (x, r)) d

pub u1_back : (x : ℕ) (rest : List ℕ) → x < 256 → number 1 (big_bytes 1 x ++ rest) ≡ Some (x, rest)
u1_back x rest l = part_back 1 (big_bytes 1 x ++ rest) rest x (omega arith) (big_number-reads_back 1 x rest l) refl

pub u2_back : (x : ℕ) (rest : List ℕ) → x < 2 ^ 16 → number 2 (big_bytes 2 x ++ rest) ≡ Some (x, rest)
u2_back x rest l = part_back 2 (big_bytes 2 x ++ rest) rest x (omega arith) (big_number-reads_back 2 x rest l) refl
