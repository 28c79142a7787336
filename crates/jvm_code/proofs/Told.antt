-- What is read tells the bytes that were read.
use Rattle.std.proofs.Common.{◌≡◌, ℕ, zero, suc, ◌+◌, ◌<◌, ◌≤◌, ◌^◌, nat_le, nat_eq, Bool, true, false, if◌then◌else◌, ℤ, List, [], ◌∷◌, ◌++◌, length, take, drop, slice_index, Ok, Err, refl, sym, ap, ◌∙◌, subst, append_assoc, length-append, arith}
use Rattle.std.proofs.lemmas.Bool.{leb-true, eqb-true}
use Rattle.std.proofs.lemmas.List.{length-take-le, take-append-drop}
use Rattle.std.proofs.lemmas.Int.{of_z-to_z}
use Rattle.std.specs.Int.{Width, cast_signed, cast_unsigned, w8, w16, w32, w64}
use Rattle.byteorder.specs.Endian.{big_number, big_bytes}
use Rattle.byteorder.specs.Numbers.{big_from-lt, big_from-take}
use Rattle.ej_tables.specs.Bytes.{AreBytes, Unread}
use Rattle.ej_tables.proofs.BytesLaw.{number_taken}
use Rattle.jvm_code.specs.Fault.{NotClass}
use Rattle.jvm_code.specs.Reader.{Got, Reader, done, read_as, got_at, item, bytes, number, Verdict, Fine, Broken, Forbidden, settled, judged, field, broken_unless, forbidden_unless}
use Rattle.jvm_code.proofs.Moves.{same_got, chained}

-- the front of the bytes was read, up to that offset, and these are left
pub record Took (at : ℕ) (bs front : List ℕ) (to : ℕ) (rest : List ℕ) : Type 0 where
  pub is : bs ≡ front ++ rest
  pub to_is : to ≡ at + length front
  pub bytes : AreBytes rest

pub behind_bytes : (xs ys : List ℕ) → AreBytes (xs ++ ys) → AreBytes ys
behind_bytes [] ys h = h
behind_bytes (x ∷ xs) ys h = behind_bytes xs ys (λ k. h (suc k))

pub front_bytes : (xs ys : List ℕ) → AreBytes (xs ++ ys) → (k : ℕ) → slice_index xs k < 256
front_bytes [] ys h k = omega arith
front_bytes (x ∷ xs) ys h zero = h zero
front_bytes (x ∷ xs) ys h (suc k) = front_bytes xs ys (λ k. h (suc k)) k

pub took_nothing : (at : ℕ) (bs : List ℕ) (to : ℕ) (rest : List ℕ) → AreBytes bs → at ≡ to → bs ≡ rest → Took at bs [] to rest
took_nothing at bs to rest b t r = record { is = r; to_is = omega (arith, t); bytes = subst AreBytes r b }

pub took_both : (at : ℕ) (bs one : List ℕ) (mid : ℕ) (left other : List ℕ) (to : ℕ) (rest : List ℕ) → Took at bs one mid left → Took mid left other to rest → Took at bs (one ++ other) to rest
took_both at bs one mid left other to rest p q = record {
  is = p.is ∙ ap (λ l. one ++ l) q.is ∙ sym (append_assoc one other rest);
  to_is = omega (arith, p.to_is, q.to_is, length-append one other);
  bytes = q.bytes;
}

pub took_as : (at : ℕ) (bs one other : List ℕ) (to : ℕ) (rest : List ℕ) → one ≡ other → Took at bs one to rest → Took at bs other to rest
took_as at bs one other to rest e t = subst (λ l. Took at bs l to rest) e t

module _ {A : Type 0} (value : List ℕ → A) (n at : ℕ) (bs : List ℕ) (x : A) (to : ℕ) (rest : List ℕ) where
  abbrev part : Bool → Got A
  part c = if c then Ok (value bs, at + n, drop n bs) else Err (NotClass at)

  part_told : (c : Bool) → nat_le n (length bs) ≡ c → part c ≡ Ok (x, to, rest) → (n ≤ length bs) × (value bs ≡ x) × (to ≡ at + n) × (rest ≡ drop n bs)
  part_told true h e = let s = same_got e in (leb-true n (length bs) h, s.0, sym s.1, sym s.2)
  part_told false h e = absurd cc

took_front : (n at : ℕ) (bs : List ℕ) (to : ℕ) (rest : List ℕ) → AreBytes bs → n ≤ length bs → to ≡ at + n → rest ≡ drop n bs → Took at bs (take n bs) to rest
took_front n at bs to rest b l t r = record {
  is = sym (take-append-drop n bs) ∙ ap (λ d. take n bs ++ d) (sym r);
  to_is = omega (arith, t, length-take-le n bs l);
  bytes = subst AreBytes (sym r) (behind_bytes (take n bs) (drop n bs) (subst AreBytes (sym (take-append-drop n bs)) b));
}

drop_none : (bs : List ℕ) → drop 0 bs ≡ bs
drop_none [] = refl
drop_none (b ∷ bs) = refl

pub number_told : (n at : ℕ) (bs : List ℕ) (x to : ℕ) (rest : List ℕ) → AreBytes bs → number n at bs ≡ Ok (x, to, rest) → Took at bs (big_bytes n x) to rest × (x < 256 ^ n)
number_told n at bs x to rest b e =
    let p = part_told (λ bs. big_number n bs) n at bs x to rest (nat_le n (length bs)) refl e in
    let old : Unread = record { bytes = bs; place = 0 } in
    let new : Unread = record { bytes = bs; place = 0 + n } in
    let front = front_bytes (take n bs) (drop n bs) (subst AreBytes (sym (take-append-drop n bs)) b) in
    let taken = number_taken n old new (take n bs) (big_number n (take n bs)) (record { enough = omega (arith, p.0); moved = refl }) (ap (take n) (sym (drop_none bs))) front refl in (
      took_as at bs (take n bs) (big_bytes n x) to rest (sym (ap (big_bytes n) (sym p.1 ∙ same_number n bs p.0) ∙ taken.2 ∙ ap (take n) (drop_none bs))) (took_front n at bs to rest b p.0 p.2 p.3),
      subst (λ x. x < 256 ^ n) p.1 (big_from-lt 0 n bs b),
    )
  where
    same_number : (n : ℕ) (bs : List ℕ) → n ≤ length bs → big_number n bs ≡ big_number n (take n bs)
    same_number n bs l = sym (big_from-take 0 n n bs (omega arith))

pub bytes_told : (n at : ℕ) (bs x : List ℕ) (to : ℕ) (rest : List ℕ) → AreBytes bs → bytes n at bs ≡ Ok (x, to, rest) → Took at bs x to rest × (length x ≡ n)
bytes_told n at bs x to rest b e =
    let p = part_told (λ bs. take n bs) n at bs x to rest (nat_le n (length bs)) refl e in
    (took_as at bs (take n bs) x to rest p.1 (took_front n at bs to rest b p.0 p.2 p.3), ap length (sym p.1) ∙ length-take-le n bs p.0)

pub record Made {A B : Type 0} (make : A → B) (r : Reader A) (at : ℕ) (bs : List ℕ) (y : B) (to : ℕ) (rest : List ℕ) : Type 0 where
  pub value : A
  pub read : r at bs ≡ Ok (value, to, rest)
  pub is : y ≡ make value

pub made : {A B : Type 0} (make : A → B) (r : Reader A) (at : ℕ) (bs : List ℕ) (y : B) (to : ℕ) (rest : List ℕ) → read_as make r at bs ≡ Ok (y, to, rest) → Made make r at bs y to rest
made make r at bs y to rest e =
    let c = chained (r at bs) (λ x. done (make x)) (y, to, rest) e in
    let s = same_got c.second in
    record { value = c.value; read = c.first ∙ ap (λ t. Ok (c.value, t, c.rest)) s.1 ∙ ap (λ l. Ok (c.value, to, l)) s.2; is = sym s.0 }

pub record Signed (w : Width) (n at : ℕ) (bs : List ℕ) (z : ℤ) (to : ℕ) (rest : List ℕ) : Type 0 where
  pub took : Took at bs (big_bytes n (cast_unsigned w z)) to rest

signed_told : (w : Width) (n : ℕ) → ((m : ℕ) → m < 256 ^ n → cast_unsigned w (cast_signed w m) ≡ m) → (at : ℕ) (bs : List ℕ) (z : ℤ) (to : ℕ) (rest : List ℕ) → AreBytes bs
    → read_as (cast_signed w) (number n) at bs ≡ Ok (z, to, rest) → Took at bs (big_bytes n (cast_unsigned w z)) to rest
signed_told w n back at bs z to rest b e =
    let m = made (cast_signed w) (number n) at bs z to rest e in
    let t = number_told n at bs m.value to rest b m.read in
    took_as at bs (big_bytes n m.value) (big_bytes n (cast_unsigned w z)) to rest (ap (big_bytes n) (sym (ap (cast_unsigned w) m.is ∙ back m.value t.1))) t.0

pub s1_told : (at : ℕ) (bs : List ℕ) (z : ℤ) (to : ℕ) (rest : List ℕ) → AreBytes bs → read_as (cast_signed w8) (number 1) at bs ≡ Ok (z, to, rest) → Took at bs (big_bytes 1 (cast_unsigned w8 z)) to rest
s1_told = signed_told w8 1 (λ m l. of_z-to_z w8 m l)

pub s2_told : (at : ℕ) (bs : List ℕ) (z : ℤ) (to : ℕ) (rest : List ℕ) → AreBytes bs → read_as (cast_signed w16) (number 2) at bs ≡ Ok (z, to, rest) → Took at bs (big_bytes 2 (cast_unsigned w16 z)) to rest
s2_told = signed_told w16 2 (λ m l. of_z-to_z w16 m l)

pub s4_told : (at : ℕ) (bs : List ℕ) (z : ℤ) (to : ℕ) (rest : List ℕ) → AreBytes bs → read_as (cast_signed w32) (number 4) at bs ≡ Ok (z, to, rest) → Took at bs (big_bytes 4 (cast_unsigned w32 z)) to rest
s4_told = signed_told w32 4 (λ m l. of_z-to_z w32 m l)

pub s8_told : (at : ℕ) (bs : List ℕ) (z : ℤ) (to : ℕ) (rest : List ℕ) → AreBytes bs → read_as (cast_signed w64) (number 8) at bs ≡ Ok (z, to, rest) → Took at bs (big_bytes 8 (cast_unsigned w64 z)) to rest
s8_told = signed_told w64 8 (λ m l. of_z-to_z w64 m l)

settled_told : {A : Type 0} (v : Verdict) (at : ℕ) (p q : A × ℕ × List ℕ) → settled v at p ≡ Ok q → (Path (Got A) (Ok p) (Ok q)) × (v ≡ Fine)
settled_told Fine at p q e = (e, refl)
settled_told Broken at p q e = absurd cc
settled_told Forbidden at p q e = absurd cc

-- what is in a field was read, and is fine
pub field_told : {A : Type 0} (r : Reader A) (judge : A → Verdict) (at : ℕ) (bs : List ℕ) (x : A) (to : ℕ) (rest : List ℕ) → field r judge at bs ≡ Ok (x, to, rest)
    → (r at bs ≡ Ok (x, to, rest)) × (judge x ≡ Fine)
field_told {A} r judge at bs x to rest e = go (r at bs) e
  where
    go : (g : Got A) → judged judge at g ≡ Ok (x, to, rest) → (g ≡ Ok (x, to, rest)) × (judge x ≡ Fine)
    go (Ok p) e = let s = settled_told (judge p.0) at p (x, to, rest) e in (s.0, ap judge (sym (same_got s.0).0) ∙ s.1)
    go (Err _) e = absurd cc

pub item_told : {A : Type 0} (r : Reader A) (at : ℕ) (bs : List ℕ) (p : A × ℕ × List ℕ) → item r at bs ≡ Ok p → r at bs ≡ Ok p
item_told {A} r at bs p e = go (r at bs) e
  where
    go : (g : Got A) → got_at at g ≡ Ok p → g ≡ Ok p
    go (Ok q) e = e
    go (Err _) e = absurd cc

-- one of two readers was it
pub chosen : {A : Type 0} (c : Bool) (r s : Reader A) (at : ℕ) (bs : List ℕ) (P : Type 0) (z : Got A) → (if c then r else s) at bs ≡ z
    → (c ≡ true → r at bs ≡ z → P) → (c ≡ false → s at bs ≡ z → P) → P
chosen true r s at bs P z e f g = f refl e
chosen false r s at bs P z e f g = g refl e

allowed : (c : Bool) → forbidden_unless c ≡ Fine → c ≡ true
allowed true e = refl
allowed false e = absurd cc

-- a number that has to be this one
pub fine_eq : (n known : ℕ) → forbidden_unless (nat_eq n known) ≡ Fine → n ≡ known
fine_eq n known e = eqb-true n known (allowed (nat_eq n known) e)

pub fine_le : (n most : ℕ) → forbidden_unless (nat_le n most) ≡ Fine → n ≤ most
fine_le n most e = leb-true n most (allowed (nat_le n most) e)

pub sound : (c : Bool) → broken_unless c ≡ Fine → c ≡ true
sound true e = refl
sound false e = absurd cc
