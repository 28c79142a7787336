-- Forms that are read are those that are spelled.
use Rattle.std.proofs.Common.{◌≡◌, ℕ, ◌+◌, ◌-◌, ◌<◌, ◌≤◌, ◌^◌, nat_eq, nat_le, nat_lt, Bool, true, false, if◌then◌else◌, List, [], ◌∷◌, ◌++◌, length, take, Option, None, Some, refl, sym, ap, ◌∙◌, subst, append_assoc, append-nil, arith}
use Rattle.std.proofs.lemmas.Bool.{eqb-true, leb-true}
use Rattle.std.proofs.lemmas.Bool.Decides.{nat_tests}
use Rattle.std.specs.List.{AllByRecursion}
use Rattle.byteorder.specs.Endian.{big_bytes}
use Rattle.ej_tables.specs.Bytes.{AreBytes}
use Rattle.jvm_code.specs.declared.class.Constant.{Constant}
use Rattle.jvm_code.specs.declared.types.Frame.{Frame}
use Rattle.jvm_code.specs.declared.types.VType.{VType}
use Rattle.jvm_code.specs.StackMaps as maps
use Rattle.jvm_code.specs.StackMaps.{Form, Same, SameOne, SameOneExtended, Chop, SameExtended, Append, Full, form_bytes, IsForm, After, delta_of, info_bytes, infos_bytes, IsInfo, AreTypes}
use Rattle.stack_maps.specs.Read.{Got, done, bad, then_read, u1, u2, vtypes, counted, same, one, chop, append, full, wide, form}
use Rattle.stack_maps.proofs.Taken.{Took, took_both, took_as, same_got, chained, chosen, number_told}
use Rattle.stack_maps.proofs.TypesLaw.{TypesTook, types_told, counted_told}

-- a form that gives a delta and a frame
pub record FormTook (pool : List Constant) (before : Frame) (bs : List ℕ) (p : ℕ × Frame) (rest : List ℕ) : Type 0 where
  pub shape : Form
  pub fits : IsForm shape
  pub delta : p.0 ≡ delta_of shape
  pub after : After pool before shape p.1
  pub took : Took bs (form_bytes shape) rest

below : (n m : ℕ) → nat_lt n m ≡ true → n < m
below n m e = grind (arith, nat_tests)

from : (n m : ℕ) → nat_lt n m ≡ false → m ≤ n
from n m e = grind (arith, nat_tests)

other : (n m : ℕ) → nat_eq n m ≡ false → n ≡ m → ⊥
other n m e h = grind (arith, nat_tests)

nothing : {A : Type 0} {x : A} → Path (Option A) None (Some x) → ⊥
nothing e = absurd cc

-- one type, by its list
record OneTook (pool : List Constant) (bs : List ℕ) (types : List VType) (rest : List ℕ) : Type 0 where
  info : maps.TypeInfo
  fits : IsInfo info
  are : AreTypes pool (info ∷ []) types
  took : Took bs (info_bytes info) rest

one_type : (pool : List Constant) (bs : List ℕ) (types : List VType) (rest : List ℕ) → TypesTook pool 1 bs types rest → OneTook pool bs types rest
one_type pool bs types rest t = go t.infos t.counted t.fits t.are t.took
  where
    go : (infos : List maps.TypeInfo) → length infos ≡ 1 → AllByRecursion IsInfo infos → AreTypes pool infos types → Took bs (infos_bytes infos) rest → OneTook pool bs types rest
    go [] l f a k = absurd (omega (arith, l))
    go (i ∷ []) l f a k = record { info = i; fits = f.0; are = a; took = took_as bs (infos_bytes (i ∷ [])) (info_bytes i) rest (append-nil (info_bytes i)) k }
    go (i ∷ j ∷ is) l f a k = absurd (omega (arith, l))

full_spelled : (delta : ℕ) (locals stack : List maps.TypeInfo)
    → (big_bytes 1 255 ++ big_bytes 2 delta) ++ ((big_bytes 2 (length locals) ++ infos_bytes locals) ++ (big_bytes 2 (length stack) ++ infos_bytes stack)) ≡ form_bytes (Full delta locals stack)
full_spelled delta locals stack = ap (λ t. (big_bytes 1 255 ++ big_bytes 2 delta) ++ t) (append_assoc (big_bytes 2 (length locals)) (infos_bytes locals) (big_bytes 2 (length stack) ++ infos_bytes stack))

append_spelled : (tag delta : ℕ) (locals : List maps.TypeInfo) → tag ≡ 251 + length locals → (big_bytes 1 tag ++ big_bytes 2 delta) ++ infos_bytes locals ≡ form_bytes (Append delta locals)
append_spelled tag delta locals e = append_assoc (big_bytes 1 tag) (big_bytes 2 delta) (infos_bytes locals) ∙ ap (λ n. big_bytes 1 n ++ (big_bytes 2 delta ++ infos_bytes locals)) e

module _ (pool : List Constant) (before : Frame) (bs : List ℕ) (p : ℕ × Frame) (rest : List ℕ) where
  abbrev Told : Type 0
  Told = FormTook pool before bs p rest

  same_told : (shape : Form) (delta : ℕ) (front left : List ℕ) → ((frame : Frame) → (frame.locals ≡ before.locals) × (frame.stack ≡ []) → After pool before shape frame) → IsForm shape → delta ≡ delta_of shape
      → front ≡ form_bytes shape → Took bs front left → same before.locals delta left ≡ Some (p, rest) → Told
  same_told shape delta front left a f d s t e =
      let g = same_got e in
      record {
        shape = shape;
        fits = f;
        delta = sym (ap (λ p. p.0) g.0) ∙ d;
        after = a p.1 (ap (λ p. p.1.locals) (sym g.0), ap (λ p. p.1.stack) (sym g.0));
        took = subst (λ r. Took bs (form_bytes shape) r) g.1 (took_as bs front (form_bytes shape) left s t);
      }

  one_told : (make : maps.TypeInfo → Form) (delta : ℕ) (front left : List ℕ)
      → ((i : maps.TypeInfo) → IsInfo i → IsForm (make i)) → ((i : maps.TypeInfo) → delta ≡ delta_of (make i)) → ((i : maps.TypeInfo) → front ++ info_bytes i ≡ form_bytes (make i))
      → ((i : maps.TypeInfo) (frame : Frame) → (frame.locals ≡ before.locals) × AreTypes pool (i ∷ []) frame.stack → After pool before (make i) frame)
      → Took bs front left → one pool before.locals delta left ≡ Some (p, rest) → Told
  one_told make delta front left f d s a t e =
      let h = chained (vtypes pool 1 left) (λ stack. done (delta, record { locals = before.locals; stack = stack })) (p, rest) e in
      let g = same_got h.second in
      let o = one_type pool left h.value h.rest (types_told pool 1 left h.value h.rest t.bytes h.first) in
      record {
        shape = make o.info;
        fits = f o.info o.fits;
        delta = sym (ap (λ p. p.0) g.0) ∙ d o.info;
        after = a o.info p.1 (ap (λ p. p.1.locals) (sym g.0), subst (AreTypes pool (o.info ∷ [])) (ap (λ p. p.1.stack) g.0) o.are);
        took = took_as bs (front ++ info_bytes o.info) (form_bytes (make o.info)) rest (s o.info) (took_both bs front left (info_bytes o.info) rest t (subst (λ r. Took left (info_bytes o.info) r) g.1 o.took));
      }

  chop_told : (tag delta : ℕ) (left : List ℕ) → 248 ≤ tag → tag < 251 → delta < 2 ^ 16 → Took bs (big_bytes 1 tag ++ big_bytes 2 delta) left → chop before.locals (251 - tag) delta left ≡ Some (p, rest) → Told
  chop_told tag delta left l h d t e = go (nat_le (251 - tag) (length before.locals)) refl e
    where
      go : (c : Bool) → nat_le (251 - tag) (length before.locals) ≡ c
          → (if c then done (delta, record { locals = take (length before.locals - (251 - tag)) before.locals; stack = [] }) else bad) left ≡ Some (p, rest) → Told
      go true c e =
          let g = same_got e in
          record {
            shape = Chop (251 - tag) delta;
            fits = (omega (arith, h), omega (arith, l), d);
            delta = sym (ap (λ p. p.0) g.0);
            after = (leb-true (251 - tag) (length before.locals) c, ap (λ p. p.1.locals) (sym g.0), ap (λ p. p.1.stack) (sym g.0));
            took = subst (λ r. Took bs (form_bytes (Chop (251 - tag) delta)) r) g.1 (took_as bs (big_bytes 1 tag ++ big_bytes 2 delta) (form_bytes (Chop (251 - tag) delta)) left (ap (λ n. big_bytes 1 n ++ big_bytes 2 delta) (omega (arith, h))) t);
          }
      go false c e = absurd (nothing e)

  append_told : (tag delta : ℕ) (left : List ℕ) → 252 ≤ tag → tag < 255 → delta < 2 ^ 16 → Took bs (big_bytes 1 tag ++ big_bytes 2 delta) left → append pool before.locals (tag - 251) delta left ≡ Some (p, rest) → Told
  append_told tag delta left l h d t e =
      let k = chained (vtypes pool (tag - 251) left) (λ more. done (delta, record { locals = before.locals ++ more; stack = [] })) (p, rest) e in
      let g = same_got k.second in
      let o = types_told pool (tag - 251) left k.value k.rest t.bytes k.first in
      record {
        shape = Append delta o.infos;
        fits = (omega (arith, l, o.counted), omega (arith, h, o.counted), d, o.fits);
        delta = sym (ap (λ p. p.0) g.0);
        after = (record { types = k.value; more = o.are; is = ap (λ p. p.1.locals) (sym g.0) }, ap (λ p. p.1.stack) (sym g.0));
        took = took_as bs ((big_bytes 1 tag ++ big_bytes 2 delta) ++ infos_bytes o.infos) (form_bytes (Append delta o.infos)) rest
            (append_spelled tag delta o.infos (omega (arith, l, o.counted)))
            (took_both bs (big_bytes 1 tag ++ big_bytes 2 delta) left (infos_bytes o.infos) rest t (subst (λ r. Took left (infos_bytes o.infos) r) g.1 o.took));
      }

  full_told : (delta : ℕ) (left : List ℕ) → delta < 2 ^ 16 → Took bs (big_bytes 1 255 ++ big_bytes 2 delta) left → full pool delta left ≡ Some (p, rest) → Told
  full_told delta left d t e =
      let h = chained (counted pool left) (λ locals. then_read (counted pool) (λ stack. done (delta, record { locals = locals; stack = stack }))) (p, rest) e in
      let a = counted_told pool left h.value h.rest t.bytes h.first in
      let k = chained (counted pool h.rest) (λ stack. done (delta, record { locals = h.value; stack = stack })) (p, rest) h.second in
      let b = counted_told pool h.rest k.value k.rest a.took.bytes k.first in
      let g = same_got k.second in
      record {
        shape = Full delta a.infos b.infos;
        fits = (d, a.few, b.few, a.fits, b.fits);
        delta = sym (ap (λ p. p.0) g.0);
        after = (subst (AreTypes pool a.infos) (ap (λ p. p.1.locals) g.0) a.are, subst (AreTypes pool b.infos) (ap (λ p. p.1.stack) g.0) b.are);
        took = took_as bs ((big_bytes 1 255 ++ big_bytes 2 delta) ++ ((big_bytes 2 (length a.infos) ++ infos_bytes a.infos) ++ (big_bytes 2 (length b.infos) ++ infos_bytes b.infos))) (form_bytes (Full delta a.infos b.infos)) rest
            (full_spelled delta a.infos b.infos)
            (took_both bs (big_bytes 1 255 ++ big_bytes 2 delta) left ((big_bytes 2 (length a.infos) ++ infos_bytes a.infos) ++ (big_bytes 2 (length b.infos) ++ infos_bytes b.infos)) rest t (took_both left (big_bytes 2 (length a.infos) ++ infos_bytes a.infos) h.rest (big_bytes 2 (length b.infos) ++ infos_bytes b.infos) rest a.took (subst (λ r. Took h.rest (big_bytes 2 (length b.infos) ++ infos_bytes b.infos) r) g.1 b.took)));
      }

  tagged : (tag known delta : ℕ) (left : List ℕ) → nat_eq tag known ≡ true → Took bs (big_bytes 1 tag ++ big_bytes 2 delta) left → Took bs (big_bytes 1 known ++ big_bytes 2 delta) left
  tagged tag known delta left e t = took_as bs (big_bytes 1 tag ++ big_bytes 2 delta) (big_bytes 1 known ++ big_bytes 2 delta) left (ap (λ n. big_bytes 1 n ++ big_bytes 2 delta) (eqb-true tag known e)) t

  wide_told : (tag delta : ℕ) (left : List ℕ) → 247 ≤ tag → tag < 256 → delta < 2 ^ 16 → Took bs (big_bytes 1 tag ++ big_bytes 2 delta) left → wide pool before.locals tag delta left ≡ Some (p, rest) → Told
  wide_told tag delta left l h d t e =
      let z : Got (ℕ × Frame) = Some (p, rest) in
      chosen (nat_eq tag 247) _ _ left Told z e (λ c e. one_told (SameOneExtended delta) delta (big_bytes 1 247 ++ big_bytes 2 delta) left (λ i f. (d, f)) (λ i. refl) (λ i. refl) (λ i frame a. a) (tagged tag 247 delta left c t) e) (λ n e.
      chosen (nat_lt tag 251) _ _ left Told z e (λ c e. chop_told tag delta left (above n) (below tag 251 c) d t e) (λ c e.
      chosen (nat_eq tag 251) _ _ left Told z e (λ i e. same_told (SameExtended delta) delta (big_bytes 1 251 ++ big_bytes 2 delta) left (λ frame a. a) d refl refl (tagged tag 251 delta left i t) e) (λ m e.
      chosen (nat_lt tag 255) _ _ left Told z e (λ i e. append_told tag delta left (past c m) (below tag 255 i) d t e) (λ i e.
      full_told delta left d (subst (λ n. Took bs (big_bytes 1 n ++ big_bytes 2 delta) left) (last (from tag 255 i)) t) e))))
    where
      above : nat_eq tag 247 ≡ false → 248 ≤ tag
      above n = let o = other tag 247 n in grind (arith, nat_tests)

      past : nat_lt tag 251 ≡ false → nat_eq tag 251 ≡ false → 252 ≤ tag
      past c m = grind (arith, nat_tests)

      last : 255 ≤ tag → tag ≡ 255
      last f = omega (arith, f, h)

pub form_told : (pool : List Constant) (before : Frame) (bs : List ℕ) (p : ℕ × Frame) (rest : List ℕ) → AreBytes bs → then_read u1 (form pool before.locals) bs ≡ Some (p, rest) → FormTook pool before bs p rest
form_told pool before bs p rest b e =
    let h = chained (u1 bs) (form pool before.locals) (p, rest) e in
    let n = number_told 1 bs h.value h.rest b h.first in
    let P = FormTook pool before bs p rest in
    let z : Got (ℕ × Frame) = Some (p, rest) in
    chosen (nat_lt h.value 64) _ _ h.rest P z h.second (λ c e. same_told pool before bs p rest (Same h.value) h.value (big_bytes 1 h.value) h.rest (λ frame a. a) (below h.value 64 c) refl refl n.0 e) (λ c e.
    chosen (nat_lt h.value 128) _ _ h.rest P z e (λ i e. one_told pool before bs p rest (SameOne (h.value - 64)) (h.value - 64) (big_bytes 1 h.value) h.rest (λ j f. (small h.value (from h.value 64 c) (below h.value 128 i), f)) (λ j. refl)
    (λ j. ap (λ n. big_bytes 1 n ++ info_bytes j) (whole h.value (from h.value 64 c))) (λ j frame a. a) n.0 e) (λ i e.
    chosen (nat_lt h.value 247) _ _ h.rest P z e (λ j e. absurd (nothing e)) (λ j e.
    let k = chained (u2 h.rest) (wide pool before.locals h.value) (p, rest) e in
    let m = number_told 2 h.rest k.value k.rest n.0.bytes k.first in
    wide_told pool before bs p rest h.value k.value k.rest (from h.value 247 j) n.1 m.1 (took_both bs (big_bytes 1 h.value) h.rest (big_bytes 2 k.value) k.rest n.0 m.0) k.second)))
  where
    small : (n : ℕ) → 64 ≤ n → n < 128 → n - 64 < 64
    small n l h = omega (arith, l, h)

    whole : (n : ℕ) → 64 ≤ n → n ≡ 64 + (n - 64)
    whole n l = omega (arith, l)
