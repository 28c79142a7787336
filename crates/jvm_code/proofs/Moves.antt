-- Readers go on by as many bytes as they take.
use Rattle.std.proofs.Common.{◌≡◌, ℕ, zero, suc, ◌+◌, ◌≤◌, nat_le, Bool, true, false, if◌then◌else◌, List, [], ◌∷◌, length, take, drop, Ok, Err, refl, sym, ap, ◌∙◌, arith}
use Rattle.std.proofs.lemmas.Bool.{leb-true}
use Rattle.std.proofs.lemmas.List.{length-drop}
use Rattle.byteorder.specs.Endian.{big_number}
use Rattle.jvm_code.specs.Fault.{NotClass}
use Rattle.jvm_code.specs.Reader.{Got, Reader, done, broken, outside, go_on, then_read, read_as, bytes, number, Verdict, Fine, Broken, Forbidden, settled, judged, field, times, padding}

pub record Moved (at : ℕ) (bs : List ℕ) (to : ℕ) (rest : List ℕ) : Type 0 where
  pub on : at ≤ to
  pub kept : to + length rest ≡ at + length bs

pub record Moves {A : Type 0} (r : Reader A) : Type 0 where
  pub moved : (at : ℕ) (bs : List ℕ) (x : A) (to : ℕ) (rest : List ℕ) → r at bs ≡ Ok (x, to, rest) → Moved at bs to rest

abbrev got_or : {A : Type 0} → A × ℕ × List ℕ → Got A → A × ℕ × List ℕ
got_or p (Ok q) = q
got_or p (Err _) = p

pub same_got : {A : Type 0} {x y : A} {a b : ℕ} {r s : List ℕ} → Path (Got A) (Ok (x, a, r)) (Ok (y, b, s)) → (x ≡ y) × (a ≡ b) × (r ≡ s)
same_got {A} {x} {y} {a} {b} {r} {s} e = (ap (λ o. (got_or (x, a, r) o).0) e, ap (λ o. (got_or (x, a, r) o).1) e, ap (λ o. (got_or (x, a, r) o).2) e)

pub record Chained {A B : Type 0} (o : Got A) (f : A → Reader B) (z : Got B) : Type 0 where
  pub value : A
  pub at : ℕ
  pub rest : List ℕ
  pub first : o ≡ Ok (value, at, rest)
  pub second : f value at rest ≡ z

pub chained : {A B : Type 0} (o : Got A) (f : A → Reader B) (z : B × ℕ × List ℕ) → go_on o f ≡ Ok z → Chained o f (Ok z)
chained (Ok p) f z e = record { value = p.0; at = p.1; rest = p.2; first = refl; second = e }
chained (Err _) f z e = absurd cc

pub moves_done : {A : Type 0} (x : A) → Moves (done x)
moves_done x = record { moved = λ at bs y to rest e. let s = same_got e in record { on = omega (arith, s.1); kept = omega (arith, s.1, ap length s.2) } }

pub moves_outside : {A : Type 0} → Moves (outside {A = A})
moves_outside = record { moved = λ at bs y to rest e. absurd cc }

pub moves_broken : {A : Type 0} → Moves (broken {A = A})
moves_broken = record { moved = λ at bs y to rest e. absurd cc }

pub moves_then : {A B : Type 0} {r : Reader A} {f : A → Reader B} → Moves r → ((x : A) → Moves (f x)) → Moves (then_read r f)
moves_then {A} {B} {r} {f} first next = record {
  moved = λ at bs y to rest e.
      let c = chained (r at bs) f (y, to, rest) e in
      let p = first.moved at bs c.value c.at c.rest c.first in
      let q = (next c.value).moved c.at c.rest y to rest c.second in
      record { on = omega (arith, p.on, q.on); kept = q.kept ∙ p.kept };
}

pub moves_as : {A B : Type 0} {r : Reader A} (make : A → B) → Moves r → Moves (read_as make r)
moves_as make m = moves_then m (λ x. moves_done (make x))

abbrev part_at : {A : Type 0} → (List ℕ → A) → ℕ → ℕ → List ℕ → Bool → Got A
part_at value n at bs c = if c then Ok (value bs, at + n, drop n bs) else Err (NotClass at)

part_moved : {A : Type 0} (value : List ℕ → A) (n at : ℕ) (bs : List ℕ) (x : A) (to : ℕ) (rest : List ℕ) (c : Bool) → nat_le n (length bs) ≡ c
    → part_at value n at bs c ≡ Ok (x, to, rest) → (n ≤ length bs) × (to ≡ at + n) × (rest ≡ drop n bs)
part_moved value n at bs x to rest true h e = let s = same_got e in (leb-true n (length bs) h, sym s.1, sym s.2)
part_moved value n at bs x to rest false h e = absurd cc

part_kept : (n at : ℕ) (bs : List ℕ) (to : ℕ) (rest : List ℕ) → n ≤ length bs → to ≡ at + n → rest ≡ drop n bs → Moved at bs to rest
part_kept n at bs to rest l t r = record { on = omega (arith, t); kept = omega (arith, l, t, ap length r, length-drop n bs) }

pub moves_number : (n : ℕ) → Moves (number n)
moves_number n = record {
  moved = λ at bs x to rest e.
      let p = part_moved (λ bs. big_number n bs) n at bs x to rest (nat_le n (length bs)) refl e in part_kept n at bs to rest p.0 p.1 p.2;
}

-- a number is taken from the bytes
pub number_moved : (n at : ℕ) (bs : List ℕ) (x to : ℕ) (rest : List ℕ) → number n at bs ≡ Ok (x, to, rest) → to ≡ at + n
number_moved n at bs x to rest e = (part_moved (λ bs. big_number n bs) n at bs x to rest (nat_le n (length bs)) refl e).1

pub moves_bytes : (n : ℕ) → Moves (bytes n)
moves_bytes n = record {
  moved = λ at bs x to rest e.
      let p = part_moved (λ bs. take n bs) n at bs x to rest (nat_le n (length bs)) refl e in part_kept n at bs to rest p.0 p.1 p.2;
}

settled_ok : {A : Type 0} (v : Verdict) (at : ℕ) (p q : A × ℕ × List ℕ) → settled v at p ≡ Ok q → Path (Got A) (Ok p) (Ok q)
settled_ok Fine at p q e = e
settled_ok Broken at p q e = absurd cc
settled_ok Forbidden at p q e = absurd cc

judged_ok : {A : Type 0} (judge : A → Verdict) (at : ℕ) (g : Got A) (q : A × ℕ × List ℕ) → judged judge at g ≡ Ok q → g ≡ Ok q
judged_ok judge at (Ok p) q e = settled_ok (judge p.0) at p q e
judged_ok judge at (Err _) q e = absurd cc

pub moves_field : {A : Type 0} {r : Reader A} (judge : A → Verdict) → Moves r → Moves (field r judge)
moves_field {A} {r} judge m = record { moved = λ at bs x to rest e. m.moved at bs x to rest (judged_ok judge at (r at bs) (x, to, rest) e) }

pub moves_if : {A : Type 0} {r s : Reader A} (c : Bool) → Moves r → Moves s → Moves (if c then r else s)
moves_if true m n = m
moves_if false m n = n

pub moves_times : {A : Type 0} {r : Reader A} (n : ℕ) → Moves r → Moves (times n r)
moves_times zero m = moves_done []
moves_times (suc n) m = moves_then m (λ x. moves_then (moves_times n m) (λ xs. moves_done (x ∷ xs)))

pub moves_padding : (n : ℕ) → Moves (padding n)
moves_padding zero = moves_done tt
moves_padding (suc n) = moves_then (moves_field _ (moves_number 1)) (λ _. moves_padding n)
