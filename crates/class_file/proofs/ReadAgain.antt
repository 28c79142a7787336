-- Whether what is read again is the class's: methods one by one, and what stands around them.
use Rattle.std.proofs.Common.{◌≡◌, ℕ, zero, suc, ◌+◌, ◌-◌, ◌<◌, Bool, true, false, not, nat_eq, List, [], ◌∷◌, ◌++◌, length, take, get_or, Result, Ok, Err, refl, sym, ap, ◌∙◌, subst, append_assoc, arith}
use Rattle.std.specs.Bool.{Decides}
use Rattle.std.proofs.lemmas.Bool.{and_parts, and_from, true≢false}
use Rattle.std.proofs.lemmas.Bool.Decides.{nat_tests}
use Rattle.std.proofs.lemmas.List.{take_more, length-take-le, get_or_default}
use Rattle.std.proofs.Math.Seq.{get_or-append_seam, take-length}
use Rattle.ej_tables.specs.Bytes.{AreBytes}
use Rattle.jvm_code.specs.declared.class.Class.{Class}
use Rattle.jvm_code.specs.declared.class.Constant.{Constant}
use Rattle.jvm_code.specs.declared.class.Method.{Method}
use Rattle.jvm_code.specs.Fault.{Fault, NotClass as NotClassAt}
use Rattle.jvm_code.specs.Reader.{Got, done, go_on, read_as, then_read}
use Rattle.jvm_code.specs.ReadClass.{ClassOf, class_file, class_of, ended, method, methods, name_of, none}
use Rattle.jvm_code.specs.Same.{same_class, same_method}
use Rattle.jvm_code.specs.SameLaws.{class_tells, method_tells}
use Rattle.class_file.specs.Again.{IsOther, Matches, behind, is_headed}
use Rattle.class_file.specs.declared.again.Head.{Head}
use Rattle.class_file.specs.Place.{Place}
use Rattle.class_file.proofs.EntriesRead.{onto}
use Rattle.class_file.proofs.MethodsRead.{step_on, at_end}

abbrev value_or : {A : Type 0} → A → Got A → A
value_or d (Ok p) = p.0
value_or d (Err e) = d

same_value : {A : Type 0} (x y : A) (a b : ℕ) (r s : List ℕ) → ◌≡◌ {A = Got A} (Ok (x, a, r)) (Ok (y, b, s)) → x ≡ y
same_value x y a b r s e = ap (value_or x) e

negated : (b : Bool) → not b ≡ false → b ≡ true
negated true e = refl
negated false e = absurd (cc)

denied : (b : Bool) → not b ≡ true → b ≡ false
denied true e = absurd (cc)
denied false e = refl

-- so many methods are read as there are to be

behind_one : (m : Method) (n : ℕ) (g : Got (List Method)) (ms : List Method) (to : ℕ) (rest : List ℕ)
    → ((xs : List Method) (a : ℕ) (r : List ℕ) → g ≡ Ok (xs, a, r) → length xs ≡ n) → go_on g (λ xs. done (m ∷ xs)) ≡ Ok (ms, to, rest) → length ms ≡ suc n
behind_one m n (Ok p) ms to rest count e = ap length (sym (same_value (m ∷ p.0) ms p.1 to p.2 rest e)) ∙ ap suc (count p.0 p.1 p.2 refl)
behind_one m n (Err f) ms to rest count e = absurd (cc)

many : (pool : List Constant) (before : List (List ℕ)) (n at : ℕ) (bs : List ℕ) (ms : List Method) (to : ℕ) (rest : List ℕ)
    → methods pool before n at bs ≡ Ok (ms, to, rest) → length ms ≡ n
many pool before zero at bs ms to rest e = ap length (sym (same_value [] ms at to bs rest e))
many pool before (suc n) at bs ms to rest e =
    one (method pool before at bs) (λ m a r xs b s h. many pool (before ++ name_of pool m.name ∷ []) n a r xs b s h) e
  where
    one : (g : Got Method)
        → ((m : Method) (a : ℕ) (r : List ℕ) (xs : List Method) (b : ℕ) (s : List ℕ) → methods pool (before ++ name_of pool m.name ∷ []) n a r ≡ Ok (xs, b, s) → length xs ≡ n)
        → go_on g (λ m. read_as (λ ms. m ∷ ms) (methods pool (before ++ name_of pool m.name ∷ []) n)) ≡ Ok (ms, to, rest) → length ms ≡ suc n
    one (Ok p) each e = behind_one p.0 n (methods pool (before ++ name_of pool p.0.name ∷ []) n p.1 p.2) ms to rest (each p.0 p.1 p.2) e
    one (Err f) each e = absurd (cc)

pub too_many : (pool : List Constant) (count at : ℕ) (bs : List ℕ) (wanted : List Method) → (length wanted ≡ count → ⊥) → IsOther wanted (methods pool [] count at bs)
too_many pool count at bs wanted differ = λ to rest e. differ (many pool [] count at bs wanted to rest e)

-- the loop over methods

module _ (pool : List Constant) (wanted : List Method) (i count : ℕ) (m : Method) (within : i < length wanted) (long : length wanted ≡ count) where
  -- the next is read, and is the one that is wanted
  pub goes_on : (before after : List (List ℕ)) (at : ℕ) (rest : List ℕ) (to : ℕ) (left : List ℕ) (all : Got (List Method)) → after ≡ before ++ name_of pool m.name ∷ []
      → method pool before at rest ≡ Ok (m, to, left) → m ≡ get_or wanted i m → onto (take i wanted) (methods pool before (count - i) at rest) ≡ all
      → onto (take (i + 1) wanted) (methods pool after (count - (i + 1)) to left) ≡ all
  goes_on before after at rest to left all names read same inv =
      let some : 0 < count - i = omega (arith, within, long) in
      let one : count - i - 1 ≡ count - (i + 1) = omega (arith) in
      ap (λ front. onto front (methods pool after (count - (i + 1)) to left)) (take_more wanted i m within ∙ ap (λ x. take i wanted ++ x ∷ []) (sym same))
      ∙ ap (λ n. onto (take i wanted ++ m ∷ []) (methods pool after n to left)) (sym one)
      ∙ sym (step_on pool (take i wanted) before after (count - i) at rest m to left some names read) ∙ inv

  -- the next is read, and is another
  pub goes_off : (before : List (List ℕ)) (at : ℕ) (rest : List ℕ) (to : ℕ) (left : List ℕ) (all : Got (List Method))
      → method pool before at rest ≡ Ok (m, to, left) → (m ≡ get_or wanted i m → ⊥) → onto (take i wanted) (methods pool before (count - i) at rest) ≡ all → IsOther wanted all
  goes_off before at rest to left all read differ inv = λ a r e.
      let after : List (List ℕ) = before ++ name_of pool m.name ∷ [] in
      let some : 0 < count - i = omega (arith, within, long) in
      by (methods pool after (count - i - 1) to left) a r
      (sym (step_on pool (take i wanted) before after (count - i) at rest m to left some refl read) ∙ inv ∙ e)
    where
      by : (g : Got (List Method)) (a : ℕ) (r : List ℕ) → onto (take i wanted ++ m ∷ []) g ≡ Ok (wanted, a, r) → ⊥
      by (Err f) a r e = absurd (cc)
      by (Ok p) a r e =
          let whole : (take i wanted ++ m ∷ []) ++ p.0 ≡ wanted = same_value _ wanted p.1 a p.2 r e in
          let place : length (take i wanted) ≡ i = length-take-le i wanted (omega (arith, within)) in
          differ (sym (get_or-append_seam (take i wanted) m p.0 m) ∙ ap (λ n. get_or (take i wanted ++ m ∷ p.0) n m) place
          ∙ ap (λ l. get_or l i m) (sym (append_assoc (take i wanted) (m ∷ []) p.0) ∙ whole))

-- all are read
pub all_same : (pool : List Constant) (wanted : List Method) (before : List (List ℕ)) (i count at : ℕ) (rest : List ℕ) (all : Got (List Method)) → i ≡ length wanted → length wanted ≡ count
    → onto (take i wanted) (methods pool before (count - i) at rest) ≡ all → all ≡ Ok (wanted, at, rest)
all_same pool wanted before i count at rest all e long inv =
    at_end pool (take i wanted) before (count - i) at rest all (omega (arith, e, long)) inv
    ∙ ap (λ ms. Ok (ms, at, rest)) (ap (λ n. take n wanted) e ∙ take-length wanted)

-- a method that was read is the one at that place, or is not
module _ (wanted : List Method) (i : ℕ) (m x : Method) (other : Bool) (within : i < length wanted) (is : x ≡ get_or wanted i x) (tests : other ≡ not (same_method m x)) where
  there : x ≡ get_or wanted i m
  there = is ∙ get_or_default wanted i x m within

  pub is_that : other ≡ false → m ≡ get_or wanted i m
  is_that e = (method_tells m x).0 (negated _ (sym tests ∙ e)) ∙ there

  pub is_not_that : other ≡ true → m ≡ get_or wanted i m → ⊥
  is_not_that e same = true≢false (sym ((method_tells m x).1 (same ∙ sym there)) ∙ denied _ (sym tests ∙ e))

-- what stands before the methods

abbrev headed_class : Head → List Method → Class
headed_class head ms = class_of head.pool head.flags head.this head.above ms

same_headed : (head : Head) (class : Class) → is_headed head class ≡ true → headed_class head class.methods ≡ class
same_headed head class e =
    let alike : same_class class class ≡ true = (class_tells class class).1 refl in
    (class_tells (headed_class head class.methods) class).0 (and_from _ _ e (and_parts _ _ alike).1)

pub not_headed : (head : Head) (class : Class) (got : Got Class) (at : ℕ) (rest : List ℕ) → got ≡ behind head at rest → is_headed head class ≡ false → IsOther class got
not_headed head class got at rest e off = λ to left h. by (then_read (methods head.pool [] head.count) (λ ms. read_as (λ _. ms) none) at rest) to left (sym e ∙ h)
  where
    by : (g : Got (List Method)) (to : ℕ) (left : List ℕ) → go_on g (λ ms. done (headed_class head ms)) ≡ Ok (class, to, left) → ⊥
    by (Err f) to left h = absurd (cc)
    by (Ok p) to left h =
        let alike = (class_tells (headed_class head p.0) class).1 (same_value (headed_class head p.0) class p.1 to p.2 left h) in
        true≢false (sym (and_parts _ _ alike).0 ∙ off)

-- the methods are read, and what follows them
pub all_read : (head : Head) (class : Class) (got : Got Class) (at : ℕ) (rest : List ℕ) (to : ℕ) (left : List ℕ) (n behind' : ℕ) (last : List ℕ)
    → got ≡ behind head at rest → is_headed head class ≡ true → methods head.pool [] head.count at rest ≡ Ok (class.methods, to, left) → none to left ≡ Ok (n, behind', last)
    → got ≡ Ok (class, behind', last)
all_read head class got at rest to left n behind' last e same l h =
    e ∙ ap (λ g. go_on (go_on g (λ ms. read_as (λ _. ms) none)) (λ ms. done (headed_class head ms))) l
    ∙ ap (λ g. go_on (go_on g (λ _. done class.methods)) (λ ms. done (headed_class head ms))) h
    ∙ ap (λ c. Ok (c, behind', last)) (same_headed head class same)

-- the whole class, where no byte follows it

one_inside : {A E : Type 0} (x y : A) → ◌≡◌ {A = Result A E} (Ok x) (Ok y) → x ≡ y
one_inside x y e = cc

read_whole : (class : Class) (got : Got Class) → ended got ≡ Ok class → IsOther class got → ⊥
read_whole class (Err f) h off = absurd (cc)
read_whole class (Ok (c, at, [])) h off = off at [] (ap (λ c. Ok (c, at, [])) (one_inside c class h))
read_whole class (Ok (c, at, b ∷ bs)) h off = absurd (cc)

not_ended : {G : Type 0} (class : Class) (offset : ℕ) → ◌≡◌ {A = Result Class Fault} (Err (NotClassAt offset)) (Ok class) → G
not_ended class offset e = absurd (cc)

ends : (class : Class) (at : ℕ) (rest : List ℕ) → Decides (nat_eq (length rest) 0) (ended (Ok (class, at, rest)) ≡ Ok class)
ends class at [] = (λ t. refl, λ h. refl)
ends class at (b ∷ bs) = (λ t. absurd (longer t), λ h. not_ended class at h)
  where
    longer : nat_eq (length (b ∷ bs)) 0 ≡ true → ⊥
    longer t = let l : length (b ∷ bs) ≡ 0 = grind (arith, nat_tests, t) in omega (arith, l)

refused : {G : Type 0} (class : Class) (got : Result Class Fault) (fault : Fault) → got ≡ Err fault → got ≡ Ok class → G
refused class got fault e h = let bad = sym e ∙ h in absurd (cc)

-- what the call answers

pub same_bytes : (bytes : List ℕ) (class : Class) (new : Place) (left : ℕ) → AreBytes bytes → class_file 0 bytes ≡ Ok (class, new.at, new.rest) → left ≡ length new.rest
    → Decides (nat_eq left 0) (ClassOf bytes class)
same_bytes bytes class new left b m l =
    let d = ends class new.at new.rest in
    (λ t. (b, ap ended m ∙ d.0 (ap (λ n. nat_eq n 0) (sym l) ∙ t)), λ h. ap (λ n. nat_eq n 0) l ∙ d.1 (sym (ap ended m) ∙ h.1))

pub other_bytes : (bytes : List ℕ) (class : Class) (same : Bool) → same ≡ false → IsOther class (class_file 0 bytes) → Decides same (ClassOf bytes class)
other_bytes bytes class same e m = (λ t. absurd (true≢false (sym t ∙ e)), λ h. absurd (read_whole class (class_file 0 bytes) h.1 m))

-- methods that are those that are wanted
pub when_same : (pool held : List Constant) (count at : ℕ) (bs : List ℕ) (wanted kept : List Method) (same : Bool) (new : Place) → same ≡ true → pool ≡ held → wanted ≡ kept
    → Matches wanted (methods pool [] count at bs) (Ok same) new → methods held [] count at bs ≡ Ok (kept, new.at, new.rest)
when_same pool held count at bs wanted kept true new e p w m = ap (λ c. methods c [] count at bs) (sym p) ∙ m ∙ ap (λ ms. Ok (ms, new.at, new.rest)) w
when_same pool held count at bs wanted kept false new e p w m = absurd (true≢false (sym e))

-- from the first byte on
pub read_same : (bytes : List ℕ) (start : Place) (class : Class) (same : Bool) (new : Place) → start ≡ record { at = 0; rest = bytes } → same ≡ true
    → Matches class (class_file start.at start.rest) (Ok same) new → class_file 0 bytes ≡ Ok (class, new.at, new.rest)
read_same bytes start class true new s e m = ap (λ (p : Place). class_file p.at p.rest) (sym s) ∙ m
read_same bytes start class false new s e m = absurd (true≢false (sym e))

pub read_other : (bytes : List ℕ) (start : Place) (class : Class) (same : Bool) (new : Place) → start ≡ record { at = 0; rest = bytes } → same ≡ false
    → Matches class (class_file start.at start.rest) (Ok same) new → IsOther class (class_file 0 bytes)
read_other bytes start class false new s e m = subst (λ (p : Place). IsOther class (class_file p.at p.rest)) s m
read_other bytes start class true new s e m = absurd (true≢false e)
