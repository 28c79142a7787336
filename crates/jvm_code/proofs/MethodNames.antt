-- A text passes as the name of a method exactly where a function or a part of one has it.
use Rattle.std.proofs.Common.{◌≡◌, ℕ, zero, suc, ◌+◌, ◌-◌, ◌<◌, ◌≤◌, nat_lt, Bool, true, false, ◌&&◌, ◌||◌, nat_eq, cond, List, [], ◌∷◌, ◌++◌, length, take, drop, codes, Option, None, Some, option_map, decimal, refl, sym, ap, ◌∙◌, subst, append_assoc, length-append, inl, inr, arith}
use Rattle.std.proofs.lemmas.Bool.{and_parts, ltb-true}
use Rattle.std.proofs.lemmas.Bool.Decides.{nat_tests}
use Rattle.std.proofs.lemmas.List.{take-append-drop}
use Rattle.std.proofs.lemmas.Slice.Eq.{bytes_eq-Decides}
use Rattle.std.proofs.Math.Seq.{take-append_seam, drop-append_seam}
use Rattle.std.specs.Str.{bytes_eq, all_scalars}
use Rattle.jvm_code.specs.Names.{is_digit, mangle, method_name, behind_last, digits_at, small_number, numbered, is_mangled, is_function, names_function, is_part, names_part, is_method_name}
use Rattle.jvm_code.specs.MethodNames.{FunctionOf, PartOf, MethodOf, part_name}
use Rattle.jvm_code.proofs.ClassNames.{name_told, name_spelled}
use Rattle.jvm_code.proofs.SmallNumbers.{AllDigits, small_told, small_below, small_spelled}

-- the place is behind what was found before
kept : (at found : ℕ) (bs : List ℕ) → found ≤ at → found ≤ behind_last at found bs
kept at found [] l = omega arith
kept at found (b ∷ bs) l = go (is_digit b) (kept (at + 1) found bs (omega (arith, l))) (kept (at + 1) (at + 1) bs (omega arith))
  where
    go : (c : Bool) → found ≤ behind_last (at + 1) found bs → at + 1 ≤ behind_last (at + 1) (at + 1) bs → found ≤ behind_last (at + 1) (cond c found (at + 1)) bs
    go true one other = one
    go false one other = omega (arith, l, other)

not_below : (m n : ℕ) → nat_lt m n ≡ false → n ≤ m
not_below m n e = grind (arith, nat_tests)

abbrev Behind : (at place : ℕ) → List ℕ → Type 0
Behind at place bs = AllDigits (drop (place - at) bs)

drop_none : (bs : List ℕ) → drop 0 bs ≡ bs
drop_none [] = refl
drop_none (b ∷ bs) = refl

-- an item more in front of what is left
one_more : (at place b : ℕ) (bs : List ℕ) → at < place → Behind (at + 1) place bs → Behind at place (b ∷ bs)
one_more at place b bs l h = subst (λ k. AllDigits (drop k (b ∷ bs))) (count at place l) h
  where
    count : (at place : ℕ) → at < place → suc (place - (at + 1)) ≡ place - at
    count at place l = omega (arith, l)

a_digit : (at place b : ℕ) (bs : List ℕ) → place ≤ at → is_digit b ≡ true → Behind (at + 1) place bs → Behind at place (b ∷ bs)
a_digit at place b bs l d h =
    let none : 0 ≡ place - at = omega (arith, l) in
    let none' : place - (at + 1) ≡ 0 = omega (arith, l) in
    subst (λ k. AllDigits (drop k (b ∷ bs))) none (d, subst AllDigits (drop_none bs) (subst (λ k. AllDigits (drop k bs)) none' h))

digits_behind : (at found : ℕ) (bs : List ℕ) → found ≤ at → Behind at (behind_last at found bs) bs
digits_behind at found [] l = nothing (found - at)
  where
    nothing : (k : ℕ) → AllDigits (drop k [])
    nothing zero = tt
    nothing (suc k) = tt
digits_behind at found (b ∷ bs) l = go (is_digit b) refl (digits_behind (at + 1) found bs (omega (arith, l))) (digits_behind (at + 1) (at + 1) bs (omega arith))
  where
    go : (c : Bool) → is_digit b ≡ c → Behind (at + 1) (behind_last (at + 1) found bs) bs → Behind (at + 1) (behind_last (at + 1) (at + 1) bs) bs
        → Behind at (behind_last (at + 1) (cond c found (at + 1)) bs) (b ∷ bs)
    go false d one other = one_more at (behind_last (at + 1) (at + 1) bs) b bs (omega (arith, kept (at + 1) (at + 1) bs (omega arith))) other
    go true d one other = by (nat_lt at (behind_last (at + 1) found bs)) refl
      where
        by : (t : Bool) → nat_lt at (behind_last (at + 1) found bs) ≡ t → Behind at (behind_last (at + 1) found bs) (b ∷ bs)
        by true e = one_more at (behind_last (at + 1) found bs) b bs (ltb-true at (behind_last (at + 1) found bs) e) one
        by false e = a_digit at (behind_last (at + 1) found bs) b bs (not_below at (behind_last (at + 1) found bs) e) d one

pub digits_told : (text : List ℕ) → AllDigits (drop (digits_at text) text)
digits_told text = subst (λ k. AllDigits (drop k text)) (omega arith) (digits_behind 0 0 text (omega arith))

take_less : {X : Type 0} (m n : ℕ) (xs : List X) → m ≤ n → take m (take n xs) ≡ take m xs
take_less zero n xs l = none (take n xs) ∙ sym (none xs)
  where
    none : {X : Type 0} (xs : List X) → take 0 xs ≡ []
    none [] = refl
    none (x ∷ xs) = refl
take_less (suc m) zero xs l = absurd (omega (arith, l))
take_less (suc m) (suc n) [] l = refl
take_less (suc m) (suc n) (x ∷ xs) l = ap (λ r. x ∷ r) (take_less m n xs (omega (arith, l)))

abbrev Split : Type 0
Split = List ℕ × ℕ

abbrev named : List ℕ → ℕ → Split
named name n = (name, n)

abbrev first : Option Split → List ℕ
first None = []
first (Some x) = x.0

abbrev second : Option Split → ℕ
second None = 0
second (Some x) = x.1

pub record Numbered (mark text name : List ℕ) (n : ℕ) : Type 0 where
  pub is : text ≡ name ++ (mark ++ decimal n)
  pub below : n < 1000

-- a text that is split at a place behind which there are digits
split_told : (p : ℕ) (mark text name : List ℕ) (n : ℕ) → AllDigits (drop p text) → drop (p - 2) (take p text) ≡ mark → (o : Option ℕ) → small_number (drop p text) ≡ o
    → option_map (named (take (p - 2) text)) o ≡ Some (name, n) → Numbered mark text name n
split_told p mark text name n digits m None s e = absurd cc
split_told p mark text name n digits m (Some k) s e =
    let same_name : take (p - 2) text ≡ name = ap first e in
    let same_number : k ≡ n = ap second e in
    record {
      is = sym (take-append-drop p text) ∙ ap (λ d. take p text ++ d) (small_told (drop p text) k digits s ∙ ap decimal same_number)
          ∙ ap (λ t. t ++ decimal n) (sym (take-append-drop (p - 2) (take p text)) ∙ ap (λ m. take (p - 2) (take p text) ++ m) m
          ∙ ap (λ t. t ++ mark) (take_less (p - 2) p text (omega arith) ∙ same_name))
          ∙ append_assoc name mark (decimal n);
      below = subst (λ k. k < 1000) same_number (small_below (drop p text) k digits s);
    }

place_told : (p : ℕ) (mark text name : List ℕ) (n : ℕ) → AllDigits (drop p text) → (c d : Bool) → bytes_eq (drop (p - 2) (take p text)) mark ≡ d
    → cond c None (cond d (option_map (named (take (p - 2) text)) (small_number (drop p text))) None) ≡ Some (name, n) → Numbered mark text name n
place_told p mark text name n digits true d g e = absurd cc
place_told p mark text name n digits false false g e = absurd cc
place_told p mark text name n digits false true g e =
    split_told p mark text name n digits ((bytes_eq-Decides (drop (p - 2) (take p text)) mark).0 g) (small_number (drop p text)) refl e

pub numbered_told : (mark text name : List ℕ) (n : ℕ) → numbered mark text ≡ Some (name, n) → Numbered mark text name n
numbered_told mark text name n e =
    place_told (digits_at text) mark text name n (digits_told text) (nat_lt (digits_at text) 2) (bytes_eq (drop (digits_at text - 2) (take (digits_at text) text)) mark) refl e

pub function_told : (text : List ℕ) → names_function text ≡ true → FunctionOf text
function_told text e = go (numbered (codes "__") text) refl e
  where
    go : (o : Option Split) → numbered (codes "__") text ≡ o → is_function o ≡ true → FunctionOf text
    go None n e = absurd cc
    go (Some s) n e =
        let p = and_parts _ _ e in
        let t = name_told s.0 p.1 in
        record {
          name = t.name;
          arity = s.1;
          scalar = t.scalar;
          small = ltb-true s.1 256 p.0;
          is = (numbered_told (codes "__") text s.0 s.1 n).is ∙ ap (λ f. f ++ (codes "__" ++ decimal s.1)) t.is ∙ sym (append_assoc (mangle t.name) (codes "__") (decimal s.1));
        }

-- ---- the name of a method passes

no_less : (p : ℕ) → 2 ≤ p → nat_lt p 2 ≡ false
no_less p l = grind (arith, nat_tests)

below_256 : (n : ℕ) → n < 256 → nat_lt n 256 ≡ true
below_256 n l = grind (arith, nat_tests)

all_keep : (at found : ℕ) (ds : List ℕ) → AllDigits ds → behind_last at found ds ≡ found
all_keep at found [] h = refl
all_keep at found (d ∷ ds) h = ap (λ c. behind_last (at + 1) (cond c found (at + 1)) ds) h.0 ∙ all_keep (at + 1) found ds h.1

last_place : (front : List ℕ) (c : ℕ) (ds : List ℕ) (at found : ℕ) → is_digit c ≡ false → AllDigits ds → behind_last at found (front ++ c ∷ ds) ≡ at + length front + 1
last_place [] c ds at found e h = ap (λ t. behind_last (at + 1) (cond t found (at + 1)) ds) e ∙ all_keep (at + 1) (at + 1) ds h ∙ omega arith
last_place (x ∷ front) c ds at found e h = last_place front c ds (at + 1) (cond (is_digit x) found (at + 1)) e h ∙ omega arith

assembled : (t : Bool) (m mark cut name : List ℕ) (o : Option ℕ) (n : ℕ) → t ≡ false → m ≡ mark → cut ≡ name → o ≡ Some n
    → cond t None (cond (bytes_eq m mark) (option_map (named cut) o) None) ≡ Some (named name n)
assembled t m mark cut name o n e f g h =
    ap (λ t. cond t None (cond (bytes_eq m mark) (option_map (named cut) o) None)) e
    ∙ ap (λ b. cond b (option_map (named cut) o) None) ((bytes_eq-Decides m mark).1 f) ∙ ap (option_map (named cut)) h ∙ ap (λ k. Some (named k n)) g

cut_at : (name mark ds : List ℕ) (p : ℕ) → length mark ≡ 2 → p ≡ length name + 2 → (drop (p - 2) (take p (name ++ (mark ++ ds))) ≡ mark) × (take (p - 2) (name ++ (mark ++ ds)) ≡ name) × (drop p (name ++ (mark ++ ds)) ≡ ds)
cut_at name mark ds p two e =
    let seam : name ++ (mark ++ ds) ≡ (name ++ mark) ++ ds = sym (append_assoc name mark ds) in
    let size : p ≡ length (name ++ mark) = omega (arith, e, two, length-append name mark) in
    let front : p - 2 ≡ length name = omega (arith, e) in (
      ap (λ k. drop k (take p (name ++ (mark ++ ds)))) front
          ∙ ap (drop (length name)) (ap (take p) seam ∙ ap (λ k. take k ((name ++ mark) ++ ds)) size ∙ take-append_seam (name ++ mark) ds) ∙ drop-append_seam name mark,
      ap (λ k. take k (name ++ (mark ++ ds))) front ∙ take-append_seam name (mark ++ ds),
      ap (drop p) seam ∙ ap (λ k. drop k ((name ++ mark) ++ ds)) size ∙ drop-append_seam (name ++ mark) ds,
    )

numbered_spelled : (name : List ℕ) (x c n : ℕ) → is_digit c ≡ false → n < 1000 → numbered (x ∷ c ∷ []) (name ++ (x ∷ c ∷ decimal n)) ≡ Some (named name n)
numbered_spelled name x c n e l =
    let s = small_spelled n l in
    let mark = x ∷ c ∷ [] in
    let text = name ++ (x ∷ c ∷ decimal n) in
    let place : digits_at text ≡ length name + 2 =
    ap digits_at (sym (append_assoc name (x ∷ []) (c ∷ decimal n))) ∙ last_place (name ++ x ∷ []) c (decimal n) 0 0 e s.digits ∙ omega (arith, length-append name (x ∷ [])) in
    let cut = cut_at name mark (decimal n) (digits_at text) refl place in
    assembled (nat_lt (digits_at text) 2) (drop (digits_at text - 2) (take (digits_at text) text)) mark (take (digits_at text - 2) text) name (small_number (drop (digits_at text) text)) n
    (no_less (digits_at text) (omega (arith, place))) cut.0 cut.1 (ap small_number cut.2 ∙ s.read)

pub function_spelled : (name : List ℕ) (arity : ℕ) → all_scalars name ≡ true → arity < 256 → names_function (method_name name arity) ≡ true
function_spelled name arity s l =
    ap names_function (append_assoc (mangle name) (codes "__") (decimal arity)) ∙ ap is_function (numbered_spelled (mangle name) 95 95 arity refl (omega (arith, l)))
    ∙ ap (λ b. b && is_mangled (mangle name)) (below_256 arity l) ∙ name_spelled name s

part_told : (text : List ℕ) → names_part text ≡ true → PartOf text
part_told text e = go (numbered (codes "$p") text) refl e
  where
    go : (o : Option Split) → numbered (codes "$p") text ≡ o → is_part o ≡ true → PartOf text
    go None n e = absurd cc
    go (Some s) n e =
        let p = and_parts _ _ e in
        let t = numbered_told (codes "$p") text s.0 s.1 n in
        record { function = s.0; of = function_told s.0 p.1; number = s.1; above = ltb-true 0 s.1 p.0; below = t.below; is = t.is }

is_it : (n b : ℕ) → nat_eq b n ≡ true → b ≡ n
is_it n b e = grind (arith, nat_tests)

pub method_told : (flags : ℕ) (text : List ℕ) → is_method_name flags text ≡ true → MethodOf flags text
method_told flags text e = go (names_function text) refl e
  where
    go : (c : Bool) → names_function text ≡ c → (c || (nat_eq flags 0x000A && names_part text)) ≡ true → MethodOf flags text
    go true f e = inl (function_told text f)
    go false f e = let p = and_parts _ _ e in inr (is_it 0x000A flags p.0, part_told text p.1)

or_true : (a b : Bool) → a ≡ true → (a || b) ≡ true
or_true a b e = ap (λ c. c || b) e

pub function_passes : (flags : ℕ) (name : List ℕ) (arity : ℕ) → all_scalars name ≡ true → arity < 256 → is_method_name flags (method_name name arity) ≡ true
function_passes flags name arity s l = or_true (names_function (method_name name arity)) (nat_eq flags 0x000A && names_part (method_name name arity)) (function_spelled name arity s l)

positive : (n : ℕ) → 0 < n → nat_lt 0 n ≡ true
positive n l = grind (arith, nat_tests)

or_second : (a b : Bool) → b ≡ true → (a || b) ≡ true
or_second true b e = refl
or_second false b e = e

pub part_passes : (function : List ℕ) (number : ℕ) → names_function function ≡ true → 0 < number → number < 1000 → is_method_name 0x000A (part_name function number) ≡ true
part_passes function number f l h =
    or_second (names_function (part_name function number)) (names_part (part_name function number))
    (ap is_part (numbered_spelled function 36 112 number refl h) ∙ ap (λ b. b && names_function function) (positive number l) ∙ f)
