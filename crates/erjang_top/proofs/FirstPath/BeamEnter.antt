-- Where a call enters the BEAM code of an accepted module: at its function's entry label, behind which the function's
-- body stands.
use Rattle.std.proofs.Common.{◌≡◌, ℕ, ◌+◌, Bool, true, false, not, ◌&&◌, ◌||◌, nat_eq, if◌then◌else◌, List, [], ◌∷◌, ◌++◌, drop, length, Some, refl, sym, ap, ◌∙◌, append_assoc, arith}
use Rattle.std.specs.List.{list_any, list_all, filter_map, flat_map}
use Rattle.std.specs.Str.{bytes_eq}
use Rattle.std.proofs.lemmas.Bool.{and_parts, or_parts, or_from, or_left, or_right, not-true, both_ways, eqb-true, eq-eqb, false_from_ne_true}
use Rattle.std.proofs.Math.Seq.{drop-append_seam}
use Rattle.std.proofs.lemmas.Grind.{flat_map-append}
use Rattle.std.proofs.lemmas.List.Folds.{list_any-append}
use Rattle.std.proofs.lemmas.Bool.Decides.{nat_tests}
use Rattle.beam_code.specs.declared.module.Function.{Function}
use Rattle.beam_code.specs.Keys.{Key, same_key, key_of}
use Rattle.erjang_top.specs.first_path.LabelRules.{is_head, is_beginning, opcodes, begins_well, defined_label, no_label_twice}
use Rattle.erjang_top.specs.first_path.Opcode.{Opcode, Label, Line, Comment, FuncInfo, Move, Return, Unknown}
use Rattle.erjang_top.specs.first_path.Turn.{is_label, place_of, entry_of}
use Rattle.erjang_top.specs.first_path.ModuleClass.{is_entry, behind, body}
use Rattle.erjang_top.proofs.FirstPath.Found.{Found, test-of-found}

-- the first place of a label, and what stands behind it
record Split (n : ℕ) (code : List Opcode) : Type 0 where
  front : List Opcode
  is : code ≡ front ++ Label n ∷ behind n code
  apart : list_any (is_label n) front ≡ false

same-test : (n : ℕ) (i : Opcode) → is_entry n i ≡ is_label n i
same-test n (Label k) = swap n k
  where
    swap : (a b : ℕ) → nat_eq b a ≡ nat_eq a b
    swap a b = grind (arith, nat_tests)
same-test n Line = refl
same-test n Comment = refl
same-test n (FuncInfo owner name arity) = refl
same-test n (Move from to) = refl
same-test n Return = refl
same-test n Unknown = refl

is-its-label : (n : ℕ) (i : Opcode) → is_label n i ≡ true → i ≡ Label n
is-its-label n (Label k) e = ap (λ l. Label l) (sym (eqb-true n k e))
is-its-label n Line e = absurd cc
is-its-label n Comment e = absurd cc
is-its-label n (FuncInfo owner name arity) e = absurd cc
is-its-label n (Move from to) e = absurd cc
is-its-label n Return e = absurd cc
is-its-label n Unknown e = absurd cc

split : (n : ℕ) (code : List Opcode) → list_any (is_label n) code ≡ true → Split n code
split n [] has = absurd cc
split n (i ∷ code) has = at (is_label n i) refl (split n code)
  where
    at : (b : Bool) → is_label n i ≡ b → (list_any (is_label n) code ≡ true → Split n code) → Split n (i ∷ code)
    at true e more =
        let here : behind n (i ∷ code) ≡ code = ap (λ b. if b then code else behind n code) (same-test n i ∙ e) in
        record { front = []; is = ap (λ j. j ∷ code) (is-its-label n i e) ∙ ap (λ c. Label n ∷ c) (sym here); apart = refl }
    at false e more =
        let past : behind n (i ∷ code) ≡ behind n code = ap (λ b. if b then code else behind n code) (same-test n i ∙ e) in
        let rest = more (sym (ap (λ c. c || list_any (is_label n) code) e) ∙ has) in
        record { front = i ∷ rest.front; is = ap (λ c. i ∷ c) rest.is ∙ ap (λ c. (i ∷ rest.front) ++ Label n ∷ c) (sym past); apart = or_from (is_label n i) (list_any (is_label n) rest.front) e rest.apart }

-- ---- the place of a label

place-of : (n at to : ℕ) (front code : List Opcode) → to ≡ at + length front → list_any (is_label n) front ≡ false → place_of n at (front ++ Label n ∷ code) ≡ Some to
place-of n at to [] code e apart = let same : at ≡ to = omega (arith, e) in rw (eq-eqb n n refl) (ap (λ k. Some k) same)
place-of n at to (i ∷ front) code e apart =
    let p = or_parts (is_label n i) (list_any (is_label n) front) apart in
    rw p.0 (place-of n (at + 1) to front code (omega (arith, e)) p.1)

-- ---- labels of several functions

-- the labels that code defines are those that are found in it
defines : (n : ℕ) (code : List Opcode) → list_any (nat_eq n) (filter_map defined_label code) ≡ list_any (is_label n) code
defines n [] = refl
defines n (Label k ∷ code) = ap (λ b. nat_eq n k || b) (defines n code)
defines n (Line ∷ code) = defines n code
defines n (Comment ∷ code) = defines n code
defines n (FuncInfo owner name arity ∷ code) = defines n code
defines n (Move from to ∷ code) = defines n code
defines n (Return ∷ code) = defines n code
defines n (Unknown ∷ code) = defines n code

abbrev labels : List Function → List ℕ
labels fs = flat_map (λ f. filter_map defined_label (opcodes f)) fs

abbrev codes_of : List Function → List Opcode
codes_of fs = flat_map opcodes fs

defines-all : (n : ℕ) (fs : List Function) → list_any (nat_eq n) (labels fs) ≡ list_any (is_label n) (codes_of fs)
defines-all n [] = refl
defines-all n (f ∷ fs) =
    list_any-append (nat_eq n) (filter_map defined_label (opcodes f)) (labels fs)
    ∙ ap (λ b. b || list_any (nat_eq n) (labels fs)) (defines n (opcodes f))
    ∙ ap (λ b. list_any (is_label n) (opcodes f) || b) (defines-all n fs)
    ∙ sym (list_any-append (is_label n) (opcodes f) (codes_of fs))

-- a label of the latter is none of the former
not-twice : (xs ys : List ℕ) (n : ℕ) → no_label_twice (xs ++ ys) ≡ true → list_any (nat_eq n) ys ≡ true → list_any (nat_eq n) xs ≡ false
not-twice [] ys n once has = refl
not-twice (x ∷ xs) ys n once has =
    let p = and_parts (not (list_any (nat_eq x) (xs ++ ys))) (no_label_twice (xs ++ ys)) once in
    or_from (nat_eq n x) (list_any (nat_eq n) xs)
    (false_from_ne_true (nat_eq n x) (λ e.
    let same : n ≡ x = eqb-true n x e in
    let there : list_any (nat_eq x) (xs ++ ys) ≡ true = list_any-append (nat_eq x) xs ys ∙ or_right (list_any (nat_eq x) xs) (list_any (nat_eq x) ys) (ap (λ k. list_any (nat_eq k) ys) (sym same) ∙ has) in
    both_ways (list_any (nat_eq x) (xs ++ ys)) (not-true (list_any (nat_eq x) (xs ++ ys)) p.0) there))
    (not-twice xs ys n p.1 has)

-- ---- the entry label

head-has : (owner : List ℕ) (f : Function) (code : List Opcode) → is_head owner f code ≡ true → list_any (is_label f.entry) code ≡ true
head-has owner f [] is = absurd cc
head-has owner f (i ∷ []) is = at i is
  where
    at : (j : Opcode) → is_head owner f (j ∷ []) ≡ true → list_any (is_label f.entry) (j ∷ []) ≡ true
    at (Label n) h = absurd cc
    at Line h = absurd cc
    at Comment h = absurd cc
    at (FuncInfo m name arity) h = absurd cc
    at (Move from to) h = absurd cc
    at Return h = absurd cc
    at Unknown h = absurd cc
head-has owner f (FuncInfo m name arity ∷ Label entry ∷ rest) is =
    let p = and_parts (bytes_eq m owner && bytes_eq name f.name && nat_eq arity f.arity) (nat_eq entry f.entry) is in
    or_left (nat_eq f.entry entry) (list_any (is_label f.entry) rest) (eq-eqb f.entry entry (sym (eqb-true entry f.entry p.1)))
head-has owner f (i ∷ j ∷ rest) is = absurd cc

beginning-has : (owner : List ℕ) (f : Function) (code : List Opcode) → is_beginning owner f code ≡ true → list_any (is_label f.entry) code ≡ true
beginning-has owner f [] is = absurd cc
beginning-has owner f (Label n ∷ []) is = absurd cc
beginning-has owner f (Label n ∷ Line ∷ rest) is = or_right (nat_eq f.entry n) (list_any (is_label f.entry) rest) (head-has owner f rest is)
beginning-has owner f (Label n ∷ FuncInfo m name arity ∷ rest) is = or_right (nat_eq f.entry n) (list_any (is_label f.entry) (FuncInfo m name arity ∷ rest)) (head-has owner f (FuncInfo m name arity ∷ rest) is)
beginning-has owner f (Label n ∷ i ∷ rest) is = absurd cc
beginning-has owner f (i ∷ rest) is = absurd cc

entry-of : (key : Key) (before : List Function) (f : Function) (after : List Function) → list_any (λ g. same_key key (key_of g)) before ≡ false → same_key key (key_of f) ≡ true
    → entry_of key (before ++ f ∷ after) ≡ Some f.entry
entry-of key [] f after others here = rw here refl
entry-of key (g ∷ before) f after others here =
    let p = or_parts (same_key key (key_of g)) (list_any (λ h. same_key key (key_of h)) before) others in
    rw p.0 (entry-of key before f after p.1 here)

-- where the function is entered: at a place where its entry label stands, its body and other code behind it
pub record Entry (key : Key) (fs : List Function) (f : Function) : Type 0 where
  pub entry : entry_of key fs ≡ Some f.entry
  pub place : ℕ
  pub found : place_of f.entry 0 (flat_map opcodes fs) ≡ Some place
  pub rest : List Opcode
  pub stands : drop place (flat_map opcodes fs) ≡ Label f.entry ∷ (body f ++ rest)

pub entry-here : (owner : List ℕ) (key : Key) (fs : List Function) (f : Found key fs) → list_all (begins_well owner) fs ≡ true
    → no_label_twice (flat_map (λ g. filter_map defined_label (opcodes g)) fs) ≡ true → Entry key fs f.function
entry-here owner key fs f begin once =
    let g = f.function in
    let has = beginning-has owner g (opcodes g) (test-of-found key fs (begins_well owner) f begin) in
    let parts = split g.entry (opcodes g) has in
    let front : List Opcode = codes_of f.before ++ parts.front in
    let rest : List Opcode = codes_of f.after in
    let code : codes_of fs ≡ front ++ Label g.entry ∷ (body g ++ rest) =
    ap codes_of f.is ∙ flat_map-append opcodes f.before (g ∷ f.after)
    ∙ ap (λ c. codes_of f.before ++ (c ++ rest)) parts.is
    ∙ ap (λ c. codes_of f.before ++ c) (append_assoc parts.front (Label g.entry ∷ body g) rest)
    ∙ sym (append_assoc (codes_of f.before) parts.front (Label g.entry ∷ (body g ++ rest))) in
    let behind-has : list_any (nat_eq g.entry) (labels (g ∷ f.after)) ≡ true =
    defines-all g.entry (g ∷ f.after) ∙ list_any-append (is_label g.entry) (opcodes g) rest ∙ or_left (list_any (is_label g.entry) (opcodes g)) (list_any (is_label g.entry) rest) has in
    let split-labels : labels fs ≡ labels f.before ++ labels (g ∷ f.after) = ap labels f.is ∙ flat_map-append (λ h. filter_map defined_label (opcodes h)) f.before (g ∷ f.after) in
    let apart : list_any (is_label g.entry) front ≡ false =
    list_any-append (is_label g.entry) (codes_of f.before) parts.front
    ∙ or_from (list_any (is_label g.entry) (codes_of f.before)) (list_any (is_label g.entry) parts.front)
    (sym (defines-all g.entry f.before) ∙ not-twice (labels f.before) (labels (g ∷ f.after)) g.entry (sym (ap no_label_twice split-labels) ∙ once) behind-has)
    parts.apart in
    record {
      entry = ap (entry_of key) f.is ∙ entry-of key f.before g f.after f.others f.here;
      place = length front;
      found = ap (place_of g.entry 0) code ∙ place-of g.entry 0 (length front) front (body g ++ rest) (omega arith) apart;
      rest = rest;
      stands = ap (drop (length front)) code ∙ drop-append_seam front (Label g.entry ∷ (body g ++ rest));
    }
