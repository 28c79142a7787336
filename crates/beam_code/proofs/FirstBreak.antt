-- The first break of a label rule is none exactly where a module keeps the label rules.
use Rattle.std.proofs.Common.{◌≡◌, ℕ, ◌+◌, Bool, true, false, not, nat_eq, ◌&&◌, ◌||◌, List, [], ◌∷◌, ◌++◌, append_assoc, append-nil, Option, None, Some, is_some, refl, sym, ap, ◌∙◌}
use Rattle.std.specs.Prelude.{if◌then◌else◌}
use Rattle.std.specs.Cmp.{nat_eq_equiv}
use Rattle.std.specs.List.{list_all, flat_map, cons_option}
use Rattle.std.specs.Option.{option_or}
use Rattle.std.proofs.lemmas.Bool.{and_parts, true≢false}
use Rattle.std.proofs.lemmas.List.Folds.{list_any-append}
use Rattle.beam_code.specs.Code.{FunctionCode, ModuleCode}
use Rattle.beam_code.specs.Labels.{Break, Twice, BadEntry, Scope, is_in, defined_by, defined_in, begins_well, names_rightly, missing, agrees, missing_or, misuse, twice, with_label, break_at, break_in_code, break_in, break_from, scope_of, arity_of, first_break, uses_labels_well, no_label_twice, labels_of, KeepsLabelRules}
use Rattle.beam_code.specs.Opcode.{Opcode}

abbrev is_none : Option Break → Bool
is_none b = not (is_some b)

-- no label is there that was before, and none twice
abbrev fresh : List ℕ → List ℕ → Bool
fresh before [] = true
fresh before (n ∷ ns) = not (is_in before n) && fresh (before ++ n ∷ []) ns

none-or : (a b : Option Break) → is_none (option_or a b) ≡ (is_none a && is_none b)
none-or None b = refl
none-or (Some x) b = refl

none-missing : (func at : ℕ) (agreed : Bool) (label : Option ℕ) → is_none (missing_or func at agreed label) ≡ (not (is_some label) && agreed)
none-missing func at agreed (Some n) = refl
none-missing func at true None = refl
none-missing func at false None = refl

swapped : (g x l y : Bool) → ((g && x) && (l && y)) ≡ ((g && l) && (x && y))
swapped true true l y = refl
swapped true false true y = refl
swapped true false false y = refl
swapped false x l y = refl

at-fresh : (before : List ℕ) (n : ℕ) → is_none (twice before (Some n)) ≡ not (is_in before n)
at-fresh before n = by (is_in before n)
  where
    by : (b : Bool) → is_none (if b then Some (Twice n) else None) ≡ not b
    by true = refl
    by false = refl

code-fresh : (scope : Scope) (func at : ℕ) (before : List ℕ) (os : List Opcode)
    → is_none (break_in_code scope func at before os) ≡ (fresh before (defined_in os) && list_all (names_rightly scope) os)
code-fresh scope func at before [] = refl
code-fresh scope func at before (o ∷ os) =
    none-or (break_at scope func at before o) (break_in_code scope func (at + 1) (with_label before (defined_by o)) os)
    ∙ ap (λ b. b && is_none (break_in_code scope func (at + 1) (with_label before (defined_by o)) os))
    (none-or (twice before (defined_by o)) (misuse scope func at o) ∙ ap (λ b. is_none (twice before (defined_by o)) && b) (none-missing func at (agrees scope o) (missing scope o)))
    ∙ ap (λ b. (is_none (twice before (defined_by o)) && names_rightly scope o) && b) (code-fresh scope func (at + 1) (with_label before (defined_by o)) os)
    ∙ by (defined_by o)
  where
    by : (d : Option ℕ) → ((is_none (twice before d) && names_rightly scope o) && (fresh (with_label before d) (defined_in os) && list_all (names_rightly scope) os))
        ≡ (fresh before (cons_option d (defined_in os)) && (names_rightly scope o && list_all (names_rightly scope) os))
    by None = swapped true (names_rightly scope o) (fresh before (defined_in os)) (list_all (names_rightly scope) os)
    by (Some n) =
        ap (λ b. (b && names_rightly scope o) && (fresh (before ++ n ∷ []) (defined_in os) && list_all (names_rightly scope) os)) (at-fresh before n)
        ∙ swapped (not (is_in before n)) (names_rightly scope o) (fresh (before ++ n ∷ []) (defined_in os)) (list_all (names_rightly scope) os)

and-assoc : (a b c : Bool) → (a && (b && c)) ≡ ((a && b) && c)
and-assoc true b c = refl
and-assoc false b c = refl

fresh-append : (before xs ys : List ℕ) → fresh before (xs ++ ys) ≡ (fresh before xs && fresh (before ++ xs) ys)
fresh-append before [] ys = ap (λ ns. fresh ns ys) (sym (append-nil before))
fresh-append before (n ∷ xs) ys =
    ap (λ b. not (is_in before n) && b) (fresh-append (before ++ n ∷ []) xs ys ∙ ap (λ ns. fresh (before ++ n ∷ []) xs && fresh ns ys) (append_assoc before (n ∷ []) xs))
    ∙ and-assoc (not (is_in before n)) (fresh (before ++ n ∷ []) xs) (fresh (before ++ n ∷ xs) ys)

in-fresh : (owner : List ℕ) (arity : ℕ → Option ℕ) (func : ℕ) (before : List ℕ) (f : FunctionCode)
    → is_none (break_in owner arity func before f) ≡ (begins_well owner f && (fresh before (defined_in f.code) && uses_labels_well arity f))
in-fresh owner arity func before f =
    by (begins_well owner f) (break_in_code (scope_of arity f) func 0 before f.code)
    ∙ ap (λ b. begins_well owner f && b) (code-fresh (scope_of arity f) func 0 before f.code)
  where
    by : (b : Bool) (o : Option Break) → is_none (if b then o else Some (BadEntry func)) ≡ (b && is_none o)
    by true o = refl
    by false o = refl

regrouped : (b f u bs fs us : Bool) → ((b && (f && u)) && ((bs && fs) && us)) ≡ (((b && bs) && (f && fs)) && (u && us))
regrouped true true true bs fs us = refl
regrouped true true false true true us = refl
regrouped true true false true false us = refl
regrouped true true false false fs us = refl
regrouped true false u true fs us = refl
regrouped true false u false fs us = refl
regrouped false f u bs fs us = refl

abbrev labels : List FunctionCode → List ℕ
labels fs = flat_map (λ (f : FunctionCode). defined_in f.code) fs

from-fresh : (owner : List ℕ) (arity : ℕ → Option ℕ) (func : ℕ) (before : List ℕ) (fs : List FunctionCode)
    → is_none (break_from owner arity func before fs) ≡ ((list_all (begins_well owner) fs && fresh before (labels fs)) && list_all (uses_labels_well arity) fs)
from-fresh owner arity func before [] = refl
from-fresh owner arity func before (f ∷ fs) =
    let first = in-fresh owner arity func before f in
    let rest = from-fresh owner arity (func + 1) (before ++ defined_in f.code) fs in
    none-or (break_in owner arity func before f) (break_from owner arity (func + 1) (before ++ defined_in f.code) fs)
    ∙ (λ k. first k && rest k)
    ∙ regrouped (begins_well owner f) (fresh before (defined_in f.code)) (uses_labels_well arity f) (list_all (begins_well owner) fs)
    (fresh (before ++ defined_in f.code) (labels fs)) (list_all (uses_labels_well arity) fs)
    ∙ ap (λ b. ((begins_well owner f && list_all (begins_well owner) fs) && b) && (uses_labels_well arity f && list_all (uses_labels_well arity) fs))
    (sym (fresh-append before (defined_in f.code) (labels fs)))

-- none twice from the front is none twice
abbrev apart : List ℕ → List ℕ → Bool
apart before ns = list_all (λ n. not (is_in before n)) ns

four : (p q a b : Bool) → ((not p && a) && not (q || b)) ≡ ((not p && not q) && (a && not b))
four true q a b = refl
four false true true b = refl
four false true false b = refl
four false false true b = refl
four false false false b = refl

not-or : (a b : Bool) → not (a || (b || false)) ≡ (not a && not b)
not-or true b = refl
not-or false true = refl
not-or false false = refl

apart-more : (before : List ℕ) (n : ℕ) (ns : List ℕ) → apart (before ++ n ∷ []) ns ≡ (apart before ns && not (is_in ns n))
apart-more before n [] = refl
apart-more before n (x ∷ ns) =
    ap (λ b. not b && apart (before ++ n ∷ []) ns) (list_any-append (nat_eq x) before (n ∷ []))
    ∙ ap (λ b. b && apart (before ++ n ∷ []) ns) (not-or (is_in before x) (nat_eq x n))
    ∙ ap (λ b. (not (is_in before x) && not (nat_eq x n)) && b) (apart-more before n ns)
    ∙ sym (four (is_in before x) (nat_eq x n) (apart before ns) (is_in ns n))
    ∙ ap (λ b. (not (is_in before x) && apart before ns) && not (b || is_in ns n)) (nat_eq_equiv.symm x n)

turned : (p t a q : Bool) → (p && (t && (a && q))) ≡ ((q && t) && (p && a))
turned true true true true = refl
turned true true true false = refl
turned true true false true = refl
turned true true false false = refl
turned true false a true = refl
turned true false a false = refl
turned false true a true = refl
turned false true a false = refl
turned false false a true = refl
turned false false a false = refl

fresh-apart : (before ns : List ℕ) → fresh before ns ≡ (no_label_twice ns && apart before ns)
fresh-apart before [] = refl
fresh-apart before (n ∷ ns) =
    ap (λ b. not (is_in before n) && b) (fresh-apart (before ++ n ∷ []) ns ∙ ap (λ b. no_label_twice ns && b) (apart-more before n ns))
    ∙ turned (not (is_in before n)) (no_label_twice ns) (apart before ns) (not (is_in ns n))

all-apart : (ns : List ℕ) → apart [] ns ≡ true
all-apart [] = refl
all-apart (n ∷ ns) = all-apart ns

fresh-once : (ns : List ℕ) → fresh [] ns ≡ no_label_twice ns
fresh-once ns = fresh-apart [] ns ∙ with-true (no_label_twice ns) (apart [] ns) (all-apart ns)
  where
    with-true : (a b : Bool) → b ≡ true → (a && b) ≡ a
    with-true true b e = e
    with-true false b e = refl

unbroken-where : (m : ModuleCode) → is_none (first_break m)
    ≡ ((list_all (begins_well m.name) m.functions && no_label_twice (labels_of m)) && list_all (uses_labels_well (arity_of m.functions)) m.functions)
unbroken-where m =
    from-fresh m.name (arity_of m.functions) 0 [] m.functions
    ∙ ap (λ b. (list_all (begins_well m.name) m.functions && b) && list_all (uses_labels_well (arity_of m.functions)) m.functions) (fresh-once (labels_of m))

is-none : (b : Option Break) → is_none b ≡ true → b ≡ None
is-none None e = refl
is-none (Some b) e = absurd (true≢false (sym e))

-- where no rule is broken, the rules are kept
pub kept : (m : ModuleCode) → first_break m ≡ None → KeepsLabelRules m
kept m e =
    let both = and_parts (list_all (begins_well m.name) m.functions && no_label_twice (labels_of m)) (list_all (uses_labels_well (arity_of m.functions)) m.functions) (sym (unbroken-where m) ∙ ap is_none e) in
    let parts = and_parts (list_all (begins_well m.name) m.functions) (no_label_twice (labels_of m)) both.0 in
    record { beginnings = parts.0; distinct = parts.1; uses = both.1 }

-- where the rules are kept, none is broken
pub unbroken : (m : ModuleCode) → KeepsLabelRules m → first_break m ≡ None
unbroken m k =
    is-none (first_break m) (unbroken-where m ∙ (λ i. (k.beginnings i && k.distinct i) && k.uses i))
