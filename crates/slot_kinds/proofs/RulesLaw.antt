-- What the label rules say of one function: its entry and the labels that it names are its own.
use Rattle.std.proofs.Common.{◌≡◌, ◌<◌, ℕ, zero, suc, Bool, true, false, not, cond, nat_eq, ◌&&◌, ◌||◌, List, [], ◌∷◌, length, get_or, Option, None, Some, refl, sym, ap, ◌∙◌, arith}
use Rattle.std.specs.Prelude.{if◌then◌else◌, is_some}
use Rattle.std.specs.List.{list_all, find}
use Rattle.std.specs.Option.{option_or}
use Rattle.std.specs.Cmp.{nat_eq_equiv}
use Rattle.std.proofs.lemmas.Bool.{true≢false}
use Rattle.std.proofs.lemmas.Bool.Decides.{nat_tests}
use Rattle.beam_code.specs.Code.{FunctionCode}
use Rattle.beam_code.specs.Labels.{is_in, defined_by, defined_in, is_that, is_head, is_line, without_line, is_beginning, begins_well, labels_named, Scope, entry_named, no_entry, missing, names_rightly}
use Rattle.beam_code.specs.Opcode.{Opcode, Label}
use Rattle.beam_code.proofs.BelowLaw.{or-right}
use Rattle.slot_kinds.specs.Tags.{AreKnown, IsKnownIf, NamesKnown}

and-left : (a b : Bool) → (a && b) ≡ true → a ≡ true
and-left true b h = refl
and-left false b h = h

and-right : (a b : Bool) → (a && b) ≡ true → b ≡ true
and-right true b h = h
and-right false b h = absurd (true≢false (sym h))

same-number : (m n : ℕ) → nat_eq m n ≡ true → m ≡ n
same-number m n h = grind (arith, nat_tests)

not-true : (b : Bool) → not b ≡ true → b ≡ false
not-true true h = absurd (true≢false (sym h))
not-true false h = refl

pub all-at : {A : Type 0} (p : A → Bool) (xs : List A) (i : ℕ) (d : A) → i < length xs → list_all p xs ≡ true → p (get_or xs i d) ≡ true
all-at p [] i d l h = absurd (omega arith)
all-at p (x ∷ xs) zero d l h = and-left _ _ h
all-at p (x ∷ xs) (suc i) d l h = all-at p xs i d (omega arith) (and-right _ _ h)

-- Labels that are named.

cons-known : (own : ℕ → Bool) (m : ℕ) (ls : List ℕ) → own m ≡ true → AreKnown own ls → AreKnown own (m ∷ ls)
cons-known own m ls e h l i = by (nat_eq l m) refl i
  where
    by : (b : Bool) → nat_eq l m ≡ b → (b || is_in ls l) ≡ true → own l ≡ true
    by true q i = ap own (same-number l m q) ∙ e
    by false q i = h l i

own-all : (own : ℕ → Bool) (ls : List ℕ) → is_some (find (λ l. not (own l)) ls) ≡ false → AreKnown own ls
own-all own [] h = λ l i. absurd (true≢false (sym i))
own-all own (m ∷ ls) h = by (own m) refl (own-all own ls) h
  where
    by : (b : Bool) → own m ≡ b → (is_some (find (λ l. not (own l)) ls) ≡ false → AreKnown own ls) → is_some (cond (not b) (Some m) (find (λ l. not (own l)) ls)) ≡ false → AreKnown own (m ∷ ls)
    by true e rest h = cons-known own m ls e (rest h)
    by false e rest h = absurd (true≢false h)

or-second : {A : Type 0} (a b : Option A) → is_some (option_or a b) ≡ false → is_some b ≡ false
or-second None b h = h
or-second (Some x) b h = absurd (true≢false h)

named-own : (scope : Scope) (o : Opcode) → names_rightly scope o ≡ true → AreKnown scope.is_own (labels_named o)
named-own scope o h =
    own-all scope.is_own (labels_named o) (or-second (no_entry scope (entry_named o)) (find (λ label. not (scope.is_own label)) (labels_named o)) (not-true (is_some (missing scope o)) (and-left _ _ h)))

first-known : (own : ℕ → Bool) (o : Opcode) (code : List Opcode) → AreKnown own (defined_in (o ∷ code)) → IsKnownIf own (defined_by o) × AreKnown own (defined_in code)
first-known own (Label m) code h = (h m (ap (λ b. b || is_in (defined_in code) m) (nat_eq_equiv.refl m)), λ l i. h l (or-right (nat_eq l m) (is_in (defined_in code) l) i))
first-known own o code h = (tt, h)

pub names-from : (scope : Scope) (code : List Opcode) → list_all (names_rightly scope) code ≡ true → AreKnown scope.is_own (defined_in code) → NamesKnown scope.is_own code
names-from scope [] h d = tt
names-from scope (o ∷ code) h d =
    let first = first-known scope.is_own o code d in
    (first.0, named-own scope o (and-left _ _ h), names-from scope code (and-right _ _ h) first.1)

-- The entry.

in-behind : (o : Opcode) (code : List Opcode) (l : ℕ) → is_in (defined_in code) l ≡ true → is_in (defined_in (o ∷ code)) l ≡ true
in-behind (Label m) code l i = or-right (nat_eq l m) (is_in (defined_in code) l) i
in-behind o code l i = i

that-first : (o : Opcode) (code : List Opcode) (l : ℕ) → is_that l (defined_by o) ≡ true → is_in (defined_in (o ∷ code)) l ≡ true
that-first (Label m) code l h = ap (λ q. nat_eq l q || is_in (defined_in code) l) (same-number m l h) ∙ ap (λ b. b || is_in (defined_in code) l) (nat_eq_equiv.refl l)
that-first o code l h = absurd (true≢false (sym h))

head-entry : (owner : List ℕ) (f : FunctionCode) (code : List Opcode) → is_head owner f code ≡ true → is_in (defined_in code) f.entry ≡ true
head-entry owner f [] h = absurd (true≢false (sym h))
head-entry owner f (info ∷ []) h = absurd (true≢false (sym h))
head-entry owner f (info ∷ entry ∷ rest) h = in-behind info (entry ∷ rest) f.entry (that-first entry rest f.entry (and-right _ _ h))

unlined : (code : List Opcode) (l : ℕ) → is_in (defined_in (without_line code)) l ≡ true → is_in (defined_in code) l ≡ true
unlined [] l h = h
unlined (o ∷ code) l h = by (is_line o) h
  where
    by : (b : Bool) → is_in (defined_in (if b then code else o ∷ code)) l ≡ true → is_in (defined_in (o ∷ code)) l ≡ true
    by true h = in-behind o code l h
    by false h = h

pub entry-own : (owner : List ℕ) (f : FunctionCode) → begins_well owner f ≡ true → is_in (defined_in f.code) f.entry ≡ true
entry-own owner f h = by f.code h
  where
    by : (code : List Opcode) → is_beginning owner f code ≡ true → is_in (defined_in code) f.entry ≡ true
    by [] h = absurd (true≢false (sym h))
    by (first ∷ rest) h = in-behind first rest f.entry (unlined rest f.entry (head-entry owner f (without_line rest) (and-right _ _ h)))
