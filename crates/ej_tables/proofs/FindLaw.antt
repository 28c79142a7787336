-- Each row of a table of distinct rows is the one that is found.
use Rattle.std.proofs.Common.{rules, arith, refl, ◌∙◌, ◌≡◌, ℕ, Bool, true, false, not, nat_eq, ◌&&◌, List, [], ◌∷◌, Some}
use Rattle.std.proofs.lemmas.Bool.Decides.{nat_tests}
use Rattle.std.specs.List.{list_all, find, AllByRecursion}
use Rattle.std.proofs.lemmas.Slice.Eq.{bytes_eq-Decides}
use Rattle.ej_tables.specs.Rows.{Entry, is_named, has_number, differs, are_distinct, IsFound, FindsEach}

first_passes : {X : Type 0} (test : X → Bool) (x : X) (xs : List X) → test x ≡ true → find test (x ∷ xs) ≡ Some x
first_passes test x xs passes = rw passes refl

first_fails : {X : Type 0} (test : X → Bool) (x : X) (xs : List X) → test x ≡ false → find test (x ∷ xs) ≡ find test xs
first_fails test x xs fails = rw fails refl

both : (a b : Bool) → a ≡ true → b ≡ true → (a && b) ≡ true
both a b p q = rw (p, q) refl

number_is_itself : (n : ℕ) → nat_eq n n ≡ true
number_is_itself n = grind (arith, nat_tests)

is_named_itself : (entry : Entry) → is_named entry.name entry.arity entry ≡ true
is_named_itself entry = both _ _ (number_is_itself entry.arity) ((bytes_eq-Decides entry.name entry.name).1 refl)

-- neither of two that both fail
neither : (a b : Bool) → (not a && not b) ≡ true → (a ≡ false) × (b ≡ false)
neither true true p = absurd (search (rules))
neither true false p = absurd (search (rules))
neither false true p = absurd (search (rules))
neither false false p = (refl, refl)

pub head_found : (entry : Entry) (entries : List Entry) → IsFound (entry ∷ entries) entry
head_found entry entries = record {
  by_name = first_passes (is_named entry.name entry.arity) entry entries (is_named_itself entry);
  by_number = first_passes (has_number entry.number) entry entries (number_is_itself entry.number);
}

pub behind_found : (first : Entry) (whole : List Entry) (entry : Entry) → differs first entry ≡ true → IsFound whole entry → IsFound (first ∷ whole) entry
behind_found first whole entry other found =
    let apart = neither (is_named entry.name entry.arity first) (has_number entry.number first) other in
    record {
      by_name = first_fails (is_named entry.name entry.arity) first whole apart.0 ∙ found.by_name;
      by_number = first_fails (has_number entry.number) first whole apart.1 ∙ found.by_number;
    }

and_left : (a b : Bool) → (a && b) ≡ true → a ≡ true
and_left true b p = refl
and_left false b p = p

and_right : (a b : Bool) → (a && b) ≡ true → b ≡ true
and_right true b p = p
and_right false b p = absurd (search (rules))

behind_all : (first : Entry) (whole entries : List Entry) → list_all (differs first) entries ≡ true → AllByRecursion (IsFound whole) entries
    → AllByRecursion (IsFound (first ∷ whole)) entries
behind_all first whole [] others found = found
behind_all first whole (entry ∷ entries) others found =
    (behind_found first whole entry (and_left _ _ others) found.0, behind_all first whole entries (and_right (differs first entry) _ others) found.1)

pub finds_each : (entries : List Entry) → are_distinct entries ≡ true → FindsEach entries
finds_each [] distinct = _
finds_each (entry ∷ entries) distinct =
    (head_found entry entries, behind_all entry entries entries (and_left _ _ distinct) (finds_each entries (and_right (list_all (differs entry) entries) _ distinct)))
