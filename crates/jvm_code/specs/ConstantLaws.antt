-- Entries that are found equal are one.
use Rattle.std.specs.Prelude.{◌≡◌, ℕ, zero, suc, ℤ, pos, negsuc, nat_eq, if◌then◌else◌, true, List, [], ◌∷◌}
use Rattle.std.proofs.Common.{refl, sym, ap, ◌∙◌}
use Rattle.std.proofs.lemmas.Slice.Eq.{bytes_eq-Decides}
use Rattle.jvm_code.specs.declared.class.Constant.{Constant}
use Rattle.jvm_code.specs.declared.class.Constant.TheVariants as c
use Rattle.jvm_code.specs.ConstantKey.{signed, key, same_constant, fed_constant}

abbrev pub first : List ℕ → ℕ
first [] = 0
first (n ∷ _) = n

abbrev pub second : List ℕ → ℕ
second [] = 0
second (_ ∷ ns) = first ns

abbrev tail : List ℕ → List ℕ
tail [] = []
tail (_ ∷ ns) = ns

abbrev pub by_sign : ℕ → ℕ → ℤ
by_sign zero n = pos n
by_sign (suc _) n = negsuc n

abbrev pub worth : List ℕ → ℤ
worth ns = by_sign (first ns) (second ns)

pub worth_signed : (z : ℤ) → worth (signed z) ≡ z
worth_signed (pos n) = refl
worth_signed (negsuc n) = refl

-- the entry of a tag and numbers
abbrev of_tag : ℕ → List ℕ → Constant
of_tag tag ns =
    if nat_eq tag 1 then c.Utf8 ns
    else if nat_eq tag 3 then c.Integer (worth ns)
    else if nat_eq tag 5 then c.Long (worth ns)
    else if nat_eq tag 7 then c.Class (first ns)
    else if nat_eq tag 8 then c.Str (first ns)
    else if nat_eq tag 10 then c.Methodref (first ns) (second ns)
    else if nat_eq tag 12 then c.NameAndType (first ns) (second ns)
    else c.Gap

abbrev of_key : List ℕ → Constant
of_key ns = of_tag (first ns) (tail ns)

of_key_key : (e : Constant) → of_key (key e) ≡ e
of_key_key (c.Utf8 bytes) = refl
of_key_key (c.Integer value) = ap c.Integer (worth_signed value)
of_key_key (c.Long value) = ap c.Long (worth_signed value)
of_key_key (c.Class name) = refl
of_key_key (c.Str text) = refl
of_key_key (c.Methodref class name_and_type) = refl
of_key_key (c.NameAndType name descriptor) = refl
of_key_key c.Gap = refl

pub one_constant : (one other : Constant) → same_constant one other ≡ true → one ≡ other
one_constant one other h = sym (of_key_key one) ∙ ap of_key ((bytes_eq-Decides (key one) (key other)).0 h) ∙ of_key_key other

pub fed_alike : (one other : Constant) → same_constant one other ≡ true → fed_constant one ≡ fed_constant other
fed_alike one other h = ap fed_constant (one_constant one other h)
