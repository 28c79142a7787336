-- Spellings that end where they end: from the bytes of a value and any others behind them, both are known.
use Rattle.std.proofs.Common.{Option, None, Some, unwrap_or, ◌≡◌, ℕ, ◌<◌, ◌^◌, List, [], ◌∷◌, ◌++◌, length, refl, sym, ap, ◌∙◌, append_assoc, arith}
use Rattle.std.specs.List.{flat_map, AllByRecursion}
use Rattle.std.specs.Int.{from_be_bytes, w16, w32}
use Rattle.std.proofs.lemmas.Nat.{from_be_bytes-to_be_bytes_2, from_be_bytes-to_be_bytes_4}
use Rattle.erjang_top.specs.first_path.ClassFile.{u2, u4, counted}

-- x and y are one, and so is what follows them
abbrev pub SameThen : {X : Type 0} → X → X → List ℕ → List ℕ → Type 0
SameThen x y r s = (x ≡ y) × (r ≡ s)

-- a spelling that tells its value, of those in range, and where it ends
abbrev pub Tells : {X : Type 0} → (X → Type 0) → (X → List ℕ) → Type 0
Tells {X} InRange spell = (x y : X) (r s : List ℕ) → InRange x → InRange y → spell x ++ r ≡ spell y ++ s → SameThen x y r s

-- pieces of one length
pub same_front : (xs ys r s : List ℕ) → length xs ≡ length ys → xs ++ r ≡ ys ++ s → SameThen xs ys r s
same_front [] [] r s l e = (refl, e)
same_front [] (y ∷ ys) r s l e = absurd (omega arith)
same_front (x ∷ xs) [] r s l e = absurd (omega arith)
same_front (x ∷ xs) (y ∷ ys) r s l e =
    let here : x ≡ y = cc in
    let rest : SameThen xs ys r s = same_front xs ys r s (omega arith) cc in
    (cc (here, rest.0), rest.1)

pub u2-tells : Tells (λ n. n < 2 ^ 16) u2
u2-tells x y r s f g e =
    let p = same_front (u2 x) (u2 y) r s refl e in
    (sym (from_be_bytes-to_be_bytes_2 x f) ∙ ap (from_be_bytes w16) p.0 ∙ from_be_bytes-to_be_bytes_2 y g, p.1)

pub u4-tells : Tells (λ n. n < 2 ^ 32) u4
u4-tells x y r s f g e =
    let p = same_front (u4 x) (u4 y) r s refl e in
    (sym (from_be_bytes-to_be_bytes_4 x f) ∙ ap (from_be_bytes w32) p.0 ∙ from_be_bytes-to_be_bytes_4 y g, p.1)

-- bytes behind their count
pub counted-tells : Tells (λ bytes. length bytes < 2 ^ 32) counted
counted-tells xs ys r s f g e =
    let p = u4-tells (length xs) (length ys) (xs ++ r) (ys ++ s) f g e in
    same_front xs ys r s p.0 p.1

-- as many items one after the other
pub flat_map-tells : {X : Type 0} (InRange : X → Type 0) (spell : X → List ℕ) → Tells InRange spell
    → (xs ys : List X) (r s : List ℕ) → length xs ≡ length ys → AllByRecursion InRange xs → AllByRecursion InRange ys
    → flat_map spell xs ++ r ≡ flat_map spell ys ++ s → SameThen xs ys r s
flat_map-tells InRange spell tells [] [] r s l f g e = (refl, e)
flat_map-tells InRange spell tells [] (y ∷ ys) r s l f g e = absurd (omega arith)
flat_map-tells InRange spell tells (x ∷ xs) [] r s l f g e = absurd (omega arith)
flat_map-tells InRange spell tells (x ∷ xs) (y ∷ ys) r s l f g e =
    let first = tells x y (flat_map spell xs ++ r) (flat_map spell ys ++ s) f.0 g.0 (sym (append_assoc (spell x) (flat_map spell xs) r) ∙ e ∙ append_assoc (spell y) (flat_map spell ys) s) in
    let rest = flat_map-tells InRange spell tells xs ys r s (omega arith) f.1 g.1 first.1 in
    (cc (first.0, rest.0), rest.1)

-- what a reader takes from the front: a value, and the bytes behind it
abbrev pub Reader : Type 0 → Type 0
Reader X = List ℕ → Option (X × List ℕ)

abbrev pub took : {X : Type 0} → X → List ℕ → Option (X × List ℕ)
took x rest = Some (x, rest)

abbrev pub then_read : {X Y : Type 0} → Option (X × List ℕ) → (X → Reader Y) → Option (Y × List ℕ)
then_read None next = None
then_read (Some p) next = next p.0 p.1

-- the reader takes a value back from its spelling
abbrev pub ReadsBack : {X : Type 0} → (X → Type 0) → (X → List ℕ) → Reader X → Type 0
ReadsBack {X} InRange spell read = (x : X) (rest : List ℕ) → InRange x → read (spell x ++ rest) ≡ took x rest

-- one clause a kind of value shows that its spelling tells it
pub tells_from_reads : {X : Type 0} (InRange : X → Type 0) (spell : X → List ℕ) (read : Reader X) → ReadsBack InRange spell read → Tells InRange spell
tells_from_reads InRange spell read back x y r s f g e =
    let same = sym (back x r f) ∙ ap read e ∙ back y s g in
    (ap (λ (o : Option _). (unwrap_or o (x, r)).0) same, ap (λ (o : Option _). (unwrap_or o (x, r)).1) same)

abbrev pub read_u2 : Reader ℕ
read_u2 [] = None
read_u2 (a ∷ []) = None
read_u2 (a ∷ b ∷ rest) = Some (from_be_bytes w16 (a ∷ b ∷ []), rest)

-- items one after the other and nothing behind them, where no item has no bytes
pub flat_map_same : {X : Type 0} (InRange : X → Type 0) (spell : X → List ℕ) (read : Reader X) → ReadsBack InRange spell read → read [] ≡ None
    → (xs ys : List X) → AllByRecursion InRange xs → AllByRecursion InRange ys → flat_map spell xs ≡ flat_map spell ys → xs ≡ ys
flat_map_same InRange spell read back none [] [] f g e = refl
flat_map_same InRange spell read back none [] (y ∷ ys) f g e =
    let absent : took y (flat_map spell ys) ≡ None = sym (back y (flat_map spell ys) g.0) ∙ ap read (sym e) ∙ none in cc
flat_map_same InRange spell read back none (x ∷ xs) [] f g e =
    let absent : took x (flat_map spell xs) ≡ None = sym (back x (flat_map spell xs) f.0) ∙ ap read e ∙ none in cc
flat_map_same InRange spell read back none (x ∷ xs) (y ∷ ys) f g e =
    let first = tells_from_reads InRange spell read back x y (flat_map spell xs) (flat_map spell ys) f.0 g.0 e in
    let rest = flat_map_same InRange spell read back none xs ys f.1 g.1 first.1 in
    cc (first.0, rest)
