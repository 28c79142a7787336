-- Cells of different kinds are told apart by their kinds.
use Rattle.std.proofs.Common.{◌≡◌, ℕ, ℤ, Bool, List, [], refl, sym, subst, nat_cmp}
use Rattle.term_heap.specs.Works.{kind, opened}
use Rattle.term_heap.specs.declared.cell.TermId.{TermId}
use Rattle.term_heap.specs.declared.cell.Cell.{Cell}
use Rattle.term_heap.specs.declared.cell.Cell.TheVariants as c

abbrev pub Apart : List (List ℕ) → Cell → Cell → Type 0
Apart texts a b = opened texts a b ≡ (nat_cmp (kind a) (kind b), [])

pub apart-Int : (texts : List (List ℕ)) (m : ℤ) (b : Cell) → ((x : ℤ) → b ≡ c.Int x → ⊥) → Apart texts (c.Int m) b
apart-Int texts m (c.Int n) differs = absurd (differs n refl)
apart-Int texts m b differs = refl

pub apart-Atom : (texts : List (List ℕ)) (m : ℕ) (b : Cell) → ((x : ℕ) → b ≡ c.Atom x → ⊥) → Apart texts (c.Atom m) b
apart-Atom texts m (c.Atom n) differs = absurd (differs n refl)
apart-Atom texts m b differs = refl

pub apart-Reference : (texts : List (List ℕ)) (m k : ℕ) (b : Cell) → ((x y : ℕ) → b ≡ c.Reference x y → ⊥) → Apart texts (c.Reference m k) b
apart-Reference texts m k (c.Reference n l) differs = absurd (differs n l refl)
apart-Reference texts m k b differs = refl

pub apart-Fun : (texts : List (List ℕ)) (l : Bool) (m f a x n : ℕ) (b : Cell) → ((l : Bool) (m f a x n : ℕ) → b ≡ c.Fun l m f a x n → ⊥) → Apart texts (c.Fun l m f a x n) b
apart-Fun texts l m f a x n (c.Fun k o g b y p) differs = absurd (differs k o g b y p refl)
apart-Fun texts l m f a x n b differs = refl

pub apart-Pid : (texts : List (List ℕ)) (m k : ℕ) (b : Cell) → ((x y : ℕ) → b ≡ c.Pid x y → ⊥) → Apart texts (c.Pid m k) b
apart-Pid texts m k (c.Pid n l) differs = absurd (differs n l refl)
apart-Pid texts m k b differs = refl

pub apart-Tuple : (texts : List (List ℕ)) (m k : ℕ) (b : Cell) → ((x y : ℕ) → b ≡ c.Tuple x y → ⊥) → Apart texts (c.Tuple m k) b
apart-Tuple texts m k (c.Tuple n l) differs = absurd (differs n l refl)
apart-Tuple texts m k b differs = refl

pub apart-Map : (texts : List (List ℕ)) (m k : ℕ) (b : Cell) → ((x y : ℕ) → b ≡ c.Map x y → ⊥) → Apart texts (c.Map m k) b
apart-Map texts m k (c.Map n l) differs = absurd (differs n l refl)
apart-Map texts m k b differs = refl

pub apart-Cons : (texts : List (List ℕ)) (h t : TermId) (b : Cell) → ((x y : TermId) → b ≡ c.Cons x y → ⊥) → Apart texts (c.Cons h t) b
apart-Cons texts h t (c.Cons k u) differs = absurd (differs k u refl)
apart-Cons texts h t b differs = refl

pub apart-Nil : (texts : List (List ℕ)) (b : Cell) → Apart texts c.Nil b
apart-Nil texts b = refl

-- the same of an equal cell
pub apart-is : (texts : List (List ℕ)) (a d b : Cell) → a ≡ d → Apart texts d b → Apart texts a b
apart-is texts a d b e h = subst (λ (x : Cell). Apart texts x b) (sym e) h
