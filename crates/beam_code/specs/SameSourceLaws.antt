-- Source operands that are found the same are one.
use Rattle.std.specs.Prelude.{◌≡◌, true, false}
use Rattle.std.specs.Bool.{Decides}
use Rattle.std.specs.Cmp.{IsEquivalence, both_ways}
use Rattle.std.proofs.Common.{refl, sym, ap, ◌∙◌, subst}
use Rattle.std.proofs.lemmas.Bool.{true≢false}
use Rattle.std.proofs.lemmas.Bool.Decides.{Decides-eqb, Decides-int_eq}
use Rattle.std.proofs.lemmas.Slice.Eq.{bytes_eq-Decides}
use Rattle.ej_term.specs.SameLaws.{same_means, same_itself}
use Rattle.beam_code.specs.declared.operand.Reg.{Reg}
use Rattle.beam_code.specs.declared.operand.Reg.TheVariants as register
use Rattle.beam_code.specs.declared.operand.Src.{Src}
use Rattle.beam_code.specs.declared.operand.Src.TheVariants as source
use Rattle.beam_code.specs.SameSource.{same_register, same_source, fed_source}

register_means : (r other : Reg) → same_register r other ≡ true → r ≡ other
register_means (register.X n) (register.X m) h = ap register.X ((Decides-eqb n m).0 h)
register_means (register.Y n) (register.Y m) h = ap register.Y ((Decides-eqb n m).0 h)
register_means (register.X n) (register.Y m) h = absurd (true≢false (sym h))
register_means (register.Y n) (register.X m) h = absurd (true≢false (sym h))

register_itself : (r : Reg) → same_register r r ≡ true
register_itself (register.X n) = (Decides-eqb n n).1 refl
register_itself (register.Y n) = (Decides-eqb n n).1 refl

pub source_means : (s other : Src) → same_source s other ≡ true → s ≡ other
source_means (source.Reg r) (source.Reg other) h = ap source.Reg (register_means r other h)
source_means (source.Int n) (source.Int m) h = ap source.Int ((Decides-int_eq n m).0 h)
source_means (source.Atom name) (source.Atom other) h = ap source.Atom ((bytes_eq-Decides name other).0 h)
source_means source.Nil source.Nil h = refl
source_means (source.Literal term) (source.Literal other) h = ap source.Literal (same_means term other h)
source_means _ _ h = absurd (true≢false (sym h))

pub source_itself : (s : Src) → same_source s s ≡ true
source_itself (source.Reg r) = register_itself r
source_itself (source.Int n) = (Decides-int_eq n n).1 refl
source_itself (source.Atom name) = (bytes_eq-Decides name name).1 refl
source_itself source.Nil = refl
source_itself (source.Literal term) = same_itself term

same_either_way : (s other : Src) → same_source s other ≡ true → same_source other s ≡ true
same_either_way s other h = subst (λ u. same_source u s ≡ true) (source_means s other h) (source_itself s)

pub source_equiv : IsEquivalence same_source
source_equiv = record {
  refl = source_itself;
  symm = λ x y. both_ways (same_source x y) (same_source y x) (same_either_way x y) (same_either_way y x);
  congr = λ x y z e. ap (λ v. same_source v z) (source_means x y e);
}

-- what is the same is fed alike
pub fed_alike : (s other : Src) → same_source s other ≡ true → fed_source s ≡ fed_source other
fed_alike s other h = ap fed_source (source_means s other h)
