use Rattle.std.proofs.Common.{◌≡◌, nat_cmp, refl}
use Rattle.std.proofs.lemmas.Iterator.{YieldsList-from_chars}
use Rattle.std.proofs.lemmas.Iterator.Search.{cmp_from_yields_List}
use Rattle.term_heap.proofs.order.compare_texts.Goals as goal

pub returns : goal.returns
returns c = cmp_from_yields_List (λ x y. y ≡ x) c.chars-2.result nat_cmp c.cmp.result c.cmp.ensures.ran (YieldsList-from_chars c.args.a.now c.utf8.a c.chars.ensures.rest) (λ it e. YieldsList-from_chars c.args.b.now c.utf8.b cc) (λ x y. refl)
