use Rattle.std.proofs.Common.{ap, sym, ◌∙◌}
use Rattle.std.specs.Ordering.{nat_cmp}
use Rattle.std.specs.Cmp.Lexicographic.{slice_cmp, nat_list_cmp_total}
use Rattle.std.specs.FinMap.{get, find, get-from_entries}
use Rattle.ej_outside.specs.Store.{given_files, entries_in}
use Rattle.ej_outside.proofs.Found.{find_first, find_second}
use Rattle.ej_outside.proofs.store.Store.find.Goals as goal

pub returns-in-Some : goal.returns-in-Some
returns-in-Some c =
    let put = c.in-Some.ensures ∙ ap (λ t. find (slice_cmp nat_cmp) c.args.name.now (entries_in t c.self.inside.lengths.items)) c.deref.ensures.value in
    sym (find_first c.args.name.now _ _ (given_files c.self.inside.given.items) (sym put))
    ∙ sym (get-from_entries nat_list_cmp_total _ _)
    ∙ ap (λ s. get s.files c.args.name.now) c.self.view_is

pub returns-in-None : goal.returns-in-None
returns-in-None c =
    let put = c.in-None.ensures ∙ ap (λ t. find (slice_cmp nat_cmp) c.args.name.now (entries_in t c.self.inside.lengths.items)) c.deref.ensures.value in
    c.find_given.ensures
    ∙ ap (λ g. find (slice_cmp nat_cmp) c.args.name.now (given_files g)) c.deref-in-None.ensures.value
    ∙ sym (find_second c.args.name.now _ _ (sym put))
    ∙ sym (get-from_entries nat_list_cmp_total _ _)
    ∙ ap (λ s. get s.files c.args.name.now) c.self.view_is
