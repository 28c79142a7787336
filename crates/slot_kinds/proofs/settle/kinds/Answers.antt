use Rattle.std.proofs.Common.{length, ◌≡◌, ◌<◌, true, List, map, get_or, sym, ap, subst, ◌∙◌}
use Rattle.std.proofs.lemmas.List.{length-map}
use Rattle.beam_code.specs.declared.module.Function.{Function}
use Rattle.beam_code.specs.Code.{function_code, no_function}
use Rattle.beam_code.specs.Labels.{defined_in, is_in, no_label_twice, begins_well, uses_labels_well, scope_of, arity_of}
use Rattle.slot_kinds.specs.Tags.{NamesKnown}
use Rattle.slot_kinds.proofs.RulesLaw.{all-at, names-from, entry-own}
use Rattle.slot_kinds.proofs.SettleLaw.{distinct-at, function-is}
use Rattle.slot_kinds.proofs.settle.kinds.Goals as goal

pub function_kinds-requires : goal.function_kinds-requires
function_kinds-requires c =
    let fs : List Function = c.args.module.now.functions in
    let e : c.as_slice.result.now ≡ fs = c.as_slice.ensures in
    let is : get_or (map function_code fs) c.args.func no_function ≡ function_code c.index-as_slice-func.result =
    function-is fs c.args.func c.index-as_slice-func.result c.requires.func_in_range (c.index-as_slice-func.is ∙ ap (λ l. get_or l c.args.func c.index-as_slice-func.result) e) in
    let within : c.args.func < length (map function_code fs) = subst (λ n. c.args.func < n) (sym (length-map fs function_code)) c.requires.func_in_range in
    record {
      distinct = subst (λ f. no_label_twice (defined_in f.code) ≡ true) is (distinct-at (map function_code fs) c.args.func no_function within c.requires.ruled.distinct);
      entered = subst (λ f. is_in (defined_in f.code) f.entry ≡ true) is (entry-own c.args.module.now.name (get_or (map function_code fs) c.args.func no_function) (all-at (begins_well c.args.module.now.name) (map function_code fs) c.args.func no_function within c.requires.ruled.beginnings));
      names_known =
          subst (λ f. NamesKnown (is_in (defined_in f.code)) f.code) is
          (names-from (scope_of (arity_of (map function_code fs)) (get_or (map function_code fs) c.args.func no_function)) (get_or (map function_code fs) c.args.func no_function).code
          (all-at (uses_labels_well (arity_of (map function_code fs))) (map function_code fs) c.args.func no_function within c.requires.ruled.uses) (λ l i. i));
    }
