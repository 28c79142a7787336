-- The weights that are summed up from front to back are those of the function.
use Rattle.std.proofs.Common.{◌≡◌, ℕ, ◌+◌, ◌*◌, ◌<◌, Bool, true, false, nat_eq, cond, ◌||◌, List, [], ◌∷◌, ◌++◌, length, map, get_or, Option, None, Some, refl, sym, ap, ◌∙◌, arith}
use Rattle.std.specs.Prelude.{if◌then◌else◌}
use Rattle.std.specs.Cmp.{nat_eq_equiv}
use Rattle.std.specs.List.{sum, filter, flat_map, list_any, cons_option}
use Rattle.std.specs.Option.{option_map_or}
use Rattle.std.proofs.lemmas.List.Folds.{list_any-append}
use Rattle.std.proofs.lemmas.List.{get_or-map}
use Rattle.std.proofs.lemmas.List.Sums.{sum_by-cons}
use Rattle.beam_code.specs.declared.instr.Instr.{Instr}
use Rattle.beam_code.specs.declared.module.Function.{Function}
use Rattle.beam_code.specs.Code.{FunctionCode, function_code, no_function, opcode}
use Rattle.beam_code.specs.Flow.{flow}
use Rattle.beam_code.specs.FlowParts.{allows, entered, left, parts}
use Rattle.beam_code.specs.Good.{Assignment, next_state}
use Rattle.beam_code.specs.Labels.{is_in, defined_by, defined_in, with_label}
use Rattle.beam_code.specs.Opcode.{Opcode}
use Rattle.beam_code.specs.Slots.{State}
use Rattle.beam_code.specs.Weights.{entered_labels, branch_labels, branches_back, places_from, places_of, weight_at, entry_labels, entry_weight, is_wide, weight, saturated}
use Rattle.beam_code.proofs.FlowPartsLaw.{flow-parts}
use Rattle.slot_kinds.specs.declared.counts.Counts.{Counts}
use Rattle.slot_kinds.specs.Walked.{counts_at, weighed, with_seen, back_count, weighed_from, makes_entry, makes_entries, entry_weighed, entry_of, entries_of, is_wide_at, widens, after}

-- Labels that were passed.

seen-label : (labels : List ℕ) (label : Option ℕ) (q : ℕ) → with_seen (is_in labels) label q ≡ is_in (with_label labels label) q
seen-label labels None q = refl
seen-label labels (Some n) q =
    by (nat_eq n q) (is_in labels q) ∙ ap (λ b. is_in labels q || (b || false)) (nat_eq_equiv.symm n q)
    ∙ sym (list_any-append (nat_eq q) labels (n ∷ []))
  where
    by : (b c : Bool) → cond b true c ≡ (c || (b || false))
    by true true = refl
    by true false = refl
    by false true = refl
    by false false = refl

-- none of them
pub none-seen : (labels : List ℕ) → length (filter (λ q. false) labels) ≡ 0
none-seen [] = refl
none-seen (label ∷ labels) = none-seen labels

-- The weights of the instructions.

pub weighed-places : (wide : Bool) (at : Assignment) (labels : List ℕ) (before : Option State) (code : List Opcode)
    → weighed_from wide at (is_in labels) before code ≡ sum (map (weight_at wide) (places_from at labels before code))
weighed-places wide at labels before [] = refl
weighed-places wide at labels before (o ∷ code) =
    ap (λ seen. here + weighed_from wide at seen (next_state at o before) code) (λ i q. seen-label labels (defined_by o) q i)
    ∙ ap (λ n. here + n) (weighed-places wide at (with_label labels (defined_by o)) (next_state at o before) code)
    ∙ sym (sum_by-cons (λ n. n) here (map (weight_at wide) (places_from at (with_label labels (defined_by o)) (next_state at o before) code)))
  where
    here : ℕ
    here = weighed wide o (counts_at before) (back_count (is_in labels) o)

sum-first : (a b c : ℕ) → saturated (saturated a + saturated b) ≡ saturated (a + b)
sum-first a b c = omega arith

-- one more instruction
pub weighed-more : (wide : Bool) (at : Assignment) (seen passed : ℕ → Bool) (before next : Option State) (o : Opcode) (left more : List Opcode) (counts : Counts) (back total new w target : ℕ)
    → more ≡ o ∷ left → counts_at before ≡ counts → back ≡ back_count seen o → w ≡ saturated (weighed wide o counts back) → new ≡ saturated (total + w)
    → next ≡ next_state at o before → ((q : ℕ) → passed q ≡ with_seen seen (defined_by o) q)
    → saturated (total + weighed_from wide at seen before more) ≡ target → saturated (new + weighed_from wide at passed next left) ≡ target
weighed-more wide at seen passed before next o left more counts back total new w target e k b h n s t g =
    ap (λ f. saturated (new + weighed_from wide at f next left)) (λ i q. t q i)
    ∙ ap (λ p. saturated (new + weighed_from wide at (with_seen seen (defined_by o)) p left)) s
    ∙ joined new total w (weighed wide o (counts_at before) (back_count seen o)) (weighed_from wide at (with_seen seen (defined_by o)) (next_state at o before) left)
    n (h ∙ ap (λ c. saturated (weighed wide o c back)) (sym k) ∙ ap (λ m. saturated (weighed wide o (counts_at before) m)) b)
    ∙ ap (λ c. saturated (total + weighed_from wide at seen before c)) (sym e)
    ∙ g
  where
    joined : (new total w a r : ℕ) → new ≡ saturated (total + w) → w ≡ saturated a → saturated (new + r) ≡ saturated (total + (a + r))
    joined new total w a r n h = omega arith

pub weighed-end : (wide : Bool) (at : Assignment) (seen : ℕ → Bool) (before : Option State) (more : List Opcode) (total target : ℕ)
    → more ≡ [] → saturated total ≡ total → saturated (total + weighed_from wide at seen before more) ≡ target → total ≡ target
weighed-end wide at seen before more total target e t g =
    sym t ∙ plus-none total ∙ ap (λ c. saturated (total + weighed_from wide at seen before c)) (sym e) ∙ g
  where
    plus-none : (n : ℕ) → saturated n ≡ saturated (n + 0)
    plus-none n = omega arith

-- the first instruction, and the others
pub weighed-all : (wide : Bool) (at : Assignment) (info : Opcode) (rest code : List Opcode) (before : Option State) (begun others total : ℕ) → code ≡ info ∷ rest
    → begun ≡ saturated (weighed wide info (counts_at None) 0) → before ≡ next_state at info None
    → others ≡ saturated (weighed_from wide at (λ q. false) before rest) → total ≡ saturated (begun + others)
    → total ≡ saturated (sum (map (weight_at wide) (places_of at code)))
weighed-all wide at info rest code before begun others total e b n r t =
    t
    ∙ joined begun others _ _ (b ∙ ap (λ m. saturated (weighed wide info (counts_at None) m)) (sym (none-seen (branch_labels info))))
    (r ∙ ap (λ s. saturated (weighed_from wide at (λ q. false) s rest)) n ∙ ap saturated (weighed-places wide at [] (next_state at info None) rest))
    ∙ ap saturated (sym (sum_by-cons (λ m. m) (weighed wide info (counts_at None) (back_count (λ q. false) info)) (map (weight_at wide) (places_from at [] (next_state at info None) rest))))
    ∙ ap (λ c. saturated (sum (map (weight_at wide) (places_of at c)))) (sym e)
  where
    joined : (x y a b : ℕ) → x ≡ saturated a → y ≡ saturated b → saturated (x + y) ≡ saturated (a + b)
    joined x y a b p q = omega arith

-- Whether some state has a tag of more than one label.

wide-first : (at : Assignment) (o : Opcode) (code : List Opcode) → is_wide at (o ∷ code) ≡ (widens at o || is_wide at code)
wide-first at o code = by (defined_by o)
  where
    by : (label : Option ℕ) → list_any (λ label. is_wide_at (at label)) (cons_option label (defined_in code)) ≡ (option_map_or (λ label. is_wide_at (at label)) label false || is_wide at code)
    by None = refl
    by (Some label) = refl

module _ (at : Assignment) (o : Opcode) (left more whole : List Opcode) (e : more ≡ o ∷ left) (g : is_wide at more ≡ is_wide at whole) where
  pub wide-here : widens at o ≡ true → true ≡ is_wide at whole
  wide-here h = ap (λ b. b || is_wide at left) (sym h) ∙ sym (wide-first at o left) ∙ ap (is_wide at) (sym e) ∙ g

  pub wide-not-here : widens at o ≡ false → is_wide at left ≡ is_wide at whole
  wide-not-here h = ap (λ b. b || is_wide at left) (sym h) ∙ sym (wide-first at o left) ∙ ap (is_wide at) (sym e) ∙ g

-- The labels that are entries.

four : (e l b m : Bool) → ((e || l) || (b || m)) ≡ ((e || b) || (l || m))
four true l b m = refl
four false true true m = refl
four false true false m = refl
four false false true m = refl
four false false false m = refl

both-in : (one other more others : List ℕ) (q : ℕ) → is_in ((one ++ more) ++ (other ++ others)) q ≡ ((is_in one q || is_in other q) || is_in (more ++ others) q)
both-in one other more others q =
    list_any-append (nat_eq q) (one ++ more) (other ++ others)
    ∙ ap (λ b. b || is_in (other ++ others) q) (list_any-append (nat_eq q) one more)
    ∙ ap (λ b. (is_in one q || is_in more q) || b) (list_any-append (nat_eq q) other others)
    ∙ four (is_in one q) (is_in more q) (is_in other q) (is_in others q)
    ∙ ap (λ b. (is_in one q || is_in other q) || b) (sym (list_any-append (nat_eq q) more others))

entries-places : (at : Assignment) (labels : List ℕ) (before : Option State) (code : List Opcode) (q : ℕ)
    → is_in (flat_map entered_labels code ++ flat_map branches_back (places_from at labels before code)) q ≡ makes_entries (is_in labels) code q
entries-places at labels before [] q = refl
entries-places at labels before (o ∷ code) q =
    both-in (entered_labels o) (filter (is_in labels) (branch_labels o)) (flat_map entered_labels code) (flat_map branches_back (places_from at (with_label labels (defined_by o)) (next_state at o before) code)) q
    ∙ ap (λ b. makes_entry (is_in labels) o q || b) (entries-places at (with_label labels (defined_by o)) (next_state at o before) code q)
    ∙ ap (λ seen. makes_entry (is_in labels) o q || makes_entries seen code q) (λ i p. sym (seen-label labels (defined_by o) p) i)

-- one more instruction
pub entries-more : (seen passed has new : ℕ → Bool) (o : Opcode) (left more : List Opcode) → more ≡ o ∷ left → ((q : ℕ) → new q ≡ (has q || makes_entry seen o q))
    → ((q : ℕ) → passed q ≡ with_seen seen (defined_by o) q) → (q : ℕ) → (new q || makes_entries passed left q) ≡ (has q || makes_entries seen more q)
entries-more seen passed has new o left more e h t q =
    ap (λ b. b || makes_entries passed left q) (h q) ∙ grouped (has q) (makes_entry seen o q) (makes_entries passed left q)
    ∙ ap (λ f. has q || (makes_entry seen o q || makes_entries f left q)) (λ i p. t p i)
    ∙ ap (λ c. has q || makes_entries seen c q) (sym e)
  where
    grouped : (a b c : Bool) → ((a || b) || c) ≡ (a || (b || c))
    grouped true b c = refl
    grouped false b c = refl

-- the first instruction, and the others
pub entries-all : (at : Assignment) (info : Opcode) (rest code : List Opcode) (mid new : ℕ → Bool) → code ≡ info ∷ rest → ((q : ℕ) → mid q ≡ makes_entry (λ p. false) info q)
    → ((q : ℕ) → new q ≡ (mid q || makes_entries (λ p. false) rest q)) → (q : ℕ) → new q ≡ is_in (entry_labels at code) q
entries-all at info rest code mid new e m n q =
    n q ∙ ap (λ b. b || makes_entries (λ p. false) rest q) (m q)
    ∙ ap (λ b. makes_entry (λ p. false) info q || b) (sym (entries-places at [] (next_state at info None) rest q))
    ∙ sym (both-in (entered_labels info) (filter (λ p. false) (branch_labels info)) (flat_map entered_labels rest) (flat_map branches_back (places_from at [] (next_state at info None) rest)) q)
    ∙ ap (λ c. is_in (entry_labels at c) q) (sym e)

-- What the entries weigh.

pub entries-end : (at : Assignment) (has : ℕ → Bool) (more : List Opcode) (total target : ℕ) → more ≡ [] → saturated total ≡ total
    → saturated (total + entries_of at has more) ≡ target → total ≡ target
entries-end at has more total target e t g = sym t ∙ plus-none total ∙ ap (λ c. saturated (total + entries_of at has c)) (sym e) ∙ g
  where
    plus-none : (n : ℕ) → saturated n ≡ saturated (n + 0)
    plus-none n = omega arith

entries-sum : (at : Assignment) (labels : List ℕ) (code : List Opcode) → entries_of at (is_in labels) code ≡ sum (map (entry_weight at labels) (defined_in code))
entries-sum at labels [] = refl
entries-sum at labels (o ∷ code) = ap (λ n. entry_of at (is_in labels) o + n) (entries-sum at labels code) ∙ by (defined_by o)
  where
    by : (label : Option ℕ) → option_map_or (entry_weighed at (is_in labels)) label 0 + sum (map (entry_weight at labels) (defined_in code)) ≡ sum (map (entry_weight at labels) (cons_option label (defined_in code)))
    by None = from-zero (sum (map (entry_weight at labels) (defined_in code)))
      where
        from-zero : (n : ℕ) → 0 + n ≡ n
        from-zero n = omega arith
    by (Some label) = sym (sum_by-cons (λ n. n) (entry_weight at labels label) (map (entry_weight at labels) (defined_in code)))

-- with the same entries
pub entries-same : (at : Assignment) (has : ℕ → Bool) (labels : List ℕ) (code : List Opcode) → ((q : ℕ) → has q ≡ is_in labels q)
    → entries_of at has code ≡ sum (map (entry_weight at labels) (defined_in code))
entries-same at has labels code e = ap (λ f. entries_of at f code) (λ i q. e q i) ∙ entries-sum at labels code

-- The state after an instruction.

pub after-row : (o : Opcode) (s : State) → allows o s ≡ true → left o (entered o s) ≡ after (flow o s)
after-row o s h = ap after (ap (λ b. if b then Some (parts o s) else None) (sym h) ∙ sym (flow-parts o s))

pub after-none : (o : Opcode) (s : State) → allows o s ≡ false → None ≡ after (flow o s)
after-none o s h = ap after (ap (λ b. if b then Some (parts o s) else None) (sym h) ∙ sym (flow-parts o s))

-- The whole.

-- the function of a number is the one that was read
pub function-read : (functions seen : List Function) (func : ℕ) (f : Function) → seen ≡ functions → func < length functions → f ≡ get_or seen func f → function_code f ≡ get_or (map function_code functions) func no_function
function-read functions seen func f e h is = ap function_code (is ∙ ap (λ fs. get_or fs func f) e) ∙ sym (get_or-map function_code functions func f no_function h)

pub weight-is : (at : Assignment) (f : Function) (g : FunctionCode) (code : List Instr) (has : ℕ → Bool) (base inner mid others w : ℕ) → function_code f ≡ g → code ≡ f.code
    → base ≡ saturated (64 + 12 * f.arity) → inner ≡ saturated (sum (map (weight_at (is_wide at (map opcode code))) (places_of at (map opcode code)))) → mid ≡ saturated (base + inner)
    → ((q : ℕ) → has q ≡ is_in (entry_labels at (map opcode code)) q) → others ≡ saturated (entries_of at has (map opcode code)) → w ≡ saturated (mid + others) → w ≡ weight at g
weight-is at f g code has base inner mid others w is e b i m h o s =
    joined base inner mid others w (64 + 12 * f.arity) (sum (map (weight_at (is_wide at (map opcode code))) (places_of at (map opcode code)))) (sum (map (entry_weight at (entry_labels at (map opcode code))) (defined_in (map opcode code))))
    b i m (o ∙ ap saturated (entries-same at has (entry_labels at (map opcode code)) (map opcode code) h)) s
    ∙ ap (λ c. saturated ((64 + 12 * f.arity) + sum (map (weight_at (is_wide at (map opcode c))) (places_of at (map opcode c))) + sum (map (entry_weight at (entry_labels at (map opcode c))) (defined_in (map opcode c))))) e
    ∙ ap (weight at) is
  where
    joined : (base inner mid others w a p q : ℕ) → base ≡ saturated a → inner ≡ saturated p → mid ≡ saturated (base + inner) → others ≡ saturated q → w ≡ saturated (mid + others) → w ≡ saturated ((a + p) + q)
    joined base inner mid others w a p q b i m o s = omega arith
