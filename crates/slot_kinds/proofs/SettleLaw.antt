-- The table settles label by label, and is then the most defined good assignment.
use Rattle.std.proofs.Common.{◌≡◌, ◌<◌, ◌≤◌, ℕ, zero, suc, Bool, true, false, cond, nat_eq, nat_lt, ◌&&◌, ◌||◌, List, [], ◌∷◌, ◌++◌, not, map, get_or, length, Option, None, Some, refl, sym, ap, subst, ◌∙◌, arith, append-nil}
use Rattle.std.specs.Prelude.{if◌then◌else◌, is_some, option_map, Result}
use Rattle.std.specs.List.{list_any, flat_map}
use Rattle.std.specs.Ordering.{nat_cmp}
use Rattle.std.specs.declared.cmp.Ordering.TheVariants.{Less}
use Rattle.std.specs.BTreeMap as tree
use Rattle.std.specs.BTreeSet as set
use Rattle.std.specs.BTreeSet.{BTreeSet}
use Rattle.std.specs.Map.{lookup, keys_of}
use Rattle.std.specs.List.Sorted.{IsStrictlySortedBy}
use Rattle.std.proofs.lemmas.Bool.{true≢false}
use Rattle.std.proofs.lemmas.Bool.Decides.{nat_tests}
use Rattle.std.proofs.lemmas.List.{get_or-map}
use Rattle.std.proofs.lemmas.Map.Made.{is_some-lookup}
use Rattle.std.proofs.lemmas.Map.Keys.{sorted_head, sorted_tail}
use Rattle.beam_code.specs.declared.slot_state.SlotMap.{SlotMap}
use Rattle.beam_code.specs.declared.slot_state.SlotState.{SlotState}
use Rattle.beam_code.specs.declared.module.Function.{Function}
use Rattle.beam_code.specs.declared.instr.Instr.{Instr}
use Rattle.beam_code.specs.Code.{opcode, FunctionCode, function_code, no_function}
use Rattle.beam_code.specs.Good.{Assignment, GoesTo, MostDefined, NoneGood, assignment_of, listed_at}
use Rattle.beam_code.specs.Labels.{is_in, defined_in, no_label_twice}
use Rattle.beam_code.specs.Opcode.{Opcode}
use Rattle.beam_code.specs.SlotForm.{rises, rises_from}
use Rattle.beam_code.specs.Slots.{State, BelowIfReached, entry_state, state_of}
use Rattle.slot_kinds.specs.declared.fault.SlotFault.{SlotFault}
use Rattle.slot_kinds.specs.declared.table.Row.{Row}
use Rattle.slot_kinds.specs.declared.table.Table.{Table}
use Rattle.slot_kinds.specs.Segments.{Under, Segment, behind}
use Rattle.slot_kinds.specs.Tags.{NamesKnown}
use Rattle.slot_kinds.specs.Tables.{known, state_in, held, places, is_pending, work, Nothing, Goes, Refuses, ArePlaces}
use Rattle.slot_kinds.specs.Rows.{IsFresh}
use Rattle.slot_kinds.specs.Walks.{KeepsFrom, KeepsEach}
use Rattle.slot_kinds.specs.Best.{IsBest}
use Rattle.slot_kinds.specs.Settles.{IsQuiet, SettlesTo, entry_of}
use Rattle.slot_kinds.proofs.GoesLaw.{goes-none, goes-end, Outcome}
use Rattle.slot_kinds.proofs.SegmentLaw.{under-same, under-under, segment-none, segment-more, segment-below, segment-behind, good-from}

at-same : (l q : ℕ) → tree.is_at (nat_cmp l) q ≡ true → l ≡ q
at-same l q h = grind (arith, nat_tests)

at-eq : (l q : ℕ) → tree.is_at (nat_cmp l) q ≡ nat_eq l q
at-eq l q = grind (arith, nat_tests)

eq-at : (l q : ℕ) → nat_eq q l ≡ tree.is_at (nat_cmp l) q
eq-at l q = grind (arith, nat_tests)

-- a label that the code does not define is not reached
unplaced : (code : List Opcode) (t : Table) (label : ℕ) → ArePlaces code (places t) → is_in (defined_in code) label ≡ false → held t label ≡ None
unplaced code t label a e = by (tree.get nat_cmp t.rows label) refl
  where
    by : (o : Option Row) → tree.get nat_cmp t.rows label ≡ o → state_in o ≡ None
    by None h = refl
    by (Some row) h = absurd (true≢false (sym (ap (λ o. is_some (option_map (λ (row : Row). row.place) o)) h) ∙ a.defined label ∙ e))

-- what is kept of each label's code is kept from lower states
kept-low : (code : List Opcode) (t : Table) (label : ℕ) (at : Assignment) → ArePlaces code (places t) → Under (held t) at → KeepsEach code at → Segment at (behind label code) (held t label)
kept-low code t label at a u k = by (is_in (defined_in code) label) refl
  where
    by : (b : Bool) → is_in (defined_in code) label ≡ b → Segment at (behind label code) (held t label)
    by true e = segment-below at (behind label code) (held t label) (at label) (u label) (k label e)
    by false e = subst (Segment at (behind label code)) (sym (unplaced code t label a e)) (segment-none at (behind label code))

-- without a label that was pending
abbrev pub popped : Table → BTreeSet ℕ → Table
popped t pending = record { rows = t.rows; pending = pending }

pub settle-none : (code : List Opcode) (t : Table) → IsQuiet code t → SettlesTo code t t
settle-none code t q = record { stays = refl; rises = under-same (held t); least = λ at u k. u; quiet = q }

pub settle-more : (code : List Opcode) (a t b : Table) (pending : BTreeSet ℕ) (label : ℕ) → ArePlaces code (places a) → SettlesTo code a t → set.Updates nat_cmp t.pending pending label false
    → Goes (KeepsFrom (behind label code) (held t label)) Nothing (popped t pending) b → SettlesTo code a b
settle-more code a t b pending label p s u g = record {
  stays = g.stays ∙ s.stays;
  rises = under-under (held a) (held t) (held b) s.rises g.rises;
  least = λ at v k. g.least at (s.least at v k) (kept-low code t label at (subst (ArePlaces code) (sym s.stays) p) (s.least at v k) k);
  quiet = λ l e. subst (Segment (held b) (behind l code)) (sym (g.kept l e)) (by l (g.settled l e) (tree.is_at (nat_cmp label) l) refl);
}
  where
    by : (l : ℕ) → set.contains nat_cmp pending l ≡ false → (c : Bool) → tree.is_at (nat_cmp label) l ≡ c → Segment (held b) (behind l code) (held t l)
    by l e true c = subst (λ q. Segment (held b) (behind q code) (held t q)) (at-same label l c) (g.done (held b) (under-same (held b)) tt)
    by l e false c = segment-more (held t) (held b) g.rises (behind l code) (held t l) (s.quiet l (sym (u.0 l ∙ ap (λ d. cond d false (is_pending t l)) c) ∙ e))

pub settle-refused : (code : List Opcode) (a t : Table) (pending : BTreeSet ℕ) (label : ℕ) → ArePlaces code (places a) → SettlesTo code a t
    → Refuses (KeepsFrom (behind label code) (held t label)) (popped t pending) → Refuses (KeepsEach code) a
settle-refused code a t pending label p s r at u k = r at (s.least at u k) (kept-low code t label at (subst (ArePlaces code) (sym s.stays) p) (s.least at u k) k)

pub work-falls : (t b : Table) (pending : BTreeSet ℕ) (label : ℕ) → t.pending.keys ≡ label ∷ pending.keys → work b ≤ work (popped t pending) → work b < work t
work-falls t b pending label e h = omega (arith, ap length e)

-- The end.

no-pending : (t : Table) → t.pending.keys ≡ [] → (l : ℕ) → is_pending t l ≡ false
no-pending t e l = ap (list_any (tree.is_at (nat_cmp l))) e

-- before anything is gone through, only the entry is reached
pub first-quiet : (code : List Opcode) (t u : Table) (entry : ℕ × State) → IsFresh code t → Goes (λ at. GoesTo at entry) Nothing t u → IsQuiet code u
first-quiet code t u entry f g l e = subst (Segment (held u) (behind l code)) (sym (g.kept l e ∙ f.unreached l)) (segment-none (held u) (behind l code))

fresh-under : (code : List Opcode) (t : Table) (at : Assignment) → IsFresh code t → Under (held t) at
fresh-under code t at f l = subst (λ o. BelowIfReached o (at l)) (sym (f.unreached l)) tt

pub first-refused : (f : FunctionCode) (t : Table) → IsFresh f.code t → Refuses (λ at. GoesTo at (f.entry, entry_state f.arity)) t → NoneGood f
first-refused f t fresh r at g = r at (fresh-under f.code t at fresh) g.enters

pub none-good : (f : FunctionCode) (t u : Table) → IsFresh f.code t → Goes (λ at. GoesTo at (f.entry, entry_state f.arity)) Nothing t u → Refuses (KeepsEach f.code) u → NoneGood f
none-good f t u fresh g r at good = r at (g.least at (fresh-under f.code t at fresh) good.enters) (segment-behind f at good)

pub most-defined : (f : FunctionCode) (t u v : Table) (at : Assignment) → no_label_twice (defined_in f.code) ≡ true → IsFresh f.code t → Goes (λ at. GoesTo at (f.entry, entry_state f.arity)) Nothing t u
    → SettlesTo f.code u v → v.pending.keys ≡ [] → at ≡ held v → MostDefined f at
most-defined f t u v at d fresh g s e is = subst (MostDefined f) (sym is) (record {
  good = good-from f (held v) d (g.done (held v) s.rises tt) (λ l i. s.quiet l (no-pending v e l));
  below = λ other good l i. s.least other (g.least other (fresh-under f.code t other fresh) good.enters) (segment-behind f other good) l;
})

-- The map.

pub listed-held : (es : List (ℕ × Row)) (l : ℕ) → listed_at (map entry_of es) l ≡ state_in (lookup (tree.is_at (nat_cmp l)) es)
listed-held [] l = refl
listed-held (e ∷ es) l = ap (λ b. if b then option_map state_of e.1.state else listed_at (map entry_of es) l) (eq-at l e.0) ∙ by (tree.is_at (nat_cmp l) e.0) (listed-held es l)
  where
    by : (b : Bool) → listed_at (map entry_of es) l ≡ state_in (lookup (tree.is_at (nat_cmp l)) es)
        → (if b then option_map state_of e.1.state else listed_at (map entry_of es) l) ≡ state_in (cond b (Some e.1) (lookup (tree.is_at (nat_cmp l)) es))
    by true h = refl
    by false h = h

listed-keys : (es : List (ℕ × Row)) (l : ℕ) → is_in (map (λ (e : ℕ × Option SlotState). e.0) (map entry_of es)) l ≡ list_any (tree.is_at (nat_cmp l)) (keys_of es)
listed-keys [] l = refl
listed-keys (e ∷ es) l =
    ap (λ b. b || is_in (map (λ (e : ℕ × Option SlotState). e.0) (map entry_of es)) l) (sym (at-eq l e.0)) ∙ ap (λ b. tree.is_at (nat_cmp l) e.0 || b) (listed-keys es l)

less-is : (m n : ℕ) → nat_cmp m n ≡ Less → nat_lt m n ≡ true
less-is m n h = grind (arith, nat_tests)

and-left : (a b : Bool) → (a && b) ≡ true → a ≡ true
and-left true b h = refl
and-left false b h = h

and-right : (a b : Bool) → (a && b) ≡ true → b ≡ true
and-right true b h = h
and-right false b h = absurd (true≢false (sym h))

and-both : (a b : Bool) → a ≡ true → b ≡ true → (a && b) ≡ true
and-both true b p q = q
and-both false b p q = p

rises-behind : (k : ℕ) (ks : List ℕ) → IsStrictlySortedBy nat_cmp (k ∷ ks) → rises_from k ks ≡ true
rises-behind k [] s = refl
rises-behind k (m ∷ ms) s = and-both (nat_lt k m) (rises_from m ms) (less-is k m (sorted_head nat_cmp k (m ∷ ms) s).0) (rises-behind m ms (sorted_tail nat_cmp k (m ∷ ms) s))

sorted-rises : (ks : List ℕ) → IsStrictlySortedBy nat_cmp ks → rises ks ≡ true
sorted-rises [] s = refl
sorted-rises (k ∷ ks) s = rises-behind k ks s

same-keys : (es : List (ℕ × Row)) → map (λ (e : ℕ × Option SlotState). e.0) (map entry_of es) ≡ keys_of es
same-keys [] = refl
same-keys (e ∷ es) = ap (λ l. e.0 ∷ l) (same-keys es)

pub map-rises : (es : List (ℕ × Row)) → IsStrictlySortedBy nat_cmp (keys_of es) → rises (map (λ (e : ℕ × Option SlotState). e.0) (map entry_of es)) ≡ true
map-rises es s = ap rises (same-keys es) ∙ sorted-rises (keys_of es) s

same-some : (o : Option Row) → is_some (option_map (λ (row : Row). row.place) o) ≡ is_some o
same-some None = refl
same-some (Some row) = refl

pub is-best : (f : FunctionCode) (t u v : Table) (m : SlotMap) → no_label_twice (defined_in f.code) ≡ true → IsFresh f.code t → Goes (λ at. GoesTo at (f.entry, entry_state f.arity)) Nothing t u
    → SettlesTo f.code u v → v.pending.keys ≡ [] → m.at ≡ map entry_of v.rows.entries → IsBest f m
is-best f t u v m d fresh g s e is = record {
  best = most-defined f t u v (assignment_of m) d fresh g s e (λ i l. (ap (λ es. listed_at es l) is ∙ listed-held v.rows.entries l) i);
  lists = λ l. ap (λ es. is_in (map (λ (e : ℕ × Option SlotState). e.0) es) l) is ∙ listed-keys v.rows.entries l ∙ sym (is_some-lookup (tree.is_at (nat_cmp l)) v.rows.entries)
      ∙ sym (same-some (tree.get nat_cmp v.rows l)) ∙ ap (λ p. is_some (p l)) (s.stays ∙ g.stays) ∙ fresh.are.defined l;
}

-- a label that is not reached needs nothing
pub idle : (code : List Opcode) (t : Table) (label : ℕ) → held t label ≡ None → Goes (KeepsFrom code (held t label)) Nothing t t
idle code t label e =
    goes-end (KeepsFrom code (held t label)) (KeepsFrom code (held t label)) t t (λ at. subst (Segment at code) (sym e) (segment-none at code)) (goes-none (KeepsFrom code (held t label)) t)

pub no-row : (t : Table) (label : ℕ) → tree.get nat_cmp t.rows label ≡ None → held t label ≡ None
no-row t label e = ap state_in e

pub no-state : (t : Table) (label : ℕ) (row : Row) → tree.get nat_cmp t.rows label ≡ Some row → row.state ≡ None → held t label ≡ None
no-state t label row e s = ap state_in e ∙ ap (option_map state_of) s

pub a-state : (t : Table) (label : ℕ) (row : Row) (s : SlotState) → tree.get nat_cmp t.rows label ≡ Some row → row.state ≡ Some s → held t label ≡ Some (state_of s)
a-state t label row s e i = ap state_in e ∙ ap (option_map state_of) i

pub place-of : (t : Table) (label : ℕ) (row : Row) → tree.get nat_cmp t.rows label ≡ Some row → places t label ≡ Some row.place
place-of t label row e = ap (option_map (λ (row : Row). row.place)) e

pub walked : (code rest : List Opcode) (a b : Table) (label : ℕ) (s : State) (r : Result (Unit {0}) SlotFault) → rest ≡ behind label code → held a label ≡ Some s → Outcome (KeepsFrom rest (Some s)) a b r
    → Outcome (KeepsFrom (behind label code) (held a label)) a b r
walked code rest a b label s r e h o = subst (λ q. Outcome (KeepsFrom (behind label code) q) a b r) (sym h) (subst (λ q. Outcome (KeepsFrom q (Some s)) a b r) e o)

-- Labels of one function.

twice-left : (xs ys : List ℕ) → no_label_twice (xs ++ ys) ≡ true → no_label_twice xs ≡ true
twice-left [] ys h = refl
twice-left (x ∷ xs) ys h = and-both _ _ (fewer (list_any (nat_eq x) xs) (list_any (nat_eq x) ys) (list_any (nat_eq x) (xs ++ ys)) (any-append xs) (and-left _ _ h)) (twice-left xs ys (and-right _ _ h))
  where
    or-assoc : (a b c : Bool) → (a || (b || c)) ≡ ((a || b) || c)
    or-assoc true b c = refl
    or-assoc false b c = refl

    any-append : (zs : List ℕ) → list_any (nat_eq x) (zs ++ ys) ≡ (list_any (nat_eq x) zs || list_any (nat_eq x) ys)
    any-append [] = refl
    any-append (z ∷ zs) = ap (λ b. nat_eq x z || b) (any-append zs) ∙ or-assoc (nat_eq x z) (list_any (nat_eq x) zs) (list_any (nat_eq x) ys)

    fewer : (a b c : Bool) → c ≡ (a || b) → not c ≡ true → not a ≡ true
    fewer true b c e h = ap not (sym e) ∙ h
    fewer false b c e h = refl

twice-right : (xs ys : List ℕ) → no_label_twice (xs ++ ys) ≡ true → no_label_twice ys ≡ true
twice-right [] ys h = h
twice-right (x ∷ xs) ys h = twice-right xs ys (and-right _ _ h)

pub distinct-at : (fs : List FunctionCode) (i : ℕ) (d : FunctionCode) → i < length fs → no_label_twice (flat_map (λ (f : FunctionCode). defined_in f.code) fs) ≡ true → no_label_twice (defined_in (get_or fs i d).code) ≡ true
distinct-at [] i d h t = absurd (omega arith)
distinct-at (f ∷ fs) zero d h t = twice-left (defined_in f.code) (flat_map (λ (f : FunctionCode). defined_in f.code) fs) t
distinct-at (f ∷ fs) (suc i) d h t = distinct-at fs i d (omega arith) (twice-right (defined_in f.code) (flat_map (λ (f : FunctionCode). defined_in f.code) fs) t)

-- all rows are taken
pub drained : (at : List (ℕ × Option SlotState)) (es all : List (ℕ × Row)) → (0 < length es → ⊥) → at ++ map entry_of es ≡ map entry_of all → at ≡ map entry_of all
drained at [] all h e = sym (append-nil at) ∙ e
drained at (x ∷ es) all h e = absurd (h (omega arith))

-- no label is left
pub settle-end : (code : List Opcode) (a t : Table) (pending : BTreeSet ℕ) → SettlesTo code a t → pending.keys ≡ t.pending.keys → (0 < length t.pending.keys → ⊥) → SettlesTo code a (popped t pending) × (pending.keys ≡ [])
settle-end code a t pending s e h = (record { stays = s.stays; rises = s.rises; least = s.least; quiet = λ l q. s.quiet l (ap (list_any (tree.is_at (nat_cmp l))) (sym e) ∙ q) }, e ∙ none t.pending.keys h)
  where
    none : (ks : List ℕ) → (0 < length ks → ⊥) → ks ≡ []
    none [] h = refl
    none (k ∷ ks) h = absurd (h (omega arith))

-- the function of a number
pub function-is : (fs : List Function) (i : ℕ) (f : Function) → i < length fs → f ≡ get_or fs i f → get_or (map function_code fs) i no_function ≡ function_code f
function-is fs i f h e = get_or-map function_code fs i f no_function h ∙ ap function_code (sym e)

-- the labels that have rows are those that the code defines
pub known-names : (is was : List Instr) (t u : Table) → is ≡ was → ArePlaces (map opcode is) (places t) → places u ≡ places t → NamesKnown (is_in (defined_in (map opcode was))) (map opcode was) → NamesKnown (known u) (map opcode is)
known-names is was t u e a s h =
    subst (λ k. NamesKnown k (map opcode is)) (sym same) (subst (λ q. NamesKnown (is_in (defined_in (map opcode q))) (map opcode q)) (sym e) h)
  where
    same : known u ≡ is_in (defined_in (map opcode is))
    same = λ i l. (ap (λ (p : ℕ → Option ℕ). is_some (p l)) s ∙ a.defined l) i
