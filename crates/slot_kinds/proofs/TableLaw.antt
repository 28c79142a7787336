-- How the table of labels is made, and how the state of a label rises in it.
use Rattle.std.proofs.Common.{◌≡◌, ◌<◌, ◌≤◌, ℕ, zero, suc, ◌+◌, ◌*◌, Bool, true, false, cond, nat_eq, ◌||◌, List, [], ◌∷◌, ◌++◌, take, drop, map, length, get_or, Option, None, Some, refl, sym, ap, subst, ◌∙◌, arith, add-one}
use Rattle.std.specs.Prelude.{if◌then◌else◌, is_some, option_map, unwrap_or}
use Rattle.std.specs.Option.{option_or}
use Rattle.std.specs.List.{sum_by}
use Rattle.std.specs.Ordering.{nat_cmp}
use Rattle.std.specs.Cmp.{nat_cmp_total}
use Rattle.std.specs.BTreeMap as tree
use Rattle.std.specs.Map.{values_of}
use Rattle.std.proofs.lemmas.Bool.{true≢false}
use Rattle.std.proofs.lemmas.Bool.Decides.{nat_tests}
use Rattle.std.proofs.lemmas.List.{take_more, take_all, get_or-map}
use Rattle.std.proofs.lemmas.Map.Entries.{sum_by-insert_entry}
use Rattle.beam_code.specs.declared.slot_state.SlotState.{SlotState}
use Rattle.beam_code.specs.declared.instr.Instr.{Instr}
use Rattle.beam_code.specs.Code.{opcode}
use Rattle.beam_code.specs.Good.{Assignment, GoesTo}
use Rattle.beam_code.specs.Labels.{is_in, defined_in, defined_by, is_that}
use Rattle.beam_code.specs.Opcode.{Opcode, Label, Line}
use Rattle.beam_code.specs.Slots.{State, Below, BelowIfReached, state_of}
use Rattle.beam_code.proofs.BelowLaw.{below-same, below-below, reached-below}
use Rattle.slot_kinds.specs.declared.table.Row.{Row}
use Rattle.slot_kinds.specs.declared.table.Table.{Table}
use Rattle.slot_kinds.specs.Joins.{rank_of}
use Rattle.slot_kinds.specs.Segments.{Under, behind}
use Rattle.slot_kinds.specs.Tables.{known, TagsHeld, state_in, held, places, is_pending, state_rank, row_rank, Nothing, Goes, Refuses}
use Rattle.slot_kinds.specs.Rows.{fresh, fresh_if, Defines, IsRow, AreRows, IsFresh, RisesTo, NoRise, Raises}
use Rattle.slot_kinds.proofs.SegmentLaw.{under-same, reached-same}
use Rattle.slot_kinds.specs.Tags.{TagsKnown, TagsKnownIf}
use Rattle.slot_kinds.proofs.TagsLaw.{join-known}

-- Making.

same-number : (m n : ℕ) → nat_eq m n ≡ true → m ≡ n
same-number m n h = grind (arith, nat_tests)

flip : (m n : ℕ) → nat_eq m n ≡ nat_eq n m
flip m n = grind (arith, nat_tests)

or-none : (b : Bool) → (b || false) ≡ b
or-none true = refl
or-none false = refl

or-assoc : (a b c : Bool) → (a || (b || c)) ≡ ((a || b) || c)
or-assoc true b c = refl
or-assoc false b c = refl

-- the labels of code with one more instruction
in-more : (code : List Opcode) (o : Opcode) (l : ℕ) → is_in (defined_in (code ++ o ∷ [])) l ≡ (is_in (defined_in code) l || is_that l (defined_by o))
in-more [] (Label m) l = or-none (nat_eq l m) ∙ flip l m
in-more [] o l = refl
in-more (Label m ∷ code) o l = ap (λ b. nat_eq l m || b) (in-more code o l) ∙ or-assoc (nat_eq l m) (is_in (defined_in code) l) (is_that l (defined_by o))
in-more (x ∷ code) o l = in-more code o l

or-parts : (a b : Bool) → (a || b) ≡ false → (a ≡ false) × (b ≡ false)
or-parts true b h = absurd (true≢false h)
or-parts false b h = (refl, h)

-- behind the first instruction that defines a label
behind-at : (code : List Opcode) (at : ℕ) (l : ℕ) → at < length code → is_in (defined_in (take at code)) l ≡ false → is_that l (defined_by (get_or code at Line)) ≡ true → drop (suc at) code ≡ behind l code
behind-at [] at l h i t = absurd (omega arith)
behind-at (o ∷ code) zero l h i t = ap (λ b. if b then code else behind l code) (sym t)
behind-at (Label m ∷ code) (suc at) l h i t =
    let p = or-parts (nat_eq l m) (is_in (defined_in (take at code)) l) i in
    behind-at code at l (omega arith) p.1 t ∙ ap (λ b. if b then code else behind l code) (sym (flip m l ∙ p.0))
behind-at (o ∷ code) (suc at) l h i t = behind-at code at l (omega arith) i t

some-or : {A : Type 0} (a b : Option A) → is_some (option_or a b) ≡ (is_some a || is_some b)
some-or None b = refl
some-or (Some x) b = refl

some-fresh : (b : Bool) (place : ℕ) → is_some (fresh_if b place) ≡ b
some-fresh true place = refl
some-fresh false place = refl

fresh-row : (b : Bool) (place : ℕ) (row : Row) → fresh_if b place ≡ Some row → (b ≡ true) × (fresh place ≡ row)
fresh-row true place row e = (refl, cc)
fresh-row false place row e = absurd (cc)

pub rows-none : (code : List Opcode) (rows : ℕ → Option Row) → ((l : ℕ) → rows l ≡ None) → AreRows code 0 rows
rows-none code rows e = record { defined = λ l. ap is_some (e l); each = λ l row h. absurd (let g : None ≡ Some row = sym (e l) ∙ h in cc) }

pub rows-more : (code : List Opcode) (at : ℕ) (old new : ℕ → Option Row) → at < length code → AreRows code at old → Defines (get_or code at Line) (at + 1) old new → AreRows code (at + 1) new
rows-more code at old new h r d = record {
  defined = λ l. ap is_some (d l) ∙ some-or (old l) (fresh_if (is_that l (defined_by (get_or code at Line))) (at + 1))
      ∙ ap (λ b. is_some (old l) || b) (some-fresh (is_that l (defined_by (get_or code at Line))) (at + 1)) ∙ ap (λ b. b || is_that l (defined_by (get_or code at Line))) (r.defined l)
      ∙ sym (in-more (take at code) (get_or code at Line) l) ∙ ap (λ c. is_in (defined_in c) l) (sym (take_more code at Line h));
  each = λ l row e. by l row (old l) refl (sym (d l) ∙ e);
}
  where
    by : (l : ℕ) (row : Row) (before : Option Row) → old l ≡ before → option_or before (fresh_if (is_that l (defined_by (get_or code at Line))) (at + 1)) ≡ Some row → IsRow code l row
    by l row (Some first) e g = r.each l row (e ∙ g)
    by l row None e g =
        let f = fresh-row (is_that l (defined_by (get_or code at Line))) (at + 1) row g in
        subst (IsRow code l) f.1 (record {
          within = omega arith;
          behind = ap (λ n. drop n code) (add-one at) ∙ behind-at code at l h (sym (r.defined l) ∙ ap is_some e) f.0;
          fresh = refl;
        })

pub rows-fresh : (code : List Opcode) (t : Table) → AreRows code (length code) (tree.get nat_cmp t.rows) → t.pending.keys ≡ [] → IsFresh code t
rows-fresh code t r e = record {
  are = record {
    defined = λ l. same (tree.get nat_cmp t.rows l) ∙ r.defined l ∙ ap (λ c. is_in (defined_in c) l) (take_all (length code) code (omega arith));
    within = λ l p h. elim-place l p (λ p. p ≤ length code) (λ row i. i.within) (tree.get nat_cmp t.rows l) refl h;
    behind = λ l p h. elim-place l p (λ p. drop p code ≡ behind l code) (λ row i. i.behind) (tree.get nat_cmp t.rows l) refl h;
  };
  unreached = λ l. none l (tree.get nat_cmp t.rows l) refl;
  still = e;
}
  where
    same : (o : Option Row) → is_some (option_map (λ (row : Row). row.place) o) ≡ is_some o
    same None = refl
    same (Some row) = refl

    elim-place : (l p : ℕ) (P : ℕ → Type 0) → ((row : Row) → IsRow code l row → P row.place) → (o : Option Row) → tree.get nat_cmp t.rows l ≡ o → option_map (λ (row : Row). row.place) o ≡ Some p → P p
    elim-place l p P f None h g = absurd (let e : None ≡ Some p = g in cc)
    elim-place l p P f (Some row) h g = let e : row.place ≡ p = cc in subst P e (f row (r.each l row h))

    none : (l : ℕ) (o : Option Row) → tree.get nat_cmp t.rows l ≡ o → state_in o ≡ None
    none l None h = refl
    none l (Some row) h = ap (option_map state_of) (r.each l row h).fresh

-- Rising.

pub no-rise : (t : Table) (label : ℕ) (row : Row) (s : SlotState) → tree.get nat_cmp t.rows label ≡ Some row → NoRise row.state s → Refuses (λ at. GoesTo at (label, state_of s)) t
no-rise t label row s e h at u o = by row.state h (at label) (subst (λ r. BelowIfReached (state_in r) (at label)) e (u label)) o
  where
    by : (old : Option SlotState) → NoRise old s → (d : Option State) → BelowIfReached (option_map state_of old) d → BelowIfReached (Some (state_of s)) d → ⊥
    by None h d p q = h
    by (Some old) h None p q = p
    by (Some old) h (Some d) p q = h d p q

-- the label is reached in a higher state already
pub stays-goes : (t : Table) (label : ℕ) (row : Row) (s : SlotState) → tree.get nat_cmp t.rows label ≡ Some row → RisesTo row.state s None → Goes (λ at. GoesTo at (label, state_of s)) Nothing t t
stays-goes t label row s e h = record {
  stays = refl;
  rises = under-same (held t);
  done = λ at u o. by row.state h (at label) (subst (λ r. BelowIfReached (state_in r) (at label)) e (u label));
  least = λ at u o. u;
  left = λ at u o. tt;
  settled = λ l p. p;
  kept = λ l p. refl;
  works = omega arith;
  tags = λ x. x;
}
  where
    by : (old : Option SlotState) → RisesTo old s None → (d : Option State) → BelowIfReached (option_map state_of old) d → BelowIfReached (Some (state_of s)) d
    by None h d p = absurd h
    by (Some old) h None p = absurd p
    by (Some old) h (Some d) p = below-below (state_of s) (state_of old) d h p

at-same : (l q : ℕ) → tree.is_at (nat_cmp l) q ≡ true → l ≡ q
at-same l q h = grind (arith, nat_tests)

at-here : (l : ℕ) → tree.is_at (nat_cmp l) l ≡ true
at-here l = grind (arith, nat_tests)

rise-below : (old : Option SlotState) (s u : SlotState) → RisesTo old s (Some u) → BelowIfReached (option_map state_of old) (Some (state_of u))
rise-below None s u h = tt
rise-below (Some old) s u h = h.0.one

rise-covers : (old : Option SlotState) (s u : SlotState) → RisesTo old s (Some u) → Below (state_of s) (state_of u)
rise-covers None s u h = subst (Below (state_of s)) (sym h.0) (below-same (state_of s))
rise-covers (Some old) s u h = h.0.other

rise-least : (old : Option SlotState) (s u : SlotState) → RisesTo old s (Some u) → (d : Option State) → BelowIfReached (option_map state_of old) d → BelowIfReached (Some (state_of s)) d → BelowIfReached (Some (state_of u)) d
rise-least None s u h d p q = subst (λ x. BelowIfReached (Some x) d) (sym h.0) q
rise-least (Some old) s u h None p q = p
rise-least (Some old) s u h (Some d) p q = h.0.least d p q

rise-rank : (old : Option SlotState) (s u : SlotState) → RisesTo old s (Some u) → rank_of u < state_rank old
rise-rank None s u h = h.1
rise-rank (Some old) s u h = h.1

in-cond : (b : Bool) (x y : Option Row) → state_in (cond b x y) ≡ cond b (state_in x) (state_in y)
in-cond true x y = refl
in-cond false x y = refl

less-work : (new old r p m n : ℕ) → new + r ≡ old + p → p < r → m ≤ n + 1 → 2 * new + m ≤ 2 * old + n
less-work new old r p m n e l h = omega arith

-- a state that rises has tags of known labels
rise-tags : (known : ℕ → Bool) (old : Option SlotState) (s u : SlotState) → RisesTo old s (Some u) → TagsKnownIf known (option_map state_of old) → TagsKnown known (state_of s) → TagsKnown known (state_of u)
rise-tags known None s u h p q = subst (TagsKnown known) (sym h.0) q
rise-tags known (Some old) s u h p q = join-known known (state_of old) (state_of s) (state_of u) h.0 (p (state_of old) refl) q

-- what an instruction at a place stands for
pub opcode-at : (code : List Instr) (at : ℕ) (i : Instr) (o : Opcode) → at < length code → i ≡ get_or code at i → o ≡ opcode i → o ≡ get_or (map opcode code) at Line
opcode-at code at i o h e is = is ∙ ap opcode e ∙ sym (get_or-map opcode code at i Line h)

pub raise-goes : (a b : Table) (label : ℕ) (row : Row) (s u : SlotState) → tree.get nat_cmp a.rows label ≡ Some row → RisesTo row.state s (Some u) → Raises label (record { place = row.place; state = Some u }) a b → TagsKnown (known a) (state_of s)
    → Goes (λ at. GoesTo at (label, state_of s)) Nothing a b
raise-goes a b label row s u e h r q = record {
  stays = λ i l. shape l (tree.is_at (nat_cmp label) l) refl i;
  rises = λ q. subst (BelowIfReached (held a q)) (sym (now q)) (up q (tree.is_at (nat_cmp label) q) refl);
  done = λ at v o. reached-below (Some (state_of s)) (Some (state_of u)) (at label) (rise-covers row.state s u h) (subst (λ x. BelowIfReached x (at label)) (here label (at-here label)) (v label));
  least = λ at v o q. subst (λ x. BelowIfReached x (at q)) (sym (now q)) (low at v o q (tree.is_at (nat_cmp label) q) refl);
  left = λ at v o. tt;
  settled = λ l p. quiet l (tree.is_at (nat_cmp label) l) refl p;
  kept = λ l p. same l (tree.is_at (nat_cmp label) l) refl p;
  works = less-work _ _ (row_rank row) (rank_of u) _ _
      (ap (λ es. sum_by row_rank (values_of es) + row_rank row) r.entries
      ∙ ap (λ o. sum_by row_rank (values_of (tree.insert_entry nat_cmp a.rows.entries label (record { place = row.place; state = Some u }))) + unwrap_or (option_map row_rank o) 0) (sym e)
      ∙ sum_by-insert_entry row_rank nat_cmp_total a.rows.entries label (record { place = row.place; state = Some u }) r.ordered)
      (rise-rank row.state s u h) r.few;
  tags = λ x l. subst (λ p. TagsKnownIf (λ n. is_some (p n)) (held b l)) (sym shapes) (tagged x l (tree.is_at (nat_cmp label) l) refl);
}
  where
    now : (q : ℕ) → held b q ≡ cond (tree.is_at (nat_cmp label) q) (Some (state_of u)) (held a q)
    now q = ap state_in (r.rows.0 q) ∙ in-cond (tree.is_at (nat_cmp label) q) (Some (record { place = row.place; state = Some u })) (tree.get nat_cmp a.rows q)

    was : held a label ≡ option_map state_of row.state
    was = ap state_in e

    here : (q : ℕ) → tree.is_at (nat_cmp label) q ≡ true → held b q ≡ Some (state_of u)
    here q t = now q ∙ ap (λ c. cond c (Some (state_of u)) (held a q)) t

    away : (q : ℕ) → tree.is_at (nat_cmp label) q ≡ false → held b q ≡ held a q
    away q t = now q ∙ ap (λ c. cond c (Some (state_of u)) (held a q)) t

    up : (q : ℕ) (c : Bool) → tree.is_at (nat_cmp label) q ≡ c → BelowIfReached (held a q) (cond c (Some (state_of u)) (held a q))
    up q true t = subst (λ l. BelowIfReached (held a l) (Some (state_of u))) (at-same label q t) (subst (λ x. BelowIfReached x (Some (state_of u))) (sym was) (rise-below row.state s u h))
    up q false t = reached-same (held a q)

    low : (at : Assignment) → Under (held a) at → GoesTo at (label, state_of s) → (q : ℕ) (c : Bool) → tree.is_at (nat_cmp label) q ≡ c → BelowIfReached (cond c (Some (state_of u)) (held a q)) (at q)
    low at v o q true t =
        subst (λ l. BelowIfReached (Some (state_of u)) (at l)) (at-same label q t) (rise-least row.state s u h (at label) (subst (λ x. BelowIfReached x (at label)) was (v label)) o)
    low at v o q false t = v q

    quiet : (l : ℕ) (c : Bool) → tree.is_at (nat_cmp label) l ≡ c → is_pending b l ≡ false → is_pending a l ≡ false
    quiet l true t p = absurd (true≢false (ap (λ c. cond c true (is_pending a l)) (sym t) ∙ sym (r.pending.0 l) ∙ p))
    quiet l false t p = ap (λ c. cond c true (is_pending a l)) (sym t) ∙ sym (r.pending.0 l) ∙ p

    same : (l : ℕ) (c : Bool) → tree.is_at (nat_cmp label) l ≡ c → is_pending b l ≡ false → held b l ≡ held a l
    same l true t p = absurd (true≢false (ap (λ c. cond c true (is_pending a l)) (sym t) ∙ sym (r.pending.0 l) ∙ p))
    same l false t p = away l t

    shape : (l : ℕ) (c : Bool) → tree.is_at (nat_cmp label) l ≡ c → places b l ≡ places a l
    shape l true t =
        ap (λ o. option_map (λ (row : Row). row.place) o) (r.rows.0 l ∙ ap (λ c. cond c (Some (record { place = row.place; state = Some u })) (tree.get nat_cmp a.rows l)) t)
        ∙ ap (λ o. option_map (λ (row : Row). row.place) o) (sym (ap (tree.get nat_cmp a.rows) (sym (at-same label l t)) ∙ e))
    shape l false t = ap (λ o. option_map (λ (row : Row). row.place) o) (r.rows.0 l ∙ ap (λ c. cond c (Some (record { place = row.place; state = Some u })) (tree.get nat_cmp a.rows l)) t)

    shapes : places b ≡ places a
    shapes = λ i l. shape l (tree.is_at (nat_cmp label) l) refl i

    tagged : TagsHeld a → (l : ℕ) (c : Bool) → tree.is_at (nat_cmp label) l ≡ c → TagsKnownIf (known a) (held b l)
    tagged x l true t =
        subst (TagsKnownIf (known a)) (sym (here l t))
        (λ z i. let w : state_of u ≡ z = cc in subst (TagsKnown (known a)) w (rise-tags (known a) row.state s u h (subst (TagsKnownIf (known a)) was (x label)) q))
    tagged x l false t = subst (TagsKnownIf (known a)) (sym (away l t)) (x l)
