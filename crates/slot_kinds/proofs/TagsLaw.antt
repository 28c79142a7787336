-- An instruction makes no tag but of a label that it names.
use Rattle.std.proofs.Common.{◌≡◌, ◌<◌, ℕ, zero, suc, ◌+◌, Bool, true, false, cond, nat_eq, ◌&&◌, ◌||◌, List, [], ◌∷◌, map, drop, length, get_or, Option, None, Some, refl, sym, ap, subst, ◌∙◌, arith}
use Rattle.std.specs.Prelude.{if◌then◌else◌, nat_le, option_and_then, unwrap_or}
use Rattle.std.specs.List.{filter}
use Rattle.std.specs.Cmp.{nat_eq_equiv}
use Rattle.std.proofs.lemmas.Bool.Decides.{nat_tests}
use Rattle.std.proofs.lemmas.Bool.{true≢false}
use Rattle.beam_code.specs.declared.kind.Kind.{Kind}
use Rattle.beam_code.specs.declared.kind.Kind.TheVariants as k
use Rattle.beam_code.specs.declared.operand.Reg.{Reg}
use Rattle.beam_code.specs.declared.operand.Reg.TheVariants.{X, Y}
use Rattle.beam_code.specs.declared.operand.TheConstants.{LAST_REGISTER}
use Rattle.beam_code.specs.Flow.{is_moved, kind_in, kind_of, writes, writes_terms, live, live_if, after_call, comes_back, lowest_tag, tag_labels, handlers}
use Rattle.beam_code.specs.FlowParts.{has, allows, entered, left, left_by_call, left_by_marking, labels_gone}
use Rattle.beam_code.specs.Labels.{is_in, defined_by, labels_named}
use Rattle.beam_code.specs.Opcode as o
use Rattle.beam_code.specs.Opcode.{Opcode, Callee, CallKind, Marking}
use Rattle.beam_code.specs.Slots.{State, Below, below_kind, size, has_slot, with_x, with_y}
use Rattle.beam_code.proofs.BelowLaw.{and-both, or-right, all-in, in-all}
use Rattle.slot_kinds.specs.Joins.{IsJoin}
use Rattle.slot_kinds.specs.Tags.{AreKnown, labels_in, TagsKnown, IsKnownIf, NamesKnown}

same-number : (m n : ℕ) → nat_eq m n ≡ true → m ≡ n
same-number m n h = grind (arith, nat_tests)

module _ (known : ℕ → Bool) where
  abbrev Known : Kind → Type 0
  Known kind = AreKnown known (labels_in kind)

  no-labels : AreKnown known []
  no-labels l i = absurd (true≢false (sym i))

  moved : (kind : Kind) → is_moved kind ≡ true → Known kind
  moved k.Undefined h = no-labels
  moved k.Term h = no-labels
  moved k.OptTerm h = no-labels
  moved (k.Tag labels) h = absurd (true≢false (sym h))
  moved k.Trace h = no-labels
  moved k.Marker h = no-labels

  same : (s t : State) → Some s ≡ Some t → TagsKnown known s → TagsKnown known t
  same s t e h = let i : s ≡ t = cc in subst (TagsKnown known) i h

  in-y : (n : ℕ) (kind : Kind) (s : State) → Known kind → TagsKnown known s → TagsKnown known (with_y n kind s)
  in-y n kind s p h m = by (nat_eq m n)
    where
      by : (b : Bool) → Known (if b then kind else s.ys m)
      by true = p
      by false = h m

  written : (r : Reg) (kind : Kind) (s t : State) → Known kind → TagsKnown known s → writes r kind s ≡ Some t → TagsKnown known t
  written (X n) kind s t p h e = by (nat_le n LAST_REGISTER) e
    where
      by : (b : Bool) → (if b then Some (with_x n kind s) else None) ≡ Some t → TagsKnown known t
      by true e = same (with_x n kind s) t e h
      by false e = absurd (cc)
  written (Y n) kind s t p h e = by (has_slot s n) e
    where
      by : (b : Bool) → (if b then Some (with_y n kind s) else None) ≡ Some t → TagsKnown known t
      by true e = same (with_y n kind s) t e (in-y n kind s p h)
      by false e = absurd (cc)

  -- a second write
  then-known : (f : State → Option State) (t : State) (q : Option State) → ((u : State) → q ≡ Some u → TagsKnown known u) → ((u : State) → TagsKnown known u → f u ≡ Some t → TagsKnown known t)
      → option_and_then f q ≡ Some t → TagsKnown known t
  then-known f t None g h e = absurd (cc)
  then-known f t (Some u) g h e = h u (g u refl) e

  all-written : (rs : List Reg) (s t : State) → TagsKnown known s → writes_terms rs s ≡ Some t → TagsKnown known t
  all-written [] s t h e = same s t e h
  all-written (r ∷ rs) s t h e = then-known (writes_terms rs) t (writes r k.Term s) (λ u i. written r k.Term s u no-labels h i) (λ u g i. all-written rs u t g i) e

  lived : (n : Option ℕ) (s : State) → TagsKnown known s → TagsKnown known (live_if n s)
  lived None s h = h
  lived (Some n) s h = h

  left-of : (p q : Bool) → (p && q) ≡ true → p ≡ true
  left-of true q h = refl
  left-of false q h = h

  right-of : (p q : Bool) → (p && q) ≡ true → q ≡ true
  right-of true q h = h
  right-of false q h = absurd (true≢false (sym h))

  called : (callee : Callee) (kind : CallKind) (s t : State) → TagsKnown known s → left_by_call callee kind s ≡ Some t → TagsKnown known t
  called callee o.Body s t h e = by (comes_back callee) e
    where
      by : (b : Bool) → (if b then Some (after_call s) else None) ≡ Some t → TagsKnown known t
      by true e = same (after_call s) t e h
      by false e = absurd (cc)
  called callee o.Only s t h e = absurd (cc)
  called callee (o.Last size) s t h e = absurd (cc)

  marked : (marking : Marking) (s t : State) → TagsKnown known s → left_by_marking marking s ≡ Some t → TagsKnown known t
  marked (o.Reserve to) s t h e = written to k.Marker s t no-labels h e
  marked (o.Bind marker reference) s t h e = same s t e h
  marked (o.Use reference) s t h e = same s t e h
  marked (o.Clear reference) s t h e = same s t e h

  -- what an instruction goes to its labels with
  pub entered-known : (op : Opcode) (s : State) → TagsKnown known s → TagsKnown known (entered op s)
  entered-known (o.Bif builtin fail m arguments to) s h = lived m s h
  entered-known (o.TryCase slot) s h = in-y slot k.Undefined s no-labels h
  entered-known (o.Wait label) s h = h
  entered-known (o.WaitTimeout label timeout) s h = h
  entered-known op s h = h

  -- and what it leaves
  pub left-known : (op : Opcode) (s t : State) → AreKnown known (labels_named op) → allows op s ≡ true → TagsKnown known s → left op (entered op s) ≡ Some t → TagsKnown known t
  left-known (o.FuncInfo owner name arity) s t n a h e = absurd (cc)
  left-known (o.Move from to) s t n a h e = written to (kind_of s from) s t (moved (kind_of s from) (left-of (is_moved (kind_of s from)) (has s to) a)) h e
  left-known (o.Swap one other) s t n a h e =
      let both : (is_moved (kind_in s one) && is_moved (kind_in s other)) ≡ true = left-of (is_moved (kind_in s one) && is_moved (kind_in s other)) (has s one && has s other) a in
      then-known (writes other (kind_in s one)) t (writes one (kind_in s other) s)
      (λ u i. written one (kind_in s other) s u (moved (kind_in s other) (right-of (is_moved (kind_in s one)) (is_moved (kind_in s other)) both)) h i)
      (λ u g i. written other (kind_in s one) u t (moved (kind_in s one) (left-of (is_moved (kind_in s one)) (is_moved (kind_in s other)) both)) g i) e
  left-known (o.Allocate size m) s t n a h e = same _ t e (λ slot. no-labels)
  left-known (o.TestHeap m) s t n a h e = same (live m s) t e h
  left-known (o.Deallocate size) s t n a h e = same _ t e (λ slot. no-labels)
  left-known (o.Trim dropped left) s t n a h e = same _ t e (λ slot. h (dropped + slot))
  left-known (o.InitYregs registers) s t n a h e = all-written registers s t h e
  left-known (o.Call callee arity kind) s t n a h e = called callee kind s t h e
  left-known o.Return s t n a h e = absurd (cc)
  left-known (o.MakeFun2 entry free) s t n a h e = same (after_call s) t e h
  left-known (o.MakeFun3 entry to free) s t n a h e = written to k.Term s t no-labels h e
  left-known o.Send s t n a h e = same (after_call s) t e h
  left-known (o.Bif builtin fail m arguments to) s t n a h e = written to k.Term (live_if m s) t no-labels (lived m s h) e
  left-known (o.PutList head tail to) s t n a h e = written to k.Term s t no-labels h e
  left-known (o.PutTuple2 to elements) s t n a h e = written to k.Term s t no-labels h e
  left-known (o.GetList from head tail) s t n a h e = all-written (head ∷ tail ∷ []) s t h e
  left-known (o.Get piece from to) s t n a h e = written to k.Term s t no-labels h e
  left-known (o.SetTupleElement value tuple place) s t n a h e = written tuple k.Term s t no-labels h e
  left-known (o.PutMap update fail from to pairs) s t n a h e = written to k.Term s t no-labels h e
  left-known (o.GetMapElements fail from gets) s t n a h e = all-written (map (λ g. g.1) gets) s t h e
  left-known (o.Jump label) s t n a h e = absurd (cc)
  left-known (o.SelectVal value fail cases) s t n a h e = absurd (cc)
  left-known (o.SelectTupleArity tuple fail cases) s t n a h e = absurd (cc)
  left-known (o.LoopRec fail to) s t n a h e = written to k.Term s t no-labels h e
  left-known (o.LoopRecEnd label) s t n a h e = absurd (cc)
  left-known (o.Wait label) s t n a h e = absurd (cc)
  left-known (o.RecvMarker marking) s t n a h e = marked marking s t h e
  left-known (o.Try slot handler) s t n a h e = written (Y slot) (k.Tag (handler ∷ [])) s t n h e
  left-known (o.TryEnd slot) s t n a h e = same _ t e (in-y slot k.Undefined s no-labels h)
  left-known (o.TryCase slot) s t n a h e = same _ t e (in-y slot k.Undefined s no-labels h)
  left-known (o.CatchEnd slot) s t n a h e = same _ t e (in-y slot k.Undefined s no-labels h)
  left-known (o.Unmatches reason value) s t n a h e = absurd (cc)
  left-known o.IfEnd s t n a h e = absurd (cc)
  left-known (o.Raise trace reason) s t n a h e = absurd (cc)
  left-known o.RawRaise s t n a h e = same (with_x 0 k.Term s) t e h
  left-known o.BuildStacktrace s t n a h e = same (with_x 0 k.Term s) t e h
  left-known op s t n a h e = same _ t e h

  -- Joins.

  in-filter : (ls : List ℕ) (l : ℕ) → is_in (filter known ls) l ≡ (known l && is_in ls l)
  in-filter [] l = by (known l)
    where
      by : (b : Bool) → false ≡ (b && false)
      by true = refl
      by false = refl
  in-filter (m ∷ ls) l = by (known m) refl (nat_eq l m) refl (known l) refl (in-filter ls l)
    where
      by : (b : Bool) → known m ≡ b → (e : Bool) → nat_eq l m ≡ e → (c : Bool) → known l ≡ c → is_in (filter known ls) l ≡ (c && is_in ls l) → is_in (cond b (m ∷ filter known ls) (filter known ls)) l ≡ (c && (e || is_in ls l))
      by true k true q true c h = ap (λ b. b || is_in (filter known ls) l) q
      by true k true q false c h = absurd (true≢false (sym k ∙ ap known (sym (same-number l m q)) ∙ c))
      by true k false q true c h = ap (λ b. b || is_in (filter known ls) l) q ∙ h
      by true k false q false c h = ap (λ b. b || is_in (filter known ls) l) q ∙ h
      by false k true q true c h = absurd (true≢false (sym c ∙ ap known (same-number l m q) ∙ k))
      by false k true q false c h = h
      by false k false q true c h = h
      by false k false q false c h = h

  abbrev narrow : Kind → Kind
  narrow (k.Tag labels) = k.Tag (filter known labels)
  narrow k.Undefined = k.Undefined
  narrow k.Term = k.Term
  narrow k.OptTerm = k.OptTerm
  narrow k.Trace = k.Trace
  narrow k.Marker = k.Marker

  below-narrow : (a c : Kind) → below_kind a c ≡ true → Known a → below_kind a (narrow c) ≡ true
  below-narrow (k.Tag few) (k.Tag many) h n = in-all (filter known many) few (λ l i. in-filter many l ∙ and-both (known l) (is_in many l) (n l i) (all-in many few h l i))
  below-narrow k.Undefined (k.Tag many) h n = h
  below-narrow k.Term (k.Tag many) h n = h
  below-narrow k.OptTerm (k.Tag many) h n = h
  below-narrow k.Trace (k.Tag many) h n = h
  below-narrow k.Marker (k.Tag many) h n = h
  below-narrow a k.Undefined h n = h
  below-narrow a k.Term h n = h
  below-narrow a k.OptTerm h n = h
  below-narrow a k.Trace h n = h
  below-narrow a k.Marker h n = h

  from-narrow : (c : Kind) → below_kind c (narrow c) ≡ true → Known c
  from-narrow (k.Tag labels) h = λ l i. left-of (known l) (is_in labels l) (sym (in-filter labels l) ∙ all-in (filter known labels) labels h l i)
  from-narrow k.Undefined h = no-labels
  from-narrow k.Term h = no-labels
  from-narrow k.OptTerm h = no-labels
  from-narrow k.Trace h = no-labels
  from-narrow k.Marker h = no-labels

  -- a join has the labels of both
  pub join-known : (a b c : State) → IsJoin a b c → TagsKnown known a → TagsKnown known b → TagsKnown known c
  join-known a b c j p q slot = from-narrow (c.ys slot) (up.ys slot)
    where
      up : Below c (record { frame = c.frame; xs = c.xs; ys = λ n. narrow (c.ys n) })
      up = j.least (record { frame = c.frame; xs = c.xs; ys = λ n. narrow (c.ys n) })
          (record { frame = j.one.frame; xs = j.one.xs; ys = λ n. below-narrow (a.ys n) (c.ys n) (j.one.ys n) (p n) })
          (record { frame = j.other.frame; xs = j.other.xs; ys = λ n. below-narrow (b.ys n) (c.ys n) (j.other.ys n) (q n) })

  -- the handlers of what is raised are labels of a tag
  lowest-known : (ys : ℕ → Kind) (at left : ℕ) → ((n : ℕ) → Known (ys n)) → AreKnown known (lowest_tag ys at left)
  lowest-known ys at zero h = no-labels
  lowest-known ys at (suc left) h = by (ys at) (h at) (lowest-known ys (at + 1) left h)
    where
      by : (kind : Kind) → Known kind → AreKnown known (lowest_tag ys (at + 1) left) → AreKnown known (unwrap_or (tag_labels kind) (lowest_tag ys (at + 1) left))
      by (k.Tag labels) h r = h
      by k.Undefined h r = r
      by k.Term h r = r
      by k.OptTerm h r = r
      by k.Trace h r = r
      by k.Marker h r = r

  pub handlers-known : (s : State) → TagsKnown known s → AreKnown known (handlers s)
  handlers-known s h = lowest-known s.ys 0 (size s) h

  -- the labels that an instruction goes to are among those that it names
  pub gone-known : (op : Opcode) → AreKnown known (labels_named op) → AreKnown known (labels_gone op)
  gone-known (o.Try slot handler) h = no-labels
  gone-known op h = h

  -- a label of a list
  pub known-at : (labels : List ℕ) (i : ℕ) → i < length labels → AreKnown known labels → known (get_or labels i 0) ≡ true
  known-at labels i l h = h (get_or labels i 0) (in-at labels i l)
    where
      in-at : (ls : List ℕ) (i : ℕ) → i < length ls → is_in ls (get_or ls i 0) ≡ true
      in-at [] i l = absurd (omega arith)
      in-at (m ∷ ls) zero l = ap (λ b. b || is_in ls m) (nat_eq_equiv.refl m)
      in-at (m ∷ ls) (suc i) l = or-right (nat_eq (get_or ls i 0) m) (is_in ls (get_or ls i 0)) (in-at ls i (omega arith))

  -- the instruction at a place, and those behind it
  pub names-at : (code : List Opcode) (i : ℕ) (op : Opcode) → i < length code → op ≡ get_or code i o.Line → NamesKnown known code → IsKnownIf known (defined_by op) × AreKnown known (labels_named op)
  names-at [] i op l e h = absurd (omega arith)
  names-at (x ∷ code) zero op l e h = subst (λ y. IsKnownIf known (defined_by y) × AreKnown known (labels_named y)) (sym e) (h.0, h.1)
  names-at (x ∷ code) (suc i) op l e h = names-at code i op (omega arith) e h.2

  pub names-behind : (code : List Opcode) (i : ℕ) → NamesKnown known code → NamesKnown known (drop i code)
  names-behind code zero h = h
  names-behind [] (suc i) h = tt
  names-behind (x ∷ code) (suc i) h = names-behind code i h.2

  pub known-first : (l : ℕ) (ls : List ℕ) → AreKnown known (l ∷ ls) → known l ≡ true
  known-first l ls h = h l (ap (λ b. b || is_in ls l) (nat_eq_equiv.refl l))

  pub known-rest : (l : ℕ) (ls : List ℕ) → AreKnown known (l ∷ ls) → AreKnown known ls
  known-rest l ls h n i = h n (or-right (nat_eq n l) (is_in ls n) i)

  pub known-label : (o : Option ℕ) (l : ℕ) → Some l ≡ o → IsKnownIf known o → known l ≡ true
  known-label o l e h = subst (IsKnownIf known) (sym e) h

  pub nothing-known : (s : State) → ((n : ℕ) → s.ys n ≡ k.Undefined) → TagsKnown known s
  nothing-known s e slot = subst (λ q. AreKnown known (labels_in q)) (sym (e slot)) no-labels
