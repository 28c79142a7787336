-- The other sides of the links of a process, as they are taken away and added one by one.
use Rattle.std.proofs.Common.{◌≡◌, ℕ, zero, suc, ◌+◌, ◌<◌, ◌≤◌, Bool, true, false, nat_eq, ◌&&◌, ◌||◌, ◌⊎◌, inl, inr, List, [], ◌∷◌, length, drop, get_or, Option, None, Some, refl, sym, ap, ap₂, subst, ◌∙◌, arith}
use Rattle.std.specs.Prelude.{slice_get, slice_set, cond}
use Rattle.std.specs.Global.{Vec}
use Rattle.std.specs.List.{All}
use Rattle.std.specs.Option.{option_map}
use Rattle.std.proofs.lemmas.Bool.{eq-eqb, ne_eqb, cases_eq}
use Rattle.std.proofs.lemmas.List.{at_drop_more, at_drop_all, get_or_default, length-map, length-set, map-set}
use Rattle.std.proofs.lemmas.List.Elements.{All-get_or, All-set}
use Rattle.std.proofs.lemmas.Option.{slice_get-map, slice_get_read}
use Rattle.ej_world.specs.Choices.{holds, linked_back, agreeing, with_number, without_number}
use Rattle.ej_world.specs.Lawful.{Within}
use Rattle.ej_world.specs.World.{Process, with_links}
use Rattle.term_heap.specs.declared.heap.Heap.{Heap}
use Rattle.proc_sched.specs.declared.node.Node.{Node}
use Rattle.proc_sched.specs.declared.slot.Slot.{Slot}
use Rattle.proc_sched.specs.Stands.{HoldsSlot, Rising, RisingFrom, process_of, processes_of}
use Rattle.proc_sched.specs.Turning.{with_slots, dropping, adding, IsLinked, MayAgree, DropsLinks, AddsLinks, Agrees}
use Rattle.proc_sched.proofs.Rises.{holds-below, holds-found, rising-with, rising-within, rising-without}
use Rattle.proc_sched.proofs.Setting.{set-other}

-- ---- one process of a list changes

abbrev pub change_at : ℕ → (Process → Process) → List Process → List Process
change_at k f [] = []
change_at zero f (p ∷ ps) = f p ∷ ps
change_at (suc k) f (p ∷ ps) = p ∷ change_at k f ps

change-set : (k : ℕ) (f : Process → Process) (ps : List Process) (p : Process) → slice_get ps k ≡ Some p → slice_set ps k (f p) ≡ change_at k f ps
change-set k f [] p at = absurd cc
change-set zero f (q ∷ ps) p at = ap (λ r. f r ∷ ps) same
  where
    same : p ≡ q
    same = cc
change-set (suc k) f (q ∷ ps) p at = ap (λ qs. q ∷ qs) (change-set k f ps p at)

change-here : (k : ℕ) (f : Process → Process) (ps : List Process) → slice_get (change_at k f ps) k ≡ option_map f (slice_get ps k)
change-here k f [] = refl
change-here zero f (p ∷ ps) = refl
change-here (suc k) f (p ∷ ps) = change-here k f ps

change-other : (k n : ℕ) (f : Process → Process) (ps : List Process) → (n ≡ k → ⊥) → slice_get (change_at k f ps) n ≡ slice_get ps n
change-other k n f [] ne = refl
change-other zero zero f (p ∷ ps) ne = absurd (ne refl)
change-other zero (suc n) f (p ∷ ps) ne = refl
change-other (suc k) zero f (p ∷ ps) ne = refl
change-other (suc k) (suc n) f (p ∷ ps) ne = change-other k n f ps (λ e. ne (ap suc e))

-- ---- each of some numbers that is not kept

abbrev pub changes : (f : Process → Process) → (kept : List ℕ) → List ℕ → List Process → List Process
changes f kept [] ps = ps
changes f kept (k ∷ ks) ps = changes f kept ks (cond (holds kept k) ps (change_at k f ps))

-- what is made of a process that is among the numbers, and that is kept
abbrev changed : (f : Process → Process) → (among kept : Bool) → Process → Process
changed f true false p = f p
changed f _ _ p = p

map-as : {A B : Type 0} (f g : A → B) → ((x : A) → f x ≡ g x) → (o : Option A) → option_map f o ≡ option_map g o
map-as f g same None = refl
map-as f g same (Some x) = ap Some (same x)

not-among : (f : Process → Process) (b : Bool) (o : Option Process) → o ≡ option_map (changed f false b) o
not-among f b None = refl
not-among f true (Some p) = refl
not-among f false (Some p) = refl

get-changes : (f : Process → Process) (kept : List ℕ) (least : ℕ) (ks : List ℕ) (ps : List Process) (n : ℕ) → RisingFrom least ks
    → slice_get (changes f kept ks ps) n ≡ option_map (changed f (holds ks n) (holds kept n)) (slice_get ps n)
get-changes f kept least [] ps n rise = not-among f (holds kept n) (slice_get ps n)
get-changes f kept least (k ∷ ks) ps n rise = get-changes f kept (k + 1) ks (cond (holds kept k) ps (change_at k f ps)) n rise.1 ∙ by (cases_eq n k)
  where
    one : (b : Bool) → slice_get (cond b ps (change_at k f ps)) k ≡ option_map (changed f true b) (slice_get ps k)
    one true = same (slice_get ps k)
      where
        same : (o : Option Process) → o ≡ option_map (λ p. p) o
        same None = refl
        same (Some p) = refl
    one false = change-here k f ps

    others : (b : Bool) → (n ≡ k → ⊥) → slice_get (cond b ps (change_at k f ps)) n ≡ slice_get ps n
    others true ne = refl
    others false ne = change-other k n f ps ne

    by : (n ≡ k) ⊎ (n ≡ k → ⊥) → option_map (changed f (holds ks n) (holds kept n)) (slice_get (cond (holds kept k) ps (change_at k f ps)) n) ≡ option_map (changed f (nat_eq n k || holds ks n) (holds kept n)) (slice_get ps n)
    by (inl is) =
        ap (λ (b : Bool). option_map (changed f b (holds kept n)) (slice_get (cond (holds kept k) ps (change_at k f ps)) n)) (holds-below n (k + 1) ks (omega arith) rise.1)
        ∙ (sym (not-among f (holds kept n) (slice_get (cond (holds kept k) ps (change_at k f ps)) n))
        ∙ (subst (λ m. slice_get (cond (holds kept k) ps (change_at k f ps)) m ≡ option_map (changed f true (holds kept m)) (slice_get ps m)) (sym is) (one (holds kept k))
        ∙ ap (λ b. option_map (changed f (b || holds ks n) (holds kept n)) (slice_get ps n)) (sym (eq-eqb n k is))))
    by (inr ne) =
        ap (option_map (changed f (holds ks n) (holds kept n))) (others (holds kept k) ne)
        ∙ ap (λ b. option_map (changed f (b || holds ks n) (holds kept n)) (slice_get ps n)) (sym (ne_eqb n k ne))

-- ---- the definitions, at each number

get-dropping : (me : ℕ) (before links : List ℕ) (number k n : ℕ) (ps : List Process) → n ≡ number + k
    → slice_get (dropping me before number links ps) k ≡ option_map (linked_back me (holds before n) (holds before n && holds links n)) (slice_get ps k)
get-dropping me before links number k n [] is = refl
get-dropping me before links number zero n (p ∷ ps) is = ap (λ m. Some (linked_back me (holds before m) (holds before m && holds links m) p)) (omega arith)
get-dropping me before links number (suc k) n (p ∷ ps) is = get-dropping me before links (number + 1) k n ps (omega arith)

get-adding : (me : ℕ) (before links : List ℕ) (number k n : ℕ) (ps : List Process) → n ≡ number + k
    → slice_get (adding me before number links ps) k ≡ option_map (linked_back me (holds before n && holds links n) (holds links n)) (slice_get ps k)
get-adding me before links number k n [] is = refl
get-adding me before links number zero n (p ∷ ps) is = ap (λ m. Some (linked_back me (holds before m && holds links m) (holds links m) p)) (omega arith)
get-adding me before links number (suc k) n (p ∷ ps) is = get-adding me before links (number + 1) k n ps (omega arith)

-- a list is what is at each place of it
same-places : {A : Type 0} (xs ys : List A) → ((n : ℕ) → slice_get xs n ≡ slice_get ys n) → xs ≡ ys
same-places [] [] same = refl
same-places [] (y ∷ ys) same = let first = same zero in absurd cc
same-places (x ∷ xs) [] same = let first = same zero in absurd cc
same-places {A} (x ∷ xs) (y ∷ ys) same = ap₂ (λ (z : A) (zs : List A). z ∷ zs) one (same-places xs ys (λ n. same (suc n)))
  where
    one : x ≡ y
    one = let first = same zero in cc

abbrev pub without_me : ℕ → Process → Process
without_me me p = with_links p (without_number me p.links)

abbrev pub with_me : ℕ → Process → Process
with_me me p = with_links p (with_number me p.links)

pub drops-all : (me : ℕ) (before links : List ℕ) (ps : List Process) → RisingFrom 0 before → changes (without_me me) links before ps ≡ dropping me before 0 links ps
drops-all me before links ps rise =
    same-places (changes (without_me me) links before ps) (dropping me before 0 links ps)
    (λ n. get-changes (without_me me) links 0 before ps n rise ∙ (map-as (changed (without_me me) (holds before n) (holds links n)) (linked_back me (holds before n) (holds before n && holds links n)) (by (holds before n) (holds links n)) (slice_get ps n)
    ∙ sym (get-dropping me before links 0 n n ps (omega arith))))
  where
    by : (b c : Bool) (p : Process) → changed (without_me me) b c p ≡ linked_back me b (b && c) p
    by true true p = refl
    by true false p = refl
    by false true p = refl
    by false false p = refl

pub adds-all : (me : ℕ) (before links : List ℕ) (ps : List Process) → RisingFrom 0 links → changes (with_me me) before links ps ≡ adding me before 0 links ps
adds-all me before links ps rise =
    same-places (changes (with_me me) before links ps) (adding me before 0 links ps)
    (λ n. get-changes (with_me me) before 0 links ps n rise ∙ (map-as (changed (with_me me) (holds links n) (holds before n)) (linked_back me (holds before n && holds links n) (holds links n)) (by (holds before n) (holds links n)) (slice_get ps n)
    ∙ sym (get-adding me before links 0 n n ps (omega arith))))
  where
    by : (b c : Bool) (p : Process) → changed (with_me me) c b p ≡ linked_back me (b && c) c p
    by true true p = refl
    by true false p = refl
    by false true p = refl
    by false false p = refl

-- those that are gone are taken away, and then the others added: that is to agree
pub drops-adds : (me number : ℕ) (before links : List ℕ) (ps : List Process) → adding me before number links (dropping me before number links ps) ≡ agreeing me before links number ps
drops-adds me number before links [] = refl
drops-adds me number before links (p ∷ ps) = ap₂ (λ (q : Process) (qs : List Process). q ∷ qs) (by (holds before number) (holds links number)) (drops-adds me (number + 1) before links ps)
  where
    by : (b c : Bool) → linked_back me (b && c) c (linked_back me b (b && c) p) ≡ linked_back me b c p
    by true true = refl
    by true false = refl
    by false true = refl
    by false false = refl

-- ---- the node while links change

-- the first of the numbers are done, and the others are still to be; both lists may be read from the own slot
pub record Relinking (me : ℕ) (f : Process → Process) (kept whole : Slot → List ℕ) (at : ℕ) (start now : Node) : Type 0 where
  pub is : now ≡ with_slots start now.slots
  pub slots' : All (HoldsSlot start.heap) now.slots.items
  pub own : slice_get now.slots.items me ≡ slice_get start.slots.items me
  pub count : length now.slots.items ≡ length start.slots.items
  pub processes : (s : Slot) → slice_get start.slots.items me ≡ Some s
      → changes f (kept s) (drop at (whole s)) (processes_of start.heap now.slots.items) ≡ changes f (kept s) (whole s) (processes_of start.heap start.slots.items)

pub relink-none : (me : ℕ) (f : Process → Process) (kept whole : Slot → List ℕ) (start : Node) → All (HoldsSlot start.heap) start.slots.items → Relinking me f kept whole 0 start start
relink-none me f kept whole start held = record { is = refl; slots' = held; own = refl; count = refl; processes = λ s here. refl }

-- the own slot, as it is read there
pub own-slot : (me : ℕ) (f : Process → Process) (kept whole : Slot → List ℕ) (at : ℕ) (start now : Node) (r : Slot) → Relinking me f kept whole at start now → me < length start.slots.items → r ≡ get_or now.slots.items me r
    → slice_get start.slots.items me ≡ Some r
own-slot me f kept whole at start now r so_far within read = sym so_far.own ∙ slice_get_read now.slots.items (length now.slots.items) me r refl (omega (arith, so_far.count)) read

one-slot : (o : Option Slot) (r s : Slot) → o ≡ Some r → o ≡ Some s → r ≡ s
one-slot o r s one other = by (sym one ∙ other)
  where
    by : ◌≡◌ {A = Option Slot} (Some r) (Some s) → r ≡ s
    by e = cc

-- a number that is kept
pub relink-skip : (me : ℕ) (f : Process → Process) (kept whole : Slot → List ℕ) (at : ℕ) (start now : Node) (r : Slot) → slice_get start.slots.items me ≡ Some r → at < length (whole r) → holds (kept r) (get_or (whole r) at 0) ≡ true
    → Relinking me f kept whole at start now → Relinking me f kept whole (at + 1) start now
relink-skip me f kept whole at start now r own lt held so_far = record {
  is = so_far.is;
  slots' = so_far.slots';
  own = so_far.own;
  count = so_far.count;
  processes = λ s here. subst (λ s. changes f (kept s) (drop (at + 1) (whole s)) ps ≡ changes f (kept s) (whole s) (processes_of start.heap start.slots.items)) (one-slot (slice_get start.slots.items me) r s own here)
      (sym (at_drop_more (λ ks. changes f (kept r) ks ps) (whole r) at 0 lt ∙ ap (λ b. changes f (kept r) (drop (at + 1) (whole r)) (cond b ps (change_at (get_or (whole r) at 0) f ps))) held) ∙ so_far.processes r own);
}
  where
    ps : List Process
    ps = processes_of start.heap now.slots.items

-- a number whose process changes
pub relink-more : (me : ℕ) (f : Process → Process) (kept whole : Slot → List ℕ) (at : ℕ) (start now : Node) (slots : Vec Slot) (r s t : Slot) (k : ℕ) → slice_get start.slots.items me ≡ Some r → at < length (whole r) → get_or (whole r) at 0 ≡ k
    → holds (kept r) k ≡ false → (me ≡ k → ⊥) → slice_get now.slots.items k ≡ Some s → process_of start.heap t ≡ f (process_of start.heap s) → HoldsSlot start.heap t → slots.items ≡ slice_set now.slots.items k t
    → Relinking me f kept whole at start now → Relinking me f kept whole (at + 1) start (with_slots now slots)
relink-more me f kept whole at start now slots r s t k own lt is_k held other there made is_held same so_far = record {
  is = ap (λ n. with_slots n slots) so_far.is;
  slots' = subst (All (HoldsSlot start.heap)) (sym same) (All-set (HoldsSlot start.heap) now.slots.items k t is_held so_far.slots');
  own = ap (λ ss. slice_get ss me) same ∙ (set-other now.slots.items k me t other ∙ so_far.own);
  count = ap length same ∙ (length-set now.slots.items k t ∙ so_far.count);
  processes = λ s here. subst (λ s. changes f (kept s) (drop (at + 1) (whole s)) (processes_of start.heap slots.items) ≡ changes f (kept s) (whole s) (processes_of start.heap start.slots.items)) (one-slot (slice_get start.slots.items me) r s own here)
      (ap (changes f (kept r) (drop (at + 1) (whole r))) after ∙ (sym (at_drop_more (λ ks. changes f (kept r) ks ps) (whole r) at 0 lt ∙ ap (λ n. changes f (kept r) (n ∷ drop (at + 1) (whole r)) ps) is_k ∙ ap (λ b. changes f (kept r) (drop (at + 1) (whole r)) (cond b ps (change_at k f ps))) held)
      ∙ so_far.processes r own));
}
  where
    ps : List Process
    ps = processes_of start.heap now.slots.items

    after : processes_of start.heap slots.items ≡ change_at k f ps
    after = ap (processes_of start.heap) same ∙ (map-set (process_of start.heap) now.slots.items k t ∙ (ap (slice_set ps k) made
        ∙ change-set k f ps (process_of start.heap s) (slice_get-map (process_of start.heap) now.slots.items k ∙ ap (option_map (process_of start.heap)) there)))

-- ---- slots with other links

abbrev pub slot_with : Slot → Vec ℕ → Slot
slot_with s links = record { status = s.status; mailbox = s.mailbox; links = links; trapping = s.trapping; timer = s.timer }

linked-held : (heap : Heap) (s : Slot) (links : Vec ℕ) (ns : List ℕ) → HoldsSlot heap s → links.items ≡ ns → RisingFrom 0 ns → HoldsSlot heap (slot_with s links)
linked-held heap s links ns held same rise = record { messages = held.messages; links = subst (RisingFrom 0) (sym same) rise }

below-at : (least bound : ℕ) (ns : List ℕ) (k : ℕ) → Within least bound ns → k < length ns → get_or ns k 0 < bound
below-at least bound [] k within lt = absurd (omega arith)
below-at least bound (n ∷ ns) zero within lt = within.1
below-at least bound (n ∷ ns) (suc k) within lt = below-at (n + 1) bound ns k within.2 (omega arith)

-- what is not held is at no place
other-at : (n : ℕ) (ns : List ℕ) (k m : ℕ) → holds ns n ≡ false → k < length ns → get_or ns k 0 ≡ m → n ≡ m → ⊥
other-at n ns k m lacks lt at is = differ (sym (holds-found n ns k lt (at ∙ sym is)) ∙ lacks)
  where
    differ : true ≡ false → ⊥
    differ e = cc

-- ---- links are taken away

abbrev pub DropsFrom : (me : ℕ) → (before : List ℕ) → (at : ℕ) → (start now : Node) → Type 0
DropsFrom me before at start now = Relinking me (without_me me) (λ s. s.links.items) (λ s. before) at start now

module _ (me : ℕ) (before : List ℕ) (at : ℕ) (start now : Node) (may : MayAgree me before start) (so_far : DropsFrom me before at start now) where
  pub drop-own : me < now.slots.len
  drop-own = omega (arith, may.within, so_far.count, now.slots.ok.0)

  pub drop-rises : (r : Slot) (ns : List ℕ) → r ≡ get_or now.slots.items me r → ns ≡ r.links.items → Rising ns
  drop-rises r ns read same =
      subst Rising (sym same) (subst (HoldsSlot start.heap) (sym read) (All-get_or (HoldsSlot start.heap) now.slots.items me r (omega (arith, may.within, so_far.count)) so_far.slots')).links

  pub drop-other : at < length before → get_or before at 0 < now.slots.len
  drop-other lt = let below = below-at 0 (length start.slots.items) before at may.before'.below lt in omega (arith, below, so_far.count, now.slots.ok.0)

  drop-held : (s : Slot) → at < length before → s ≡ get_or now.slots.items (get_or before at 0) s → HoldsSlot start.heap s
  drop-held s lt read =
      let below = drop-other lt in
      subst (HoldsSlot start.heap) (sym read) (All-get_or (HoldsSlot start.heap) now.slots.items (get_or before at 0) s (omega (arith, below, now.slots.ok.0)) so_far.slots')

  pub drop-other-rises : (s : Slot) → at < length before → s ≡ get_or now.slots.items (get_or before at 0) s → Rising s.links.items
  drop-other-rises s lt read = (drop-held s lt read).links

  pub drop-skip : (r : Slot) (ns : List ℕ) → at < length before → r ≡ get_or now.slots.items me r → ns ≡ r.links.items → holds ns (get_or before at 0) ≡ true → DropsFrom me before (at + 1) start now
  drop-skip r ns lt read same held =
      relink-skip me (without_me me) (λ s. s.links.items) (λ s. before) at start now r (own-slot me (without_me me) (λ s. s.links.items) (λ s. before) at start now r so_far may.within read) lt
      (ap (λ ns. holds ns (get_or before at 0)) (sym same) ∙ held) so_far

  pub drop-more : (r s : Slot) (ns : List ℕ) (links : Vec ℕ) (slots : Vec Slot) → at < length before → r ≡ get_or now.slots.items me r → ns ≡ r.links.items → holds ns (get_or before at 0) ≡ false
      → s ≡ get_or now.slots.items (get_or before at 0) s → links.items ≡ without_number me s.links.items → slots.items ≡ slice_set now.slots.items (get_or before at 0) (slot_with s links)
      → DropsFrom me before (at + 1) start (with_slots now slots)
  drop-more r s ns links slots lt read same held there gone set =
      let is_held = drop-held s lt there in
      let below = drop-other lt in
      relink-more me (without_me me) (λ s. s.links.items) (λ s. before) at start now slots r s (slot_with s links) (get_or before at 0)
      (own-slot me (without_me me) (λ s. s.links.items) (λ s. before) at start now r so_far may.within read) lt refl (ap (λ ns. holds ns (get_or before at 0)) (sym same) ∙ held)
      (other-at me before at (get_or before at 0) may.before'.not_itself lt refl) (slice_get_read now.slots.items (length now.slots.items) (get_or before at 0) s refl (omega (arith, below, now.slots.ok.0)) there)
      (ap (with_links (process_of start.heap s)) gone) (linked-held start.heap s links (without_number me s.links.items) is_held gone (rising-without me 0 s.links.items is_held.links)) set so_far

pub drop-all : (me : ℕ) (before : List ℕ) (at : ℕ) (start now : Node) → MayAgree me before start → length before ≤ at → DropsFrom me before at start now → DropsLinks me before start now
drop-all me before at start now may le so_far = record {
  is = so_far.is;
  slots' = so_far.slots';
  own = so_far.own;
  processes = λ s here.
      sym (at_drop_all (λ ks. changes (without_me me) s.links.items ks (processes_of start.heap now.slots.items)) before at le) ∙ (so_far.processes s here
      ∙ drops-all me before s.links.items (processes_of start.heap start.slots.items) (rising-within 0 (length start.slots.items) before may.before'.below));
}

-- ---- links are added

abbrev pub AddsFrom : (me : ℕ) → (before : List ℕ) → (at : ℕ) → (start now : Node) → Type 0
AddsFrom me before at start now = Relinking me (with_me me) (λ s. before) (λ s. s.links.items) at start now

-- the own slot has the links that it had at the start
pub add-within : (me : ℕ) (before : List ℕ) (at : ℕ) (start now : Node) (first r : Slot) (count : ℕ) → MayAgree me before start → AddsFrom me before at start now → first ≡ get_or start.slots.items me first → r ≡ get_or now.slots.items me r
    → count ≡ first.links.len → at < count → at < length r.links.items
add-within me before at start now first r count may so_far read again is lt = omega (arith, lt, is, ap (λ (s : Slot). s.links.len) same, r.links.ok.0)
  where
    same : first ≡ r
    same =
        one-slot (slice_get start.slots.items me) first r (slice_get_read start.slots.items (length start.slots.items) me first refl may.within read)
        (own-slot me (with_me me) (λ s. before) (λ s. s.links.items) at start now r so_far may.within again)

module _ (me : ℕ) (before : List ℕ) (at : ℕ) (start now : Node) (may : MayAgree me before start) (so_far : AddsFrom me before at start now) (r : Slot) (read : r ≡ get_or now.slots.items me r) (lt : at < length r.links.items) (k : ℕ) (is : k ≡ get_or r.links.items at k) where
  own : slice_get start.slots.items me ≡ Some r
  own = own-slot me (with_me me) (λ s. before) (λ s. s.links.items) at start now r so_far may.within read

  at-place : get_or r.links.items at 0 ≡ k
  at-place = sym (is ∙ get_or_default r.links.items at k 0 lt)

  pub add-other : k < now.slots.len
  add-other = let below = below-at 0 (length start.slots.items) r.links.items at (may.links r own).below lt in omega (arith, below, at-place, so_far.count, now.slots.ok.0)

  add-held : (s : Slot) → s ≡ get_or now.slots.items k s → HoldsSlot start.heap s
  add-held s there = let below = add-other in subst (HoldsSlot start.heap) (sym there) (All-get_or (HoldsSlot start.heap) now.slots.items k s (omega (arith, below, now.slots.ok.0)) so_far.slots')

  pub add-rises : (s : Slot) → s ≡ get_or now.slots.items k s → Rising s.links.items
  add-rises s there = (add-held s there).links

  pub add-skip : holds before k ≡ true → AddsFrom me before (at + 1) start now
  add-skip held = relink-skip me (with_me me) (λ s. before) (λ s. s.links.items) at start now r own lt (ap (holds before) at-place ∙ held) so_far

  pub add-more : (s : Slot) (links : Vec ℕ) (slots : Vec Slot) → holds before k ≡ false → s ≡ get_or now.slots.items k s → links.items ≡ with_number me s.links.items → slots.items ≡ slice_set now.slots.items k (slot_with s links)
      → AddsFrom me before (at + 1) start (with_slots now slots)
  add-more s links slots held there more set =
      let is_held = add-held s there in
      let below = add-other in
      relink-more me (with_me me) (λ s. before) (λ s. s.links.items) at start now slots r s (slot_with s links) k own lt at-place held (other-at me r.links.items at k (may.links r own).not_itself lt at-place)
      (slice_get_read now.slots.items (length now.slots.items) k s refl (omega (arith, below, now.slots.ok.0)) there)
      (ap (with_links (process_of start.heap s)) more) (linked-held start.heap s links (with_number me s.links.items) is_held more (rising-with me 0 s.links.items (omega arith) is_held.links)) set so_far

pub add-all : (me : ℕ) (before : List ℕ) (at : ℕ) (start now : Node) (r : Slot) → MayAgree me before start → r ≡ get_or start.slots.items me r → length r.links.items ≤ at → AddsFrom me before at start now → AddsLinks me before start now
add-all me before at start now r may read le so_far = record {
  is = so_far.is;
  slots' = so_far.slots';
  own = so_far.own;
  processes = λ s here.
      sym (at_drop_all (λ ks. changes (with_me me) before ks (processes_of start.heap now.slots.items)) s.links.items at (omega (arith, le, ap (λ (s : Slot). length s.links.items) (same s here)))) ∙ (so_far.processes s here
      ∙ adds-all me before s.links.items (processes_of start.heap start.slots.items) (rising-within 0 (length start.slots.items) s.links.items (may.links s here).below));
}
  where
    same : (s : Slot) → slice_get start.slots.items me ≡ Some s → s ≡ r
    same s here = one-slot (slice_get start.slots.items me) s r here (slice_get_read start.slots.items (length start.slots.items) me r refl may.within read)

-- ---- both

none-past : {A : Type 0} (xs : List A) (n : ℕ) → slice_get xs n ≡ None → length xs ≤ n
none-past [] n e = omega arith
none-past (x ∷ xs) zero e = absurd cc
none-past (x ∷ xs) (suc n) e = omega (arith, none-past xs n e)

length-dropping : (me : ℕ) (before : List ℕ) (number : ℕ) (links : List ℕ) (ps : List Process) → length (dropping me before number links ps) ≡ length ps
length-dropping me before number links [] = refl
length-dropping me before number links (p ∷ ps) = ap suc (length-dropping me before (number + 1) links ps)

pub agree-next : (me : ℕ) (before : List ℕ) (old mid : Node) → MayAgree me before old → DropsLinks me before old mid → MayAgree me before mid
agree-next me before old mid may drops = record {
  within = omega (arith, may.within, count);
  slots' = subst (λ heap. All (HoldsSlot heap) mid.slots.items) (sym (ap (λ (n : Node). n.heap) drops.is)) drops.slots';
  before' = subst (λ n. IsLinked n me before) (sym count) may.before';
  links = λ s here. subst (λ n. IsLinked n me s.links.items) (sym count) (may.links s (sym drops.own ∙ here));
}
  where
    there : (o : Option Slot) → slice_get old.slots.items me ≡ o → length mid.slots.items ≡ length old.slots.items
    there None e = let past = none-past old.slots.items me e in absurd (omega (arith, may.within, past))
    there (Some s) e =
        sym (length-map mid.slots.items (process_of old.heap)) ∙ (ap length (drops.processes s e) ∙ (length-dropping me before 0 s.links.items (processes_of old.heap old.slots.items) ∙ length-map old.slots.items (process_of old.heap)))

    count : length mid.slots.items ≡ length old.slots.items
    count = there (slice_get old.slots.items me) refl

pub agree-done : (me : ℕ) (before : List ℕ) (old mid new : Node) → DropsLinks me before old mid → AddsLinks me before mid new → Agrees me before old new
agree-done me before old mid new drops adds =
    let more : AddsLinks me before (with_slots old mid.slots) new = subst (λ (m : Node). AddsLinks me before m new) drops.is adds in
    record {
      is = more.is;
      slots' = more.slots';
      own = more.own ∙ drops.own;
      processes = λ s here. more.processes s (drops.own ∙ here) ∙ (ap (adding me before 0 s.links.items) (drops.processes s here) ∙ drops-adds me 0 before s.links.items (processes_of old.heap old.slots.items));
    }
