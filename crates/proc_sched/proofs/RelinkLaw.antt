-- A node behind a change of links: the sets and the live processes stay.
use Rattle.std.proofs.Common.{◌≡◌, ℕ, zero, suc, ◌+◌, Bool, true, false, List, [], ◌∷◌, ◌++◌, Option, None, Some, option_map, refl, sym, ap, ap₂, subst, ◌∙◌, arith}
use Rattle.std.specs.Prelude.{slice_get, if◌then◌else◌}
use Rattle.ej_world.specs.Choices.{holds, linked_back, agreeing}
use Rattle.ej_world.specs.World.{Status, Running, Waiting, Ended, Process, is_live, is_ready, is_ready_in, numbers_from, with_links}
use Rattle.proc_sched.specs.declared.node.Node.{Node}
use Rattle.proc_sched.specs.declared.slot.Slot.{Slot}
use Rattle.proc_sched.specs.Stands.{IsNode, Sets, world_of, processes_of, ready_at, to_come, due_at}
use Rattle.proc_sched.specs.Turning.{Agrees}
use Rattle.proc_sched.proofs.Setting.{SameBut, sets-same}

-- links are nothing to being ready, to a deadline or to being live
record AsBefore (clock : ℕ) (p q : Process) : Type 0 where
  ready : is_ready clock q ≡ is_ready clock p
  due : to_come clock q ≡ to_come clock p
  live : is_live q ≡ is_live p

links-as-before : (clock : ℕ) (p : Process) (links : List ℕ) → AsBefore clock p (with_links p links)
links-as-before clock p links = record { ready = by p.status; due = refl; live = refl }
  where
    by : (status : Status) → is_ready_in clock (with_links p links) status ≡ is_ready_in clock p status
    by Running = refl
    by Waiting = refl
    by Ended = refl

back-as-before : (clock me : ℕ) (was is : Bool) (p : Process) → AsBefore clock p (linked_back me was is p)
back-as-before clock me true true p = record { ready = refl; due = refl; live = refl }
back-as-before clock me false false p = record { ready = refl; due = refl; live = refl }
back-as-before clock me false true p = links-as-before clock p _
back-as-before clock me true false p = links-as-before clock p _

-- what is at a number of processes the first of which has another
pub get-agreeing : (me : ℕ) (old new : List ℕ) (number k n : ℕ) (ps : List Process) → n ≡ number + k → slice_get (agreeing me old new number ps) k ≡ option_map (linked_back me (holds old n) (holds new n)) (slice_get ps k)
get-agreeing me old new number k n [] e = refl
get-agreeing me old new number zero n (p ∷ ps) e = let same : number ≡ n = omega (arith, e) in ap (λ m. Some (linked_back me (holds old m) (holds new m) p)) same
get-agreeing me old new number (suc k) n (p ∷ ps) e = get-agreeing me old new (number + 1) k n ps (omega (arith, e))

agreeing-same : (clock me : ℕ) (old new : List ℕ) (ps : List Process) → SameBut None clock ps (agreeing me old new 0 ps)
agreeing-same clock me old new ps n is = by (slice_get ps n) (get-agreeing me old new 0 n n ps (omega arith))
  where
    by : (o : Option Process) → slice_get (agreeing me old new 0 ps) n ≡ option_map (linked_back me (holds old n) (holds new n)) o
        → (ready_at clock (slice_get (agreeing me old new 0 ps) n) ≡ ready_at clock o) × (due_at clock (slice_get (agreeing me old new 0 ps) n) ≡ due_at clock o)
    by None e = (ap (ready_at clock) e, ap (due_at clock) e)
    by (Some p) e =
        let same = back-as-before clock me (holds old n) (holds new n) p in
        (ap (ready_at clock) e ∙ same.ready, ap (due_at clock) e ∙ same.due)

agreeing-live : (me : ℕ) (old new : List ℕ) (number : ℕ) (ps : List Process) → numbers_from number is_live (agreeing me old new number ps) ≡ numbers_from number is_live ps
agreeing-live me old new number [] = refl
agreeing-live me old new number (p ∷ ps) =
    ap₂ (λ (b : Bool) (ns : List ℕ). if b then number ∷ ns else ns) (back-as-before 0 me (holds old number) (holds new number) p).live (agreeing-live me old new (number + 1) ps)

pub relinked-world : (me : ℕ) (before : List ℕ) (old new : Node) (s : Slot) → Agrees me before old new → slice_get old.slots.items me ≡ Some s
    → world_of new ≡ record { node = 0; next_ref = old.next_ref; clock = old.clock; processes = agreeing me before s.links.items 0 (world_of old).processes; queue = (world_of old).queue }
relinked-world me before old new s agrees at =
    ap world_of agrees.is ∙ ap (λ ps. record { node = 0; next_ref = old.next_ref; clock = old.clock; processes = ps; queue = (world_of old).queue }) (agrees.processes s at)

pub relinked-node : (me : ℕ) (before : List ℕ) (old new : Node) (s : Slot) → IsNode old → Agrees me before old new → slice_get old.slots.items me ≡ Some s → IsNode new
relinked-node me before old new s is agrees at =
    subst IsNode (sym agrees.is) (record {
      slots' = agrees.slots';
      queues' = is.queues';
      events' = is.events';
      sets = subst (λ qs. Sets None old.clock qs old.ready old.deadlines) (sym changed) (sets-same None old.clock ps (agreeing me before s.links.items 0 ps) old.ready old.deadlines (agreeing-same old.clock me before s.links.items ps) is.sets);
      live' = is.live' ∙ ap (λ ns. ns ++ []) (sym (ap (numbers_from 0 is_live) changed ∙ agreeing-live me before s.links.items 0 ps));
    })
  where
    ps : List Process
    ps = processes_of old.heap old.slots.items

    changed : processes_of old.heap new.slots.items ≡ agreeing me before s.links.items 0 (processes_of old.heap old.slots.items)
    changed = agrees.processes s at
