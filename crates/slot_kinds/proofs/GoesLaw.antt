-- Steps from table to table, one behind another.
use Rattle.std.proofs.Common.{◌≡◌, refl, ◌∙◌, arith}
use Rattle.std.specs.Prelude.{is_some, Result, Ok, Err}
use Rattle.beam_code.specs.Good.{Assignment}
use Rattle.slot_kinds.specs.declared.fault.SlotFault.{SlotFault}
use Rattle.slot_kinds.specs.declared.fault.SlotFault.TheVariants.{NotSlotted, NoMemory}
use Rattle.slot_kinds.specs.Answer.{Answers}
use Rattle.slot_kinds.specs.declared.table.Table.{Table}
use Rattle.slot_kinds.specs.Tables.{known, held, Owed, Nothing, Goes, Refuses}
use Rattle.slot_kinds.proofs.SegmentLaw.{under-same, under-under}

pub goes-none : (p : Owed) (t : Table) → Goes p p t t
goes-none p t = record {
  stays = refl;
  rises = under-same (held t);
  done = λ at u h. h;
  least = λ at u h. u;
  left = λ at u h. h;
  settled = λ l h. h;
  kept = λ l h. refl;
  works = omega arith;
  tags = λ h. h;
}

pub goes-then : (p q r : Owed) (a b c : Table) → Goes p q a b → Goes q r b c → Goes p r a c
goes-then p q r a b c g h = record {
  stays = h.stays ∙ g.stays;
  rises = under-under (held a) (held b) (held c) g.rises h.rises;
  done = λ at u o. g.done at (under-under (held b) (held c) at h.rises u) (h.done at u o);
  least = λ at u o. h.least at (g.least at u o) (g.left at u o);
  left = λ at u o. h.left at (g.least at u o) (g.left at u o);
  settled = λ l e. g.settled l (h.settled l e);
  kept = λ l e. h.kept l e ∙ g.kept l (h.settled l e);
  works = omega (arith, g.works, h.works);
  tags = λ x. h.tags (g.tags x);
}

-- one part of what is owed is done, another is left
pub goes-first : (p q : Owed) (a b : Table) → Goes p Nothing a b → Goes (λ at. p at × q at) q a b
goes-first p q a b g = record {
  stays = g.stays;
  rises = g.rises;
  done = λ at u o. (g.done at u tt, o);
  least = λ at u o. g.least at u o.0;
  left = λ at u o. o.1;
  settled = g.settled;
  kept = g.kept;
  works = g.works;
  tags = g.tags;
}

-- the same is owed in other words
pub goes-as : (p q r : Owed) (a b : Table) → ((at : Assignment) → p at → q at) → ((at : Assignment) → q at → p at) → Goes q r a b → Goes p r a b
goes-as p q r a b f g h = record {
  stays = h.stays;
  rises = h.rises;
  done = λ at u o. g at (h.done at u o);
  least = λ at u o. h.least at u (f at o);
  left = λ at u o. h.left at u (f at o);
  settled = h.settled;
  kept = h.kept;
  works = h.works;
  tags = h.tags;
}

pub refuses-then : (p q : Owed) (a b : Table) → Goes p q a b → Refuses q b → Refuses p a
refuses-then p q a b g r at u o = r at (g.least at u o) (g.left at u o)

pub refuses-as : (p q : Owed) (a : Table) → ((at : Assignment) → p at → q at) → Refuses q a → Refuses p a
refuses-as p q a f r at u o = r at u (f at o)

-- nothing is left where all that is left holds of itself
pub goes-end : (p q : Owed) (a b : Table) → ((at : Assignment) → q at) → Goes p q a b → Goes p Nothing a b
goes-end p q a b h g = record {
  stays = g.stays;
  rises = g.rises;
  done = λ at u o. g.done at u (h at);
  least = g.least;
  left = λ at u o. tt;
  settled = g.settled;
  kept = g.kept;
  works = g.works;
  tags = g.tags;
}

-- Answers of calls that do what is owed.

abbrev pub Outcome : Owed → Table → Table → Result (Unit {0}) SlotFault → Type 0
Outcome p a b r = Answers {A = Unit {0}} (λ x. Goes p Nothing a b) (Refuses p a) r

pub outcome-as : (p q : Owed) (a b : Table) (r : Result (Unit {0}) SlotFault) → ((at : Assignment) → p at → q at) → ((at : Assignment) → q at → p at) → Outcome q a b r → Outcome p a b r
outcome-as p q a b (Ok x) f g h = goes-as p q Nothing a b f g h
outcome-as p q a b (Err NotSlotted) f g h = refuses-as p q a f h
outcome-as p q a b (Err NoMemory) f g h = tt

pub outcome-then : (p q : Owed) (a b c : Table) (r : Result (Unit {0}) SlotFault) → Goes p q a b → Outcome q b c r → Outcome p a c r
outcome-then p q a b c (Ok x) g h = goes-then p q Nothing a b c g h
outcome-then p q a b c (Err NotSlotted) g h = refuses-then p q a b g h
outcome-then p q a b c (Err NoMemory) g h = tt

-- the same labels have rows
pub same-known : (p q : Owed) (a b : Table) → Goes p q a b → known b ≡ known a
same-known p q a b g = λ i l. is_some (g.stays i l)
