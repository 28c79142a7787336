-- The least kind, and the least state, that two are below; and how far a state can still rise.
use Rattle.std.specs.Prelude.{◌≡◌, ◌<◌, ◌≤◌, ℕ, ◌+◌, ◌-◌, ◌^◌, Bool, true, false, max, List, length, take, Option, None, Some}
use Rattle.std.specs.List.{list_all, sum_by}
use Rattle.beam_code.specs.declared.kind.Kind.{Kind}
use Rattle.beam_code.specs.declared.kind.Kind.TheVariants as k
use Rattle.beam_code.specs.declared.slot_state.SlotState.{SlotState}
use Rattle.beam_code.specs.SlotForm.{is_kind}
use Rattle.beam_code.specs.Slots.{State, Below, below_kind, listed, state_of}

-- both are below it, and it is below each that both are below
pub record IsJoinKind (a b c : Kind) : Type 0 where
  pub one : below_kind a c ≡ true
  pub other : below_kind b c ≡ true
  pub least : (d : Kind) → below_kind a d ≡ true → below_kind b d ≡ true → below_kind c d ≡ true

abbrev pub NoJoinKind : Kind → Kind → Type 0
NoJoinKind a b = (d : Kind) → below_kind a d ≡ true → below_kind b d ≡ true → ⊥

pub record IsJoin (a b c : State) : Type 0 where
  pub one : Below a c
  pub other : Below b c
  pub least : (d : State) → Below a d → Below b d → Below c d

abbrev pub NoJoin : State → State → Type 0
NoJoin a b = (d : State) → Below a d → Below b d → ⊥

-- a number that falls where a kind rises; a tag has less than 2^64 labels
abbrev pub rank : Kind → ℕ
rank k.Undefined = 0
rank k.Term = 2
rank k.OptTerm = 1
rank (k.Tag labels) = 2 ^ 64 - length labels
rank k.Trace = 1
rank k.Marker = 1

abbrev pub bit : Bool → ℕ
bit false = 0
bit true = 1

-- what two kinds that are no tags become where they meet, and whether that changes the first
abbrev pub meeting : Kind → Kind → Kind
meeting k.Term k.Term = k.Term
meeting k.Term k.OptTerm = k.OptTerm
meeting k.OptTerm k.Term = k.OptTerm
meeting k.OptTerm k.OptTerm = k.OptTerm
meeting k.Trace k.Trace = k.Trace
meeting k.Marker k.Marker = k.Marker
meeting a b = k.Undefined

abbrev pub changes : Kind → Kind → Bool
changes k.Undefined b = false
changes k.Term k.Term = false
changes k.OptTerm k.Term = false
changes k.OptTerm k.OptTerm = false
changes k.Trace k.Trace = false
changes k.Marker k.Marker = false
changes a b = true

-- what a kind becomes where it meets another, and whether that changed it
pub record IsMet (a b c : Kind) (changed : Bool) : Type 0 where
  pub join : IsJoinKind a b c
  pub falls : rank c + bit changed ≤ rank a
  pub same : changed ≡ false → below_kind b a ≡ true
  pub formed : is_kind a ≡ true → is_kind b ≡ true → is_kind c ≡ true

-- the same of the first of the kinds that are listed, of that number
pub record AreMetTo (at : ℕ) (a b c : List Kind) (changed : Bool) : Type 0 where
  pub joins : (n : ℕ) → n < at → IsJoinKind (listed a n) (listed b n) (listed c n)
  pub long : length c ≡ at
  pub falls : sum_by rank c + bit changed ≤ sum_by rank (take at a)
  pub same : changed ≡ false → (n : ℕ) → n < at → below_kind (listed b n) (listed a n) ≡ true
  pub formed : list_all is_kind c ≡ true

-- of all
pub record AreMet (a b c : List Kind) (changed : Bool) : Type 0 where
  pub joins : (n : ℕ) → IsJoinKind (listed a n) (listed b n) (listed c n)
  pub long : length c ≡ max (length a) (length b)
  pub falls : sum_by rank c + bit changed ≤ sum_by rank a
  pub same : changed ≡ false → (n : ℕ) → below_kind (listed b n) (listed a n) ≡ true
  pub formed : list_all is_kind c ≡ true

-- some kinds have no join
abbrev pub Clash : List Kind → List Kind → Type 0
Clash a b = (n : ℕ) × NoJoinKind (listed a n) (listed b n)

abbrev pub rank_of : SlotState → ℕ
rank_of s = sum_by rank s.xs + sum_by rank s.ys

-- none where the other is below the state; else the join, which is of lower rank
abbrev pub JoinsTo : SlotState → SlotState → Option SlotState → Type 0
JoinsTo s t None = Below (state_of t) (state_of s)
JoinsTo s t (Some u) = IsJoin (state_of s) (state_of t) (state_of u) × (rank_of u < rank_of s)
