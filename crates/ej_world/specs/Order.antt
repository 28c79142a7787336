-- The signals of one pair are delivered in the order in which they were sent.
use Rattle.std.specs.Prelude.{◌≡◌, ℕ, nat_eq, ◌&&◌, if◌then◌else◌, List, [], ◌∷◌, ◌++◌, Some}
use Rattle.std.specs.List.{flat_map}
use Rattle.ej_term.specs.Term.{Term}
use Rattle.ej_world.specs.declared.event.Event.{Event}
use Rattle.ej_world.specs.declared.event.Event.TheVariants as event
use Rattle.ej_world.specs.Delivery.{to_process}
use Rattle.ej_world.specs.World.{Signal, Message, Link, Exit, Process, World, Change}

-- what an event sends from one process to another
abbrev pub sent_by : (from to : ℕ) → Event Term → List Signal
sent_by from to (event.Send p q message) = if nat_eq from p && nat_eq to q then Message message ∷ [] else []
sent_by from to (event.Signal p q reason) = if nat_eq from p && nat_eq to q then Exit reason ∷ [] else []
sent_by from to (event.Broken p q reason) = if nat_eq from p && nat_eq to q then Link reason ∷ [] else []
sent_by from to _ = []

abbrev pub sent : (from to : ℕ) → List (Event Term) → List Signal
sent from to events = flat_map (sent_by from to) events

-- what is seen of a delivery from one process to another
abbrev pub handled_by : (from to : ℕ) → Event Term → List (Event Term)
handled_by from to (event.Deliver p q message) = if nat_eq from p && nat_eq to q then event.Deliver p q message ∷ [] else []
handled_by from to (event.Hit p q reason) = if nat_eq from p && nat_eq to q then event.Hit p q reason ∷ [] else []
handled_by from to (event.Dropped p q) = if nat_eq from p && nat_eq to q then event.Dropped p q ∷ [] else []
handled_by from to _ = []

abbrev pub handled : (from to : ℕ) → List (Event Term) → List (Event Term)
handled from to events = flat_map (handled_by from to) events

-- what is seen of the delivery of a signal: the first event of what it does to some process in some world
pub record Shows (from to : ℕ) (signal : Signal) (first : Event Term) : Type 0 where
  pub world : World
  pub process : Process
  pub change : Change
  pub more : List (Event Term)
  pub is : to_process world from to signal (Some process) ≡ Some change
  pub events : change.events ≡ first ∷ more

abbrev pub ShowEach : (from to : ℕ) → List Signal → List (Event Term) → Type 0
ShowEach from to [] [] = Unit {0}
ShowEach from to (signal ∷ signals) (e ∷ events) = Shows from to signal e × ShowEach from to signals events
ShowEach from to _ _ = ⊥

-- what was sent from one process to another is, in its order, what was delivered, and then what waits
pub record InOrder (from to : ℕ) (events : List (Event Term)) : Type 0 where
  pub delivered : List Signal
  pub waiting : List Signal
  pub are : sent from to events ≡ delivered ++ waiting
  pub shown : ShowEach from to delivered (handled from to events)
