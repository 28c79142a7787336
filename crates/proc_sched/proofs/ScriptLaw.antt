-- The events of a script of choices are the run of it, and the signals of each pair are delivered in their order.
use Rattle.std.proofs.Common.{◌≡◌, ℕ, List, [], ◌∷◌, ◌++◌, refl, sym, ap, subst, ◌∙◌, length, arith}
use Rattle.std.proofs.lemmas.List.{append_assoc, append-nil, length-append, nil_from_length}
use Rattle.ej_term.specs.Term.{Term}
use Rattle.ej_world.specs.declared.event.Event.{Event}
use Rattle.ej_world.specs.Choices.{Code}
use Rattle.ej_world.specs.Lawful.{States, Lawful, AreAsked}
use Rattle.ej_world.specs.Order.{InOrder}
use Rattle.ej_world.specs.Runs.{Choice, run}
use Rattle.ej_world.proofs.OrderLaw.{run_in_order}
use Rattle.proc_sched.specs.Choose.{Seen, MakesAll}

-- nothing is added
none-added : {X : Type 0} (xs ys : List X) → xs ≡ xs ++ ys → ys ≡ []
none-added xs ys e = nil_from_length ys (omega (arith, ap length e, length-append xs ys))

-- what the choices showed, with what each script would show before them and behind them
record Shown (script : List Choice) (old new : Seen) : Type 0 where
  shown : List (Event Term)
  is : new.events ≡ old.events ++ shown
  before : (more : List Choice) → old.shows (script ++ more) ≡ shown ++ new.shows more
  ends : new.shows [] ≡ []

shown-by : (script : List Choice) (old new : Seen) → old.shows [] ≡ [] → MakesAll script old new → Shown script old new
shown-by [] old new ends made = subst (Shown [] old) (sym made) (record { shown = []; is = sym (append-nil old.events); before = λ more. refl; ends = ends })
shown-by (c ∷ cs) old new ends made =
    let one = made.1 in
    let first = old.shows (c ∷ []) in
    let rest = shown-by cs made.0 new (none-added first (made.0.shows []) (one.shows [])) made.2 in
    record {
      shown = first ++ rest.shown;
      is = rest.is ∙ (ap (λ es. es ++ rest.shown) one.events ∙ append_assoc old.events first rest.shown);
      before = λ more. one.shows (cs ++ more) ∙ (ap (λ es. first ++ es) (rest.before more) ∙ sym (append_assoc first rest.shown (new.shows more)));
      ends = rest.ends;
    }

-- from a world on that shows the runs of a code, the events of choices are the run of them
pub made-run : {S : Type 0} (code : Code S) (script : List Choice) (old new : Seen) → old.shows ≡ run code → MakesAll script old new → new.events ≡ old.events ++ run code script
made-run code script old new shows made =
    let all = shown-by script old new (ap (λ (f : List Choice → List (Event Term)). f []) shows) made in
    let whole : run code script ≡ all.shown = sym (ap (λ (f : List Choice → List (Event Term)). f script) shows) ∙ (sym (ap old.shows (append-nil script)) ∙ (all.before [] ∙ (ap (λ es. all.shown ++ es) all.ends ∙ append-nil all.shown))) in
    all.is ∙ ap (λ es. old.events ++ es) (sym whole)

-- so what was sent from one process to another is, in its order, what was delivered, and then what waits
pub made-in-order : {S : Type 0} (code : Code S) (IsState : States S) → Lawful code IsState → (script : List Choice) → AreAsked script → (old new : Seen) → old.shows ≡ run code → old.events ≡ [] → MakesAll script old new
    → (from to : ℕ) → InOrder from to new.events
made-in-order code IsState lawful script asked old new shows none made from to =
    subst (InOrder from to) (sym (made-run code script old new shows made ∙ ap (λ es. es ++ run code script) none)) (run_in_order from to code IsState lawful script asked)
