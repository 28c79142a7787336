-- The classes of accepted modules run as the modules.
use Rattle.std.proofs.Common.{◌≡◌, ℕ, ◌<◌, ◌≤◌, Bool, true, false, ◌&&◌, nat_lt, if◌then◌else◌, List, [], ◌∷◌, map, length, Option, None, Some, refl, sym, ap, ◌∙◌, subst}
use Rattle.std.specs.Option.{option_and_then}
use Rattle.std.specs.List.{list_all}
use Rattle.std.specs.Str.{bytes_eq}
use Rattle.std.proofs.lemmas.Bool.{and_parts}
use Rattle.ej_term.specs.declared.class.Class3.TheVariants.{Error}
use Rattle.ej_term.specs.Term.{Term}
use Rattle.erjang_top.specs.first_path.World.{Begin, Choice, Start, Run, Event, Raise}
use Rattle.erjang_top.specs.first_path.Run.{Turned, run}
use Rattle.erjang_top.specs.first_path.Agree.{Keeps, SameTurn, Agree, IsScript}
use Rattle.erjang_top.proofs.FirstPath.RunLaw.{run_same}
use Rattle.beam_code.specs.declared.module.Module.{Module}
use Rattle.beam_code.specs.Keys.{is_among}
use Rattle.erjang_top.specs.first_path.Accepted.{Accepted, is_atom_name, is_thin_function}
use Rattle.erjang_top.specs.first_path.Turn as beam_turn
use Rattle.erjang_top.specs.first_path.Turn.{beam, end_reason}
use Rattle.erjang_top.specs.first_path.ClassFile.{Class}
use Rattle.erjang_top.specs.first_path.ClassTurn as class_turn
use Rattle.erjang_top.specs.first_path.ClassTurn.{jvm}
use Rattle.erjang_top.specs.first_path.ModuleClass.{class_of, body}
use Rattle.erjang_top.specs.first_path.Runs.{IsPlainScript, RunsAs}
use Rattle.erjang_top.specs.first_path.Together.{AreAccepted, RunTogether}
use Rattle.erjang_top.proofs.FirstPath.BeamTurn.{beam-undef, beam-runs}
use Rattle.erjang_top.proofs.FirstPath.ClassParts.{IsOf, is-of}
use Rattle.erjang_top.proofs.FirstPath.ClassTurns.{class-undef, class-here, not-loaded, not-exported, class-runs}
use Rattle.erjang_top.proofs.FirstPath.Ending.{ending, events_of, reason_of, Does, given, how_of, undef_atom}
use Rattle.erjang_top.proofs.FirstPath.Found.{found, exported-function}

-- the start of a function's name, of a list of at most 255 arguments
record IsCall (how : Begin) : Type 0 where
  owner : List ℕ
  name : List ℕ
  args : List Term
  few : length args ≤ 255
  is : how ≡ how_of owner name args

-- both are still to begin
record BothBegun (s : beam_turn.State) (t : class_turn.State) : Type 0 where
  how : Begin
  call : IsCall how
  beam_is : s ≡ beam_turn.Begun how
  class_is : t ≡ class_turn.Begun how

-- two turns that did the same and ended
same-turn : (es : List Event) (reason : Term) (a : Turned beam_turn.State) (b : Turned class_turn.State) → Does a es reason → Does b es reason → SameTurn BothBegun a b
same-turn es reason a b x y = record {
  events = x.events ∙ sym y.events;
  outcome = x.outcome ∙ sym y.outcome;
  states = subst (λ o. Keeps BothBegun o a.state b.state) (sym x.outcome) tt;
}

-- each class is that of the accepted module in its place
abbrev pub AreOf : List Module → List Class → Type 0
AreOf [] [] = Unit {0}
AreOf (m ∷ ms) (c ∷ cs) = (Accepted m × IsOf m c) × AreOf ms cs
AreOf _ _ = ⊥

-- what is loaded of a name on both sides
abbrev AreLoaded : Option Module → Option Class → Type 0
AreLoaded None None = Unit {0}
AreLoaded (Some m) (Some c) = Accepted m × IsOf m c
AreLoaded _ _ = ⊥

both-loaded : (ms : List Module) (cs : List Class) → AreOf ms cs → (owner : List ℕ) → AreLoaded (beam_turn.loaded owner ms) (class_turn.loaded owner cs)
both-loaded [] [] are owner = tt
both-loaded [] (c ∷ cs) are owner = absurd are
both-loaded (m ∷ ms) [] are owner = absurd are
both-loaded (m ∷ ms) (c ∷ cs) are owner =
    subst (λ b. AreLoaded (beam_turn.loaded owner (m ∷ ms)) (if b then Some c else class_turn.loaded owner cs)) (sym (class-here m c are.0.1 owner)) (by (bytes_eq m.name owner) (both-loaded ms cs are.1 owner))
  where
    by : (b : Bool) → AreLoaded (beam_turn.loaded owner ms) (class_turn.loaded owner cs) → AreLoaded (if b then Some m else beam_turn.loaded owner ms) (if b then Some c else class_turn.loaded owner cs)
    by true rest = are.0
    by false rest = rest

module _ (ms : List Module) (cs : List Class) (are : AreOf ms cs) where
  abbrev Same : ℕ → ℕ → List ℕ → List ℕ → List Term → Type 0
  Same me n owner name args = SameTurn BothBegun (beam_turn.turn ms me n (beam_turn.Begun (how_of owner name args))) (class_turn.turn cs me n (class_turn.Begun (how_of owner name args)))

  -- a module that is loaded, and whether it exports the function
  of-module : (me n : ℕ) (owner name : List ℕ) (args : List Term) → length args ≤ 255 → 0 < n → (m : Module) (c : Class) → Accepted m → IsOf m c
      → beam_turn.loaded owner ms ≡ Some m → class_turn.loaded owner cs ≡ Some c → (public' : Bool) → is_among m.exports (name, length args) ≡ public' → Same me n owner name args
  of-module me n owner name args few some m c a of here there false private =
      let thin = (and_parts (is_atom_name m.name && nat_lt 0 (length m.name)) (list_all is_thin_function m.functions) a.plain).1 in
      same-turn (Raise me Error undef_atom ∷ []) (end_reason Error undef_atom) _ _
      (beam-undef ms me n owner name args (ap (option_and_then (λ k. beam_turn.enters k name args)) here ∙ rw private refl))
      (class-undef cs me n owner name args (not-exported cs m c of thin owner name args few there private))
  of-module me n owner name args few some m c a of here there true public' =
      let thin = (and_parts (is_atom_name m.name && nat_lt 0 (length m.name)) (list_all is_thin_function m.functions) a.plain).1 in
      let f = found (name, length args) m.functions (exported-function (name, length args) m.exports m.functions m.exported public') in
      same-turn (events_of me (ending (given args) (body f.function))) (reason_of (ending (given args) (body f.function))) _ _
      (beam-runs ms m a me n owner name args here public' f)
      (class-runs cs m c a of thin me n owner name args few some there public' f)

  first : (me n : ℕ) (owner name : List ℕ) (args : List Term) → length args ≤ 255 → 0 < n → (o : Option Module) → beam_turn.loaded owner ms ≡ o → (p : Option Class) → class_turn.loaded owner cs ≡ p
      → AreLoaded o p → Same me n owner name args
  first me n owner name args few some None here None there loaded =
      same-turn (Raise me Error undef_atom ∷ []) (end_reason Error undef_atom) _ _
      (beam-undef ms me n owner name args (ap (option_and_then (λ k. beam_turn.enters k name args)) here))
      (class-undef cs me n owner name args (not-loaded cs owner name args there))
  first me n owner name args few some None here (Some c) there loaded = absurd loaded
  first me n owner name args few some (Some m) here None there loaded = absurd loaded
  first me n owner name args few some (Some m) here (Some c) there loaded = of-module me n owner name args few some m c loaded.0 loaded.1 here there _ refl

  turns : (me n : ℕ) (s : beam_turn.State) (t : class_turn.State) → 0 < n → BothBegun s t → SameTurn BothBegun (beam_turn.turn ms me n s) (class_turn.turn cs me n t)
  turns me n s t some both =
      let call = both.call in
      let s' : s ≡ beam_turn.Begun (how_of call.owner call.name call.args) = both.beam_is ∙ ap (λ h. beam_turn.Begun h) call.is in
      let t' : t ≡ class_turn.Begun (how_of call.owner call.name call.args) = both.class_is ∙ ap (λ h. class_turn.Begun h) call.is in
      subst (λ u. SameTurn BothBegun (beam_turn.turn ms me n u) (class_turn.turn cs me n t)) (sym s')
      (subst (λ u. SameTurn BothBegun (beam_turn.turn ms me n (beam_turn.Begun (how_of call.owner call.name call.args))) (class_turn.turn cs me n u)) (sym t')
      (first me n call.owner call.name call.args call.few some _ refl _ refl (both-loaded ms cs are call.owner)))

  agree : Agree (beam ms) (jvm cs) BothBegun IsCall
  agree = record {
    begins = λ how call. record { how = how; call = call; beam_is = refl; class_is = refl };
    turns = turns;
    depths = λ s t both. ap beam_turn.depth both.beam_is ∙ sym (ap class_turn.depth both.class_is);
  }

  asked : (script : List Choice) → IsPlainScript script → IsScript IsCall script
  asked [] is = tt
  asked (Start owner name args ∷ script) is = ((is.0.0, record { owner = owner; name = name; args = args; few = is.0.0; is = refl }), asked script is.1)
  asked (Run pid transfers ∷ script) is = (is.0, asked script is.1)

  run-of : (script : List Choice) → IsPlainScript script → run (jvm cs) script ≡ run (beam ms) script
  run-of script is = sym (run_same BothBegun IsCall (beam ms) (jvm cs) agree script (asked script is))

-- the class of an accepted module runs as the module
pub runs-as : (m : Module) → Accepted m → RunsAs m (class_of m)
runs-as m a = run-of (m ∷ []) (class_of m ∷ []) ((a, is-of m), tt)

are-of : (ms : List Module) → AreAccepted ms → AreOf ms (map class_of ms)
are-of [] are = tt
are-of (m ∷ ms) are = ((are.0, is-of m), are-of ms are.1)

-- and their classes together as the modules together
pub run-together : RunTogether
run-together ms are = run-of ms (map class_of ms) (are-of ms are)
