-- The line of each event, and the text of a run: a line an event.
use Rattle.std.specs.Prelude.{ℕ, List, [], ◌∷◌, ◌++◌, codes, map}
use Rattle.std.specs.List.{flat_map, join_with_byte}
use Rattle.std.specs.Fmt.{decimal}
use Rattle.ej_term.specs.declared.class.Class3.{Class3}
use Rattle.ej_term.specs.declared.class.Class3.TheVariants.{Error, Exit, Throw}
use Rattle.ej_term.specs.Term.{tuple}
use Rattle.ej_term.specs.TermPrint.{print}
use Rattle.erjang_top.specs.first_path.World.{Begin, Call, Fun, Event}
use Rattle.erjang_top.specs.first_path.World as event

abbrev pub class_word : Class3 → List ℕ
class_word Error = codes "error"
class_word Exit = codes "exit"
class_word Throw = codes "throw"

-- `{M,F,Args}`, or the fun
abbrev pub begin_text : Begin → List ℕ
begin_text (Call owner name args) = print (tuple (owner ∷ name ∷ args ∷ []))
begin_text (Fun function) = print function

-- a word and a process number
abbrev pub of_process : List ℕ → ℕ → List ℕ
of_process word pid = word ++ codes " " ++ decimal pid

abbrev pub words_of : Event → List ℕ
words_of (event.Start pid how) = of_process (codes "start") pid ++ codes " " ++ begin_text how
words_of (event.Raise pid class reason) = of_process (codes "raise") pid ++ codes " " ++ class_word class ++ codes " " ++ print reason
words_of (event.Answer pid value) = of_process (codes "result") pid ++ codes " " ++ print value
words_of (event.Exit pid reason) = of_process (codes "exit") pid ++ codes " " ++ print reason
words_of (event.Fault pid) = of_process (codes "fault") pid
words_of (event.Turn pid depth) = of_process (codes "turn") pid ++ codes " " ++ decimal depth
words_of event.Idle = codes "idle"
words_of (event.Ready pids) = codes "ready [" ++ join_with_byte 44 (map decimal pids) ++ codes "]"

abbrev pub line : Event → List ℕ
line e = words_of e ++ 10 ∷ []

abbrev pub lines : List Event → List ℕ
lines es = flat_map line es
