-- What the program answers to a command, and to other words.
use Rattle.std.specs.Prelude.{◌≡◌, ℕ}
use Rattle.ej_outside.specs.Shelf.{ShelfState}
use Rattle.ej_outside.specs.Sink.{SinkState}
use Rattle.erjang_top.specs.Answers.{Answers, Says, usage_line}
use Rattle.erjang_top.specs.Verify.{AnswersVerify}
use Rattle.erjang_top.specs.Words.{Command, ToCompile, ToVerify}

-- `compile` writes nothing on `out`
abbrev pub AnswersCommand : Command → ℕ → (old new : ShelfState) → (out out' err err' : SinkState) → Type 0
AnswersCommand (ToCompile words) status old new out out' err err' = Answers words status old new err err' × (out' ≡ out)
AnswersCommand (ToVerify files) status old new out out' err err' = AnswersVerify files status old new out out' err err'

-- the answer to other words
abbrev pub Usage : ℕ → (old new : ShelfState) → (out out' err err' : SinkState) → Type 0
Usage status old new out out' err err' = Says 2 usage_line status err err' × (new ≡ old) × (out' ≡ out)
