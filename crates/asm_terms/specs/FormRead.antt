-- What reading a text's first form answers, and its whole text.
use Rattle.std.specs.Prelude.{◌≡◌, ◌⊎◌, ℕ, List, [], Option, None, Some, Result, Ok, Err}
use Rattle.std.specs.declared.vec.Vec.{Vec}
use Rattle.ej_term.specs.declared.asm_term.AsmTerm.{AsmTerm}
use Rattle.asm_terms.specs.declared.fault.TextFault.{TextFault}
use Rattle.asm_terms.specs.declared.fault.TextFault.TheVariants as fault
use Rattle.asm_terms.specs.declared.token.Token.{Token}
use Rattle.asm_terms.specs.Grammar.{IsTerm}
use Rattle.asm_terms.specs.Splitting.{HasTokens, HasNoTokens}
use Rattle.asm_terms.specs.Forms.{IsForm, AreFormsOf, IsTooDeep, SpellsNone, RefusedAt, BadText, TooDeep}

-- the tokens of the first form of a text, or that it has none
abbrev pub SplitsForm : List ℕ → Option (List Token) → List ℕ → Type 0
SplitsForm text (Some tokens) rest = HasTokens text tokens rest
SplitsForm text None rest = HasNoTokens text

-- the term that tokens spell, or that they spell none
abbrev pub Spells : List Token → Option AsmTerm → Type 0
Spells tokens (Some term) = IsTerm tokens term []
Spells tokens None = (term : AsmTerm) → IsTerm tokens term [] → ⊥

-- what reading the first form of a text answers, where that form has that number
abbrev pub ReadsForm : List ℕ → ℕ → Result AsmTerm TextFault → List ℕ → Type 0
ReadsForm text number (Ok form) rest = IsForm text form rest
ReadsForm text number (Err (fault.BadText form)) rest = (form ≡ number) × (HasNoTokens text ⊎ SpellsNone text)
ReadsForm text number (Err (fault.TooDeep form)) rest = (form ≡ number) × IsTooDeep text
ReadsForm text number (Err fault.NoMemory) rest = Unit {0}

-- what reading a text answers
abbrev pub ReadsText : {A : Type 0} → List ℕ → Result (Vec AsmTerm A) TextFault → Type 0
ReadsText text (Ok forms) = AreFormsOf text forms.items
ReadsText text (Err (fault.BadText form)) = RefusedAt text form BadText
ReadsText text (Err (fault.TooDeep form)) = RefusedAt text form TooDeep
ReadsText text (Err fault.NoMemory) = Unit {0}
