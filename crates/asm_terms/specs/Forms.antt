-- The forms of a file, and the first fault of one that has none.
use Rattle.std.specs.Prelude.{◌≡◌, ◌⊎◌, ℕ, zero, suc, true, false, List, [], ◌∷◌, Result, Ok, Err}
use Rattle.std.specs.declared.vec.Vec.{Vec}
use Rattle.ej_term.specs.declared.asm_term.AsmTerm.{AsmTerm}
use Rattle.asm_terms.specs.declared.fault.TextFault.{TextFault}
use Rattle.asm_terms.specs.declared.fault.TextFault.TheVariants as fault
use Rattle.asm_terms.specs.declared.token.Token.{Token}
use Rattle.asm_terms.specs.Characters.{characters}
use Rattle.asm_terms.specs.Grammar.{IsTerm, too_deep}
use Rattle.asm_terms.specs.Splitting.{HasTokens, HasNoTokens, IsEnd, HasMore}

-- a text's first form is that term, and this text is left behind its full stop
pub record IsForm (text : List ℕ) (form : AsmTerm) (rest : List ℕ) : Type 0 where
  pub tokens : List Token
  pub spelled : HasTokens text tokens rest
  pub shallow : too_deep tokens ≡ false
  pub is_term : IsTerm tokens form []

-- a text is these forms, one behind the other
abbrev pub AreFormsOf : List ℕ → List AsmTerm → Type 0
AreFormsOf text [] = IsEnd text
AreFormsOf text (form ∷ forms) = HasMore text × (rest : List ℕ) × IsForm text form rest × AreFormsOf rest forms

-- a file's bytes are these forms
abbrev pub AreForms : List ℕ → List AsmTerm → Type 0
AreForms bytes forms = AreFormsOf (characters bytes) forms

-- why a form does not read
pub data Cause : Type 0 where
  BadText : Cause
  TooDeep : Cause

-- a text's first form has tokens and is deeper than 256
pub record IsTooDeep (text : List ℕ) : Type 0 where
  pub tokens : List Token
  pub rest : List ℕ
  pub spelled : HasTokens text tokens rest
  pub deep : too_deep tokens ≡ true

-- a text's first form has tokens, which are not deeper than 256 and spell no term
pub record SpellsNone (text : List ℕ) : Type 0 where
  pub tokens : List Token
  pub rest : List ℕ
  pub spelled : HasTokens text tokens rest
  pub shallow : too_deep tokens ≡ false
  pub no_term : (form : AsmTerm) → IsTerm tokens form [] → ⊥

-- a text begins with no form, for that cause; a text of no more than space and comments has ended and is not refused
abbrev pub Refused : List ℕ → Cause → Type 0
Refused text TooDeep = HasMore text × IsTooDeep text
Refused text BadText = HasMore text × (HasNoTokens text ⊎ SpellsNone text)

-- the form behind that many is the first that does not read, for that cause
abbrev pub RefusedAt : List ℕ → ℕ → Cause → Type 0
RefusedAt text zero cause = Refused text cause
RefusedAt text (suc before) cause =
    HasMore text × (form : AsmTerm) × (rest : List ℕ) × IsForm text form rest × RefusedAt rest before cause

-- the first fault of a file's bytes
abbrev pub FirstFault : List ℕ → ℕ → Cause → Type 0
FirstFault bytes form cause = RefusedAt (characters bytes) form cause

-- what reading a file's bytes answers
abbrev pub Reads : {A : Type 0} → List ℕ → Result (Vec AsmTerm A) TextFault → Type 0
Reads bytes (Ok forms) = AreForms bytes forms.items
Reads bytes (Err (fault.BadText form)) = FirstFault bytes form BadText
Reads bytes (Err (fault.TooDeep form)) = FirstFault bytes form TooDeep
Reads bytes (Err fault.NoMemory) = Unit {0}

-- a text is split in one way at most, and a file has one row of forms at most, or one first fault, and not both
pub record OneReading (bytes : List ℕ) : Type 0 where
  pub one_split : (text : List ℕ) (tokens others : List Token) (rest rest' : List ℕ) → HasTokens text tokens rest → HasTokens text others rest' → (tokens ≡ others) × (rest ≡ rest')
  pub same_forms : (forms others : List AsmTerm) → AreForms bytes forms → AreForms bytes others → forms ≡ others
  pub not_both : (forms : List AsmTerm) (form : ℕ) (cause : Cause) → AreForms bytes forms → FirstFault bytes form cause → ⊥
  pub same_fault : (form form' : ℕ) (cause cause' : Cause) → FirstFault bytes form cause → FirstFault bytes form' cause' → (form ≡ form') × (cause ≡ cause')
