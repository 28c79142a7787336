-- What was read of a text, and what is left of it.
use Rattle.std.proofs.Common.{◌≡◌, ℕ, ◌<◌, List, [], ◌∷◌, ◌++◌, length, Option, None, Some, Result, Ok, Err, refl, sym, ◌∙◌, subst}
use Rattle.std.specs.Result.{IsErrAnd}
use Rattle.std.specs.declared.vec.Vec.{Vec}
use Rattle.ej_term.specs.declared.asm_term.AsmTerm.{AsmTerm}
use Rattle.asm_terms.specs.declared.fault.TextFault.{TextFault}
use Rattle.asm_terms.specs.declared.fault.TextFault.TheVariants as fault
use Rattle.asm_terms.specs.declared.token.Token.{Token}
use Rattle.asm_terms.specs.Characters.{characters}
use Rattle.asm_terms.specs.Splitting.{IsEnd, HasMore}
use Rattle.asm_terms.specs.TermReader.{term_of}
use Rattle.asm_terms.specs.Forms.{IsForm, AreFormsOf, Refused, RefusedAt, Cause, BadText, TooDeep, Reads}
use Rattle.asm_terms.specs.FormRead.{Spells, ReadsForm, ReadsText}
use Rattle.asm_terms.proofs.SpelledIsRead.{spelled_is_read}
use Rattle.asm_terms.proofs.ReadIsSpelled.{read_is_spelled}
use Rattle.asm_terms.proofs.TokenLemmas.{form_leaves}
use Rattle.asm_terms.proofs.SplitLaw.{walked}

none_is_some : {x : AsmTerm} → ◌≡◌ {A = Option AsmTerm} None (Some x) → ⊥
none_is_some e = cc

-- what reading tokens gives is what they spell
pub spelled_by : (tokens : List Token) (found : Option AsmTerm) → found ≡ term_of tokens → Spells tokens found
spelled_by tokens None e = λ t d. none_is_some (e ∙ spelled_is_read tokens t d)
spelled_by tokens (Some t) e = read_is_spelled tokens t (sym e)

-- a text is these forms one behind the other, and then that text
abbrev pub BeginsWith : List ℕ → List AsmTerm → List ℕ → Type 0
BeginsWith text [] rest = text ≡ rest
BeginsWith text (form ∷ forms) rest = HasMore text × (behind : List ℕ) × IsForm text form behind × BeginsWith behind forms rest

pub one_form_more : (text : List ℕ) (forms : List AsmTerm) (form : AsmTerm) (middle rest : List ℕ)
    → BeginsWith text forms middle → HasMore middle → IsForm middle form rest → BeginsWith text (forms ++ form ∷ []) rest
one_form_more text [] form middle rest b h f =
    (subst HasMore (sym b) h, rest, subst (λ t. IsForm t form rest) (sym b) f, refl)
one_form_more text (first ∷ forms) form middle rest b h f = (b.0, b.1, b.2, one_form_more b.1 forms form middle rest b.3 h f)

pub all_forms : (text : List ℕ) (forms : List AsmTerm) (rest : List ℕ) → BeginsWith text forms rest → IsEnd rest → AreFormsOf text forms
all_forms text [] rest b h = subst IsEnd (sym b) h
all_forms text (form ∷ forms) rest b h = (b.0, b.1, b.2, all_forms b.1 forms rest b.3 h)

pub first_fault : (text : List ℕ) (forms : List AsmTerm) (rest : List ℕ) (cause : Cause) → BeginsWith text forms rest → Refused rest cause
    → RefusedAt text (length forms) cause
first_fault text [] rest cause b r = subst (λ t. Refused t cause) (sym b) r
first_fault text (form ∷ forms) rest cause b r = (b.0, form, b.1, b.2, first_fault b.1 forms rest cause b.3 r)

-- a fault of the form behind these is the text's
pub fault_behind : (A : Type 0) (text : List ℕ) (forms : List AsmTerm) (rest : List ℕ) (number : ℕ) (e : TextFault) (after : List ℕ)
    → BeginsWith text forms rest → HasMore rest → number ≡ length forms → ReadsForm rest number (Err e) after → ReadsText {A = A} text (Err e)
fault_behind A text forms rest number (fault.BadText form) after b h n r =
    subst (λ at. RefusedAt text at BadText) (sym (r.0 ∙ n)) (first_fault text forms rest BadText b (h, r.1))
fault_behind A text forms rest number (fault.TooDeep form) after b h n r =
    subst (λ at. RefusedAt text at TooDeep) (sym (r.0 ∙ n)) (first_fault text forms rest TooDeep b (h, r.1))
fault_behind A text forms rest number fault.NoMemory after b h n r = tt

pub early : (A : Type 0) (text : List ℕ) (answer : Result (Vec AsmTerm A) TextFault) (e : TextFault) → IsErrAnd answer (λ f. f ≡ e)
    → ReadsText {A = A} text (Err e) → ReadsText text answer
early A text (Ok forms) e h r = absurd h
early A text (Err f) e h r = subst (λ g. ReadsText {A = A} text (Err g)) (sym h) r

-- a file is read as its characters are
pub reads_characters : {A : Type 0} (bytes text : List ℕ) (answer : Result (Vec AsmTerm A) TextFault) → text ≡ characters bytes → ReadsText text answer → Reads bytes answer
reads_characters bytes text (Ok forms) e r = subst (λ t. AreFormsOf t forms.items) e r
reads_characters bytes text (Err (fault.BadText form)) e r = subst (λ t. RefusedAt t form BadText) e r
reads_characters bytes text (Err (fault.TooDeep form)) e r = subst (λ t. RefusedAt t form TooDeep) e r
reads_characters bytes text (Err fault.NoMemory) e r = tt

-- behind a form less is left
pub is_shorter : (text : List ℕ) (form : AsmTerm) (rest : List ℕ) → IsForm text form rest → length rest < length text
is_shorter text form rest f = form_leaves text rest f.tokens (walked f.spelled)
