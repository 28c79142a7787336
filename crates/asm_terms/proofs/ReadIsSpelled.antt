-- What reading tokens gives is what they spell.
use Rattle.std.proofs.Common.{◌≡◌, ◌⊎◌, inl, inr, ℕ, ◌≤◌, nat_le, Bool, true, false, if◌then◌else◌, pos, List, [], ◌∷◌, ◌++◌, Option, None, Some, option_and_then, refl, sym, ap, ◌∙◌, subst, append-nil}
use Rattle.std.proofs.lemmas.Bool.{leb-true}
use Rattle.ej_term.specs.declared.asm_term.AsmTerm.{AsmTerm, out-AsmTerm}
use Rattle.ej_term.specs.declared.asm_term.AsmTerm.TheVariants as term
use Rattle.ej_term.specs.declared.asm_term.AsmTerm.TheVariants.{outs-Int, outs-Atom, outs-Str, outs-Opaque, outs-Pid, outs-Ref, outs-ExtFun, outs-Tuple, outs-Map}
use Rattle.asm_terms.specs.declared.opened.Opened.{Opened}
use Rattle.asm_terms.specs.declared.opened.Opened.TheVariants as opened
use Rattle.asm_terms.specs.declared.opened.Last.{Last}
use Rattle.asm_terms.specs.declared.opened.Last.TheVariants as last
use Rattle.asm_terms.specs.declared.opened.Function.{Function}
use Rattle.asm_terms.specs.declared.opened.Function.TheVariants as function
use Rattle.asm_terms.specs.declared.term_reader.TermReader.{TermReader}
use Rattle.asm_terms.specs.declared.token.Token.{Token}
use Rattle.asm_terms.specs.declared.token.Token.TheVariants as token
use Rattle.asm_terms.specs.Grammar.{continued, IsTerm, int, atom, string, «opaque», pid, reference, external, empty_tuple, filled_tuple, empty_list, filled_list, empty_map, filled_map, AreMoreParts, no_part, part, AreMoreElements, no_element, element, bar, AreMorePairs, no_pair, pair}
use Rattle.asm_terms.specs.TermReader as read
use Rattle.asm_terms.specs.TermReader.{at, run, list_before, term_of, finish}
use Rattle.asm_terms.proofs.SpelledIsRead.{is_list, before_no_list, whole_list, one_more}

-- that term is whole within what is open, and behind these tokens all is
abbrev Ends : List Opened → AsmTerm → List Token → AsmTerm → Type 0
Ends [] t tokens all = (tokens ≡ []) × (t ≡ all)
Ends (opened.Tuple done ∷ stack) t tokens all =
    (parts : List AsmTerm) × (rest : List Token) × AreMoreParts tokens parts rest × Ends stack (term.Tuple (done ++ t ∷ parts)) rest all
Ends (opened.List done ∷ stack) t tokens all =
    (elements : List AsmTerm) × (tail : Option AsmTerm) × (rest : List Token) × AreMoreElements tokens elements tail rest
    × Ends stack (term.List (done ++ t ∷ elements) tail) rest all
Ends (opened.Tail done ∷ stack) t tokens all =
    (rest : List Token) × (tokens ≡ token.CloseList ∷ rest) × Ends stack (list_before done t (out-AsmTerm t)) rest all
Ends (opened.Joined ∷ stack) t tokens all = (rest : List Token) × (tokens ≡ token.CloseList ∷ rest) × Ends stack t rest all
Ends (opened.Key done ∷ stack) t tokens all =
    (behind : List Token) × (value : AsmTerm) × (middle : List Token) × (pairs : List (AsmTerm × AsmTerm)) × (rest : List Token)
    × (tokens ≡ token.Arrow ∷ behind) × IsTerm behind value middle × AreMorePairs middle pairs rest
    × Ends stack (term.Map (done ++ (t, value) ∷ pairs)) rest all
Ends (opened.Value done key ∷ stack) t tokens all =
    (pairs : List (AsmTerm × AsmTerm)) × (rest : List Token) × AreMorePairs tokens pairs rest × Ends stack (term.Map (done ++ (key, t) ∷ pairs)) rest all

-- a term comes, and behind it all is whole
record Begins (stack : List Opened) (tokens : List Token) (all : AsmTerm) : Type 0 where
  first : AsmTerm
  middle : List Token
  is_term : IsTerm tokens first middle
  ends : Ends stack first middle all

-- what is open is closed as it is
abbrev Closes : List Opened → List Token → AsmTerm → Type 0
Closes (opened.Tuple done ∷ stack) tokens all = (rest : List Token) × (tokens ≡ token.CloseTuple ∷ rest) × Ends stack (term.Tuple done) rest all
Closes (opened.List done ∷ stack) tokens all = (rest : List Token) × (tokens ≡ token.CloseList ∷ rest) × Ends stack (term.List done None) rest all
Closes (opened.Key done ∷ stack) tokens all = (rest : List Token) × (tokens ≡ token.CloseTuple ∷ rest) × Ends stack (term.Map done) rest all
Closes _ tokens all = ⊥

-- the tail of the list that is open comes
abbrev Tails : List Opened → List Token → AsmTerm → Type 0
Tails (opened.Tail done ∷ stack) tokens all =
    (t : AsmTerm) × (rest : List Token) × IsTerm tokens t (token.CloseList ∷ rest) × Ends stack (term.List (done ++ (continued t).0) (continued t).1) rest all
Tails _ tokens all = Unit {0}

-- the rest of `fun M:F/A` comes
abbrev Goes : List Opened → Function → List Token → AsmTerm → Type 0
Goes stack function.Word tokens all =
    (m : List ℕ) × (f : List ℕ) × (a : ℕ) × (rest : List Token) × (a ≤ 255)
    × (tokens ≡ token.Atom m ∷ token.Colon ∷ token.Atom f ∷ token.Slash ∷ token.Int (pos a) ∷ rest) × Ends stack (term.ExtFun m f a) rest all
Goes stack (function.Module m) tokens all =
    (f : List ℕ) × (a : ℕ) × (rest : List Token) × (a ≤ 255)
    × (tokens ≡ token.Colon ∷ token.Atom f ∷ token.Slash ∷ token.Int (pos a) ∷ rest) × Ends stack (term.ExtFun m f a) rest all
Goes stack (function.Colon m) tokens all =
    (f : List ℕ) × (a : ℕ) × (rest : List Token) × (a ≤ 255)
    × (tokens ≡ token.Atom f ∷ token.Slash ∷ token.Int (pos a) ∷ rest) × Ends stack (term.ExtFun m f a) rest all
Goes stack (function.Name m f) tokens all =
    (a : ℕ) × (rest : List Token) × (a ≤ 255) × (tokens ≡ token.Slash ∷ token.Int (pos a) ∷ rest) × Ends stack (term.ExtFun m f a) rest all
Goes stack (function.Slash m f) tokens all =
    (a : ℕ) × (rest : List Token) × (a ≤ 255) × (tokens ≡ token.Int (pos a) ∷ rest) × Ends stack (term.ExtFun m f a) rest all

-- behind these tokens all is whole
abbrev Spells : List Opened → Last → List Token → AsmTerm → Type 0
Spells stack last.Mark tokens all = Begins stack tokens all
Spells stack last.Bracket tokens all = Begins stack tokens all ⊎ Closes stack tokens all
Spells stack last.Bar tokens all = Tails stack tokens all
Spells stack (last.Term t) tokens all = Ends stack t tokens all
Spells stack (last.Fun f) tokens all = Goes stack f tokens all

abbrev given : List Token → Option TermReader → Option AsmTerm
given tokens reader = option_and_then finish (option_and_then (run tokens) reader)

true_is_false : true ≡ false → ⊥
true_is_false e = cc

none_is_some : {x : AsmTerm} → ◌≡◌ {A = Option AsmTerm} None (Some x) → ⊥
none_is_some e = cc

some_is_some : {x y : AsmTerm} → ◌≡◌ {A = Option AsmTerm} (Some x) (Some y) → x ≡ y
some_is_some e = cc

abbrev begins_list : List Token → Bool
begins_list (token.OpenList ∷ tokens) = true
begins_list _ = false

-- what begins otherwise is no list
no_list : {ts : List Token} {t : AsmTerm} {rest : List Token} → IsTerm ts t rest → begins_list ts ≡ false → is_list (out-AsmTerm t) ≡ false
no_list (int n rest) h = ap is_list (outs-Int n)
no_list (atom name rest) h = ap is_list (outs-Atom name)
no_list (string cs rest) h = ap is_list (outs-Str cs)
no_list («opaque» cs rest) h = ap is_list (outs-Opaque cs)
no_list (pid n k rest) h = ap is_list (outs-Pid n k)
no_list (reference n k rest) h = ap is_list (outs-Ref n k)
no_list (external m f a rest fits) h = ap is_list (outs-ExtFun m f a)
no_list (empty_tuple rest) h = ap is_list (outs-Tuple [])
no_list (filled_tuple ts first middle parts rest d ds) h = ap is_list (outs-Tuple (first ∷ parts))
no_list (empty_list rest) h = absurd (true_is_false h)
no_list (filled_list ts first middle elements tail rest d ds) h = absurd (true_is_false h)
no_list (empty_map rest) h = ap is_list (outs-Map [])
no_list (filled_map ts key behind value middle pairs rest d dv ds) h = ap is_list (outs-Map ((key, value) ∷ pairs))

module _ (tokens : List Token) (all : AsmTerm) (ih : (stack : List Opened) (last : Last) → option_and_then finish (run tokens (at stack last)) ≡ Some all → Spells stack last tokens all) where
  by_tuple : (stack : List Opened) → Spells (opened.Tuple [] ∷ stack) last.Bracket tokens all → Begins stack (token.OpenTuple ∷ tokens) all
  by_tuple stack (inl b) = record {
    first = term.Tuple (b.first ∷ b.ends.0);
    middle = b.ends.1;
    is_term = filled_tuple tokens b.first b.middle b.ends.0 b.ends.1 b.is_term b.ends.2;
    ends = b.ends.3;
  }
  by_tuple stack (inr c) = record {
    first = term.Tuple [];
    middle = c.0;
    is_term = subst (λ ts. IsTerm (token.OpenTuple ∷ ts) (term.Tuple []) c.0) (sym c.1) (empty_tuple c.0);
    ends = c.2;
  }

  by_list : (stack : List Opened) → Spells (opened.List [] ∷ stack) last.Bracket tokens all → Begins stack (token.OpenList ∷ tokens) all
  by_list stack (inl b) = record {
    first = term.List (b.first ∷ b.ends.0) b.ends.1;
    middle = b.ends.2;
    is_term = filled_list tokens b.first b.middle b.ends.0 b.ends.1 b.ends.2 b.is_term b.ends.3;
    ends = b.ends.4;
  }
  by_list stack (inr c) = record {
    first = term.List [] None;
    middle = c.0;
    is_term = subst (λ ts. IsTerm (token.OpenList ∷ ts) (term.List [] None) c.0) (sym c.1) (empty_list c.0);
    ends = c.2;
  }

  by_map : (stack : List Opened) → Spells (opened.Key [] ∷ stack) last.Bracket tokens all → Begins stack (token.OpenMap ∷ tokens) all
  by_map stack (inl b) = record {
    first = term.Map ((b.first, b.ends.1) ∷ b.ends.3);
    middle = b.ends.4;
    is_term = filled_map tokens b.first b.ends.0 b.ends.1 b.ends.2 b.ends.3 b.ends.4 (subst (λ ts. IsTerm tokens b.first ts) b.ends.5 b.is_term) b.ends.6 b.ends.7;
    ends = b.ends.8;
  }
  by_map stack (inr c) = record {
    first = term.Map [];
    middle = c.0;
    is_term = subst (λ ts. IsTerm (token.OpenMap ∷ ts) (term.Map []) c.0) (sym c.1) (empty_map c.0);
    ends = c.2;
  }

  by_fun : (stack : List Opened) → Goes stack function.Word tokens all → Begins stack (token.Fun ∷ tokens) all
  by_fun stack f = record {
    first = term.ExtFun f.0 f.1 f.2;
    middle = f.3;
    is_term = subst (λ ts. IsTerm (token.Fun ∷ ts) (term.ExtFun f.0 f.1 f.2) f.3) (sym f.5) (external f.0 f.1 f.2 f.3 f.4);
    ends = f.6;
  }

  by_begun : (stack : List Opened) (token : Token) → given tokens (read.begun stack token) ≡ Some all → Begins stack (token ∷ tokens) all
  by_begun stack (token.Int n) e = record { first = term.Int n; middle = tokens; is_term = int n tokens; ends = ih stack (last.Term (term.Int n)) e }
  by_begun stack (token.Atom name) e = record { first = term.Atom name; middle = tokens; is_term = atom name tokens; ends = ih stack (last.Term (term.Atom name)) e }
  by_begun stack (token.Str cs) e = record { first = term.Str cs; middle = tokens; is_term = string cs tokens; ends = ih stack (last.Term (term.Str cs)) e }
  by_begun stack (token.Opaque cs) e = record { first = term.Opaque cs; middle = tokens; is_term = «opaque» cs tokens; ends = ih stack (last.Term (term.Opaque cs)) e }
  by_begun stack (token.Pid n k) e = record { first = term.Pid n k; middle = tokens; is_term = pid n k tokens; ends = ih stack (last.Term (term.Pid n k)) e }
  by_begun stack (token.Ref n k) e = record { first = term.Ref n k; middle = tokens; is_term = reference n k tokens; ends = ih stack (last.Term (term.Ref n k)) e }
  by_begun stack token.Fun e = by_fun stack (ih stack (last.Fun function.Word) e)
  by_begun stack token.OpenTuple e = by_tuple stack (ih (opened.Tuple [] ∷ stack) last.Bracket e)
  by_begun stack token.OpenList e = by_list stack (ih (opened.List [] ∷ stack) last.Bracket e)
  by_begun stack token.OpenMap e = by_map stack (ih (opened.Key [] ∷ stack) last.Bracket e)
  by_begun stack _ e = absurd (none_is_some e)

  by_closed_brace : (stack : List Opened) → given tokens (read.closed_brace stack) ≡ Some all → Closes stack (token.CloseTuple ∷ tokens) all
  by_closed_brace (opened.Tuple parts ∷ stack) e = (tokens, refl, ih stack (last.Term (term.Tuple parts)) e)
  by_closed_brace (opened.Key pairs ∷ stack) e = (tokens, refl, ih stack (last.Term (term.Map pairs)) e)
  by_closed_brace _ e = absurd (none_is_some e)

  by_closed_bracket : (stack : List Opened) → given tokens (read.closed_bracket stack) ≡ Some all → Closes stack (token.CloseList ∷ tokens) all
  by_closed_bracket (opened.List elements ∷ stack) e = (tokens, refl, ih stack (last.Term (term.List elements None)) e)
  by_closed_bracket _ e = absurd (none_is_some e)

  by_begun_or_closed : (stack : List Opened) (token : Token) → given tokens (read.begun_or_closed stack token) ≡ Some all
      → Begins stack (token ∷ tokens) all ⊎ Closes stack (token ∷ tokens) all
  by_begun_or_closed stack token.CloseTuple e = inr (by_closed_brace stack e)
  by_begun_or_closed stack token.CloseList e = inr (by_closed_bracket stack e)
  by_begun_or_closed stack token e = inl (by_begun stack token e)

  by_comma : (stack : List Opened) (t : AsmTerm) → given tokens (read.comma stack t) ≡ Some all → Ends stack t (token.Comma ∷ tokens) all
  by_comma (opened.Tuple done ∷ stack) t e =
      let b = ih (opened.Tuple (done ++ t ∷ []) ∷ stack) last.Mark e in (
        b.first ∷ b.ends.0,
        b.ends.1,
        part tokens b.first b.middle b.ends.0 b.ends.1 b.is_term b.ends.2,
        subst (λ parts. Ends stack (term.Tuple parts) b.ends.1 all) (one_more done t (b.first ∷ b.ends.0)) b.ends.3,
      )
  by_comma (opened.List done ∷ stack) t e =
      let b = ih (opened.List (done ++ t ∷ []) ∷ stack) last.Mark e in (
        b.first ∷ b.ends.0,
        b.ends.1,
        b.ends.2,
        element tokens b.first b.middle b.ends.0 b.ends.1 b.ends.2 b.is_term b.ends.3,
        subst (λ elements. Ends stack (term.List elements b.ends.1) b.ends.2 all) (one_more done t (b.first ∷ b.ends.0)) b.ends.4,
      )
  by_comma (opened.Value done key ∷ stack) t e =
      let b = ih (opened.Key (done ++ (key, t) ∷ []) ∷ stack) last.Mark e in (
        (b.first, b.ends.1) ∷ b.ends.3,
        b.ends.4,
        pair tokens b.first b.ends.0 b.ends.1 b.ends.2 b.ends.3 b.ends.4 (subst (λ ts. IsTerm tokens b.first ts) b.ends.5 b.is_term) b.ends.6 b.ends.7,
        subst (λ pairs. Ends stack (term.Map pairs) b.ends.4 all) (one_more done (key, t) ((b.first, b.ends.1) ∷ b.ends.3)) b.ends.8,
      )
  by_comma _ t e = absurd (none_is_some e)

  by_brace : (stack : List Opened) (t : AsmTerm) → given tokens (read.brace stack t) ≡ Some all → Ends stack t (token.CloseTuple ∷ tokens) all
  by_brace (opened.Tuple done ∷ stack) t e = ([], tokens, no_part tokens, ih stack (last.Term (term.Tuple (done ++ t ∷ []))) e)
  by_brace (opened.Value done key ∷ stack) t e = ([], tokens, no_pair tokens, ih stack (last.Term (term.Map (done ++ (key, t) ∷ []))) e)
  by_brace _ t e = absurd (none_is_some e)

  by_bracket : (stack : List Opened) (t : AsmTerm) → given tokens (read.bracket stack t) ≡ Some all → Ends stack t (token.CloseList ∷ tokens) all
  by_bracket (opened.List done ∷ stack) t e = ([], None, tokens, no_element tokens, ih stack (last.Term (term.List (done ++ t ∷ []) None)) e)
  by_bracket (opened.Tail done ∷ stack) t e = (tokens, refl, ih stack (last.Term (list_before done t (out-AsmTerm t))) e)
  by_bracket (opened.Joined ∷ stack) t e = (tokens, refl, ih stack (last.Term t) e)
  by_bracket _ t e = absurd (none_is_some e)

  by_bar : (stack : List Opened) (t : AsmTerm) → given tokens (read.bar stack t) ≡ Some all → Ends stack t (token.Bar ∷ tokens) all
  by_bar (opened.List done ∷ stack) t e =
      let b = ih (opened.Tail (done ++ t ∷ []) ∷ stack) last.Bar e in (
        (continued b.0).0,
        (continued b.0).1,
        b.1,
        bar tokens b.0 b.1 b.2,
        subst (λ elements. Ends stack (term.List elements (continued b.0).1) b.1 all) (one_more done t (continued b.0).0) b.3,
      )
  by_bar _ t e = absurd (none_is_some e)

  by_arrow : (stack : List Opened) (t : AsmTerm) → given tokens (read.arrow stack t) ≡ Some all → Ends stack t (token.Arrow ∷ tokens) all
  by_arrow (opened.Key done ∷ stack) t e =
      let b = ih (opened.Value done t ∷ stack) last.Mark e in
      (tokens, b.first, b.middle, b.ends.0, b.ends.1, refl, b.is_term, b.ends.2, b.ends.3)
  by_arrow _ t e = absurd (none_is_some e)

  by_gone_on : (stack : List Opened) (t : AsmTerm) (token : Token) → given tokens (read.gone_on stack t token) ≡ Some all → Ends stack t (token ∷ tokens) all
  by_gone_on stack t token.Comma e = by_comma stack t e
  by_gone_on stack t token.CloseTuple e = by_brace stack t e
  by_gone_on stack t token.CloseList e = by_bracket stack t e
  by_gone_on stack t token.Bar e = by_bar stack t e
  by_gone_on stack t token.Arrow e = by_arrow stack t e
  by_gone_on stack t _ e = absurd (none_is_some e)

  by_external : (stack : List Opened) (function : Function) (token : Token) → given tokens (read.external stack function token) ≡ Some all
      → Goes stack function (token ∷ tokens) all
  by_external stack function.Word (token.Atom m) e =
      let g = ih stack (last.Fun (function.Module m)) e in
      (m, g.0, g.1, g.2, g.3, ap (λ ts. token.Atom m ∷ ts) g.4, g.5)
  by_external stack function.Word _ e = absurd (none_is_some e)
  by_external stack (function.Module m) token.Colon e =
      let g = ih stack (last.Fun (function.Colon m)) e in
      (g.0, g.1, g.2, g.3, ap (λ ts. token.Colon ∷ ts) g.4, g.5)
  by_external stack (function.Module m) _ e = absurd (none_is_some e)
  by_external stack (function.Colon m) (token.Atom f) e =
      let g = ih stack (last.Fun (function.Name m f)) e in
      (f, g.0, g.1, g.2, ap (λ ts. token.Atom f ∷ ts) g.3, g.4)
  by_external stack (function.Colon m) _ e = absurd (none_is_some e)
  by_external stack (function.Name m f) token.Slash e =
      let g = ih stack (last.Fun (function.Slash m f)) e in
      (g.0, g.1, g.2, ap (λ ts. token.Slash ∷ ts) g.3, g.4)
  by_external stack (function.Name m f) _ e = absurd (none_is_some e)
  by_external stack (function.Slash m f) (token.Int (pos a)) e = by_arity (nat_le a 255) refl e where
    by_arity : (fits : Bool) → nat_le a 255 ≡ fits → given tokens (read.external_of stack m f (if fits then Some a else None)) ≡ Some all
        → Goes stack (function.Slash m f) (token.Int (pos a) ∷ tokens) all
    by_arity true h e = (a, tokens, leb-true a 255 h, refl, ih stack (last.Term (term.ExtFun m f a)) e)
    by_arity false h e = absurd (none_is_some e)
  by_external stack (function.Slash m f) _ e = absurd (none_is_some e)

  -- behind a bar and `[`
  by_joined : (done : List AsmTerm) (stack : List Opened) → Spells (opened.List done ∷ opened.Joined ∷ stack) last.Bracket tokens all
      → Tails (opened.Tail done ∷ stack) (token.OpenList ∷ tokens) all
  by_joined done stack (inl b) =
      let inner = b.ends.4 in (
        term.List (b.first ∷ b.ends.0) b.ends.1,
        inner.0,
        subst (λ rest. IsTerm (token.OpenList ∷ tokens) (term.List (b.first ∷ b.ends.0) b.ends.1) rest) inner.1
            (filled_list tokens b.first b.middle b.ends.0 b.ends.1 b.ends.2 b.is_term b.ends.3),
        subst (λ l. Ends stack l inner.0 all) (whole_list done (b.first ∷ b.ends.0) b.ends.1) inner.2,
      )
  by_joined done stack (inr c) =
      let inner = c.2 in (
        term.List [] None,
        inner.0,
        subst (λ ts. IsTerm (token.OpenList ∷ ts) (term.List [] None) (token.CloseList ∷ inner.0)) (sym c.1)
            (subst (λ rest. IsTerm (token.OpenList ∷ token.CloseList ∷ c.0) (term.List [] None) rest) inner.1 (empty_list c.0)),
        subst (λ l. Ends stack l inner.0 all) (ap (λ elements. term.List elements None) (sym (append-nil done)) ∙ whole_list done [] None) inner.2,
      )

  -- behind a bar and what is no list
  by_other : (done : List AsmTerm) (stack : List Opened) (token : Token) → begins_list (token ∷ tokens) ≡ false
      → Begins (opened.Tail done ∷ stack) (token ∷ tokens) all → Tails (opened.Tail done ∷ stack) (token ∷ tokens) all
  by_other done stack token h b = (
    b.first,
    b.ends.0,
    subst (λ ts. IsTerm (token ∷ tokens) b.first ts) b.ends.1 b.is_term,
    subst (λ l. Ends stack l b.ends.0 all) (before_no_list done b.first (out-AsmTerm b.first) (no_list b.is_term h)) b.ends.2,
  )

  by_tail : (done : List AsmTerm) (stack : List Opened) (token : Token) → given tokens (read.begun_tail (opened.Tail done ∷ stack) token) ≡ Some all
      → Tails (opened.Tail done ∷ stack) (token ∷ tokens) all
  by_tail done stack token.OpenList e = by_joined done stack (ih (opened.List done ∷ opened.Joined ∷ stack) last.Bracket e)
  by_tail done stack token e = by_other done stack token refl (by_begun (opened.Tail done ∷ stack) token e)

  by_begun_tail : (stack : List Opened) (token : Token) → given tokens (read.begun_tail stack token) ≡ Some all → Tails stack (token ∷ tokens) all
  by_begun_tail (opened.Tail done ∷ stack) token e = by_tail done stack token e
  by_begun_tail _ token e = tt

  by_step : (stack : List Opened) (last : Last) (token : Token) → given tokens (read.step stack last token) ≡ Some all → Spells stack last (token ∷ tokens) all
  by_step stack last.Mark token e = by_begun stack token e
  by_step stack last.Bracket token e = by_begun_or_closed stack token e
  by_step stack last.Bar token e = by_begun_tail stack token e
  by_step stack (last.Term t) token e = by_gone_on stack t token e
  by_step stack (last.Fun function) token e = by_external stack function token e

at_the_end : (all : AsmTerm) (stack : List Opened) (last : Last) → read.finished stack last ≡ Some all → Spells stack last [] all
at_the_end all [] (last.Term t) e = (refl, some_is_some e)
at_the_end all (top ∷ stack) (last.Term t) e = absurd (none_is_some e)
at_the_end all stack _ e = absurd (none_is_some e)

spells : (tokens : List Token) (all : AsmTerm) (stack : List Opened) (last : Last) → option_and_then finish (run tokens (at stack last)) ≡ Some all
    → Spells stack last tokens all
spells [] all stack last e = at_the_end all stack last e
spells (token ∷ tokens) all stack last e = by_step tokens all (spells tokens all) stack last token e

pub read_is_spelled : (tokens : List Token) (t : AsmTerm) → term_of tokens ≡ Some t → IsTerm tokens t []
read_is_spelled tokens t e =
    let b = spells tokens t [] last.Mark e in
    subst (λ rest. IsTerm tokens t rest) b.ends.0 (subst (λ u. IsTerm tokens u b.middle) b.ends.1 b.is_term)
