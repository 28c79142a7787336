-- What a module's parts have where the forms have a reading.
use Rattle.std.proofs.Common.{◌≡◌, ℕ, ◌+◌, Bool, true, false, ◌&&◌, List, [], ◌∷◌, ◌++◌, append-nil, append_assoc, map, refl, sym, ap, ◌∙◌, subst}
use Rattle.std.specs.Prelude.{if◌then◌else◌, Result, Ok, Err, Option, None, Some, option_map, option_and_then, unwrap_or, codes}
use Rattle.std.specs.List.{list_all, cons_option}
use Rattle.beam_code.specs.declared.operand.TheConstants.{LAST_COUNT}
use Rattle.ej_term.specs.declared.asm_term.AsmTerm.{AsmTerm}
use Rattle.beam_code.specs.declared.module.Function.{Function}
use Rattle.beam_code.specs.Keys.{Key, is_among, no_key_twice, are_distinct, are_exports, key_of as key_of_function}
use Rattle.beam_code.specs.Parts.{FunctionParts, function_parts}
use Rattle.asm_module.specs.declared.fault.FormFault.{FormFault}
use Rattle.asm_module.specs.declared.fault.FormFault.TheVariants.{BadForm}
use Rattle.asm_module.specs.Terms.{is_word, number, elements, tagged, pair_of, pair, each, Tagged}
use Rattle.asm_module.specs.Instructions.{instruction}
use Rattle.asm_module.specs.Modules.{Heading, Rest, Header, Headed, nothing, is_function, is_function_tagged, heading, heading_tagged, heading_parts, begins, begins_new, key_of, keys_of, ◌>>=◌, then_rest, with_instruction, with_function, functions_of, functions_from, rest_of, or_bad, with_forms, export, exports_of, is_unset, if_function, export_key, header_pair, header_form, header_of, next_form, with_exports, with_attributes, with_labels}
use Rattle.asm_module.proofs.KeySets.{one_more}

ok-same : {X : Type 0} (a b : X) → ◌≡◌ {A = Result X FormFault} (Ok a) (Ok b) → a ≡ b
ok-same a b e = cc

some-same : {X : Type 0} (a b : X) → ◌≡◌ {A = Option X} (Some a) (Some b) → a ≡ b
some-same a b e = cc

abbrev pub key_parts : FunctionParts → Key
key_parts f = (f.name, f.arity)

-- a reading of two parts
record Split {X : Type 0} (put : X → Rest → Rest) (behind : X → Result Rest FormFault) (r : Result X FormFault) (rest : Rest) : Type 0 where
  pub front : X
  pub is : r ≡ Ok front
  pub after : Rest
  pub gives : behind front ≡ Ok after
  pub same : rest ≡ put front after

split : {X : Type 0} (put : X → Rest → Rest) (behind : X → Result Rest FormFault) (r : Result X FormFault) (rest : Rest) → (r >>= then_rest put behind) ≡ Ok rest → Split put behind r rest
split put behind (Err e) rest same = absurd (cc)
split put behind (Ok x) rest same = by (behind x) refl same
  where
    by : (s : Result Rest FormFault) → behind x ≡ s → (s >>= λ q. Ok (put x q)) ≡ Ok rest → Split put behind (Ok x) rest
    by (Err e) b same = absurd (cc)
    by (Ok q) b same = record { front = x; is = refl; after = q; gives = b; same = sym (ok-same (put x q) rest same) }

-- a function that a form begins
record Begun (before : List Key) (t : AsmTerm) (h : Heading) : Type 0 where
  pub heads : heading t ≡ Some h
  pub fresh : is_among before (key_of h) ≡ false

begun : (before : List Key) (form : ℕ) (t : AsmTerm) (h : Heading) → begins before form t ≡ Ok h → Begun before t h
begun before form t h e = by (heading t) refl e
  where
    last : (g : Heading) (b : Bool) → heading t ≡ Some g → is_among before (key_of g) ≡ b → ◌≡◌ {A = Result Heading FormFault} (if b then Err (BadForm form) else Ok g) (Ok h) → Begun before t h
    last g true is among e = absurd (cc)
    last g false is among e =
        let same : g ≡ h = ok-same g h e in
        record { heads = is ∙ ap (λ (x : Heading). let o : Option Heading = Some x in o) same; fresh = sym (ap (λ x. is_among before (key_of x)) same) ∙ among }

    by : (o : Option Heading) → heading t ≡ o → (or_bad form o >>= begins_new before form) ≡ Ok h → Begun before t h
    by None is e = absurd (cc)
    by (Some g) is e = last g (is_among before (key_of g)) is refl e

-- what is no function form has no heading
plain : (t : Option Tagged) → is_function_tagged t ≡ false → option_and_then heading_tagged t ≡ None
plain None e = refl
plain (Some x) e = ap (λ b. if b then heading_parts x.1 else None) e

-- the keys of the functions behind, and with those before them there is no key twice
pub record Keyed (before : List Key) (forms : List AsmTerm) (functions : List FunctionParts) : Type 0 where
  pub keys : map key_parts functions ≡ keys_of forms
  pub distinct : no_key_twice before ≡ true → no_key_twice (before ++ map key_parts functions) ≡ true

abbrev with_key : Option Heading → List Key → List Key
with_key None keys = keys
with_key (Some h) keys = key_of h ∷ keys

key-first : (t : AsmTerm) (h : Option Heading) (forms : List AsmTerm) → heading t ≡ h → keys_of (t ∷ forms) ≡ with_key h (keys_of forms)
key-first t h forms e = ap (λ (o : Option Heading). cons_option (option_map key_of o) (keys_of forms)) e ∙ by h
  where
    by : (o : Option Heading) → cons_option (option_map key_of o) (keys_of forms) ≡ with_key o (keys_of forms)
    by None = refl
    by (Some h) = refl

one-begun : (before : List Key) (t : AsmTerm) (forms : List AsmTerm) (h : Heading) (after : Rest) → Begun before t h → Keyed (before ++ key_of h ∷ []) forms after.functions
    → Keyed before (t ∷ forms) ((with_function h after).functions)
one-begun before t forms h after is behind = record {
  keys = ap (λ ks. key_of h ∷ ks) behind.keys ∙ sym (key-first t (Some h) forms is.heads);
  distinct = λ d. sym (ap no_key_twice (append_assoc before (key_of h ∷ []) (map key_parts after.functions))) ∙ behind.distinct (one_more before (key_of h) d is.fresh);
}

pub keyed : (before : List Key) (form func index : ℕ) (forms : List AsmTerm) (rest : Rest) → rest_of before form func index forms ≡ Ok rest → Keyed before forms rest.functions
keyed before form func index [] rest e =
    let none : rest.functions ≡ [] = sym (ap (λ (r : Rest). r.functions) (ok-same (record { code = []; functions = [] }) rest e)) in
    record {
      keys = ap (map key_parts) none;
      distinct = λ d. ap (λ fs. no_key_twice (before ++ map key_parts fs)) none ∙ ap no_key_twice (append-nil before) ∙ d;
    }
keyed before form func index (t ∷ forms) rest e = by (is_function t) refl (λ before form func index rest e. keyed before form func index forms rest e) e
  where
    by : (b : Bool) → is_function t ≡ b
        → ((before : List Key) (form func index : ℕ) (rest : Rest) → rest_of before form func index forms ≡ Ok rest → Keyed before forms rest.functions)
        → (if b then begins before form t >>= then_rest with_function (λ h. rest_of (before ++ key_of h ∷ []) (form + 1) (func + 1) 0 forms)
        else instruction func index t >>= then_rest with_instruction (λ i. rest_of before (form + 1) func (index + 1) forms)) ≡ Ok rest
        → Keyed before (t ∷ forms) rest.functions
    by true named behind e =
        let s = split with_function (λ h. rest_of (before ++ key_of h ∷ []) (form + 1) (func + 1) 0 forms) (begins before form t) rest e in
        subst (λ (r : Rest). Keyed before (t ∷ forms) r.functions) (sym s.same)
        (one-begun before t forms s.front s.after (begun before form t s.front s.is) (behind (before ++ key_of s.front ∷ []) (form + 1) (func + 1) 0 s.after s.gives))
    by false named behind e =
        let s = split with_instruction (λ i. rest_of before (form + 1) func (index + 1) forms) (instruction func index t) rest e in
        let left = behind before (form + 1) func (index + 1) s.after s.gives in
        subst (λ (r : Rest). Keyed before (t ∷ forms) r.functions) (sym s.same)
        (record { keys = left.keys ∙ sym (key-first t None forms (plain (tagged t) named)); distinct = left.distinct })

-- the functions of the forms behind the header
pub all-keyed : (forms : List AsmTerm) (functions : List FunctionParts) → functions_of forms ≡ Ok functions → Keyed [] forms functions
all-keyed [] functions e = absurd (cc)
all-keyed (t ∷ forms) functions e = by (begins [] 4 t) refl e
  where
    read : (h : Heading) (r : Result Rest FormFault) → begins [] 4 t ≡ Ok h → rest_of (key_of h ∷ []) 5 0 0 forms ≡ r
        → ◌≡◌ {A = Result (List FunctionParts) FormFault} (r >>= λ rest. Ok ((with_function h rest).functions)) (Ok functions) → Keyed [] (t ∷ forms) functions
    read h (Err f) is gives e = absurd (cc)
    read h (Ok rest) is gives e =
        subst (λ (fs : List FunctionParts). Keyed [] (t ∷ forms) fs) (ok-same ((with_function h rest).functions) functions e)
        (one-begun [] t forms h rest (begun [] 4 t h is) (keyed (key_of h ∷ []) 5 0 0 forms rest gives))

    by : (r : Result Heading FormFault) → begins [] 4 t ≡ r → (r >>= functions_from forms) ≡ Ok functions → Keyed [] (t ∷ forms) functions
    by (Err f) is e = absurd (cc)
    by (Ok h) is e = read h (rest_of (key_of h ∷ []) 5 0 0 forms) is refl e

keys-same : (functions : List Function) → map key_of_function functions ≡ map key_parts (map function_parts functions)
keys-same [] = refl
keys-same (f ∷ fs) = ap (λ ks. key_of_function f ∷ ks) (keys-same fs)

-- no two functions share name and arity
pub distinct : (forms : List AsmTerm) (functions : List Function) → functions_of forms ≡ Ok (map function_parts functions) → are_distinct functions ≡ true
distinct forms functions e = ap no_key_twice (keys-same functions) ∙ (all-keyed forms (map function_parts functions) e).distinct refl

abbrev pub all_are : (Key → Bool) → Header → Bool
all_are is_one h = list_all is_one (unwrap_or h.exports [])

export-is : (is_one : Key → Bool) (t : AsmTerm) (k : Key) → export is_one t ≡ Some k → is_one k ≡ true
unfolding export
export-is is_one t k e = by (export_key t) e
  where
    last : (q : Key) (b : Bool) → is_one q ≡ b → (if b then Some q else None) ≡ Some k → is_one k ≡ true
    last q true is e = sym (ap is_one (some-same q k e)) ∙ is
    last q false is e = absurd (cc)

    by : (o : Option Key) → option_and_then (if_function is_one) o ≡ Some k → is_one k ≡ true
    by None e = absurd (cc)
    by (Some q) e = last q (is_one q) refl e

each-are : (is_one : Key → Bool) (ts : List AsmTerm) (keys : List Key) → each (export is_one) ts ≡ Some keys → list_all is_one keys ≡ true
each-are is_one [] keys e = ap (list_all is_one) (sym (some-same [] keys e))
each-are is_one (t ∷ ts) keys e = by (export is_one t) refl (each (export is_one) ts) refl (each-are is_one ts) e
  where
    by : (a : Option Key) → export is_one t ≡ a → (b : Option (List Key)) → each (export is_one) ts ≡ b → ((ks : List Key) → each (export is_one) ts ≡ Some ks → list_all is_one ks ≡ true) → option_and_then (λ y. option_map (λ ys. y ∷ ys) b) a ≡ Some keys → list_all is_one keys ≡ true
    by None ea b eb rest e = absurd (cc)
    by (Some k) ea None eb rest e = absurd (cc)
    by (Some k) ea (Some ks) eb rest e =
        ap (list_all is_one) (sym (some-same (k ∷ ks) keys e)) ∙ ap (λ b. b && list_all is_one ks) (export-is is_one t k ea) ∙ rest ks eb

exports-are : (is_one : Key → Bool) (t : AsmTerm) (keys : List Key) → exports_of is_one t ≡ Some keys → list_all is_one keys ≡ true
unfolding exports_of
exports-are is_one t keys e = by (elements t) e
  where
    by : (o : Option (List AsmTerm)) → option_and_then (each (export is_one)) o ≡ Some keys → list_all is_one keys ≡ true
    by None e = absurd (cc)
    by (Some ts) e = each-are is_one ts keys e

exports-kept : (is_one : Key → Bool) (h g : Header) (t : AsmTerm) → with_exports is_one h t ≡ Some g → all_are is_one g ≡ true
exports-kept is_one h g t e = by (is_unset h.exports) (exports_of is_one t) refl e
  where
    by : (b : Bool) (o : Option (List Key)) → exports_of is_one t ≡ o → ◌≡◌ {A = Option Header} (if b then option_map (λ keys. record h { exports = Some keys }) o else None) (Some g) → all_are is_one g ≡ true
    by false o is e = absurd (cc)
    by true None is e = absurd (cc)
    by true (Some keys) is e = sym (ap (all_are is_one) (some-same (record h { exports = Some keys }) g e)) ∙ exports-are is_one t keys is

attributes-kept : (is_one : Key → Bool) (h g : Header) → with_attributes h ≡ Some g → all_are is_one h ≡ true → all_are is_one g ≡ true
attributes-kept is_one h g e all = by h.attributes e
  where
    by : (b : Bool) → ◌≡◌ {A = Option Header} (if b then None else Some (record h { attributes = true })) (Some g) → all_are is_one g ≡ true
    by true e = absurd (cc)
    by false e = sym (ap (all_are is_one) (some-same (record h { attributes = true }) g e)) ∙ all

labels-kept : (is_one : Key → Bool) (h g : Header) (t : AsmTerm) → with_labels h t ≡ Some g → all_are is_one h ≡ true → all_are is_one g ≡ true
labels-kept is_one h g t e all = by h.labels (number LAST_COUNT t) e
  where
    by : (b : Bool) (o : Option ℕ) → ◌≡◌ {A = Option Header} (if b then None else option_map (λ n. record h { labels = true }) o) (Some g) → all_are is_one g ≡ true
    by true o e = absurd (cc)
    by false None e = absurd (cc)
    by false (Some n) e = sym (ap (all_are is_one) (some-same (record h { labels = true }) g e)) ∙ all

pair-kept : (is_one : Key → Bool) (h g : Header) (p : List ℕ × AsmTerm) → header_pair is_one h p ≡ Some g → all_are is_one h ≡ true → all_are is_one g ≡ true
unfolding header_pair
pair-kept is_one h g p e all = by (is_word p.0 (codes "exports")) (is_word p.0 (codes "attributes")) (is_word p.0 (codes "labels")) e
  where
    by : (a b c : Bool) → ◌≡◌ {A = Option Header} (if a then with_exports is_one h p.1 else if b then with_attributes h else if c then with_labels h p.1 else None) (Some g) → all_are is_one g ≡ true
    by true b c e = exports-kept is_one h g p.1 e
    by false true c e = attributes-kept is_one h g e all
    by false false true e = labels-kept is_one h g p.1 e all
    by false false false e = absurd (cc)

-- a form of the header is no function form
record Stepped (is_one : Key → Bool) (t : AsmTerm) (g : Header) : Type 0 where
  pub all : all_are is_one g ≡ true
  pub headless : heading t ≡ None

pair-headless : (t : Option Tagged) (p : List ℕ × AsmTerm) → option_and_then pair_of t ≡ Some p → option_and_then heading_tagged t ≡ None
pair-headless None p e = absurd (cc)
pair-headless (Some (name, [])) p e = absurd (cc)
pair-headless (Some (name, part ∷ [])) p e = by (is_word name (codes "function"))
  where
    by : (b : Bool) → ◌≡◌ {A = Option Heading} (if b then None else None) None
    by true = refl
    by false = refl
pair-headless (Some (name, part ∷ next ∷ parts)) p e = absurd (cc)

stepped : (is_one : Key → Bool) (h g : Header) (t : AsmTerm) → header_form is_one h t ≡ Some g → all_are is_one h ≡ true → Stepped is_one t g
unfolding header_form
stepped is_one h g t e all = by (pair t) refl e
  where
    by : (o : Option (List ℕ × AsmTerm)) → pair t ≡ o → option_and_then (header_pair is_one h) o ≡ Some g → Stepped is_one t g
    by None is e = absurd (cc)
    by (Some p) is e = record { all = pair-kept is_one h g p e all; headless = pair-headless (tagged t) p is }

-- the exports of a header are those functions, and the forms behind it have all the function forms
pub record Left (is_one : Key → Bool) (forms : List AsmTerm) (g : Headed) : Type 0 where
  pub all : all_are is_one g.0 ≡ true
  pub keys : keys_of g.1 ≡ keys_of forms

form-left : (is_one : Key → Bool) (form : ℕ) (h : Header) (forms : List AsmTerm) (g : Headed) → next_form is_one form (h, forms) ≡ Ok g → all_are is_one h ≡ true → Left is_one forms g
form-left is_one form h [] g e all = absurd (cc)
form-left is_one form h (t ∷ forms) g e all = by (header_form is_one h t) refl e
  where
    by : (o : Option Header) → header_form is_one h t ≡ o → or_bad form (option_map (with_forms forms) o) ≡ Ok g → Left is_one (t ∷ forms) g
    by None is e = absurd (cc)
    by (Some next) is e =
        let s = stepped is_one h next t is all in
        subst (Left is_one (t ∷ forms)) (ok-same (next, forms) g e) (record { all = s.all; keys = sym (key-first t None forms s.headless) })

pub header-left : (is_one : Key → Bool) (forms : List AsmTerm) (g : Headed) → header_of is_one forms ≡ Ok g → Left is_one forms g
unfolding header_of
header-left is_one forms g e = first (next_form is_one 1 (nothing, forms)) refl e
  where
    third : (a : Headed) → Left is_one forms a → next_form is_one 3 a ≡ Ok g → Left is_one forms g
    third a left is = let s = form-left is_one 3 a.0 a.1 g is left.all in record { all = s.all; keys = s.keys ∙ left.keys }

    second : (a : Headed) (r : Result Headed FormFault) → Left is_one forms a → next_form is_one 2 a ≡ r → (r >>= next_form is_one 3) ≡ Ok g → Left is_one forms g
    second a (Err f) left is e = absurd (cc)
    second a (Ok b) left is e = let s = form-left is_one 2 a.0 a.1 b is left.all in third b (record { all = s.all; keys = s.keys ∙ left.keys }) e

    first : (r : Result Headed FormFault) → next_form is_one 1 (nothing, forms) ≡ r → (r >>= next_form is_one 2 >>= next_form is_one 3) ≡ Ok g → Left is_one forms g
    first (Err f) is e = absurd (cc)
    first (Ok a) is e = second a (next_form is_one 2 a) (form-left is_one 1 nothing forms a is refl) refl e

-- each export is one of the functions
pub exported : (is_one : Key → Bool) (forms behind : List AsmTerm) (header : Header) (functions : List Function) → ((key : Key) → is_one key ≡ is_among (keys_of forms) key)
    → header_of is_one forms ≡ Ok (header, behind) → functions_of behind ≡ Ok (map function_parts functions) → are_exports (unwrap_or header.exports []) functions ≡ true
exported is_one forms behind header functions ones heads e =
    let left = header-left is_one forms (header, behind) heads in
    let keys : map key_of_function functions ≡ keys_of forms = keys-same functions ∙ (all-keyed behind (map function_parts functions) e).keys ∙ left.keys in
    ap (λ ks. list_all (is_among ks) (unwrap_or header.exports [])) keys
    ∙ sym (λ i. list_all (λ key. ones key i) (unwrap_or header.exports []))
    ∙ left.all
