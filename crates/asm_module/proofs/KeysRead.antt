-- The keys of the functions that forms begin, form by form.
use Rattle.std.proofs.Common.{◌≡◌, ℕ, ◌+◌, ◌<◌, ◌≤◌, Bool, not, ◌||◌, List, [], ◌∷◌, ◌++◌, map, drop, length, get_or, sym, ap, ◌∙◌}
use Rattle.std.specs.Prelude.{if◌then◌else◌, Option, Some, None, option_map}
use Rattle.std.specs.List.{cons_option}
use Rattle.std.proofs.lemmas.List.{drop_all}
use Rattle.ej_term.specs.declared.asm_term.AsmTerm.{AsmTerm}
use Rattle.beam_code.specs.Keys.{Key, is_among}
use Rattle.asm_module.specs.Modules.{Heading, heading, key_of, keys_of, header_of}
use Rattle.asm_module.specs.Seen.{key_seen, is_held}
use Rattle.asm_module.proofs.KeySets.{Held, or-none, form-held}
use Rattle.asm_module.proofs.ReadingLemmas.{dropped}

-- a form that begins a function
pub form-added : (ks new : List Held) (k : Held) (t : AsmTerm) (h : Heading) (r : Bool) → heading t ≡ Some h → key_seen k ≡ key_of h → r ≡ not (is_held ks (key_seen k))
    → map key_seen new ≡ (if r then map key_seen ks ++ key_seen k ∷ [] else map key_seen ks)
    → (forms : List AsmTerm) (q : Key) → (is_held new q || is_among (keys_of forms) q) ≡ (is_held ks q || is_among (keys_of (t ∷ forms)) q)
form-added ks new k t h r heads is told put forms q =
    form-held (map key_seen ks) (map key_seen new) (key_seen k) (keys_of forms) r q told put
    ∙ ap (λ x. is_held ks q || is_among (x ∷ keys_of forms) q) is
    ∙ ap (λ (o : Option Heading). is_held ks q || is_among (cons_option (option_map key_of o) (keys_of forms)) q) (sym heads)

-- and one that begins none
pub form-passed : (ks new : List Held) (t : AsmTerm) → heading t ≡ None → new ≡ ks
    → (forms : List AsmTerm) (q : Key) → (is_held new q || is_among (keys_of forms) q) ≡ (is_held ks q || is_among (keys_of (t ∷ forms)) q)
form-passed ks new t heads same forms q =
    ap (λ xs. is_held xs q || is_among (keys_of forms) q) same
    ∙ ap (λ (o : Option Heading). is_held ks q || is_among (cons_option (option_map key_of o) (keys_of forms)) q) (sym heads)

pub held-more : (ks new : List Held) (fs : List AsmTerm) (i : ℕ) (f : AsmTerm) → i < length fs → f ≡ get_or fs i f
    → ((forms : List AsmTerm) (q : Key) → (is_held new q || is_among (keys_of forms) q) ≡ (is_held ks q || is_among (keys_of (f ∷ forms)) q))
    → ((q : Key) → (is_held ks q || is_among (keys_of (drop i fs)) q) ≡ is_among (keys_of fs) q)
    → (q : Key) → (is_held new q || is_among (keys_of (drop (i + 1) fs)) q) ≡ is_among (keys_of fs) q
held-more ks new fs i f within is step so q =
    step (drop (i + 1) fs) q ∙ sym (ap (λ ts. is_held ks q || is_among (keys_of ts) q) (dropped fs i f within is)) ∙ so q

pub held-all : (ks : List Held) (fs : List AsmTerm) (i : ℕ) → length fs ≤ i → ((q : Key) → (is_held ks q || is_among (keys_of (drop i fs)) q) ≡ is_among (keys_of fs) q)
    → (q : Key) → is_held ks q ≡ is_among (keys_of fs) q
held-all ks fs i end so q = sym (or-none (is_held ks q)) ∙ sym (ap (λ ts. is_held ks q || is_among (keys_of ts) q) (drop_all i fs end)) ∙ so q

-- the header is the same by any test that has the same keys
pub same-header : (is_one : Key → Bool) (forms : List AsmTerm) → ((key : Key) → is_one key ≡ is_among (keys_of forms) key)
    → header_of is_one forms ≡ header_of (is_among (keys_of forms)) forms
same-header is_one forms ones = λ i. header_of (λ key. ones key i) forms
