-- A readable term of the profile as a proof takes it apart: what holds of it, by its parts.
use Rattle.std.specs.Prelude.{◌≡◌, ℕ, ◌^◌, Bool, true, false, ◌&&◌, nat_le, nat_lt, List, ⊤}
use Rattle.std.proofs.Common.{refl, sym, ap, true≢false}
use Rattle.std.specs.Str.{all_scalars}
use Rattle.std.proofs.lemmas.Bool.{and_parts, and_from}
use Rattle.ej_term.specs.Term.{Term, Int, Atom, Reference, Fun, Pid, Tuple, Map, Nil, Cons, Terms, None, More, Pairs, Empty, Pair, has_64_bits}
use Rattle.ej_term.specs.Maps.{rises}
use Rattle.ej_term.specs.WellFormed.{everywhere, in_each, in_each_pair, is_empty, is_in_range}
use Rattle.ej_term.specs.Readable.{is_short, is_sayable}

-- an external fun
pub record IsFunction (local : Bool) (owner name : List ℕ) (arity : ℕ) (environment : Terms) : Type 0 where
  pub external : local ≡ false
  pub owner_scalars : all_scalars owner ≡ true
  pub name_scalars : all_scalars name ≡ true
  pub owner_short : is_short owner ≡ true
  pub name_short : is_short name ≡ true
  pub small : nat_le arity 255 ≡ true
  pub no_environment : environment ≡ None

abbrev mutual
  pub Sound : Term → Type 0
  Sound (Int n) = has_64_bits n ≡ true
  Sound (Atom name) = (all_scalars name ≡ true) × (is_short name ≡ true)
  Sound (Reference node number) = (nat_lt node (2 ^ 32) ≡ true) × (nat_le number (2 ^ 62) ≡ true)
  Sound (Fun local owner name arity environment) = IsFunction local owner name arity environment
  Sound (Pid node number) = (nat_lt node (2 ^ 32) ≡ true) × (nat_le number (2 ^ 62) ≡ true)
  Sound (Tuple parts) = AllSound parts
  Sound (Map pairs) = (rises pairs ≡ true) × AllPairsSound pairs
  Sound Nil = ⊤
  Sound (Cons head tail) = Sound head × Sound tail

  pub AllSound : Terms → Type 0
  AllSound None = ⊤
  AllSound (More first rest) = Sound first × AllSound rest

  pub AllPairsSound : Pairs → Type 0
  AllPairsSound Empty = ⊤
  AllPairsSound (Pair key value rest) = Sound key × Sound value × AllPairsSound rest

is-none : (parts : Terms) → is_empty parts ≡ true → parts ≡ None
is-none None e = refl
is-none (More first rest) e = absurd (true≢false (sym e))

-- a local fun is not sayable
function-sound : (local : Bool) (owner name : List ℕ) (arity : ℕ) (environment : Terms) → is_in_range (Fun local owner name arity environment) ≡ true
    → is_sayable (Fun local owner name arity environment) ≡ true → IsFunction local owner name arity environment
function-sound true owner name arity environment r s = absurd (true≢false (sym s))
function-sound false owner name arity environment r s =
    let a = and_parts (all_scalars owner) _ r in
    let b = and_parts (all_scalars name) _ a.1 in
    let c = and_parts (nat_le arity 255) (is_empty environment) b.1 in
    let d = and_parts (is_short owner) (is_short name) s in
    record {
      external = refl;
      owner_scalars = a.0;
      name_scalars = b.0;
      owner_short = d.0;
      name_short = d.1;
      small = c.0;
      no_environment = is-none environment c.1;
    }

mutual
  pub sound : (t : Term) → everywhere is_in_range t ≡ true → everywhere is_sayable t ≡ true → Sound t
  sound (Int n) r s = r
  sound (Atom name) r s = (r, s)
  sound (Reference node number) r s = (r, s)
  sound (Fun local owner name arity environment) r s =
      function-sound local owner name arity environment (and_parts (is_in_range (Fun local owner name arity environment)) (in_each is_in_range environment) r).0
      (and_parts (is_sayable (Fun local owner name arity environment)) (in_each is_sayable environment) s).0
  sound (Pid node number) r s = (r, s)
  sound (Tuple parts) r s = all-sound parts r s
  sound (Map pairs) r s = let a = and_parts (rises pairs) (in_each_pair is_in_range pairs) r in (a.0, pairs-sound pairs a.1 s)
  sound Nil r s = tt
  sound (Cons head tail) r s =
      let a = and_parts (everywhere is_in_range head) (everywhere is_in_range tail) r in
      let b = and_parts (everywhere is_sayable head) (everywhere is_sayable tail) s in
      (sound head a.0 b.0, sound tail a.1 b.1)

  all-sound : (parts : Terms) → in_each is_in_range parts ≡ true → in_each is_sayable parts ≡ true → AllSound parts
  all-sound None r s = tt
  all-sound (More first rest) r s =
      let a = and_parts (everywhere is_in_range first) (in_each is_in_range rest) r in
      let b = and_parts (everywhere is_sayable first) (in_each is_sayable rest) s in
      (sound first a.0 b.0, all-sound rest a.1 b.1)

  pairs-sound : (pairs : Pairs) → in_each_pair is_in_range pairs ≡ true → in_each_pair is_sayable pairs ≡ true → AllPairsSound pairs
  pairs-sound Empty r s = tt
  pairs-sound (Pair key value rest) r s =
      let a = and_parts (everywhere is_in_range key) (everywhere is_in_range value && in_each_pair is_in_range rest) r in
      let b = and_parts (everywhere is_sayable key) (everywhere is_sayable value && in_each_pair is_sayable rest) s in
      let c = and_parts (everywhere is_in_range value) (in_each_pair is_in_range rest) a.1 in
      let d = and_parts (everywhere is_sayable value) (in_each_pair is_sayable rest) b.1 in
      (sound key a.0 b.0, sound value c.0 d.0, pairs-sound rest c.1 d.1)

-- ---- and put together

function-formed : (local : Bool) (owner name : List ℕ) (arity : ℕ) (environment : Terms) → IsFunction local owner name arity environment
    → (everywhere is_in_range (Fun local owner name arity environment) ≡ true) × (everywhere is_sayable (Fun local owner name arity environment) ≡ true)
function-formed true owner name arity environment is = absurd (true≢false is.external)
function-formed false owner name arity (More first rest) is = absurd (true≢false (sym (ap is_empty is.no_environment)))
function-formed false owner name arity None is = (
  and_from _ true (and_from (all_scalars owner) _ is.owner_scalars (and_from (all_scalars name) _ is.name_scalars (and_from (nat_le arity 255) true is.small refl))) refl,
  and_from _ true (and_from (is_short owner) (is_short name) is.owner_short is.name_short) refl,
)

mutual
  pub formed : (t : Term) → Sound t → (everywhere is_in_range t ≡ true) × (everywhere is_sayable t ≡ true)
  formed (Int n) s = (s, refl)
  formed (Atom name) s = s
  formed (Reference node number) s = s
  formed (Fun local owner name arity environment) s = function-formed local owner name arity environment s
  formed (Pid node number) s = s
  formed (Tuple parts) s = all-formed parts s
  formed (Map pairs) s = let f = pairs-formed pairs s.1 in (and_from (rises pairs) (in_each_pair is_in_range pairs) s.0 f.0, f.1)
  formed Nil s = (refl, refl)
  formed (Cons head tail) s =
      let h = formed head s.0 in
      let t = formed tail s.1 in
      (and_from (everywhere is_in_range head) (everywhere is_in_range tail) h.0 t.0, and_from (everywhere is_sayable head) (everywhere is_sayable tail) h.1 t.1)

  all-formed : (parts : Terms) → AllSound parts → (in_each is_in_range parts ≡ true) × (in_each is_sayable parts ≡ true)
  all-formed None s = (refl, refl)
  all-formed (More first rest) s =
      let f = formed first s.0 in
      let r = all-formed rest s.1 in
      (and_from (everywhere is_in_range first) (in_each is_in_range rest) f.0 r.0, and_from (everywhere is_sayable first) (in_each is_sayable rest) f.1 r.1)

  pairs-formed : (pairs : Pairs) → AllPairsSound pairs → (in_each_pair is_in_range pairs ≡ true) × (in_each_pair is_sayable pairs ≡ true)
  pairs-formed Empty s = (refl, refl)
  pairs-formed (Pair key value rest) s =
      let k = formed key s.0 in
      let v = formed value s.1 in
      let r = pairs-formed rest s.2 in (
        and_from (everywhere is_in_range key) _ k.0 (and_from (everywhere is_in_range value) (in_each_pair is_in_range rest) v.0 r.0),
        and_from (everywhere is_sayable key) _ k.1 (and_from (everywhere is_sayable value) (in_each_pair is_sayable rest) v.1 r.1),
      )
