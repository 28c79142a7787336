-- Types stored into locals.
use Rattle.std.proofs.Common.{◌≡◌, ℕ, ◌<◌, ◌-◌, true, nat_lt, ◌&&◌, List, length, slice_set, sym, ap, ◌∙◌, None, Some}
use Rattle.std.specs.Prelude.{if◌then◌else◌}
use Rattle.std.proofs.lemmas.Bool.{lt-ltb}
use Rattle.std.proofs.lemmas.List.{length-map, map-set}
use Rattle.jvm_code.specs.declared.types.VType.TheVariants as v
use Rattle.jvm_code.specs.Typing.{is_long, stored, type_at, without_half}
use Rattle.class_verifier.specs.declared.types.TypeRef.{TypeRef}
use Rattle.class_verifier.specs.declared.types.TypeRef.TheVariants as t
use Rattle.class_verifier.specs.Seen.{type_seen, types_seen}

pub half-cleared : (locals : List TypeRef) (local : ℕ) → 0 < local → is_long (type_at (types_seen locals) (local - 1)) ≡ true
    → types_seen (slice_set locals (local - 1) t.Top) ≡ without_half (types_seen locals) local
half-cleared locals local above long =
    map-set type_seen locals (local - 1) t.Top
    ∙ sym (ap (λ b. if b && is_long (type_at (types_seen locals) (local - 1)) then slice_set (types_seen locals) (local - 1) v.Top else types_seen locals) (lt-ltb 0 local above)
    ∙ ap (λ b. if b then slice_set (types_seen locals) (local - 1) v.Top else types_seen locals) long)

pub stored-is : (locals cleared : List TypeRef) (local : ℕ) (given : TypeRef) → local < length locals
    → types_seen cleared ≡ without_half (types_seen locals) local
    → stored (types_seen locals) local (type_seen given) ≡ Some (types_seen (slice_set cleared local given))
stored-is locals cleared local given below is =
    ap (λ b. if b then Some (slice_set (without_half (types_seen locals) local) local (type_seen given)) else None) (ap (nat_lt local) (length-map locals type_seen) ∙ lt-ltb local (length locals) below)
    ∙ ap (λ types. Some (slice_set types local (type_seen given))) (sym is)
    ∙ ap Some (sym (map-set type_seen cleared local given))
