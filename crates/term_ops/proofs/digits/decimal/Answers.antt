use Rattle.std.proofs.Common.{◌≡◌, ◌<◌, ◌^◌, ℕ, List, IfOk, ap, ◌∙◌, subst, arith, rules, string_bytes}
use Rattle.std.specs.Str.{chars}
use Rattle.std.specs.Fmt.{signed_decimal}
use Rattle.std.specs.Int.Signed.{mag}
use Rattle.std.proofs.lemmas.Str.{chars-IsAscii}
use Rattle.std.proofs.lemmas.Fmt.{IsAscii-signed}
use Rattle.term_ops.proofs.digits.decimal.Goals as goal

pub returns : goal.returns
returns c =
    let small : mag c.args.n < 2 ^ 63 = omega arith in
    let written : string_bytes c.in_ok-text.text ≡ signed_decimal c.args.n = search rules in
    let same : chars c.deref.result.now ≡ signed_decimal c.args.n = ap chars (c.deref.ensures ∙ written) ∙ chars-IsAscii (signed_decimal c.args.n) (IsAscii-signed c.args.n small) in
    subst (λ (bs : List ℕ). IfOk c.characters.result (λ characters. characters.items ≡ bs)) same c.characters.ensures
