use Rattle.std.proofs.Common.{◌≡◌, ◌++◌, List, ℕ, OnOk, string_bytes, rules, sym, subst, ◌∙◌}
use Rattle.term_text.proofs.PlainText.{plain_atom}
use Rattle.term_text.proofs.atom.write_atom.Goals as goal

pub returns-then-is_plain : goal.returns-then-is_plain
returns-then-is_plain c =
    let name = plain_atom c.args.name.now c.utf8.name (sym c.is_plain.ensures ∙ c.if-is_plain.true) in
    subst (λ (xs : List ℕ). OnOk c.push_str.result (string_bytes c.push_str.new.self ≡ string_bytes c.args.out.now ++ xs)) name (search rules)
