use Rattle.std.proofs.Common.{◌∙◌, ap, sym}
use Rattle.asm_terms.specs.Tokens.{token_at, tokens_behind}
use Rattle.asm_terms.proofs.SplitLaw.{has_tokens, has_none}
use Rattle.asm_terms.proofs.TokenLemmas.{tokens-stop, tokens-none, tokens-step, tokens-less, tokens-end, answered}
use Rattle.asm_terms.proofs.scan.form_tokens.Goals as goal

pub returns-then-take_full_stop : goal.returns-then-take_full_stop
returns-then-take_full_stop c =
    let stop = c.if-take_full_stop.ensures in
    has_tokens c.args.reader.now c.tokens.tokens c.take_full_stop.new.reader
    (answered c.args.reader.now c.skip_blank.new.reader c.tokens.reader c.new-tokens.result c.tokens.tokens c.skip_blank.ensures c.new-tokens.ensures c.tokens.invariant
    (tokens-stop c.tokens.tokens c.tokens.reader c.take_full_stop.new.reader stop.0 stop.1))

pub returns-in-None : goal.returns-in-None
returns-in-None c =
    let stop = c.if-take_full_stop.ensures in
    has_none c.args.reader.now
    (answered c.args.reader.now c.skip_blank.new.reader c.tokens.reader c.new-tokens.result c.tokens.tokens c.skip_blank.ensures c.new-tokens.ensures c.tokens.invariant
    (tokens-none c.tokens.tokens c.tokens.reader c.token_at.new.reader c.in_ok-token.field-0 stop.0 (ap token_at (sym stop.1) ∙ c.in_ok-token.ensures) c.in-None.is))

pub tokens-smaller : goal.tokens-smaller
tokens-smaller c =
    let stop = c.if-take_full_stop.ensures in
    tokens-less c.tokens.reader c.token_at.new.reader c.skip_blank-in-tokens.new.reader c.in_ok-token.field-0 c.in-Some.token
    (ap token_at (sym stop.1) ∙ c.in_ok-token.ensures) c.in-Some.is c.skip_blank-in-tokens.ensures

pub tokens-preserved : goal.tokens-preserved
tokens-preserved c =
    let stop = c.if-take_full_stop.ensures in
    tokens-step c.tokens.tokens c.push_token.new.tokens c.tokens.reader c.token_at.new.reader c.skip_blank-in-tokens.new.reader c.in_ok-token.field-0 c.in-Some.token
    stop.0 (ap token_at (sym stop.1) ∙ c.in_ok-token.ensures) c.in-Some.is c.in_ok-push_token-in-Some.ensures c.skip_blank-in-tokens.ensures
    ∙ c.tokens.invariant

pub returns : goal.returns
returns c =
    let ended = c.tokens-test.ensures in
    has_none c.args.reader.now
    (answered c.args.reader.now c.skip_blank.new.reader c.tokens.reader c.new-tokens.result c.tokens.tokens c.skip_blank.ensures c.new-tokens.ensures c.tokens.invariant
    (ap (tokens_behind c.tokens.tokens) ended ∙ tokens-end c.tokens.tokens))
