use Rattle.std.proofs.Common.{sym, ◌∙◌, arith}
use Rattle.beam_code.specs.Slots.{state_of}
use Rattle.beam_code.proofs.SlotStates.{many-terms, not-terms}
use Rattle.beam_code.proofs.flow.are_terms.Goals as goal

pub returns-then-count-from : goal.returns-then-count-from
returns-then-count-from c = sym (many-terms c.args.state.now c.args.count (omega arith))

pub returns-then-not-is_term : goal.returns-then-not-is_term
returns-then-not-is_term c = sym (not-terms (state_of c.args.state.now) c.loop-n.n c.args.count (omega arith) (sym c.is_term.ensures ∙ c.if-not-is_term.true))
