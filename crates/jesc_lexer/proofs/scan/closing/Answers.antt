use Rattle.std.proofs.Common.{sym, ◌∙◌}
use Rattle.jesc_lexer.proofs.Closing.{closing_step, closing_found, closing_none, moved_none}
use Rattle.jesc_lexer.specs.Pieces.{closing}
use Rattle.jesc_lexer.proofs.scan.closing.Goals as goal

pub loop-at-init : goal.loop-at-init
loop-at-init c = moved_none (closing c.args.bytes.now)

pub returns-then-closes_at-clause-value : goal.returns-then-closes_at-clause-value
returns-then-closes_at-clause-value c =
    sym (closing_found c.args.bytes.now c.loop-at.at c.loop-at-test.true (sym c.closes_at.ensures.value ∙ c.if-closes_at.true)) ∙ c.loop-at.invariant

pub loop-at-preserved : goal.loop-at-preserved
loop-at-preserved c =
    closing_step c.args.bytes.now c.loop-at.at c.loop-at-test.true (sym c.closes_at.ensures.value ∙ c.if-closes_at.false) ∙ c.loop-at.invariant

pub returns-clause-value : goal.returns-clause-value
returns-clause-value c = sym (closing_none c.args.bytes.now c.loop-at.at c.loop-at-test.false) ∙ c.loop-at.invariant
