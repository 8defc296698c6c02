use Rattle.jesc_arithmetic.proofs.Saying.{there_later, table_put, on_ok}
use Rattle.jesc_arithmetic.proofs.facts.put_table.Goals as goal

pub put_rules-requires-clause-facts : goal.put_rules-requires-clause-facts
put_rules-requires-clause-facts c = there_later c.args.terms.now c.app.new.self c.in_ok-outcome.ensures.keeps c.args.facts.now c.requires.facts

pub returns-clause-put : goal.returns-clause-put
returns-clause-put c =
    on_ok _ _
    (table_put c.args.terms.now c.app.new.self c.put_rules.new.terms c.in_ok-outcome.ensures.keeps c.args.facts.now c.put_rules.new.facts c.requires.facts c.args.symbol c.args.left c.args.right c.in_ok-outcome.outcome c.requires.left c.requires.right
    c.in_ok-outcome.ensures.term c.args.rules.now)
    c.put_rules.result c.put_rules.ensures.put
