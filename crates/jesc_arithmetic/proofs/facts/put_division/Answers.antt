use Rattle.jesc_logic.specs.Terms.{term_at}
use Rattle.jesc_arithmetic.specs.Arithmetic.{division_fact}
use Rattle.jesc_arithmetic.specs.declared.tables.TheConstants.{QUOTIENT, REMAINDER}
use Rattle.jesc_arithmetic.proofs.Saying.{first_put, division_put, on_ok}
use Rattle.jesc_arithmetic.proofs.facts.put_division.Goals as goal

pub put_table-requires-clause-facts : goal.put_table-requires-clause-facts
put_table-requires-clause-facts c =
    first_put c.args.terms.now c.division_formula.new.terms c.in_ok-f.ensures.keeps c.args.facts.now c.put.new.facts c.in_ok-f.f (division_fact (term_at c.args.terms.now c.args.x) (term_at c.args.terms.now c.args.y)) c.requires.facts c.in_ok-put.ensures c.in_ok-f.ensures.says

pub returns-clause-put : goal.returns-clause-put
returns-clause-put c =
    on_ok _ _
    (division_put c.args.terms.now c.division_formula.new.terms c.put_table.new.terms c.put_table-2.new.terms c.in_ok-f.ensures.keeps c.in_ok-put_table.ensures.keeps c.args.facts.now c.put.new.facts c.put_table.new.facts c.put_table-2.new.facts c.in_ok-f.f
    c.args.x c.args.y c.requires.facts c.requires.x c.requires.y QUOTIENT REMAINDER c.in_ok-put.ensures c.in_ok-f.ensures.says c.in_ok-put_table.ensures.put)
    c.put_table-2.result c.put_table-2.ensures.put
