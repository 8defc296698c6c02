use Rattle.jesc_clauses.proofs.Truths.{built_later}
use Rattle.jesc_clauses.proofs.Defining.{coded_told, coded_tells}
use Rattle.jesc_clauses.proofs.builder.Builder.defined.Goals as goal

pub returns-clause-told : goal.returns-clause-told
returns-clause-told c =
    coded_told c.put_term.new.terms c.args.self.now c.put_term.new.self c.put_atom.new.self c.put_clause.new.self c.put_clause-2.new.self c.put_clause-3.new.self
    (built_later c.args.terms.now c.put_term.new.terms c.in_ok-form.ensures.keeps c.args.self.now c.requires.built) c.args.a c.args.b c.in_ok-d.d c.requires.a c.requires.b
    c.in_ok-form.form c.in_ok-form.ensures.put c.in_ok-d.ensures c.in_ok-put_clause.ensures c.in_ok-put_clause-2.ensures c.in_ok-put_clause-3.ensures

pub returns-clause-tells : goal.returns-clause-tells
returns-clause-tells c =
    coded_tells c.put_term.new.terms c.args.self.now c.put_term.new.self c.put_atom.new.self c.put_clause.new.self c.put_clause-2.new.self c.put_clause-3.new.self
    (built_later c.args.terms.now c.put_term.new.terms c.in_ok-form.ensures.keeps c.args.self.now c.requires.built) c.args.a c.args.b c.in_ok-d.d c.requires.a c.requires.b
    c.in_ok-form.form c.in_ok-form.ensures.put c.in_ok-d.ensures c.in_ok-put_clause.ensures c.in_ok-put_clause-2.ensures c.in_ok-put_clause-3.ensures
