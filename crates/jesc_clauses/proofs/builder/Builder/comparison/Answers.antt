use Rattle.jesc_clauses.proofs.Telling.{told_constant, decided_tells, holding_told, holding_tells, failing_told, failing_tells, narrow_comparison}
use Rattle.jesc_clauses.proofs.builder.Builder.comparison.Goals as goal

pub at_most-requires-clause-x : goal.at_most-requires-clause-x
at_most-requires-clause-x c = (c.requires.sums.each c.args.a.0 c.in-Some-Some.a.now c.in-Some-Some.ensures).0

pub at_most-requires-clause-y : goal.at_most-requires-clause-y
at_most-requires-clause-y c = (c.requires.sums.each c.args.b.0 c.in-Some-Some.b.now c.in-Some-Some.ensures').0

pub returns-in-Constant-clause-told : goal.returns-in-Constant-clause-told
returns-in-Constant-clause-told c = told_constant c.args.terms.now c.args.self.now 1 c.in-Constant.truth c.requires.built

pub returns-in-Constant-clause-tells : goal.returns-in-Constant-clause-tells
returns-in-Constant-clause-tells c =
    let s = c.in-Some-Some in
    let n = c.in_ok-normal-in-Some-Some in
    decided_tells c.args.terms.now c.args.sums.now c.args.self.now c.requires.built c.requires.sums c.args.a c.args.b s.a.now s.b.now s.ensures s.ensures'
    n.normal n.ensures.comparison n.ensures.narrow n.ensures.exact c.in-Constant.truth c.in-Constant.is

pub returns-in_ok-put_atom-in-Holds-clause-told : goal.returns-in_ok-put_atom-in-Holds-clause-told
returns-in_ok-put_atom-in-Holds-clause-told c =
    let s = c.in-Some-Some in
    let n = c.in_ok-normal-in-Some-Some in
    holding_told c.args.terms.now c.args.sums.now c.args.self.now c.requires.built c.requires.sums c.args.a c.args.b s.a.now s.b.now s.ensures s.ensures'
    n.normal n.ensures.comparison n.ensures.narrow n.ensures.exact c.in-Holds.atom c.put_atom.new.self c.in_ok-put_atom-in-Holds.field-0 c.in_ok-put_atom-in-Holds.ensures c.in-Holds.is

pub returns-in_ok-put_atom-in-Holds-clause-tells : goal.returns-in_ok-put_atom-in-Holds-clause-tells
returns-in_ok-put_atom-in-Holds-clause-tells c =
    let s = c.in-Some-Some in
    let n = c.in_ok-normal-in-Some-Some in
    holding_tells c.args.terms.now c.args.sums.now c.args.self.now c.requires.built c.requires.sums c.args.a c.args.b s.a.now s.b.now s.ensures s.ensures'
    n.normal n.ensures.comparison n.ensures.narrow n.ensures.exact c.in-Holds.atom c.put_atom.new.self c.in_ok-put_atom-in-Holds.field-0 c.in_ok-put_atom-in-Holds.ensures c.in-Holds.is

pub returns-in_ok-put_atom-in-Fails-clause-told : goal.returns-in_ok-put_atom-in-Fails-clause-told
returns-in_ok-put_atom-in-Fails-clause-told c =
    let s = c.in-Some-Some in
    let n = c.in_ok-normal-in-Some-Some in
    failing_told c.args.terms.now c.args.sums.now c.args.self.now c.requires.built c.requires.sums c.args.a c.args.b s.a.now s.b.now s.ensures s.ensures'
    n.normal n.ensures.comparison n.ensures.narrow n.ensures.exact c.in-Fails.atom c.put_atom-in-Fails.new.self c.in_ok-put_atom-in-Fails.field-0 c.in_ok-put_atom-in-Fails.ensures c.in-Fails.is

pub returns-in_ok-put_atom-in-Fails-clause-tells : goal.returns-in_ok-put_atom-in-Fails-clause-tells
returns-in_ok-put_atom-in-Fails-clause-tells c =
    let s = c.in-Some-Some in
    let n = c.in_ok-normal-in-Some-Some in
    failing_tells c.args.terms.now c.args.sums.now c.args.self.now c.requires.built c.requires.sums c.args.a c.args.b s.a.now s.b.now s.ensures s.ensures'
    n.normal n.ensures.comparison n.ensures.narrow n.ensures.exact c.in-Fails.atom c.put_atom-in-Fails.new.self c.in_ok-put_atom-in-Fails.field-0 c.in_ok-put_atom-in-Fails.ensures c.in-Fails.is

pub returns-in-Constant-clause-narrow : goal.returns-in-Constant-clause-narrow
returns-in-Constant-clause-narrow c =
    let s = c.in-Some-Some in
    let n = c.in_ok-normal-in-Some-Some in
    narrow_comparison c.args.self.now.first c.args.sums.now c.requires.sums c.args.a c.args.b s.a.now s.b.now s.ensures s.ensures' n.normal n.ensures.comparison n.ensures.narrow

pub returns-in_ok-put_atom-in-Holds-clause-narrow : goal.returns-in_ok-put_atom-in-Holds-clause-narrow
returns-in_ok-put_atom-in-Holds-clause-narrow c =
    let s = c.in-Some-Some in
    let n = c.in_ok-normal-in-Some-Some in
    narrow_comparison c.args.self.now.first c.args.sums.now c.requires.sums c.args.a c.args.b s.a.now s.b.now s.ensures s.ensures' n.normal n.ensures.comparison n.ensures.narrow

pub returns-in_ok-put_atom-in-Fails-clause-narrow : goal.returns-in_ok-put_atom-in-Fails-clause-narrow
returns-in_ok-put_atom-in-Fails-clause-narrow c =
    let s = c.in-Some-Some in
    let n = c.in_ok-normal-in-Some-Some in
    narrow_comparison c.args.self.now.first c.args.sums.now c.requires.sums c.args.a c.args.b s.a.now s.b.now s.ensures s.ensures' n.normal n.ensures.comparison n.ensures.narrow
