use Rattle.jesc_clauses.specs.declared.normal.Normal.{Normal}
use Rattle.jesc_clauses.specs.Comparisons.{IsWideComparison, IsWideNormal}
use Rattle.jesc_clauses.proofs.Wide.{handed}
use Rattle.jesc_clauses.proofs.Comparing.{comparison_of, exact_of, short_of}
use Rattle.jesc_clauses.proofs.comparison.at_most.Goals as goal

pub look_at-requires : goal.look_at-requires
look_at-requires c = short_of c.args.x.now c.args.y.now c.requires.x.constant c.requires.y.constant c.as_slice.result.now c.as_slice-2.result.now c.as_slice-3.result.now c.in_ok-form.form c.as_slice.ensures c.as_slice-2.ensures c.as_slice-3.ensures c.in_ok-form.ensures c.in_ok-normal.normal c.in_ok-normal.ensures.defined

pub returns-clause-comparison : goal.returns-clause-comparison
returns-clause-comparison c = comparison_of c.args.x.now c.args.y.now c.requires.x.constant c.requires.y.constant c.as_slice.result.now c.as_slice-2.result.now c.as_slice-3.result.now c.in_ok-form.form c.as_slice.ensures c.as_slice-2.ensures c.as_slice-3.ensures c.in_ok-form.ensures c.in_ok-normal.normal c.in_ok-normal.ensures.defined

pub returns-clause-exact : goal.returns-clause-exact
returns-clause-exact c = exact_of c.args.x.now c.args.y.now c.requires.x.constant c.requires.y.constant c.as_slice.result.now c.as_slice-2.result.now c.as_slice-3.result.now c.in_ok-form.form c.as_slice.ensures c.as_slice-2.ensures c.as_slice-3.ensures c.in_ok-form.ensures c.in_ok-normal.normal c.in_ok-normal.ensures.defined

pub returns-in_err-look_at-clause-wide : goal.returns-in_err-look_at-clause-wide
returns-in_err-look_at-clause-wide c =
    handed Normal (Unit {0}) (IsWideComparison c.args.x.now c.args.y.now) (IsWideNormal c.in_ok-normal.normal) (λ n w. record { normal = c.in_ok-normal.normal; is = comparison_of c.args.x.now c.args.y.now c.requires.x.constant c.requires.y.constant c.as_slice.result.now c.as_slice-2.result.now c.as_slice-3.result.now c.in_ok-form.form c.as_slice.ensures c.as_slice-2.ensures c.as_slice-3.ensures c.in_ok-form.ensures c.in_ok-normal.normal c.in_ok-normal.ensures.defined; wide = w })
    c.from_residual-in_err-look_at.result c.in_err-look_at.field-0.0 c.from_residual-in_err-look_at.ensures.1 c.in_err-look_at.ensures.wide
