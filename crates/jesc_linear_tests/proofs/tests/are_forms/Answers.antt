use Rattle.std.proofs.Common.{◌≡◌, take, rules, arith, subst}
use Rattle.std.specs.Prelude.{All}
use Rattle.std.proofs.lemmas.List.{take_all}
use Rattle.std.proofs.lemmas.List.Elements.{All-more}
use Rattle.jesc_linear.specs.declared.rows.Row.{Row}
use Rattle.jesc_linear.specs.Forms.{IsForm}
use Rattle.jesc_linear_tests.proofs.tests.are_forms.Goals as goal

abbrev HasForm : Row → Type 0
HasForm row = IsForm row.form

pub loop-row-preserved : goal.loop-row-preserved
loop-row-preserved c =
    let here : HasForm c.row-item.result = search rules in
    All-more HasForm c.args.rows.now c.loop-row.row-index c.row-item.result c.loop-row-test.true c.loop-row.invariant (subst HasForm c.row-item.is here)

pub returns : goal.returns
returns c = λ t.
    let whole : take c.loop-row.row-index c.args.rows.now ≡ c.args.rows.now = take_all c.loop-row.row-index c.args.rows.now (omega arith) in
    subst (All HasForm) whole c.loop-row.invariant
