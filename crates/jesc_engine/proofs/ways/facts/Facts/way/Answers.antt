use Rattle.std.proofs.Common.{◌≡◌, ◌∷◌, [], ◌++◌, List, ap, subst, ◌∙◌}
use Rattle.jesc_linear.specs.declared.rows.Row.{Row}
use Rattle.jesc_engine.specs.Outcomes.{Answers}
use Rattle.jesc_engine.specs.Ways.{Facts}
use Rattle.jesc_engine.proofs.ways.facts.Facts.way.Goals as goal

pub returns : goal.returns
returns c =
    let same : c.self.inside.rows ≡ c.args.self.now.rows = ap (λ (f : Facts). f.rows) c.self.view_is in
    let view : List Row → Facts = λ rows. record { rows = rows; fresh = c.self.inside.fresh } in (
      ap view c.answer_with.ensures.same ∙ c.self.view_is,
      subst (λ (rows : List Row). Answers ((rows ++ c.args.row ∷ []) ∷ []) c.in_ok-answer.answer) same c.in_ok-answer.ensures.answer,
    )
