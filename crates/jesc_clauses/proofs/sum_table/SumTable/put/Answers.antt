use Rattle.std.proofs.Common.{◌++◌, [], ◌∷◌, ◌∙◌, subst, ap}
use Rattle.jesc_clauses.specs.Readers.{Entries, HasSum}
use Rattle.jesc_clauses.proofs.Tables.{put_last}
use Rattle.jesc_clauses.proofs.sum_table.SumTable.put.Goals as goal

pub returns-in-Ok : goal.returns-in-Ok
returns-in-Ok c =
    c.in-Ok.ensures.entries ∙ (put_last c.self.inside.sums.entries c.args.id c.args.lin (λ has. c.requires (subst (λ (es : Entries). HasSum es c.args.id) c.self.view_is has))
    ∙ ap (λ (es : Entries). es ++ (c.args.id, c.args.lin) ∷ []) c.self.view_is)
