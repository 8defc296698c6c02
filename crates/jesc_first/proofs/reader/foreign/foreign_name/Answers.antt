use Rattle.std.proofs.Common.{List, ◌∙◌, ap, subst}
use Rattle.jesc_ast.specs.Lexemes.{Lexeme}
use Rattle.jesc_first.specs.Parsing.{behind_notes}
use Rattle.jesc_first.specs.Fronts.{HasHeading}
use Rattle.jesc_first.specs.Seen.{seen}
use Rattle.jesc_first.proofs.Foreign.{foreign_found}
use Rattle.jesc_first.proofs.reader.foreign.foreign_name.Goals as goal

pub returns-in-Ok : goal.returns-in-Ok
returns-in-Ok c =
    foreign_found (seen c.args.cursor.now) c.in-Ok.names c.strange_name.result
    (subst (λ (ts : List Lexeme). HasHeading ts c.in-Ok.names) (c.skip_notes.ensures ∙ ap behind_notes c.again-heading.ensures) c.in-Ok.ensures)
    c.strange_name.ensures
