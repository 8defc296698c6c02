use Rattle.jesc_lexer.proofs.Unique.{one}
use Rattle.jesc_lexer.proofs.file.one_outcome.Goals as goal

pub returns : goal.returns
returns c = λ file bytes first second a b. one file bytes first second a b
