use Rattle.jesc_lexer.proofs.ElementWalks.{elements_of_file}
use Rattle.jesc_lexer.proofs.laws.input_elements.Goals as goal

pub returns : goal.returns
returns c = λ file bytes tokens lexed. elements_of_file file bytes tokens lexed
