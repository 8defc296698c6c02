use Rattle.jesc_lexer.proofs.LongestWalks.{longest_of_file}
use Rattle.jesc_lexer.proofs.laws.longest_match.Goals as goal

pub returns : goal.returns
returns c = λ file bytes tokens before after token lexed whole. longest_of_file file bytes tokens before after token lexed whole
