use Rattle.jesc_java_parser.proofs.WholeFile.{file_unique}
use Rattle.jesc_java_parser.proofs.parse.one_file.Goals as goal

pub returns : goal.returns
returns c = file_unique
