use Rattle.std.proofs.Common.{rules}
use Rattle.jesc_java_grammar.specs.FileReading.{override}
use Rattle.jesc_java_grammar.proofs.files.Files.override_.Goals as goal

pub returns-in_err-take_sign-clause-reads : goal.returns-in_err-take_sign-clause-reads
unfolding override
returns-in_err-take_sign-clause-reads c = search rules

pub returns-clause-reads : goal.returns-clause-reads
unfolding override
returns-clause-reads c = search rules
