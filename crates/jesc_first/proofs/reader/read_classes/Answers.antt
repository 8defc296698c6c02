use Rattle.std.proofs.Common.{◌≡◌, List, Some, subst, arith}
use Rattle.jesc_ast.specs.Lexemes.{Lexeme, lexemes}
use Rattle.jesc_first.specs.Parsing.{parsed}
use Rattle.jesc_first.proofs.Spanned.{are_within, are_few}
use Rattle.jesc_first.proofs.SoundClass.{parsed_sound}
use Rattle.jesc_first.proofs.reader.read_classes.Goals as goal

pub cursor_of-cursor-requires : goal.cursor_of-cursor-requires
cursor_of-cursor-requires c = are_within _ _ c.requires.spans

pub refusal-requires-clause-within : goal.refusal-requires-clause-within
refusal-requires-clause-within c = are_within _ _ c.requires.spans

pub refusal-requires-clause-few : goal.refusal-requires-clause-few
refusal-requires-clause-few c = omega (arith, are_few _ _ c.requires.spans, c.requires.short)

pub returns-in-Ok-clause-accepted : goal.returns-in-Ok-clause-accepted
returns-in-Ok-clause-accepted c =
    parsed_sound c.args.names.now (lexemes c.args.tokens.now) c.in-Ok.classes c.read_file.new.names
    (subst (λ (ls : List Lexeme). parsed c.args.names.now ls ≡ Some (c.in-Ok.classes, c.read_file.new.names)) c.cursor_of-cursor.ensures c.in-Ok.ensures.reads)
