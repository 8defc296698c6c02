-- What the parser refuses is no file.
use Rattle.std.proofs.Common.{◌≡◌, List, None}
use Rattle.jesc_ast.specs.Lexemes.{Lexeme}
use Rattle.jesc_first.specs.declared.tree.Class.{Class}
use Rattle.jesc_first.specs.Accepted.{Accepted}
use Rattle.jesc_first.specs.Parsing.{Texts, parsed}
use Rattle.jesc_first.proofs.CompleteClass.{parsed_complete}

pub no_file : (names : Texts) (lexemes : List Lexeme) → parsed names lexemes ≡ None → (classes : List Class) → ¬ (Accepted names lexemes classes)
no_file names lexemes none classes accepted =
    let read = parsed_complete names lexemes classes accepted in
    cc
