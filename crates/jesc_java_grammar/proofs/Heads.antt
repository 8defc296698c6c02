-- What the next lexeme is to the grammar, told by the lexeme itself.
use Rattle.std.proofs.Common.{◌≡◌, Some, List, [], ◌∷◌, refl}
use Rattle.jesc_ast.specs.Lexemes.{Lexeme}
use Rattle.jesc_jml_grammar.specs.Steps.{head}
use Rattle.jesc_java_grammar.specs.StatementMarks.{statement_mark_at, statement_mark}
use Rattle.jesc_java_grammar.specs.FileMarks.{member_mark_at, member_mark}

pub statement_mark-some : (ts : List Lexeme) (x : Lexeme) → Some x ≡ head ts → statement_mark x ≡ statement_mark_at ts
unfolding statement_mark_at
statement_mark-some [] x e = absurd cc
statement_mark-some (y ∷ ts) x e = let same : x ≡ y = cc in rw same refl

pub member_mark-some : (ts : List Lexeme) (x : Lexeme) → Some x ≡ head ts → member_mark x ≡ member_mark_at ts
unfolding member_mark_at
member_mark-some [] x e = absurd cc
member_mark-some (y ∷ ts) x e = let same : x ≡ y = cc in rw same refl
