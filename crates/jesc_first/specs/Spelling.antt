-- The grammar of the first profile, as the text of trees: classes are spelled by the pieces below, one a lexeme.
use Rattle.std.specs.Prelude.{◌≡◌, ℕ, Bool, true, false, List, [], ◌∷◌, ◌++◌, codes, Option, Some, None, IfSome, unwrap_or, slice_get}
use Rattle.std.specs.Fmt.{decimal}
use Rattle.jesc_lexer.specs.declared.token.TokenKind.{TokenKind}
use Rattle.jesc_lexer.specs.declared.token.TokenKind.TheVariants.{Word, Backslash, Number as Digits, Sign}
use Rattle.jesc_ast.specs.Lexemes.{Lexeme}
use Rattle.jesc_first.specs.declared.tree.Operator.{Operator}
use Rattle.jesc_first.specs.declared.tree.Operator.TheVariants.{Plus, Minus}
use Rattle.jesc_first.specs.declared.tree.Comparison.{Comparison}
use Rattle.jesc_first.specs.declared.tree.Comparison.TheVariants.{Less, AtMost, Greater, AtLeast, Equal}
use Rattle.jesc_first.specs.declared.tree.Part.{Part}
use Rattle.jesc_first.specs.declared.tree.Part.TheVariants.{Number, Slot, Outcome}
use Rattle.jesc_first.specs.declared.tree.Operation.{Operation}
use Rattle.jesc_first.specs.declared.tree.Sum.{Sum}
use Rattle.jesc_first.specs.declared.tree.Condition.{Condition}
use Rattle.jesc_first.specs.declared.tree.Clause.{Clause}
use Rattle.jesc_first.specs.declared.tree.Stmt.{Stmt}
use Rattle.jesc_first.specs.declared.tree.Stmt.TheVariants.{Local, Assign, Assert}
use Rattle.jesc_first.specs.declared.tree.Method.{Method}
use Rattle.jesc_first.specs.declared.tree.Class.{Class}

-- What a lexeme has to be: its kind and text, whether it stands in an annotation, and its offset, where the tree keeps it.
pub record Piece : Type 0 where
  pub kind : TokenKind
  pub text : List ℕ
  pub note : Bool
  pub at : Option ℕ

pub record Fits (lexeme : Lexeme) (piece : Piece) : Type 0 where
  pub kind : lexeme.kind ≡ piece.kind
  pub text : lexeme.text ≡ piece.text
  pub note : lexeme.note ≡ piece.note
  pub at : IfSome piece.at (λ at. lexeme.span.from ≡ at)

-- the lexemes fit the pieces one by one
abbrev pub Match : List Lexeme → List Piece → Type 0
Match [] [] = Unit {0}
Match [] (piece ∷ pieces) = ⊥
Match (lexeme ∷ lexemes) [] = ⊥
Match (lexeme ∷ lexemes) (piece ∷ pieces) = Fits lexeme piece × Match lexemes pieces

abbrev pub word : Bool → List ℕ → Piece
word note text = record { kind = Word; text = text; note = note; at = None }

abbrev pub word_at : Bool → List ℕ → ℕ → Piece
word_at note text at = record { kind = Word; text = text; note = note; at = Some at }

abbrev pub sign : Bool → List ℕ → Piece
sign note text = record { kind = Sign; text = text; note = note; at = None }

abbrev pub sign_at : Bool → List ℕ → ℕ → Piece
sign_at note text at = record { kind = Sign; text = text; note = note; at = Some at }

-- A scope is the names of the slots, in order.
abbrev pub part_piece : Bool → List (List ℕ) → Part → Piece
part_piece note scope (Number n) = record { kind = Digits; text = decimal n; note = note; at = None }
part_piece note scope (Slot slot) = word note (unwrap_or (slice_get scope slot) [])
part_piece note scope Outcome = record { kind = Backslash; text = codes "\\result"; note = note; at = None }

abbrev pub operator_text : Operator → List ℕ
operator_text Plus = codes "+"
operator_text Minus = codes "-"

abbrev pub operation_pieces : Bool → List (List ℕ) → List Operation → List Piece
operation_pieces note scope [] = []
operation_pieces note scope (operation ∷ rest) =
    sign_at note (operator_text operation.operator) operation.at ∷ part_piece note scope operation.part ∷ operation_pieces note scope rest

abbrev pub sum_pieces : Bool → List (List ℕ) → Sum → List Piece
sum_pieces note scope sum = part_piece note scope sum.first ∷ operation_pieces note scope sum.rest

abbrev pub comparison_text : Comparison → List ℕ
comparison_text Less = codes "<"
comparison_text AtMost = codes "<="
comparison_text Greater = codes ">"
comparison_text AtLeast = codes ">="
comparison_text Equal = codes "=="

abbrev pub condition_pieces : List (List ℕ) → Condition → List Piece
condition_pieces scope condition =
    sum_pieces true scope condition.left ++ (sign true (comparison_text condition.comparison) ∷ sum_pieces true scope condition.right)

-- requires CONDITION ;
abbrev pub requires_pieces : List (List ℕ) → List Condition → List Piece
requires_pieces scope [] = []
requires_pieces scope (condition ∷ rest) =
    word true (codes "requires") ∷ (condition_pieces scope condition ++ (sign true (codes ";") ∷ requires_pieces scope rest))

-- the pieces, of which the first stands here
abbrev pub placed : ℕ → List Piece → List Piece
placed at [] = []
placed at (piece ∷ pieces) = record piece { at = Some at } ∷ pieces

-- ensures CONDITION ;
abbrev pub ensures_pieces : List (List ℕ) → List Clause → List Piece
ensures_pieces scope [] = []
ensures_pieces scope (clause ∷ rest) =
    word true (codes "ensures") ∷ (placed clause.at (condition_pieces scope clause.condition) ++ (sign true (codes ";") ∷ ensures_pieces scope rest))

-- int NAME , int NAME ..
abbrev pub parameter_pieces : List (List ℕ) → List Piece
parameter_pieces [] = []
parameter_pieces (name ∷ []) = word false (codes "int") ∷ word false name ∷ []
parameter_pieces (name ∷ more ∷ rest) =
    word false (codes "int") ∷ word false name ∷ sign false (codes ",") ∷ parameter_pieces (more ∷ rest)

-- the names in scope after a statement
abbrev pub scope_after : List (List ℕ) → Stmt → List (List ℕ)
scope_after scope (Local name value) = scope ++ name ∷ []
scope_after scope (Assign slot value) = scope
scope_after scope (Assert at condition) = scope

-- int NAME = SUM ;  or  NAME = SUM ;  or, in an annotation,  assert CONDITION ;
abbrev pub statement_pieces : List (List ℕ) → Stmt → List Piece
statement_pieces scope (Local name value) =
    word false (codes "int") ∷ word false name ∷ sign false (codes "=") ∷ (sum_pieces false scope value ++ sign false (codes ";") ∷ [])
statement_pieces scope (Assign slot value) =
    word false (unwrap_or (slice_get scope slot) []) ∷ sign false (codes "=") ∷ (sum_pieces false scope value ++ sign false (codes ";") ∷ [])
statement_pieces scope (Assert at condition) =
    word_at true (codes "assert") at ∷ (condition_pieces scope condition ++ sign true (codes ";") ∷ [])

abbrev pub body_pieces : List (List ℕ) → List Stmt → List Piece
body_pieces scope [] = []
body_pieces scope (statement ∷ rest) = statement_pieces scope statement ++ body_pieces (scope_after scope statement) rest

abbrev pub scope_at_end : List (List ℕ) → List Stmt → List (List ℕ)
scope_at_end scope [] = scope
scope_at_end scope (statement ∷ rest) = scope_at_end (scope_after scope statement) rest

-- return SUM ; }  at the end of a method with a value, and else }
abbrev pub end_pieces : List (List ℕ) → ℕ → Option Sum → List Piece
end_pieces scope exit (Some value) =
    word_at false (codes "return") exit ∷ (sum_pieces false scope value ++ sign false (codes ";") ∷ sign false (codes "}") ∷ [])
end_pieces scope exit None = sign_at false (codes "}") exit ∷ []

abbrev pub result_text : Option Sum → List ℕ
result_text (Some value) = codes "int"
result_text None = codes "void"

-- static RESULT NAME ( PARAMETERS )
abbrev pub heading_pieces : List ℕ → List ℕ → List (List ℕ) → List Piece
heading_pieces result name parameters =
    (word false (codes "static") ∷ word false result ∷ word false name ∷ sign false (codes "(") ∷ [])
    ++ parameter_pieces parameters
    ++ sign false (codes ")") ∷ []

abbrev pub method_pieces : Method → List Piece
method_pieces method =
    requires_pieces method.parameters method.demands
    ++ ensures_pieces method.parameters method.promises
    ++ heading_pieces (result_text method.value) method.name method.parameters
    ++ (sign false (codes "{") ∷ body_pieces method.parameters method.body)
    ++ end_pieces (scope_at_end method.parameters method.body) method.exit method.value

abbrev pub methods_pieces : List Method → List Piece
methods_pieces [] = []
methods_pieces (method ∷ rest) = method_pieces method ++ methods_pieces rest

-- class NAME { METHOD .. }
abbrev pub class_pieces : Class → List Piece
class_pieces class =
    word false (codes "class") ∷ word false class.name ∷ sign false (codes "{") ∷ (methods_pieces class.methods ++ sign false (codes "}") ∷ [])

-- the classes of a file, in order
abbrev pub classes_pieces : List Class → List Piece
classes_pieces [] = []
classes_pieces (class ∷ rest) = class_pieces class ++ classes_pieces rest
