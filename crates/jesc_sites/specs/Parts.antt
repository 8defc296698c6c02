-- The parts that rules speak of: where an expression is refused, and how a typed one is made.
use Rattle.std.specs.Prelude.{ℕ, List, Err, codes, if◌then◌else◌}
use Rattle.jesc_text.specs.declared.place.Span.{Span}
use Rattle.jesc_ast.specs.Expressions.{span_of}
use Rattle.jesc_ast.specs.Lines.{place_at}
use Rattle.jesc_ast.specs.Trees as ast
use Rattle.jesc_classes.specs.Answers.{Checked, refusal}
use Rattle.jesc_classes.specs.declared.rule.Rule.{Rule}
use Rattle.jesc_tree.specs.declared.ty.Ty.{Ty}
use Rattle.jesc_tree.specs.declared.expr.TExpr.{TExpr}
use Rattle.jesc_tree.specs.declared.expr.TNode.{TNode}
use Rattle.jesc_tree.specs.Trees.{Expression, Form, expression}

-- ---- refusals

-- the text of an expression's first token
abbrev mutual
  pub first_word : ast.Expression → List ℕ
  first_word (ast.number s x) = x
  first_word (ast.truth s b) = if b then codes "true" else codes "false"
  first_word (ast.null s) = codes "null"
  first_word (ast.this s) = codes "this"
  first_word (ast.outcome s) = codes "\\result"
  first_word (ast.name s x) = x
  first_word (ast.paren s e) = codes "("
  first_word (ast.member s e dot w) = first_word e
  first_word (ast.index s e bracket i) = first_word e
  first_word (ast.unary s op e) = op.text
  first_word (ast.binary s op a b) = first_word a
  first_word (ast.choose s c question a b) = first_word c
  first_word (ast.cast s t e) = codes "("
  first_word (ast.instance_of s e t) = first_word e
  first_word (ast.call s r w es) = first_word_of r w.text
  first_word (ast.new_object s w es) = codes "new"
  first_word (ast.new_array s w e) = codes "new"
  first_word (ast.old s e) = codes "\\old"
  first_word (ast.fresh s e) = codes "\\fresh"
  first_word (ast.quantifier s all w low low_strict high high_strict e) = codes "("

  -- of a receiver, or of what is called where nothing stands before it
  pub first_word_of : ast.Receiver → List ℕ → List ℕ
  first_word_of ast.implied called = called
  first_word_of ast.super called = codes "super"
  first_word_of (ast.on e dot) called = first_word e

abbrev pub refused_at : {A : Type 0} → Rule → List ℕ → Span → List ℕ → Checked A
refused_at number lines span text = Err (refusal number (place_at lines span) text)

-- the rule is broken by this expression
abbrev pub refused_in : {A : Type 0} → Rule → List ℕ → ast.Expression → Checked A
refused_in number lines e = refused_at number lines (span_of e) (first_word e)

-- ---- typed expressions

abbrev pub type_of : Expression → Ty
type_of (expression start at dot t form) = t

-- an expression of that span, whose checks stand at its first token
abbrev pub plain : List ℕ → Span → Ty → Form → Expression
plain lines span t form = expression (place_at lines span) (place_at lines span) (place_at lines span) t form

-- an expression of that span, whose checks stand at another token
abbrev pub checked_at : List ℕ → Span → Span → Ty → Form → Expression
checked_at lines span at t form = expression (place_at lines span) (place_at lines at) (place_at lines at) t form

-- the same expression with parentheses around it, of which the first is this span's
abbrev pub enclosed : List ℕ → Span → Expression → Expression
enclosed lines span (expression start at dot t form) = expression (place_at lines span) at dot t form

-- the program's tree of that form
abbrev pub made : List ℕ → Span → Span → Ty → TNode → TExpr
made lines span at t node = record { start = place_at lines span; at = place_at lines at; dot = place_at lines at; ty = t; node = node }
