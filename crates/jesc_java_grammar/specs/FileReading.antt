-- The parser of files as a function on lists of lexemes. Each step is decided by the next lexeme alone.
use Rattle.std.specs.Prelude.{ℕ, max, Bool, true, false, ◌||◌, if◌then◌else◌, Option, Some, None, List, [], ◌∷◌, ◌++◌, codes}
use Rattle.jesc_text.specs.declared.place.Span.{Span}
use Rattle.jesc_ast.specs.declared.word.Word.{Word}
use Rattle.jesc_ast.specs.declared.word.TypeTree.{TypeTree}
use Rattle.jesc_ast.specs.declared.class.ParamTree.{ParamTree}
use Rattle.jesc_ast.specs.Lexemes.{Lexeme, join}
use Rattle.jesc_ast.specs.Trees.{Statement, Body}
use Rattle.jesc_ast.specs.SpecTrees.{Specification}
use Rattle.jesc_ast.specs.FileTrees.{MemberForm, no_member, field, method, constructor_member, Member, member_of, Class, class_of, SourceUnit, unit_of}
use Rattle.jesc_ast.specs.Statements.{body_end}
use Rattle.jesc_ast.specs.Members.{param_tree}
use Rattle.jesc_jml_grammar.specs.declared.mark.Mark.TheVariants as m
use Rattle.jesc_jml_grammar.specs.declared.note_word.NoteWord.{NoteWord}
use Rattle.jesc_jml_grammar.specs.declared.note_word.NoteWord.TheVariants as w
use Rattle.jesc_jml_grammar.specs.Steps.{Parser, ◌>>=◌, ◌>>◌, pure, refuse, same_mark, peek, expect}
use Rattle.jesc_jml_grammar.specs.Reading.{Parsed, Start, at_first, word_of, type_, type_behind, expr}
use Rattle.jesc_jml_grammar.specs.ClauseMarks.{peek_word, expect_word, peek_span, is_heading_word}
use Rattle.jesc_jml_grammar.specs.ClauseLists.{until, separated}
use Rattle.jesc_jml_grammar.specs.ClauseReading as clauses
use Rattle.jesc_jml_grammar.specs.ClauseReading.{Sized, Ended, sized, ended, no_items, with_more, with_word, Value, no_value, value_of}
use Rattle.jesc_java_grammar.specs.declared.member_mark.MemberMark.{MemberMark}
use Rattle.jesc_java_grammar.specs.declared.statement_mark.Slot.{Slot}
use Rattle.jesc_java_grammar.specs.declared.member_mark.MemberMark.TheVariants as s
use Rattle.jesc_java_grammar.specs.Lexing.{is_word, is_sign, next_is, see_if, take_if}
use Rattle.jesc_java_grammar.specs.FileMarks.{peek_member, is_modifier, is_param_modifier, at_modifier, at_code, before_brace, before_end}
use Rattle.jesc_java_grammar.specs.StatementReading as statements

-- ---- trees of their parts

abbrev pub no_spec : Sized (Option Specification)
no_spec = sized None 0

abbrev pub some_spec : Sized Specification → Sized (Option Specification)
some_spec t = sized (Some t.tree) t.depth

-- a specification stands before
abbrev pub is_specified : Option Specification → Bool
is_specified None = false
is_specified (Some t) = true

abbrev pub with_param : List ParamTree → ParamTree → List ParamTree
with_param params param = params ++ param ∷ []

abbrev pub some_body : Sized Body → Ended (Option Body)
some_body b = record { tree = Some b.tree; depth = b.depth; last = body_end b.tree }

-- the parameters of a method or constructor, and what it throws
pub record Signature : Type 0 where
  pub params : List ParamTree
  pub throws : List Word

abbrev pub field_of : List Word → TypeTree → Lexeme → Value → Ended (List Word) → Ended MemberForm
field_of ws t x v groups = record { tree = field ws t (word_of x) v.equals v.e groups.tree; depth = v.depth; last = groups.last }

abbrev pub method_of : Sized (Option Specification) → List Word → Option TypeTree → Lexeme → Signature → Ended (Option Body) → Ended MemberForm
method_of spec ws result x signature b = record {
  tree = method spec.tree ws result (word_of x) signature.params signature.throws b.tree;
  depth = max spec.depth b.depth;
  last = b.last;
}

abbrev pub constructor_of : Sized (Option Specification) → List Word → Lexeme → Signature → Sized Body → Ended MemberForm
constructor_of spec ws x signature b = record {
  tree = constructor_member spec.tree ws (word_of x) signature.params signature.throws b.tree;
  depth = max spec.depth b.depth;
  last = body_end b.tree;
}

-- the member whose first lexeme has this span
abbrev pub spanned : Span → Ended MemberForm → Sized Member
spanned first f = sized (member_of (join first f.last) f.tree) f.depth

-- the names behind the class's own, and whether it is an interface
pub record Heading : Type 0 where
  pub is_interface : Bool
  pub name : Lexeme
  pub extends : List Word
  pub implements : List Word

abbrev pub class_tree : Span → List Word → Heading → Sized (List Member) → Lexeme → Sized Class
class_tree first ws heading ms q =
    sized (class_of (join first q.span) ws heading.is_interface (word_of heading.name) heading.extends heading.implements ms.tree) ms.depth

-- ---- the grammar

-- `limit` bounds the turns of each list, `room` says how many nodes an expression or a statement that stands in a
-- member may have from its root to a leaf, and `quantifiers` how many may nest. The inner parser takes the side, the
-- room, the quantifiers, the least strength and the start.
module _ (limit room : ℕ) (expression : Bool → ℕ → ℕ → ℕ → Start → Parser Parsed) (quantifiers : ℕ) where
  abbrev pub statement_inside : Slot → Parser (Sized Statement)
  statement_inside = statements.statement limit expression quantifiers room

  -- ---- names and modifiers

  unfoldable pub names : Parser (List Word)
  names = separated (at_code m.Comma) (expect false m.Comma) (expect false m.Name) with_word limit []

  -- names behind this word, or none
  unfoldable pub names_after : List ℕ → Parser (List Word)
  names_after text = do
    there ← see_if (is_word text false)
    if there then take_if (is_word text false) >> names else pure []

  unfoldable pub override : Parser Lexeme
  override = do
    take_if (is_sign (codes "@") false)
    take_if (is_word (codes "Override") false)

  abbrev pub modifier_by : MemberMark → Parser Lexeme
  modifier_by s.At = override
  modifier_by _ = take_if is_modifier

  unfoldable pub modifier : Parser Lexeme
  modifier = peek_member >>= modifier_by

  -- behind these
  unfoldable pub modifiers : List Word → Parser (List Word)
  modifiers ws = until at_modifier modifier with_word limit ws

  -- ---- parameters

  unfoldable pub param_modifiers : Parser (List Word)
  param_modifiers = until (next_is is_param_modifier) (take_if is_param_modifier) with_word limit []

  unfoldable pub param : Parser ParamTree
  param = do
    ws ← param_modifiers
    t ← type_ false limit room (expression false room) quantifiers
    x ← expect false m.Name
    pure (param_tree ws t (word_of x))

  unfoldable pub some_params : Parser (List ParamTree)
  some_params = separated (at_code m.Comma) (expect false m.Comma) param with_param limit []

  unfoldable pub optional_params : Parser (List ParamTree)
  optional_params = do
    mark ← peek false
    if same_mark mark m.RightParen then pure [] else some_params

  unfoldable pub params : Parser (List ParamTree)
  params = do
    expect false m.LeftParen
    found ← optional_params
    expect false m.RightParen
    pure found

  unfoldable pub signature : Parser Signature
  signature = do
    found ← params
    throws ← names_after (codes "throws")
    pure (record { params = found; throws = throws })

  -- ---- methods and constructors

  unfoldable pub no_body : Parser (Ended (Option Body))
  no_body = do
    p ← expect false m.Semicolon
    pure (ended None 0 p)

  unfoldable pub braced_body : Parser (Ended (Option Body))
  braced_body = do
    b ← statements.braced limit room expression quantifiers statement_inside
    pure (some_body b)

  unfoldable pub method_body : Parser (Ended (Option Body))
  method_body = do
    mark ← peek false
    if same_mark mark m.Semicolon then no_body else braced_body

  -- behind the name of a method
  unfoldable pub method_behind : Sized (Option Specification) → List Word → Option TypeTree → Lexeme → Parser (Ended MemberForm)
  method_behind spec ws result x = do
    found ← signature
    b ← method_body
    pure (method_of spec ws result x found b)

  -- behind the name of a constructor
  unfoldable pub constructor_behind : Sized (Option Specification) → List Word → Lexeme → Parser (Ended MemberForm)
  constructor_behind spec ws x = do
    found ← signature
    b ← statements.constructor_body limit room expression quantifiers statement_inside
    pure (constructor_of spec ws x found b)

  unfoldable pub void_method : Sized (Option Specification) → List Word → Parser (Ended MemberForm)
  void_method spec ws = do
    take_if (is_word (codes "void") false)
    x ← expect false m.Name
    method_behind spec ws None x

  -- ---- fields

  unfoldable pub some_value : Parser Value
  some_value = do
    equals ← take_if (is_sign (codes "=") false)
    e ← expression false room quantifiers 1 at_first
    pure (value_of equals e)

  unfoldable pub value : Parser Value
  value = do
    there ← see_if (is_sign (codes "=") false)
    if there then some_value else pure no_value

  -- behind the name of a field
  unfoldable pub field_behind : List Word → TypeTree → Lexeme → Parser (Ended MemberForm)
  field_behind ws t x = do
    v ← value
    q ← expect false m.Semicolon
    groups ← clauses.groups limit room (expression true room) quantifiers q
    pure (field_of ws t x v groups)

  -- ---- members of Java

  -- behind the type; what is specified is a method
  unfoldable pub typed_form : Sized (Option Specification) → List Word → TypeTree → Parser (Ended MemberForm)
  typed_form spec ws t = do
    x ← expect false m.Name
    mark ← peek false
    if same_mark mark m.LeftParen || is_specified spec.tree then method_behind spec ws (Some t) x else field_behind ws t x

  -- a constructor, or what begins with a type that is a name
  unfoldable pub named_type : Sized (Option Specification) → List Word → Lexeme → Parser (Ended MemberForm)
  named_type spec ws x = do
    t ← type_behind false limit room (expression false room) quantifiers x
    typed_form spec ws t

  unfoldable pub named_form : Sized (Option Specification) → List Word → Parser (Ended MemberForm)
  named_form spec ws = do
    x ← expect false m.Name
    mark ← peek false
    if same_mark mark m.LeftParen then constructor_behind spec ws x else named_type spec ws x

  unfoldable pub other_type : Sized (Option Specification) → List Word → Parser (Ended MemberForm)
  other_type spec ws = do
    t ← type_ false limit room (expression false room) quantifiers
    typed_form spec ws t

  unfoldable pub plain_form : Sized (Option Specification) → List Word → Parser (Ended MemberForm)
  plain_form spec ws = do
    mark ← peek false
    if same_mark mark m.Name then named_form spec ws else other_type spec ws

  abbrev pub java_by : Sized (Option Specification) → List Word → MemberMark → Parser (Ended MemberForm)
  java_by spec ws s.Void = void_method spec ws
  java_by spec ws _ = plain_form spec ws

  -- behind a specification, which may be missing, and these modifiers
  unfoldable pub java_form : Sized (Option Specification) → List Word → Parser (Ended MemberForm)
  java_form spec ws = do
    all ← modifiers ws
    mark ← peek_member
    java_by spec all mark

  -- ---- members

  unfoldable pub specified_form : Parser (Ended MemberForm)
  specified_form = do
    t ← clauses.specification limit room (expression true room) quantifiers
    java_form (some_spec t) []

  -- behind the visibility that the specification begins with
  unfoldable pub specified_behind : Lexeme → Parser (Ended MemberForm)
  specified_behind visibility = do
    t ← clauses.specification_behind limit room (expression true room) quantifiers visibility
    java_form (some_spec t) []

  -- an invariant, a represents clause or a specification field, behind these modifiers
  abbrev pub note_form : List Word → Parser (Ended MemberForm)
  note_form ws = clauses.form_behind limit room (expression true room) quantifiers ws

  abbrev pub noted_by : List Word → NoteWord → Parser (Ended MemberForm)
  noted_by ws w.Invariant = note_form ws
  noted_by ws w.Represents = note_form ws
  noted_by ws w.Field = note_form ws
  noted_by ws _ = java_form no_spec ws

  -- behind modifiers of an annotation, of which more may come
  unfoldable pub noted_form : List Word → Parser (Ended MemberForm)
  noted_form ws = do
    all ← clauses.modifiers limit room (expression true room) quantifiers ws
    word ← peek_word
    noted_by all word

  unfoldable pub visible_form : Parser (Ended MemberForm)
  visible_form = do
    v ← expect_word w.Visibility
    word ← peek_word
    if is_heading_word word then specified_behind v else noted_form (with_word [] v)

  unfoldable pub empty_form : Parser (Ended MemberForm)
  empty_form = do
    p ← expect false m.Semicolon
    pure (ended no_member 0 p)

  unfoldable pub code_form : Parser (Ended MemberForm)
  code_form = do
    mark ← peek false
    if same_mark mark m.Semicolon then empty_form else java_form no_spec []

  abbrev pub form_by : NoteWord → Parser (Ended MemberForm)
  form_by w.Visibility = visible_form
  form_by w.Instance = noted_form []
  form_by w.Modifier = noted_form []
  form_by w.Invariant = noted_form []
  form_by w.Represents = noted_form []
  form_by w.Field = noted_form []
  form_by w.Also = specified_form
  form_by w.Behavior = specified_form
  form_by w.NormalBehavior = specified_form
  form_by w.ExceptionalBehavior = specified_form
  form_by w.Requires = specified_form
  form_by w.Ensures = specified_form
  form_by w.Assignable = specified_form
  form_by w.Signals = specified_form
  form_by w.SignalsOnly = specified_form
  form_by _ = code_form

  unfoldable pub form : Parser (Ended MemberForm)
  form = peek_word >>= form_by

  unfoldable pub member : Parser (Sized Member)
  member = do
    first ← peek_span
    f ← form
    pure (spanned first f)

  unfoldable pub members : Parser (Sized (List Member))
  members = until before_brace member with_more limit no_items

  -- ---- classes

  -- the class that it extends, or none
  unfoldable pub superclass : Parser (List Word)
  superclass = do
    there ← see_if (is_word (codes "extends") false)
    if there then take_if (is_word (codes "extends") false) >> (expect false m.Name >>= λ x. pure (with_word [] x)) else pure []

  unfoldable pub class_heading : Parser Heading
  class_heading = do
    take_if (is_word (codes "class") false)
    x ← expect false m.Name
    extends ← superclass
    implements ← names_after (codes "implements")
    pure (record { is_interface = false; name = x; extends = extends; implements = implements })

  unfoldable pub interface_heading : Parser Heading
  interface_heading = do
    take_if (is_word (codes "interface") false)
    x ← expect false m.Name
    extends ← names_after (codes "extends")
    pure (record { is_interface = true; name = x; extends = extends; implements = [] })

  abbrev pub heading_by : MemberMark → Parser Heading
  heading_by s.Class = class_heading
  heading_by s.Interface = interface_heading
  heading_by _ = refuse

  unfoldable pub heading : Parser Heading
  heading = peek_member >>= heading_by

  -- behind the heading, with the span of the first lexeme
  unfoldable pub class_rest : Span → List Word → Heading → Parser (Sized Class)
  class_rest first ws found = do
    take_if (is_sign (codes "{") false)
    ms ← members
    q ← take_if (is_sign (codes "}") false)
    pure (class_tree first ws found ms q)

  unfoldable pub class_ : Parser (Sized Class)
  class_ = do
    first ← peek_span
    ws ← modifiers []
    found ← heading
    class_rest first ws found

  unfoldable pub classes : Parser (Sized (List Class))
  classes = until before_end class_ with_more limit no_items

  -- ---- files

  unfoldable pub dotted : Parser (List Word)
  dotted = separated (at_code m.Dot) (expect false m.Dot) (expect false m.Name) with_word limit []

  unfoldable pub some_package : Parser (List Word)
  some_package = do
    take_if (is_word (codes "package") false)
    found ← dotted
    expect false m.Semicolon
    pure found

  unfoldable pub package_line : Parser (List Word)
  package_line = do
    there ← see_if (is_word (codes "package") false)
    if there then some_package else pure []

  -- all lexemes
  unfoldable pub file : Parser (Sized SourceUnit)
  file = do
    found ← package_line
    cs ← classes
    pure (sized (unit_of found cs.tree) cs.depth)

-- the parser of expressions, which takes the side and the room
abbrev pub expression_of : ℕ → Bool → ℕ → ℕ → ℕ → Start → Parser Parsed
expression_of limit note room = expr note limit room

-- a file whose members have so much room, and so many quantifiers that nest
unfoldable pub whole_file : ℕ → ℕ → ℕ → Parser (Sized SourceUnit)
whole_file limit room quantifiers = file limit room (expression_of limit) quantifiers
