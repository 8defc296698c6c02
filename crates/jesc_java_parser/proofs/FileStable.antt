-- A parser of files with more room answers the same.
use Rattle.std.proofs.Common.{◌≡◌, ℕ, ◌≤◌, Bool, true, false, Option, Some, None, List, []}
use Rattle.std.specs.Prelude.{◌||◌, codes}
use Rattle.jesc_text.specs.declared.place.Span.{Span}
use Rattle.jesc_ast.specs.declared.word.Word.{Word}
use Rattle.jesc_ast.specs.declared.word.TypeTree.{TypeTree}
use Rattle.jesc_ast.specs.Lexemes.{Lexeme}
use Rattle.jesc_ast.specs.SpecTrees.{Specification}
use Rattle.jesc_jml_grammar.specs.declared.mark.Mark.{Mark}
use Rattle.jesc_jml_grammar.specs.declared.mark.Mark.TheVariants as m
use Rattle.jesc_jml_grammar.specs.declared.note_word.NoteWord.{NoteWord}
use Rattle.jesc_jml_grammar.specs.declared.note_word.NoteWord.TheVariants as w
use Rattle.jesc_jml_grammar.specs.Steps.{Parser, same_mark, ◌>>=◌, pure, expect}
use Rattle.jesc_jml_grammar.specs.Reading.{Parsed, Start, at_first, type_, type_behind}
use Rattle.jesc_jml_grammar.specs.laws.Refining.{Refines, refines_pure, refines_refuse, refines_peek, refines_bind, refines_if, refines_expect}
use Rattle.jesc_jml_parser.specs.laws.Stable as stable
use Rattle.jesc_jml_grammar.specs.ClauseMarks.{is_heading_word}
use Rattle.jesc_jml_grammar.specs.ClauseFound.{Sized, no_items, with_more, with_word, no_value}
use Rattle.jesc_jml_grammar.specs.laws.ListRefining.{refines_until, refines_separated}
use Rattle.jesc_jml_parser.specs.laws.ClauseStable as clauses
use Rattle.jesc_jml_parser.specs.laws.ClauseStable.{refines_peek_word, refines_peek_span, refines_expect_word}
use Rattle.jesc_java_grammar.specs.declared.member_mark.MemberMark.{MemberMark}
use Rattle.jesc_java_grammar.specs.declared.member_mark.MemberMark.TheVariants as s
use Rattle.jesc_java_grammar.specs.declared.statement_mark.Slot.{Slot}
use Rattle.jesc_java_grammar.specs.Lexing.{is_word, is_sign, take_if}
use Rattle.jesc_java_grammar.specs.FileMarks.{peek_member, is_modifier, is_param_modifier}
use Rattle.jesc_java_grammar.specs.FileReading as spec
use Rattle.jesc_java_grammar.specs.FileReading.{no_spec, some_spec, is_specified, with_param, Heading}
use Rattle.jesc_java_parser.proofs.LexingStable.{by_next, by_brace, by_end, by_modifier, by_code, refines_see_if, refines_take_if, refines_peek_member}
use Rattle.jesc_java_parser.proofs.StatementStable as statements
use Rattle.jesc_java_parser.proofs.StatementStable.{Shuts}

module _ (same : Bool) (limit limit' : ℕ) (limits : limit ≤ limit') (room room' : ℕ) (rooms : room ≤ room') (same_rooms : same ≡ true → room ≡ room')
    (less more : Bool → ℕ → ℕ → ℕ → Start → Parser Parsed)
    (h : (note : Bool) (r r' : ℕ) → r ≤ r' → (same ≡ true → r ≡ r') → (n n' : ℕ) → n ≤ n' → (same ≡ true → n ≡ n') → (least : ℕ) (start : Start)
    → Refines same (less note r n least start) (more note r' n' least start))
    (shut : Shuts more) (k k' : ℕ) (ks : k ≤ k') (same_ks : same ≡ true → k ≡ k') where
  chain : {A B : Type 0} (p q : Parser A) (f g : A → Parser B) → Refines same p q → ((x : A) → Refines same (f x) (g x)) → Refines same (p >>= f) (q >>= g)
  chain = refines_bind same

  eat : (mark : Mark) → Refines same (expect false mark) (expect false mark)
  eat = refines_expect same false

  take : (test : Lexeme → Bool) → Refines same (take_if test) (take_if test)
  take = refines_take_if same

  done : {A : Type 0} (a : A) → Refines same (pure a) (pure a)
  done = refines_pure same

  sight : Refines same peek_member peek_member
  sight = refines_peek_member same

  here : (note : Bool) (least : ℕ) (start : Start) → Refines same (less note room k least start) (more note room' k' least start)
  here note = h note room room' rooms same_rooms k k' ks same_ks

  refines_type : Refines same (type_ false limit room (less false room) k) (type_ false limit' room' (more false room') k')
  refines_type = stable.refines_type same false limit limit' limits room room' rooms same_rooms (less false room) (more false room')
      (h false room room' rooms same_rooms) k k' ks same_ks

  refines_type_behind : (x : Lexeme) → Refines same (type_behind false limit room (less false room) k x) (type_behind false limit' room' (more false room') k' x)
  refines_type_behind = stable.refines_type_behind same false limit limit' limits room room' rooms same_rooms (less false room) (more false room')
      (h false room room' rooms same_rooms) k k' ks same_ks

  inside : (slot : Slot) → Refines same (spec.statement_inside limit room less k slot) (spec.statement_inside limit' room' more k' slot)
  inside = statements.refines_statement same limit limit' limits less more h shut k k' ks same_ks room room' rooms same_rooms

  -- ---- names and modifiers

  refines_names : Refines same (spec.names limit room less k) (spec.names limit' room' more k')
  unfolding spec.names
  refines_names = refines_separated same _ (by_code m.Comma) _ _ _ _ _ (eat m.Comma) (eat m.Name) limit limit' limits []

  refines_names_after : (text : List ℕ) → Refines same (spec.names_after limit room less k text) (spec.names_after limit' room' more k' text)
  unfolding spec.names_after
  refines_names_after text = chain _ _ _ _ (refines_see_if same (is_word text false)) (λ there. refines_if same there _ _ _ _
      (chain _ _ _ _ (take (is_word text false)) (λ x. refines_names)) (done []))

  refines_override : Refines same (spec.override limit room less k) (spec.override limit' room' more k')
  unfolding spec.override
  refines_override = chain _ _ _ _ (take (is_sign (codes "@") false)) (λ p. take (is_word (codes "Override") false))

  refines_modifier_by : (mark : MemberMark) → Refines same (spec.modifier_by limit room less k mark) (spec.modifier_by limit' room' more k' mark)
  refines_modifier_by s.At = refines_override
  refines_modifier_by _ = take is_modifier

  refines_modifier : Refines same (spec.modifier limit room less k) (spec.modifier limit' room' more k')
  unfolding spec.modifier
  refines_modifier = chain _ _ _ _ sight refines_modifier_by

  refines_modifiers : (ws : List Word) → Refines same (spec.modifiers limit room less k ws) (spec.modifiers limit' room' more k' ws)
  unfolding spec.modifiers
  refines_modifiers ws = refines_until same _ by_modifier with_word _ _ refines_modifier limit limit' limits ws

  -- ---- parameters

  refines_param_modifiers : Refines same (spec.param_modifiers limit room less k) (spec.param_modifiers limit' room' more k')
  unfolding spec.param_modifiers
  refines_param_modifiers = refines_until same _ (by_next is_param_modifier) with_word _ _ (take is_param_modifier) limit limit' limits []

  refines_param : Refines same (spec.param limit room less k) (spec.param limit' room' more k')
  unfolding spec.param
  refines_param = chain _ _ _ _ refines_param_modifiers (λ ws. chain _ _ _ _ refines_type (λ t. chain _ _ _ _ (eat m.Name) (λ x. done _)))

  refines_some_params : Refines same (spec.some_params limit room less k) (spec.some_params limit' room' more k')
  unfolding spec.some_params
  refines_some_params = refines_separated same _ (by_code m.Comma) with_param _ _ _ _ (eat m.Comma) refines_param limit limit' limits []

  refines_optional_params : Refines same (spec.optional_params limit room less k) (spec.optional_params limit' room' more k')
  unfolding spec.optional_params
  refines_optional_params = chain _ _ _ _ (refines_peek same false) (λ mark. refines_if same (same_mark mark m.RightParen) _ _ _ _ (done []) refines_some_params)

  refines_params : Refines same (spec.params limit room less k) (spec.params limit' room' more k')
  unfolding spec.params
  refines_params = chain _ _ _ _ (eat m.LeftParen) (λ p. chain _ _ _ _ refines_optional_params (λ found. chain _ _ _ _ (eat m.RightParen) (λ q. done found)))

  refines_signature : Refines same (spec.signature limit room less k) (spec.signature limit' room' more k')
  unfolding spec.signature
  refines_signature = chain _ _ _ _ refines_params (λ found. chain _ _ _ _ (refines_names_after (codes "throws")) (λ throws. done _))

  -- ---- methods and constructors

  refines_no_body : Refines same (spec.no_body limit room less k) (spec.no_body limit' room' more k')
  unfolding spec.no_body
  refines_no_body = chain _ _ _ _ (eat m.Semicolon) (λ p. done _)

  refines_braced_body : Refines same (spec.braced_body limit room less k) (spec.braced_body limit' room' more k')
  unfolding spec.braced_body
  refines_braced_body = chain _ _ _ _
      (statements.refines_braced same limit limit' limits room room' rooms same_rooms less more h k k' ks same_ks _ _ inside) (λ b. done _)

  refines_method_body : Refines same (spec.method_body limit room less k) (spec.method_body limit' room' more k')
  unfolding spec.method_body
  refines_method_body = chain _ _ _ _ (refines_peek same false) (λ mark. refines_if same (same_mark mark m.Semicolon) _ _ _ _ refines_no_body refines_braced_body)

  refines_method_behind : (spec_ : Sized (Option Specification)) (ws : List Word) (result : Option TypeTree) (x : Lexeme)
      → Refines same (spec.method_behind limit room less k spec_ ws result x) (spec.method_behind limit' room' more k' spec_ ws result x)
  unfolding spec.method_behind
  refines_method_behind spec_ ws result x = chain _ _ _ _ refines_signature (λ found. chain _ _ _ _ refines_method_body (λ b. done _))

  refines_constructor_behind : (spec_ : Sized (Option Specification)) (ws : List Word) (x : Lexeme)
      → Refines same (spec.constructor_behind limit room less k spec_ ws x) (spec.constructor_behind limit' room' more k' spec_ ws x)
  unfolding spec.constructor_behind
  refines_constructor_behind spec_ ws x = chain _ _ _ _ refines_signature (λ found. chain _ _ _ _
      (statements.refines_constructor_body same limit limit' limits room room' rooms same_rooms less more h k k' ks same_ks _ _ inside) (λ b. done _))

  refines_void_method : (spec_ : Sized (Option Specification)) (ws : List Word)
      → Refines same (spec.void_method limit room less k spec_ ws) (spec.void_method limit' room' more k' spec_ ws)
  unfolding spec.void_method
  refines_void_method spec_ ws = chain _ _ _ _ (take (is_word (codes "void") false)) (λ v. chain _ _ _ _ (eat m.Name) (λ x. refines_method_behind spec_ ws None x))

  -- ---- fields

  refines_some_value : Refines same (spec.some_value limit room less k) (spec.some_value limit' room' more k')
  unfolding spec.some_value
  refines_some_value = chain _ _ _ _ (take (is_sign (codes "=") false)) (λ q. chain _ _ _ _ (here false 1 at_first) (λ e. done _))

  refines_value : Refines same (spec.value limit room less k) (spec.value limit' room' more k')
  unfolding spec.value
  refines_value = chain _ _ _ _ (refines_see_if same (is_sign (codes "=") false)) (λ there. refines_if same there _ _ _ _ refines_some_value (done no_value))

  refines_field_behind : (ws : List Word) (t : TypeTree) (x : Lexeme)
      → Refines same (spec.field_behind limit room less k ws t x) (spec.field_behind limit' room' more k' ws t x)
  unfolding spec.field_behind
  refines_field_behind ws t x = chain _ _ _ _ refines_value (λ v. chain _ _ _ _ (eat m.Semicolon) (λ q. chain _ _ _ _
      (clauses.refines_groups same limit limit' limits room room' rooms same_rooms (less true room) (more true room') k k' (here true) q) (λ groups. done _)))

  -- ---- members of Java

  refines_typed_form : (spec_ : Sized (Option Specification)) (ws : List Word) (t : TypeTree)
      → Refines same (spec.typed_form limit room less k spec_ ws t) (spec.typed_form limit' room' more k' spec_ ws t)
  unfolding spec.typed_form
  refines_typed_form spec_ ws t = chain _ _ _ _ (eat m.Name) (λ x. chain _ _ _ _ (refines_peek same false)
      (λ mark. refines_if same (same_mark mark m.LeftParen || is_specified spec_.tree) _ _ _ _ (refines_method_behind spec_ ws (Some t) x) (refines_field_behind ws t x)))

  refines_named_type : (spec_ : Sized (Option Specification)) (ws : List Word) (x : Lexeme)
      → Refines same (spec.named_type limit room less k spec_ ws x) (spec.named_type limit' room' more k' spec_ ws x)
  unfolding spec.named_type
  refines_named_type spec_ ws x = chain _ _ _ _ (refines_type_behind x) (λ t. refines_typed_form spec_ ws t)

  refines_named_form : (spec_ : Sized (Option Specification)) (ws : List Word)
      → Refines same (spec.named_form limit room less k spec_ ws) (spec.named_form limit' room' more k' spec_ ws)
  unfolding spec.named_form
  refines_named_form spec_ ws = chain _ _ _ _ (eat m.Name) (λ x. chain _ _ _ _ (refines_peek same false)
      (λ mark. refines_if same (same_mark mark m.LeftParen) _ _ _ _ (refines_constructor_behind spec_ ws x) (refines_named_type spec_ ws x)))

  refines_other_type : (spec_ : Sized (Option Specification)) (ws : List Word)
      → Refines same (spec.other_type limit room less k spec_ ws) (spec.other_type limit' room' more k' spec_ ws)
  unfolding spec.other_type
  refines_other_type spec_ ws = chain _ _ _ _ refines_type (λ t. refines_typed_form spec_ ws t)

  refines_plain_form : (spec_ : Sized (Option Specification)) (ws : List Word)
      → Refines same (spec.plain_form limit room less k spec_ ws) (spec.plain_form limit' room' more k' spec_ ws)
  unfolding spec.plain_form
  refines_plain_form spec_ ws = chain _ _ _ _ (refines_peek same false)
      (λ mark. refines_if same (same_mark mark m.Name) _ _ _ _ (refines_named_form spec_ ws) (refines_other_type spec_ ws))

  refines_java_by : (spec_ : Sized (Option Specification)) (ws : List Word) (mark : MemberMark)
      → Refines same (spec.java_by limit room less k spec_ ws mark) (spec.java_by limit' room' more k' spec_ ws mark)
  refines_java_by spec_ ws s.Void = refines_void_method spec_ ws
  refines_java_by spec_ ws _ = refines_plain_form spec_ ws

  refines_java_form : (spec_ : Sized (Option Specification)) (ws : List Word)
      → Refines same (spec.java_form limit room less k spec_ ws) (spec.java_form limit' room' more k' spec_ ws)
  unfolding spec.java_form
  refines_java_form spec_ ws = chain _ _ _ _ (refines_modifiers ws) (λ all. chain _ _ _ _ sight (refines_java_by spec_ all))

  -- ---- members

  refines_specified_form : Refines same (spec.specified_form limit room less k) (spec.specified_form limit' room' more k')
  unfolding spec.specified_form
  refines_specified_form = chain _ _ _ _ (clauses.refines_specification same limit limit' limits room room' rooms same_rooms (less true room) (more true room') k k' (here true))
      (λ t. refines_java_form (some_spec t) [])

  refines_specified_behind : (v : Lexeme) → Refines same (spec.specified_behind limit room less k v) (spec.specified_behind limit' room' more k' v)
  unfolding spec.specified_behind
  refines_specified_behind v = chain _ _ _ _
      (clauses.refines_specification_behind same limit limit' limits room room' rooms same_rooms (less true room) (more true room') k k' (here true) v)
      (λ t. refines_java_form (some_spec t) [])

  refines_note_form : (ws : List Word) → Refines same (spec.note_form limit room less k ws) (spec.note_form limit' room' more k' ws)
  refines_note_form ws = clauses.refines_form_behind same limit limit' limits room room' rooms same_rooms (less true room) (more true room') k k' (here true) ws

  refines_noted_by : (ws : List Word) (word : NoteWord) → Refines same (spec.noted_by limit room less k ws word) (spec.noted_by limit' room' more k' ws word)
  refines_noted_by ws w.Invariant = refines_note_form ws
  refines_noted_by ws w.Represents = refines_note_form ws
  refines_noted_by ws w.Field = refines_note_form ws
  refines_noted_by ws _ = refines_java_form no_spec ws

  refines_noted_form : (ws : List Word) → Refines same (spec.noted_form limit room less k ws) (spec.noted_form limit' room' more k' ws)
  unfolding spec.noted_form
  refines_noted_form ws = chain _ _ _ _
      (clauses.refines_modifiers same limit limit' limits room room' rooms same_rooms (less true room) (more true room') k k' (here true) ws)
      (λ all. chain _ _ _ _ (refines_peek_word same) (refines_noted_by all))

  refines_visible_form : Refines same (spec.visible_form limit room less k) (spec.visible_form limit' room' more k')
  unfolding spec.visible_form
  refines_visible_form = chain _ _ _ _ (refines_expect_word same w.Visibility) (λ v. chain _ _ _ _ (refines_peek_word same)
      (λ word. refines_if same (is_heading_word word) _ _ _ _ (refines_specified_behind v) (refines_noted_form (with_word [] v))))

  refines_empty_form : Refines same (spec.empty_form limit room less k) (spec.empty_form limit' room' more k')
  unfolding spec.empty_form
  refines_empty_form = chain _ _ _ _ (eat m.Semicolon) (λ p. done _)

  refines_code_form : Refines same (spec.code_form limit room less k) (spec.code_form limit' room' more k')
  unfolding spec.code_form
  refines_code_form = chain _ _ _ _ (refines_peek same false)
      (λ mark. refines_if same (same_mark mark m.Semicolon) _ _ _ _ refines_empty_form (refines_java_form no_spec []))

  refines_form_by : (word : NoteWord) → Refines same (spec.form_by limit room less k word) (spec.form_by limit' room' more k' word)
  refines_form_by w.Visibility = refines_visible_form
  refines_form_by w.Instance = refines_noted_form []
  refines_form_by w.Modifier = refines_noted_form []
  refines_form_by w.Invariant = refines_noted_form []
  refines_form_by w.Represents = refines_noted_form []
  refines_form_by w.Field = refines_noted_form []
  refines_form_by w.Also = refines_specified_form
  refines_form_by w.Behavior = refines_specified_form
  refines_form_by w.NormalBehavior = refines_specified_form
  refines_form_by w.ExceptionalBehavior = refines_specified_form
  refines_form_by w.Requires = refines_specified_form
  refines_form_by w.Ensures = refines_specified_form
  refines_form_by w.Assignable = refines_specified_form
  refines_form_by w.Signals = refines_specified_form
  refines_form_by w.SignalsOnly = refines_specified_form
  refines_form_by _ = refines_code_form

  refines_form : Refines same (spec.form limit room less k) (spec.form limit' room' more k')
  unfolding spec.form
  refines_form = chain _ _ _ _ (refines_peek_word same) refines_form_by

  refines_member : Refines same (spec.member limit room less k) (spec.member limit' room' more k')
  unfolding spec.member
  refines_member = chain _ _ _ _ (refines_peek_span same) (λ first. chain _ _ _ _ refines_form (λ f. done (spec.spanned first f)))

  refines_members : Refines same (spec.members limit room less k) (spec.members limit' room' more k')
  unfolding spec.members
  refines_members = refines_until same _ by_brace with_more _ _ refines_member limit limit' limits no_items

  -- ---- classes

  refines_superclass : Refines same (spec.superclass limit room less k) (spec.superclass limit' room' more k')
  unfolding spec.superclass
  refines_superclass = chain _ _ _ _ (refines_see_if same (is_word (codes "extends") false)) (λ there. refines_if same there _ _ _ _
      (chain _ _ _ _ (take (is_word (codes "extends") false)) (λ e. chain _ _ _ _ (eat m.Name) (λ x. done (with_word [] x)))) (done []))

  refines_class_heading : Refines same (spec.class_heading limit room less k) (spec.class_heading limit' room' more k')
  unfolding spec.class_heading
  refines_class_heading = chain _ _ _ _ (take (is_word (codes "class") false)) (λ c. chain _ _ _ _ (eat m.Name) (λ x. chain _ _ _ _ refines_superclass (λ e.
      chain _ _ _ _ (refines_names_after (codes "implements")) (λ i. done _))))

  refines_interface_heading : Refines same (spec.interface_heading limit room less k) (spec.interface_heading limit' room' more k')
  unfolding spec.interface_heading
  refines_interface_heading = chain _ _ _ _ (take (is_word (codes "interface") false)) (λ c. chain _ _ _ _ (eat m.Name) (λ x.
      chain _ _ _ _ (refines_names_after (codes "extends")) (λ e. done _)))

  refines_heading_by : (mark : MemberMark) → Refines same (spec.heading_by limit room less k mark) (spec.heading_by limit' room' more k' mark)
  refines_heading_by s.Class = refines_class_heading
  refines_heading_by s.Interface = refines_interface_heading
  refines_heading_by _ = refines_refuse same

  refines_heading : Refines same (spec.heading limit room less k) (spec.heading limit' room' more k')
  unfolding spec.heading
  refines_heading = chain _ _ _ _ sight refines_heading_by

  refines_class_rest : (first : Span) (ws : List Word) (found : Heading)
      → Refines same (spec.class_rest limit room less k first ws found) (spec.class_rest limit' room' more k' first ws found)
  unfolding spec.class_rest
  refines_class_rest first ws found = chain _ _ _ _ (take (is_sign (codes "{") false)) (λ p. chain _ _ _ _ refines_members (λ ms.
      chain _ _ _ _ (take (is_sign (codes "}") false)) (λ q. done _)))

  refines_class : Refines same (spec.class_ limit room less k) (spec.class_ limit' room' more k')
  unfolding spec.class_
  refines_class = chain _ _ _ _ (refines_peek_span same) (λ first. chain _ _ _ _ (refines_modifiers []) (λ ws. chain _ _ _ _ refines_heading
      (λ found. refines_class_rest first ws found)))

  refines_classes : Refines same (spec.classes limit room less k) (spec.classes limit' room' more k')
  unfolding spec.classes
  refines_classes = refines_until same _ by_end with_more _ _ refines_class limit limit' limits no_items

  -- ---- files

  refines_dotted : Refines same (spec.dotted limit room less k) (spec.dotted limit' room' more k')
  unfolding spec.dotted
  refines_dotted = refines_separated same _ (by_code m.Dot) with_word _ _ _ _ (eat m.Dot) (eat m.Name) limit limit' limits []

  refines_some_package : Refines same (spec.some_package limit room less k) (spec.some_package limit' room' more k')
  unfolding spec.some_package
  refines_some_package = chain _ _ _ _ (take (is_word (codes "package") false)) (λ p. chain _ _ _ _ refines_dotted (λ found. chain _ _ _ _ (eat m.Semicolon) (λ q. done found)))

  refines_package_line : Refines same (spec.package_line limit room less k) (spec.package_line limit' room' more k')
  unfolding spec.package_line
  refines_package_line = chain _ _ _ _ (refines_see_if same (is_word (codes "package") false)) (λ there. refines_if same there _ _ _ _ refines_some_package (done []))

  pub refines_file : Refines same (spec.file limit room less k) (spec.file limit' room' more k')
  unfolding spec.file
  refines_file = chain _ _ _ _ refines_package_line (λ found. chain _ _ _ _ refines_classes (λ cs. done _))

-- more room, the same answer
pub refines_whole_file : (same : Bool) (limit limit' : ℕ) → limit ≤ limit' → (room room' : ℕ) → room ≤ room' → (same ≡ true → room ≡ room') → (k k' : ℕ) → k ≤ k'
    → (same ≡ true → k ≡ k') → Refines same (spec.whole_file limit room k) (spec.whole_file limit' room' k')
unfolding spec.whole_file
refines_whole_file same limit limit' limits room room' rooms same_rooms k k' ks same_ks =
    refines_file same limit limit' limits room room' rooms same_rooms (spec.expression_of limit) (spec.expression_of limit')
    (λ note r r' rs sr n n' ns sn least start. stable.refines_expr same note limit limit' limits r r' rs sr n n' ns sn least start)
    (λ note r n least ts e. stable.shut_expr note limit' r n least ts e) k k' ks same_ks
