-- Parameters, what a method throws, and its body are read.
use Rattle.std.proofs.Common.{◌≡◌, ℕ, zero, suc, ◌≤◌, ◌<◌, true, false, not, List, [], ◌∷◌, ◌++◌, length, length-append, Option, Some, None, refl, sym, ap, ◌∙◌, arith, append_assoc, append-nil, codes, IsTrue}
use Rattle.std.proofs.lemmas.Bool.{and_right}
use Rattle.jesc_text.specs.declared.place.Span.{Span}
use Rattle.jesc_ast.specs.declared.word.Word.{Word}
use Rattle.jesc_ast.specs.declared.word.TypeTree.{TypeTree}
use Rattle.jesc_ast.specs.declared.class.ParamTree.{ParamTree}
use Rattle.jesc_ast.specs.Lexemes.{Lexeme, word, sign, chosen_word, kept}
use Rattle.jesc_ast.specs.Words.{is_type_word}
use Rattle.jesc_ast.specs.Trees.{Body, body}
use Rattle.jesc_ast.specs.Expressions.{SpellsType, is_plain_type, is_array_type}
use Rattle.jesc_ast.specs.Depth.{depth, nesting, of_body, of_method_body}
use Rattle.jesc_ast.specs.Statements.{body_end, SpellsBody, is_body}
use Rattle.jesc_ast.specs.Members.{SpellsParamModifiers, no_param_modifiers, final_modifier, null_modifier, SpellsParam, is_param, SpellsSomeParams, last_param, first_param, SpellsParams, no_params, some_params, SpellsNamesAfter, SpellsMethodBody, no_body, some_body}
use Rattle.jesc_jml_grammar.specs.declared.mark.Mark.TheVariants as m
use Rattle.jesc_jml_grammar.specs.Steps.{Parser, mark_at, same_mark, expect}
use Rattle.jesc_jml_grammar.specs.Reading as reading
use Rattle.jesc_jml_grammar.specs.Reading.{is_type_mark, expr}
use Rattle.jesc_jml_parser.specs.laws.CompleteMarks.{name_at, type_word_at, took_sign, took_name}
use Rattle.jesc_jml_parser.specs.laws.CompleteLonger.{type_is}
use Rattle.jesc_jml_grammar.specs.ClauseLists.{until, separated}
use Rattle.jesc_jml_grammar.specs.ClauseReading.{Ended, with_word}
use Rattle.jesc_jml_parser.specs.laws.ClauseSoundLists.{end_of, end_of_both}
use Rattle.jesc_jml_parser.specs.laws.ClauseCompleteClauses.{ended_as}
use Rattle.jesc_jml_parser.specs.laws.ClauseCompleteLists.{read_as, until_more, until_ends, separated_ends, separated_more}
use Rattle.jesc_java_grammar.specs.Lexing.{is_word, next_is, take_if}
use Rattle.jesc_java_grammar.specs.FileMarks.{is_param_modifier, at_code}
use Rattle.jesc_java_grammar.specs.FileReading as spec
use Rattle.jesc_java_grammar.specs.FileReading.{expression_of, with_param, Signature}
use Rattle.jesc_java_parser.proofs.CompleteLexing.{took_if, unlike}
use Rattle.jesc_java_parser.proofs.CompleteParts.{is_part_mark, no_close, type_part}
use Rattle.jesc_java_parser.proofs.CompleteConstructors.{body_complete}
use Rattle.jesc_java_parser.proofs.CompleteModifiers.{names_after_read}

-- ---- types

-- a type before a name
pub type_before : (limit room quantifiers : ℕ) {t : TypeTree} {u : List Lexeme} → SpellsType false t u → (ts : List Lexeme) → mark_at false ts ≡ m.Name
    → reading.type_ false limit room (expression_of limit false room) quantifiers (u ++ ts) ≡ read_as t ts
unfolding same_mark
type_before limit room quantifiers {t} h ts next = type_is false limit room (expression_of limit false room) quantifiers h ts (rw next (and_right (not t.array) false refl))

no_param_modifier : (x : List ℕ) (n : Span) → IsTrue (is_type_word x) → is_param_modifier (chosen_word false x n) ≡ false
no_param_modifier x n t = rw (unlike is_type_word x (codes "final") t refl) refl

type_no_modifier : {t : TypeTree} {u : List Lexeme} → SpellsType false t u → (rest : List Lexeme) → next_is is_param_modifier (u ++ rest) ≡ false
type_no_modifier (is_plain_type n x t) rest = no_param_modifier x n t
type_no_modifier (is_array_type n p q x t) rest = no_param_modifier x n t

type_no_close : {t : TypeTree} {u : List Lexeme} → SpellsType false t u → (rest : List Lexeme) → is_part_mark (mark_at false (u ++ rest)) ≡ true
unfolding mark_at
type_no_close (is_plain_type n x t) rest = type_part _ (type_word_at false x n t)
type_no_close (is_array_type n p q x t) rest = type_part _ (type_word_at false x n t)

-- ---- parameters

module _ (limit room quantifiers : ℕ) where
  param_modifiers_from : (ws : List Word) (u : List Lexeme) → SpellsParamModifiers ws u → (turns : ℕ) (found : List Word) (rest : List Lexeme) → length u < turns
      → next_is is_param_modifier rest ≡ false → until (next_is is_param_modifier) (take_if is_param_modifier) with_word turns found (u ++ rest) ≡ read_as (found ++ ws) rest
  param_modifiers_from _ _ no_param_modifiers turns found rest enough none =
      until_ends (next_is is_param_modifier) (take_if is_param_modifier) with_word turns found rest enough none ∙ ap (λ (z : List Word). read_as z rest) (sym (append-nil found))
  param_modifiers_from _ _ (final_modifier n ws u more) zero found rest enough none = absurd (omega arith)
  param_modifiers_from _ _ (final_modifier n ws u more) (suc turns) found rest enough none =
      until_more (next_is is_param_modifier) (take_if is_param_modifier) with_word turns found (word false "final" n) (word false "final" n ∷ (u ++ rest)) (u ++ rest) refl
      (took_if is_param_modifier (word false "final" n) (u ++ rest) refl)
      ∙ param_modifiers_from ws u more turns (found ++ kept false (codes "final") n ∷ []) rest (omega arith) none
      ∙ ap (λ (z : List Word). read_as z rest) (append_assoc found (kept false (codes "final") n ∷ []) ws)
  param_modifiers_from _ _ (null_modifier n x ws u is more) zero found rest enough none = absurd (omega arith)
  param_modifiers_from _ _ (null_modifier n x ws u is more) (suc turns) found rest enough none =
      until_more (next_is is_param_modifier) (take_if is_param_modifier) with_word turns found (chosen_word true x n) (chosen_word true x n ∷ (u ++ rest)) (u ++ rest) is
      (took_if is_param_modifier (chosen_word true x n) (u ++ rest) is)
      ∙ param_modifiers_from ws u more turns (found ++ kept true x n ∷ []) rest (omega arith) none
      ∙ ap (λ (z : List Word). read_as z rest) (append_assoc found (kept true x n ∷ []) ws)

  abbrev param_parser : Parser ParamTree
  param_parser = spec.param limit room (expression_of limit) quantifiers

  param_read : (t : ParamTree) (u : List Lexeme) → SpellsParam t u → (rest : List Lexeme) → length u ≤ limit → param_parser (u ++ rest) ≡ read_as t rest
  unfolding spec.param spec.param_modifiers mark_at
  param_read _ _ (is_param ws t n x u v hm ht named) rest few =
      let behind : List Lexeme = chosen_word false x n ∷ rest in
      let lens = length-append u (v ++ chosen_word false x n ∷ []) in
      let inner = length-append v (chosen_word false x n ∷ []) in
      ap param_parser (append_assoc u (v ++ chosen_word false x n ∷ []) rest ∙ ap (λ (z : List Lexeme). u ++ z) (append_assoc v (chosen_word false x n ∷ []) rest))
      ∙ rw (param_modifiers_from ws u hm limit [] (v ++ behind) (omega arith) (type_no_modifier ht behind))
      (rw (type_before limit room quantifiers ht behind (name_at false x n named)) (rw (took_name false x n rest named) refl))

  comma_next : (p : Span) (ts : List Lexeme) → at_code m.Comma (sign false "," p ∷ ts) ≡ true
  unfolding mark_at same_mark
  comma_next p ts = refl

  no_comma : (q : Span) (ts : List Lexeme) → at_code m.Comma (sign false ")" q ∷ ts) ≡ false
  unfolding mark_at same_mark
  no_comma q ts = refl

  abbrev params_of : ℕ → List ParamTree → Parser (List ParamTree)
  params_of = separated (at_code m.Comma) (expect false m.Comma) param_parser with_param

  some_param : (t : ParamTree) (u : List Lexeme) → SpellsParam t u → 1 ≤ length u
  some_param _ _ (is_param ws t n x u v hm ht named) = omega (arith, length-append {A = Lexeme})

  some_params_some : (ts : List ParamTree) (u : List Lexeme) → SpellsSomeParams ts u → 1 ≤ length u
  some_params_some _ _ (last_param t u h) = some_param t u h
  some_params_some _ _ (first_param t p ts u v h more) = omega (arith, length-append {A = Lexeme})

  params_from : (ts : List ParamTree) (u : List Lexeme) → SpellsSomeParams ts u → (turns : ℕ) (found : List ParamTree) (q : Span) (rest : List Lexeme) → length u ≤ turns → length u ≤ limit
      → params_of turns found (u ++ sign false ")" q ∷ rest) ≡ read_as (found ++ ts) (sign false ")" q ∷ rest)
  params_from _ _ (last_param t u h) turns found q rest enough few =
      separated_ends (at_code m.Comma) (expect false m.Comma) param_parser with_param turns found t (u ++ sign false ")" q ∷ rest) (sign false ")" q ∷ rest)
      (omega (arith, some_param t u h)) (param_read t u h (sign false ")" q ∷ rest) few) (no_comma q rest)
  params_from _ _ (first_param t p ts u v h more) zero found q rest enough few = absurd (omega (arith, length-append {A = Lexeme}))
  params_from _ _ (first_param t p ts u v h more) (suc turns) found q rest enough few =
      let close : List Lexeme = sign false ")" q ∷ rest in
      let lens = length-append u (sign false "," p ∷ v) in
      ap (params_of (suc turns) found) (append_assoc u (sign false "," p ∷ v) close)
      ∙ separated_more (at_code m.Comma) (expect false m.Comma) param_parser with_param turns found t (sign false "," p) (u ++ sign false "," p ∷ (v ++ close)) (v ++ close)
      (param_read t u h (sign false "," p ∷ (v ++ close)) (omega arith)) (comma_next p (v ++ close)) (took_sign false m.Comma (codes ",") p (v ++ close) refl)
      ∙ params_from ts v more turns (found ++ t ∷ []) q rest (omega arith) (omega arith)
      ∙ ap (λ (z : List ParamTree). read_as z close) (append_assoc found (t ∷ []) ts)

  -- no parameter begins with a closing parenthesis
  param_first : (t : ParamTree) (u : List Lexeme) → SpellsParam t u → (rest : List Lexeme) → is_part_mark (mark_at false (u ++ rest)) ≡ true
  unfolding mark_at
  param_first _ _ (is_param _ t n x _ v no_param_modifiers ht named) rest = ap (λ (z : List Lexeme). is_part_mark (mark_at false z)) (append_assoc v _ rest) ∙ type_no_close ht _
  param_first _ _ (is_param _ t n x _ v (final_modifier s ws u more) ht named) rest = refl
  param_first _ _ (is_param _ t n x _ v (null_modifier s y ws u is more) ht named) rest = refl

  params_first : (ts : List ParamTree) (u : List Lexeme) → SpellsSomeParams ts u → (rest : List Lexeme) → is_part_mark (mark_at false (u ++ rest)) ≡ true
  params_first _ _ (last_param t u h) rest = param_first t u h rest
  params_first _ _ (first_param t p ts u v h more) rest = ap (λ (z : List Lexeme). is_part_mark (mark_at false z)) (append_assoc u _ rest) ∙ param_first t u h _

  some_params_read : (ts : List ParamTree) (u : List Lexeme) → SpellsSomeParams ts u → (q : Span) (rest : List Lexeme) → length u ≤ limit
      → spec.optional_params limit room (expression_of limit) quantifiers (u ++ sign false ")" q ∷ rest) ≡ read_as ts (sign false ")" q ∷ rest)
  unfolding spec.optional_params spec.some_params
  some_params_read ts u h q rest few =
      rw (no_close (mark_at false (u ++ sign false ")" q ∷ rest)) (params_first ts u h (sign false ")" q ∷ rest))) (params_from ts u h limit [] q rest few few)

  no_params_read : (q : Span) (rest : List Lexeme)
      → spec.optional_params limit room (expression_of limit) quantifiers (sign false ")" q ∷ rest) ≡ read_as [] (sign false ")" q ∷ rest)
  unfolding spec.optional_params mark_at same_mark
  no_params_read q rest = refl

  params_read : (ts : List ParamTree) (u : List Lexeme) → SpellsParams ts u → (rest : List Lexeme) → length u ≤ limit
      → spec.params limit room (expression_of limit) quantifiers (u ++ rest) ≡ read_as ts rest
  unfolding spec.params
  params_read _ _ (no_params p q) rest few =
      rw (took_sign false m.LeftParen (codes "(") p (sign false ")" q ∷ rest) refl) (rw (no_params_read q rest) (rw (took_sign false m.RightParen (codes ")") q rest refl) refl))
  params_read _ _ (some_params p q ts u h) rest few =
      rw (append_assoc u (sign false ")" q ∷ []) rest)
      (rw (took_sign false m.LeftParen (codes "(") p (u ++ sign false ")" q ∷ rest) refl)
      (rw (some_params_read ts u h q rest (omega (arith, length-append {A = Lexeme}))) (rw (took_sign false m.RightParen (codes ")") q rest refl) refl)))

  -- ---- signatures

  abbrev signed : List ParamTree → List Word → Signature
  signed ts ws = record { params = ts; throws = ws }

  pub signature_read : (ts : List ParamTree) (ws : List Word) (c t : List Lexeme) → SpellsParams ts c → SpellsNamesAfter (codes "throws") ws t → (rest : List Lexeme)
      → length c ≤ limit → length t ≤ limit → next_is (is_word (codes "throws") false) rest ≡ false → at_code m.Comma rest ≡ false
      → spec.signature limit room (expression_of limit) quantifiers (c ++ (t ++ rest)) ≡ read_as (signed ts ws) rest
  unfolding spec.signature
  signature_read ts ws c t hc ht rest few short none ends =
      rw (params_read ts c hc (t ++ rest) few) (rw (names_after_read limit room quantifiers (codes "throws") refl ws t ht rest short none ends) refl)

-- ---- bodies of methods

-- neither `throws` nor a comma stands before a body
pub record BehindThrows (ts : List Lexeme) : Type 0 where
  pub none : next_is (is_word (codes "throws") false) ts ≡ false
  pub ends : at_code m.Comma ts ≡ false

pub body_behind : (b : Option Body) (d : List Lexeme) → SpellsMethodBody b d → (rest : List Lexeme) → BehindThrows (d ++ rest)
unfolding mark_at same_mark
body_behind _ _ (no_body p) rest = record { none = refl; ends = refl }
body_behind _ _ (some_body p b u (is_body p' q ts v h)) rest = record { none = refl; ends = refl }

module _ (limit room quantifiers : ℕ) where
  abbrev method_body : Parser (Ended (Option Body))
  method_body = spec.method_body limit room (expression_of limit) quantifiers

  no_body_read : (p : Span) (rest : List Lexeme) → method_body (sign false ";" p ∷ rest) ≡ read_as (ended_as None 0 p) rest
  unfolding spec.method_body spec.no_body mark_at same_mark
  no_body_read p rest = rw (took_sign false m.Semicolon (codes ";") p rest refl) refl

  brace_body : (p : Span) (ts : List Lexeme) → method_body (sign false "{" p ∷ ts) ≡ spec.braced_body limit room (expression_of limit) quantifiers (sign false "{" p ∷ ts)
  unfolding spec.method_body mark_at same_mark
  brace_body p ts = refl

  braced_body_read : {b : Body} {p : Span} {u : List Lexeme} → SpellsBody b p u → (rest : List Lexeme) → length u ≤ limit → of_body depth 1 b ≤ room → of_body nesting 0 b ≤ quantifiers
      → spec.braced_body limit room (expression_of limit) quantifiers (u ++ rest) ≡ read_as (ended_as (Some b) (of_body depth 1 b) (body_end b)) rest
  unfolding spec.braced_body
  braced_body_read h rest few deep flat = rw (body_complete limit room quantifiers h few rest deep flat) refl

  pub method_body_read : (b : Option Body) (d : List Lexeme) → SpellsMethodBody b d → (rest : List Lexeme) → length d ≤ limit → of_method_body depth 1 b ≤ room
      → of_method_body nesting 0 b ≤ quantifiers → (first : Span)
      → method_body (d ++ rest) ≡ read_as (ended_as b (of_method_body depth 1 b) (end_of first d)) rest
  method_body_read _ _ (no_body p) rest few deep flat first = no_body_read p rest
  method_body_read _ _ (some_body _ _ _ (is_body p q ts u h)) rest few deep flat first =
      brace_body p ((u ++ sign false "}" q ∷ []) ++ rest)
      ∙ braced_body_read (is_body p q ts u h) rest few deep flat
      ∙ ap (λ (z : Span). read_as (ended_as (Some (body ts q)) (of_body depth 1 (body ts q)) z) rest) (sym (end_of_both p u (sign false "}" q ∷ [])))
