-- Fields, methods and constructors are read, behind a specification and modifiers.
use Rattle.std.proofs.Common.{◌≡◌, ℕ, ◌≤◌, max, Bool, true, false, List, [], ◌∷◌, ◌++◌, length, Option, Some, None, refl, sym, ◌∙◌, arith, codes, IsTrue, inl, inr}
use Rattle.std.proofs.lemmas.Bool.{or_cases}
use Rattle.jesc_text.specs.declared.place.Span.{Span}
use Rattle.jesc_ast.specs.declared.word.Word.{Word}
use Rattle.jesc_ast.specs.declared.word.TypeTree.{TypeTree}
use Rattle.jesc_ast.specs.declared.class.ParamTree.{ParamTree}
use Rattle.jesc_ast.specs.Lexemes.{Lexeme, word, sign, chosen_word, kept, join}
use Rattle.jesc_ast.specs.Words.{is_name, is_primitive}
use Rattle.jesc_ast.specs.Trees.{Expression, Body}
use Rattle.jesc_ast.specs.SpecTrees.{Specification}
use Rattle.jesc_ast.specs.FileTrees.{MemberForm, field, spec_field, method, constructor_member}
use Rattle.jesc_ast.specs.Expressions.{type_tree, SpellsExpression, SpellsType, is_plain_type, is_array_type}
use Rattle.jesc_ast.specs.Depth.{depth, nesting, of_option, of_body, of_method_body}
use Rattle.jesc_ast.specs.Statements.{body_end, is_body, SpellsConstructorBody, is_plain_body, is_super_body}
use Rattle.jesc_ast.specs.Members.{SpellsParams, no_params, some_params, SpellsNamesAfter, SpellsMethodBody, SpellsResult, is_void, is_result, SpellsValue, no_value, some_value, SpellsGroups}
use Rattle.jesc_jml_grammar.specs.declared.mark.Mark.{Mark}
use Rattle.jesc_jml_grammar.specs.declared.mark.Mark.TheVariants as m
use Rattle.jesc_jml_grammar.specs.declared.note_word.NoteWord.{NoteWord}
use Rattle.jesc_jml_grammar.specs.declared.note_word.NoteWord.TheVariants as w
use Rattle.jesc_jml_grammar.specs.Marks.{lexeme_mark}
use Rattle.jesc_jml_grammar.specs.Steps.{Outcome, Parser, mark_at, same_mark}
use Rattle.jesc_jml_parser.specs.laws.CompleteMarks.{name_at, is_primitive_mark, primitive_at, took_sign, took_name}
use Rattle.jesc_jml_parser.specs.laws.CompleteLonger.{plain_behind, array_behind}
use Rattle.jesc_jml_grammar.specs.ClauseMarks.{word_at, same_word}
use Rattle.jesc_jml_grammar.specs.ClauseReading.{Sized, Ended}
use Rattle.jesc_jml_parser.specs.laws.ClauseEdges.{member_goes_on}
use Rattle.jesc_jml_parser.specs.laws.ClauseSoundLists.{end_of}
use Rattle.jesc_jml_parser.specs.laws.ClauseCompleteClauses.{ended_as}
use Rattle.jesc_jml_parser.specs.laws.ClauseCompleteLists.{read_as}
use Rattle.jesc_jml_parser.specs.laws.ClauseCompleteMembers.{groups_read}
use Rattle.jesc_java_grammar.specs.declared.member_mark.MemberMark.TheVariants as s
use Rattle.jesc_java_grammar.specs.Lexing.{is_word, is_sign}
use Rattle.jesc_java_grammar.specs.FileMarks.{member_mark_at}
use Rattle.jesc_java_grammar.specs.FileReading as spec
use Rattle.jesc_java_grammar.specs.FileReading.{expression_of, no_spec, is_specified, Signature}
use Rattle.jesc_java_parser.proofs.CompleteLexing.{took_if}
use Rattle.jesc_java_parser.proofs.CompleteActs.{value_read}
use Rattle.jesc_java_parser.proofs.CompleteParts.{semicolon_closes}
use Rattle.jesc_java_parser.proofs.CompleteConstructors.{constructor_body_complete}
use Rattle.jesc_java_parser.proofs.CompleteModifiers.{type_member, name_member}
use Rattle.jesc_java_parser.proofs.CompleteSignatures.{type_before, signature_read, BehindThrows, body_behind, method_body_read}

-- ---- what goes on with a member

-- with a field that has no groups yet
abbrev pub form_goes_on : MemberForm → NoteWord → Bool
form_goes_on (field ws ty name equals value []) word = same_word word w.In
form_goes_on form word = member_goes_on form word

same_goes_on : (ws : List Word) (ty : TypeTree) (x : Word) (equals : Option Span) (value : Option Expression) (gs : List Word) (found : NoteWord)
    → form_goes_on (field ws ty x equals value gs) found ≡ member_goes_on (spec_field ws ty x equals value gs) found
same_goes_on ws ty x equals value [] found = refl
same_goes_on ws ty x equals value (g ∷ gs) found = refl

name_first : (x : List ℕ) (n : Span) (ts : List Lexeme) → IsTrue (is_name x) → mark_at false (chosen_word false x n ∷ ts) ≡ m.Name
unfolding mark_at
name_first x n ts named = name_at false x n named

abbrev pub Specified : Type 0
Specified = Sized (Option Specification)

-- ---- types

no_name : (mark : Mark) → is_primitive_mark mark ≡ true → same_mark mark m.Name ≡ false
unfolding same_mark
no_name m.Name p = absurd cc
no_name _ p = refl

constructor_behind : (b : Body) (p : Span) (d : List Lexeme) → SpellsConstructorBody b p d → (rest : List Lexeme) → BehindThrows (d ++ rest)
unfolding mark_at same_mark
constructor_behind _ _ _ (is_plain_body _ _ _ (is_body p q ts u h)) rest = record { none = refl; ends = refl }
constructor_behind _ _ _ (is_super_body p r p1 q1 p2 q es ss u v h hs) rest = record { none = refl; ends = refl }

module _ (limit room quantifiers : ℕ) (sp : Specified) (ws : List Word) where
  abbrev form_as : MemberForm → ℕ → Span → List Lexeme → Outcome (Ended MemberForm)
  form_as f d last rest = read_as (ended_as f d last) rest

  abbrev plain_form : Parser (Ended MemberForm)
  plain_form = spec.plain_form limit room (expression_of limit) quantifiers sp ws

  abbrev typed_form : TypeTree → Parser (Ended MemberForm)
  typed_form = spec.typed_form limit room (expression_of limit) quantifiers sp ws

  word_typed : {t : TypeTree} {u : List Lexeme} → SpellsType false t u → (ts : List Lexeme) → mark_at false ts ≡ m.Name
      → same_mark (mark_at false (u ++ ts)) m.Name ≡ false → plain_form (u ++ ts) ≡ typed_form t ts
  unfolding spec.plain_form spec.other_type
  word_typed h ts next none = rw none (rw (type_before limit room quantifiers h ts next) refl)

  named_typed : (x : List ℕ) (n : Span) (ts : List Lexeme) → IsTrue (is_name x) → same_mark (mark_at false ts) m.LeftParen ≡ false
      → plain_form (chosen_word false x n ∷ ts) ≡ spec.named_type limit room (expression_of limit) quantifiers sp ws (chosen_word false x n) ts
  unfolding spec.plain_form spec.named_form mark_at same_mark
  named_typed x n ts named none = rw (name_at false x n named) (rw (took_name false x n ts named) (rw none refl))

  plain_type_read : (x : List ℕ) (n : Span) (ts : List Lexeme) → IsTrue (is_name x) → mark_at false ts ≡ m.Name
      → plain_form (chosen_word false x n ∷ ts) ≡ typed_form (type_tree n x false) ts
  unfolding spec.named_type same_mark
  plain_type_read x n ts named next =
      named_typed x n ts named (rw next refl) ∙ rw (plain_behind false limit room (expression_of limit false room) quantifiers (chosen_word false x n) ts (rw next refl)) refl

  array_type_read : (x : List ℕ) (n p q : Span) (ts : List Lexeme) → IsTrue (is_name x)
      → plain_form (chosen_word false x n ∷ sign false "[" p ∷ sign false "]" q ∷ ts) ≡ typed_form (type_tree (join n q) x true) ts
  unfolding spec.named_type mark_at same_mark
  array_type_read x n p q ts named =
      named_typed x n (sign false "[" p ∷ sign false "]" q ∷ ts) named refl
      ∙ rw (array_behind false limit room (expression_of limit false room) quantifiers (chosen_word false x n) p q ts) refl

  typed_read : {t : TypeTree} {u : List Lexeme} → SpellsType false t u → (ts : List Lexeme) → mark_at false ts ≡ m.Name → plain_form (u ++ ts) ≡ typed_form t ts
  unfolding mark_at
  typed_read (is_plain_type n x t) ts next = elim (or_cases (is_primitive x) (is_name x) t) [
    | inl p ↦ word_typed (is_plain_type n x t) ts next (no_name (lexeme_mark false (chosen_word false x n)) (primitive_at false x n p))
    | inr named ↦ plain_type_read x n ts named next
  ]
  typed_read (is_array_type n p q x t) ts next = elim (or_cases (is_primitive x) (is_name x) t) [
    | inl pr ↦ word_typed (is_array_type n p q x t) ts next (no_name (lexeme_mark false (chosen_word false x n)) (primitive_at false x n pr))
    | inr named ↦ array_type_read x n p q ts named
  ]

  -- ---- methods

  pub params_mark : (ts : List ParamTree) (c : List Lexeme) → SpellsParams ts c → (rest : List Lexeme) → mark_at false (c ++ rest) ≡ m.LeftParen
  unfolding mark_at
  params_mark _ _ (no_params p q) rest = refl
  params_mark _ _ (some_params p q ts u h) rest = refl

  pub method_behind_read : (result : Option TypeTree) (x : List ℕ) (n : Span) (ts : List ParamTree) (throws : List Word) (b : Option Body) (c t d : List Lexeme) → SpellsParams ts c
      → SpellsNamesAfter (codes "throws") throws t → SpellsMethodBody b d → (rest : List Lexeme) → length c ≤ limit → length t ≤ limit → length d ≤ limit
      → of_method_body depth 1 b ≤ room → of_method_body nesting 0 b ≤ quantifiers → (first : Span)
      → spec.method_behind limit room (expression_of limit) quantifiers sp ws result (chosen_word false x n) (c ++ (t ++ (d ++ rest)))
      ≡ form_as (method sp.tree ws result (kept false x n) ts throws b) (max sp.depth (of_method_body depth 1 b)) (end_of first d) rest
  unfolding spec.method_behind
  method_behind_read result x n ts throws b c t d hc ht hd rest few short small deep flat first =
      let behind = body_behind b d hd rest in
      rw (signature_read limit room quantifiers ts throws c t hc ht (d ++ rest) few short behind.none behind.ends)
      (rw (method_body_read limit room quantifiers b d hd rest small deep flat first) refl)

  typed_method : (t : TypeTree) (x : List ℕ) (n : Span) (ts : List Lexeme) → IsTrue (is_name x) → mark_at false ts ≡ m.LeftParen
      → typed_form t (chosen_word false x n ∷ ts) ≡ spec.method_behind limit room (expression_of limit) quantifiers sp ws (Some t) (chosen_word false x n) ts
  unfolding spec.typed_form same_mark
  typed_method t x n ts named next = rw (took_name false x n ts named) (rw next refl)

  java_by_other : (ts : List Lexeme) → member_mark_at ts ≡ s.Other
      → spec.java_by limit room (expression_of limit) quantifiers sp ws (member_mark_at ts) ts ≡ plain_form ts
  java_by_other ts at = rw at refl

  void_read : (v n : Span) (x : List ℕ) (ts : List Lexeme) → IsTrue (is_name x)
      → spec.void_method limit room (expression_of limit) quantifiers sp ws (word false "void" v ∷ chosen_word false x n ∷ ts)
      ≡ spec.method_behind limit room (expression_of limit) quantifiers sp ws None (chosen_word false x n) ts
  unfolding spec.void_method
  void_read v n x ts named =
      rw (took_if (is_word (codes "void") false) (word false "void" v) (chosen_word false x n ∷ ts) refl) (rw (took_name false x n ts named) refl)

  -- behind all modifiers
  pub result_read : (result : Option TypeTree) (r : List Lexeme) → SpellsResult result r → (x : List ℕ) (n : Span) (ts : List Lexeme) → IsTrue (is_name x) → mark_at false ts ≡ m.LeftParen
      → spec.java_by limit room (expression_of limit) quantifiers sp ws (member_mark_at (r ++ chosen_word false x n ∷ ts)) (r ++ chosen_word false x n ∷ ts)
      ≡ spec.method_behind limit room (expression_of limit) quantifiers sp ws result (chosen_word false x n) ts
  unfolding member_mark_at
  result_read _ _ (is_void v) x n ts named next = void_read v n x ts named
  result_read _ _ (is_result t u h) x n ts named next =
      java_by_other (u ++ chosen_word false x n ∷ ts) (type_member h (chosen_word false x n ∷ ts))
      ∙ typed_read h (chosen_word false x n ∷ ts) (name_first x n ts named) ∙ typed_method t x n ts named next

  -- ---- constructors

  pub constructor_behind_read : (x : List ℕ) (n : Span) (ts : List ParamTree) (throws : List Word) (b : Body) (p : Span) (c t d : List Lexeme) → SpellsParams ts c
      → SpellsNamesAfter (codes "throws") throws t → SpellsConstructorBody b p d → (rest : List Lexeme) → length c ≤ limit → length t ≤ limit → length d ≤ limit
      → of_body depth 1 b ≤ room → of_body nesting 0 b ≤ quantifiers
      → spec.constructor_behind limit room (expression_of limit) quantifiers sp ws (chosen_word false x n) (c ++ (t ++ (d ++ rest)))
      ≡ form_as (constructor_member sp.tree ws (kept false x n) ts throws b) (max sp.depth (of_body depth 1 b)) (body_end b) rest
  unfolding spec.constructor_behind
  constructor_behind_read x n ts throws b p c t d hc ht hd rest few short small deep flat =
      let behind = constructor_behind b p d hd rest in
      rw (signature_read limit room quantifiers ts throws c t hc ht (d ++ rest) few short behind.none behind.ends)
      (rw (constructor_body_complete limit room quantifiers hd small rest deep flat) refl)

  pub constructor_read : (x : List ℕ) (n : Span) (ts : List Lexeme) → IsTrue (is_name x) → mark_at false ts ≡ m.LeftParen
      → spec.java_by limit room (expression_of limit) quantifiers sp ws (member_mark_at (chosen_word false x n ∷ ts)) (chosen_word false x n ∷ ts)
      ≡ spec.constructor_behind limit room (expression_of limit) quantifiers sp ws (chosen_word false x n) ts
  unfolding spec.plain_form spec.named_form mark_at same_mark
  constructor_read x n ts named next =
      java_by_other (chosen_word false x n ∷ ts) (name_member x n ts named) ∙ rw (name_at false x n named) (rw (took_name false x n ts named) (rw next refl))

-- ---- fields

module _ (limit room quantifiers : ℕ) (ws : List Word) where
  some_value_read : (p : Span) (e : Expression) (u rest : List Lexeme) (h : SpellsExpression false e u) (q : Span) → depth e ≤ room → nesting e ≤ quantifiers → length u ≤ limit
      → spec.value limit room (expression_of limit) quantifiers (sign false "=" p ∷ (u ++ sign false ";" q ∷ rest))
      ≡ read_as (record { equals = Some p; e = Some e; depth = depth e }) (sign false ";" q ∷ rest)
  unfolding spec.value spec.some_value
  some_value_read p e u rest h q deep flat few =
      rw (took_if (is_sign (codes "=") false) (sign false "=" p) (u ++ sign false ";" q ∷ rest) refl)
      (rw (value_read false limit room quantifiers h.0 e u (sign false ";" q ∷ rest) h.1 deep flat few (semicolon_closes false q rest)) refl)

  optional_value_read : (equals : Option Span) (e : Option Expression) (c : List Lexeme) → SpellsValue false equals e c → (q : Span) (rest : List Lexeme) → of_option depth 1 e ≤ room
      → of_option nesting 0 e ≤ quantifiers → length c ≤ limit
      → spec.value limit room (expression_of limit) quantifiers (c ++ sign false ";" q ∷ rest)
      ≡ read_as (record { equals = equals; e = e; depth = of_option depth 1 e }) (sign false ";" q ∷ rest)
  unfolding spec.value
  optional_value_read _ _ _ no_value q rest deep flat few = refl
  optional_value_read _ _ _ (some_value p e u h) q rest deep flat few = some_value_read p e u rest h q deep flat (omega arith)

  -- neither a value nor a semicolon begins with a parenthesis
  pub value_first : (equals : Option Span) (e : Option Expression) (c : List Lexeme) → SpellsValue false equals e c → (q : Span) (rest : List Lexeme)
      → same_mark (mark_at false (c ++ sign false ";" q ∷ rest)) m.LeftParen ≡ false
  unfolding mark_at same_mark
  value_first _ _ _ no_value q rest = refl
  value_first _ _ _ (some_value p e u h) q rest = refl

  pub field_behind_read : (t : TypeTree) (x : List ℕ) (n q : Span) (equals : Option Span) (e : Option Expression) (gs : List Word) (c g rest : List Lexeme) → SpellsValue false equals e c
      → SpellsGroups gs g → of_option depth 1 e ≤ room → of_option nesting 0 e ≤ quantifiers → length c ≤ limit → length g ≤ limit
      → form_goes_on (field ws t (kept false x n) equals e gs) (word_at rest) ≡ false
      → spec.field_behind limit room (expression_of limit) quantifiers ws t (chosen_word false x n) (c ++ sign false ";" q ∷ (g ++ rest))
      ≡ read_as (ended_as (field ws t (kept false x n) equals e gs) (of_option depth 1 e) (end_of q g)) rest
  unfolding spec.field_behind
  field_behind_read t x n q equals e gs c g rest hc hg deep flat few short ends =
      rw (optional_value_read equals e c hc q (g ++ rest) deep flat few)
      (rw (took_sign false m.Semicolon (codes ";") q (g ++ rest) refl)
      (rw (groups_read limit room quantifiers ws t (kept false x n) equals e gs g hg (sign false ";" q) rest short (sym (same_goes_on ws t (kept false x n) equals e gs (word_at rest)) ∙ ends)) refl))

  field_typed : (t : TypeTree) (x : List ℕ) (n : Span) (ts : List Lexeme) → IsTrue (is_name x) → same_mark (mark_at false ts) m.LeftParen ≡ false
      → spec.typed_form limit room (expression_of limit) quantifiers no_spec ws t (chosen_word false x n ∷ ts)
      ≡ spec.field_behind limit room (expression_of limit) quantifiers ws t (chosen_word false x n) ts
  unfolding spec.typed_form
  field_typed t x n ts named none = rw (took_name false x n ts named) (rw none refl)

  pub field_read : (t : TypeTree) (b : List Lexeme) → SpellsType false t b → (x : List ℕ) (n : Span) (ts : List Lexeme) → IsTrue (is_name x) → same_mark (mark_at false ts) m.LeftParen ≡ false
      → spec.java_by limit room (expression_of limit) quantifiers no_spec ws (member_mark_at (b ++ chosen_word false x n ∷ ts)) (b ++ chosen_word false x n ∷ ts)
      ≡ spec.field_behind limit room (expression_of limit) quantifiers ws t (chosen_word false x n) ts
  field_read t b h x n ts named none =
      java_by_other limit room quantifiers no_spec ws (b ++ chosen_word false x n ∷ ts) (type_member h (chosen_word false x n ∷ ts))
      ∙ typed_read limit room quantifiers no_spec ws h (chosen_word false x n ∷ ts) (name_first x n ts named) ∙ field_typed t x n ts named none
