-- Which lexemes spell a member, a class and a file. Without a word on it a lexeme stands in code.
use Rattle.std.specs.Prelude.{◌≡◌, ℕ, Bool, true, false, not, IsTrue, Option, Some, None, List, [], ◌∷◌, ◌++◌, codes}
use Rattle.jesc_text.specs.declared.place.Span.{Span}
use Rattle.jesc_lexer.specs.declared.token.Tokens.{Tokens}
use Rattle.jesc_ast.specs.declared.word.Word.{Word}
use Rattle.jesc_ast.specs.declared.word.TypeTree.{TypeTree}
use Rattle.jesc_ast.specs.declared.class.ParamTree.{ParamTree}
use Rattle.jesc_ast.specs.declared.class.File.{File}
use Rattle.jesc_ast.specs.Lines.{lines_of}
use Rattle.jesc_ast.specs.Lexemes.{Lexeme, lexemes, word, sign, chosen_word, chosen_sign, kept, span_of_all}
use Rattle.jesc_ast.specs.Words.{is_one_of, is_name}
use Rattle.jesc_ast.specs.Trees.{Expression, Body}
use Rattle.jesc_ast.specs.SpecTrees.{Specification}
use Rattle.jesc_ast.specs.FileTrees.{MemberForm, no_member, field, spec_field, class_invariant, represents, method, constructor_member, Member, member_of, Class, class_of, SourceUnit, file_view}
use Rattle.jesc_ast.specs.Expressions.{SpellsType, SpellsExpression}
use Rattle.jesc_ast.specs.Statements.{SpellsBody, SpellsConstructorBody}
use Rattle.jesc_ast.specs.Specifications.{SpellsNames, SpellsSpec, SpellsVisibility, is_visibility}

-- ---- modifiers

abbrev pub is_code_modifier : List ℕ → Bool
is_code_modifier = is_one_of (codes "public" ∷ codes "protected" ∷ codes "private" ∷ codes "static" ∷ codes "final" ∷ codes "abstract" ∷ [])

abbrev pub is_note_modifier : List ℕ → Bool
is_note_modifier = is_one_of (codes "public" ∷ codes "protected" ∷ codes "private" ∷ codes "pure" ∷ codes "helper" ∷ codes "nullable"
    ∷ codes "non_null" ∷ codes "spec_public" ∷ codes "spec_protected" ∷ codes "instance" ∷ [])

pub data SpellsModifier : Word → List Lexeme → Type 0 where
  is_code_word : (s : Span) (x : List ℕ) → IsTrue (is_code_modifier x) → SpellsModifier (kept false x s) (chosen_word false x s ∷ [])
  is_note_word : (s : Span) (x : List ℕ) → IsTrue (is_note_modifier x) → SpellsModifier (kept true x s) (chosen_word true x s ∷ [])
  is_override : (at s : Span) → SpellsModifier (kept false (codes "Override") s) (sign false "@" at ∷ word false "Override" s ∷ [])

pub data SpellsModifiers : List Word → List Lexeme → Type 0 where
  no_modifiers : SpellsModifiers [] []
  more_modifiers : (w : Word) (ws : List Word) (u v : List Lexeme) → SpellsModifier w u → SpellsModifiers ws v → SpellsModifiers (w ∷ ws) (u ++ v)

-- modifiers of a specification field
pub data SpellsNoteModifiers : List Word → List Lexeme → Type 0 where
  no_note_modifiers : SpellsNoteModifiers [] []
  more_note_modifiers : (s : Span) (x : List ℕ) (ws : List Word) (u : List Lexeme) → IsTrue (is_note_modifier x) → SpellsNoteModifiers ws u
      → SpellsNoteModifiers (kept true x s ∷ ws) (chosen_word true x s ∷ u)

-- ---- parts of members

-- an initial value that may be missing, with the place of its equals sign
pub data SpellsValue (note : Bool) : Option Span → Option Expression → List Lexeme → Type 0 where
  no_value : SpellsValue note None None []
  some_value : (s : Span) (e : Expression) (u : List Lexeme) → SpellsExpression note e u → SpellsValue note (Some s) (Some e) (sign note "=" s ∷ u)

-- the data groups of a field, in an annotation
pub data SpellsGroups : List Word → List Lexeme → Type 0 where
  no_groups : SpellsGroups [] []
  some_groups : (s p : Span) (ws : List Word) (u : List Lexeme) → SpellsNames true ws u
      → SpellsGroups ws (word true "in" s ∷ (u ++ sign true ";" p ∷ []))

-- names behind a word, or nothing
pub data SpellsNamesAfter (text : List ℕ) : List Word → List Lexeme → Type 0 where
  no_names : SpellsNamesAfter text [] []
  some_names : (s : Span) (ws : List Word) (u : List Lexeme) → SpellsNames false ws u → SpellsNamesAfter text ws (chosen_word false text s ∷ u)

-- a method's specification that may be missing
pub data SpellsOptionalSpec : Option Specification → List Lexeme → Type 0 where
  no_spec : SpellsOptionalSpec None []
  some_spec : (t : Specification) (u : List Lexeme) → SpellsSpec t u → SpellsOptionalSpec (Some t) u

pub data SpellsParamModifiers : List Word → List Lexeme → Type 0 where
  no_param_modifiers : SpellsParamModifiers [] []
  final_modifier : (s : Span) (ws : List Word) (u : List Lexeme) → SpellsParamModifiers ws u
      → SpellsParamModifiers (kept false (codes "final") s ∷ ws) (word false "final" s ∷ u)
  null_modifier : (s : Span) (x : List ℕ) (ws : List Word) (u : List Lexeme) → IsTrue (is_one_of (codes "nullable" ∷ codes "non_null" ∷ []) x)
      → SpellsParamModifiers ws u → SpellsParamModifiers (kept true x s ∷ ws) (chosen_word true x s ∷ u)

abbrev pub param_tree : List Word → TypeTree → Word → ParamTree
param_tree ws t w = record { modifiers = ws; ty = t; name = w }

pub data SpellsParam : ParamTree → List Lexeme → Type 0 where
  is_param : (ws : List Word) (t : TypeTree) (s : Span) (x : List ℕ) (u v : List Lexeme) → SpellsParamModifiers ws u → SpellsType false t v
      → IsTrue (is_name x) → SpellsParam (param_tree ws t (kept false x s)) (u ++ (v ++ chosen_word false x s ∷ []))

-- one at least, with commas between
pub data SpellsSomeParams : List ParamTree → List Lexeme → Type 0 where
  last_param : (t : ParamTree) (u : List Lexeme) → SpellsParam t u → SpellsSomeParams (t ∷ []) u
  first_param : (t : ParamTree) (p : Span) (ts : List ParamTree) (u v : List Lexeme) → SpellsParam t u → SpellsSomeParams ts v
      → SpellsSomeParams (t ∷ ts) (u ++ sign false "," p ∷ v)

pub data SpellsParams : List ParamTree → List Lexeme → Type 0 where
  no_params : (p q : Span) → SpellsParams [] (sign false "(" p ∷ sign false ")" q ∷ [])
  some_params : (p q : Span) (ts : List ParamTree) (u : List Lexeme) → SpellsSomeParams ts u
      → SpellsParams ts (sign false "(" p ∷ (u ++ sign false ")" q ∷ []))

-- the type of a method's result; `void` is none
pub data SpellsResult : Option TypeTree → List Lexeme → Type 0 where
  is_void : (s : Span) → SpellsResult None (word false "void" s ∷ [])
  is_result : (t : TypeTree) (u : List Lexeme) → SpellsType false t u → SpellsResult (Some t) u

-- a method's body, or a semicolon
pub data SpellsMethodBody : Option Body → List Lexeme → Type 0 where
  no_body : (p : Span) → SpellsMethodBody None (sign false ";" p ∷ [])
  some_body : (p : Span) (b : Body) (u : List Lexeme) → SpellsBody b p u → SpellsMethodBody (Some b) u

-- ---- members

-- the words `ghost` and `model`
abbrev pub is_field_word : List ℕ → Bool
is_field_word = is_one_of (codes "ghost" ∷ codes "model" ∷ [])

-- a visibility and the word `instance`, each of which may be missing
pub data SpellsInvariantModifiers : List Word → List Lexeme → Type 0 where
  no_invariant_modifiers : SpellsInvariantModifiers [] []
  visibility_alone : (s : Span) (x : List ℕ) → IsTrue (is_visibility x) → SpellsInvariantModifiers (kept true x s ∷ []) (chosen_word true x s ∷ [])
  instance_alone : (s : Span) → SpellsInvariantModifiers (kept true (codes "instance") s ∷ []) (word true "instance" s ∷ [])
  visibility_and_instance : (s n : Span) (x : List ℕ) → IsTrue (is_visibility x)
      → SpellsInvariantModifiers (kept true x s ∷ kept true (codes "instance") n ∷ []) (chosen_word true x s ∷ word true "instance" n ∷ [])

-- invariants, represents clauses and specification fields, which stand in annotations
pub data SpellsNoteMember : MemberForm → List Lexeme → Type 0 where
  is_invariant : (s p : Span) (e : Expression) (ws : List Word) (t u : List Lexeme) → SpellsInvariantModifiers ws t → SpellsExpression true e u
      → SpellsNoteMember (class_invariant ws e) (t ++ word true "invariant" s ∷ (u ++ sign true ";" p ∷ []))
  is_represents : (s n o p : Span) (visibility : Option Word) (x op : List ℕ) (e : Expression) (t u : List Lexeme) → SpellsVisibility visibility t
      → IsTrue (is_name x) → IsTrue (is_one_of (codes "=" ∷ codes "<-" ∷ []) op) → SpellsExpression true e u
      → SpellsNoteMember (represents visibility (kept true x n) (kept true op o) e)
      (t ++ word true "represents" s ∷ chosen_word true x n ∷ chosen_sign true op o ∷ (u ++ sign true ";" p ∷ []))
  -- behind `ghost` or `model` a modifier's word is a modifier and no type
  is_spec_field : (s n p : Span) (before after groups : List Word) (x y : List ℕ) (ty : TypeTree) (equals : Option Span) (value : Option Expression)
      (a b c d g : List Lexeme) → SpellsNoteModifiers before a → IsTrue (is_field_word x) → SpellsNoteModifiers after b → SpellsType true ty c
      → IsTrue (not (is_note_modifier ty.base)) → IsTrue (is_name y) → SpellsValue true equals value d → SpellsGroups groups g
      → SpellsNoteMember (spec_field (before ++ kept true x s ∷ after) ty (kept true y n) equals value groups)
      (a ++ chosen_word true x s ∷ (b ++ (c ++ chosen_word true y n ∷ (d ++ sign true ";" p ∷ g))))

pub data SpellsMemberNode : MemberForm → List Lexeme → Type 0 where
  is_note_member : (m : MemberForm) (u : List Lexeme) → SpellsNoteMember m u → SpellsMemberNode m u
  is_empty_member : (p : Span) → SpellsMemberNode no_member (sign false ";" p ∷ [])
  is_field : (n p : Span) (ws groups : List Word) (ty : TypeTree) (x : List ℕ) (equals : Option Span) (value : Option Expression) (a b c g : List Lexeme)
      → SpellsModifiers ws a → SpellsType false ty b → IsTrue (is_name x) → SpellsValue false equals value c → SpellsGroups groups g
      → SpellsMemberNode (field ws ty (kept false x n) equals value groups) (a ++ (b ++ chosen_word false x n ∷ (c ++ sign false ";" p ∷ g)))
  is_method : (n : Span) (spec : Option Specification) (ws throws : List Word) (result : Option TypeTree) (x : List ℕ) (params : List ParamTree)
      (b : Option Body) (s a r c t d : List Lexeme) → SpellsOptionalSpec spec s → SpellsModifiers ws a → SpellsResult result r → IsTrue (is_name x)
      → SpellsParams params c → SpellsNamesAfter (codes "throws") throws t → SpellsMethodBody b d
      → SpellsMemberNode (method spec ws result (kept false x n) params throws b) (s ++ (a ++ (r ++ chosen_word false x n ∷ (c ++ (t ++ d)))))
  is_constructor : (n p : Span) (spec : Option Specification) (ws throws : List Word) (x : List ℕ) (params : List ParamTree) (b : Body)
      (s a c t d : List Lexeme) → SpellsOptionalSpec spec s → SpellsModifiers ws a → IsTrue (is_name x) → SpellsParams params c
      → SpellsNamesAfter (codes "throws") throws t → SpellsConstructorBody b p d
      → SpellsMemberNode (constructor_member spec ws (kept false x n) params throws b) (s ++ (a ++ chosen_word false x n ∷ (c ++ (t ++ d))))

-- A member's span is that of all its lexemes.
pub data SpellsMembers : List Member → List Lexeme → Type 0 where
  no_members : SpellsMembers [] []
  more_members : (m : MemberForm) (ms : List Member) (u v : List Lexeme) → SpellsMemberNode m u → SpellsMembers ms v
      → SpellsMembers (member_of (span_of_all u) m ∷ ms) (u ++ v)

-- ---- classes and files

-- one name, or nothing
abbrev pub is_one_or_none : List Word → Bool
is_one_or_none [] = true
is_one_or_none (w ∷ []) = true
is_one_or_none (w ∷ x ∷ ws) = false

-- A class's span is that of all its lexemes. A class extends one other at most.
pub data SpellsClass : Class → List Lexeme → Type 0 where
  is_class : (c n p q : Span) (ws extends implements : List Word) (x : List ℕ) (ms : List Member) (a t s m u : List Lexeme) → SpellsModifiers ws a
      → IsTrue (is_name x) → SpellsNamesAfter (codes "extends") extends t → IsTrue (is_one_or_none extends)
      → SpellsNamesAfter (codes "implements") implements s → SpellsMembers ms m
      → u ≡ a ++ word false "class" c ∷ chosen_word false x n ∷ (t ++ (s ++ sign false "{" p ∷ (m ++ sign false "}" q ∷ [])))
      → SpellsClass (class_of (span_of_all u) ws false (kept false x n) extends implements ms) u
  is_interface : (c n p q : Span) (ws extends : List Word) (x : List ℕ) (ms : List Member) (a t m u : List Lexeme) → SpellsModifiers ws a
      → IsTrue (is_name x) → SpellsNamesAfter (codes "extends") extends t → SpellsMembers ms m
      → u ≡ a ++ word false "interface" c ∷ chosen_word false x n ∷ (t ++ sign false "{" p ∷ (m ++ sign false "}" q ∷ []))
      → SpellsClass (class_of (span_of_all u) ws true (kept false x n) extends [] ms) u

pub data SpellsClasses : List Class → List Lexeme → Type 0 where
  no_classes : SpellsClasses [] []
  more_classes : (c : Class) (cs : List Class) (u v : List Lexeme) → SpellsClass c u → SpellsClasses cs v → SpellsClasses (c ∷ cs) (u ++ v)

-- names with dots between, one at least
pub data SpellsDotted : List Word → List Lexeme → Type 0 where
  last_part : (s : Span) (x : List ℕ) → IsTrue (is_name x) → SpellsDotted (kept false x s ∷ []) (chosen_word false x s ∷ [])
  first_part : (s p : Span) (x : List ℕ) (ws : List Word) (u : List Lexeme) → IsTrue (is_name x) → SpellsDotted ws u
      → SpellsDotted (kept false x s ∷ ws) (chosen_word false x s ∷ sign false "." p ∷ u)

pub data SpellsPackage : List Word → List Lexeme → Type 0 where
  no_package : SpellsPackage [] []
  some_package : (s p : Span) (ws : List Word) (u : List Lexeme) → SpellsDotted ws u
      → SpellsPackage ws (word false "package" s ∷ (u ++ sign false ";" p ∷ []))

-- The lexemes spell the unit, first its package and then its classes.
pub record SpellsUnit (t : SourceUnit) (ts : List Lexeme) : Type 0 where
  pub package_part : List Lexeme
  pub class_part : List Lexeme
  pub whole : ts ≡ package_part ++ class_part
  pub package_spelled : SpellsPackage t.in_package package_part
  pub classes_spelled : SpellsClasses t.classes class_part

-- The tokens spell what the file holds. Its lines are those of the text.
pub record SpellsFile (tokens : Tokens) (file : File) : Type 0 where
  pub unit : SpellsUnit (file_view file) (lexemes tokens)
  pub lines : file.lines ≡ lines_of tokens.text
