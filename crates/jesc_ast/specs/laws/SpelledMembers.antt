-- The texts of the lexemes that spell a member, a class or a file are those of its tokens.
use Prim.Native.String.{String}
use Rattle.std.proofs.Common.{◌≡◌, ℕ, Bool, true, false, List, [], ◌∷◌, ◌++◌, Option, refl, sym, ap, ◌∙◌, subst, true≢false, append_assoc}
use Rattle.std.specs.Prelude.{IsTrue, codes, bytes_eq}
use Rattle.std.proofs.lemmas.List.{map-append}
use Rattle.std.proofs.lemmas.Slice.Eq.{bytes_eq-Decides}
use Rattle.jesc_text.specs.declared.place.Span.{Span}
use Rattle.jesc_lexer.specs.declared.token.Tokens.{Tokens}
use Rattle.jesc_ast.specs.declared.word.Word.{Word}
use Rattle.jesc_ast.specs.declared.word.TypeTree.{TypeTree}
use Rattle.jesc_ast.specs.declared.class.ParamTree.{ParamTree}
use Rattle.jesc_ast.specs.declared.class.File.{File}
use Rattle.jesc_ast.specs.Lexemes.{Lexeme, lexemes, kept}
use Rattle.jesc_ast.specs.Trees.{Expression, Body}
use Rattle.jesc_ast.specs.SpecTrees.{Specification}
use Rattle.jesc_ast.specs.FileTrees.{MemberForm, Member, Class, SourceUnit, file_view}
use Rattle.jesc_ast.specs.Specifications.{SpellsNames, last_name, first_name}
use Rattle.jesc_ast.specs.Members.{is_code_modifier, SpellsModifier, is_code_word, is_note_word, is_override, SpellsModifiers, no_modifiers, more_modifiers, SpellsNoteModifiers, no_note_modifiers, more_note_modifiers, SpellsValue, no_value, some_value, SpellsGroups, no_groups, some_groups, SpellsNamesAfter, no_names, some_names, SpellsOptionalSpec, no_spec, some_spec, SpellsParamModifiers, no_param_modifiers, final_modifier, null_modifier, SpellsParam, is_param, SpellsSomeParams, last_param, first_param, SpellsParams, no_params, some_params, SpellsResult, is_void, is_result, SpellsMethodBody, no_body, some_body, SpellsInvariantModifiers, no_invariant_modifiers, visibility_alone, instance_alone, visibility_and_instance, SpellsNoteMember, is_invariant, is_represents, is_spec_field, SpellsMemberNode, is_note_member, is_empty_member, is_field, is_method, is_constructor, SpellsMembers, no_members, more_members, SpellsClass, is_class, is_interface, SpellsClasses, no_classes, more_classes, SpellsDotted, last_part, first_part, SpellsPackage, no_package, some_package, SpellsUnit, SpellsFile}
use Rattle.jesc_ast.specs.Spelled.{Spelled, texts, code, noted, spell_word, spell_type, spell_optional_spec, spell_names, spell_words, spell_value, spell_groups, spell_names_after, spell_param, spell_params, spell_result, spell_method_body, spell_modifier, spell_modifiers, spell_member, spell_members, spell_class, spell_classes, spell_package, spell_file}
use Rattle.jesc_ast.specs.laws.SpelledExpressions.{joined, behind, expression_spelled, type_spelled}
use Rattle.jesc_ast.specs.laws.SpelledStatements.{body_spelled, constructor_body_spelled}
use Rattle.jesc_ast.specs.laws.SpelledSpecifications.{names_spelled, visibility_spelled, specification_spelled}

-- ---- modifiers

-- `Override` is no modifier of code by itself
no_override : (x : List ℕ) → IsTrue (is_code_modifier x) → bytes_eq x (codes "Override") ≡ false
no_override x one = by (bytes_eq x (codes "Override")) refl
  where
    by : (v : Bool) → bytes_eq x (codes "Override") ≡ v → v ≡ false
    by false is = refl
    by true is = let wrong : false ≡ true = subst (λ l. IsTrue (is_code_modifier l)) ((bytes_eq-Decides x (codes "Override")).0 is) one in absurd (true≢false (sym wrong))

modifier_spelled : (w : Word) (u : List Lexeme) → SpellsModifier w u → texts u ≡ spell_modifier w
modifier_spelled w u (is_code_word s x word) = rw (no_override x word) refl
modifier_spelled w u (is_note_word s x word) = refl
modifier_spelled w u (is_override at s) = refl

modifiers_spelled : (ws : List Word) (u : List Lexeme) → SpellsModifiers ws u → texts u ≡ spell_modifiers ws
modifiers_spelled ws u no_modifiers = refl
modifiers_spelled ws u (more_modifiers w vs v z first rest) = joined v z _ _ (modifier_spelled w v first) (modifiers_spelled vs z rest)

note_modifiers_spelled : (ws : List Word) (u : List Lexeme) → SpellsNoteModifiers ws u → texts u ≡ spell_words ws
note_modifiers_spelled ws u no_note_modifiers = refl
note_modifiers_spelled ws u (more_note_modifiers s x vs v word rest) = behind _ _ _ (note_modifiers_spelled vs v rest)

invariant_modifiers_spelled : (ws : List Word) (u : List Lexeme) → SpellsInvariantModifiers ws u → texts u ≡ spell_words ws
invariant_modifiers_spelled ws u no_invariant_modifiers = refl
invariant_modifiers_spelled ws u (visibility_alone s x word) = refl
invariant_modifiers_spelled ws u (instance_alone s) = refl
invariant_modifiers_spelled ws u (visibility_and_instance s n x word) = refl

param_modifiers_spelled : (ws : List Word) (u : List Lexeme) → SpellsParamModifiers ws u → texts u ≡ spell_words ws
param_modifiers_spelled ws u no_param_modifiers = refl
param_modifiers_spelled ws u (final_modifier s vs v rest) = behind _ _ _ (param_modifiers_spelled vs v rest)
param_modifiers_spelled ws u (null_modifier s x vs v word rest) = behind _ _ _ (param_modifiers_spelled vs v rest)

-- ---- parts of members

value_spelled : (note : Bool) (equals : Option Span) (value : Option Expression) (u : List Lexeme) → SpellsValue note equals value u → texts u ≡ spell_value note value
value_spelled note equals value u no_value = refl
value_spelled note equals value u (some_value s e v inner) = behind _ _ _ (expression_spelled note e v inner)

groups_some : (ws : List Word) (u : List Lexeme) → SpellsNames true ws u → noted "in" ∷ (spell_names (noted ",") ws ++ noted ";" ∷ []) ≡ spell_groups ws
groups_some ws u (last_name s x name) = refl
groups_some ws u (first_name s p x vs v name rest) = refl

groups_spelled : (ws : List Word) (u : List Lexeme) → SpellsGroups ws u → texts u ≡ spell_groups ws
groups_spelled ws u no_groups = refl
groups_spelled ws u (some_groups s p vs v names) = behind _ _ _ (joined v _ _ _ (names_spelled true vs v names) refl) ∙ groups_some vs v names

names_after_some : (text : String) (ws : List Word) (u : List Lexeme) → SpellsNames false ws u → code text ∷ spell_names (code ",") ws ≡ spell_names_after text ws
names_after_some text ws u (last_name s x name) = refl
names_after_some text ws u (first_name s p x vs v name rest) = refl

names_after_spelled : (text : String) (ws : List Word) (u : List Lexeme) → SpellsNamesAfter (codes text) ws u → texts u ≡ spell_names_after text ws
names_after_spelled text ws u no_names = refl
names_after_spelled text ws u (some_names s vs v names) = behind _ _ _ (names_spelled false vs v names) ∙ names_after_some text vs v names

optional_spec_spelled : (spec : Option Specification) (u : List Lexeme) → SpellsOptionalSpec spec u → texts u ≡ spell_optional_spec spec
optional_spec_spelled spec u no_spec = refl
optional_spec_spelled spec u (some_spec t v inner) = specification_spelled t v inner

param_spelled : (t : ParamTree) (u : List Lexeme) → SpellsParam t u → texts u ≡ spell_param t
param_spelled t u (is_param ws ty s x v w modifiers type name) = joined v _ _ _ (param_modifiers_spelled ws v modifiers) (joined w _ _ _ (type_spelled false ty w type) refl)

params_cons : (t : ParamTree) (ts : List ParamTree) (u : List Lexeme) → SpellsSomeParams ts u → spell_param t ++ code "," ∷ spell_params ts ≡ spell_params (t ∷ ts)
params_cons t ts u (last_param r v inner) = refl
params_cons t ts u (first_param r p rs v w first rest) = refl

some_params_spelled : (ts : List ParamTree) (u : List Lexeme) → SpellsSomeParams ts u → texts u ≡ spell_params ts
some_params_spelled ts u (last_param t v inner) = param_spelled t v inner
some_params_spelled ts u (first_param t p rs v w first rest) =
    joined v _ _ _ (param_spelled t v first) (behind _ _ _ (some_params_spelled rs w rest)) ∙ params_cons t rs w rest

-- with their parentheses, before what follows
params_spelled : (ts : List ParamTree) (u v : List Lexeme) (rest : List Spelled) → SpellsParams ts u → texts v ≡ rest
    → texts (u ++ v) ≡ code "(" ∷ (spell_params ts ++ code ")" ∷ rest)
params_spelled ts u v rest (no_params p q) same = behind _ _ _ (behind _ _ _ same)
params_spelled ts u v rest (some_params p q rs w inner) same =
    behind _ _ _ (joined (w ++ _ ∷ []) v _ _ (joined w _ _ _ (some_params_spelled rs w inner) refl) same ∙ append_assoc (spell_params rs) (code ")" ∷ []) rest)

result_spelled : (result : Option TypeTree) (u : List Lexeme) → SpellsResult result u → texts u ≡ spell_result result
result_spelled result u (is_void s) = refl
result_spelled result u (is_result t v type) = type_spelled false t v type

method_body_spelled : (b : Option Body) (u : List Lexeme) → SpellsMethodBody b u → texts u ≡ spell_method_body b
method_body_spelled b u (no_body p) = refl
method_body_spelled b u (some_body p c v inner) = body_spelled c p v inner

-- ---- members

note_member_spelled : (m : MemberForm) (u : List Lexeme) → SpellsNoteMember m u → texts u ≡ spell_member m
note_member_spelled m u (is_invariant s p e ws t v modifiers inner) =
    joined t _ _ _ (invariant_modifiers_spelled ws t modifiers) (behind _ _ _ (joined v _ _ _ (expression_spelled true e v inner) refl))
note_member_spelled m u (is_represents s n o p visibility x op e t v seen name sign inner) =
    joined t _ _ _ (visibility_spelled visibility t seen) (behind _ _ _ (behind _ _ _ (behind _ _ _ (joined v _ _ _ (expression_spelled true e v inner) refl))))
note_member_spelled m u (is_spec_field s n p before after groups x y ty equals value a b c d g first word second type no_modifier name given_value given_groups) =
    let behind_words : List Spelled = spell_type true ty ++ spell_word (kept true y n) ∷ (spell_value true value ++ noted ";" ∷ spell_groups groups) in
    joined a _ _ _ (note_modifiers_spelled before a first) (behind _ _ _ (joined b _ _ _ (note_modifiers_spelled after b second)
    (joined c _ _ _ (type_spelled true ty c type) (behind _ _ _ (joined d _ _ _ (value_spelled true equals value d given_value) (behind _ _ _ (groups_spelled groups g given_groups)))))))
    ∙ sym (append_assoc (spell_words before) (spell_word (kept true x s) ∷ spell_words after) behind_words)
    ∙ ap (λ l. l ++ behind_words) (sym (map-append spell_word before (kept true x s ∷ after)))

pub member_spelled : (m : MemberForm) (u : List Lexeme) → SpellsMemberNode m u → texts u ≡ spell_member m
member_spelled m u (is_note_member n v inner) = note_member_spelled n v inner
member_spelled m u (is_empty_member p) = refl
member_spelled m u (is_field n p ws groups ty x equals value a b c g modifiers type name given_value given_groups) =
    joined a _ _ _ (modifiers_spelled ws a modifiers) (joined b _ _ _ (type_spelled false ty b type)
    (behind _ _ _ (joined c _ _ _ (value_spelled false equals value c given_value) (behind _ _ _ (groups_spelled groups g given_groups)))))
member_spelled m u (is_method n spec ws throws result x params b s a r c t d given_spec modifiers type name given_params thrown inner) =
    joined s _ _ _ (optional_spec_spelled spec s given_spec) (joined a _ _ _ (modifiers_spelled ws a modifiers) (joined r _ _ _ (result_spelled result r type)
    (behind _ _ _ (params_spelled params c (t ++ d) _ given_params (joined t d _ _ (names_after_spelled "throws" throws t thrown) (method_body_spelled b d inner))))))
member_spelled m u (is_constructor n p spec ws throws x params b s a c t d given_spec modifiers name given_params thrown inner) =
    joined s _ _ _ (optional_spec_spelled spec s given_spec) (joined a _ _ _ (modifiers_spelled ws a modifiers)
    (behind _ _ _ (params_spelled params c (t ++ d) _ given_params (joined t d _ _ (names_after_spelled "throws" throws t thrown) (constructor_body_spelled b p d inner)))))

members_spelled : (ms : List Member) (u : List Lexeme) → SpellsMembers ms u → texts u ≡ spell_members ms
members_spelled ms u no_members = refl
members_spelled ms u (more_members m rest v w first others) = joined v w _ _ (member_spelled m v first) (members_spelled rest w others)

-- ---- classes and files

class_spelled : (c : Class) (u : List Lexeme) → SpellsClass c u → texts u ≡ spell_class c
class_spelled c u (is_class k n p q ws extends implements x ms a t s m v modifiers name above one_above interfaces members whole) =
    ap texts whole ∙ joined a _ _ _ (modifiers_spelled ws a modifiers) (behind _ _ _ (behind _ _ _
    (joined t _ _ _ (names_after_spelled "extends" extends t above) (joined s _ _ _ (names_after_spelled "implements" implements s interfaces)
    (behind _ _ _ (joined m _ _ _ (members_spelled ms m members) refl))))))
class_spelled c u (is_interface k n p q ws extends x ms a t m v modifiers name above members whole) =
    ap texts whole ∙ joined a _ _ _ (modifiers_spelled ws a modifiers) (behind _ _ _ (behind _ _ _
    (joined t _ _ _ (names_after_spelled "extends" extends t above) (behind _ _ _ (joined m _ _ _ (members_spelled ms m members) refl)))))

classes_spelled : (cs : List Class) (u : List Lexeme) → SpellsClasses cs u → texts u ≡ spell_classes cs
classes_spelled cs u no_classes = refl
classes_spelled cs u (more_classes c ds v w first rest) = joined v w _ _ (class_spelled c v first) (classes_spelled ds w rest)

dotted_cons : (w : Word) (ws : List Word) (u : List Lexeme) → SpellsDotted ws u → spell_word w ∷ code "." ∷ spell_names (code ".") ws ≡ spell_names (code ".") (w ∷ ws)
dotted_cons w ws u (last_part s x name) = refl
dotted_cons w ws u (first_part s p x vs v name rest) = refl

dotted_spelled : (ws : List Word) (u : List Lexeme) → SpellsDotted ws u → texts u ≡ spell_names (code ".") ws
dotted_spelled ws u (last_part s x name) = refl
dotted_spelled ws u (first_part s p x vs v name rest) = behind _ _ _ (behind _ _ _ (dotted_spelled vs v rest)) ∙ dotted_cons (kept false x s) vs v rest

package_some : (ws : List Word) (u : List Lexeme) → SpellsDotted ws u → code "package" ∷ (spell_names (code ".") ws ++ code ";" ∷ []) ≡ spell_package ws
package_some ws u (last_part s x name) = refl
package_some ws u (first_part s p x vs v name rest) = refl

package_spelled : (ws : List Word) (u : List Lexeme) → SpellsPackage ws u → texts u ≡ spell_package ws
package_spelled ws u no_package = refl
package_spelled ws u (some_package s p vs v names) = behind _ _ _ (joined v _ _ _ (dotted_spelled vs v names) refl) ∙ package_some vs v names

-- what a file holds, first its package and then its classes
pub unit_spelled : (t : SourceUnit) (u : List Lexeme) → SpellsUnit t u → texts u ≡ spell_file t
unit_spelled t u spells =
    ap texts spells.whole
    ∙ joined spells.package_part spells.class_part _ _ (package_spelled t.in_package spells.package_part spells.package_spelled)
    (classes_spelled t.classes spells.class_part spells.classes_spelled)

pub file_spelled : (tokens : Tokens) (file : File) → SpellsFile tokens file → texts (lexemes tokens) ≡ spell_file (file_view file)
file_spelled tokens file spells = unit_spelled (file_view file) (lexemes tokens) spells.unit
