-- The classes, fields and methods that tokens of files spell are few, and the words of members stand in a text that is short
-- enough.
use Rattle.std.proofs.Common.{◌≡◌, ℕ, ◌+◌, ◌≤◌, Bool, true, false, Option, None, List, [], ◌∷◌, ◌++◌, length, map, ap, sym, subst, arith}
use Rattle.std.proofs.lemmas.List.{length-append, length-map}
use Rattle.std.proofs.lemmas.List.Elements.{All-from_recursion}
use Rattle.std.proofs.lemmas.List.Sums.{sum_by-cons}
use Rattle.std.specs.List.{All, AllZip, AllByRecursion, sum}
use Rattle.jesc_lexer.specs.declared.token.Token.{Token}
use Rattle.jesc_lexer.specs.declared.token.Tokens.{Tokens}
use Rattle.jesc_lexer.specs.Spans.{AreSpans}
use Rattle.jesc_ast.specs.declared.word.Word.{Word}
use Rattle.jesc_ast.specs.declared.word.TypeTree.{TypeTree}
use Rattle.jesc_ast.specs.declared.class.ParamTree.{ParamTree}
use Rattle.jesc_ast.specs.declared.class.MemberTree.{MemberTree}
use Rattle.jesc_ast.specs.declared.class.MemberNode.{MemberNode}
use Rattle.jesc_ast.specs.declared.class.MemberNode.TheVariants as members
use Rattle.jesc_ast.specs.declared.class.ClassTree.{ClassTree}
use Rattle.jesc_ast.specs.declared.class.File.{File}
use Rattle.jesc_ast.specs.Lines.{IsLines}
use Rattle.jesc_ast.specs.Lexemes.{Lexeme, lexeme_of, lexemes, word, sign, chosen_word}
use Rattle.jesc_ast.specs.FileTrees.{MemberForm, no_member, field, spec_field, class_invariant, represents, method, constructor_member, Member, member_form, member_view, Class, class_view}
use Rattle.jesc_ast.specs.Expressions.{SpellsType, is_plain_type, is_array_type}
use Rattle.jesc_ast.specs.Specifications.{SpellsNames, last_name, first_name}
use Rattle.jesc_ast.specs.Members.{SpellsModifier, is_code_word, is_note_word, is_override, SpellsModifiers, no_modifiers, more_modifiers, SpellsNoteModifiers, no_note_modifiers, more_note_modifiers, SpellsGroups, no_groups, some_groups, SpellsNamesAfter, no_names, some_names, SpellsParamModifiers, no_param_modifiers, final_modifier, null_modifier, SpellsParam, is_param, SpellsSomeParams, last_param, first_param, SpellsParams, no_params, some_params, SpellsResult, is_void, is_result, SpellsNoteMember, is_invariant, is_represents, is_spec_field, SpellsMemberNode, is_note_member, is_empty_member, is_field, is_method, is_constructor, SpellsMembers, no_members, more_members, SpellsClass, is_class, is_interface, SpellsClasses, no_classes, more_classes}
use Rattle.jesc_ast.specs.laws.Places.{lines_rise}
use Rattle.jesc_classes.specs.Given.{IsSpelled, AreGiven, IsPlaced}
use Rattle.jesc_classes.specs.Headings.{Source, source, sources}
use Rattle.jesc_members.specs.Fields.{field_in, fields_in, fields_from}
use Rattle.jesc_members.specs.Methods.{method_in, methods_in, methods_from}
use Rattle.jesc_members.specs.Placed.{IsPlacedType, IsPlacedResult, IsPlacedParam, IsPlacedMember, AreMembersPlaced, AreFew}

-- ---- lexemes of a short text

abbrev IsShort : Lexeme → Type 0
IsShort l = l.span.from ≤ 1048576

abbrev AreShort : List Lexeme → Type 0
AreShort = AllByRecursion IsShort

front : {X : Type 0} (P : X → Type 0) (xs ys : List X) → AllByRecursion P (xs ++ ys) → AllByRecursion P xs
front P [] ys h = tt
front P (x ∷ xs) ys h = (h.0, front P xs ys h.1)

back : {X : Type 0} (P : X → Type 0) (xs ys : List X) → AllByRecursion P (xs ++ ys) → AllByRecursion P ys
back P [] ys h = h
back P (x ∷ xs) ys h = back P xs ys h.1

both : {X : Type 0} (P : X → Type 0) (xs ys : List X) → AllByRecursion P xs → AllByRecursion P ys → AllByRecursion P (xs ++ ys)
both P [] ys h k = k
both P (x ∷ xs) ys h k = (h.0, both P xs ys h.1 k)

lexemes_short : (text : List ℕ) (size from : ℕ) (tokens : List Token) → size ≤ 1048576 → AreSpans size from tokens → AreShort (map (lexeme_of text) tokens)
lexemes_short text size from [] le h = tt
lexemes_short text size from (t ∷ ts) le h = (omega (arith, h.1, h.2, le), lexemes_short text size t.span.to ts le h.3)

-- ---- the words of a member

abbrev EachPlaced : List Word → Type 0
EachPlaced = AllByRecursion IsPlaced

every : (ws : List Word) → EachPlaced ws → All IsPlaced ws
every ws h = All-from_recursion IsPlaced ws h

modifier_placed : (w : Word) (u : List Lexeme) → SpellsModifier w u → AreShort u → IsPlaced w
modifier_placed w u (is_code_word s x one) h = h.0
modifier_placed w u (is_note_word s x one) h = h.0
modifier_placed w u (is_override at s) h = h.1.0

modifiers_placed : (ws : List Word) (u : List Lexeme) → SpellsModifiers ws u → AreShort u → EachPlaced ws
modifiers_placed ws u no_modifiers h = tt
modifiers_placed ws u (more_modifiers w vs v z first rest) h = (modifier_placed w v first (front IsShort v z h), modifiers_placed vs z rest (back IsShort v z h))

note_modifiers_placed : (ws : List Word) (u : List Lexeme) → SpellsNoteModifiers ws u → AreShort u → EachPlaced ws
note_modifiers_placed ws u no_note_modifiers h = tt
note_modifiers_placed ws u (more_note_modifiers s x vs v one rest) h = (h.0, note_modifiers_placed vs v rest h.1)

names_placed : (note : Bool) (ws : List Word) (u : List Lexeme) → SpellsNames note ws u → AreShort u → EachPlaced ws
names_placed note ws u (last_name s x name) h = (h.0, tt)
names_placed note ws u (first_name s p x vs v name rest) h = (h.0, names_placed note vs v rest h.1.1)

names_after_placed : (text : List ℕ) (ws : List Word) (u : List Lexeme) → SpellsNamesAfter text ws u → AreShort u → EachPlaced ws
names_after_placed text ws u no_names h = tt
names_after_placed text ws u (some_names s vs v names) h = names_placed false vs v names h.1

groups_placed : (ws : List Word) (u : List Lexeme) → SpellsGroups ws u → AreShort u → EachPlaced ws
groups_placed ws u no_groups h = tt
groups_placed ws u (some_groups s p vs v names) h = names_placed true vs v names (front IsShort v _ h.1)

type_placed : (note : Bool) (t : TypeTree) (u : List Lexeme) → SpellsType note t u → AreShort u → IsPlacedType t
type_placed note t u (is_plain_type s x one) h = h.0
type_placed note t u (is_array_type s p q x one) h = h.0

result_placed : (t : Option TypeTree) (u : List Lexeme) → SpellsResult t u → AreShort u → IsPlacedResult t
result_placed t u (is_void s) h = tt
result_placed t u (is_result x v is) h = type_placed false x v is h

param_modifiers_placed : (ws : List Word) (u : List Lexeme) → SpellsParamModifiers ws u → AreShort u → EachPlaced ws
param_modifiers_placed ws u no_param_modifiers h = tt
param_modifiers_placed ws u (final_modifier s vs v rest) h = (h.0, param_modifiers_placed vs v rest h.1)
param_modifiers_placed ws u (null_modifier s x vs v one rest) h = (h.0, param_modifiers_placed vs v rest h.1)

param_placed : (p : ParamTree) (u : List Lexeme) → SpellsParam p u → AreShort u → IsPlacedParam p
param_placed p u (is_param ws t s x a b words ty name) h =
    let behind = back IsShort a _ h in
    record {
      modifiers = every ws (param_modifiers_placed ws a words (front IsShort a _ h));
      ty = type_placed false t b ty (front IsShort b _ behind);
      name = (back IsShort b _ behind).0;
    }

some_params_placed : (ps : List ParamTree) (u : List Lexeme) → SpellsSomeParams ps u → AreShort u → AllByRecursion IsPlacedParam ps
some_params_placed ps u (last_param t v one) h = (param_placed t v one h, tt)
some_params_placed ps u (first_param t p ts v w one rest) h = (param_placed t v one (front IsShort v _ h), some_params_placed ts w rest (back IsShort v _ h).1)

params_placed : (ps : List ParamTree) (u : List Lexeme) → SpellsParams ps u → AreShort u → All IsPlacedParam ps
params_placed ps u (no_params p q) h = All-from_recursion IsPlacedParam [] tt
params_placed ps u (some_params p q ts v some) h = All-from_recursion IsPlacedParam ts (some_params_placed ts v some (front IsShort v _ h.1))

-- ---- members

record FieldPlaced (ws : List Word) (t : TypeTree) (n : Word) (groups : List Word) : Type 0 where
  modifiers : All IsPlaced ws
  ty : IsPlacedType t
  name : IsPlaced n
  groups_are : All IsPlaced groups

record MethodPlaced (ws : List Word) (t : Option TypeTree) (n : Word) (ps : List ParamTree) (throws : List Word) : Type 0 where
  modifiers : All IsPlaced ws
  result : IsPlacedResult t
  name : IsPlaced n
  params : All IsPlacedParam ps
  thrown : All IsPlaced throws

abbrev FormPlaced : MemberForm → Type 0
FormPlaced no_member = Unit {0}
FormPlaced (field ws t n equals value groups) = FieldPlaced ws t n groups
FormPlaced (spec_field ws t n equals value groups) = FieldPlaced ws t n groups
FormPlaced (class_invariant ws e) = Unit {0}
FormPlaced (represents visibility n op e) = IsPlaced n
FormPlaced (method spec ws t n ps throws b) = MethodPlaced ws t n ps throws
FormPlaced (constructor_member spec ws n ps throws b) = MethodPlaced ws None n ps throws

note_placed : (m : MemberForm) (u : List Lexeme) → SpellsNoteMember m u → AreShort u → FormPlaced m
note_placed m u (is_invariant s p e ws t v words is) h = tt
note_placed m u (is_represents s n o p visibility x op e t v is name sign value) h = (back IsShort t _ h).1.0
note_placed m u (is_spec_field s n p before after groups x y ty equals value a b c d g first one second is plain name given_value grouped) h =
    let behind = back IsShort a _ h in
    let types = back IsShort b _ behind.1 in
    let names = back IsShort c _ types in
    record {
      modifiers = every _ (both IsPlaced before _ (note_modifiers_placed before a first (front IsShort a _ h)) (behind.0, note_modifiers_placed after b second (front IsShort b _ behind.1)));
      ty = type_placed true ty c is (front IsShort c _ types);
      name = names.0;
      groups_are = every groups (groups_placed groups g grouped (back IsShort d _ names.1).1);
    }

node_placed : (m : MemberForm) (u : List Lexeme) → SpellsMemberNode m u → AreShort u → FormPlaced m
node_placed m u (is_note_member f v is) h = note_placed f v is h
node_placed m u (is_empty_member p) h = tt
node_placed m u (is_field n p ws groups ty x equals value a b c g words is name given_value grouped) h =
    let types = back IsShort a _ h in
    let names = back IsShort b _ types in
    record {
      modifiers = every ws (modifiers_placed ws a words (front IsShort a _ h));
      ty = type_placed false ty b is (front IsShort b _ types);
      name = names.0;
      groups_are = every groups (groups_placed groups g grouped (back IsShort c _ names.1).1);
    }
node_placed m u (is_method n spec ws throws result x params b s a r c t d specified words is name listed thrown body) h =
    let first = back IsShort s _ h in
    let results = back IsShort a _ first in
    let names = back IsShort r _ results in
    let behind = back IsShort c _ names.1 in
    record {
      modifiers = every ws (modifiers_placed ws a words (front IsShort a _ first));
      result = result_placed result r is (front IsShort r _ results);
      name = names.0;
      params = params_placed params c listed (front IsShort c _ names.1);
      thrown = every throws (names_after_placed _ throws t thrown (front IsShort t _ behind));
    }
node_placed m u (is_constructor n p spec ws throws x params b s a c t d specified words name listed thrown body) h =
    let first = back IsShort s _ h in
    let names = back IsShort a _ first in
    let behind = back IsShort c _ names.1 in
    record {
      modifiers = every ws (modifiers_placed ws a words (front IsShort a _ first));
      result = tt;
      name = names.0;
      params = params_placed params c listed (front IsShort c _ names.1);
      thrown = every throws (names_after_placed _ throws t thrown (front IsShort t _ behind));
    }

abbrev MembersPlaced : List Member → Type 0
MembersPlaced = AllByRecursion (λ m. FormPlaced m.form)

forms_placed : (ms : List Member) (u : List Lexeme) → SpellsMembers ms u → AreShort u → MembersPlaced ms
forms_placed ms u no_members h = tt
forms_placed ms u (more_members m ns v w first rest) h = (node_placed m v first (front IsShort v w h), forms_placed ns w rest (back IsShort v w h))

member_placed : (m : MemberNode) → FormPlaced (member_form m) → IsPlacedMember m
member_placed members.Empty h = tt
member_placed (members.Field f) h = record { modifiers = h.modifiers; ty = h.ty; name = h.name; groups = h.groups_are }
member_placed (members.SpecField f) h = record { modifiers = h.modifiers; ty = h.ty; name = h.name; groups = h.groups_are }
member_placed (members.Invariant i) h = tt
member_placed (members.Represents r) h = h
member_placed (members.Method m) h = record { modifiers = h.modifiers; result = h.result; name = h.name; params = h.params; throws = h.thrown }
member_placed (members.Constructor c) h = record { modifiers = h.modifiers; name = h.name; params = h.params; throws = h.thrown }

each_placed : (ms : List MemberTree) → MembersPlaced (map member_view ms) → AllByRecursion (λ m. IsPlacedMember m.node) ms
each_placed [] h = tt
each_placed (m ∷ ms) h = (member_placed m.node h.0, each_placed ms h.1)

-- ---- classes

record ClassPlaced (c : Class) : Type 0 where
  name : IsPlaced c.name
  members : MembersPlaced c.members

class_placed : (c : Class) (u : List Lexeme) → SpellsClass c u → AreShort u → ClassPlaced c
class_placed c u (is_class k n p q ws extends implements x ms a t s m v first name extended one implemented inside e) h =
    let all = subst AreShort e h in
    let behind = (back IsShort a _ all).1 in
    let bodies = (back IsShort s _ (back IsShort t _ behind.1)).1 in
    record { name = behind.0; members = forms_placed ms m inside (front IsShort m _ bodies) }
class_placed c u (is_interface k n p q ws extends x ms a t m v first name extended inside e) h =
    let all = subst AreShort e h in
    let behind = (back IsShort a _ all).1 in
    let bodies = (back IsShort t _ behind.1).1 in
    record { name = behind.0; members = forms_placed ms m inside (front IsShort m _ bodies) }

classes_placed : (cs : List Class) (u : List Lexeme) → SpellsClasses cs u → AreShort u → AllByRecursion ClassPlaced cs
classes_placed cs u no_classes h = tt
classes_placed cs u (more_classes c ds v w first rest) h = (class_placed c v first (front IsShort v w h), classes_placed ds w rest (back IsShort v w h))

sources_placed : (lines : List ℕ) (cs : List ClassTree) → IsLines lines → AllByRecursion ClassPlaced (map class_view cs) → AllByRecursion AreMembersPlaced (map (source lines) cs)
sources_placed lines [] are h = tt
sources_placed lines (c ∷ cs) are h = (one, sources_placed lines cs are h.1)
  where
    one : AreMembersPlaced (source lines c)
    one = record {
      lines = are;
      name = h.0.name;
      members = All-from_recursion (λ m. IsPlacedMember m.node) c.members (each_placed c.members h.0.members);
    }

file_placed : (tokens : Tokens) (f : File) → IsSpelled tokens f → AllByRecursion AreMembersPlaced (map (source f.lines) f.classes)
file_placed tokens f h =
    let unit = h.spelled.unit in
    let all = subst AreShort unit.whole (lexemes_short tokens.text (length tokens.text) 0 tokens.list h.short h.spans) in
    sources_placed f.lines f.classes (subst IsLines (sym h.spelled.lines) (lines_rise tokens.text))
    (classes_placed _ unit.class_part unit.classes_spelled (back IsShort unit.package_part unit.class_part all))

files_placed : (all : List Tokens) (files : List File) → AllZip IsSpelled all files → AllByRecursion AreMembersPlaced (sources files)
files_placed [] [] h = tt
files_placed [] (f ∷ fs) h = absurd h
files_placed (t ∷ ts) [] h = absurd h
files_placed (t ∷ ts) (f ∷ fs) h = both AreMembersPlaced (map (source f.lines) f.classes) (sources fs) (file_placed t f h.0) (files_placed ts fs h.1)

pub members_placed : (files : List File) → AreGiven files → All AreMembersPlaced (sources files)
members_placed files given = All-from_recursion AreMembersPlaced (sources files) (files_placed given.0 files given.1.each)

-- ---- how many they are

one_at_least : (a : List Lexeme) (x : Lexeme) (b : List Lexeme) → 1 ≤ length (a ++ x ∷ b)
one_at_least a x b = omega (arith, length-append a (x ∷ b))

behind_too : (a b : List Lexeme) → 1 ≤ length b → 1 ≤ length (a ++ b)
behind_too a b l = omega (arith, l, length-append a b)

note_spelled : (m : MemberForm) (u : List Lexeme) → SpellsNoteMember m u → 1 ≤ length u
note_spelled m u (is_invariant s p e ws t v words is) = one_at_least t _ _
note_spelled m u (is_represents s n o p visibility x op e t v is name sign value) = one_at_least t _ _
note_spelled m u (is_spec_field s n p before after groups x y ty equals value a b c d g first one second is plain name given_value grouped) = one_at_least a _ _

node_spelled : (m : MemberForm) (u : List Lexeme) → SpellsMemberNode m u → 1 ≤ length u
node_spelled m u (is_note_member f v is) = note_spelled f v is
node_spelled m u (is_empty_member p) = omega arith
node_spelled m u (is_field n p ws groups ty x equals value a b c g words is name given_value grouped) = behind_too a _ (one_at_least b _ _)
node_spelled m u (is_method n spec ws throws result x params b s a r c t d specified words is name listed thrown body) = behind_too s _ (behind_too a _ (one_at_least r _ _))
node_spelled m u (is_constructor n p spec ws throws x params b s a c t d specified words name listed thrown body) = behind_too s _ (one_at_least a _ _)

forms_few : (ms : List Member) (u : List Lexeme) → SpellsMembers ms u → length ms ≤ length u
forms_few ms u no_members = omega arith
forms_few ms u (more_members m ns v w first rest) = omega (arith, node_spelled m v first, forms_few ns w rest, length-append v w)

class_few : (c : Class) (u : List Lexeme) → SpellsClass c u → 1 + length c.members ≤ length u
class_few c u (is_class k n p q ws extends implements x ms a t s m v first name extended one implemented inside e) =
    let whole = ap (λ (l : List Lexeme). length l) e in
    let body = sign false "{" p ∷ (m ++ sign false "}" q ∷ []) in
    let heading = word false "class" k ∷ chosen_word false x n ∷ (t ++ (s ++ body)) in
    omega (arith, forms_few ms m inside, whole, length-append a heading, length-append t (s ++ body), length-append s body, length-append m (sign false "}" q ∷ []))
class_few c u (is_interface k n p q ws extends x ms a t m v first name extended inside e) =
    let whole = ap (λ (l : List Lexeme). length l) e in
    let body = sign false "{" p ∷ (m ++ sign false "}" q ∷ []) in
    let heading = word false "interface" k ∷ chosen_word false x n ∷ (t ++ body) in
    omega (arith, forms_few ms m inside, whole, length-append a heading, length-append t body, length-append m (sign false "}" q ∷ []))

-- the classes and their members
abbrev heft : List Class → ℕ
heft [] = 0
heft (c ∷ cs) = 1 + length c.members + heft cs

classes_few : (cs : List Class) (u : List Lexeme) → SpellsClasses cs u → heft cs ≤ length u
classes_few cs u no_classes = omega arith
classes_few cs u (more_classes c ds v w first rest) = omega (arith, class_few c v first, classes_few ds w rest, length-append v w)

abbrev weight : List Source → ℕ
weight [] = 0
weight (s ∷ ss) = 1 + length s.tree.members + weight ss

weight-append : (xs ys : List Source) → weight (xs ++ ys) ≡ weight xs + weight ys
weight-append [] ys = omega arith
weight-append (x ∷ xs) ys = omega (arith, weight-append xs ys)

weight_of : (lines : List ℕ) (cs : List ClassTree) → weight (map (source lines) cs) ≡ heft (map class_view cs)
weight_of lines [] = omega arith
weight_of lines (c ∷ cs) = omega (arith, weight_of lines cs, length-map c.members member_view)

file_few : (tokens : Tokens) (f : File) → IsSpelled tokens f → heft (map class_view f.classes) ≤ length tokens.list
file_few tokens f h =
    let unit = h.spelled.unit in
    let whole : length (lexemes tokens) ≡ length (unit.package_part ++ unit.class_part) = ap (λ (l : List Lexeme). length l) unit.whole in
    omega (arith, classes_few _ unit.class_part unit.classes_spelled, whole, length-append unit.package_part unit.class_part, length-map tokens.list (lexeme_of tokens.text))

files_few : (all : List Tokens) (files : List File) → AllZip IsSpelled all files → weight (sources files) ≤ sum (map (λ tokens. length tokens.list) all)
files_few [] [] h = omega arith
files_few [] (f ∷ fs) h = absurd h
files_few (t ∷ ts) [] h = absurd h
files_few (t ∷ ts) (f ∷ fs) h =
    let here = map (source f.lines) f.classes in
    omega (arith, file_few t f h.0, files_few ts fs h.1, weight-append here (sources fs), weight_of f.lines f.classes, sum_by-cons (λ (n : ℕ). n) (length t.list) (map (λ tokens. length tokens.list) ts))

one_or_none : (class : ℕ) (s : Source) (m : MemberNode) → length (field_in class s m) + length (method_in class s m) ≤ 1
one_or_none class s members.Empty = omega arith
one_or_none class s (members.Field f) = omega arith
one_or_none class s (members.SpecField f) = omega arith
one_or_none class s (members.Invariant i) = omega arith
one_or_none class s (members.Represents r) = omega arith
one_or_none class s (members.Method m) = omega arith
one_or_none class s (members.Constructor c) = omega arith

declared_few : (class : ℕ) (s : Source) (ms : List MemberTree) → length (fields_in class s ms) + length (methods_in class s ms) ≤ length ms
declared_few class s [] = omega arith
declared_few class s (m ∷ ms) =
    omega (arith, one_or_none class s m.node, declared_few class s ms, length-append (field_in class s m.node) (fields_in class s ms), length-append (method_in class s m.node) (methods_in class s ms))

all_few : (class : ℕ) (given : List Source) → length given + (length (fields_from class given) + length (methods_from class given)) ≤ weight given
all_few class [] = omega arith
all_few class (s ∷ ss) =
    let ms = s.tree.members in
    omega (arith, declared_few class s ms, all_few (class + 1) ss, length-append (fields_in class s ms) (fields_from (class + 1) ss), length-append (methods_in class s ms) (methods_from (class + 1) ss))

pub members_few : (files : List File) → AreGiven files → AreFew (sources files)
members_few files given =
    let all = all_few 7 (sources files) in
    let most = files_few given.0 files given.1.each in
    record {
      classes = omega (arith, all, most, given.1.few);
      fields = omega (arith, all, most, given.1.few);
      methods = omega (arith, all, most, given.1.few);
    }
