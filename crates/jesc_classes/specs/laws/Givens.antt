-- The classes that tokens of files spell are few, and the words of their headings stand in a text that is short enough.
use Rattle.std.proofs.Common.{◌≡◌, ℕ, ◌+◌, ◌≤◌, ◌<◌, ◌^◌, List, [], ◌∷◌, ◌++◌, length, map, ap, sym, subst, true≢false, false, arith}
use Rattle.std.specs.Prelude.{IsTrue}
use Rattle.std.proofs.lemmas.List.{length-append, length-map}
use Rattle.std.proofs.lemmas.List.Elements.{All-from_recursion}
use Rattle.std.proofs.lemmas.List.Sums.{sum_by-cons}
use Rattle.std.specs.List.{All, AllZip, AllByRecursion, sum}
use Rattle.jesc_lexer.specs.declared.token.Token.{Token}
use Rattle.jesc_lexer.specs.declared.token.Tokens.{Tokens}
use Rattle.jesc_lexer.specs.Spans.{AreSpans}
use Rattle.jesc_ast.specs.declared.word.Word.{Word}
use Rattle.jesc_ast.specs.declared.class.ClassTree.{ClassTree}
use Rattle.jesc_ast.specs.declared.class.File.{File}
use Rattle.jesc_ast.specs.Lines.{IsLines}
use Rattle.jesc_ast.specs.Lexemes.{Lexeme, lexeme_of, lexemes}
use Rattle.jesc_ast.specs.FileTrees.{Class, class_view}
use Rattle.jesc_ast.specs.Specifications.{SpellsNames, last_name, first_name}
use Rattle.jesc_ast.specs.Members.{SpellsModifier, is_code_word, is_note_word, is_override, SpellsModifiers, no_modifiers, more_modifiers, SpellsNamesAfter, no_names, some_names, SpellsClass, is_class, is_interface, SpellsClasses, no_classes, more_classes, is_one_or_none}
use Rattle.jesc_ast.specs.laws.Places.{lines_rise}
use Rattle.jesc_classes.specs.Given.{IsSpelled, AreGiven, IsPlaced, ArePlaced}
use Rattle.jesc_classes.specs.Headings.{source, sources}
use Rattle.jesc_classes.specs.Entries.{ExtendsOne}

-- ---- lexemes of a short text

abbrev IsShort : Lexeme → Type 0
IsShort l = l.span.from ≤ 1048576

abbrev AreShort : List Lexeme → Type 0
AreShort = AllByRecursion IsShort

front : {X : Type 0} (P : X → Type 0) (xs ys : List X) → AllByRecursion P (xs ++ ys) → AllByRecursion P xs
front P [] ys h = tt
front P (x ∷ xs) ys h = (h.0, front P xs ys h.1)

back : {X : Type 0} (P : X → Type 0) (xs ys : List X) → AllByRecursion P (xs ++ ys) → AllByRecursion P ys
back P [] ys h = h
back P (x ∷ xs) ys h = back P xs ys h.1

both : {X : Type 0} (P : X → Type 0) (xs ys : List X) → AllByRecursion P xs → AllByRecursion P ys → AllByRecursion P (xs ++ ys)
both P [] ys h k = k
both P (x ∷ xs) ys h k = (h.0, both P xs ys h.1 k)

lexemes_short : (text : List ℕ) (size from : ℕ) (tokens : List Token) → size ≤ 1048576 → AreSpans size from tokens → AreShort (map (lexeme_of text) tokens)
lexemes_short text size from [] le h = tt
lexemes_short text size from (t ∷ ts) le h = (omega (arith, h.1, h.2, le), lexemes_short text size t.span.to ts le h.3)

-- ---- the words of a heading

abbrev EachPlaced : List Word → Type 0
EachPlaced = AllByRecursion IsPlaced

modifier_placed : (w : Word) (u : List Lexeme) → SpellsModifier w u → AreShort u → IsPlaced w
modifier_placed w u (is_code_word s x one) h = h.0
modifier_placed w u (is_note_word s x one) h = h.0
modifier_placed w u (is_override at s) h = h.1.0

modifiers_placed : (ws : List Word) (u : List Lexeme) → SpellsModifiers ws u → AreShort u → EachPlaced ws
modifiers_placed ws u no_modifiers h = tt
modifiers_placed ws u (more_modifiers w vs v z first rest) h = (modifier_placed w v first (front IsShort v z h), modifiers_placed vs z rest (back IsShort v z h))

names_placed : (ws : List Word) (u : List Lexeme) → SpellsNames false ws u → AreShort u → EachPlaced ws
names_placed ws u (last_name s x name) h = (h.0, tt)
names_placed ws u (first_name s p x vs v name rest) h = (h.0, names_placed vs v rest h.1.1)

names_after_placed : (text : List ℕ) (ws : List Word) (u : List Lexeme) → SpellsNamesAfter text ws u → AreShort u → EachPlaced ws
names_after_placed text ws u no_names h = tt
names_after_placed text ws u (some_names s vs v names) h = names_placed vs v names h.1

record HeadingPlaced (c : Class) : Type 0 where
  modifiers : EachPlaced c.modifiers
  name : IsPlaced c.name
  extends : EachPlaced c.extends
  implements : EachPlaced c.implements

class_placed : (c : Class) (u : List Lexeme) → SpellsClass c u → AreShort u → HeadingPlaced c
class_placed c u (is_class k n p q ws extends implements x ms a t s m v first name extended one implemented inside e) h =
    let all = subst AreShort e h in
    let behind = (back IsShort a _ all).1 in
    let names = behind.1 in
    record {
      modifiers = modifiers_placed ws a first (front IsShort a _ all);
      name = behind.0;
      extends = names_after_placed _ extends t extended (front IsShort t _ names);
      implements = names_after_placed _ implements s implemented (front IsShort s _ (back IsShort t _ names));
    }
class_placed c u (is_interface k n p q ws extends x ms a t m v first name extended inside e) h =
    let all = subst AreShort e h in
    let behind = (back IsShort a _ all).1 in
    record {
      modifiers = modifiers_placed ws a first (front IsShort a _ all);
      name = behind.0;
      extends = names_after_placed _ extends t extended (front IsShort t _ behind.1);
      implements = tt;
    }

classes_placed : (cs : List Class) (u : List Lexeme) → SpellsClasses cs u → AreShort u → AllByRecursion HeadingPlaced cs
classes_placed cs u no_classes h = tt
classes_placed cs u (more_classes c ds v w first rest) h = (class_placed c v first (front IsShort v w h), classes_placed ds w rest (back IsShort v w h))

-- ---- the given classes

sources_placed : (lines : List ℕ) (cs : List ClassTree) → IsLines lines → AllByRecursion HeadingPlaced (map class_view cs) → AllByRecursion ArePlaced (map (source lines) cs)
sources_placed lines [] are h = tt
sources_placed lines (c ∷ cs) are h = (one, sources_placed lines cs are h.1)
  where
    one : ArePlaced (source lines c)
    one = record {
      lines = are;
      modifiers = All-from_recursion IsPlaced c.modifiers h.0.modifiers;
      name = h.0.name;
      extends = All-from_recursion IsPlaced c.extends h.0.extends;
      implements = All-from_recursion IsPlaced c.implements h.0.implements;
    }

file_placed : (tokens : Tokens) (f : File) → IsSpelled tokens f → AllByRecursion ArePlaced (map (source f.lines) f.classes)
file_placed tokens f h =
    let unit = h.spelled.unit in
    let all = subst AreShort unit.whole (lexemes_short tokens.text (length tokens.text) 0 tokens.list h.short h.spans) in
    sources_placed f.lines f.classes (subst IsLines (sym h.spelled.lines) (lines_rise tokens.text))
    (classes_placed _ unit.class_part unit.classes_spelled (back IsShort unit.package_part unit.class_part all))

files_placed : (all : List Tokens) (files : List File) → AllZip IsSpelled all files → AllByRecursion ArePlaced (sources files)
files_placed [] [] h = tt
files_placed [] (f ∷ fs) h = absurd h
files_placed (t ∷ ts) [] h = absurd h
files_placed (t ∷ ts) (f ∷ fs) h = both ArePlaced (map (source f.lines) f.classes) (sources fs) (file_placed t f h.0) (files_placed ts fs h.1)

pub placed : (files : List File) → AreGiven files → All ArePlaced (sources files)
placed files given = All-from_recursion ArePlaced (sources files) (files_placed given.0 files given.1.each)

-- ---- a class extends one other at most

one_or_none : (ws : List Word) → IsTrue (is_one_or_none ws) → length ws ≤ 1
one_or_none [] h = omega arith
one_or_none (w ∷ []) h = omega arith
one_or_none (w ∷ x ∷ ws) h = absurd (true≢false (sym h))

class_single : (c : Class) (u : List Lexeme) → SpellsClass c u → c.is_interface ≡ false → length c.extends ≤ 1
class_single c u (is_class k n p q ws extends implements x ms a t s m v first name extended one implemented inside e) h = one_or_none extends one
class_single c u (is_interface k n p q ws extends x ms a t m v first name extended inside e) h = absurd (true≢false h)

abbrev IsSingle : Class → Type 0
IsSingle c = c.is_interface ≡ false → length c.extends ≤ 1

classes_single : (cs : List Class) (u : List Lexeme) → SpellsClasses cs u → AllByRecursion IsSingle cs
classes_single cs u no_classes = tt
classes_single cs u (more_classes c ds v w first rest) = (class_single c v first, classes_single ds w rest)

sources_single : (lines : List ℕ) (cs : List ClassTree) → AllByRecursion IsSingle (map class_view cs) → AllByRecursion ExtendsOne (map (source lines) cs)
sources_single lines [] h = tt
sources_single lines (c ∷ cs) h = (h.0, sources_single lines cs h.1)

files_single : (all : List Tokens) (files : List File) → AllZip IsSpelled all files → AllByRecursion ExtendsOne (sources files)
files_single [] [] h = tt
files_single [] (f ∷ fs) h = absurd h
files_single (t ∷ ts) [] h = absurd h
files_single (t ∷ ts) (f ∷ fs) h =
    let unit = h.0.spelled.unit in
    both ExtendsOne (map (source f.lines) f.classes) (sources fs) (sources_single f.lines f.classes (classes_single _ unit.class_part unit.classes_spelled)) (files_single ts fs h.1)

pub single : (files : List File) → AreGiven files → All ExtendsOne (sources files)
single files given = All-from_recursion ExtendsOne (sources files) (files_single given.0 files given.1.each)

-- ---- how many they are

one_at_least : (a : List Lexeme) (x : Lexeme) (b : List Lexeme) → 1 ≤ length (a ++ x ∷ b)
one_at_least a x b = omega (arith, length-append a (x ∷ b))

class_spelled : (c : Class) (u : List Lexeme) → SpellsClass c u → 1 ≤ length u
class_spelled c u (is_class k n p q ws extends implements x ms a t s m v first name extended one implemented inside e) =
    subst (λ (l : List Lexeme). 1 ≤ length l) (sym e) (one_at_least a _ _)
class_spelled c u (is_interface k n p q ws extends x ms a t m v first name extended inside e) =
    subst (λ (l : List Lexeme). 1 ≤ length l) (sym e) (one_at_least a _ _)

classes_few : (cs : List Class) (u : List Lexeme) → SpellsClasses cs u → length cs ≤ length u
classes_few cs u no_classes = omega arith
classes_few cs u (more_classes c ds v w first rest) = omega (arith, class_spelled c v first, classes_few ds w rest, length-append v w)

file_few : (tokens : Tokens) (f : File) → IsSpelled tokens f → length f.classes ≤ length tokens.list
file_few tokens f h =
    let unit = h.spelled.unit in
    let whole : length (lexemes tokens) ≡ length (unit.package_part ++ unit.class_part) = ap (λ (l : List Lexeme). length l) unit.whole in
    omega (arith, classes_few _ unit.class_part unit.classes_spelled, whole, length-append unit.package_part unit.class_part, length-map f.classes class_view, length-map tokens.list (lexeme_of tokens.text))

files_few : (all : List Tokens) (files : List File) → AllZip IsSpelled all files → length (sources files) ≤ sum (map (λ tokens. length tokens.list) all)
files_few [] [] h = omega arith
files_few [] (f ∷ fs) h = absurd h
files_few (t ∷ ts) [] h = absurd h
files_few (t ∷ ts) (f ∷ fs) h =
    let here = map (source f.lines) f.classes in
    omega (arith, file_few t f h.0, files_few ts fs h.1, length-append here (sources fs), length-map f.classes (source f.lines), sum_by-cons (λ (n : ℕ). n) (length t.list) (map (λ tokens. length tokens.list) ts))

pub few : (files : List File) → AreGiven files → length (sources files) + 7 < 2 ^ 32
few files given = omega (arith, files_few given.0 files given.1.each, given.1.few)
