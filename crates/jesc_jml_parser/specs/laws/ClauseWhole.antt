-- The parsers of specifications, and of members in annotations, give the longest tree that the lexemes begin with, and refuse
-- where none goes on.
use Rattle.std.proofs.Common.{◌≡◌, ℕ, ◌-◌, ◌<◌, Bool, true, false, List, [], ◌∷◌, ◌++◌, length, drop, Ok, Err, refl, sym, ap, subst, arith}
use Rattle.std.proofs.lemmas.Bool.{and_right}
use Rattle.jesc_text.specs.declared.place.Span.{Span}
use Rattle.jesc_ast.specs.Lexemes.{Lexeme, span_of_all}
use Rattle.jesc_ast.specs.SpecTrees.{Case, Specification}
use Rattle.jesc_ast.specs.FileTrees.{MemberForm, spec_field, Member, member_of}
use Rattle.jesc_ast.specs.Specifications.{SpellsSpec}
use Rattle.jesc_ast.specs.Depth.{depth, nesting, of_cases, of_member, IsSpecWithinLimits, IsMemberWithinLimits}
use Rattle.jesc_jml_grammar.specs.declared.fault.Fault.TheVariants.{Unexpected, Deep}
use Rattle.jesc_jml_grammar.specs.declared.note_word.NoteWord.{NoteWord}
use Rattle.jesc_jml_grammar.specs.declared.note_word.NoteWord.TheVariants as w
use Rattle.jesc_jml_grammar.specs.Steps.{Parser}
use Rattle.jesc_jml_grammar.specs.Reading.{expr}
use Rattle.jesc_jml_parser.specs.laws.Stable.{refines_expr}
use Rattle.jesc_jml_parser.specs.laws.Sound.{expr_takes}
use Rattle.jesc_jml_grammar.specs.ClauseMarks.{note_word, same_word}
use Rattle.jesc_jml_grammar.specs.ClauseReading as spec
use Rattle.jesc_jml_grammar.specs.ClauseReading.{Sized, sized}
use Rattle.jesc_jml_parser.specs.laws.ClauseEdges.{has_none, cases_go_on, spec_goes_on, member_goes_on}
use Rattle.jesc_jml_parser.specs.laws.ClauseStable.{refines_specification, refines_specification_behind, refines_member_annotation}
use Rattle.jesc_jml_parser.specs.laws.ClauseSoundStores.{TakesExpressions, takes_expressions}
use Rattle.jesc_jml_parser.specs.laws.ClauseSound.{specification_sound, specification_behind_sound, member_annotation_sound}
use Rattle.jesc_jml_parser.specs.laws.ClauseCompleteSpecs.{specification_complete, specification_behind_complete}
use Rattle.jesc_jml_parser.specs.laws.ClauseComplete.{member_annotation_complete}
use Rattle.jesc_jml_parser.specs.laws.ClauseViable.{spec_longer, member_longer}
use Rattle.jesc_jml_parser.specs.laws.LongestWhole as whole
use Rattle.jesc_jml_parser.specs.laws.LongestWhole.{IsExact}
use Rattle.jesc_jml_parser.specs.Annotations.{SpellsAnnotation}
use Rattle.jesc_jml_parser.specs.LongestAnswers.{IsLongest, IsRefused, IsStuck}

-- ---- the parsers

abbrev pub spec_parser : ℕ → ℕ → ℕ → Parser (Sized Specification)
spec_parser limit room k = spec.specification limit room (expr true limit room) k

abbrev pub spec_parser_behind : Lexeme → ℕ → ℕ → ℕ → Parser (Sized Specification)
spec_parser_behind v limit room k = spec.specification_behind limit room (expr true limit room) k v

abbrev pub member_parser : ℕ → ℕ → ℕ → Parser (Sized Member)
member_parser limit room k = spec.member_annotation limit room (expr true limit room) k

-- ---- measures

abbrev pub spec_depth : Specification → ℕ
spec_depth t = of_cases depth 1 t.cases

abbrev pub spec_nesting : Specification → ℕ
spec_nesting t = of_cases nesting 0 t.cases

abbrev pub member_depth : Member → ℕ
member_depth t = of_member depth 1 t.form

abbrev pub member_nesting : Member → ℕ
member_nesting t = of_member nesting 0 t.form

abbrev pub goes_on_with : Member → NoteWord → Bool
goes_on_with t = member_goes_on t.form

-- ---- nothing goes on at the end

cases_no_end : (cs : List Case) → cases_go_on cs w.Other ≡ false
unfolding same_word
cases_no_end [] = refl
cases_no_end (c ∷ []) = and_right (has_none c.promises) false refl
cases_no_end (c ∷ d ∷ cs) = cases_no_end (d ∷ cs)

pub form_no_end : (f : MemberForm) → member_goes_on f w.Other ≡ false
unfolding same_word
form_no_end (spec_field ws ty name equals value []) = refl
form_no_end (spec_field ws ty name equals value (g ∷ gs)) = refl
form_no_end _ = refl

pub reads : (limit room : ℕ) → TakesExpressions room (expr true limit room)
reads limit room = takes_expressions room (expr true limit room) (λ k least some start known ts. expr_takes true limit room k least some start known ts)

-- ---- specifications

pub spec_exact : IsExact 0 SpellsSpec IsSpecWithinLimits spec_depth spec_nesting spec_goes_on spec_parser
spec_exact = record {
  refines = λ same limit limit' limits room room' rooms same_rooms k k' ks same_ks.
      refines_specification same limit limit' limits room room' rooms same_rooms (expr true limit room) (expr true limit' room') k k'
      (λ least start. refines_expr same true limit limit' limits room room' rooms same_rooms k k' ks same_ks least start);
  complete = λ limit room k t u rest spelled shallow flat few ends. specification_complete limit room k t u rest spelled shallow flat (omega arith) ends;
  sound = λ limit room k ts rest t is.
      let S = specification_sound limit room (expr true limit room) (reads limit room) k ts rest t is in
      record { taken = S.taken; parts = S.parts; spelled = S.is.spelled; shallow = omega (arith, S.is.deep, S.is.shallow); flat = S.is.flat };
  ends = λ t. cases_no_end t.cases;
  longer = spec_longer;
  limited = λ t limits. (limits.shallow, limits.flat);
  fitting = λ t shallow flat. record { shallow = shallow; flat = flat };
}

pub spec_found : (limit : ℕ) (ts rest : List Lexeme) (p : Sized Specification) → spec_parser limit 200 3 ts ≡ Ok (p, rest) → IsLongest SpellsSpec IsSpecWithinLimits ts p.tree (length ts - length rest)
spec_found = whole.found 0 SpellsSpec IsSpecWithinLimits spec_depth spec_nesting spec_goes_on spec_parser spec_exact

pub spec_only : (limit : ℕ) (ts : List Lexeme) (t : Specification) (n : ℕ) → length ts < limit → IsLongest SpellsSpec IsSpecWithinLimits ts t n
    → spec_parser limit 200 3 ts ≡ Ok (sized t (of_cases depth 1 t.cases), drop n ts)
spec_only limit ts t n few is = whole.only 0 SpellsSpec IsSpecWithinLimits spec_depth spec_nesting spec_goes_on spec_parser spec_exact limit ts t n (omega arith) is

pub spec_unexpected : (limit room k : ℕ) (ts : List Lexeme) (n : ℕ) → spec_parser limit room k ts ≡ Err (Unexpected n) → IsRefused SpellsSpec ts (length ts - n)
spec_unexpected = whole.unexpected 0 SpellsSpec IsSpecWithinLimits spec_depth spec_nesting spec_goes_on spec_parser spec_exact

pub spec_deep : (limit : ℕ) (ts : List Lexeme) (n : ℕ) → spec_parser limit 200 3 ts ≡ Err (Deep n) → IsStuck SpellsSpec IsSpecWithinLimits ts (length ts - n)
spec_deep = whole.deep 0 SpellsSpec IsSpecWithinLimits spec_depth spec_nesting spec_goes_on spec_parser spec_exact

-- lexemes spell one specification at most
pub spec_unique : (t t' : Specification) (u : List Lexeme) → SpellsSpec t u → SpellsSpec t' u → t ≡ t'
spec_unique = whole.unique 0 SpellsSpec IsSpecWithinLimits spec_depth spec_nesting spec_goes_on spec_parser spec_exact

-- ---- specifications behind a visibility that was read before

-- the visibility and these lexemes spell the specification
abbrev pub SpellsBehind : Lexeme → Specification → List Lexeme → Type 0
SpellsBehind v t u = SpellsSpec t (v ∷ u)

pub spec_exact_behind : (v : Lexeme) → note_word v ≡ w.Visibility
    → IsExact 1 (SpellsBehind v) IsSpecWithinLimits spec_depth spec_nesting spec_goes_on (spec_parser_behind v)
spec_exact_behind v seen = record {
  refines = λ same limit limit' limits room room' rooms same_rooms k k' ks same_ks.
      refines_specification_behind same limit limit' limits room room' rooms same_rooms (expr true limit room) (expr true limit' room') k k'
      (λ least start. refines_expr same true limit limit' limits room room' rooms same_rooms k k' ks same_ks least start) v;
  complete = λ limit room k t u rest spelled shallow flat few ends. specification_behind_complete limit room k v t u rest seen spelled shallow flat (omega arith) ends;
  sound = λ limit room k ts rest t is.
      let S = specification_behind_sound limit room (expr true limit room) (reads limit room) k v seen ts rest t is in
      record { taken = S.taken; parts = S.parts; spelled = S.is.spelled; shallow = omega (arith, S.is.deep, S.is.shallow); flat = S.is.flat };
  ends = λ t. cases_no_end t.cases;
  longer = λ t u x spelled goes. spec_longer t (v ∷ u) x spelled goes;
  limited = λ t limits. (limits.shallow, limits.flat);
  fitting = λ t shallow flat. record { shallow = shallow; flat = flat };
}

-- ---- members

pub spanned : (t : Member) (u : List Lexeme) → SpellsAnnotation t u → member_of (span_of_all u) t.form ≡ t
spanned t u h = ap (λ (s : Span). member_of s t.form) (sym h.span)

pub member_exact : IsExact 0 SpellsAnnotation IsMemberWithinLimits member_depth member_nesting goes_on_with member_parser
member_exact = record {
  refines = λ same limit limit' limits room room' rooms same_rooms k k' ks same_ks.
      refines_member_annotation same limit limit' limits room room' rooms same_rooms (expr true limit room) (expr true limit' room') k k'
      (λ least start. refines_expr same true limit limit' limits room room' rooms same_rooms k k' ks same_ks least start);
  complete = λ limit room k t u rest spelled shallow flat few ends.
      subst (λ (z : Member). member_parser limit room k (u ++ rest) ≡ Ok (sized z (member_depth t), rest)) (spanned t u spelled)
      (member_annotation_complete limit room k t.form u rest spelled.form shallow flat (omega arith) ends);
  sound = λ limit room k ts rest t is.
      let S = member_annotation_sound limit room (expr true limit room) (reads limit room) k ts rest t is in
      record {
        taken = S.taken;
        parts = S.parts;
        spelled = record { form = S.is.read.spelled; span = S.is.span };
        shallow = omega (arith, S.is.read.deep, S.is.read.shallow);
        flat = S.is.read.flat;
      };
  ends = λ t. form_no_end t.form;
  longer = member_longer;
  limited = λ t limits. (limits.shallow, limits.flat);
  fitting = λ t shallow flat. record { shallow = shallow; flat = flat };
}

pub member_found : (limit : ℕ) (ts rest : List Lexeme) (p : Sized Member) → member_parser limit 200 3 ts ≡ Ok (p, rest) → IsLongest SpellsAnnotation IsMemberWithinLimits ts p.tree (length ts - length rest)
member_found = whole.found 0 SpellsAnnotation IsMemberWithinLimits member_depth member_nesting goes_on_with member_parser member_exact

pub member_only : (limit : ℕ) (ts : List Lexeme) (t : Member) (n : ℕ) → length ts < limit → IsLongest SpellsAnnotation IsMemberWithinLimits ts t n
    → member_parser limit 200 3 ts ≡ Ok (sized t (of_member depth 1 t.form), drop n ts)
member_only limit ts t n few is = whole.only 0 SpellsAnnotation IsMemberWithinLimits member_depth member_nesting goes_on_with member_parser member_exact limit ts t n (omega arith) is

pub member_unexpected : (limit room k : ℕ) (ts : List Lexeme) (n : ℕ) → member_parser limit room k ts ≡ Err (Unexpected n) → IsRefused SpellsAnnotation ts (length ts - n)
member_unexpected = whole.unexpected 0 SpellsAnnotation IsMemberWithinLimits member_depth member_nesting goes_on_with member_parser member_exact

pub member_deep : (limit : ℕ) (ts : List Lexeme) (n : ℕ) → member_parser limit 200 3 ts ≡ Err (Deep n) → IsStuck SpellsAnnotation IsMemberWithinLimits ts (length ts - n)
member_deep = whole.deep 0 SpellsAnnotation IsMemberWithinLimits member_depth member_nesting goes_on_with member_parser member_exact

-- lexemes spell one member at most
pub member_unique : (t t' : Member) (u : List Lexeme) → SpellsAnnotation t u → SpellsAnnotation t' u → t ≡ t'
member_unique = whole.unique 0 SpellsAnnotation IsMemberWithinLimits member_depth member_nesting goes_on_with member_parser member_exact
