-- What the rules of files give is what the call answers.
use Rattle.std.proofs.Common.{◌≡◌, ◌⊎◌, ℕ, ◌-◌, ◌≤◌, ◌<◌, IsTrue, List, [], length, Result, Ok, Err, refl, sym, ap, ◌∙◌, subst, arith, inl, inr}
use Rattle.std.specs.Prelude.{slice_get}
use Rattle.std.proofs.lemmas.List.{length-map}
use Rattle.jesc_text.specs.declared.place.Place.{Place}
use Rattle.jesc_lexer.specs.declared.token.Tokens.{Tokens}
use Rattle.jesc_ast.specs.declared.class.File.{File}
use Rattle.jesc_ast.specs.Depth.{depth, of_classes, IsFileWithinLimits}
use Rattle.jesc_ast.specs.FileTrees.{SourceUnit, file_view}
use Rattle.jesc_ast.specs.Lexemes.{Lexeme, lexeme_of, lexemes}
use Rattle.jesc_ast.specs.Lines.{lines_of}
use Rattle.jesc_ast.specs.Members.{SpellsClasses, SpellsPackage, SpellsUnit, SpellsFile}
use Rattle.jesc_jml_grammar.specs.declared.fault.Fault.{Fault}
use Rattle.jesc_jml_grammar.specs.declared.fault.Fault.TheVariants as faults
use Rattle.jesc_jml_grammar.specs.declared.fault.ParseError.{ParseError}
use Rattle.jesc_jml_grammar.specs.declared.fault.ParseError.TheVariants as errors
use Rattle.jesc_jml_parser.specs.declared.error.SyntaxError.{SyntaxError}
use Rattle.jesc_jml_parser.specs.declared.error.SyntaxError.TheVariants as refusals
use Rattle.jesc_jml_grammar.specs.Steps.{Outcome}
use Rattle.jesc_jml_grammar.specs.laws.Refining.{ok_is}
use Rattle.jesc_jml_grammar.specs.Reading.{turns}
use Rattle.jesc_jml_grammar.specs.ClauseFound.{Sized, sized}
use Rattle.jesc_jml_parser.specs.LongestAnswers.{IsRefused, IsStuck}
use Rattle.jesc_jml_parser.specs.ParsedTrees.{IsTreeRefusal, IsAnswer}
use Rattle.jesc_jml_parser.specs.Refusals.{IsFault, place_of_next, is_quantifier_next}
use Rattle.jesc_jml_parser.specs.laws.Told.{IsErrorOf}
use Rattle.jesc_jml_parser.proofs.Seen.{quantifier_at}
use Rattle.jesc_java_grammar.specs.declared.make_class.Unit as code
use Rattle.jesc_java_grammar.specs.FileReading.{whole_file}
use Rattle.jesc_java_grammar.specs.GivenUnits.{IsUnitGiven}
use Rattle.jesc_java_grammar.specs.UnitViews.{unit_view}
use Rattle.jesc_java_parser.proofs.FileSound.{file_sound, file_within}
use Rattle.jesc_java_parser.proofs.FileDeepPlaces.{file_deep_place}
use Rattle.jesc_java_parser.proofs.WholeFile.{file_only, file_unexpected, file_deep}

module _ (tokens : Tokens) where
  abbrev ts : List Lexeme
  ts = lexemes tokens

  abbrev outcome : Outcome (Sized SourceUnit)
  outcome = whole_file turns 200 3 ts

  count : length ts ≡ length tokens.list
  count = length-map tokens.list (lexeme_of tokens.text)

  pub found_is : (u : code.Unit) → IsUnitGiven outcome (Ok u) → (file : File) → file_view file ≡ unit_view u → file.lines ≡ lines_of tokens.text
      → SpellsFile tokens file × IsFileWithinLimits (file_view file)
  found_is u (t, rest, is, tree) file view lines =
      let h = file_sound turns 200 3 ts rest t is in
      let same : t.tree ≡ file_view file = sym (view ∙ tree) in (
        record {
          unit = record {
            package_part = h.package_part;
            class_part = h.class_part;
            whole = h.whole;
            package_spelled = subst (λ (s : SourceUnit). SpellsPackage s.in_package h.package_part) same h.package_spelled;
            classes_spelled = subst (λ (s : SourceUnit). SpellsClasses s.classes h.class_part) same h.classes_spelled;
          };
          lines = lines;
        },
        subst IsFileWithinLimits same (file_within turns ts rest t is),
      )

  only_is : length tokens.list < turns → (t : SourceUnit) → SpellsUnit t ts → IsFileWithinLimits t → outcome ≡ Ok (sized t (of_classes depth 1 t.classes), [])
  only_is few t s within = file_only turns ts t (omega (arith, count)) s within

  -- the answer holds what is spelled
  pub answer_is : length tokens.list < turns → (u : code.Unit) → IsUnitGiven outcome (Ok u) → (t : SourceUnit) → SpellsUnit t ts → IsFileWithinLimits t → unit_view u ≡ t
  answer_is few u (p, rest, is, tree) t s within =
      tree ∙ ap (λ (z : Sized SourceUnit). z.tree) (ok_is p (sized t (of_classes depth 1 t.classes)) rest [] (sym is ∙ only_is few t s within)).0

  apart : (r : Outcome (Sized SourceUnit)) (f : Fault) (x : Sized SourceUnit) (rest : List Lexeme) → r ≡ Err f → r ≡ Ok (x, rest) → ⊥
  apart r f x rest a b = cc

  abbrev Answer : SourceUnit → Result File SyntaxError → Type 0
  Answer t = IsAnswer (λ file. file_view file ≡ t)

  -- where a file is spelled, the call tells nothing but that memory ran out
  pub memory_told : length tokens.list < turns → (error : ParseError) → IsUnitGiven outcome (Err error) → (told : SyntaxError) → IsErrorOf tokens error told → (t : SourceUnit)
      → SpellsUnit t ts → IsFileWithinLimits t → Answer t (Err told)
  memory_told few errors.Memory given told is t s within = subst (λ (e : SyntaxError). Answer t (Err e)) (sym is) tt
  memory_told few (errors.Fault f) given told is t s within = absurd (apart outcome f (sized t (of_classes depth 1 t.classes)) [] given (only_is few t s within))

  -- ---- the place of a fault

  deep_at : (n : ℕ) → outcome ≡ Err (faults.Deep n) → (150 ≤ length tokens.list - n - 0) ⊎ IsTrue (is_quantifier_next tokens (slice_get tokens.list (length tokens.list - n)))
  deep_at n is =
      let at : length ts - n ≡ length tokens.list - n = omega (arith, count) in
      elim (file_deep_place turns 200 3 ts n is) [
        | inl (note, word) ↦ inr (quantifier_at note tokens tokens.list (length tokens.list - n) (rw (← at) word))
        | inr late ↦ inl (omega (arith, late, at))
      ]

  fault_is : (such : ℕ → Type 0) (n : ℕ) → such (length ts - n) → (place : Place) → place ≡ place_of_next tokens (slice_get tokens.list (length tokens.list - n))
      → IsFault (λ at. such (at - 0)) tokens 0 place (length tokens.list - n)
  fault_is such n stands place placed =
      let at : length ts - n ≡ length tokens.list - n - 0 = omega (arith, count) in
      record { later = omega arith; stands = subst such at stands; placed = placed }

  abbrev Refusal : SyntaxError → Type 0
  Refusal = IsTreeRefusal SpellsUnit IsFileWithinLimits tokens 0

  pub refusal_is : (error : ParseError) → IsUnitGiven outcome (Err error) → (told : SyntaxError) → IsErrorOf tokens error told → Refusal told
  refusal_is errors.Memory given told is = subst Refusal (sym is) tt
  refusal_is (errors.Fault faults.Long) given told is = subst Refusal (sym is) tt
  refusal_is (errors.Fault (faults.Deep n)) given told is =
      subst Refusal (sym is) (length tokens.list - n, fault_is (IsStuck SpellsUnit IsFileWithinLimits ts) n (file_deep turns ts n given) _ refl, deep_at n given)
  refusal_is (errors.Fault (faults.Unexpected n)) given (refusals.Token place text) is =
      (length tokens.list - n, fault_is (IsRefused SpellsUnit ts) n (file_unexpected turns 200 3 ts n given) place is.0, is.1, is.2)
  refusal_is (errors.Fault (faults.Unexpected n)) given (refusals.LeftOut place word) is =
      (length tokens.list - n, fault_is (IsRefused SpellsUnit ts) n (file_unexpected turns 200 3 ts n given) place is.0, is.1, is.2)
  refusal_is (errors.Fault (faults.Unexpected n)) given (refusals.Deep place) is = absurd is
  refusal_is (errors.Fault (faults.Unexpected n)) given refusals.OutOfMemory is = tt
