-- What the functional form of a parser of trees gives is what its call answers.
use Rattle.std.proofs.Common.{◌≡◌, ◌⊎◌, ℕ, ◌+◌, ◌-◌, ◌≤◌, ◌<◌, Bool, true, IsTrue, List, length, drop, Result, Ok, Err, refl, sym, ap, ◌∙◌, subst, arith, inl, inr}
use Rattle.std.specs.Prelude.{slice_get}
use Rattle.std.proofs.lemmas.List.{length-drop, drop-drop}
use Rattle.jesc_text.specs.declared.place.Place.{Place}
use Rattle.jesc_lexer.specs.declared.token.Tokens.{Tokens}
use Rattle.jesc_ast.specs.Lexemes.{Lexeme, lexemes}
use Rattle.jesc_jml_grammar.specs.declared.fault.Fault.{Fault}
use Rattle.jesc_jml_grammar.specs.declared.fault.Fault.TheVariants as faults
use Rattle.jesc_jml_grammar.specs.declared.fault.ParseError.{ParseError}
use Rattle.jesc_jml_grammar.specs.declared.fault.ParseError.TheVariants as errors
use Rattle.jesc_jml_parser.specs.declared.error.SyntaxError.{SyntaxError}
use Rattle.jesc_jml_parser.specs.declared.error.SyntaxError.TheVariants as refusals
use Rattle.jesc_jml_grammar.specs.Steps.{Outcome, Parser, mark_at}
use Rattle.jesc_jml_grammar.specs.laws.Refining.{Refines, ok_is}
use Rattle.jesc_jml_grammar.specs.Reading.{is_quantifier_mark, turns}
use Rattle.jesc_jml_parser.specs.laws.Places.{split_at}
use Rattle.jesc_jml_parser.specs.LongestAnswers.{IsLongest, IsRefused, IsStuck}
use Rattle.jesc_jml_parser.specs.Refusals.{IsFault, place_of_next, is_quantifier_next}
use Rattle.jesc_jml_parser.specs.ParsedTrees.{lexemes_from, IsFoundTree, IsTreeRefusal, IsTreeAnswer}
use Rattle.jesc_jml_parser.specs.laws.Told.{IsErrorOf}
use Rattle.jesc_jml_parser.specs.laws.Given.{IsTreeGiven}
use Rattle.jesc_jml_parser.proofs.Seen.{count, quantifier_at}

-- What is known of a parser in annotations, or in code without `note`. `tree_of` tells the tree of what it finds.
pub record Parses {T P : Type 0} (tree_of : P → T) (note : Bool) (spells : T → List Lexeme → Type 0) (fits : T → Type 0) (parse : Parser P) : Type 0 where
  pub stable : Refines true parse parse
  pub found : (ts rest : List Lexeme) (p : P) → parse ts ≡ Ok (p, rest) → IsLongest spells fits ts (tree_of p) (length ts - length rest)
  pub only : (ts : List Lexeme) (t : T) (n : ℕ) → length ts < turns → IsLongest spells fits ts t n → (p : P) × (parse ts ≡ Ok (p, drop n ts)) × (tree_of p ≡ t)
  pub unexpected : (ts : List Lexeme) (n : ℕ) → parse ts ≡ Err (faults.Unexpected n) → IsRefused spells ts (length ts - n)
  pub deep : (ts : List Lexeme) (n : ℕ) → parse ts ≡ Err (faults.Deep n) → IsStuck spells fits ts (length ts - n)
  pub place : (ts : List Lexeme) (n : ℕ) → parse ts ≡ Err (faults.Deep n)
      → (is_quantifier_mark (mark_at note (drop (length ts - n) ts)) ≡ true) ⊎ (200 ≤ (length ts - n) + 2)

-- so many are fewer than the turns of a list
pub fewer_turns : (n : ℕ) → n ≤ 1048576 → n < turns
unfolding turns
fewer_turns n few = omega arith

module _ {X T P : Type 0} (see : X → T) {tree_of : P → T} {note : Bool} {spells : T → List Lexeme → Type 0} {fits : T → Type 0} {parse : Parser P}
    (known : Parses tree_of note spells fits parse) (tokens : Tokens) (from : ℕ) (le : from ≤ length tokens.list) where
  abbrev ts : List Lexeme
  ts = lexemes_from tokens from

  abbrev Given : Result (X × ℕ) ParseError → Type 0
  Given = IsTreeGiven see tree_of (parse ts) (length tokens.list)

  left_of : (p : P) (rest : List Lexeme) → parse ts ≡ Ok (p, rest) → length rest ≤ length ts
  left_of p rest is = let a = known.stable.oks ts rest p is in (split_at ts a.taken rest (length rest) a.parts refl).2

  pub found_is : (a : X × ℕ) → Given (Ok a) → IsFoundTree spells fits tokens from (see a.0) a.1
  found_is a (p, rest, is, tree, next) =
      let few : length rest ≤ length ts = left_of p rest is in
      let at : length ts - length rest ≡ a.1 - from = omega (arith, next, count tokens from) in
      record {
        later = omega (arith, next, few, count tokens from);
        longest = subst (λ (t : T). IsLongest spells fits ts t (a.1 - from)) (sym tree) (subst (IsLongest spells fits ts (tree_of p)) at (known.found ts rest p is));
      }

  only_is : length tokens.list < turns → (t : T) (next : ℕ) → IsFoundTree spells fits tokens from t next
      → (p : P) × (parse ts ≡ Ok (p, drop (next - from) ts)) × (tree_of p ≡ t)
  only_is few t next is = known.only ts t (next - from) (omega (arith, count tokens from)) is.longest

  -- the answer is the tree that was found
  pub answer_is : length tokens.list < turns → (a : X × ℕ) → Given (Ok a) → (t : T) (next : ℕ) → IsFoundTree spells fits tokens from t next
      → (see a.0 ≡ t) × (a.1 ≡ next)
  answer_is few a (p, rest, is, tree, at) t next wanted =
      let o = only_is few t next wanted in
      let both = ok_is p o.0 rest (drop (next - from) ts) (sym is ∙ o.1) in
      let left : length rest ≡ length ts - (next - from) = ap length both.1 ∙ length-drop (next - from) ts in
      (tree ∙ ap tree_of both.0 ∙ o.2, omega (arith, at, left, count tokens from, wanted.later, wanted.longest.within))

  apart : (r : Outcome P) (f : Fault) (x : P) (rest : List Lexeme) → r ≡ Err f → r ≡ Ok (x, rest) → ⊥
  apart r f x rest a b = cc

  -- where a tree is there, the call tells nothing but that memory ran out
  pub memory_told : length tokens.list < turns → (error : ParseError) → Given (Err error) → (told : SyntaxError) → IsErrorOf tokens error told
      → (t : T) (next : ℕ) → IsFoundTree spells fits tokens from t next → IsTreeAnswer see t next (Err told)
  memory_told few errors.Memory given told is t next wanted = subst (λ (e : SyntaxError). IsTreeAnswer see t next (Err e)) (sym is) _
  memory_told few (errors.Fault f) given told is t next wanted = let o = only_is few t next wanted in absurd (apart _ f o.0 _ given o.1)

  -- ---- the place of a fault

  fault_left : (n : ℕ) → parse ts ≡ Err (faults.Unexpected n) → n ≤ length ts
  fault_left n is = let s = known.stable.errs ts n is in (split_at ts s.taken s.rest n s.parts s.left).2

  deep_left : (n : ℕ) → parse ts ≡ Err (faults.Deep n) → n ≤ length ts
  deep_left n is = let s = known.stable.deeps refl ts n is in (split_at ts s.taken s.rest n s.parts s.left).2

  deep_at : (n : ℕ) → n ≤ length ts → parse ts ≡ Err (faults.Deep n)
      → (150 ≤ length tokens.list - n - from) ⊎ IsTrue (is_quantifier_next tokens (slice_get tokens.list (length tokens.list - n)))
  deep_at n few is =
      let at : from + (length ts - n) ≡ length tokens.list - n = omega (arith, few, count tokens from) in
      elim (known.place ts n is) [
        | inl word ↦
            let there : drop (length ts - n) ts ≡ drop (length tokens.list - n) (lexemes tokens) =
            drop-drop (length ts - n) from (lexemes tokens) ∙ ap (λ (k : ℕ). drop k (lexemes tokens)) at in
            inr (quantifier_at note tokens tokens.list (length tokens.list - n)
            (subst (λ (z : List Lexeme). is_quantifier_mark (mark_at note z) ≡ true) there word))
        | inr late ↦ inl (omega (arith, late, few, count tokens from))
      ]

  fault_is : (such : ℕ → Type 0) (n : ℕ) → n ≤ length ts → such (length ts - n) → (place : Place)
      → place ≡ place_of_next tokens (slice_get tokens.list (length tokens.list - n))
      → IsFault (λ at. such (at - from)) tokens from place (length tokens.list - n)
  fault_is such n few stands place placed =
      let at : length ts - n ≡ length tokens.list - n - from = omega (arith, few, count tokens from) in
      record { later = omega (arith, few, count tokens from); stands = subst such at stands; placed = placed }

  pub refusal_is : (error : ParseError) → Given (Err error) → (told : SyntaxError) → IsErrorOf tokens error told → IsTreeRefusal spells fits tokens from told
  refusal_is errors.Memory given told is = subst (IsTreeRefusal spells fits tokens from) (sym is) _
  refusal_is (errors.Fault faults.Long) given told is = subst (IsTreeRefusal spells fits tokens from) (sym is) _
  refusal_is (errors.Fault (faults.Deep n)) given told is =
      let few = deep_left n given in
      subst (IsTreeRefusal spells fits tokens from) (sym is)
      (length tokens.list - n, fault_is (IsStuck spells fits ts) n few (known.deep ts n given) _ refl, deep_at n few given)
  refusal_is (errors.Fault (faults.Unexpected n)) given (refusals.Token place text) is =
      (length tokens.list - n, fault_is (IsRefused spells ts) n (fault_left n given) (known.unexpected ts n given) place is.0, is.1, is.2)
  refusal_is (errors.Fault (faults.Unexpected n)) given (refusals.LeftOut place word) is =
      (length tokens.list - n, fault_is (IsRefused spells ts) n (fault_left n given) (known.unexpected ts n given) place is.0, is.1, is.2)
  refusal_is (errors.Fault (faults.Unexpected n)) given (refusals.Deep place) is = absurd is
  refusal_is (errors.Fault (faults.Unexpected n)) given refusals.OutOfMemory is = _
