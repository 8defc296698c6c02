-- Where no cast may stand, what begins with a parenthesis is read as an expression is.
use Rattle.std.proofs.Common.{◌≡◌, ℕ, zero, suc, ◌-◌, ◌≤◌, ◌<◌, Bool, true, false, List, ◌∷◌, length, Ok, Err, refl, sym, ◌∙◌, subst, arith, inl, inr}
use Rattle.std.proofs.lemmas.Bool.{cases_Bool, and_right, lt-ltb}
use Rattle.jesc_ast.specs.Lexemes.{Lexeme}
use Rattle.jesc_ast.specs.Trees.{name}
use Rattle.jesc_jml_grammar.specs.declared.fault.Fault.TheVariants.{Unexpected, Deep}
use Rattle.jesc_jml_grammar.specs.declared.mark.Mark.{Mark}
use Rattle.jesc_jml_grammar.specs.declared.mark.Mark.TheVariants as m
use Rattle.jesc_jml_grammar.specs.Marks.{lexeme_mark}
use Rattle.jesc_jml_grammar.specs.Steps.{Parser, ◌>>=◌, mark_at, same_mark, expect}
use Rattle.jesc_jml_grammar.specs.Reading as reading
use Rattle.jesc_jml_grammar.specs.Reading.{Parsed, Start, at_first, behind_name, behind_bracket, leaf, lone_name, casts, opens_at, climb, expr}
use Rattle.jesc_jml_grammar.specs.laws.Refining.{bind_ok}
use Rattle.jesc_jml_parser.specs.laws.SoundSteps.{Took, took, gives_ok}
use Rattle.jesc_jml_parser.specs.laws.CompleteEdges.{grows_false}
use Rattle.jesc_jml_parser.specs.laws.CompleteStarts.{name_start, name_closed, bracket_start}
use Rattle.jesc_jml_parser.specs.laws.CompleteSteps.{ends}
use Rattle.jesc_jml_parser.specs.laws.CompleteHeads.{no_thirteen}
use Rattle.jesc_java_grammar.specs.FileReading.{expression_of}
use Rattle.jesc_java_grammar.specs.StatementReading as spec

module _ (note : Bool) (limit quantifiers : ℕ) where
  found : (mark : Mark) (ts rest : List Lexeme) (x : Lexeme) → expect note mark ts ≡ Ok (x, rest) → Took note mark ts x rest
  found mark ts rest x e = gives_ok (expect note mark ts) (Took note mark ts) x rest (took note mark ts) e

  -- ---- behind a name and a bracket there is room for an index

  none_read : (least : ℕ) (ts rest : List Lexeme) (e : Parsed) → expr note limit 0 quantifiers least at_first ts ≡ Ok (e, rest) → ⊥
  unfolding expr reading.no_room
  none_read least ts rest e read =
      elim (cases_Bool (opens_at least (mark_at note ts))) [
        | inl begins ↦ let stop : expr note limit 0 quantifiers least at_first ts ≡ Err (Deep (length ts)) = rw begins refl in absurd (cc (read, stop))
        | inr closed ↦ let stop : expr note limit 0 quantifiers least at_first ts ≡ Err (Unexpected (length ts)) = rw closed refl in absurd (cc (read, stop))
      ]

  no_index : (x b : Lexeme) (ts rest : List Lexeme) (e : Parsed) → expr note limit 1 quantifiers 1 (behind_bracket x b) ts ≡ Ok (e, rest) → ⊥
  unfolding expr reading.indexed_behind
  no_index x b ts rest e read =
      let inner = expr note limit 0 in
      let a = leaf (name x.span x.text) in
      let one = bind_ok (reading.indexed_behind note limit 0 inner quantifiers a b ts) (climb note limit 0 inner quantifiers 1 0) e rest read in
      let two = bind_ok (inner quantifiers 1 at_first ts) _ one.0 one.1 one.2 in
      none_read 1 ts two.1 two.0 two.2

  bracket_read : (room : ℕ) (x b : Lexeme) (ts rest : List Lexeme) (e : Parsed) → 1 ≤ room → lexeme_mark note x ≡ m.Name → lexeme_mark note b ≡ m.LeftBracket
      → expr note limit room quantifiers 1 (behind_bracket x b) ts ≡ Ok (e, rest) → expr note limit room quantifiers 1 (behind_name x) (b ∷ ts) ≡ Ok (e, rest)
  bracket_read zero x b ts rest e some named next read = absurd (omega arith)
  bracket_read (suc zero) x b ts rest e some named next read = absurd (no_index x b ts rest e read)
  bracket_read (suc (suc room)) x b ts rest e some named next read =
      sym (name_start note limit (suc (suc room)) quantifiers 1 x (b ∷ ts) some named)
      ∙ bracket_start note limit (suc (suc room)) quantifiers 1 x b ts (omega arith) (omega arith) named next ∙ read

  -- ---- behind a name in parentheses

  module _ (room : ℕ) (some : 1 ≤ room) (p : Lexeme) where
    abbrev inner : ℕ → ℕ → Start → Parser Parsed
    inner = expr note limit room

    abbrev grouped : Start → Parser Parsed
    grouped = reading.grouped note limit room inner quantifiers p

    closed_is : (x q : Lexeme) (ts rest : List Lexeme) → expect note m.RightParen ts ≡ Ok (q, rest)
        → reading.closed_name note limit room inner quantifiers 13 p x ts ≡ Ok (lone_name p x q, rest)
    unfolding reading.closed_name
    closed_is x q ts rest closed = rw (closed, and_right (casts (mark_at note rest)) false refl) refl

    group_is : (x q : Lexeme) (ts rest : List Lexeme) → expect note m.RightParen ts ≡ Ok (q, rest) → mark_at note ts ≡ m.RightParen
        → grouped (behind_name x) ts ≡ Ok (lone_name p x q, rest)
    unfolding reading.grouped
    group_is x q ts rest closed at = rw (name_closed note limit room quantifiers x ts some at, closed) refl

    bracket_is : (x b : Lexeme) (ts rest : List Lexeme) → expect note m.LeftBracket ts ≡ Ok (b, rest)
        → reading.bracketed_name note limit room inner quantifiers 13 p x ts ≡ grouped (behind_bracket x b) rest
    unfolding reading.bracketed_name
    bracket_is x b ts rest opened = rw (opened, and_right (same_mark (mark_at note rest) m.RightBracket) false refl) refl

    closed_turn : (x : Lexeme) (ts rest : List Lexeme) (e : Parsed) → reading.closed_name note limit room inner quantifiers 13 p x ts ≡ Ok (e, rest)
        → mark_at note ts ≡ m.RightParen → grouped (behind_name x) ts ≡ Ok (e, rest)
    unfolding reading.closed_name
    closed_turn x ts rest e read at =
        let one = bind_ok (expect note m.RightParen ts) _ e rest read in
        group_is x one.0 ts one.1 one.2 at ∙ sym (closed_is x one.0 ts one.1 one.2) ∙ read

    bracket_turn : (x : Lexeme) (ts rest : List Lexeme) (e : Parsed) → lexeme_mark note x ≡ m.Name
        → reading.bracketed_name note limit room inner quantifiers 13 p x ts ≡ Ok (e, rest) → grouped (behind_name x) ts ≡ Ok (e, rest)
    unfolding reading.bracketed_name reading.grouped
    bracket_turn x ts rest e named read =
        let one = bind_ok (expect note m.LeftBracket ts) _ e rest read in
        let bracket = found m.LeftBracket ts one.1 one.0 one.2 in
        let two = bind_ok (inner quantifiers 1 (behind_bracket x one.0) one.1) _ e rest (sym (bracket_is x one.0 ts one.1 one.2) ∙ read) in
        rw (bracket.at, bracket_read room x one.0 one.1 two.1 two.0 some named bracket.mark two.2) two.3

    behind_turn : (mark : Mark) (x : Lexeme) (ts rest : List Lexeme) (e : Parsed) → lexeme_mark note x ≡ m.Name → mark_at note ts ≡ mark
        → reading.behind_name_by note limit room inner quantifiers 13 p x mark ts ≡ Ok (e, rest) → grouped (behind_name x) ts ≡ Ok (e, rest)
    behind_turn m.RightParen x ts rest e named at read = closed_turn x ts rest e read at
    behind_turn m.LeftBracket x ts rest e named at read = bracket_turn x ts rest e named read
    behind_turn _ x ts rest e named at read = read

    name_turn : (ts rest : List Lexeme) (e : Parsed) → reading.named_group note limit room inner quantifiers 13 p ts ≡ Ok (e, rest)
        → (expect note m.Name >>= (λ x. grouped (behind_name x))) ts ≡ Ok (e, rest)
    unfolding reading.named_group
    name_turn ts rest e read =
        let one = bind_ok (expect note m.Name ts) _ e rest read in
        let named = found m.Name ts one.1 one.0 one.2 in
        rw one.2 (behind_turn (mark_at note one.1) one.0 one.1 rest e named.mark refl one.3)

  -- ---- behind a parenthesis, with a node above it

  group_turn : (room : ℕ) (p : Lexeme) (mark : Mark) (ts rest : List Lexeme) (e : Parsed) → 1 ≤ room - 2
      → reading.group_by note limit (room - 2) (expr note limit (room - 2)) quantifiers 13 p mark ts ≡ Ok (e, rest)
      → spec.headed_group_by limit room (expression_of limit) quantifiers note p mark ts ≡ Ok (e, rest)
  group_turn room p m.Name ts rest e some read = name_turn (room - 2) some p ts rest e read
  group_turn room p m.Int ts rest e some read = read
  group_turn room p m.Long ts rest e some read = read
  group_turn room p m.Boolean ts rest e some read = read
  group_turn room p _ ts rest e some read = read

  group_read : (room : ℕ) (ts rest : List Lexeme) (e : Parsed) → 1 ≤ room - 2
      → reading.group note limit (room - 2) (expr note limit (room - 2)) quantifiers 13 ts ≡ Ok (e, rest)
      → spec.headed_group limit room (expression_of limit) quantifiers note ts ≡ Ok (e, rest)
  unfolding reading.group spec.headed_group
  group_read room ts rest e some read =
      let one = bind_ok (expect note m.LeftParen ts) _ e rest read in
      rw one.2 (group_turn room one.0 (mark_at note one.1) one.1 rest e some one.3)

  paren_is : (mark : Mark) → same_mark mark m.LeftParen ≡ true → mark ≡ m.LeftParen
  unfolding same_mark
  paren_is m.LeftParen e = refl
  paren_is _ e = absurd cc

  paren_group : (room : ℕ) (ts rest : List Lexeme) (e : Parsed) → mark_at note ts ≡ m.LeftParen → expr note limit (suc (suc room)) quantifiers 13 at_first ts ≡ Ok (e, rest)
      → reading.group note limit (suc room) (expr note limit (suc room)) quantifiers 13 ts ≡ Ok (e, rest)
  unfolding expr reading.first
  paren_group room ts rest e at read =
      let inner = expr note limit (suc room) in
      let first : reading.first note limit (suc room) inner quantifiers 13 ts ≡ reading.group note limit (suc room) inner quantifiers 13 ts =
      rw (at, lt-ltb 0 (suc room) (omega arith)) refl in
      let one = bind_ok (reading.first note limit (suc room) inner quantifiers 13 ts) (climb note limit (suc room) inner quantifiers 13 (suc (suc room))) e rest read in
      sym first ∙ one.2
      ∙ sym (ends note limit (suc room) quantifiers 13 one.0 (suc (suc room)) one.1 (omega arith) (grows_false one.0.strength (mark_at note one.1) 13 (no_thirteen (mark_at note one.1))))
      ∙ one.3

  no_group : (ts rest : List Lexeme) (e : Parsed) → mark_at note ts ≡ m.LeftParen → expr note limit 1 quantifiers 13 at_first ts ≡ Ok (e, rest) → ⊥
  unfolding expr reading.first
  no_group ts rest e at read =
      let stop : expr note limit 1 quantifiers 13 at_first ts ≡ Err (Deep (length ts)) = rw at refl in
      absurd (cc (read, stop))

  paren_read : (room : ℕ) (ts rest : List Lexeme) (e : Parsed) → mark_at note ts ≡ m.LeftParen → expr note limit (room - 1) quantifiers 13 at_first ts ≡ Ok (e, rest)
      → (2 < room) × (spec.headed_group limit room (expression_of limit) quantifiers note ts ≡ Ok (e, rest))
  paren_read zero ts rest e at read = absurd (none_read 13 ts rest e read)
  paren_read (suc zero) ts rest e at read = absurd (none_read 13 ts rest e read)
  paren_read (suc (suc zero)) ts rest e at read = absurd (no_group ts rest e at read)
  paren_read (suc (suc (suc room))) ts rest e at read =
      let less : suc (suc (suc room)) - 1 ≡ suc (suc room) = omega arith in
      let under : suc (suc (suc room)) - 2 ≡ suc room = omega arith in
      let group = paren_group room ts rest e at (subst (λ (n : ℕ). expr note limit n quantifiers 13 at_first ts ≡ Ok (e, rest)) less read) in (
        omega arith,
        group_read (suc (suc (suc room))) ts rest e (omega arith)
            (subst (λ (n : ℕ). reading.group note limit n (expr note limit n) quantifiers 13 ts ≡ Ok (e, rest)) (sym under) group),
      )

  -- What is read as an expression where all that goes on is left is read so.
  pub first_read : (room : ℕ) (ts rest : List Lexeme) (e : Parsed) → expr note limit (room - 1) quantifiers 13 at_first ts ≡ Ok (e, rest)
      → spec.headed_first limit room (expression_of limit) quantifiers note ts ≡ Ok (e, rest)
  unfolding spec.headed_first
  first_read room ts rest e read =
      elim (cases_Bool (same_mark (mark_at note ts) m.LeftParen)) [
        | inl there ↦
            let group = paren_read room ts rest e (paren_is (mark_at note ts) there) read in
            rw (there, lt-ltb 2 room group.0) group.1
        | inr other ↦ rw other read
      ]
