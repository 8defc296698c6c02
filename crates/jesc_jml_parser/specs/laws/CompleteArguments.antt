-- The lexemes of arguments are read as these arguments.
use Rattle.std.proofs.Common.{◌≡◌, ℕ, zero, suc, ◌+◌, ◌≤◌, ◌<◌, max, Bool, true, false, List, [], ◌∷◌, ◌++◌, length, codes, Ok, refl, sym, ap, ap₂, ◌∙◌, append_assoc, append-nil, length-append, arith}
use Rattle.jesc_text.specs.declared.place.Span.{Span}
use Rattle.jesc_ast.specs.Lexemes.{Lexeme, chosen_word, chosen_sign, sign, kept, join}
use Rattle.jesc_ast.specs.Trees.{Expression, Expressions, no_expressions, more_expressions, expressions_of, list_of, Receiver, call}
use Rattle.jesc_ast.specs.Expressions.{Spells, SpellsMore, no_more, one_more}
use Rattle.jesc_ast.specs.Depth.{depth, nesting, receiver_depth, greatest_depth, greatest_nesting}
use Rattle.jesc_jml_grammar.specs.declared.mark.Mark.{Mark}
use Rattle.jesc_jml_grammar.specs.declared.mark.Mark.TheVariants as m
use Rattle.jesc_jml_grammar.specs.Marks.{sign_mark}
use Rattle.jesc_jml_grammar.specs.Steps.{Outcome, Parser, mark_at, same_mark}
use Rattle.jesc_jml_grammar.specs.Reading as spec
use Rattle.jesc_jml_grammar.specs.Reading.{Parsed, Listed, Start, at_first, opens, casts, binds, needs, nothing, with_last, call_of, expr}
use Rattle.jesc_jml_parser.specs.laws.Edges.{goes_on}
use Rattle.jesc_jml_parser.specs.laws.CompleteMarks.{sign_at, took_sign, opens_first}
use Rattle.jesc_jml_parser.specs.laws.CompleteEdges.{closed_by, positive}
use Rattle.jesc_jml_parser.specs.laws.CompleteSteps.{parsed, IsRead}

-- ---- marks that end an expression

pub record Closes (mark : Mark) : Type 0 where
  pub no_cast : casts mark ≡ false
  pub loose : needs mark ≡ 0
  pub weak : binds mark ≡ 0

pub closes_paren : Closes m.RightParen
closes_paren = record { no_cast = refl; loose = refl; weak = refl }

pub closes_bracket : Closes m.RightBracket
closes_bracket = record { no_cast = refl; loose = refl; weak = refl }

pub closes_comma : Closes m.Comma
closes_comma = record { no_cast = refl; loose = refl; weak = refl }

pub closes_semicolon : Closes m.Semicolon
closes_semicolon = record { no_cast = refl; loose = refl; weak = refl }

pub closes_colon : Closes m.Colon
closes_colon = record { no_cast = refl; loose = refl; weak = refl }

-- a sign that ends each expression before it
pub ended : (note : Bool) {k : ℕ} {e : Expression} {u : List Lexeme} → Spells note k e u → (least : ℕ) → 1 ≤ least → (x : List ℕ) (s : Span) (rest : List Lexeme)
    → Closes (sign_mark note x) → goes_on least e (mark_at note (chosen_sign note x s ∷ rest)) ≡ false
unfolding mark_at
ended note {e = e} h least some x s rest c =
    ap (goes_on least e) (sign_at note x s) ∙ closed_by note h least (sign_mark note x) c.no_cast (omega (arith, c.loose)) (omega (arith, c.weak))

-- ---- the steps of a list

not_closed : (mark : Mark) → opens mark ≡ true → same_mark mark m.RightParen ≡ false
unfolding same_mark
not_closed m.RightParen o = absurd cc
not_closed _ o = refl

module _ (note : Bool) (limit room : ℕ) (inner : ℕ → ℕ → Start → Parser Parsed) (quantifiers : ℕ) where
  list_ends : (turns : ℕ) (es : Listed) (q : Span) (rest : List Lexeme)
      → spec.more_arguments note limit room inner quantifiers (suc turns) es (sign note ")" q ∷ rest) ≡ Ok (es, sign note ")" q ∷ rest)
  unfolding spec.more_arguments mark_at same_mark
  list_ends turns es q rest = rw (sign_at note (codes ")") q) refl

  list_goes_on : (turns : ℕ) (es : Listed) (e : Parsed) (s : Span) (ts mid : List Lexeme) → inner quantifiers 1 at_first ts ≡ Ok (e, mid)
      → spec.more_arguments note limit room inner quantifiers (suc turns) es (sign note "," s ∷ ts) ≡ spec.more_arguments note limit room inner quantifiers turns (with_last es e) mid
  unfolding spec.more_arguments mark_at same_mark
  list_goes_on turns es e s ts mid read = rw (sign_at note (codes ",") s, took_sign note m.Comma (codes ",") s ts refl, read) refl

  list_empty : (q : Span) (rest : List Lexeme) → spec.arguments note limit room inner quantifiers (sign note ")" q ∷ rest) ≡ Ok (nothing, sign note ")" q ∷ rest)
  unfolding spec.arguments mark_at same_mark
  list_empty q rest = rw (sign_at note (codes ")") q) refl

  list_begins : (e : Parsed) (ts mid : List Lexeme) → opens (mark_at note ts) ≡ true → inner quantifiers 1 at_first ts ≡ Ok (e, mid)
      → spec.arguments note limit room inner quantifiers ts ≡ spec.more_arguments note limit room inner quantifiers limit (with_last nothing e) mid
  unfolding spec.arguments spec.some_arguments
  list_begins e ts mid o read = rw (not_closed (mark_at note ts) o, read) refl

  pub called_is : (first : Span) (r : Receiver) (d : ℕ) (x : Lexeme) (p q : Span) (es : Listed) (ts rest : List Lexeme)
      → spec.arguments note limit room inner quantifiers ts ≡ Ok (es, sign note ")" q ∷ rest)
      → spec.called note limit room inner quantifiers first r d x (sign note "(" p ∷ ts) ≡ Ok (call_of first r d x es (sign note ")" q), rest)
  unfolding spec.called
  called_is first r d x p q es ts rest read = rw (took_sign note m.LeftParen (codes "(") p ts refl, read, took_sign note m.RightParen (codes ")") q rest refl) refl

-- ---- whole lists

-- arguments before a closing parenthesis
pub record IsReadAsArguments (note : Bool) (limit : ℕ) (es : Expressions) (u : List Lexeme) : Type 0 where
  pub is : (room quantifiers : ℕ) (q : Span) (rest : List Lexeme) → greatest_depth es ≤ room → greatest_nesting es ≤ quantifiers
      → spec.arguments note limit room (expr note limit room) quantifiers (u ++ sign note ")" q ∷ rest) ≡ Ok (record { trees = list_of es; depth = greatest_depth es }, sign note ")" q ∷ rest)

-- arguments behind others, each behind a comma
pub record IsReadAsMore (note : Bool) (limit : ℕ) (es : Expressions) (u : List Lexeme) : Type 0 where
  pub is : (room quantifiers turns : ℕ) (before : Listed) (q : Span) (rest : List Lexeme) → length u < turns → greatest_depth es ≤ room → greatest_nesting es ≤ quantifiers
      → spec.more_arguments note limit room (expr note limit room) quantifiers turns before (u ++ sign note ")" q ∷ rest)
      ≡ Ok (record { trees = before.trees ++ list_of es; depth = max before.depth (greatest_depth es) }, sign note ")" q ∷ rest)

abbrev listed : List Expression → ℕ → Listed
listed es d = record { trees = es; depth = d }

abbrev answer : Listed → List Lexeme → Outcome Listed
answer es rest = Ok (es, rest)

no_more_turns : (note : Bool) (limit room quantifiers turns : ℕ) (before : Listed) (q : Span) (rest : List Lexeme) → 0 < turns
    → spec.more_arguments note limit room (expr note limit room) quantifiers turns before (sign note ")" q ∷ rest)
    ≡ answer (listed (before.trees ++ []) (max before.depth 0)) (sign note ")" q ∷ rest)
no_more_turns note limit room quantifiers zero before q rest some = absurd (omega arith)
no_more_turns note limit room quantifiers (suc turns) before q rest some =
    let depths : before.depth ≡ max before.depth 0 = omega arith in
    list_ends note limit room (expr note limit room) quantifiers turns before q rest
    ∙ ap (λ (z : Listed). answer z (sign note ")" q ∷ rest)) (ap₂ listed (sym (append-nil before.trees)) depths)

pub no_more_read : (note : Bool) (limit : ℕ) → IsReadAsMore note limit no_expressions []
no_more_read note limit = record { is = λ room quantifiers turns before q rest some deep nests. no_more_turns note limit room quantifiers turns before q rest some }

-- what stands behind an argument ends it
behind : (note : Bool) {k : ℕ} {e : Expression} {u : List Lexeme} → Spells note k e u → {es : Expressions} {v : List Lexeme} → SpellsMore note es v
    → (q : Span) (rest : List Lexeme) → goes_on 1 e (mark_at note (v ++ sign note ")" q ∷ rest)) ≡ false
behind note h no_more q rest = ended note h 1 (omega arith) (codes ")") q rest closes_paren
behind note h (one_more s n e es u v he hes) q rest = ended note h 1 (omega arith) (codes ",") s _ closes_comma

-- one argument before others
read_before : (note : Bool) (limit n : ℕ) (e : Expression) (es : Expressions) (u v : List Lexeme) → Spells note n e u → SpellsMore note es v → IsRead note limit n e u
    → (room quantifiers : ℕ) (q : Span) (rest : List Lexeme) → depth e ≤ room → nesting e ≤ quantifiers
    → expr note limit room quantifiers 1 at_first ((u ++ v) ++ sign note ")" q ∷ rest) ≡ Ok (parsed n e, v ++ sign note ")" q ∷ rest)
read_before note limit n e es u v he hes read room quantifiers q rest deep nests =
    ap (expr note limit room quantifiers 1 at_first) (append_assoc u v (sign note ")" q ∷ rest))
    ∙ read.is room quantifiers 1 (v ++ sign note ")" q ∷ rest) (positive note he) (omega arith) deep nests (behind note he hes q rest)

one_more_turn : (note : Bool) (limit n : ℕ) (e : Expression) (es : Expressions) (s : Span) (u v : List Lexeme) → Spells note n e u → SpellsMore note es v
    → IsRead note limit n e u → IsReadAsMore note limit es v
    → (room quantifiers turns : ℕ) (before : Listed) (q : Span) (rest : List Lexeme) → suc (length (u ++ v)) < turns
    → max (depth e) (greatest_depth es) ≤ room → max (nesting e) (greatest_nesting es) ≤ quantifiers
    → spec.more_arguments note limit room (expr note limit room) quantifiers turns before (sign note "," s ∷ ((u ++ v) ++ sign note ")" q ∷ rest))
    ≡ answer (listed (before.trees ++ e ∷ list_of es) (max before.depth (max (depth e) (greatest_depth es)))) (sign note ")" q ∷ rest)
one_more_turn note limit n e es s u v he hes read more room quantifiers zero before q rest some deep nests = absurd (omega arith)
one_more_turn note limit n e es s u v he hes read more room quantifiers (suc turns) before q rest some deep nests =
    let close = sign note ")" q ∷ rest in
    let now = with_last before (parsed n e) in
    let depths : max (max before.depth (depth e)) (greatest_depth es) ≡ max before.depth (max (depth e) (greatest_depth es)) = omega arith in
    list_goes_on note limit room (expr note limit room) quantifiers turns before (parsed n e) s ((u ++ v) ++ close) (v ++ close)
    (read_before note limit n e es u v he hes read room quantifiers q rest (omega arith) (omega arith))
    ∙ more.is room quantifiers turns now q rest (omega (arith, length-append u v)) (omega arith) (omega arith)
    ∙ ap (λ (z : Listed). answer z close) (ap₂ listed (append_assoc before.trees (e ∷ []) (list_of es)) depths)

pub one_more_read : (note : Bool) (limit n : ℕ) (e : Expression) (es : Expressions) (s : Span) (u v : List Lexeme) → Spells note n e u → SpellsMore note es v
    → IsRead note limit n e u → IsReadAsMore note limit es v → IsReadAsMore note limit (more_expressions e es) (sign note "," s ∷ (u ++ v))
one_more_read note limit n e es s u v he hes read more = record {
  is = λ room quantifiers turns before q rest some deep nests. one_more_turn note limit n e es s u v he hes read more room quantifiers turns before q rest some deep nests;
}

pub no_arguments_read : (note : Bool) (limit : ℕ) → IsReadAsArguments note limit no_expressions []
no_arguments_read note limit = record { is = λ room quantifiers q rest deep nests. list_empty note limit room (expr note limit room) quantifiers q rest }

pub some_arguments_read : (note : Bool) (limit n : ℕ) (e : Expression) (es : Expressions) (u v : List Lexeme) → Spells note n e u → SpellsMore note es v
    → length v < limit → IsRead note limit n e u → IsReadAsMore note limit es v → IsReadAsArguments note limit (more_expressions e es) (u ++ v)
some_arguments_read note limit n e es u v he hes short read more = record {
  is = λ room quantifiers q rest deep nests.
      let close = sign note ")" q ∷ rest in
      let begins = ap (λ (z : List Lexeme). opens (mark_at note z)) (append_assoc u v close) ∙ opens_first note he (v ++ close) in
      let depths : max (max 0 (depth e)) (greatest_depth es) ≡ max (depth e) (greatest_depth es) = omega arith in
      list_begins note limit room (expr note limit room) quantifiers (parsed n e) ((u ++ v) ++ close) (v ++ close) begins
      (read_before note limit n e es u v he hes read room quantifiers q rest (omega arith) (omega arith))
      ∙ more.is room quantifiers limit (with_last nothing (parsed n e)) q rest short (omega arith) (omega arith)
      ∙ ap (λ (d : ℕ). answer (listed (e ∷ list_of es) d) close) depths;
}

-- ---- calls

pub expressions_of_list : (es : Expressions) → expressions_of (list_of es) ≡ es
expressions_of_list no_expressions = refl
expressions_of_list (more_expressions e es) = ap (more_expressions e) (expressions_of_list es)

abbrev pub finished : Parsed → List Lexeme → Outcome Parsed
finished e rest = Ok (e, rest)

-- behind the name of a method
pub call_read : (note : Bool) (limit room quantifiers : ℕ) (first : Span) (r : Receiver) (d : ℕ) (x : List ℕ) (s p q : Span) (es : Expressions) (u rest : List Lexeme)
    → IsReadAsArguments note limit es u → greatest_depth es ≤ room → greatest_nesting es ≤ quantifiers → receiver_depth r ≡ d
    → spec.called note limit room (expr note limit room) quantifiers first r d (chosen_word note x s) (sign note "(" p ∷ (u ++ sign note ")" q ∷ rest))
    ≡ Ok (parsed 12 (call (join first q) r (kept note x s) es), rest)
call_read note limit room quantifiers first r d x s p q es u rest read deep nests here =
    called_is note limit room (expr note limit room) quantifiers first r d (chosen_word note x s) p q (listed (list_of es) (greatest_depth es)) (u ++ sign note ")" q ∷ rest) rest
    (read.is room quantifiers q rest deep nests)
    ∙ ap₂ (λ (z : Expressions) (n : ℕ). finished (record { tree = call (join first q) r (kept note x s) z; depth = n; strength = 12 }) rest) (expressions_of_list es) (ap (λ (n : ℕ). max n (greatest_depth es) + 1) (sym here))
