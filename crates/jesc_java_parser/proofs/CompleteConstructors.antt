-- The body of a constructor is read, also where it begins with `super`.
use Rattle.std.proofs.Common.{◌≡◌, ℕ, zero, suc, ◌+◌, ◌-◌, ◌≤◌, ◌<◌, max, true, false, List, [], ◌∷◌, ◌++◌, length, length-append, Ok, Err, refl, sym, ap, ap₂, ◌∙◌, arith, append_assoc, codes, inl, inr}
use Rattle.std.specs.Prelude.{nat_lt}
use Rattle.std.proofs.lemmas.Bool.{cases_Bool, lt-ltb}
use Rattle.jesc_text.specs.declared.place.Span.{Span}
use Rattle.jesc_ast.specs.Lexemes.{Lexeme, word, sign, join}
use Rattle.jesc_ast.specs.Trees.{super, Expressions, no_expressions, more_expressions, Statement, super_call, Statements, more_statements, Body, body}
use Rattle.jesc_ast.specs.Expressions.{SpellsArguments}
use Rattle.jesc_ast.specs.Depth.{depth, nesting, greatest_depth, greatest_nesting, of_expressions, of_statement, of_statements, of_body}
use Rattle.jesc_ast.specs.Statements.{SpellsStatement, SpellsBody, is_body, SpellsStatements, no_more_statements, one_more_statement, SpellsConstructorBody, is_plain_body, is_super_body}
use Rattle.jesc_jml_grammar.specs.declared.mark.Mark.{Mark}
use Rattle.jesc_jml_grammar.specs.declared.mark.Mark.TheVariants as m
use Rattle.jesc_jml_grammar.specs.declared.fault.Fault.{Fault}
use Rattle.jesc_jml_grammar.specs.declared.fault.Fault.TheVariants.{Unexpected, Deep}
use Rattle.jesc_jml_grammar.specs.Marks.{lexeme_mark}
use Rattle.jesc_jml_grammar.specs.Steps.{Outcome, Parser, and_then, ◌>>=◌, mark_at, same_mark, expect}
use Rattle.jesc_jml_grammar.specs.Reading as reading
use Rattle.jesc_jml_grammar.specs.Reading.{Parsed, at_first, expr}
use Rattle.jesc_jml_parser.specs.laws.CompleteMarks.{word_at, took, took_sign, same_mark_is}
use Rattle.jesc_jml_parser.specs.laws.CompleteArguments.{expressions_of_list}
use Rattle.jesc_jml_parser.specs.laws.CompleteLeaves.{first_is}
use Rattle.jesc_jml_parser.specs.laws.Complete.{arguments_complete}
use Rattle.jesc_jml_grammar.specs.ClauseReading.{Sized, sized, no_items, with_more}
use Rattle.jesc_jml_parser.specs.laws.ClauseCompleteLists.{read_as}
use Rattle.jesc_java_grammar.specs.declared.statement_mark.StatementMark.TheVariants as s
use Rattle.jesc_java_grammar.specs.declared.statement_mark.Slot.TheVariants as slots
use Rattle.jesc_java_grammar.specs.Lexing.{is_sign}
use Rattle.jesc_java_grammar.specs.FileReading.{expression_of}
use Rattle.jesc_java_grammar.specs.StatementReading as spec
use Rattle.jesc_java_parser.proofs.CompleteLexing.{took_if, is_plain, plain_at}
use Rattle.jesc_java_parser.proofs.CompleteEdges.{goes_on_no}
use Rattle.jesc_java_parser.proofs.CompleteWords.{as_statement}
use Rattle.jesc_java_parser.proofs.CompleteBodies.{statement_positive, inside, outside_is}
use Rattle.jesc_java_parser.proofs.CompleteLists.{statements_listed, anywhere, behind_statement, AreStatements, body_rest_read, body_alone, as_body}
use Rattle.jesc_java_parser.proofs.CompleteStatements.{statements, bodies, lists}

-- ---- a method of the superclass

in_turn : {B C D : Type 0} (q : Outcome B) (g : B → Parser C) (h : C → Parser D) → and_then q (λ y. g y >>= h) ≡ and_then (and_then q g) h
in_turn (Ok q) g h = refl
in_turn (Err e) g h = refl

dot_is : (mark : Mark) → same_mark mark m.Dot ≡ true → mark ≡ m.Dot
unfolding same_mark
dot_is m.Dot e = refl
dot_is _ e = absurd cc

module _ (limit room quantifiers : ℕ) where
  abbrev acted : Parsed → Parser spec.Piece
  acted = spec.acted limit (suc room) (expression_of limit) quantifiers true

  -- what an expression that begins with `super` begins with
  super_first_is : (x : Lexeme) (ts : List Lexeme) → lexeme_mark false x ≡ m.Super
      → expr false limit (suc room) quantifiers 11 at_first (x ∷ ts)
      ≡ and_then (reading.super_called false limit room (expr false limit room) quantifiers (x ∷ ts)) (reading.climb false limit room (expr false limit room) quantifiers 11 (suc room))
  unfolding expr
  super_first_is x ts at =
      ap (λ (z : Outcome Parsed). and_then z (reading.climb false limit room (expr false limit room) quantifiers 11 (suc room)))
      (first_is false limit room (expr false limit room) quantifiers 11 m.Super x ts at)

  -- where no dot is next, nothing is read
  no_dot : (x : Lexeme) (ts : List Lexeme) → lexeme_mark false x ≡ m.Super → same_mark (mark_at false ts) m.Dot ≡ false
      → reading.super_called false limit room (expr false limit room) quantifiers (x ∷ ts) ≡ Err (Unexpected (length ts))
  unfolding reading.super_called expect
  no_dot x ts at none = rw (took false m.Super x ts at) (rw none refl)

  -- the call of a method of the superclass, and what goes on with it
  super_on : (x d : Lexeme) (ts : List Lexeme) → lexeme_mark false x ≡ m.Super → lexeme_mark false d ≡ m.Dot
      → spec.super_called_on limit (suc room) (expression_of limit) quantifiers x (d ∷ ts) ≡ and_then (expr false limit (suc room) quantifiers 11 at_first (x ∷ d ∷ ts)) acted
  unfolding spec.super_called_on spec.super_method spec.longer reading.super_called
  super_on x d ts at next =
      let less : suc room - 1 ≡ room = omega arith in
      rw less (rw (super_first_is x (d ∷ ts) at) (rw (took false m.Super x (d ∷ ts) at) (rw (took false m.Dot d ts next)
      (in_turn (and_then (expect false m.Name ts) (λ y. reading.called false limit room (expr false limit room) quantifiers x.span super 0 y))
      (reading.climb false limit room (expr false limit room) quantifiers 11 (suc room)) acted))))

-- a statement that begins with `super`
simple_super : (limit room quantifiers : ℕ) (ts : List Lexeme) → mark_at false ts ≡ m.Super
    → spec.simple limit room (expression_of limit) quantifiers true true ts
    ≡ and_then (expr false limit room quantifiers 11 at_first ts) (spec.acted limit room (expression_of limit) quantifiers true)
unfolding spec.simple spec.plain spec.acted_from
simple_super limit room quantifiers ts at = rw (plain_at ts (ap is_plain at)) (rw at refl)

super_same : (limit room quantifiers : ℕ) (x d : Lexeme) (ts : List Lexeme) → lexeme_mark false x ≡ m.Super → lexeme_mark false d ≡ m.Dot
    → spec.super_statement limit (suc room) (expression_of limit) quantifiers (x ∷ d ∷ ts) ≡ spec.simple_statement limit (suc room) (expression_of limit) quantifiers (x ∷ d ∷ ts)
unfolding spec.super_statement spec.super_acted spec.simple_statement mark_at
super_same limit room quantifiers x d ts at next =
    let some : nat_lt 0 (suc room) ≡ true = lt-ltb 0 (suc room) (omega arith) in
    rw (took false m.Super x (d ∷ ts) at) (rw next (rw some (rw (super_on limit room quantifiers x d ts at next) (rw (simple_super limit (suc room) quantifiers (x ∷ d ∷ ts) at) refl))))

statement_super : (limit room quantifiers : ℕ) (ts : List Lexeme) → mark_at false ts ≡ m.Super
    → inside limit (suc room) quantifiers slots.Any ts ≡ spec.simple_statement limit room (expression_of limit) quantifiers ts
unfolding spec.statement spec.other_statement
statement_super limit room quantifiers ts at = outside_is limit room quantifiers slots.Any s.Other ts (plain_at ts (ap is_plain at)) ∙ rw at refl

simple_stops : (limit room quantifiers : ℕ) (ts : List Lexeme) (f : Fault) → mark_at false ts ≡ m.Super → expr false limit room quantifiers 11 at_first ts ≡ Err f
    → spec.simple_statement limit room (expression_of limit) quantifiers ts ≡ Err f
unfolding spec.simple_statement
simple_stops limit room quantifiers ts f at stop = rw (simple_super limit room quantifiers ts at) (rw stop refl)

no_room_is : (limit quantifiers : ℕ) (ts : List Lexeme) → mark_at false ts ≡ m.Super → expr false limit 0 quantifiers 11 at_first ts ≡ Err (Deep (length ts))
unfolding expr reading.no_room
no_room_is limit quantifiers ts at = rw at refl

super_stops : (limit room quantifiers : ℕ) (x : Lexeme) (ts : List Lexeme) → lexeme_mark false x ≡ m.Super → same_mark (mark_at false ts) m.Dot ≡ false
    → expr false limit (suc room) quantifiers 11 at_first (x ∷ ts) ≡ Err (Unexpected (length ts))
super_stops limit room quantifiers x ts at none = rw (super_first_is limit room quantifiers x ts at) (rw (no_dot limit room quantifiers x ts at none) refl)

no_answer : {A : Type 0} (x : A) (rest : List Lexeme) (f : Fault) (r : Outcome A) → r ≡ Err f → r ≡ Ok (x, rest) → ⊥
no_answer x rest f r e g = cc

super_read : (limit room quantifiers : ℕ) (t : Sized Statement) (ts rest : List Lexeme) → mark_at false ts ≡ m.Super
    → spec.simple_statement limit room (expression_of limit) quantifiers ts ≡ Ok (t, rest) → spec.super_statement limit room (expression_of limit) quantifiers ts ≡ Ok (t, rest)
unfolding mark_at same_mark
super_read limit room quantifiers t [] rest at read = absurd cc
super_read limit zero quantifiers t (x ∷ ts) rest at read =
    absurd (no_answer t rest (Deep (length (x ∷ ts))) _ (simple_stops limit 0 quantifiers (x ∷ ts) _ at (no_room_is limit quantifiers (x ∷ ts) at)) read)
super_read limit (suc room) quantifiers t (x ∷ []) rest at read =
    absurd (no_answer t rest (Unexpected 0) _ (simple_stops limit (suc room) quantifiers (x ∷ []) _ at (super_stops limit room quantifiers x [] at refl)) read)
super_read limit (suc room) quantifiers t (x ∷ d ∷ ts) rest at read =
    elim (cases_Bool (same_mark (lexeme_mark false d) m.Dot)) [
      | inl dot ↦ super_same limit room quantifiers x d ts at (dot_is (lexeme_mark false d) dot) ∙ read
      | inr none ↦ absurd (no_answer t rest (Unexpected (length (d ∷ ts))) _ (simple_stops limit (suc room) quantifiers (x ∷ d ∷ ts) _ at (super_stops limit room quantifiers x (d ∷ ts) at none)) read)
    ]

-- ---- a constructor of the superclass

of_expressions_is : (es : Expressions) → of_expressions depth 1 es ≡ greatest_depth es
of_expressions_is no_expressions = refl
of_expressions_is (more_expressions e es) = ap (max (depth e)) (of_expressions_is es)

of_expressions_nest : (es : Expressions) → of_expressions nesting 0 es ≡ greatest_nesting es
of_expressions_nest no_expressions = refl
of_expressions_nest (more_expressions e es) = ap (max (nesting e)) (of_expressions_nest es)

abbrev as_super : Span → Expressions → ℕ → List Lexeme → Outcome (Sized Statement)
as_super s es d rest = read_as (sized (super_call s es) (d + 1)) rest

constructed_read : (limit room quantifiers : ℕ) (r p1 q1 p2 : Span) (es : Expressions) (u rest : List Lexeme) → SpellsArguments false es u → length u < limit
    → of_expressions depth 1 es ≤ room → of_expressions nesting 0 es ≤ quantifiers
    → spec.super_statement limit room (expression_of limit) quantifiers (word false "super" r ∷ sign false "(" p1 ∷ (u ++ sign false ")" q1 ∷ sign false ";" p2 ∷ rest))
    ≡ as_super (join r p2) es (of_expressions depth 1 es) rest
unfolding spec.super_statement spec.super_constructed mark_at
constructed_read limit room quantifiers r p1 q1 p2 es u rest h short deep flat =
    let close : List Lexeme = sign false ";" p2 ∷ rest in
    rw (took false m.Super (word false "super" r) (sign false "(" p1 ∷ (u ++ sign false ")" q1 ∷ close)) (word_at false (codes "super") r))
    (rw (took_sign false m.LeftParen (codes "(") p1 (u ++ sign false ")" q1 ∷ close) refl)
    (rw ((arguments_complete false limit h short).is room quantifiers q1 close (omega (arith, of_expressions_is es)) (omega (arith, of_expressions_nest es)))
    (rw (took_sign false m.RightParen (codes ")") q1 close refl)
    (rw (took_sign false m.Semicolon (codes ";") p2 rest refl)
    (ap₂ (λ (z : Expressions) (d : ℕ). as_super (join r p2) z d rest) (expressions_of_list es) (sym (of_expressions_is es)))))))

-- ---- bodies

module _ (limit room quantifiers : ℕ) where
  abbrev constructor_body : Parser (Sized Body)
  constructor_body = spec.constructor_body limit room (expression_of limit) quantifiers (inside limit room quantifiers)

  -- where no `super` is next
  plain_body_read : (p : Span) (b : Body) (ts rest : List Lexeme) → same_mark (mark_at false ts) m.Super ≡ false
      → spec.body_rest limit room (expression_of limit) quantifiers (inside limit room quantifiers) no_items ts ≡ as_body b rest
      → constructor_body (sign false "{" p ∷ ts) ≡ as_body b rest
  unfolding spec.constructor_body
  plain_body_read p b ts rest none read = rw (took_if (is_sign (codes "{") false) (sign false "{" p) ts refl) (rw none read)

  -- a first statement, and others
  super_body_read : (p q : Span) (t : Statement) (d : ℕ) (ss : Statements) (v : List Lexeme) → AreStatements limit ss v → (ts rest : List Lexeme) → length v < limit
      → mark_at false ts ≡ m.Super → max d (of_statements depth 1 ss) ≤ room → of_statements nesting 0 ss ≤ quantifiers → 1 ≤ room
      → spec.super_statement limit (room - 1) (expression_of limit) quantifiers ts ≡ Ok (sized t d, v ++ sign false "}" q ∷ rest)
      → constructor_body (sign false "{" p ∷ ts) ≡ read_as (sized (body (more_statements t ss) q) (max d (of_statements depth 1 ss))) rest
  unfolding spec.constructor_body spec.super_first
  super_body_read p q t d ss v others ts rest short at deep flat some read =
      let same : max (max 0 d) (of_statements depth 1 ss) ≡ max d (of_statements depth 1 ss) = omega arith in
      rw (took_if (is_sign (codes "{") false) (sign false "{" p) ts refl) (rw at (rw (same_mark_is m.Super) (rw (lt-ltb 0 room some) (rw read
      (body_rest_read limit room quantifiers (with_more no_items (sized t d)) ss v others q rest short (omega arith) flat
      ∙ ap₂ (λ (z : Statements) (n : ℕ). read_as (sized (body (more_statements t z) q) n) rest) (statements_listed ss) same)))))

super_is : (mark : Mark) → same_mark mark m.Super ≡ true → mark ≡ m.Super
unfolding same_mark
super_is m.Super e = refl
super_is _ e = absurd cc

first_is_super : (limit room quantifiers : ℕ) (p q : Span) (t : Statement) (ss : Statements) (u v : List Lexeme) → SpellsStatement t u → SpellsStatements ss v → length (u ++ v) < limit
    → (rest : List Lexeme) → max (of_statement depth 1 t) (of_statements depth 1 ss) ≤ room → max (of_statement nesting 0 t) (of_statements nesting 0 ss) ≤ quantifiers
    → mark_at false (u ++ (v ++ sign false "}" q ∷ rest)) ≡ m.Super
    → constructor_body limit room quantifiers (sign false "{" p ∷ (u ++ (v ++ sign false "}" q ∷ rest))) ≡ as_body (body (more_statements t ss) q) rest
first_is_super limit zero quantifiers p q t ss u v h hs short rest deep flat at = absurd (omega (arith, statement_positive t))
first_is_super limit (suc room) quantifiers p q t ss u v h hs short rest deep flat at =
    let close : List Lexeme = v ++ sign false "}" q ∷ rest in
    let none = behind_statement hs q rest in
    let few = length-append u v in
    let less : suc room - 1 ≡ room = omega arith in
    let read : inside limit (suc room) quantifiers slots.Any (u ++ close) ≡ as_statement t close =
    (statements limit h (omega arith)).is (suc room) quantifiers slots.Any close (anywhere t) (omega arith) (omega arith) (goes_on_no t close none.no_else none.no_catch) in
    super_body_read limit (suc room) quantifiers p q t (of_statement depth 1 t) ss v (lists limit hs (omega arith)) (u ++ close) rest (omega arith) at deep (omega arith) (omega arith)
    (rw less (super_read limit room quantifiers (sized t (of_statement depth 1 t)) (u ++ close) close at (sym (statement_super limit room quantifiers (u ++ close) at) ∙ read)))

listed_body : (limit room quantifiers : ℕ) (p q : Span) (ss : Statements) (u : List Lexeme) → SpellsStatements ss u → length u < limit
    → (rest : List Lexeme) → of_statements depth 1 ss ≤ room → of_statements nesting 0 ss ≤ quantifiers
    → constructor_body limit room quantifiers (sign false "{" p ∷ (u ++ sign false "}" q ∷ rest)) ≡ as_body (body ss q) rest
unfolding mark_at same_mark
listed_body limit room quantifiers p q _ _ no_more_statements short rest deep flat =
    plain_body_read limit room quantifiers p _ (sign false "}" q ∷ rest) rest refl (body_alone limit room quantifiers _ [] (lists limit no_more_statements (omega arith)) q rest short deep flat)
listed_body limit room quantifiers p q _ _ (one_more_statement t ss u v h hs) short rest deep flat =
    let close : List Lexeme = sign false "}" q ∷ rest in
    let whole = one_more_statement t ss u v h hs in
    elim (cases_Bool (same_mark (mark_at false ((u ++ v) ++ close)) m.Super)) [
      | inl e ↦ ap (λ (z : List Lexeme). constructor_body limit room quantifiers (sign false "{" p ∷ z)) (append_assoc u v close)
          ∙ first_is_super limit room quantifiers p q t ss u v h hs short rest deep flat (ap (mark_at false) (sym (append_assoc u v close)) ∙ super_is _ e)
      | inr e ↦ plain_body_read limit room quantifiers p _ ((u ++ v) ++ close) rest e
          (body_alone limit room quantifiers _ (u ++ v) (lists limit whole (omega arith)) q rest short deep flat)
    ]

-- The lexemes of a constructor's body are read as this body, and nothing behind it.
pub constructor_body_complete : (limit room quantifiers : ℕ) {b : Body} {p : Span} {u : List Lexeme} → SpellsConstructorBody b p u → length u ≤ limit → (rest : List Lexeme)
    → of_body depth 1 b ≤ room → of_body nesting 0 b ≤ quantifiers
    → constructor_body limit room quantifiers (u ++ rest) ≡ as_body b rest
unfolding mark_at
constructor_body_complete limit room quantifiers (is_plain_body _ p _ (is_body _ q ss u h)) short rest deep flat =
    ap (λ (z : List Lexeme). constructor_body limit room quantifiers (sign false "{" p ∷ z)) (append_assoc u (sign false "}" q ∷ []) rest)
    ∙ listed_body limit room quantifiers p q ss u h (omega (arith, length-append u (sign false "}" q ∷ []))) rest deep flat
constructor_body_complete limit room quantifiers (is_super_body p r p1 q1 p2 q es ss u v h hs) short rest deep flat =
    let close : List Lexeme = sign false "}" q ∷ [] in
    let few = length-append u (sign false ")" q1 ∷ sign false ";" p2 ∷ (v ++ close)) in
    let lens = length-append v close in
    ap (λ (z : List Lexeme). constructor_body limit room quantifiers (sign false "{" p ∷ word false "super" r ∷ sign false "(" p1 ∷ z))
    (append_assoc u (sign false ")" q1 ∷ sign false ";" p2 ∷ (v ++ close)) rest ∙ ap (λ (z : List Lexeme). u ++ sign false ")" q1 ∷ sign false ";" p2 ∷ z) (append_assoc v close rest))
    ∙ super_body_read limit room quantifiers p q (super_call (join r p2) es) (of_expressions depth 1 es + 1) ss v (lists limit hs (omega arith)) _ rest (omega arith)
    (word_at false (codes "super") r) (omega arith) (omega arith) (omega arith)
    (constructed_read limit (room - 1) quantifiers r p1 q1 p2 es u (v ++ sign false "}" q ∷ rest) h (omega arith) (omega arith) (omega arith))

-- The same of any body between braces.
pub body_complete : (limit room quantifiers : ℕ) {b : Body} {p : Span} {u : List Lexeme} → SpellsBody b p u → length u ≤ limit → (rest : List Lexeme)
    → of_body depth 1 b ≤ room → of_body nesting 0 b ≤ quantifiers
    → spec.braced limit room (expression_of limit) quantifiers (inside limit room quantifiers) (u ++ rest) ≡ as_body b rest
body_complete limit room quantifiers h short rest deep flat = (bodies limit h short).is room quantifiers rest deep flat
