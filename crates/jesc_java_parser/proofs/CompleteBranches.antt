-- Branches and loops are read, where the statements in them are.
use Rattle.std.proofs.Common.{◌≡◌, ℕ, zero, suc, ◌+◌, ◌-◌, ◌≤◌, ◌<◌, max, Bool, true, false, List, ◌∷◌, ◌++◌, length, Option, refl, ap, ◌∙◌, arith, append_assoc, codes}
use Rattle.std.specs.Prelude.{nat_lt}
use Rattle.std.proofs.lemmas.Bool.{lt-ltb, or_parts}
use Rattle.jesc_text.specs.declared.place.Span.{Span}
use Rattle.jesc_ast.specs.Lexemes.{Lexeme, word, sign, join}
use Rattle.jesc_ast.specs.Trees.{Expression, Clause, Statement, branch, while_loop, for_loop, OptionalStatement, no_statement, one_statement}
use Rattle.jesc_ast.specs.Expressions.{SpellsExpression}
use Rattle.jesc_ast.specs.Depth.{depth, nesting, of_option, of_clauses, of_optional, of_statement}
use Rattle.jesc_ast.specs.Statements.{statement_span, SpellsOption, SpellsInvariants, no_clauses, more_clauses, may_begin_for, may_end_turn, SpellsHeadPart, is_loop, is_branch}
use Rattle.jesc_jml_grammar.specs.declared.mark.Mark.TheVariants as m
use Rattle.jesc_jml_grammar.specs.Steps.{Parser}
use Rattle.jesc_jml_parser.specs.laws.CompleteMarks.{took_sign}
use Rattle.jesc_jml_parser.specs.laws.CompleteSteps.{depth_positive}
use Rattle.jesc_jml_grammar.specs.ClauseReading.{Sized, sized}
use Rattle.jesc_jml_parser.specs.laws.ClauseCompleteLists.{read_as}
use Rattle.jesc_java_grammar.specs.declared.statement_mark.StatementMark.{StatementMark}
use Rattle.jesc_java_grammar.specs.declared.statement_mark.StatementMark.TheVariants as s
use Rattle.jesc_java_grammar.specs.declared.statement_mark.Slot.{Slot}
use Rattle.jesc_java_grammar.specs.declared.statement_mark.Slot.TheVariants as slots
use Rattle.jesc_java_grammar.specs.Lexing.{is_word, next_is}
use Rattle.jesc_java_grammar.specs.StatementMarks.{statement_mark_at, is_invariant, allows_branch, allows_loop}
use Rattle.jesc_java_grammar.specs.FileReading.{expression_of}
use Rattle.jesc_java_grammar.specs.StatementReading as spec
use Rattle.jesc_java_grammar.specs.StatementReading.{ForHead}
use Rattle.jesc_java_parser.proofs.CompleteLexing.{took_if}
use Rattle.jesc_java_parser.proofs.CompleteEdges.{statement_goes_on, goes_on_no_else}
use Rattle.jesc_java_parser.proofs.CompleteParts.{optional_read, condition_read, invariants_read}
use Rattle.jesc_java_parser.proofs.CompleteWords.{for_first_read, for_last_read}
use Rattle.jesc_java_parser.proofs.CompleteBodies.{Fits, IsStatement, inside, outside, from_outside, outside_is, statement_positive}

then_fits : (t : Statement) → is_loop t ≡ false → is_branch t ≡ false → Fits slots.Then t
then_fits t l b = record { branches = λ e. absurd (cc (b, e)); loops = λ e. absurd (cc (l, e)) }

else_fits : (t : Statement) → is_loop t ≡ false → Fits slots.Else t
else_fits t l = record { branches = λ e. refl; loops = λ e. absurd (cc (l, e)) }

-- ---- branches

abbrev at_else : List Lexeme → Bool
at_else = next_is (is_word (codes "else") false)

module _ (limit room quantifiers : ℕ) where
  abbrev branch_parser : Parser (Sized Statement)
  branch_parser = spec.branch_ limit room (expression_of limit) quantifiers (inside limit room quantifiers)

  branch_begun : (slot : Slot) (r : Span) (ts : List Lexeme) → allows_branch slot ≡ true → nat_lt 0 room ≡ true
      → outside limit room quantifiers slot (word false "if" r ∷ ts) ≡ branch_parser (word false "if" r ∷ ts)
  unfolding statement_mark_at
  branch_begun slot r ts allowed some = outside_is limit room quantifiers slot s.If (word false "if" r ∷ ts) refl ∙ rw allowed (rw some refl)

  alone_read : (r p q : Span) (test : Expression) (first : Statement) (u v rest : List Lexeme) (h : SpellsExpression false test u) → IsStatement limit first v
      → is_loop first ≡ false → is_branch first ≡ false → length u ≤ limit → max (depth test) (of_statement depth 1 first) ≤ room
      → max (nesting test) (of_statement nesting 0 first) ≤ quantifiers → at_else rest ≡ false → statement_goes_on first rest ≡ false
      → branch_parser (word false "if" r ∷ sign false "(" p ∷ (u ++ sign false ")" q ∷ (v ++ rest)))
      ≡ read_as (sized (branch (join r (statement_span first)) test first no_statement) (max (depth test) (of_statement depth 1 first) + 1)) rest
  unfolding spec.branch_ spec.branch_behind
  alone_read r p q test first u v rest h read no_loop no_branch short deep flat none stops =
      rw (took_if (is_word (codes "if") false) (word false "if" r) (sign false "(" p ∷ (u ++ sign false ")" q ∷ (v ++ rest))) refl)
      (rw (condition_read limit room quantifiers test u h (omega arith) (omega arith) short p q (v ++ rest))
      (rw (read.is room quantifiers slots.Then rest (then_fits first no_loop no_branch) (omega arith) (omega arith) stops) (rw none refl)))

  else_read : (r p q o : Span) (test : Expression) (first other : Statement) (u v t rest : List Lexeme) (h : SpellsExpression false test u) → IsStatement limit first v
      → is_loop first ≡ false → is_branch first ≡ false → IsStatement limit other t → is_loop other ≡ false → length u ≤ limit
      → max (max (depth test) (of_statement depth 1 first)) (of_statement depth 1 other) ≤ room
      → max (max (nesting test) (of_statement nesting 0 first)) (of_statement nesting 0 other) ≤ quantifiers → statement_goes_on other rest ≡ false
      → branch_parser (word false "if" r ∷ sign false "(" p ∷ (u ++ sign false ")" q ∷ (v ++ word false "else" o ∷ (t ++ rest))))
      ≡ read_as (sized (branch (join r (statement_span other)) test first (one_statement other)) (max (max (depth test) (of_statement depth 1 first)) (of_statement depth 1 other) + 1)) rest
  unfolding spec.branch_ spec.branch_behind spec.otherwise
  else_read r p q o test first other u v t rest h read no_loop no_branch more no_loop_there short deep flat stops =
      let behind : List Lexeme = word false "else" o ∷ (t ++ rest) in
      rw (took_if (is_word (codes "if") false) (word false "if" r) (sign false "(" p ∷ (u ++ sign false ")" q ∷ (v ++ behind))) refl)
      (rw (condition_read limit room quantifiers test u h (omega arith) (omega arith) short p q (v ++ behind))
      (rw (read.is room quantifiers slots.Then behind (then_fits first no_loop no_branch) (omega arith) (omega arith) (goes_on_no_else first o (t ++ rest) no_loop no_branch))
      (rw (took_if (is_word (codes "else") false) (word false "else" o) (t ++ rest) refl)
      (rw (more.is room quantifiers slots.Else rest (else_fits other no_loop_there) (omega arith) (omega arith) stops) refl))))

pub branch_alone_is : (limit : ℕ) (r p q : Span) (test : Expression) (first : Statement) (u v : List Lexeme) → SpellsExpression false test u → IsStatement limit first v
    → is_loop first ≡ false → is_branch first ≡ false → length u ≤ limit
    → IsStatement limit (branch (join r (statement_span first)) test first no_statement) (word false "if" r ∷ sign false "(" p ∷ (u ++ sign false ")" q ∷ v))
branch_alone_is limit r p q test first u v h read no_loop no_branch short =
    from_outside (λ room quantifiers slot rest fits deep flat stops.
    let parts = or_parts (at_else rest) (statement_goes_on first rest) stops in
    ap (λ (z : List Lexeme). outside limit room quantifiers slot (word false "if" r ∷ sign false "(" p ∷ z)) (append_assoc u (sign false ")" q ∷ v) rest)
    ∙ branch_begun limit room quantifiers slot r _ (fits.branches refl) (lt-ltb 0 room (omega (arith, depth_positive test)))
    ∙ alone_read limit room quantifiers r p q test first u v rest h read no_loop no_branch short (omega arith) (omega arith) parts.0 parts.1
    ∙ ap (λ (d : ℕ). read_as (sized (branch (join r (statement_span first)) test first no_statement) d) rest) (omega arith))

pub branch_else_is : (limit : ℕ) (r p q o : Span) (test : Expression) (first other : Statement) (u v t : List Lexeme) → SpellsExpression false test u → IsStatement limit first v
    → is_loop first ≡ false → is_branch first ≡ false → IsStatement limit other t → is_loop other ≡ false → length u ≤ limit
    → IsStatement limit (branch (join r (statement_span other)) test first (one_statement other))
    (word false "if" r ∷ sign false "(" p ∷ (u ++ sign false ")" q ∷ (v ++ word false "else" o ∷ t)))
branch_else_is limit r p q o test first other u v t h read no_loop no_branch more no_loop_there short =
    from_outside (λ room quantifiers slot rest fits deep flat stops.
    ap (λ (z : List Lexeme). outside limit room quantifiers slot (word false "if" r ∷ sign false "(" p ∷ z))
    (append_assoc u (sign false ")" q ∷ (v ++ word false "else" o ∷ t)) rest ∙ ap (λ (z : List Lexeme). u ++ sign false ")" q ∷ z) (append_assoc v (word false "else" o ∷ t) rest))
    ∙ branch_begun limit room quantifiers slot r _ (fits.branches refl) (lt-ltb 0 room (omega (arith, depth_positive test)))
    ∙ else_read limit room quantifiers r p q o test first other u v t rest h read no_loop no_branch more no_loop_there short (omega arith) (omega arith) stops)

-- ---- loops

module _ (limit room quantifiers : ℕ) where
  abbrev loop_parser : Parser (Sized Statement)
  loop_parser = spec.loop_ limit room (expression_of limit) quantifiers (inside limit room quantifiers)

  -- before `while` or `for`, or invariants before these
  loop_begun : (slot : Slot) (cs : List Clause) (t : List Lexeme) → SpellsInvariants cs t → (ts : List Lexeme) → allows_loop slot ≡ true → nat_lt 0 room ≡ true
      → outside limit room quantifiers slot ts ≡ loop_parser ts → outside limit room quantifiers slot (t ++ ts) ≡ loop_parser (t ++ ts)
  unfolding statement_mark_at
  loop_begun slot _ _ no_clauses ts allowed some begun = begun
  loop_begun slot _ _ (more_clauses at p x e cs u v is h more) ts allowed some begun =
      outside_is limit room quantifiers slot s.Invariant _ (rw is refl) ∙ rw allowed (rw some refl)

  while_begun : (slot : Slot) (r : Span) (ts : List Lexeme) → allows_loop slot ≡ true → nat_lt 0 room ≡ true
      → outside limit room quantifiers slot (word false "while" r ∷ ts) ≡ loop_parser (word false "while" r ∷ ts)
  unfolding statement_mark_at
  while_begun slot r ts allowed some = outside_is limit room quantifiers slot s.While (word false "while" r ∷ ts) refl ∙ rw allowed (rw some refl)

  for_begun : (slot : Slot) (r : Span) (ts : List Lexeme) → allows_loop slot ≡ true → nat_lt 0 room ≡ true
      → outside limit room quantifiers slot (word false "for" r ∷ ts) ≡ loop_parser (word false "for" r ∷ ts)
  unfolding statement_mark_at
  for_begun slot r ts allowed some = outside_is limit room quantifiers slot s.For (word false "for" r ∷ ts) refl ∙ rw allowed (rw some refl)

  loop_is : (cs : List Clause) (t ts : List Lexeme) (mark : StatementMark) → SpellsInvariants cs t → of_clauses depth 1 cs ≤ room → of_clauses nesting 0 cs ≤ quantifiers → length t < limit
      → next_is is_invariant ts ≡ false → statement_mark_at ts ≡ mark
      → loop_parser (t ++ ts) ≡ spec.loop_by limit room (expression_of limit) quantifiers (inside limit room quantifiers) (sized cs (of_clauses depth 1 cs)) mark ts
  unfolding spec.loop_
  loop_is cs t ts mark h deep flat short none at = rw (invariants_read limit room quantifiers cs t h ts deep flat short none) (rw at refl)

  while_read : (cs : Sized (List Clause)) (r p q : Span) (test : Expression) (turn : Statement) (u v rest : List Lexeme) (h : SpellsExpression false test u) → IsStatement limit turn v
      → is_loop turn ≡ false → is_branch turn ≡ false → length u ≤ limit → max (depth test) (of_statement depth 1 turn) ≤ room
      → max (nesting test) (of_statement nesting 0 turn) ≤ quantifiers → statement_goes_on turn rest ≡ false
      → spec.while_ limit room (expression_of limit) quantifiers (inside limit room quantifiers) cs
      (word false "while" r ∷ sign false "(" p ∷ (u ++ sign false ")" q ∷ (v ++ rest)))
      ≡ read_as (sized (while_loop (join r (statement_span turn)) cs.tree test turn) (max (max cs.depth (depth test)) (of_statement depth 1 turn) + 1)) rest
  unfolding spec.while_
  while_read cs r p q test turn u v rest h read no_loop no_branch short deep flat stops =
      rw (took_if (is_word (codes "while") false) (word false "while" r) (sign false "(" p ∷ (u ++ sign false ")" q ∷ (v ++ rest))) refl)
      (rw (condition_read limit room quantifiers test u h (omega arith) (omega arith) short p q (v ++ rest))
      (rw (read.is room quantifiers slots.Then rest (then_fits turn no_loop no_branch) (omega arith) (omega arith) stops) refl))

abbrev head_as : OptionalStatement → Option Expression → OptionalStatement → ForHead
head_as first test last = record { first = first; test = test; last = last; depth = max (of_optional depth 1 first) (max (of_option depth 1 test) (of_optional depth 1 last)) }

for_head_read : (limit room quantifiers : ℕ) (p p1 p2 q : Span) (first : OptionalStatement) (test : Option Expression) (last : OptionalStatement) (a b c rest : List Lexeme)
    → SpellsHeadPart may_begin_for first a → SpellsOption false test b → SpellsHeadPart may_end_turn last c → length a ≤ limit → length b ≤ limit → length c ≤ limit → 1 ≤ room
    → max (of_optional depth 1 first) (max (of_option depth 1 test) (of_optional depth 1 last)) ≤ room
    → max (of_optional nesting 0 first) (max (of_option nesting 0 test) (of_optional nesting 0 last)) ≤ quantifiers
    → spec.for_head limit room (expression_of limit) quantifiers (inside limit room quantifiers)
    (sign false "(" p ∷ (a ++ sign false ";" p1 ∷ (b ++ sign false ";" p2 ∷ (c ++ sign false ")" q ∷ rest)))) ≡ read_as (head_as first test last) rest
unfolding spec.for_head
for_head_read limit zero quantifiers p p1 p2 q first test last a b c rest ha hb hc short_a short_b short_c some deep flat = absurd (omega arith)
for_head_read limit (suc room) quantifiers p p1 p2 q first test last a b c rest ha hb hc short_a short_b short_c some deep flat =
    let less : suc room - 1 ≡ room = omega arith in
    let third : List Lexeme = c ++ sign false ")" q ∷ rest in
    let second : List Lexeme = b ++ sign false ";" p2 ∷ third in
    rw less
    (rw (took_sign false m.LeftParen (codes "(") p (a ++ sign false ";" p1 ∷ second) refl)
    (rw (for_first_read limit room quantifiers first a ha (omega arith) (omega arith) short_a p1 second)
    (rw (took_sign false m.Semicolon (codes ";") p1 second refl)
    (rw (optional_read limit (suc room) quantifiers test b hb (omega arith) (omega arith) short_b p2 third)
    (rw (took_sign false m.Semicolon (codes ";") p2 third refl)
    (rw (for_last_read limit room quantifiers last c hc (omega arith) (omega arith) short_c q rest)
    (rw (took_sign false m.RightParen (codes ")") q rest refl) refl)))))))

for_read : (limit room quantifiers : ℕ) (cs : Sized (List Clause)) (r p p1 p2 q : Span) (first : OptionalStatement) (test : Option Expression) (last : OptionalStatement)
    (turn : Statement) (a b c v rest : List Lexeme) → SpellsHeadPart may_begin_for first a → SpellsOption false test b → SpellsHeadPart may_end_turn last c → IsStatement limit turn v
    → is_loop turn ≡ false → is_branch turn ≡ false → length a ≤ limit → length b ≤ limit → length c ≤ limit
    → max (max (of_optional depth 1 first) (max (of_option depth 1 test) (of_optional depth 1 last))) (of_statement depth 1 turn) ≤ room
    → max (max (of_optional nesting 0 first) (max (of_option nesting 0 test) (of_optional nesting 0 last))) (of_statement nesting 0 turn) ≤ quantifiers
    → statement_goes_on turn rest ≡ false
    → spec.for_ limit room (expression_of limit) quantifiers (inside limit room quantifiers) cs
    (word false "for" r ∷ sign false "(" p ∷ (a ++ sign false ";" p1 ∷ (b ++ sign false ";" p2 ∷ (c ++ sign false ")" q ∷ (v ++ rest)))))
    ≡ read_as (sized (for_loop (join r (statement_span turn)) cs.tree first test last turn)
    (max (max cs.depth (max (of_optional depth 1 first) (max (of_option depth 1 test) (of_optional depth 1 last)))) (of_statement depth 1 turn) + 1)) rest
unfolding spec.for_
for_read limit room quantifiers cs r p p1 p2 q first test last turn a b c v rest ha hb hc read no_loop no_branch short_a short_b short_c deep flat stops =
    let head : List Lexeme = sign false "(" p ∷ (a ++ sign false ";" p1 ∷ (b ++ sign false ";" p2 ∷ (c ++ sign false ")" q ∷ (v ++ rest)))) in
    rw (took_if (is_word (codes "for") false) (word false "for" r) head refl)
    (rw (for_head_read limit room quantifiers p p1 p2 q first test last a b c (v ++ rest) ha hb hc short_a short_b short_c (omega (arith, statement_positive turn)) (omega arith) (omega arith))
    (rw (read.is room quantifiers slots.Then rest (then_fits turn no_loop no_branch) (omega arith) (omega arith) stops) refl))

pub while_is : (limit : ℕ) (r p q : Span) (invariants : List Clause) (test : Expression) (turn : Statement) (t u v : List Lexeme) → SpellsInvariants invariants t
    → SpellsExpression false test u → IsStatement limit turn v → is_loop turn ≡ false → is_branch turn ≡ false → length t < limit → length u ≤ limit
    → IsStatement limit (while_loop (join r (statement_span turn)) invariants test turn) (t ++ word false "while" r ∷ sign false "(" p ∷ (u ++ sign false ")" q ∷ v))
unfolding statement_mark_at
while_is limit r p q invariants test turn t u v hi h read no_loop no_branch few short =
    from_outside (λ room quantifiers slot rest fits deep flat stops.
    let some = lt-ltb 0 room (omega (arith, depth_positive test)) in
    let behind : List Lexeme = word false "while" r ∷ sign false "(" p ∷ (u ++ sign false ")" q ∷ (v ++ rest)) in
    ap (outside limit room quantifiers slot)
    (append_assoc t (word false "while" r ∷ sign false "(" p ∷ (u ++ sign false ")" q ∷ v)) rest
    ∙ ap (λ (z : List Lexeme). t ++ word false "while" r ∷ sign false "(" p ∷ z) (append_assoc u (sign false ")" q ∷ v) rest))
    ∙ loop_begun limit room quantifiers slot invariants t hi behind (fits.loops refl) some (while_begun limit room quantifiers slot r _ (fits.loops refl) some)
    ∙ loop_is limit room quantifiers invariants t behind s.While hi (omega arith) (omega arith) few refl refl
    ∙ while_read limit room quantifiers (sized invariants (of_clauses depth 1 invariants)) r p q test turn u v rest h read no_loop no_branch short (omega arith) (omega arith) stops)

pub for_is : (limit : ℕ) (r p p1 p2 q : Span) (invariants : List Clause) (first : OptionalStatement) (test : Option Expression) (last : OptionalStatement) (turn : Statement)
    (t a b c v : List Lexeme) → SpellsInvariants invariants t → SpellsHeadPart may_begin_for first a → SpellsOption false test b → SpellsHeadPart may_end_turn last c
    → IsStatement limit turn v → is_loop turn ≡ false → is_branch turn ≡ false → length t < limit → length a ≤ limit → length b ≤ limit → length c ≤ limit
    → IsStatement limit (for_loop (join r (statement_span turn)) invariants first test last turn)
    (t ++ word false "for" r ∷ sign false "(" p ∷ (a ++ sign false ";" p1 ∷ (b ++ sign false ";" p2 ∷ (c ++ sign false ")" q ∷ v))))
unfolding statement_mark_at
for_is limit r p p1 p2 q invariants first test last turn t a b c v hi ha hb hc read no_loop no_branch few short_a short_b short_c =
    from_outside (λ room quantifiers slot rest fits deep flat stops.
    let some = lt-ltb 0 room (omega (arith, statement_positive turn)) in
    let third : List Lexeme = c ++ sign false ")" q ∷ v in
    let second : List Lexeme = b ++ sign false ";" p2 ∷ third in
    let behind : List Lexeme = word false "for" r ∷ sign false "(" p ∷ (a ++ sign false ";" p1 ∷ (b ++ sign false ";" p2 ∷ (c ++ sign false ")" q ∷ (v ++ rest)))) in
    let same : max (max (of_clauses depth 1 invariants) (max (of_optional depth 1 first) (max (of_option depth 1 test) (of_optional depth 1 last)))) (of_statement depth 1 turn) + 1
    ≡ of_statement depth 1 (for_loop (join r (statement_span turn)) invariants first test last turn) = omega arith in
    ap (outside limit room quantifiers slot)
    (append_assoc t (word false "for" r ∷ sign false "(" p ∷ (a ++ sign false ";" p1 ∷ second)) rest
    ∙ ap (λ (z : List Lexeme). t ++ word false "for" r ∷ sign false "(" p ∷ z)
    (append_assoc a (sign false ";" p1 ∷ second) rest ∙ ap (λ (z : List Lexeme). a ++ sign false ";" p1 ∷ z)
    (append_assoc b (sign false ";" p2 ∷ third) rest ∙ ap (λ (z : List Lexeme). b ++ sign false ";" p2 ∷ z) (append_assoc c (sign false ")" q ∷ v) rest))))
    ∙ loop_begun limit room quantifiers slot invariants t hi behind (fits.loops refl) some (for_begun limit room quantifiers slot r _ (fits.loops refl) some)
    ∙ loop_is limit room quantifiers invariants t behind s.For hi (omega arith) (omega arith) few refl refl
    ∙ for_read limit room quantifiers (sized invariants (of_clauses depth 1 invariants)) r p p1 p2 q first test last turn a b c v rest ha hb hc read no_loop no_branch short_a short_b short_c
    (omega arith) (omega arith) stops
    ∙ ap (λ (d : ℕ). read_as (sized (for_loop (join r (statement_span turn)) invariants first test last turn) d) rest) same)
