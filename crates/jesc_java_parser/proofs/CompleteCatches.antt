-- `catch` clauses and `try` are read, where the bodies in them are.
use Rattle.std.proofs.Common.{◌≡◌, ℕ, zero, suc, ◌+◌, ◌≤◌, ◌<◌, max, Bool, true, false, List, [], ◌∷◌, ◌++◌, length, length-append, refl, sym, ap, ap₂, ◌∙◌, arith, append_assoc, append-nil, codes, IsTrue}
use Rattle.jesc_text.specs.declared.place.Span.{Span}
use Rattle.jesc_ast.specs.Lexemes.{Lexeme, word, sign, chosen_word, kept, join}
use Rattle.jesc_ast.specs.Words.{is_name}
use Rattle.jesc_ast.specs.Trees.{Statement, attempt, Body, Catch, catch, Catches, no_catches, more_catches, catches_of}
use Rattle.jesc_ast.specs.Depth.{depth, nesting, of_body, of_catches}
use Rattle.jesc_ast.specs.Statements.{body_end, catches_end, SpellsFinal, is_final_word, no_final_word}
use Rattle.jesc_jml_grammar.specs.declared.mark.Mark.TheVariants as marks
use Rattle.jesc_jml_grammar.specs.Steps.{Outcome}
use Rattle.jesc_jml_parser.specs.laws.CompleteMarks.{took_sign, took_name}
use Rattle.jesc_jml_grammar.specs.ClauseLists.{until}
use Rattle.jesc_jml_grammar.specs.ClauseReading.{Sized, sized, no_items, with_more}
use Rattle.jesc_jml_parser.specs.laws.ClauseCompleteLists.{read_as, until_more, until_ends}
use Rattle.jesc_java_grammar.specs.declared.statement_mark.StatementMark.TheVariants as s
use Rattle.jesc_java_grammar.specs.Lexing.{is_word, next_is}
use Rattle.jesc_java_grammar.specs.StatementMarks.{statement_mark_at}
use Rattle.jesc_java_grammar.specs.FileReading.{expression_of}
use Rattle.jesc_java_grammar.specs.StatementReading as spec
use Rattle.jesc_java_grammar.specs.StatementReading.{CatchHead}
use Rattle.jesc_java_parser.proofs.CompleteLexing.{took_if, unlike}
use Rattle.jesc_java_parser.proofs.CompleteBodies.{IsStatement, inside, outside, from_outside, outside_is}
use Rattle.jesc_java_parser.proofs.CompleteLists.{IsBody}

abbrev listed : Catches → List Catch
listed no_catches = []
listed (more_catches c cs) = c ∷ listed cs

catches_listed : (cs : Catches) → catches_of (listed cs) ≡ cs
catches_listed no_catches = refl
catches_listed (more_catches c cs) = ap (more_catches c) (catches_listed cs)

abbrev at_catch : List Lexeme → Bool
at_catch = next_is (is_word (codes "catch") false)

-- ---- one clause

abbrev head_as : Bool → List ℕ → Span → List ℕ → Span → CatchHead
head_as is_final x m y n = record { is_final = is_final; class = chosen_word false x m; name = chosen_word false y n }

module _ (limit room quantifiers : ℕ) where
  final_read : (is_final : Bool) (t : List Lexeme) → SpellsFinal is_final t → (x : List ℕ) (m : Span) → IsTrue (is_name x) → (rest : List Lexeme)
      → spec.optional_final limit room (expression_of limit) quantifiers (inside limit room quantifiers) (t ++ chosen_word false x m ∷ rest) ≡ read_as is_final (chosen_word false x m ∷ rest)
  unfolding spec.optional_final
  final_read _ _ (is_final_word s) x m named rest = rw (took_if (is_word (codes "final") false) (word false "final" s) (chosen_word false x m ∷ rest) refl) refl
  final_read _ _ no_final_word x m named rest = rw (unlike is_name x (codes "final") named refl) refl

  head_read : (r p q m n : Span) (is_final : Bool) (x y : List ℕ) (t rest : List Lexeme) → IsTrue (is_name x) → IsTrue (is_name y) → SpellsFinal is_final t
      → spec.catch_head limit room (expression_of limit) quantifiers (inside limit room quantifiers)
      (word false "catch" r ∷ sign false "(" p ∷ (t ++ chosen_word false x m ∷ chosen_word false y n ∷ sign false ")" q ∷ rest))
      ≡ read_as (head_as is_final x m y n) rest
  unfolding spec.catch_head
  head_read r p q m n is_final x y t rest named also h =
      let close : List Lexeme = sign false ")" q ∷ rest in
      let class : List Lexeme = chosen_word false x m ∷ chosen_word false y n ∷ close in
      rw (took_if (is_word (codes "catch") false) (word false "catch" r) (sign false "(" p ∷ (t ++ class)) refl)
      (rw (took_sign false marks.LeftParen (codes "(") p (t ++ class) refl)
      (rw (final_read is_final t h x m named (chosen_word false y n ∷ close))
      (rw (took_name false x m (chosen_word false y n ∷ close) named)
      (rw (took_name false y n close also) (rw (took_sign false marks.RightParen (codes ")") q rest refl) refl)))))

  catch_read : (r p q m n : Span) (is_final : Bool) (x y : List ℕ) (b : Body) (t u rest : List Lexeme) → IsTrue (is_name x) → IsTrue (is_name y) → SpellsFinal is_final t
      → IsBody limit b u → of_body depth 1 b ≤ room → of_body nesting 0 b ≤ quantifiers
      → spec.catch_ limit room (expression_of limit) quantifiers (inside limit room quantifiers)
      (word false "catch" r ∷ sign false "(" p ∷ (t ++ chosen_word false x m ∷ chosen_word false y n ∷ sign false ")" q ∷ (u ++ rest)))
      ≡ read_as (sized (catch is_final (kept false x m) (kept false y n) b) (of_body depth 1 b)) rest
  unfolding spec.catch_
  catch_read r p q m n is_final x y b t u rest named also h read deep flat = rw (head_read r p q m n is_final x y t (u ++ rest) named also h) (rw (read.is room quantifiers rest deep flat) refl)

-- ---- several

pub record AreCatches (limit : ℕ) (cs : Catches) (u : List Lexeme) : Type 0 where
  pub is : (room quantifiers turns : ℕ) (found : Sized (List Catch)) (rest : List Lexeme) → length u < turns → of_catches depth 1 cs ≤ room
      → of_catches nesting 0 cs ≤ quantifiers → at_catch rest ≡ false
      → until at_catch (spec.catch_ limit room (expression_of limit) quantifiers (inside limit room quantifiers)) with_more turns found (u ++ rest)
      ≡ read_as (sized (found.tree ++ listed cs) (max found.depth (of_catches depth 1 cs))) rest

pub no_more_read : (limit : ℕ) → AreCatches limit no_catches []
no_more_read limit = record {
  is = λ room quantifiers turns found rest enough deep flat stops.
      let same : found.depth ≡ max found.depth 0 = omega arith in
      until_ends at_catch (spec.catch_ limit room (expression_of limit) quantifiers (inside limit room quantifiers)) with_more turns found rest enough stops
      ∙ ap₂ (λ (z : List Catch) (d : ℕ). read_as (sized z d) rest) (sym (append-nil found.tree)) same;
}

-- The first of several is read, and then the others.
pub record IsCatch (limit : ℕ) (c : Catch) (cs : Catches) (u : List Lexeme) : Type 0 where
  pub behind : List Lexeme
  pub short : suc (length behind) ≤ length u
  pub first : (rest : List Lexeme) → at_catch (u ++ rest) ≡ true
  pub is : (room quantifiers : ℕ) (rest : List Lexeme) → of_catches depth 1 (more_catches c cs) ≤ room → of_catches nesting 0 (more_catches c cs) ≤ quantifiers
      → spec.catch_ limit room (expression_of limit) quantifiers (inside limit room quantifiers) (u ++ rest) ≡ read_as (sized c (of_catches depth 1 (more_catches c no_catches))) (behind ++ rest)
  pub others : AreCatches limit cs behind

abbrev clause_lexemes : Span → Span → Span → Span → Span → List ℕ → List ℕ → List Lexeme → List Lexeme → List Lexeme
clause_lexemes r p q m n x y t u = word false "catch" r ∷ sign false "(" p ∷ (t ++ chosen_word false x m ∷ chosen_word false y n ∷ sign false ")" q ∷ u)

clause_assoc : (r p q m n : Span) (x y : List ℕ) (t u v rest : List Lexeme) → clause_lexemes r p q m n x y t (u ++ v) ++ rest ≡ clause_lexemes r p q m n x y t (u ++ (v ++ rest))
clause_assoc r p q m n x y t u v rest =
    ap (λ (z : List Lexeme). word false "catch" r ∷ sign false "(" p ∷ z)
    (append_assoc t (chosen_word false x m ∷ chosen_word false y n ∷ sign false ")" q ∷ (u ++ v)) rest
    ∙ ap (λ (z : List Lexeme). t ++ chosen_word false x m ∷ chosen_word false y n ∷ sign false ")" q ∷ z) (append_assoc u v rest))

pub catch_is : (limit : ℕ) (r p q m n : Span) (is_final : Bool) (x y : List ℕ) (b : Body) (cs : Catches) (t u v : List Lexeme) → IsTrue (is_name x) → IsTrue (is_name y)
    → SpellsFinal is_final t → IsBody limit b u → AreCatches limit cs v
    → IsCatch limit (catch is_final (kept false x m) (kept false y n) b) cs (clause_lexemes r p q m n x y t (u ++ v))
catch_is limit r p q m n is_final x y b cs t u v named also h read others = record {
  behind = v;
  short = omega (arith, length-append {A = Lexeme});
  first = λ rest. refl;
  is = λ room quantifiers rest deep flat.
      let same : of_body depth 1 b ≡ max (of_body depth 1 b) 0 = omega arith in
      ap (spec.catch_ limit room (expression_of limit) quantifiers (inside limit room quantifiers)) (clause_assoc r p q m n x y t u v rest)
      ∙ catch_read limit room quantifiers r p q m n is_final x y b t u (v ++ rest) named also h read (omega arith) (omega arith)
      ∙ ap (λ (d : ℕ). read_as (sized (catch is_final (kept false x m) (kept false y n) b) d) (v ++ rest)) same;
  others = others;
}

more_turn : (limit room quantifiers turns : ℕ) (found : Sized (List Catch)) (c : Catch) (cs : Catches) (u : List Lexeme) → IsCatch limit c cs u → (rest : List Lexeme) → length u < turns
    → of_catches depth 1 (more_catches c cs) ≤ room → of_catches nesting 0 (more_catches c cs) ≤ quantifiers → at_catch rest ≡ false
    → until at_catch (spec.catch_ limit room (expression_of limit) quantifiers (inside limit room quantifiers)) with_more turns found (u ++ rest)
    ≡ read_as (sized (found.tree ++ c ∷ listed cs) (max found.depth (of_catches depth 1 (more_catches c cs)))) rest
more_turn limit room quantifiers zero found c cs u read rest enough deep flat stops = absurd (omega arith)
more_turn limit room quantifiers (suc turns) found c cs u read rest enough deep flat stops =
    let item = spec.catch_ limit room (expression_of limit) quantifiers (inside limit room quantifiers) in
    let one = sized c (of_catches depth 1 (more_catches c no_catches)) in
    let same : max (max found.depth (of_catches depth 1 (more_catches c no_catches))) (of_catches depth 1 cs) ≡ max found.depth (of_catches depth 1 (more_catches c cs)) = omega arith in
    until_more at_catch item with_more turns found one (u ++ rest) (read.behind ++ rest) (read.first rest) (read.is room quantifiers rest deep flat)
    ∙ read.others.is room quantifiers turns (with_more found one) rest (omega (arith, read.short)) (omega arith) (omega arith) stops
    ∙ ap₂ (λ (z : List Catch) (d : ℕ). read_as (sized z d) rest) (append_assoc found.tree (c ∷ []) (listed cs)) same

pub more_read : {limit : ℕ} {c : Catch} {cs : Catches} {u : List Lexeme} → IsCatch limit c cs u → AreCatches limit (more_catches c cs) u
more_read {limit} {c} {cs} {u} read = record {
  is = λ room quantifiers turns found rest enough deep flat stops. more_turn limit room quantifiers turns found c cs u read rest enough deep flat stops;
}

-- ---- `try`

module _ (limit room quantifiers : ℕ) where
  some_read : (c : Catch) (cs : Catches) (u : List Lexeme) → IsCatch limit c cs u → (rest : List Lexeme) → length u ≤ limit
      → of_catches depth 1 (more_catches c cs) ≤ room → of_catches nesting 0 (more_catches c cs) ≤ quantifiers → at_catch rest ≡ false
      → spec.some_catches limit room (expression_of limit) quantifiers (inside limit room quantifiers) (u ++ rest)
      ≡ read_as (sized (c ∷ listed cs) (of_catches depth 1 (more_catches c cs))) rest
  unfolding spec.some_catches spec.catches
  some_read c cs u read rest short deep flat stops =
      let one = sized c (of_catches depth 1 (more_catches c no_catches)) in
      let same : max (max 0 (of_catches depth 1 (more_catches c no_catches))) (of_catches depth 1 cs) ≡ of_catches depth 1 (more_catches c cs) = omega arith in
      rw (read.is room quantifiers rest deep flat) (read.others.is room quantifiers limit (with_more no_items one) rest (omega (arith, read.short)) (omega arith) (omega arith) stops
      ∙ ap (λ (d : ℕ). read_as (sized (c ∷ listed cs) d) rest) same)

  abbrev as_attempt : Span → Body → Catches → ℕ → List Lexeme → Outcome (Sized Statement)
  as_attempt r b cs d rest = read_as (sized (attempt (join r (catches_end (body_end b) cs)) b cs) d) rest

  attempt_read : (r : Span) (b : Body) (c : Catch) (cs : Catches) (u v rest : List Lexeme) → IsBody limit b u → IsCatch limit c cs v → length v ≤ limit
      → max (of_body depth 1 b) (of_catches depth 1 (more_catches c cs)) ≤ room → max (of_body nesting 0 b) (of_catches nesting 0 (more_catches c cs)) ≤ quantifiers
      → at_catch rest ≡ false
      → spec.attempt_ limit room (expression_of limit) quantifiers (inside limit room quantifiers) (word false "try" r ∷ (u ++ (v ++ rest)))
      ≡ as_attempt r b (more_catches c cs) (max (of_body depth 1 b) (of_catches depth 1 (more_catches c cs)) + 1) rest
  unfolding spec.attempt_
  attempt_read r b c cs u v rest body clauses short deep flat stops =
      rw (took_if (is_word (codes "try") false) (word false "try" r) (u ++ (v ++ rest)) refl)
      (rw (body.is room quantifiers (v ++ rest) (omega arith) (omega arith))
      (rw (some_read c cs v clauses rest short (omega arith) (omega arith) stops)
      (ap (λ (z : Catches). as_attempt r b z (max (of_body depth 1 b) (of_catches depth 1 (more_catches c cs)) + 1) rest) (catches_listed (more_catches c cs)))))

pub attempt_is : (limit : ℕ) (r : Span) (b : Body) (c : Catch) (cs : Catches) (u v : List Lexeme) → IsBody limit b u → IsCatch limit c cs v → length v ≤ limit
    → IsStatement limit (attempt (join r (catches_end (body_end b) (more_catches c cs))) b (more_catches c cs)) (word false "try" r ∷ (u ++ v))
unfolding statement_mark_at
attempt_is limit r b c cs u v body clauses short =
    from_outside (λ room quantifiers slot rest fits deep flat stops.
    ap (λ (z : List Lexeme). outside limit room quantifiers slot (word false "try" r ∷ z)) (append_assoc u v rest)
    ∙ outside_is limit room quantifiers slot s.Try (word false "try" r ∷ (u ++ (v ++ rest))) refl
    ∙ attempt_read limit room quantifiers r b c cs u v rest body clauses short (omega arith) (omega arith) stops)
