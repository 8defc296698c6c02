-- The recognizer takes every body that keeps the rules on names, and its end.
use Rattle.std.proofs.Common.{◌≡◌, ℕ, ◌<◌, Bool, true, false, ◌&&◌, not, List, [], ◌∷◌, ◌++◌, length, refl, ap, ◌∙◌, Option, Some, None, codes, slice_get, unwrap_or}
use Rattle.jesc_lexer.specs.declared.token.TokenKind.{TokenKind}
use Rattle.jesc_lexer.specs.declared.token.TokenKind.TheVariants.{Word, Sign}
use Rattle.jesc_ast.specs.Lexemes.{Lexeme}
use Rattle.jesc_first.specs.declared.tree.Sum.{Sum}
use Rattle.jesc_first.specs.declared.tree.Condition.{Condition}
use Rattle.jesc_first.specs.declared.tree.Stmt.{Stmt}
use Rattle.jesc_first.specs.declared.tree.Stmt.TheVariants.{Local, Assign, Assert}
use Rattle.jesc_first.specs.declared.reader.phase.Seat.{Seat}
use Rattle.jesc_first.specs.declared.reader.phase.Seat.TheVariants.{AssertionLeft, AssertionRight, Initial, Assigned, Returned}
use Rattle.jesc_first.specs.declared.reader.phase.Phase.{Phase}
use Rattle.jesc_first.specs.declared.reader.phase.Phase.TheVariants.{Methods, Part, Behind, Statement, LocalName, LocalEquals, AssignedEquals, Closing}
use Rattle.jesc_first.specs.Spelling.{Piece, Fits, word, word_at, sign, sign_at, sum_pieces, condition_pieces, scope_after, scope_at_end, statement_pieces, body_pieces, end_pieces}
use Rattle.jesc_first.specs.Names.{IsNew, IsSum, IsCondition, IsStatement, IsBody, IsValue, is_some_sum}
use Rattle.jesc_first.specs.Parsing.{Texts, same_kind, is_plain, slot_in}
use Rattle.jesc_first.specs.Recognizing.{is_word, is_sign, is_new, put, behind_sum, step}
use Rattle.jesc_first.proofs.CompleteBase.{Spans, spans_split, fits_is}
use Rattle.jesc_first.proofs.CompleteNames.{IsScope, scope_push, name_other, slot_name, slot_found, slot_reserved}
use Rattle.jesc_first.proofs.RunBase.{here, Carries, carries_none, carries_then, carries_one, new_fits}
use Rattle.jesc_first.proofs.RunSums.{IsSeat, scope_seat, initial_seat, sum_carries, end_step, condition_carries}

module _ (classes methods : Texts) (returns : Bool) where
  -- a value and the semicolon behind it
  value_carries : (names scope : Texts) (seat : Seat) (phase : Phase) → IsSeat false false names scope seat → ((x : Lexeme) → is_sign false (codes ";") x ≡ true → behind_sum seat x ≡ Some phase)
      → (value : Sum) (ts : List Lexeme) (ps : List Piece) (rest : List Lexeme) → Spans ts (sum_pieces false names value ++ (sign false (codes ";") ∷ ps)) rest → IsSum false (length names) value
      → (mid : List Lexeme) × Carries false (here classes methods scope returns (Part seat)) (here classes methods scope returns phase) ts mid × Spans mid ps rest
  value_carries names scope seat phase s end value ts ps rest h v =
      let mark = sign false (codes ";") in
      let a = spans_split ts (sum_pieces false names value) (mark ∷ ps) rest h in
      let b = carries_one false (here classes methods scope returns (Behind seat)) (here classes methods scope returns phase) a.0 mark ps rest a.2
      (λ told x f. end_step classes methods scope returns false false names seat s (codes ";") phase told x f refl refl (end x (fits_is Sign false (codes ";") x mark f))) in (
        b.0,
        carries_then false (here classes methods scope returns (Part seat)) (here classes methods scope returns (Behind seat)) (here classes methods scope returns phase) ts a.0 b.0
            (sum_carries classes methods scope returns false false names seat s value ts a.0 a.1 v) b.1,
        b.2,
      )

  -- ---- the three statements

  int_step : (scope : Texts) (told : Bool) (x : Lexeme) → Fits x (word false (codes "int")) → step (here classes methods scope returns Statement told) x ≡ Some (here classes methods scope returns LocalName told)
  int_step scope told x f = let q : is_word false (codes "int") x ≡ true = fits_is Word false (codes "int") x (word false (codes "int")) f in rw q refl

  local_step : (scope : Texts) (name : List ℕ) (told : Bool) (x : Lexeme) → IsNew scope name → Fits x (word false name)
      → step (here classes methods scope returns LocalName told) x ≡ Some (here classes methods (scope ++ name ∷ []) returns LocalEquals told)
  local_step scope name told x n f =
      let new : is_new scope x ≡ true = (new_fits scope name x n f).0 in
      let grown : put scope x.text ≡ scope ++ name ∷ [] = (new_fits scope name x n f).1 in
      rw (new, grown) refl

  initial_step : (scope : Texts) (told : Bool) (x : Lexeme) → Fits x (sign false (codes "=")) → step (here classes methods scope returns LocalEquals told) x ≡ Some (here classes methods scope returns (Part Initial) told)
  initial_step scope told x f = let q : is_sign false (codes "=") x ≡ true = fits_is Sign false (codes "=") x (sign false (codes "=")) f in rw q refl

  assert_step : (scope : Texts) (at : ℕ) (told : Bool) (x : Lexeme) → Fits x (word_at true (codes "assert") at)
      → step (here classes methods scope returns Statement told) x ≡ Some (here classes methods scope returns (Part AssertionLeft) told)
  assert_step scope at told x f =
      let none : is_word false (codes "int") x ≡ false = fits_is Word false (codes "int") x (word_at true (codes "assert") at) f in
      let q : is_word true (codes "assert") x ≡ true = fits_is Word true (codes "assert") x (word_at true (codes "assert") at) f in
      rw (none, q) refl

  variable_step : (scope : Texts) (slot : ℕ) (told : Bool) (x : Lexeme) → IsScope scope → slot < length scope → Fits x (word false (unwrap_or (slice_get scope slot) []))
      → step (here classes methods scope returns Statement told) x ≡ Some (here classes methods scope returns AssignedEquals told)
  variable_step scope slot told x s l f =
      let name = unwrap_or (slice_get scope slot) [] in
      let int : is_word false (codes "int") x ≡ false = fits_is Word false (codes "int") x (word false name) f ∙ name_other name (codes "int") (slot_name scope slot s l) refl in
      let assert : is_word true (codes "assert") x ≡ false = fits_is Word true (codes "assert") x (word false name) f in
      let plain : is_plain x ≡ true = ap (λ (k : TokenKind). same_kind k Word && not x.note) f.kind ∙ ap (λ (b : Bool). not b) f.note in
      let found : slot_in scope x.text ≡ Some slot = ap (slot_in scope) f.text ∙ slot_found scope slot s l in
      rw (int, assert, plain, found) refl

  assigned_step : (scope : Texts) (told : Bool) (x : Lexeme) → Fits x (sign false (codes "=")) → step (here classes methods scope returns AssignedEquals told) x ≡ Some (here classes methods scope returns (Part Assigned) told)
  assigned_step scope told x f = let q : is_sign false (codes "=") x ≡ true = fits_is Sign false (codes "=") x (sign false (codes "=")) f in rw q refl

  left_seat : (scope : Texts) → IsScope scope → IsSeat true false scope scope AssertionLeft
  left_seat scope s = scope_seat true scope AssertionLeft s refl (λ text. refl)

  right_seat : (scope : Texts) → IsScope scope → IsSeat true false scope scope AssertionRight
  right_seat scope s = scope_seat true scope AssertionRight s refl (λ text. refl)

  local_carries : (scope : Texts) (name : List ℕ) (value : Sum) (ts rest : List Lexeme) → Spans ts (statement_pieces scope (Local name value)) rest → IsNew scope name → IsSum false (length scope) value → IsScope scope
      → Carries false (here classes methods scope returns Statement) (here classes methods (scope ++ name ∷ []) returns Statement) ts rest
  local_carries scope name value ts rest h n v s =
      let grown = scope ++ name ∷ [] in
      let behind = sum_pieces false scope value ++ (sign false (codes ";") ∷ []) in
      let s0 = here classes methods scope returns Statement in
      let s1 = here classes methods scope returns LocalName in
      let s2 = here classes methods grown returns LocalEquals in
      let s3 = here classes methods grown returns (Part Initial) in
      let s4 = here classes methods grown returns Statement in
      let a = carries_one false s0 s1 ts (word false (codes "int")) (word false name ∷ sign false (codes "=") ∷ behind) rest h (int_step scope) in
      let b = carries_one false s1 s2 a.0 (word false name) (sign false (codes "=") ∷ behind) rest a.2 (λ told x. local_step scope name told x n) in
      let c = carries_one false s2 s3 b.0 (sign false (codes "=")) behind rest b.2 (initial_step grown) in
      let d = value_carries scope grown Initial Statement (initial_seat scope name s n) (λ x e. rw e refl) value c.0 [] rest c.2 v in
      carries_then false s0 s1 s4 ts a.0 rest a.1 (carries_then false s1 s2 s4 a.0 b.0 rest b.1 (carries_then false s2 s3 s4 b.0 c.0 rest c.1
      (carries_then false s3 s4 s4 c.0 d.0 rest d.1 (carries_none false s4 d.0 rest d.2))))

  assignment_carries : (scope : Texts) (slot : ℕ) (value : Sum) (ts rest : List Lexeme) → Spans ts (statement_pieces scope (Assign slot value)) rest → slot < length scope → IsSum false (length scope) value → IsScope scope
      → Carries false (here classes methods scope returns Statement) (here classes methods scope returns Statement) ts rest
  assignment_carries scope slot value ts rest h l v s =
      let behind = sum_pieces false scope value ++ (sign false (codes ";") ∷ []) in
      let s0 = here classes methods scope returns Statement in
      let s1 = here classes methods scope returns AssignedEquals in
      let s2 = here classes methods scope returns (Part Assigned) in
      let a = carries_one false s0 s1 ts (word false (unwrap_or (slice_get scope slot) [])) (sign false (codes "=") ∷ behind) rest h (λ told x. variable_step scope slot told x s l) in
      let b = carries_one false s1 s2 a.0 (sign false (codes "=")) behind rest a.2 (assigned_step scope) in
      let c = value_carries scope scope Assigned Statement (scope_seat false scope Assigned s refl (λ text. refl)) (λ x e. rw e refl) value b.0 [] rest b.2 v in
      carries_then false s0 s1 s0 ts a.0 rest a.1 (carries_then false s1 s2 s0 a.0 b.0 rest b.1
      (carries_then false s2 s0 s0 b.0 c.0 rest c.1 (carries_none false s0 c.0 rest c.2)))

  assertion_carries : (scope : Texts) (at : ℕ) (condition : Condition) (ts rest : List Lexeme) → Spans ts (statement_pieces scope (Assert at condition)) rest → IsCondition false (length scope) condition → IsScope scope
      → Carries false (here classes methods scope returns Statement) (here classes methods scope returns Statement) ts rest
  assertion_carries scope at condition ts rest h v s =
      let mark = sign true (codes ";") in
      let s0 = here classes methods scope returns Statement in
      let s1 = here classes methods scope returns (Part AssertionLeft) in
      let s2 = here classes methods scope returns (Behind AssertionRight) in
      let a = carries_one false s0 s1 ts (word_at true (codes "assert") at) (condition_pieces scope condition ++ (mark ∷ [])) rest h (assert_step scope at) in
      let b = spans_split a.0 (condition_pieces scope condition) (mark ∷ []) rest a.2 in
      let c = condition_carries classes methods scope returns false scope AssertionLeft AssertionRight (left_seat scope s) (right_seat scope s) (λ x. refl) condition a.0 b.0 b.1 v in
      let d = carries_one false s2 s0 b.0 mark [] rest b.2
      (λ told x f.
      let q : is_sign true (codes ";") x ≡ true = fits_is Sign true (codes ";") x mark f in
      end_step classes methods scope returns true false scope AssertionRight (right_seat scope s) (codes ";") Statement told x f refl refl (rw q refl)) in
      carries_then false s0 s1 s0 ts a.0 rest a.1 (carries_then false s1 s2 s0 a.0 b.0 rest c
      (carries_then false s2 s0 s0 b.0 d.0 rest d.1 (carries_none false s0 d.0 rest d.2)))

  statement_carries : (scope : Texts) (statement : Stmt) (ts rest : List Lexeme) → Spans ts (statement_pieces scope statement) rest → IsStatement scope statement → IsScope scope
      → Carries false (here classes methods scope returns Statement) (here classes methods (scope_after scope statement) returns Statement) ts rest
  statement_carries scope (Local name value) ts rest h v s = local_carries scope name value ts rest h v.0 v.1 s
  statement_carries scope (Assign slot value) ts rest h v s = assignment_carries scope slot value ts rest h v.0 v.1 s
  statement_carries scope (Assert at condition) ts rest h v s = assertion_carries scope at condition ts rest h v s

  -- ---- bodies

  scope_next : (scope : Texts) (statement : Stmt) → IsStatement scope statement → IsScope scope → IsScope (scope_after scope statement)
  scope_next scope (Local name value) v s = scope_push scope name s v.0
  scope_next scope (Assign slot value) v s = s
  scope_next scope (Assert at condition) v s = s

  pub body_carries : (scope : Texts) (body : List Stmt) (ts rest : List Lexeme) → Spans ts (body_pieces scope body) rest → IsBody scope body → IsScope scope
      → Carries false (here classes methods scope returns Statement) (here classes methods (scope_at_end scope body) returns Statement) ts rest
  body_carries scope [] ts rest h v s = carries_none false (here classes methods scope returns Statement) ts rest h
  body_carries scope (statement ∷ body) ts rest h v s =
      let next = scope_after scope statement in
      let k = spans_split ts (statement_pieces scope statement) (body_pieces next body) rest h in
      carries_then false (here classes methods scope returns Statement) (here classes methods next returns Statement) (here classes methods (scope_at_end scope (statement ∷ body)) returns Statement) ts k.0 rest
      (statement_carries scope statement ts k.0 k.1 v.0 s) (body_carries next body k.0 rest k.2 v.1 (scope_next scope statement v.0 s))

-- ---- the end of a body

module _ (classes methods scope : Texts) (s : IsScope scope) where
  return_step : (exit : ℕ) (told : Bool) (x : Lexeme) → Fits x (word_at false (codes "return") exit)
      → step (here classes methods scope true Statement told) x ≡ Some (here classes methods scope true (Part Returned) told)
  return_step exit told x f =
      let int : is_word false (codes "int") x ≡ false = fits_is Word false (codes "int") x (word_at false (codes "return") exit) f in
      let assert : is_word true (codes "assert") x ≡ false = fits_is Word true (codes "assert") x (word_at false (codes "return") exit) f in
      let plain : is_plain x ≡ true = ap (λ (k : TokenKind). same_kind k Word && not x.note) f.kind ∙ ap (λ (b : Bool). not b) f.note in
      let none : slot_in scope x.text ≡ None = ap (slot_in scope) f.text ∙ slot_reserved scope (codes "return") s refl in
      let q : is_word false (codes "return") x ≡ true = fits_is Word false (codes "return") x (word_at false (codes "return") exit) f in
      rw (int, assert, plain, none, q) refl

  brace_step : (exit : ℕ) (told : Bool) (x : Lexeme) → Fits x (sign_at false (codes "}") exit)
      → step (here classes methods scope false Statement told) x ≡ Some (here classes methods scope false Methods told)
  brace_step exit told x f =
      let int : is_word false (codes "int") x ≡ false = fits_is Word false (codes "int") x (sign_at false (codes "}") exit) f in
      let assert : is_word true (codes "assert") x ≡ false = fits_is Word true (codes "assert") x (sign_at false (codes "}") exit) f in
      let plain : is_plain x ≡ false = ap (λ (k : TokenKind). same_kind k Word && not x.note) f.kind in
      let q : is_sign false (codes "}") x ≡ true = fits_is Sign false (codes "}") x (sign_at false (codes "}") exit) f in
      rw (int, assert, plain, q) refl

  closing_step : (told : Bool) (x : Lexeme) → Fits x (sign false (codes "}")) → step (here classes methods scope true Closing told) x ≡ Some (here classes methods scope true Methods told)
  closing_step told x f = let q : is_sign false (codes "}") x ≡ true = fits_is Sign false (codes "}") x (sign false (codes "}")) f in rw q refl

  pub end_carries : (exit : ℕ) (value : Option Sum) (ts rest : List Lexeme) → Spans ts (end_pieces scope exit value) rest → IsValue (length scope) value
      → Carries false (here classes methods scope (is_some_sum value) Statement) (here classes methods scope (is_some_sum value) Methods) ts rest
  end_carries exit (Some value) ts rest h v =
      let brace = sign false (codes "}") ∷ [] in
      let s0 = here classes methods scope true Statement in
      let s1 = here classes methods scope true (Part Returned) in
      let s2 = here classes methods scope true Closing in
      let s3 = here classes methods scope true Methods in
      let a = carries_one false s0 s1 ts (word_at false (codes "return") exit) (sum_pieces false scope value ++ (sign false (codes ";") ∷ brace)) rest h (return_step exit) in
      let b = value_carries classes methods true scope scope Returned Closing (scope_seat false scope Returned s refl (λ text. refl)) (λ x e. rw e refl) value a.0 brace rest a.2 v in
      let c = carries_one false s2 s3 b.0 (sign false (codes "}")) [] rest b.2 closing_step in
      carries_then false s0 s1 s3 ts a.0 rest a.1 (carries_then false s1 s2 s3 a.0 b.0 rest b.1 (carries_then false s2 s3 s3 b.0 c.0 rest c.1 (carries_none false s3 c.0 rest c.2)))
  end_carries exit None ts rest h v =
      let s0 = here classes methods scope false Statement in
      let s1 = here classes methods scope false Methods in
      let a = carries_one false s0 s1 ts (sign_at false (codes "}") exit) [] rest h (brace_step exit) in
      carries_then false s0 s1 s1 ts a.0 rest a.1 (carries_none false s1 a.0 rest a.2)
