-- The recognizer takes every specification that keeps the rules on names.
use Rattle.std.proofs.Common.{◌≡◌, Bool, true, false, List, [], ◌∷◌, ◌++◌, length, refl, ap, Option, Some, None, All, codes}
use Rattle.std.proofs.lemmas.List.Elements.{All-head}
use Rattle.jesc_lexer.specs.declared.token.TokenKind.TheVariants.{Word, Sign}
use Rattle.jesc_ast.specs.Lexemes.{Lexeme}
use Rattle.jesc_first.specs.declared.tree.Condition.{Condition}
use Rattle.jesc_first.specs.declared.tree.Clause.{Clause}
use Rattle.jesc_first.specs.declared.reader.phase.Seat.TheVariants.{DemandLeft, DemandRight, PromiseLeft, PromiseRight}
use Rattle.jesc_first.specs.declared.reader.phase.Phase.{Phase}
use Rattle.jesc_first.specs.declared.reader.phase.Phase.TheVariants.{Methods, Demands, Promises, Part, Behind}
use Rattle.jesc_first.specs.Spelling.{Piece, Fits, word, sign, part_piece, operation_pieces, sum_pieces, comparison_text, condition_pieces, requires_pieces, placed, ensures_pieces}
use Rattle.jesc_first.specs.Names.{IsCondition}
use Rattle.jesc_first.specs.Parsing.{Texts}
use Rattle.jesc_first.specs.Recognizing.{State, is_word, is_sign, in_specification, entered, step, run_on, run}
use Rattle.jesc_first.proofs.CompleteBase.{Spans, spans_split, fits_is}
use Rattle.jesc_first.proofs.CompleteNames.{IsScope, all_tail}
use Rattle.jesc_first.proofs.CompleteClauses.{unplaced, part_unplaced}
use Rattle.jesc_first.proofs.RunBase.{here, Carries, carries_none, carries_then, carries_one}
use Rattle.jesc_first.proofs.RunSums.{IsSeat, demand_seat, promise_seat, end_step, condition_carries}

module _ (classes methods scope : Texts) (returns : Bool) (names : Texts) (s : IsScope names) where
  demand_left : IsSeat true false names scope DemandLeft
  demand_left = demand_seat names scope DemandLeft s refl (λ text. refl)

  demand_right : IsSeat true false names scope DemandRight
  demand_right = demand_seat names scope DemandRight s refl (λ text. refl)

  requires_step : (told : Bool) (x : Lexeme) → Fits x (word true (codes "requires")) → step (here classes methods scope returns Demands told) x ≡ Some (here classes methods scope returns (Part DemandLeft) told)
  requires_step told x f =
      let q : is_word true (codes "requires") x ≡ true = fits_is Word true (codes "requires") x (word true (codes "requires")) f in rw q refl

  pub demands_carry : (demands : List Condition) (ts rest : List Lexeme) → Spans ts (requires_pieces names demands) rest → All (IsCondition false (length names)) demands
      → Carries false (here classes methods scope returns Demands) (here classes methods scope returns Demands) ts rest
  demands_carry [] ts rest h v = carries_none false (here classes methods scope returns Demands) ts rest h
  demands_carry (c ∷ cs) ts rest h v =
      let start = here classes methods scope returns Demands in
      let left = here classes methods scope returns (Part DemandLeft) in
      let right = here classes methods scope returns (Behind DemandRight) in
      let more = requires_pieces names cs in
      let mark = sign true (codes ";") in
      let a = carries_one false start left ts (word true (codes "requires")) (condition_pieces names c ++ (mark ∷ more)) rest h requires_step in
      let b = spans_split a.0 (condition_pieces names c) (mark ∷ more) rest a.2 in
      let condition = condition_carries classes methods scope returns false names DemandLeft DemandRight demand_left demand_right (λ x. refl) c a.0 b.0 b.1
      (All-head (IsCondition false (length names)) c cs v) in
      let d = carries_one false right start b.0 mark more rest b.2
      (λ told x f.
      let q : is_sign true (codes ";") x ≡ true = fits_is Sign true (codes ";") x mark f in
      end_step classes methods scope returns true false names DemandRight demand_right (codes ";") Demands told x f refl refl (rw q refl)) in
      carries_then false start left start ts a.0 rest a.1
      (carries_then false left right start a.0 b.0 rest condition
      (carries_then false right start start b.0 d.0 rest d.1
      (demands_carry cs d.0 rest d.2 (all_tail (IsCondition false (length names)) c cs v))))

  promise_left : (outcome : Bool) → IsSeat true outcome names scope PromiseLeft
  promise_left outcome = promise_seat outcome names scope PromiseLeft s refl (λ text. refl) refl

  promise_right : (outcome : Bool) → IsSeat true outcome names scope PromiseRight
  promise_right outcome = promise_seat outcome names scope PromiseRight s refl (λ text. refl) refl

  ensures_step : (told : Bool) (x : Lexeme) → Fits x (word true (codes "ensures")) → step (here classes methods scope returns Promises told) x ≡ Some (here classes methods scope returns (Part PromiseLeft) told)
  ensures_step told x f =
      let q : is_word true (codes "ensures") x ≡ true = fits_is Word true (codes "ensures") x (word true (codes "ensures")) f in rw q refl

  pub promises_carry : (outcome : Bool) (promises : List Clause) (ts rest : List Lexeme) → Spans ts (ensures_pieces names promises) rest
      → All (λ clause. IsCondition outcome (length names) clause.condition) promises
      → Carries outcome (here classes methods scope returns Promises) (here classes methods scope returns Promises) ts rest
  promises_carry outcome [] ts rest h v = carries_none outcome (here classes methods scope returns Promises) ts rest h
  promises_carry outcome (c ∷ cs) ts rest h v =
      let start = here classes methods scope returns Promises in
      let left = here classes methods scope returns (Part PromiseLeft) in
      let right = here classes methods scope returns (Behind PromiseRight) in
      let more = ensures_pieces names cs in
      let mark = sign true (codes ";") in
      let a = carries_one outcome start left ts (word true (codes "ensures")) (placed c.at (condition_pieces names c.condition) ++ (mark ∷ more)) rest h ensures_step in
      let u = unplaced c.at (part_piece true names c.condition.left.first)
      (operation_pieces true names c.condition.left.rest ++ (sign true (comparison_text c.condition.comparison) ∷ sum_pieces true names c.condition.right))
      (mark ∷ more) a.0 rest (part_unplaced true names c.condition.left.first) a.2 in
      let b = spans_split a.0 (condition_pieces names c.condition) (mark ∷ more) rest u.0 in
      let condition = condition_carries classes methods scope returns outcome names PromiseLeft PromiseRight (promise_left outcome) (promise_right outcome) (λ x. refl) c.condition a.0 b.0 b.1
      (All-head (λ clause. IsCondition outcome (length names) clause.condition) c cs v) in
      let d = carries_one outcome right start b.0 mark more rest b.2
      (λ told x f.
      let q : is_sign true (codes ";") x ≡ true = fits_is Sign true (codes ";") x mark f in
      end_step classes methods scope returns true outcome names PromiseRight (promise_right outcome) (codes ";") Promises told x f refl refl (rw q refl)) in
      carries_then outcome start left start ts a.0 rest a.1
      (carries_then outcome left right start a.0 b.0 rest condition
      (carries_then outcome right start start b.0 d.0 rest d.1
      (promises_carry outcome cs d.0 rest d.2 (all_tail (λ clause. IsCondition outcome (length names) clause.condition) c cs v))))

-- ---- from one phase of a specification to another

-- where the phase behind a lexeme is the same, the state is
same_entered : (classes methods scope : Texts) (returns told : Bool) (p q : Phase) (o : Option Phase) → entered (here classes methods scope returns p told) o ≡ entered (here classes methods scope returns q told) o
same_entered classes methods scope returns told p q None = refl
same_entered classes methods scope returns told p q (Some phase) = refl

module _ (classes methods scope : Texts) (returns told : Bool) where
  -- no brace comes next
  no_brace : (x : Lexeme) → is_sign false (codes "}") x ≡ false → step (here classes methods scope returns Methods told) x ≡ step (here classes methods scope returns Demands told) x
  no_brace x e = rw e (same_entered classes methods scope returns told Methods Demands (in_specification true x))

  method_begins : (x : Lexeme) (xs : List Lexeme) → is_sign false (codes "}") x ≡ false
      → run (here classes methods scope returns Methods told) (x ∷ xs) ≡ run (here classes methods scope returns Demands told) (x ∷ xs)
  method_begins x xs e = ap (λ (o : Option State). run_on o xs) (no_brace x e)

  pub to_demands : (names : Texts) (demands : List Condition) (promises : List Clause) (qs : List Piece) (ts rest : List Lexeme)
      → Spans ts (requires_pieces names demands ++ (ensures_pieces names promises ++ (word false (codes "static") ∷ qs))) rest
      → run (here classes methods scope returns Methods told) ts ≡ run (here classes methods scope returns Demands told) ts
  to_demands names [] [] qs [] rest h = absurd h
  to_demands names [] (c ∷ cs) qs [] rest h = absurd h
  to_demands names (d ∷ ds) promises qs [] rest h = absurd h
  to_demands names [] [] qs (t ∷ ts) rest h = method_begins t ts (fits_is Sign false (codes "}") t (word false (codes "static")) h.0)
  to_demands names [] (c ∷ cs) qs (t ∷ ts) rest h = method_begins t ts (fits_is Sign false (codes "}") t (word true (codes "ensures")) h.0)
  to_demands names (d ∷ ds) promises qs (t ∷ ts) rest h = method_begins t ts (fits_is Sign false (codes "}") t (word true (codes "requires")) h.0)

  -- no demand comes next
  no_demand : (x : Lexeme) → is_word true (codes "requires") x ≡ false → step (here classes methods scope returns Demands told) x ≡ step (here classes methods scope returns Promises told) x
  no_demand x e = rw e (same_entered classes methods scope returns told Demands Promises (in_specification false x))

  demands_end : (x : Lexeme) (xs : List Lexeme) → is_word true (codes "requires") x ≡ false
      → run (here classes methods scope returns Demands told) (x ∷ xs) ≡ run (here classes methods scope returns Promises told) (x ∷ xs)
  demands_end x xs e = ap (λ (o : Option State). run_on o xs) (no_demand x e)

  pub to_promises : (names : Texts) (promises : List Clause) (qs : List Piece) (ts rest : List Lexeme)
      → Spans ts (ensures_pieces names promises ++ (word false (codes "static") ∷ qs)) rest
      → run (here classes methods scope returns Demands told) ts ≡ run (here classes methods scope returns Promises told) ts
  to_promises names [] qs [] rest h = absurd h
  to_promises names (c ∷ cs) qs [] rest h = absurd h
  to_promises names [] qs (t ∷ ts) rest h = demands_end t ts (fits_is Word true (codes "requires") t (word false (codes "static")) h.0)
  to_promises names (c ∷ cs) qs (t ∷ ts) rest h = demands_end t ts (fits_is Word true (codes "requires") t (word true (codes "ensures")) h.0)
